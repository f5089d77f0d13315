-- `are_halves_printable`: where both are plain, all bytes are.
use lib.Seq.{length-take-le}
use Rattle.spec.specs.Bytes.{every}
use Rattle.spec.proofs.Booleans.{and_left, and_right}
use Rattle.utils.specs.Plain.{printable}
use Rattle.utils.proofs.Walking.{to_end, walked_begins}
use Rattle.utils.proofs.Plain.{every-block, every-last}
use mathlib.Core.Path.{sym, ◌∙◌}
use native.Mathlib.Omega.{arith}
use borrow.Author.Rules.{rules}
use Rattle.utils.proofs.are_halves_printable.Goals as goal

pub slice_bounds-is_printable_block-end : goal.slice_bounds-is_printable_block-end
slice_bounds-is_printable_block-end c = sym (length-take-le _ _ (search rules))

pub returns : goal.returns
returns c = λ both.
    let first = every-block printable c.args.n (walked_begins (every printable) c.args.s.now) (search rules) (sym c.is_printable_block.ensures ∙ and_left c.is_printable_block.result _ both) in
    every-last printable c.args.n first (omega arith) (rw to_end at (sym c.is_printable_block-2.ensures ∙ and_right c.is_printable_block.result _ both))
