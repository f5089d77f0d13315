-- `copy::skip_blocks` meets its contract.
use Rattle.std.proofs.Common.{◌≡◌, false, ◌+◌, ◌-◌, take, drop, sym, ◌∙◌}
use Rattle.spec.specs.Bytes.{among}
use Rattle.copy.specs.Copy.{part, part_of}
use Rattle.copy.specs.Scan.{sought_begins, sought_block}
use native.Mathlib.Omega.{arith}
use Rattle.copy.proofs.skip_blocks.Goals as goal

pub loop-i-init : goal.loop-i-init
loop-i-init c = sought_begins

pub loop-i-preserved : goal.loop-i-preserved
unfolding part
loop-i-preserved c =
    let i = c.loop-i.i in
    let none : among (take (i + 8 - i) (drop i c.args.s.now)) c.args.b ≡ false = sym c.block_has.ensures ∙ c.if-block_has.false in
    sought_block _ 8 c.loop-i.invariant (omega arith) (rw part_of at none)
