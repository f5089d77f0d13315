-- `is_text`. The invariant: the characters passed are XML's, so the rest decides.
use mathlib.Core.Path.{sym, ◌∙◌}
use lib.ListN.{length-drop}
use Rattle.spec.specs.XmlNames.{is_char}
use Rattle.utils.proofs.Walking.{to_end, every_by, walked_within, walked_fails, walked_more, walked_on, walked_passes}
use Rattle.utils.proofs.Plain.{plain-text, walked_plain}
use native.Mathlib.Omega.{arith}
use Rattle.utils.proofs.is_text.Goals as goal

pub loop-i-init : goal.loop-i-init
loop-i-init c = c.skip_plain-i.ensures

pub loop-i-preserved-then-is_plain : goal.loop-i-preserved-then-is_plain
loop-i-preserved-then-is_plain c = walked_plain (every_by is_char) c.loop-i.invariant (omega arith) (plain-text _ (sym c.is_plain.ensures ∙ c.if-is_plain.true))

pub text_char-requires : goal.text_char-requires
text_char-requires c = rw to_end (rw length-drop (omega arith))

pub returns-in_default : goal.returns-in_default
returns-in_default c = walked_fails c.loop-i.invariant (rw to_end at c.in_default.ensures)

pub overflow_add-i-else-is_plain : goal.overflow_add-i-else-is_plain
overflow_add-i-else-is_plain c = omega (arith, walked_within c.loop-i.invariant (rw to_end at c.in-Some.ensures))

pub slice_bounds-skip_behind-count : goal.slice_bounds-skip_behind-count
slice_bounds-skip_behind-count c = omega (arith, walked_within c.loop-i.invariant (rw to_end at c.in-Some.ensures))

pub slice_bounds-skip_behind-start : goal.slice_bounds-skip_behind-start
slice_bounds-skip_behind-start c = omega (arith, walked_within c.loop-i.invariant (rw to_end at c.in-Some.ensures))

pub overflow_add-i-else-is_plain-2 : goal.overflow_add-i-else-is_plain-2
overflow_add-i-else-is_plain-2 c = omega (arith, (walked_on (walked_more c.loop-i.invariant (rw to_end at c.in-Some.ensures)) (rw to_end at c.skip_behind-i.ensures)).within)

pub loop-i-smaller : goal.loop-i-smaller
loop-i-smaller c = omega (arith, (rw to_end at c.in-Some.ensures).some, (walked_on (walked_more c.loop-i.invariant (rw to_end at c.in-Some.ensures)) (rw to_end at c.skip_behind-i.ensures)).within)

pub loop-i-preserved : goal.loop-i-preserved
loop-i-preserved c = walked_on (walked_more c.loop-i.invariant (rw to_end at c.in-Some.ensures)) (rw to_end at c.skip_behind-i.ensures)

pub returns : goal.returns
returns c = walked_passes c.loop-i.invariant (every_by is_char) (omega arith)
