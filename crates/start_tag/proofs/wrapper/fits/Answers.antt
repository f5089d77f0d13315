-- `start_tag::wrapper::fits` meets its contract: what is held leaves no room, or the bytes decide.
use mathlib.Core.Path.{ap}
use lib.ListN.{length}
use Rattle.spec.specs.Limits.{most_attributes}
use Rattle.start_element.specs.Sizes.{few-declared}
use Rattle.copy.specs.Copy.{part_short}
use Rattle.start_tag.specs.Wrapper.{held_much, held-left}
use native.Mathlib.Omega.{arith}
use Rattle.start_tag.proofs.wrapper.fits.Goals as goal

pub returns-then-held-gt-MOST_HELD : goal.returns-then-held-gt-MOST_HELD
returns-then-held-gt-MOST_HELD c = held_much _ _ _ _ _ _ c.saturating_sub-held.ensures (omega arith)

pub overflow_add-n : goal.overflow_add-n
unfolding most_attributes
overflow_add-n c = omega (arith, ap length c.piece.ensures, part_short c.args.scratch.now 0 c.args.m, few-declared c.args.scratch.now c.requires.0 c.args.spans.now 0 c.args.k, c.declared_size.ensures)

pub returns : goal.returns
returns c = held-left _ _ _ _ _ _ c.saturating_sub-held.ensures (omega arith) c.piece.ensures c.declared_size.ensures
