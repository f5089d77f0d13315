-- `start_attributes::first_in` meets its contract.
use mathlib.Core.Path.{◌≡◌, ◌∙◌}
use lib.ListN.{length}
use borrow.Author.Tests.{eq-eqb, ne_eqb}
use Rattle.copy.specs.Scan.{sought_begins, sought_stop, sought_more, sought_done}
use Rattle.start_attributes.specs.First.{first_in}
use native.Mathlib.Omega.{arith}
use Rattle.start_attributes.proofs.first_in.Goals as goal

pub loop-i-init : goal.loop-i-init
loop-i-init c = sought_begins

pub returns-then-within-i : goal.returns-then-within-i
unfolding first_in
returns-then-within-i c = sought_stop c.loop-i.invariant (omega arith) (eq-eqb _ _ c.if-within-i.true) ∙ rw (c.piece-within.ensures, c.from-word.ensures)

pub loop-i-preserved : goal.loop-i-preserved
loop-i-preserved c = sought_more c.loop-i.invariant (omega arith) (ne_eqb _ _ c.if-within-i.false)

pub returns : goal.returns
unfolding first_in
returns c =
    let end : length c.piece-within.result.now ≡ c.loop-i.i = omega arith in
    end ∙ (sought_done c.loop-i.invariant (omega arith) ∙ rw (c.piece-within.ensures, c.from-word.ensures))
