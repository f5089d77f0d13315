-- `replay::go_on` meets its contract. The invariant: the way leads to where the definitions' run comes to, and what is lent keeps its length. The
-- measure is how many turns are left at most.
use mathlib.Core.Path.{ap}
use borrow.Author.Tests.{not-true, not-false}
use borrow.Author.Rules.{rules}
use Rattle.test_reader.specs.declared.replay.Way.{Way}
use Rattle.test_reader.specs.Ways.{going_first, going_on, going_less, going_ended}
use Rattle.test_reader.proofs.replay.go_on.Goals as goal

pub loop-way-init : goal.loop-way-init
loop-way-init c = going_first _ c.of-way.ensures

pub loop-way-smaller : goal.loop-way-smaller
loop-way-smaller c = going_less c.loop-way.invariant (not-true _ c.loop-way-test.true) c.turn-way.ensures

pub loop-way-preserved : goal.loop-way-preserved
loop-way-preserved c = going_on c.loop-way.invariant (not-true _ c.loop-way-test.true) c.turn-way.ensures (search rules) (search rules) (search rules)

pub returns : goal.returns
returns c = going_ended c.loop-way.invariant (ap (λ (w : Way). w.state) c.of-way.ensures) (not-false _ c.loop-way-test.false) c.ended.ensures
