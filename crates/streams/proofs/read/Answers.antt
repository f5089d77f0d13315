-- `streams::read` meets its contract.
use mathlib.Core.Path.{◌≡◌, refl, ◌∙◌}
use native.Mathlib.Omega.{arith}
use lib.ListN.{length}
use borrow.Author.Rules.{rules}
use Rattle.streams.specs.Deciding.{tries_left, got_fills}
use Rattle.streams.proofs.read.Goals as goal

pub loop-moved-init : goal.loop-moved-init
loop-moved-init g c = (let e : length c.try_read-moved.new.into ≡ length c.args.into.now = search rules in rw e c.try_read-moved.ensures, refl)

pub overflow_sub-tries : goal.overflow_sub-tries
overflow_sub-tries g c = tries_left _ c.waits.ensures c.loop-moved-test.true

pub loop-moved-smaller : goal.loop-moved-smaller
loop-moved-smaller g c = omega (arith, tries_left _ c.waits.ensures c.loop-moved-test.true)

pub loop-moved-preserved : goal.loop-moved-preserved
loop-moved-preserved g c = (let e : length c.loop-moved.into ≡ length c.try_read-moved.new.into = c.loop-moved.invariant.1 in rw (← e) c.try_read-moved-in-loop-moved.ensures, let e : length c.try_read-moved-in-loop-moved.new.into ≡ length c.loop-moved.into = search rules in e ∙ c.loop-moved.invariant.1)

pub shape_of-into : goal.shape_of-into
shape_of-into g c = let e : length c.try_read-moved.new.into ≡ length c.args.into.now = search rules in c.loop-moved.invariant.1 ∙ e

pub returns : goal.returns
returns g c = let e : length c.try_read-moved.new.into ≡ length c.args.into.now = search rules in rw (← e) (got_fills _ _ c.of.ensures c.loop-moved.invariant.0)
