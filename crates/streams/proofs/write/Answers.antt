-- `streams::write` meets its contract.
use native.Mathlib.Omega.{arith}
use Rattle.streams.specs.Deciding.{tries_left, bytes_at_most}
use Rattle.streams.proofs.write.Goals as goal

pub loop-moved-init : goal.loop-moved-init
loop-moved-init g c = c.try_write-moved.ensures

pub overflow_sub-tries : goal.overflow_sub-tries
overflow_sub-tries g c = tries_left _ c.waits.ensures c.loop-moved-test.true

pub loop-moved-smaller : goal.loop-moved-smaller
loop-moved-smaller g c = omega (arith, tries_left _ c.waits.ensures c.loop-moved-test.true)

pub loop-moved-preserved : goal.loop-moved-preserved
loop-moved-preserved g c = c.try_write-moved-in-loop-moved.ensures

pub returns : goal.returns
returns g c = bytes_at_most _ c.bytes.ensures c.loop-moved.invariant
