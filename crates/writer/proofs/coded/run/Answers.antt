-- `coded::run` meets its contract.
use Rattle.writer.specs.Coded.{plain_more}
use mathlib.Core.Path.{◌≡◌}
use lib.ListN.{length}
use native.Mathlib.Omega.{arith}
use Rattle.writer.proofs.coded.run.Goals as goal

pub loop-i-init : goal.loop-i-init
loop-i-init g c = c.skip_blocks-i.ensures

pub returns-then-is_marked : goal.returns-then-is_marked
returns-then-is_marked g c = c.loop-i.invariant

pub loop-i-preserved : goal.loop-i-preserved
loop-i-preserved g c = plain_more c.loop-i.invariant (omega arith) (c.is_marked.ensures c.if-is_marked.false)

pub returns : goal.returns
returns g c = let e : length c.args.s.now ≡ c.loop-i.i = omega (arith, c.loop-i.invariant.upto) in rw e c.loop-i.invariant
