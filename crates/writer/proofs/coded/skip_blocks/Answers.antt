-- `coded::skip_blocks` meets its contract.
use Rattle.writer.specs.Coded.{plain-begins, plain-block, plain-last, plain_less}
use native.Mathlib.Omega.{arith}
use Rattle.writer.proofs.coded.skip_blocks.Goals as goal

pub returns-then-s-lt-BLOCK : goal.returns-then-s-lt-BLOCK
returns-then-s-lt-BLOCK g c = plain-begins

pub loop-last-init : goal.loop-last-init
loop-last-init g c = (plain-begins, omega arith)

pub returns-then-from-last : goal.returns-then-from-last
returns-then-from-last g c = plain-last c.loop-last.invariant.0 c.has_marked.ensures c.loop-last-test.true (omega arith)

pub loop-last-preserved : goal.loop-last-preserved
loop-last-preserved g c = (plain_less (plain-block c.loop-last.invariant.0 (omega arith) c.has_marked.ensures c.loop-last-test.true (omega arith)) (omega arith), omega arith)

pub returns : goal.returns
returns g c = c.loop-last.invariant.0
