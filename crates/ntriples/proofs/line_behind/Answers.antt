-- `ntriples::line_behind` meets its contract: a line into the tail, seen from the whole.
use Rattle.writer.specs.Put.{put_tail}
use native.Mathlib.Omega.{arith}
use Rattle.ntriples.proofs.line_behind.Goals as goal

pub returns-then-out-at : goal.returns-then-out-at
returns-then-out-at c = c.line.ensures

pub shape_of-out : goal.shape_of-out
shape_of-out c = (put_tail {d = c.args.out.now} (omega arith) (omega arith) c.line-n.ensures c.counted.ensures).same

pub returns : goal.returns
returns c = put_tail (omega arith) (omega arith) c.line-n.ensures c.counted.ensures
