-- `start_form::marks::byte_from_end` meets its contract: in the last part, in the first, or in none.
use Rattle.start_form.specs.Marks.{byte_back, byte_front, byte_none}
use native.Mathlib.Omega.{arith}
use Rattle.start_form.proofs.marks.byte_from_end.Goals as goal

pub returns-then-i-back : goal.returns-then-i-back
returns-then-i-back c = byte_back c.args.front.now c.args.back.now c.args.i (omega arith)

pub returns-then-more-front : goal.returns-then-more-front
returns-then-more-front c = byte_front c.args.front.now c.args.back.now c.args.i (omega arith) (omega arith)

pub returns : goal.returns
returns c = byte_none c.args.front.now c.args.back.now c.args.i (omega arith) (omega arith)
