-- `state_stack::pop` meets its contract. A law of specs/ for each return, with the tests that led there.
use Rattle.std.proofs.Common.{◌≡◌, ◌-◌}
use Rattle.state_stack.specs.Calls.{pop_inside, pop_empty, pop_done}
use native.Mathlib.Omega.{arith}
use Rattle.state_stack.proofs.pop.Goals as goal

pub returns-then-r-ne0 : goal.returns-then-r-ne0
returns-then-r-ne0 c = pop_inside c.if-r-ne0.true

pub returns-in_err-depth : goal.returns-in_err-depth
returns-in_err-depth c = rw c.from_residual.ensures (pop_empty (omega arith) (omega arith))

pub returns : goal.returns
returns c =
    let e : c.in_ok-depth.depth ≡ c.args.r.counts.depth - 1 = omega arith in
    rw (c.of.ensures, c.saturating_sub.ensures, c.noted_of.ensures.0, c.wide-first.ensures.0, c.wide-top.ensures.0, e) (pop_done (omega (arith, c.if-r-ne0.false)) (omega arith) (rw e at c.load-f.ensures))
