-- `state_inner::name` meets its contract. A law of specs/ for each return, with the tests that led there.
use Rattle.state_inner.specs.Calls.{name-inside, name_none, name_top}
use native.Mathlib.Omega.{arith}
use Rattle.state_inner.proofs.name.Goals as goal

pub returns-then-r-ne0 : goal.returns-then-r-ne0
returns-then-r-ne0 c = name-inside _ _ _ c.if-r-ne0.true c.load-row.ensures c.wide.ensures.0 c.wide-then-r-ne0.ensures.0

pub returns-then-r-eq0 : goal.returns-then-r-eq0
returns-then-r-eq0 c = name_none _ _ _ (omega arith) c.if-r-eq0.true

pub returns : goal.returns
returns c = name_top _ _ _ (omega arith) c.if-r-eq0.false c.load-f.ensures c.wide-2.ensures.0 c.wide-3.ensures.0 c.between.ensures
