-- `state::is_root_in` meets its contract. A law of specs/ for each return, with the tests that led there.
use Rattle.state.specs.Tests.{is_root, wrapper_kind, in_wrapper_lem}
use mathlib.Core.Path.{◌∙◌}
use native.Mathlib.Omega.{arith}
use Rattle.state.proofs.is_root_in.Goals as goal

pub returns-then-n-eq0 : goal.returns-then-n-eq0
returns-then-n-eq0 c = is_root _ _ c.if-n-eq0.true

pub returns : goal.returns
returns c = c.eq.ensures ∙ wrapper_kind _ ∙ in_wrapper_lem _ _ c.if-n-eq0.false (omega arith) c.load-f.ensures
