-- `resolve::path::is_simple` meets its contract.
use mathlib.Core.Path.{sym, ◌∙◌}
use mathlib.Core.Bool.{false≢true}
use borrow.Author.Tests.{not-true, leb-true}
use Rattle.resolve.proofs.path.is_simple.Goals as goal

pub returns-then-out-gt0 : goal.returns-then-out-gt0
returns-then-out-gt0 c = λ e. absurd (false≢true e)

pub returns-then-not-room_for : goal.returns-then-not-room_for
returns-then-not-room_for c = λ e. absurd (false≢true e)

pub returns : goal.returns
returns c = λ e. record { here = c.if-out-gt0.false; fits = leb-true _ _ (sym c.room_for.ensures ∙ c.if-not-room_for.false); free = c.starts_dot.ensures (not-true _ e) }
