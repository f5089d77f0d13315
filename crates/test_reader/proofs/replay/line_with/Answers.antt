-- `replay::line_with` meets its contract. The invariant: the line looked at is not before the first one; the measure is what is left.
use mathlib.Core.Path.{refl}
use mathlib.Core.Logic.{inl, inr, ⊎_elim}
use native.Mathlib.Omega.{arith}
use Rattle.test_reader.proofs.replay.line_with.Goals as goal

pub returns-then-s-i : goal.returns-then-s-i
returns-then-s-i c = record { within = omega arith; onward = inr (omega arith) }

pub loop-i-smaller : goal.loop-i-smaller
loop-i-smaller c = ⊎_elim (λ e. omega arith) (λ l. omega arith) c.line_after-i.ensures.onward

pub loop-i-preserved : goal.loop-i-preserved
loop-i-preserved c = ⊎_elim (λ e. omega arith) (λ l. omega arith) c.line_after-i.ensures.onward

pub returns : goal.returns
returns c = record { within = omega arith; onward = inl refl }
