-- `replay::line_after` meets its contract. The invariant: the place looked at is not before the first one; the measure is what is left.
use mathlib.Core.Path.{refl}
use mathlib.Core.Logic.{inl, inr}
use native.Mathlib.Omega.{arith}
use Rattle.test_reader.proofs.replay.line_after.Goals as goal

pub returns-then-s-i-eq10 : goal.returns-then-s-i-eq10
returns-then-s-i-eq10 c = record { within = omega arith; onward = inr (omega arith) }

pub returns : goal.returns
returns c = record { within = omega arith; onward = inl refl }
