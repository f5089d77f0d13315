-- `start_names::Class::same` meets its contract: the words of both are compared.
use Rattle.start_names.specs.Classes.{one_class}
use mathlib.Core.Bool.{false≢true}
use native.Mathlib.Omega.{arith}
use Rattle.start_names.proofs.Class.same.Goals as goal

pub returns-then-classes-j : goal.returns-then-classes-j
returns-then-classes-j c = λ h. absurd (false≢true h)

pub returns-then-classes-i : goal.returns-then-classes-i
returns-then-classes-i c = λ h. absurd (false≢true h)

pub returns : goal.returns
returns c = λ h. one_class _ _ _ (omega arith) (omega arith) h
