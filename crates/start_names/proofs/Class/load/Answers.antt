-- `start_names::Class::load` meets its contract.
use mathlib.Core.Path.{◌∙◌}
use Rattle.start_names.specs.Classes.{class_none, class_loaded}
use native.Mathlib.Omega.{arith}
use Rattle.start_names.proofs.Class.load.Goals as goal

pub returns-then-classes-j : goal.returns-then-classes-j
returns-then-classes-j c = class_none _ _ (omega arith)

pub returns : goal.returns
returns c = c.from.ensures ∙ class_loaded _ _ (omega arith)
