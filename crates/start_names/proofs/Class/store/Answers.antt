-- `start_names::Class::store` meets its contract.
use lib.ListN.{length-set}
use Rattle.start_names.specs.Classes.{class_refused, class_stored}
use native.Mathlib.Omega.{arith}
use Rattle.start_names.proofs.Class.store.Goals as goal

pub returns-then-classes-j : goal.returns-then-classes-j
returns-then-classes-j c = class_refused (omega arith)

pub bounds-classes-from-2 : goal.bounds-classes-from-2
bounds-classes-from-2 c = simp length-set (omega arith)

pub bounds-classes-from-3 : goal.bounds-classes-from-3
bounds-classes-from-3 c = simp length-set (omega arith)

pub returns : goal.returns
returns c = class_stored (omega arith) c.from-words.ensures
