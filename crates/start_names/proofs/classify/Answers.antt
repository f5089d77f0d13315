-- `start_names::classify` meets its contract.
use Rattle.start_names.specs.Classes.{too_few-words, classifying_begins, classifying_own, classifying_done}
use native.Mathlib.Omega.{arith}
use Rattle.start_names.proofs.classify.Goals as goal

pub returns-then-classes-k : goal.returns-then-classes-k
returns-then-classes-k c = too_few-words (omega arith)

pub loop-j-init : goal.loop-j-init
loop-j-init c = classifying_begins (omega arith)

pub loop-j-preserved : goal.loop-j-preserved
loop-j-preserved c = classifying_own c.loop-j.invariant _ (omega arith) c.declaring-own.ensures c.class_of-class.ensures c.store.ensures

pub returns : goal.returns
returns c = classifying_done c.loop-j.invariant (omega arith)
