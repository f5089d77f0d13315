-- `start_form::own::classify` meets its contract.
use mathlib.Core.Path.{refl}
use Rattle.start_names.specs.Classes.{classifying_begins, classifying_more, classifying_done}
use native.Mathlib.Omega.{arith}
use Rattle.start_form.proofs.own.classify.Goals as goal

pub loop-j-init : goal.loop-j-init
loop-j-init c = classifying_begins c.requires.1

pub class_of-class-requires : goal.class_of-class-requires
class_of-class-requires c = c.requires.0

pub loop-j-preserved : goal.loop-j-preserved
loop-j-preserved c =
    classifying_more c.loop-j.invariant (omega arith)
    c.class_of-class.ensures c.store.ensures

pub returns : goal.returns
returns c =
    let z = classifying_done c.loop-j.invariant (omega arith) in record { same = z.same; are = z.are refl }
