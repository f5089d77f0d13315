-- `start_form::own::own_rows` meets its contract.
--
use Rattle.start_names.specs.Declarations.{told}
use Rattle.start_form.specs.OwnLaws.{owning_begins, owning_other, owning_more, owning_done}
use native.Mathlib.Omega.{arith}
use Rattle.start_form.proofs.own.own_rows.Goals as goal

pub loop-j-init : goal.loop-j-init
loop-j-init c = owning_begins c.requires.1

pub own_row-requires : goal.own_row-requires
own_row-requires c =
    c.requires.0.at _ (omega arith)

pub loop-j-preserved-then-is_declaration : goal.loop-j-preserved-then-is_declaration
loop-j-preserved-then-is_declaration c =
    owning_more c.loop-j.invariant (omega arith)
    (told _ _ _ c.name_of.ensures
    c.is_declaration.ensures
    c.if-is_declaration.true) c.own_row.ensures
    c.store.ensures

pub loop-j-preserved : goal.loop-j-preserved
loop-j-preserved c =
    owning_other c.loop-j.invariant (omega arith) (told _ _ _
    c.name_of.ensures c.is_declaration.ensures c.if-is_declaration.false)

pub returns : goal.returns
returns c = owning_done c.loop-j.invariant (omega arith)
