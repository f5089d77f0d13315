-- `start_form::own::own_rows` meets its contract.
-- The loop's invariant: the rows so far bind what the attributes from `j` on declare.
use Rattle.start_form.specs.OwnLaws.{Owning}
use Rattle.start_form.proofs.own.own_rows.Given as goal

abbrev pub invariant-loop-j : goal.invariant-loop-j
invariant-loop-j l = Owning l.scratch l.spans l.k l.initial.rows l.rows l.d l.j
