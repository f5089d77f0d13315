-- `end_tag::statements::cells` meets its contract. The loop's invariant: what is written, and the cells of the children that are left, are the cells of all.
use Rattle.state.specs.Meaning.{count}
use Rattle.end_tag.specs.Cells.{Celled}
use Rattle.end_tag.proofs.statements.cells.Given as goal

abbrev pub invariant-loop-left : goal.invariant-loop-left
invariant-loop-left l = Celled l.work l.labels l.on l.initial.out l.out l.initial.e (count l.fn.f) l.to l.e l.left l.n
