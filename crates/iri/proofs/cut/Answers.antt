-- `iri::cut` meets its contract. It is cut where the mark was found.
use mathlib.Core.Path.{sym}
use native.Mathlib.Numerals.{add-one}
use native.Mathlib.Omega.{arith}
use lib.Seq.{length-take-le}
use Rattle.utils.proofs.Walking.{to_end}
use Rattle.iri.proofs.Finding.{found_within}
use Rattle.iri.proofs.Languages.{cut-take, cut-mark, cut_end}
use Rattle.iri.proofs.cut.Goals as goal

pub slice_bounds-result-end : goal.slice_bounds-result-end
slice_bounds-result-end c = sym (length-take-le _ _ (found_within _ _ c.find-n.ensures))

pub overflow_add-result : goal.overflow_add-result
overflow_add-result c = record { fits = omega (arith, found_within _ _ c.find-n.ensures) }

pub slice_bounds-result-count : goal.slice_bounds-result-count
slice_bounds-result-count c = omega (arith, found_within _ _ c.find-n.ensures)

pub slice_bounds-result-start : goal.slice_bounds-result-start
slice_bounds-result-start c = omega (arith, found_within _ _ c.find-n.ensures)

pub returns-then-n-s : goal.returns-then-n-s
returns-then-n-s c = cut_end _ _ c.find-n.ensures (omega arith)

pub returns-else-n-s : goal.returns-else-n-s
returns-else-n-s c = record { front = cut-take _ _ c.find-n.ensures; back = rw (to_end, add-one) (cut-mark _ _ c.find-n.ensures (omega (arith, found_within _ _ c.find-n.ensures))) }
