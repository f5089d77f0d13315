-- `pyx::first_event` meets its contract.
use mathlib.Core.Path.{refl, sym, ◌∙◌}
use native.Mathlib.Omega.{arith}
use Rattle.pyx.proofs.Reach.{reaching_begins, line-within, more, reaching_in_line, reaching_line_end, reaching_stops, reaching_more, cuts_nothing}
use Rattle.pyx.proofs.first_event.Goals.{then-seen-gt-MOST_BYTES, else-seen-gt-MOST_BYTES}
use Rattle.pyx.proofs.first_event.Goals as goal

pub returns-then-input-eq0 : goal.returns-then-input-eq0
returns-then-input-eq0 c = cuts_nothing _ _ c.if-input-eq0.true

pub loop-at-init : goal.loop-at-init
loop-at-init c = elim c.if-seen-gt-MOST_BYTES.branch [
  | then-seen-gt-MOST_BYTES w ↦ reaching_begins refl (omega arith) (omega arith) (omega arith) (λ h. omega arith)
  | else-seen-gt-MOST_BYTES w ↦ reaching_begins refl (omega arith) (omega arith) (omega arith) (λ h. omega arith)
]

pub overflow_sub-seen : goal.overflow_sub-seen
overflow_sub-seen c = omega arith

pub returns-then-line-seen : goal.returns-then-line-seen
returns-then-line-seen c = rw c.within_line.ensures (reaching_in_line c.loop-at.invariant c.find-line.ensures _ c.if-line-seen.true)

pub overflow_add-at : goal.overflow_add-at
overflow_add-at c = omega (arith, line-within c.loop-at.invariant c.find-line.ensures)

pub overflow_add-at-in-loop-at : goal.overflow_add-at-in-loop-at
overflow_add-at-in-loop-at c = omega (arith, line-within c.loop-at.invariant c.find-line.ensures)

pub returns-then-at-seen : goal.returns-then-at-seen
returns-then-at-seen c = rw c.at_line_end.ensures (reaching_line_end c.loop-at.invariant c.find-line.ensures _ c.if-line-seen.false c.if-at-seen.true)

pub bounds-input-at : goal.bounds-input-at
bounds-input-at c = omega (arith, more c.loop-at.invariant c.find-line.ensures c.if-line-seen.false c.if-at-seen.false)

pub returns-then-not-goes_on : goal.returns-then-not-goes_on
returns-then-not-goes_on c = reaching_stops c.loop-at.invariant c.find-line.ensures c.if-line-seen.false c.if-at-seen.false _ (sym c.goes_on.ensures ∙ c.if-not-goes_on.true)

pub loop-at-smaller : goal.loop-at-smaller
loop-at-smaller c = omega arith

pub loop-at-preserved : goal.loop-at-preserved
loop-at-preserved c = reaching_more c.loop-at.invariant c.find-line.ensures c.if-line-seen.false c.if-at-seen.false (sym c.goes_on.ensures ∙ c.if-not-goes_on.false)
