-- `langtag::parse`: what the two tests answer is the verdict, by the theorem on the grammar.
use mathlib.Core.Path.{sym, ◌∙◌}
use borrow.Author.Tests.{eqb-true, eqb-false}
use Rattle.langtag.proofs.WellFormed.{none_clears, composed_good, irregular_good, neither_bad}
use Rattle.langtag.proofs.parse.Goals as goal
use Rattle.langtag.proofs.parse.Goals.{then-composed, else-composed}

pub returns-then-is_empty : goal.returns-then-is_empty
returns-then-is_empty c = none_clears _ (eqb-true _ _ (sym c.is_empty.ensures ∙ c.if-is_empty.true))

pub returns-then-irregular : goal.returns-then-irregular
returns-then-irregular c =
    elim c.if-composed.branch [
      | then-composed w ↦ composed_good _ (sym c.composed.ensures ∙ w.if-composed.true)
      | else-composed w ↦ irregular_good _ (sym w.irregular.ensures ∙ sym w.value-is ∙ c.if-irregular.true)
    ]

pub returns-else-irregular : goal.returns-else-irregular
returns-else-irregular c =
    elim c.if-composed.branch [
      | then-composed w ↦ absurd (cc)
      | else-composed w ↦
          neither_bad _ (eqb-false _ _ (sym c.is_empty.ensures ∙ c.if-is_empty.false)) (sym c.composed.ensures ∙ w.if-composed.false)
          (sym w.irregular.ensures ∙ sym w.value-is ∙ c.if-irregular.false)
    ]
