-- `start_form::own::own_row` meets its contract. By the length of the name.
use Rattle.start_form.specs.OwnLaws.{row_within, row_short, row-long}
use native.Mathlib.Omega.{arith}
use Rattle.start_form.proofs.own.own_row.Goals as goal

pub overflow_cast-result : goal.overflow_cast-result
overflow_cast-result c =
    omega (
      arith,
      row_within _ _ c.attribute_word-at.ensures
          c.attribute_word-n.ensures c.attribute_word-v.ensures
          c.requires,
    )

pub returns-then-n-lt6 : goal.returns-then-n-lt6
returns-then-n-lt6 c =
    row_short _ _ c.attribute_word-at.ensures c.attribute_word-n.ensures
    c.attribute_word-v.ensures (omega arith)

pub overflow_cast-result-2 : goal.overflow_cast-result-2
overflow_cast-result-2 c =
    omega (
      arith,
      row_within _ _ c.attribute_word-at.ensures
          c.attribute_word-n.ensures c.attribute_word-v.ensures
          c.requires,
    )

pub returns : goal.returns
returns c =
    row-long _ _ c.attribute_word-at.ensures c.attribute_word-n.ensures
    c.attribute_word-v.ensures (omega arith)
