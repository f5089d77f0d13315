-- `end_tag::statements::label_of` meets its contract. The next label behind `n - 1`, which is left.
use Rattle.spec.specs.Limits.{most_labels}
use Rattle.end_tag.specs.Cells.{next_left, next_label}
use native.Mathlib.Omega.{arith}
use Rattle.end_tag.proofs.statements.label_of.Goals as goal

pub unwrap-requires : goal.unwrap-requires
unfolding most_labels
unwrap-requires c = next_left _ _ _ c.generate.ensures (omega arith) (omega arith)

pub returns : goal.returns
returns c = next_label _ _ c.generate.ensures c.unwrap.ensures (omega arith)
