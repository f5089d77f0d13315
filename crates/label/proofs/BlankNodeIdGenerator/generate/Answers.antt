-- `label::BlankNodeIdGenerator::generate` meets its contract: while a label is left, its digits stand behind `riog`.
-- That `MOST_LABELS` is the limit of document 01 is seen where `most_labels` unfolds.
use mathlib.Core.Path.{refl}
use Rattle.spec.specs.Bytes.{ascii}
use Rattle.spec.specs.Limits.{most_labels}
use Rattle.label.specs.Label.{generates_next}
use native.Mathlib.Omega.{arith}
use Rattle.label.proofs.BlankNodeIdGenerator.generate.Goals as goal

pub returns-then-self-ge-MOST_LABELS : goal.returns-then-self-ge-MOST_LABELS
unfolding most_labels
returns-then-self-ge-MOST_LABELS c = (omega arith, refl)

pub returns : goal.returns
unfolding most_labels ascii
returns c = generates_next (omega arith) refl c.write_u64_to_slice.ensures refl
