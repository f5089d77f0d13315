-- `end_tag::end_collection` meets its contract. Measured, and then written: one law of specs/ for each return.
use mathlib.Core.Path.{refl, ◌∙◌}
use Rattle.writer.specs.Said.{says_not, says_all}
use Rattle.end_tag.specs.Ends.{tells_over, tells_full, tells_done}
use Rattle.end_tag.specs.Kinds.{collection_tells, labels_spent, listed}
use native.Mathlib.Omega.{arith}
use Rattle.std.proofs.Common.{sym}
use Rattle.end_tag.proofs.end_collection.Goals as goal

pub overflow_add-labels : goal.overflow_add-labels
overflow_add-labels c = omega (arith, c.requires.0.labels, c.wide.ensures)

pub returns-then-labels-gt-MOST_LABELS : goal.returns-then-labels-gt-MOST_LABELS
returns-then-labels-gt-MOST_LABELS c = labels_spent c.top-f.ensures (omega (arith, c.wide.ensures))

pub returns-then-not-holds_no_more : goal.returns-then-not-holds_no_more
returns-then-not-holds_no_more c = tells_over (collection_tells c.pop.ensures c.unwrap_or-popped.ensures c.top-f.ensures (rw c.wide.ensures.0 at c.with_labels-behind.ensures) c.top-n.ensures (omega (arith, c.wide.ensures))) (sym c.holds_no_more.ensures ∙ c.if-not-holds_no_more.true)

pub collection_lines-requires : goal.collection_lines-requires
collection_lines-requires c = listed c.requires.0 c.top-f.ensures c.requires.1 (omega (arith, c.wide.ensures))

pub shape_of-out-then-out-collection_lines : goal.shape_of-out-then-out-collection_lines
shape_of-out-then-out-collection_lines c = c.out-1.given

pub returns-then-out-collection_lines : goal.returns-then-out-collection_lines
returns-then-out-collection_lines c = tells_full (collection_tells c.pop.ensures c.unwrap_or-popped.ensures c.top-f.ensures (rw c.wide.ensures.0 at c.with_labels-behind.ensures) c.top-n.ensures (omega (arith, c.wide.ensures))) (sym c.holds_no_more.ensures ∙ c.if-not-holds_no_more.false) (says_not c.collection_lines.ensures refl (omega (arith, c.well_formed)) (omega arith)) refl

pub collection_lines-written-requires : goal.collection_lines-written-requires
collection_lines-written-requires c = listed c.requires.0 c.top-f.ensures c.requires.1 (omega (arith, c.wide.ensures, c.if-labels-gt-MOST_LABELS.false))

pub shape_of-out : goal.shape_of-out
shape_of-out c = c.out-2-1.given ∙ c.out-1.given

pub returns : goal.returns
returns c = tells_done (collection_tells c.pop.ensures c.unwrap_or-popped.ensures c.top-f.ensures (rw c.wide.ensures.0 at c.with_labels-behind.ensures) c.top-n.ensures (omega (arith, c.wide.ensures, c.if-labels-gt-MOST_LABELS.false))) (sym c.holds_no_more.ensures ∙ c.if-not-holds_no_more.false) (says_all c.collection_lines.ensures refl (omega (arith, c.well_formed)) c.collection_lines-written.ensures refl (omega arith)) refl
