-- `end_tag::statements::collection_lines` meets its contract. The cells, and then the statement with their head.
use Prim.Native.Nat.{◌+◌}
use mathlib.Core.Path.{ap, ◌∙◌}
use Rattle.spec.specs.Limits.{most_labels}
use Rattle.spec.specs.Bytes.{Bytes, ascii}
use Rattle.spec.specs.Rdf.{rdf}
use Rattle.spec.specs.NTriples.{blank, node}
use Rattle.state.specs.Meaning.{count}
use Rattle.ntriples.specs.Terms.{term_of}
use Rattle.writer.specs.Put.{puts, put_as}
use Rattle.end_tag.specs.Cells.{list_none, list_some, listed}
use native.Mathlib.Omega.{arith}
use borrow.Author.Rules.{rules}
use Rattle.end_tag.proofs.statements.collection_lines.Goals as goal

pub returns-then-children-eq0 : goal.returns-then-children-eq0
unfolding term_of rdf ascii
returns-then-children-eq0 c = let a = c.args in put_as (puts c.cells-to.ensures c.statement.ensures) (listed a.f a.work.now a.labels _ (ap node (list_none a.labels (a.labels + count a.f) (omega (arith, c.if-children-eq0.true)))))

pub label_of-head-requires : goal.label_of-head-requires
unfolding most_labels
label_of-head-requires c = search rules

pub returns : goal.returns
unfolding term_of
returns c = let a = c.args in put_as (puts c.cells-to.ensures c.statement-2.ensures) (listed a.f a.work.now a.labels _ (ap (λ (s : Bytes). node (blank s)) c.label_of-head.ensures ∙ ap node (list_some a.labels (a.labels + count a.f) (λ z. c.if-children-eq0.false (omega arith)))))
