-- `end_tag::statements::cell` meets its contract. Two lines; what follows the cell is the list so far, or rdf:nil.
use mathlib.Core.Path.{ap, ◌∙◌}
use Rattle.spec.specs.Limits.{most_labels}
use Rattle.spec.specs.Bytes.{ascii}
use Rattle.spec.specs.Rdf.{rdf}
use Rattle.spec.specs.NTriples.{blank}
use Rattle.ntriples.specs.Terms.{subject_of}
use Rattle.writer.specs.Put.{put_as}
use Rattle.end_tag.specs.Cells.{list_none, list_some, celled}
use borrow.Author.Rules.{rules}
use Rattle.end_tag.proofs.statements.cell.Goals as goal

pub overflow_add-n : goal.overflow_add-n
unfolding most_labels
overflow_add-n c = search rules

pub returns-then-n-first : goal.returns-then-n-first
unfolding subject_of rdf ascii
returns-then-n-first c = put_as c.cell.ensures (celled _ _ _ _ c.label_of-own.ensures c.of-node.ensures c.piece-member.ensures (list_none _ _ c.if-n-first.true))

pub returns : goal.returns
unfolding subject_of
returns c = put_as c.cell-2.ensures (celled _ _ _ _ c.label_of-own.ensures c.of-node.ensures c.piece-member.ensures (ap blank c.label_of-last.ensures ∙ list_some _ _ c.if-n-first.false))
