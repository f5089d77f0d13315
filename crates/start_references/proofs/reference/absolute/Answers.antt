-- `start_references::reference::absolute` meets its contract.
use mathlib.Core.Path.{sym, ◌∙◌}
use Rattle.start_references.specs.Reference.{no_iri, long_iri, put_iri}
use Rattle.start_references.proofs.reference.absolute.Goals as goal

pub returns-then-not-is_iri : goal.returns-then-not-is_iri
returns-then-not-is_iri c = no_iri c.args.reference.now (sym c.is_iri.ensures ∙ c.if-not-is_iri.true)

pub returns-then-reference-gt-MOST_BYTES : goal.returns-then-reference-gt-MOST_BYTES
returns-then-reference-gt-MOST_BYTES c = long_iri c.args.reference.now (sym c.is_iri.ensures ∙ c.if-not-is_iri.false) c.if-reference-gt-MOST_BYTES.true

pub returns : goal.returns
returns c = put_iri c.put.ensures (sym c.is_iri.ensures ∙ c.if-not-is_iri.false) c.if-reference-gt-MOST_BYTES.false c.requires.room
