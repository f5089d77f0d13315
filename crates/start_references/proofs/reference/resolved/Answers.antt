-- `start_references::reference::resolved` meets its contract.
use mathlib.Core.Path.{sym, ◌∙◌}
use Rattle.start_references.specs.Reference.{no_reference, without-base, on_base}
use Rattle.start_references.proofs.reference.resolved.Goals as goal

pub returns-in-None : goal.returns-in-None
returns-in-None c = without-base c.args.reference.now c.in-None.is c.absolute.ensures

pub returns-then-not-is_iri_reference : goal.returns-then-not-is_iri_reference
returns-then-not-is_iri_reference c = on_base c.args.reference.now c.in-Some.is (no_reference c.args.reference.now c.in-Some.base.now (sym c.is_iri_reference.ensures ∙ c.if-not-is_iri_reference.true))

pub on_base-requires : goal.on_base-requires
on_base-requires c = (c.requires, sym c.is_iri_reference.ensures ∙ c.if-not-is_iri_reference.false)

pub returns-else-not-is_iri_reference : goal.returns-else-not-is_iri_reference
returns-else-not-is_iri_reference c = on_base c.args.reference.now c.in-Some.is c.on_base.ensures
