-- `start_tag::reading::is_short` meets its contract: the tests in the order of `is_short`.
use mathlib.Core.Path.{sym, ◌∙◌}
use borrow.Author.Tests.{not-true, not-false}
use Rattle.spec.specs.Bytes.{every}
use Rattle.start_tag.specs.Made.{iri_long, name-long, base-long, id_long, others_decide}
use Rattle.start_attributes.specs.Short.{short_at}
use Rattle.start_attributes.specs.Places.{places}
use Rattle.start_references.specs.Values.{value_if}
use Rattle.start_tag.proofs.reading.is_short.Goals as goal

pub returns-then-is_long : goal.returns-then-is_long
returns-then-is_long c = iri_long c.args.iri (every (short_at c.args.scratch.now c.args.spans.now c.args.work.now c.args.classes.now) (places 0 c.args.k)) (value_if c.args.scratch.now c.args.spans.now c.args.k c.args.j) c.args.references (sym c.is_long.ensures ∙ c.if-is_long.true)

pub returns-then-not-names_short : goal.returns-then-not-names_short
returns-then-not-names_short c = name-long c.args.iri (every (short_at c.args.scratch.now c.args.spans.now c.args.work.now c.args.classes.now) (places 0 c.args.k)) (value_if c.args.scratch.now c.args.spans.now c.args.k c.args.j) c.args.references (sym c.is_long.ensures ∙ c.if-is_long.false) (sym c.names_short.ensures ∙ c.if-not-names_short.true)

pub returns-then-is_long_value : goal.returns-then-is_long_value
returns-then-is_long_value c = base-long c.args.iri (every (short_at c.args.scratch.now c.args.spans.now c.args.work.now c.args.classes.now) (places 0 c.args.k)) (value_if c.args.scratch.now c.args.spans.now c.args.k c.args.j) c.args.references (sym c.is_long.ensures ∙ c.if-is_long.false) (sym c.names_short.ensures ∙ c.if-not-names_short.false) (not-true _ (sym c.is_long_value.ensures ∙ c.if-is_long_value.true))

pub returns-then-is_long-2 : goal.returns-then-is_long-2
returns-then-is_long-2 c = id_long c.args.iri (every (short_at c.args.scratch.now c.args.spans.now c.args.work.now c.args.classes.now) (places 0 c.args.k)) (value_if c.args.scratch.now c.args.spans.now c.args.k c.args.j) c.args.references (sym c.is_long.ensures ∙ c.if-is_long.false) (sym c.names_short.ensures ∙ c.if-not-names_short.false) (not-false _ (sym c.is_long_value.ensures ∙ c.if-is_long_value.false)) (sym c.is_long-2.ensures ∙ c.if-is_long-2.true)

pub returns : goal.returns
returns c = others_decide c.args.iri (every (short_at c.args.scratch.now c.args.spans.now c.args.work.now c.args.classes.now) (places 0 c.args.k)) (value_if c.args.scratch.now c.args.spans.now c.args.k c.args.j) c.args.references (sym c.is_long.ensures ∙ c.if-is_long.false) (sym c.names_short.ensures ∙ c.if-not-names_short.false) (not-false _ (sym c.is_long_value.ensures ∙ c.if-is_long_value.false)) (sym c.is_long-2.ensures ∙ c.if-is_long-2.false) c.is_long-3.ensures
