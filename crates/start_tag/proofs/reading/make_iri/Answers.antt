-- `start_tag::reading::make_iri` meets its contract: the namespace that was found and the local part are joined.
use mathlib.Core.Path.{sym, ◌∙◌}
use Rattle.spec.specs.Namespaces.{xml_name}
use Rattle.spec.specs.Bytes.{ascii}
use Rattle.start_names.specs.Tag.{back_of}
use Rattle.start_tag.specs.Made.{made_none, made-joined}
use Rattle.start_tag.proofs.reading.make_iri.Goals as goal

pub returns-then-is_unknown : goal.returns-then-is_unknown
returns-then-is_unknown c = made_none c.args.scratch.now c.args.work.now (back_of c.args.c c.args.name.now) _ (sym c.is_unknown.ensures ∙ c.if-is_unknown.true)

pub shape_of-area : goal.shape_of-area
shape_of-area c = c.area-1.given

pub returns : goal.returns
unfolding xml_name ascii
returns c = made-joined c.args.scratch.now c.args.work.now (back_of c.args.c c.args.name.now) _ (sym c.is_unknown.ensures ∙ c.if-is_unknown.false) c.from.ensures c.space_of.ensures c.back_of.ensures c.join.ensures
