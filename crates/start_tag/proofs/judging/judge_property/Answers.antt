-- `judging::judge_property` meets its contract: 14, 19, 15 or 18, 7, or what is planned.
use mathlib.Core.Path.{refl, ap}
use Rattle.state.specs.Meaning.{count}
use Rattle.start_tag.specs.Properties.{property_reserved_here, property_broken, property-refused, property-long, property_judged, both_left, parse_read}
use borrow.Author.Tests.{not-true, not-false}
use Rattle.std.proofs.Common.{Err, arith, ◌≡◌}
use Rattle.start_tag.proofs.judging.judge_property.Goals as goal

pub returns-then-reserved : goal.returns-then-reserved
returns-then-reserved c = property_reserved_here c.iri_text-name.ensures c.is_reserved_property-reserved.ensures c.if-reserved.true

pub returns-then-not-kept : goal.returns-then-not-kept
returns-then-not-kept c = property_broken c.iri_text-name.ensures c.is_reserved_property-reserved.ensures c.if-reserved.false c.requires.2 c.if-not-kept.true

pub returns-then-not-t : goal.returns-then-not-t
returns-then-not-t c = property-long c.iri_text-name.ensures c.is_reserved_property-reserved.ensures c.requires.2 c.if-not-kept.false c.is_li-li.ensures c.is_missing-resource.ensures (parse_read _ _ _ _ c.parse_type_of-parse.ensures c.value_of.ensures) (ap count c.top-around.ensures) c.judge_property.ensures c.in_ok-judge_property.was (not-true _ c.if-not-t.true)

pub make_property-start-requires : goal.make_property-start-requires
make_property-start-requires c = (c.requires.0, c.requires.1, both_left c.judge_property.ensures c.in_ok-judge_property.was c.takes_label-takes.ensures)

pub returns-in_err-judge_property : goal.returns-in_err-judge_property
returns-in_err-judge_property c =
    let up : c.from_residual.result ≡ Err c.in_err-judge_property.field-0.0 = grind arith in
    rw up (property-refused c.iri_text-name.ensures c.is_reserved_property-reserved.ensures c.requires.2 c.if-not-kept.false c.is_li-li.ensures c.is_missing-resource.ensures (parse_read _ _ _ _ c.parse_type_of-parse.ensures c.value_of.ensures) (ap count c.top-around.ensures) c.judge_property.ensures c.in_err-judge_property.was)

pub returns : goal.returns
returns c = property_judged c.iri_text-name.ensures c.is_reserved_property-reserved.ensures c.requires.2 c.if-not-kept.false c.is_li-li.ensures c.is_missing-resource.ensures (parse_read _ _ _ _ c.parse_type_of-parse.ensures c.value_of.ensures) (ap count c.top-around.ensures) c.judge_property.ensures c.in_ok-judge_property.was c.takes_label-takes.ensures (not-false _ c.if-not-t.false) c.requires.0 c.make_property-start.ensures
