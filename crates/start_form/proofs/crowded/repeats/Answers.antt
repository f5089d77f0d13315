-- `start_form::crowded::repeats` meets its contract, by where the tag stands.
use Rattle.start_form.specs.CrowdedForm.{repeats-written, repeats_expanded_lem}
use Rattle.start_form.proofs.crowded.repeats.Goals as goal

pub repeats_written-requires : goal.repeats_written-requires
repeats_written-requires c = c.requires.2

pub returns-then-is_xml : goal.returns-then-is_xml
returns-then-is_xml c = repeats-written _ _ _ c.place_at-place.ensures c.is_xml.ensures c.if-is_xml.true c.repeats_written.ensures

pub repeats_expanded-requires : goal.repeats_expanded-requires
repeats_expanded-requires c = (c.requires.1, c.requires.2)

pub returns : goal.returns
returns c = repeats_expanded_lem _ _ _ c.place_at-place.ensures c.is_xml.ensures c.if-is_xml.false c.requires.0 c.repeats_expanded.ensures
