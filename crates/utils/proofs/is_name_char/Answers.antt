-- `is_name_char`: in one of the start ranges, or else in one of the further ranges. Those of its table are document 01's.
use mathlib.Core.Path.{refl, sym, ◌∙◌}
use Rattle.spec.specs.Bytes.{byte}
use Rattle.spec.specs.XmlNames.{further_ranges, is_name_char}
use Rattle.utils.specs.Ranges.{ascending_from}
use Rattle.utils.proofs.is_name_char.Goals as goal

pub returns-then-is_name_start_char : goal.returns-then-is_name_start_char
unfolding is_name_char
returns-then-is_name_start_char c = rw (sym c.is_name_start_char.ensures ∙ c.if-is_name_start_char.true)

pub in_pairs-requires : goal.in_pairs-requires
unfolding ascending_from
in_pairs-requires c = refl

pub returns : goal.returns
unfolding is_name_char further_ranges byte
returns c = rw (sym c.is_name_start_char.ensures ∙ c.if-is_name_start_char.false) c.in_pairs.ensures
