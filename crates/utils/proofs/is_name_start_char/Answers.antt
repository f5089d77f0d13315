-- `is_name_start_char`: the ranges of its table are document 01's.
use mathlib.Core.Path.{refl}
use Rattle.spec.specs.Bytes.{byte}
use Rattle.spec.specs.XmlNames.{start_ranges, is_name_start}
use Rattle.utils.specs.Ranges.{ascending_from}
use Rattle.utils.proofs.is_name_start_char.Goals as goal

pub in_pairs-requires : goal.in_pairs-requires
unfolding ascending_from
in_pairs-requires c = refl

pub returns : goal.returns
unfolding is_name_start start_ranges byte
returns c = c.in_pairs.ensures
