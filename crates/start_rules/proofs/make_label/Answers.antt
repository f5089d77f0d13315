-- `start_rules::make_label` meets its contract: a label is left, and its bytes are stored.
use Rattle.label.specs.Label.{one_left, generated}
use Rattle.start_rules.specs.Made.{label-made}
use Rattle.start_rules.proofs.make_label.Goals as goal

pub unwrap-label-requires : goal.unwrap-label-requires
unwrap-label-requires c = one_left _ _ _ c.generate.ensures c.requires.0

pub returns : goal.returns
returns c = let made = generated c.generate.ensures c.unwrap-label.ensures in (made.goes, label-made c.args.labels made.id c.requires.1 c.put.ensures)
