-- `packets::is_top_level` meets its contract.
use Rattle.start_tag.specs.Packets.{top_ordinary, top_other, top_described}
use mathlib.Core.Path.{sym, ◌∙◌}
use Rattle.start_tag.proofs.packets.is_top_level.Goals as goal

pub returns-then-has-eq-ORDINARY : goal.returns-then-has-eq-ORDINARY
returns-then-has-eq-ORDINARY c = top_ordinary _ _ _ _ _ c.if-has-eq-ORDINARY.true

pub returns-then-not-is_description : goal.returns-then-not-is_description
returns-then-not-is_description c = top_other _ _ _ _ _ c.if-has-eq-ORDINARY.false (sym c.is_description.ensures ∙ c.if-not-is_description.true)

pub returns : goal.returns
returns c = top_described _ _ _ _ _ c.if-has-eq-ORDINARY.false (sym c.is_description.ensures ∙ c.if-not-is_description.false) c.same_about.ensures
