-- `packets::carries_too` meets its contract.
use Rattle.start_tag.specs.Packets.{carries_none, carries-tag, carries_no_tag}
use Rattle.start_tag.proofs.packets.carries_too.Goals as goal

pub returns-then-has-ne-CARRIED : goal.returns-then-has-ne-CARRIED
returns-then-has-ne-CARRIED c = carries_none _ _ _ c.if-has-ne-CARRIED.true

pub returns-then-tagged : goal.returns-then-tagged
returns-then-tagged c = carries-tag _ _ _ c.if-has-ne-CARRIED.false c.if-tagged.true

pub returns : goal.returns
returns c = carries_no_tag _ _ _ c.if-has-ne-CARRIED.false c.if-tagged.false c.is_li.ensures
