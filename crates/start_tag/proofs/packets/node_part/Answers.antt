-- `start_tag::packets::node_part` meets its contract, by the mode and the name.
use mathlib.Core.Path.{sym, ◌∙◌}
use borrow.Author.Tests.{not-true, not-false}
use Rattle.start_tag.specs.Packets.{node_ordinary, node-other, node-awaits}
use Rattle.start_tag.proofs.packets.node_part.Goals as goal

pub returns-then-not-mode : goal.returns-then-not-mode
returns-then-not-mode c = node_ordinary _ (not-true _ c.if-not-mode.true)

pub returns-then-not-is_alt : goal.returns-then-not-is_alt
returns-then-not-is_alt c = node-other _ (not-false _ c.if-not-mode.false) (sym c.is_alt.ensures ∙ c.if-not-is_alt.true)

pub returns : goal.returns
returns c = node-awaits _ (not-false _ c.if-not-mode.false) (sym c.is_alt.ensures ∙ c.if-not-is_alt.false)
