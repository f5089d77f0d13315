-- `packets::awaits_rdf` meets its contract.
use mathlib.Core.Path.{◌∙◌}
use Rattle.state_words.specs.declared.Kind.TheVariants.{Wrapper}
use Rattle.state_words.specs.Words.{kind_eq}
use Rattle.start_tag.specs.Packets.{awaits-root, awaits_first}
use Rattle.start_tag.proofs.packets.awaits_rdf.Goals as goal

pub returns-then-depth-eq0 : goal.returns-then-depth-eq0
returns-then-depth-eq0 c = awaits-root _ _ c.if-depth-eq0.true

pub returns : goal.returns
returns c = awaits_first _ _ c.if-depth-eq0.false c.load-f.ensures (c.eq.ensures ∙ kind_eq _ Wrapper)
