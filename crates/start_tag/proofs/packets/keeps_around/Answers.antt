-- `packets::keeps_around` meets its contract.
use mathlib.Core.Path.{sym, ◌∙◌}
use native.Mathlib.Omega.{arith}
use Rattle.start_tag.specs.Packets.{inside, taken-frame, around_awaited, around-frame}
use Rattle.start_tag.proofs.packets.keeps_around.Goals as goal

pub returns-then-awaits_rdf : goal.returns-then-awaits_rdf
returns-then-awaits_rdf c = around_awaited _ _ _ _ _ _ _ (sym c.awaits_rdf.ensures ∙ c.if-awaits_rdf.true) c.is_rdf.ensures

pub overflow_sub-depth : goal.overflow_sub-depth
overflow_sub-depth c = omega (arith, inside _ _ (sym c.awaits_rdf.ensures ∙ c.if-awaits_rdf.false))

pub keeps_kind-requires : goal.keeps_kind-requires
keeps_kind-requires c = taken-frame _ _ (sym c.awaits_rdf.ensures ∙ c.if-awaits_rdf.false) c.load-f.ensures

pub returns : goal.returns
returns c = around-frame _ _ _ _ _ _ _ (sym c.awaits_rdf.ensures ∙ c.if-awaits_rdf.false) c.load-f.ensures c.keeps_kind.ensures
