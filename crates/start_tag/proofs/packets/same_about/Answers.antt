-- `packets::same_about` meets its contract.
use Rattle.start_tag.specs.Packets.{about_first, about_missing, about_bad, about-long, about-other}
use Rattle.std.proofs.Common.{eq-eqb, ne_eqb}
use Rattle.start_tag.proofs.packets.same_about.Goals as goal

pub returns-then-first : goal.returns-then-first
returns-then-first c = about_first _ _ _ c.in-Made.is (eq-eqb _ _ c.if-first.true)

pub returns-in-Missing : goal.returns-in-Missing
returns-in-Missing c = about_missing _ _ _ c.in-Missing.is

pub returns-in-Bad : goal.returns-in-Bad
returns-in-Bad c = about_bad _ _ _ c.in-Bad.is

pub returns-in-Long : goal.returns-in-Long
returns-in-Long c = about-long _ _ _ c.in-Long.is

pub returns-else-first : goal.returns-else-first
returns-else-first c = about-other c.args.f _ _ c.in-Made.is (ne_eqb _ _ c.if-first.false) c.wide-from.ensures.0 c.wide.ensures.0 c.saturating_sub-size.ensures c.piece.ensures c.piece-in-Made.ensures c.equal.ensures
