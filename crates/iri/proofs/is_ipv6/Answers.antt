-- `iri::is_ipv6` meets its contract. The groups on both sides of the first "::", if there is one.
use mathlib.Core.Path.{◌∙◌}
use native.Mathlib.Omega.{arith}
use Rattle.iri.proofs.Checks.{eight_law, gap_law, gap_over, counted}
use Rattle.iri.proofs.is_ipv6.Goals as goal

pub returns-in-Some-Some : goal.returns-in-Some-Some
returns-in-Some-Some c =
    gap_law _ c.in-Some.ensures (rw c.in-Some-Some.is-0 at c.count_groups-before.ensures) (rw c.in-Some-Some.is-1 at c.count_groups-behind.ensures)

pub returns-in_default : goal.returns-in_default
returns-in_default c =
    gap_over _ c.in-Some.ensures (rw c.in_default.is-0 at c.count_groups-before.ensures) (rw c.in_default.is-1 at c.count_groups-behind.ensures) (omega arith)

pub returns-in_default-2 : goal.returns-in_default-2
returns-in_default-2 c =
    let behind = counted c.count_groups-behind.result c.count_groups-behind.ensures in
    gap_over _ c.in-Some.ensures (rw c.in_default.is-0 at c.count_groups-before.ensures) behind.1 (omega arith)

pub returns-in-None : goal.returns-in-None
returns-in-None c = c.eq.ensures ∙ eight_law _ c.in-None.ensures c.count_groups.result c.count_groups.ensures
