-- `iri::count_groups` meets its contract.
use mathlib.Core.Bool.{and-false}
use mathlib.Core.Path.{sym, ◌∙◌}
use native.Mathlib.Omega.{arith}
use borrow.Author.Tests.{eqb-true, eqb-false}
use Rattle.iri.proofs.Counting.{counting_begins, counting_many, counting_more, counting_bad, counting_last, counting_address, counting_none}
use Rattle.iri.proofs.Addresses.{no_bytes_groups}
use Rattle.iri.proofs.count_groups.Goals as goal
use Rattle.iri.proofs.count_groups.Goals.{else-address-via-then-address+else-is_ipv4, else-address-via-else-address}

pub returns-then-is_empty : goal.returns-then-is_empty
returns-then-is_empty c = no_bytes_groups _ _ (eqb-true _ _ (sym c.if-is_empty.ensures))

pub loop-count-init : goal.loop-count-init
loop-count-init c = counting_begins _ _ (omega (arith, eqb-false _ _ (sym c.if-is_empty.ensures)))

pub returns-then-not-is_group : goal.returns-then-not-is_group
returns-then-not-is_group c = counting_bad c.loop-count.invariant c.in-Some.ensures (omega arith) (sym c.is_group.ensures ∙ c.if-not-is_group.true)

pub loop-count-preserved : goal.loop-count-preserved
loop-count-preserved c = counting_more c.loop-count.invariant c.in-Some.ensures (omega arith) (sym c.is_group.ensures ∙ c.if-not-is_group.false)

pub returns-then-is_group : goal.returns-then-is_group
returns-then-is_group c = counting_last c.loop-count.invariant (omega arith) c.in-None.ensures (sym c.is_group-in-None.ensures ∙ c.if-is_group.true)

pub returns-then-is_ipv4 : goal.returns-then-is_ipv4
returns-then-is_ipv4 c = counting_address c.loop-count.invariant (omega arith) c.in-None.ensures (sym c.is_group-in-None.ensures ∙ c.if-is_group.false) c.if-address.true (sym c.is_ipv4.ensures ∙ c.if-is_ipv4.true)

pub returns-in-None : goal.returns-in-None
returns-in-None c =
    counting_none c.loop-count.invariant (omega arith) c.in-None.ensures (sym c.is_group-in-None.ensures ∙ c.if-is_group.false)
    (elim c.else-address.branch [
      | else-address-via-then-address+else-is_ipv4 w ↦ rw (sym w.is_ipv4.ensures ∙ w.if-is_ipv4.false) (and-false c.args.address)
      | else-address-via-else-address w ↦ rw w.if-address.false
    ])

pub returns : goal.returns
returns c = counting_many c.loop-count.invariant (omega arith)
