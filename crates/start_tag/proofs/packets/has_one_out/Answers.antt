-- `packets::has_one_out` meets its contract.
use Rattle.start_tag.specs.Packets.{id_out, node_out, datatype_out, none_out, parse_out}
use Rattle.spec.specs.Bytes.{ascii}
use mathlib.Core.Path.{sym, ◌∙◌}
use Rattle.start_tag.proofs.packets.has_one_out.Goals as goal

pub returns-then-not-is_missing : goal.returns-then-not-is_missing
returns-then-not-is_missing c = id_out _ _ _ _ (sym c.is_missing.ensures ∙ c.if-not-is_missing.true)

pub returns-then-t-k : goal.returns-then-t-k
returns-then-t-k c = node_out _ _ _ _ (sym c.is_missing.ensures ∙ c.if-not-is_missing.false) c.if-t-k.true

pub returns-then-not-is_missing-2 : goal.returns-then-not-is_missing-2
returns-then-not-is_missing-2 c = datatype_out _ _ _ _ (sym c.is_missing.ensures ∙ c.if-not-is_missing.false) c.if-t-k.false (sym c.is_missing-2.ensures ∙ c.if-not-is_missing-2.true)

pub returns-then-k-t : goal.returns-then-k-t
returns-then-k-t c = none_out _ _ _ _ (sym c.is_missing.ensures ∙ c.if-not-is_missing.false) c.if-t-k.false (sym c.is_missing-2.ensures ∙ c.if-not-is_missing-2.false) c.if-k-t.true

pub returns : goal.returns
unfolding ascii
returns c = parse_out _ _ _ _ (sym c.is_missing.ensures ∙ c.if-not-is_missing.false) c.if-t-k.false (sym c.is_missing-2.ensures ∙ c.if-not-is_missing-2.false) c.if-k-t.false c.value_of.ensures c.equal.ensures
