-- `start_names::lookup` meets its contract. `xml`, then what `own` answers, then `held`.
use mathlib.Core.Path.{sym, ◌∙◌}
use Rattle.spec.specs.Bytes.{ascii}
use Rattle.start_names.specs.Found.{found_bytes, found_xml, found_there, found-held}
use Rattle.start_names.proofs.lookup.Goals as goal

pub returns-then-equal : goal.returns-then-equal
unfolding ascii found_bytes
returns-then-equal c = found_xml _ _ _ _ _ _ _ (sym c.equal.ensures ∙ c.if-equal.true)

pub returns-in-Unknown : goal.returns-in-Unknown
unfolding ascii found_bytes
returns-in-Unknown c = found-held _ _ _ _ _ _ _ (sym c.equal.ensures ∙ c.if-equal.false) c.own-found.ensures c.in-Unknown.is c.held.ensures

pub returns-in_default : goal.returns-in_default
unfolding ascii
returns-in_default c = found_there _ _ _ _ _ _ _ _ (sym c.equal.ensures ∙ c.if-equal.false) c.own-found.ensures c.in_default.not-Unknown
