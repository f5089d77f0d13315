-- `iri::behind_octet` meets its contract. The text is cut at its first ".".
use mathlib.Core.Path.{sym, ◌∙◌}
use Rattle.iri.proofs.Octets.{dotted_short, dotted_bad, dotted_more}
use Rattle.iri.proofs.behind_octet.Goals as goal

pub returns-then-is_octet : goal.returns-then-is_octet
returns-then-is_octet c = dotted_more c.in-Some.ensures (sym c.is_octet.ensures ∙ c.if-is_octet.true)

pub returns-else-is_octet : goal.returns-else-is_octet
returns-else-is_octet c = dotted_bad c.in-Some.ensures (sym c.is_octet.ensures ∙ c.if-is_octet.false)

pub returns-in-None : goal.returns-in-None
returns-in-None c = dotted_short _ c.in-None.ensures
