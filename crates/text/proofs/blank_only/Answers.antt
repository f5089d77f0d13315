-- `text::blank_only` meets its contract: 16, or nothing changes.
use Rattle.text.specs.Blank.{blank_stray, blank_stays}
use Rattle.std.proofs.Common.{sym}
use Rattle.std.proofs.Common.{◌∙◌}
use Rattle.text.proofs.blank_only.Goals as goal

pub returns-then-not-is_blank : goal.returns-then-not-is_blank
returns-then-not-is_blank c = blank_stray _ (sym c.is_blank.ensures ∙ c.if-not-is_blank.true)

pub returns : goal.returns
returns c = blank_stays _ (sym c.is_blank.ensures ∙ c.if-not-is_blank.false) c.unchanged.ensures
