-- `vocabulary::only` meets its contract.
use mathlib.Core.Path.{sym, ◌∙◌}
use Rattle.spec.specs.Bytes.{when◌then◌else◌}
use Rattle.start_attributes.specs.Vocabulary.{if_named}
use Rattle.start_attributes.proofs.vocabulary.only.Goals as goal

pub returns-then-is_joined : goal.returns-then-is_joined
unfolding if_named when◌then◌else◌
returns-then-is_joined c = rw (sym c.is_joined.ensures ∙ c.if-is_joined.true)

pub returns : goal.returns
unfolding if_named when◌then◌else◌
returns c = rw (sym c.is_joined.ensures ∙ c.if-is_joined.false)
