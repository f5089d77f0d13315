-- `vocabulary::is_joined` meets its contract.
use mathlib.Core.Path.{◌∙◌}
use mathlib.Core.List.{append-nil}
use Rattle.start_attributes.specs.Vocabulary.{front_empty}
use Rattle.start_attributes.proofs.vocabulary.is_joined.Goals as goal

pub returns-then-front-eq0 : goal.returns-then-front-eq0
returns-then-front-eq0 c = c.equal.ensures ∙ front_empty c.args.front.now _ _ c.if-front-eq0.true

pub returns : goal.returns
returns c = rw append-nil at c.same_joined.ensures
