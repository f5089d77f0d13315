-- `iri::is_rest` meets its contract. The fragment is split off, and then the query.
use mathlib.Core.Path.{refl, ◌∙◌}
use Rattle.spec.specs.Bytes.{between}
use Rattle.iri.specs.Forms.{is_mark}
use Rattle.iri.proofs.Finding.{found_within}
use Rattle.iri.proofs.Checks.{rest_law, and-first, and-second}
use Rattle.iri.proofs.is_rest.Goals as goal
use Rattle.iri.proofs.is_rest.Goals.{then-is_part, else-is_part}

pub split_at-requires : goal.split_at-requires
split_at-requires c = found_within _ _ c.find.ensures

pub split_at-requires-2 : goal.split_at-requires-2
split_at-requires-2 c = found_within _ _ c.find-2.ensures

pub is_optional-requires : goal.is_optional-requires
unfolding is_mark between
is_optional-requires c = refl

pub is_optional-requires-then-is_optional : goal.is_optional-requires-then-is_optional
unfolding is_mark between
is_optional-requires-then-is_optional c = refl

pub returns-then-is_optional : goal.returns-then-is_optional
returns-then-is_optional c =
    elim c.if-is_part.branch [
      | then-is_part w ↦
          and-second _ (rest_law _ _ c.find.ensures c.split_at.ensures.front c.split_at.ensures.back c.find-2.ensures c.split_at-2.ensures.front c.split_at-2.ensures.back)
          (w.value-is ∙ and-second _ refl c.is_part.ensures w.if-is_part.true w.is_optional.ensures) c.if-is_optional.true c.is_optional-then-is_optional.ensures
      | else-is_part w ↦ absurd (cc)
    ]

pub returns-else-is_optional : goal.returns-else-is_optional
returns-else-is_optional c =
    elim c.if-is_part.branch [
      | then-is_part w ↦
          and-first _ (rest_law _ _ c.find.ensures c.split_at.ensures.front c.split_at.ensures.back c.find-2.ensures c.split_at-2.ensures.front c.split_at-2.ensures.back) (w.value-is ∙ and-second _ refl c.is_part.ensures w.if-is_part.true w.is_optional.ensures) c.if-is_optional.false
      | else-is_part w ↦ and-first _ (rest_law _ _ c.find.ensures c.split_at.ensures.front c.split_at.ensures.back c.find-2.ensures c.split_at-2.ensures.front c.split_at-2.ensures.back) (w.value-is ∙ and-first _ refl c.is_part.ensures w.if-is_part.false) c.if-is_optional.false
    ]
