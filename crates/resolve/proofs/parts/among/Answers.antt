-- `resolve::parts::among` meets its contract: `contains` asks the bytes one after the other.
use mathlib.Core.Path.{refl, ◌∙◌}
use lib.Dec.{eqb}
use Rattle.std.specs.List.{list_any}
use Rattle.std.specs.Prelude.{◌||◌}
use Rattle.std.proofs.lemmas.List.Recursion.{same_from_clauses}
use Rattle.spec.specs.Bytes.{among}
use Rattle.resolve.proofs.parts.among.Goals as goal

pub returns : goal.returns
unfolding among
returns c =
    let b = c.args.b in
    c.contains.ensures.value ∙ same_from_clauses (list_any (λ y. eqb y b)) (λ l. among l b) (λ x r. eqb x b || r) refl (λ _ _. refl) (λ _ _. refl) c.args.set.now
