-- `label::are_digits` meets its contract: `all` of a test is `every` of it.
use mathlib.Core.Path.{refl, ◌∙◌}
use borrow.Author.Rules.{rules}
use borrow.Author.Tests.{tests}
use Rattle.std.specs.List.{list_all}
use Rattle.std.specs.Prelude.{◌&&◌}
use Rattle.std.proofs.lemmas.Iterator.{YieldsList-from_slice}
use Rattle.std.proofs.lemmas.Iterator.Search.{all_from_yields_List}
use Rattle.std.proofs.lemmas.List.Recursion.{same_from_clauses}
use Rattle.spec.specs.Bytes.{byte, every, between}
use Rattle.label.proofs.are_digits.Goals as goal

pub returns : goal.returns
unfolding every between byte
returns c =
    all_from_yields_List (between 48 57) _ _ _ c.all.ensures.ran (YieldsList-from_slice c.args.s.now cc) (λ x b q k. search (rules, tests))
    ∙ same_from_clauses (list_all (between 48 57)) (every (between 48 57)) (λ x r. between 48 57 x && r) refl (λ _ _. refl) (λ _ _. refl) c.args.s.now
