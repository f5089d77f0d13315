-- `iri::is_among` meets its contract.
use Rattle.std.proofs.Common.{rules, tests, ◌∙◌, eqb}
use Rattle.std.proofs.lemmas.Iterator.{YieldsList-from_slice}
use Rattle.std.proofs.lemmas.Iterator.Search.{any_from_yields_List}
use Rattle.iri.proofs.Searches.{list_any-among}
use Rattle.iri.proofs.is_among.Goals as goal

pub returns : goal.returns
returns c =
    any_from_yields_List (λ b. eqb b c.args.c) _ _ _ c.any.ensures.ran (YieldsList-from_slice c.args.set.now c.iter.ensures.rest) (λ x b q k. search (rules, tests))
    ∙ list_any-among c.args.set.now c.args.c
