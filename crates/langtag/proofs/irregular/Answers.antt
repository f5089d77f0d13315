-- `langtag::irregular`: the tags of the code are those of `irregulars`.
use Rattle.std.proofs.Common.{rules, ◌∙◌, map, refl}
use Rattle.std.proofs.lemmas.Iterator.{YieldsList-from_slice}
use Rattle.std.proofs.lemmas.Iterator.Search.{any_from_yields_List}
use Rattle.spec.specs.Bytes.{ascii, byte, same, onto, between, when◌then◌else◌}
use Rattle.spec.specs.Abnf.{lower}
use Rattle.langtag.specs.Machine.{spaced, words, irregulars, irregular}
use Rattle.langtag.proofs.Lower.{folded, list_any-member}
use Rattle.langtag.proofs.irregular.Goals as goal

pub returns : goal.returns
unfolding ascii byte onto between when◌then◌else◌ lower spaced words irregulars irregular
returns c =
    let s = c.args.s.now in let tags = c.iter.result.rest.now in
    any_from_yields_List (λ w. same (map lower s) (map lower w.now)) _ _ _ c.any.ensures.ran (YieldsList-from_slice tags refl)
    (λ x b q k. (search rules, folded s x.now.now b (search rules)))
    ∙ list_any-member s tags ∙ rw c.iter.ensures.rest
