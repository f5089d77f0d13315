-- Document 01, "Proved": P1 to P11, one table, one theorem.
use Rattle.std.specs.Prelude.{◌≡◌, refl, true, List, [], ◌∷◌}
use Rattle.spec.specs.Examples.{Example, prints, resolves, good_tag, bad_tag, failing, are_n_triples}
use Rattle.spec.specs.Examples as E

unfoldable pub table : List Example
table =
    -- P1, the list in full
    prints (
    "(e:P" ∷
    "Axmlns:rdf http://www.w3.org/1999/02/22-rdf-syntax-ns#" ∷
    "Axmlns:e http://e/" ∷
    "Axml:base http://e/d" ∷
    "Ardf:about p" ∷
    "(e:by" ∷
    "Ardf:parseType Collection" ∷
    "(rdf:Description" ∷
    "Ardf:about #a" ∷
    ")rdf:Description" ∷
    "(rdf:Description" ∷
    "Ardf:nodeID k" ∷
    ")rdf:Description" ∷
    ")e:by" ∷
    ")e:P" ∷ []) (
    "<http://e/p> <Rtype> <http://e/P> ." ∷
    "_:riog00000004 <Rfirst> _:k ." ∷
    "_:riog00000004 <Rrest> <Rnil> ." ∷
    "_:riog00000005 <Rfirst> <http://e/d#a> ." ∷
    "_:riog00000005 <Rrest> _:riog00000004 ." ∷
    "<http://e/p> <http://e/by> _:riog00000005 ." ∷ []) ∷
    -- P2, an empty Collection
    prints (
    "(rdf:Description" ∷
    "Axmlns:rdf http://www.w3.org/1999/02/22-rdf-syntax-ns#" ∷
    "Axmlns:e http://e/" ∷
    "Ardf:about http://e/p" ∷
    "(e:by" ∷
    "Ardf:parseType Collection" ∷
    ")e:by" ∷
    ")rdf:Description" ∷ []) (
    "<http://e/p> <http://e/by> <Rnil> ." ∷ []) ∷
    -- P3, the same with rdf:ID
    prints (
    "(rdf:Description" ∷
    "Axmlns:rdf http://www.w3.org/1999/02/22-rdf-syntax-ns#" ∷
    "Axmlns:e http://e/" ∷
    "Axml:base http://e/d#old" ∷
    "Ardf:about http://e/p" ∷
    "(e:by" ∷
    "Ardf:ID s" ∷
    "Ardf:parseType Collection" ∷
    ")e:by" ∷
    ")rdf:Description" ∷ []) (
    "<http://e/d#s> <Rtype> <RStatement> ." ∷
    "<http://e/d#s> <Rsubject> <http://e/p> ." ∷
    "<http://e/d#s> <Rpredicate> <http://e/by> ." ∷
    "<http://e/d#s> <Robject> <Rnil> ." ∷
    "<http://e/p> <http://e/by> <Rnil> ." ∷ []) ∷
    -- P4, blank text gives ""
    prints (
    "(rdf:Description" ∷
    "Axmlns:rdf http://www.w3.org/1999/02/22-rdf-syntax-ns#" ∷
    "Axmlns:e http://e/" ∷
    "Ardf:about http://e/p" ∷
    "(e:by" ∷
    "- \\n" ∷
    "-\\t" ∷
    ")e:by" ∷
    ")rdf:Description" ∷ []) (
    "<http://e/p> <http://e/by> \"\" ." ∷ []) ∷
    -- P5, two containers, both from _1
    prints (
    "(rdf:RDF" ∷
    "Axmlns:rdf http://www.w3.org/1999/02/22-rdf-syntax-ns#" ∷
    "(rdf:Bag" ∷
    "(rdf:li" ∷
    "-a" ∷
    ")rdf:li" ∷
    "(rdf:li" ∷
    "-b" ∷
    ")rdf:li" ∷
    ")rdf:Bag" ∷
    "(rdf:Seq" ∷
    "(rdf:li" ∷
    "-c" ∷
    ")rdf:li" ∷
    ")rdf:Seq" ∷
    ")rdf:RDF" ∷ []) (
    "_:riog00000001 <Rtype> <RBag> ." ∷
    "_:riog00000001 <R_1> \"a\" ." ∷
    "_:riog00000001 <R_2> \"b\" ." ∷
    "_:riog00000002 <Rtype> <RSeq> ." ∷
    "_:riog00000002 <R_1> \"c\" ." ∷ []) ∷
    -- P6, P7, P8
    resolves "http://a/b/c/d;p?q" "../g" "http://a/b/g" ∷
    resolves "http://a/b/c/d;p?q" "" "http://a/b/c/d;p?q" ∷
    resolves "http://a/b/c/d;p?q" "../../../g" "http://a/g" ∷
    -- P9, P10
    good_tag "x-default" ∷
    bad_tag "en-" ∷
    -- P11, as whole documents
    prints (
    "(rdf:Description" ∷
    "Axmlns:rdf http://www.w3.org/1999/02/22-rdf-syntax-ns#" ∷
    "Ardf:nodeID riog0000001" ∷
    ")rdf:Description" ∷ []) [] ∷
    prints (
    "(rdf:Description" ∷
    "Axmlns:rdf http://www.w3.org/1999/02/22-rdf-syntax-ns#" ∷
    "Ardf:nodeID riog00000001" ∷
    ")rdf:Description" ∷ []) ("# refused 13 at event 1" ∷ []) ∷
    []

pub worked_examples : failing 1 table ≡ []
unfolding E.all table
worked_examples = refl

pub printed_n_triples : are_n_triples table ≡ true
unfolding E.all table
printed_n_triples = refl
