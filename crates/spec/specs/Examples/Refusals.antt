-- Document 01, "Numbers returned": each refusal that a document can meet in pyx2nt, once.
use Rattle.std.specs.Prelude.{◌≡◌, refl, List, [], ◌∷◌}
use Rattle.spec.specs.Examples.{Example, prints, failing}
use Rattle.spec.specs.Examples as E

unfoldable pub table : List Example
table =
    -- 5: any other backslash
    prints (
    "(rdf:RDF" ∷
    "Axmlns:rdf http://www.w3.org/1999/02/22-rdf-syntax-ns#" ∷
    "Axmlns:e http://e/" ∷
    "-\\r" ∷ []) (
    "# refused 5 at event 2" ∷ []) ∷
    -- 5: any other line
    prints (
    "Aa b" ∷ []) (
    "# refused 5 at event 1" ∷ []) ∷
    -- 6: end tag without match
    prints (
    "(rdf:RDF" ∷
    "Axmlns:rdf http://www.w3.org/1999/02/22-rdf-syntax-ns#" ∷
    "Axmlns:e http://e/" ∷
    ")rdf:Rdf" ∷ []) (
    "# refused 6 at event 2" ∷ []) ∷
    -- 6: second root
    prints (
    "(rdf:RDF" ∷
    "Axmlns:rdf http://www.w3.org/1999/02/22-rdf-syntax-ns#" ∷
    "Axmlns:e http://e/" ∷
    ")rdf:RDF" ∷
    "(rdf:RDF" ∷ []) (
    "# refused 6 at event 3" ∷ []) ∷
    -- 6: repeated attribute, by expanded names
    prints (
    "(rdf:RDF" ∷
    "Axmlns:rdf http://www.w3.org/1999/02/22-rdf-syntax-ns#" ∷
    "Axmlns:e http://e/" ∷
    "Axmlns:f http://e/" ∷
    "Ae:a 1" ∷
    "Af:a 2" ∷ []) (
    "# refused 6 at event 1" ∷ []) ∷
    -- 6: illegal xmlns
    prints (
    "(rdf:RDF" ∷
    "Axmlns:rdf http://www.w3.org/1999/02/22-rdf-syntax-ns#" ∷
    "Axmlns:e http://e/" ∷
    "Axmlns:f " ∷ []) (
    "# refused 6 at event 1" ∷ []) ∷
    -- 6: at finish: open element
    prints (
    "(rdf:RDF" ∷
    "Axmlns:rdf http://www.w3.org/1999/02/22-rdf-syntax-ns#" ∷
    "Axmlns:e http://e/" ∷ []) (
    "# refused 6 at event 2" ∷ []) ∷
    -- 6: at finish: no root
    prints [] (
    "# refused 6 at event 1" ∷ []) ∷
    -- 8: unknown prefix
    prints (
    "(e:P" ∷ []) (
    "# refused 8 at event 1" ∷ []) ∷
    -- 8: attribute without prefix
    prints (
    "(rdf:RDF" ∷
    "Axmlns:rdf http://www.w3.org/1999/02/22-rdf-syntax-ns#" ∷
    "Axmlns:e http://e/" ∷
    "Aa b" ∷ []) (
    "# refused 8 at event 1" ∷ []) ∷
    -- 9: no NCName
    prints (
    "(rdf:RDF" ∷
    "Axmlns:rdf http://www.w3.org/1999/02/22-rdf-syntax-ns#" ∷
    "Axmlns:e http://e/" ∷
    "(e:P" ∷
    "Ardf:ID 1" ∷ []) (
    "# refused 9 at event 2" ∷ []) ∷
    -- 10: bad xml:lang
    prints (
    "(rdf:RDF" ∷
    "Axmlns:rdf http://www.w3.org/1999/02/22-rdf-syntax-ns#" ∷
    "Axmlns:e http://e/" ∷
    "(e:P" ∷
    "Axml:lang en-" ∷ []) (
    "# refused 10 at event 2" ∷ []) ∷
    -- 11: relative with no base
    prints (
    "(rdf:RDF" ∷
    "Axmlns:rdf http://www.w3.org/1999/02/22-rdf-syntax-ns#" ∷
    "Axmlns:e http://e/" ∷
    "(e:P" ∷
    "Ardf:about a" ∷ []) (
    "# refused 11 at event 2" ∷ []) ∷
    -- 12: same rdf:ID
    prints (
    "(rdf:RDF" ∷
    "Axmlns:rdf http://www.w3.org/1999/02/22-rdf-syntax-ns#" ∷
    "Axmlns:e http://e/" ∷
    "Axml:base http://e/d" ∷
    "(rdf:Description" ∷
    "Ardf:ID i" ∷
    ")rdf:Description" ∷
    "(rdf:Description" ∷
    "Ardf:ID i" ∷ []) (
    "# refused 12 at event 4" ∷ []) ∷
    -- 13: full stop
    prints (
    "(rdf:RDF" ∷
    "Axmlns:rdf http://www.w3.org/1999/02/22-rdf-syntax-ns#" ∷
    "Axmlns:e http://e/" ∷
    "(e:P" ∷
    "Ardf:nodeID a." ∷ []) (
    "# refused 13 at event 2" ∷ []) ∷
    -- 14: reserved element
    prints (
    "(rdf:RDF" ∷
    "Axmlns:rdf http://www.w3.org/1999/02/22-rdf-syntax-ns#" ∷
    "Axmlns:e http://e/" ∷
    "(rdf:li" ∷ []) (
    "# refused 14 at event 2" ∷ []) ∷
    -- 14: reserved attribute
    prints (
    "(rdf:RDF" ∷
    "Axmlns:rdf http://www.w3.org/1999/02/22-rdf-syntax-ns#" ∷
    "Axmlns:e http://e/" ∷
    "(e:P" ∷
    "Ardf:li x" ∷ []) (
    "# refused 14 at event 2" ∷ []) ∷
    -- 15: two of ID, nodeID, about
    prints (
    "(rdf:RDF" ∷
    "Axmlns:rdf http://www.w3.org/1999/02/22-rdf-syntax-ns#" ∷
    "Axmlns:e http://e/" ∷
    "Axml:base http://e/d" ∷
    "(e:P" ∷
    "Ardf:ID i" ∷
    "Ardf:about a" ∷ []) (
    "# refused 15 at event 2" ∷ []) ∷
    -- 16: text in rdf:RDF
    prints (
    "(rdf:RDF" ∷
    "Axmlns:rdf http://www.w3.org/1999/02/22-rdf-syntax-ns#" ∷
    "Axmlns:e http://e/" ∷
    "-a" ∷ []) (
    "# refused 16 at event 2" ∷ []) ∷
    -- 17: empty Literal
    prints (
    "(rdf:RDF" ∷
    "Axmlns:rdf http://www.w3.org/1999/02/22-rdf-syntax-ns#" ∷
    "Axmlns:e http://e/" ∷
    "(rdf:Description" ∷
    "(e:q" ∷
    "Ardf:parseType Literal" ∷
    ")e:q" ∷ []) (
    "# refused 17 at event 4" ∷ []) ∷
    []

pub each_refusal : failing 1 table ≡ []
unfolding E.all table
each_refusal = refl
