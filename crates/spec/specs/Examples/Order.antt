-- Document 01, "Order in step": for each pair of neighbours that one input can break, the earlier number is given. Pairs that take an input as
-- long as a limit stand in crate `theorems`, AtLimits.
use Rattle.std.specs.Prelude.{◌≡◌, refl, true, List, [], ◌∷◌, ℕ}
use Rattle.spec.specs.Bytes.{ascii, byte}
use Rattle.spec.specs.Calls.{State, no_document, call_step}
use Rattle.spec.specs.Examples.{page, agree}
use Rattle.spec.specs.Examples.Calls.{new, spent, many_of, whole, part}
use Rattle.spec.specs.Examples.Calls as C

-- a document in rdf:RDF, with a base and the rdf:ID `i` used
unfoldable pub in_rdf : State
in_rdf =
    (call_step true (page (
    "(rdf:RDF" ∷
    "Axmlns:rdf http://www.w3.org/1999/02/22-rdf-syntax-ns#" ∷
    "Axmlns:e http://e/" ∷
    "Axml:base http://e/d" ∷
    "Ardf:ID i" ∷ [])) 0 new).behind

-- before the event is judged: what is asked, and the answer
unfoldable pub before : List (ℕ × ℕ)
before =
    -- 4, then event length (7)
    (whole (many_of 40_000 (byte "?")) no_document, 4) ∷
    -- 1, then 5
    (part (ascii "-\\q") new, 1) ∷ (whole (ascii "-\\q") new, 5) ∷
    -- 5, then 6: an end tag without match, and no name
    (whole (ascii ")1\n") new, 5) ∷ (whole (ascii ")a\n") new, 6) ∷
    []

-- the start tag
unfoldable pub tags : List (ℕ × ℕ)
tags =
    -- 8 for the element, then 9 for an attribute
    (whole (page ("(f:P" ∷ "Ardf:ID 1" ∷ [])) in_rdf, 8) ∷ (whole (page ("(e:P" ∷ "Ardf:ID 1" ∷ [])) in_rdf, 9) ∷
    -- attributes as they stand: 9 and 8 either way
    (whole (page ("(e:P" ∷ "Ardf:ID 1" ∷ "Aa b" ∷ [])) in_rdf, 9) ∷ (whole (page ("(e:P" ∷ "Aa b" ∷ "Ardf:ID 1" ∷ [])) in_rdf, 8) ∷
    -- attributes as they stand: 10, 11 and 14 in every order of two
    (whole (page ("(e:P" ∷ "Axml:lang -" ∷ "Axml:base b" ∷ [])) in_rdf, 10) ∷ (whole (page ("(e:P" ∷ "Axml:base b" ∷ "Axml:lang -" ∷ [])) in_rdf, 11) ∷
    (whole (page ("(e:P" ∷ "Axml:base b" ∷ "Ardf:li x" ∷ [])) in_rdf, 11) ∷ (whole (page ("(e:P" ∷ "Ardf:li x" ∷ "Axml:base b" ∷ [])) in_rdf, 14) ∷
    -- 9, then 13, for one attribute
    (whole (page ("(e:P" ∷ "Ardf:nodeID 1." ∷ [])) in_rdf, 9) ∷ (whole (page ("(e:P" ∷ "Ardf:nodeID a." ∷ [])) in_rdf, 13) ∷
    -- each attribute, then rdf:ID (11): without a base, `#j` is relative
    (whole (page ("(rdf:RDF" ∷ "Axmlns:rdf http://www.w3.org/1999/02/22-rdf-syntax-ns#" ∷ "Ardf:ID j" ∷ "Ardf:li x" ∷ [])) new, 14) ∷
    (whole (page ("(rdf:RDF" ∷ "Axmlns:rdf http://www.w3.org/1999/02/22-rdf-syntax-ns#" ∷ "Ardf:ID j" ∷ [])) new, 11) ∷
    -- each attribute (11 for xml:base), then rdf:ID (12)
    (whole (page ("(e:P" ∷ "Ardf:ID i" ∷ "Axml:base b" ∷ [])) in_rdf, 11) ∷ (whole (page ("(e:P" ∷ "Ardf:ID i" ∷ [])) in_rdf, 12) ∷
    -- rdf:ID (12), then about, resource, datatype, type (11)
    (whole (page ("(e:P" ∷ "Ardf:about :" ∷ "Ardf:ID i" ∷ [])) in_rdf, 12) ∷ (whole (page ("(e:P" ∷ "Ardf:about :" ∷ "Ardf:ID j" ∷ [])) in_rdf, 11) ∷
    -- about, resource, datatype, type (11), then 14 for the element
    (whole (page ("(rdf:li" ∷ "Ardf:type :" ∷ [])) in_rdf, 11) ∷ (whole (page ("(rdf:li" ∷ "Ardf:type t" ∷ [])) in_rdf, 14) ∷
    -- 14 for the element, then 15
    (whole (page ("(rdf:li" ∷ "Ardf:ID j" ∷ "Ardf:about a" ∷ [])) in_rdf, 14) ∷ (whole (page ("(e:P" ∷ "Ardf:ID j" ∷ "Ardf:about a" ∷ [])) in_rdf, 15) ∷
    []

-- at last
unfoldable pub last : List (ℕ × ℕ)
last =
    -- 15, then 18
    (whole (page ("(rdf:P" ∷ "Axmlns:rdf http://www.w3.org/1999/02/22-rdf-syntax-ns#" ∷ "Ardf:nodeID a" ∷ "Ardf:about a:b" ∷ [])) spent, 15) ∷
    []

pub in_order_before : agree before ≡ true
unfolding C.all before
in_order_before = refl

pub in_order_tags : agree tags ≡ true
unfolding C.all in_rdf tags
in_order_tags = refl

pub in_order_last : agree last ≡ true
unfolding C.all last
in_order_last = refl
