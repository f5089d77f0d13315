-- Document 01, "Numbers returned": answers that pyx2nt does not meet, by the calls themselves.
use Rattle.std.specs.Prelude.{◌≡◌, refl, true, false, List, [], ◌∷◌, ◌++◌, ℕ, zero, suc}
use Rattle.std.proofs.Math.Option.{none, some}
use Rattle.spec.specs.Bytes.{Bytes, ascii}
use Rattle.spec.specs.Limits.{most_labels}
use Rattle.spec.specs.NTriples.{named}
use Rattle.spec.specs.Modes.{base_mode}
use Rattle.spec.specs.XmlLang.{unsaid}
use Rattle.spec.specs.Document.{node_element, ordinary, fresh}
use Rattle.spec.specs.Calls.{State, is_open, unlawful, no_document, call_start, call_step, call_finish}
use Rattle.spec.specs.Examples.{page, agree}
use Rattle.spec.specs.Examples as E

unfoldable pub new : State
new = is_open (fresh base_mode none)

-- a document that has generated every label
unfoldable pub spent : State
spent = is_open (record { mode = base_mode; start_base = none; frames = []; rooted = false; labels = most_labels; ids = [] })

-- a document in a node element that has had n rdf:li
unfoldable pub in_node : ℕ → State
in_node n = is_open (record {
  mode = base_mode;
  start_base = none;
  frames = record { name = ascii "rdf:Bag"; bindings = []; own_base = none; own_tag = unsaid; kind = node_element (named (ascii "a:b")) n; part = ordinary } ∷ [];
  rooted = true;
  labels = 1;
  ids = [];
})

unfoldable pub li : Bytes
li = page ("(rdf:li" ∷ "Axmlns:rdf http://www.w3.org/1999/02/22-rdf-syntax-ns#" ∷ [])

unfoldable pub many_of : ℕ → ℕ → Bytes
many_of zero b = []
many_of (suc n) b = b ∷ many_of n b

unfoldable pub description : Bytes
description = page ("(rdf:Description" ∷ "Axmlns:rdf http://www.w3.org/1999/02/22-rdf-syntax-ns#" ∷ [])

-- a start tag with an rdf:ID and a line
unfoldable pub with_id : Bytes
with_id = page ("(a:P" ∷ "Axmlns:rdf http://www.w3.org/1999/02/22-rdf-syntax-ns#" ∷ "Axmlns:a a:" ∷ "Axml:base a:b" ∷ "Ardf:ID i" ∷ [])

-- the answer of a step, with "no more" and without
unfoldable pub whole : Bytes → State → ℕ
whole s d = (call_step true s 1_000 d).answer

unfoldable pub part : Bytes → State → ℕ
part s d = (call_step false s 1_000 d).answer

-- what is asked, and the answer
unfoldable pub answers : List (ℕ × ℕ)
answers =
    -- 1: no complete event yet; with "no more", only for an empty rest
    (part [] new, 1) ∷ (part (ascii "-a\n") new, 1) ∷ (part (ascii "?a") new, 1) ∷ (part (ascii "?a\n") new, 0) ∷ (part (ascii "- \n)") new, 0) ∷
    (whole [] new, 1) ∷ (whole (ascii "- \n") new, 0) ∷ (whole (ascii "- ") new, 5) ∷
    -- 2: the lines exceed the output room
    ((call_step true (description ++ page ("Ardf:about a:b" ∷ "Aa:b c" ∷ "Axmlns:a a:" ∷ [])) 17 new).answer, 2) ∷
    ((call_step true (description ++ page ("Ardf:about a:b" ∷ "Aa:b c" ∷ "Axmlns:a a:" ∷ [])) 18 new).answer, 0) ∷
    -- 2 leaves no rdf:ID behind: with room the same event is accepted
    ((call_step true with_id 0 new).answer, 2) ∷ (whole with_id (call_step true with_id 0 new).behind, 0) ∷
    -- 3: not by the rules; at start, store lengths only, and before 11
    (whole (ascii "?a\n") unlawful, 3) ∷ ((call_finish unlawful).answer, 3) ∷ ((call_start true base_mode none unlawful).answer, 0) ∷
    ((call_start false base_mode none new).answer, 3) ∷ ((call_start false base_mode (some (ascii "a")) new).answer, 3) ∷
    -- 4: closed
    (whole [] no_document, 4) ∷ ((call_finish no_document).answer, 4) ∷
    -- 6 at finish
    ((call_finish new).answer, 6) ∷
    -- 11 at start
    ((call_start true base_mode (some (ascii "a")) new).answer, 11) ∷ ((call_start true base_mode (some (0xFF ∷ [])) new).answer, 11) ∷
    -- 18: a 100,000,000th label
    (whole description new, 0) ∷ (whole description spent, 18) ∷
    -- 18: a 100,000,000th rdf:li in one node; 15 comes first
    (whole li (in_node 99_999_998), 0) ∷ (whole li (in_node 99_999_999), 18) ∷
    (whole (li ++ page ("Ardf:resource a:b" ∷ "Ardf:nodeID a" ∷ [])) (in_node 99_999_999), 15) ∷ []

unfoldable pub all : Unit {0}
unfolding E.all new spent in_node li many_of description with_id whole part answers
all = tt

pub each-answer : agree answers ≡ true
unfolding all
each-answer = refl
