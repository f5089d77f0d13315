-- Document 02, request 2: the empty xml:lang, by its smallest inputs. L1 to L8 are the team's readings of the request; X17 is request 1's
-- that it touches, in Xmp.
use Rattle.std.specs.Prelude.{◌≡◌, refl, true, List, [], ◌∷◌, ◌++◌, ℕ, length}
use Rattle.std.proofs.Math.Option.{none}
use Prim.Native.String.{String}
use Rattle.spec.specs.Bytes.{Bytes, ascii}
use Rattle.spec.specs.Modes.{base_mode}
use Rattle.spec.specs.Document.{fresh}
use Rattle.spec.specs.Calls.{is_open}
use Rattle.spec.specs.declared.Verdict.{Verdict}
use Rattle.spec.specs.declared.Verdict.TheVariants.{Good, Clears, Bad}
use Rattle.spec.specs.XmlLang.{verdict}
use Rattle.spec.specs.Examples.{page, agree}
use Rattle.spec.specs.Examples as E
use Rattle.spec.specs.Examples.Xmp.{then, ended, ended_all, outcome, document, base, behind, held_in, head, written}

-- a node element, with these lines behind its own
unfoldable pub node : List String → List String
node ls = "(e:P" ∷ head ++ ("Ardf:about http://e/s" ∷ ls)

-- the bytes held behind all lines, with no end tag put in
unfoldable pub held : List String → ℕ
held ls = held_in (behind (length (page ls)) (page ls) (is_open (fresh base_mode none)))

-- all that a document writes, in the base mode
unfoldable pub lines : List String → Bytes
lines ls = (document base_mode none ls).output

-- a node's own line, and these behind it
unfoldable pub typed : List String → Bytes
typed ls = page ("<http://e/s> <http://www.w3.org/1999/02/22-rdf-syntax-ns#type> <http://e/P> ." ∷ ls)

unfoldable pub verdicts : List Verdict
verdicts = verdict (ascii "") ∷ verdict (ascii " ") ∷ verdict (ascii "en-GB") ∷ verdict (ascii "en-") ∷ []

unfoldable pub answer_table : List (ℕ × ℕ)
answer_table =
    -- L1: exactly the empty value
    (base (node ("Axml:lang " ∷ [])), 0) ∷ (base (node ("Axml:lang  " ∷ [])), 10) ∷
    -- L4: nothing is held for it
    (held (node ("Axml:lang " ∷ [])), 69) ∷ (held (node []), 69) ∷ (held (node ("Axml:lang en" ∷ [])), 71) ∷
    -- L6: it means nothing in Literal content
    (base (node ("(e:q" ∷ "Ardf:parseType Literal" ∷ "(b" ∷ "Axml:lang " ∷ [])), 0) ∷
    []

-- documents and all that they write
unfoldable pub line_table : List (Bytes × Bytes)
line_table =
    -- L2: its own property attributes are plain, wherever they stand
    (
      lines ("(rdf:RDF" ∷ head ++ ("Axml:lang en" ∷ "(e:P" ∷ "Ardf:about http://e/s" ∷ "Ae:a v" ∷ "Axml:lang " ∷ "Ae:b w" ∷ [])),
      page ("<http://e/s> <http://e/a> \"v\" ." ∷ "<http://e/s> <http://e/b> \"w\" ." ∷ "<http://e/s> <http://www.w3.org/1999/02/22-rdf-syntax-ns#type> <http://e/P> ." ∷ []),
    ) ∷
    -- L3: until an inner one; behind it the outer language is back
    (
      lines (node ("Axml:lang en" ∷ "(e:q" ∷ "Axml:lang " ∷ ")e:q" ∷ "(e:q" ∷ [])),
      typed ("<http://e/s> <http://e/q> \"\" ." ∷ "<http://e/s> <http://e/q> \"\"@en ." ∷ []),
    ) ∷
    (lines (node ("Axml:lang " ∷ "(e:q" ∷ "Axml:lang EN" ∷ "-x" ∷ [])), typed ("<http://e/s> <http://e/q> \"x\"@en ." ∷ [])) ∷
    -- L5: nothing to clear
    (lines (node ("Axml:lang " ∷ "(e:q" ∷ "-x" ∷ [])), typed ("<http://e/s> <http://e/q> \"x\" ." ∷ [])) ∷
    -- L7: apart from no attribute, which inherits
    (lines (node ("Axml:lang en" ∷ "(e:q" ∷ "Axml:lang " ∷ "-x" ∷ [])), typed ("<http://e/s> <http://e/q> \"x\" ." ∷ [])) ∷
    (lines (node ("Axml:lang en" ∷ "(e:q" ∷ "-x" ∷ [])), typed ("<http://e/s> <http://e/q> \"x\"@en ." ∷ [])) ∷
    -- L7: inherited through elements that say nothing
    (
      lines (node ("Axml:lang en" ∷ "(e:q" ∷ "Axml:lang " ∷ "(e:P" ∷ "Ardf:about http://e/s" ∷ "(e:q" ∷ "-x" ∷ [])),
      typed ("<http://e/s> <http://www.w3.org/1999/02/22-rdf-syntax-ns#type> <http://e/P> ." ∷ "<http://e/s> <http://e/q> \"x\" ." ∷ "<http://e/s> <http://e/q> <http://e/s> ." ∷ []),
    ) ∷
    -- L8: no `@`
    (lines (node ("Axml:lang en" ∷ "(e:q" ∷ "Axml:lang " ∷ [])), typed ("<http://e/s> <http://e/q> \"\" ." ∷ [])) ∷
    []

pub each-verdict : verdicts ≡ Clears ∷ Bad ∷ Good ∷ Bad ∷ []
unfolding E.all verdicts
each-verdict = refl

pub each-answer : agree answer_table ≡ true
unfolding E.all then ended ended_all outcome document base behind held_in head node held answer_table
each-answer = refl

pub each_line : written line_table ≡ true ∷ true ∷ true ∷ true ∷ true ∷ true ∷ true ∷ true ∷ []
unfolding E.all then ended ended_all outcome document head node lines typed line_table written
each_line = refl
