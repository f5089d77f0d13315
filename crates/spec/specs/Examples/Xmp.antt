-- Document 02, request 1: the XMP profile, by its smallest inputs. X1 to X25 are the team's readings of the request; the numbers are those of
-- document 01 and 19.
use Rattle.std.specs.Prelude.{◌≡◌, refl, Bool, true, List, [], ◌∷◌, ◌++◌, ℕ, zero, suc, length, drop}
use Rattle.std.proofs.Math.Option.{Option, none, some}
use Prim.Native.String.{String}
use Rattle.spec.specs.Bytes.{Bytes, ascii, byte, same}
use Rattle.spec.specs.Limits.{program_room}
use Rattle.spec.specs.declared.Mode.{Mode}
use Rattle.spec.specs.Modes.{base_mode, xmp_mode}
use Rattle.spec.specs.Document.{Frame, held_bytes, fresh}
use Rattle.spec.specs.Calls.{State, is_open, is_closed, unlawful, Report, call_step, call_finish}
use Rattle.spec.specs.Examples.{page, agree}
use Rattle.spec.specs.Examples as E

-- ---- documents

-- all output, and the first answer that is not 0
pub record Outcome : Type 0 where
  pub output : Bytes
  pub answer : ℕ

unfoldable pub then : Report → Outcome → Outcome
then r o = elim r.answer [ zero ↦ record { output = r.output ++ o.output; answer = o.answer } | suc n ↦ record { output = []; answer = suc n } ]

-- the end tags of these elements, and finish
unfoldable pub ended : List Frame → State → Outcome
ended [] s = record { output = []; answer = (call_finish s).answer }
ended (f ∷ fs) s = let r = call_step true (byte ")" ∷ f.name ++ (byte "\n" ∷ [])) program_room s in then r (ended fs r.behind)

-- end tags that are missing are put in
unfoldable pub ended_all : State → Outcome
ended_all (is_open d) = ended d.frames (is_open d)
ended_all (is_closed d) = record { output = []; answer = 4 }
ended_all unlawful = record { output = []; answer = 3 }

-- with as many steps as there are bytes, at most
unfoldable pub outcome : ℕ → Bytes → State → Outcome
outcome zero rest s = ended_all s
outcome (suc n) [] s = ended_all s
outcome (suc n) (b ∷ rest) s = let r = call_step true (b ∷ rest) program_room s in then r (outcome n (drop r.consumed (b ∷ rest)) r.behind)

unfoldable pub document : Mode → Option Bytes → List String → Outcome
document m base ls = outcome (length (page ls)) (page ls) (is_open (fresh m base))

-- in the profile; with the start base http://e/d; and as document 01
unfoldable pub xmp : List String → ℕ
xmp ls = (document xmp_mode none ls).answer

unfoldable pub xmp_base : List String → ℕ
xmp_base ls = (document xmp_mode (some (ascii "http://e/d")) ls).answer

unfoldable pub base : List String → ℕ
base ls = (document base_mode none ls).answer

-- held bytes and finish behind all lines, with no end tag put in
unfoldable pub behind : ℕ → Bytes → State → State
behind zero rest s = s
behind (suc n) [] s = s
behind (suc n) (b ∷ rest) s = let r = call_step true (b ∷ rest) program_room s in behind n (drop r.consumed (b ∷ rest)) r.behind

unfoldable pub held_in : State → ℕ
held_in (is_open d) = held_bytes d
held_in (is_closed d) = 0
held_in unlawful = 0

unfoldable pub stays : List String → State
stays ls = behind (length (page ls)) (page ls) (is_open (fresh xmp_mode none))

-- ---- lines that return

unfoldable pub head : List String
head = "Axmlns:rdf http://www.w3.org/1999/02/22-rdf-syntax-ns#" ∷ "Axmlns:e http://e/" ∷ []

unfoldable pub root : List String
root = "(rdf:RDF" ∷ head

unfoldable pub top : List String
top = "(rdf:Description" ∷ "Ardf:about http://e/s" ∷ []

unfoldable pub wrap : List String
wrap = "(x:xmpmeta" ∷ "Axmlns:x adobe:ns:meta/" ∷ []

-- inside an rdf:Alt of a packet
unfoldable pub alt : List String
alt = root ++ (top ++ ("(e:q" ∷ "(rdf:Alt" ∷ []))

-- ---- the readings

unfoldable pub wrapper_table : List (ℕ × ℕ)
wrapper_table =
    -- X1: without the profile the wrapper is a node element
    (base (wrap ++ root), 14) ∷ (xmp (wrap ++ root), 0) ∷
    -- X2: the root is the wrapper or rdf:RDF; 14 stands first
    (xmp ("(rdf:Description" ∷ head ++ ("Ardf:about a:" ∷ [])), 19) ∷ (xmp ("(rdf:li" ∷ head), 14) ∷
    -- X3: by its expanded name, one byte string
    (xmp ("(xmpmeta" ∷ "Axmlns adobe:ns:meta/" ∷ root), 0) ∷ (xmp ("(x:xapmeta" ∷ "Axmlns:x adobe:ns:meta/" ∷ []), 19) ∷
    (xmp ("(x:meta" ∷ "Axmlns:x adobe:ns:meta/xmp" ∷ root), 0) ∷
    -- X4: its name and its bindings are held
    (held_in (stays wrap), 24) ∷ (held_in (stays (wrap ++ ("Axml:lang en" ∷ "Axml:base http://w/" ∷ []))), 24) ∷
    -- X5: of its attributes 6, and 8 for an unknown prefix
    (xmp (wrap ++ ("Au:a v" ∷ [])), 8) ∷ (xmp (wrap ++ ("Aa b" ∷ root)), 0) ∷ (xmp (wrap ++ ("Aa b" ∷ "Aa c" ∷ [])), 6) ∷
    (xmp (wrap ++ ("Axml:lang -" ∷ "Axml:base rel" ∷ root)), 0) ∷ (xmp (wrap ++ ("Axmlns:p " ∷ [])), 6) ∷
    -- X6: exactly one rdf:RDF
    (xmp (wrap ++ (head ++ ("(rdf:RDF" ∷ ")rdf:RDF" ∷ "(rdf:RDF" ∷ []))), 19) ∷ (xmp (wrap ++ (head ++ ("(rdf:li" ∷ []))), 14) ∷
    (xmp (wrap ++ (head ++ ("(e:P" ∷ []))), 19) ∷ (xmp wrap, 19) ∷
    -- X7: text is 16; blank text and instructions may stand anywhere
    (xmp (wrap ++ ("-x" ∷ root)), 16) ∷ (xmp (wrap ++ ("- \\n" ∷ "?xpacket" ∷ root)), 0) ∷
    -- X8: no top-level element
    (xmp (wrap ++ root), 0) ∷
    -- X22: the wrapper in itself; in a node it is a node or a property as any other
    (xmp (wrap ++ ("(x:xmpmeta" ∷ [])), 19) ∷ (xmp (wrap ++ (root ++ (top ++ ("(x:xmpmeta" ∷ "(x:xmpmeta" ∷ [])))), 0) ∷
    -- X23: behind it, and finish inside it
    ((call_finish (stays (wrap ++ (root ++ (")rdf:RDF" ∷ []))))).answer, 6) ∷ (xmp (wrap ++ (root ++ (")rdf:RDF" ∷ ")x:xmpmeta" ∷ "- \\n" ∷ "?xpacket" ∷ []))), 0) ∷
    (xmp (wrap ++ (root ++ (")rdf:RDF" ∷ ")x:xmpmeta" ∷ root))), 6) ∷
    []

unfoldable pub rule_table : List (ℕ × ℕ)
rule_table =
    -- X9: rdf:about is required
    (xmp (root ++ ("(rdf:Description" ∷ [])), 19) ∷
    -- X10: resolved, against the base in force at each; 11 stands first
    (xmp_base (root ++ ("(rdf:Description" ∷ "Ardf:about " ∷ ")rdf:Description" ∷ "(rdf:Description" ∷ "Ardf:about d" ∷ [])), 0) ∷
    (xmp_base (root ++ ("(rdf:Description" ∷ "Ardf:about " ∷ ")rdf:Description" ∷ "(rdf:Description" ∷ "Ardf:about " ∷ "Axml:base http://f/" ∷ [])), 19) ∷
    (xmp (root ++ ("(rdf:Description" ∷ "Ardf:about " ∷ [])), 11) ∷
    -- X11: rdf:about of inner nodes is free, and the first is not forgotten behind them
    (xmp (root ++ (top ++ ("(e:q" ∷ "(rdf:Description" ∷ "Ardf:about a:z" ∷ []))), 0) ∷
    (xmp (root ++ (top ++ ("(e:q" ∷ "(rdf:Description" ∷ "Ardf:about a:z" ∷ ")rdf:Description" ∷ ")e:q" ∷ ")rdf:Description" ∷ "(rdf:Description" ∷ "Ardf:about a:z" ∷ []))), 19) ∷
    -- top-level elements are rdf:Description
    (xmp (root ++ ("(e:P" ∷ "Ardf:about http://e/s" ∷ [])), 19) ∷
    -- X12: out, wherever they stand
    (xmp_base (root ++ ("Ardf:ID i" ∷ [])), 19) ∷ (xmp_base (root ++ (top ++ ("Ardf:datatype x" ∷ []))), 19) ∷
    -- X13: their own faults come first
    (xmp_base (root ++ (top ++ ("(e:q" ∷ "Ardf:ID 1" ∷ []))), 9) ∷ (xmp (root ++ (top ++ ("(e:q" ∷ "Ardf:ID i" ∷ []))), 11) ∷
    -- X14: every rdf:parseType but Resource
    (xmp (root ++ (top ++ ("Ardf:parseType Literal" ∷ []))), 19) ∷ (xmp (root ++ (top ++ ("Ardf:parseType Resource" ∷ []))), 0) ∷
    (xmp (root ++ (top ++ ("(e:q" ∷ "Ardf:parseType resource" ∷ []))), 19) ∷
    -- X15: all else as in the base
    (xmp (root ++ (top ++ ("Ardf:bagID b" ∷ []))), 0) ∷
    -- X16: rdf:li of any kind in an rdf:Alt; rdf:_1 is none
    (xmp (alt ++ ("(rdf:_1" ∷ "Axml:lang en" ∷ ")rdf:_1" ∷ "(rdf:li" ∷ [])), 0) ∷
    (xmp (alt ++ ("(rdf:li" ∷ "Axml:lang en" ∷ ")rdf:li" ∷ "(rdf:li" ∷ "Ardf:parseType Resource" ∷ [])), 19) ∷
    -- X17: its own xml:lang, not the one in force; where the first has none the others are free; the empty value counts too, by request 2
    (xmp (root ++ (top ++ ("Axml:lang en" ∷ "(e:q" ∷ "(rdf:Alt" ∷ "(rdf:li" ∷ ")rdf:li" ∷ "(rdf:li" ∷ "Axml:lang de" ∷ []))), 0) ∷
    (xmp (root ++ (top ++ ("Axml:lang en" ∷ "(e:q" ∷ "(rdf:Alt" ∷ "(rdf:li" ∷ "Axml:lang de" ∷ ")rdf:li" ∷ "(rdf:li" ∷ []))), 19) ∷
    (xmp (alt ++ ("(rdf:li" ∷ "Axml:lang " ∷ ")rdf:li" ∷ "(rdf:li" ∷ [])), 19) ∷
    (xmp (alt ++ ("(rdf:li" ∷ "Axml:lang en" ∷ ")rdf:li" ∷ "(rdf:li" ∷ "Axml:lang " ∷ [])), 0) ∷
    -- another rdf:Alt in it is for itself, and a property rdf:Alt is none
    (xmp (alt ++ ("(rdf:li" ∷ "Axml:lang en" ∷ "(rdf:Alt" ∷ "(rdf:li" ∷ ")rdf:li" ∷ "(rdf:li" ∷ [])), 0) ∷
    (xmp (root ++ (top ++ ("(rdf:Alt" ∷ "Ardf:parseType Resource" ∷ "(rdf:li" ∷ "Axml:lang en" ∷ ")rdf:li" ∷ "(rdf:li" ∷ []))), 0) ∷
    -- X19: the rdf:about that is remembered is not held
    (held_in (stays (root ++ (top ++ (")rdf:Description" ∷ [])))), 63) ∷
    -- X20: after 14 and before 15
    (xmp (root ++ (top ++ ("Ardf:nodeID n" ∷ []))), 19) ∷ (base (root ++ (top ++ ("Ardf:nodeID n" ∷ []))), 15) ∷ (xmp (root ++ ("(rdf:li" ∷ "Ardf:nodeID n" ∷ [])), 14) ∷
    -- X25: Literal content cannot occur
    (xmp (root ++ (top ++ ("(e:q" ∷ "Ardf:parseType Literal" ∷ ")e:q" ∷ []))), 19) ∷
    []

-- documents and all that they write
unfoldable pub line_table : List (Bytes × Bytes)
line_table =
    -- X21: the wrapper and rdf:RDF take no label
    ((document xmp_mode none (wrap ++ (root ++ (top ++ ("(e:q" ∷ "(rdf:Description" ∷ []))))).output, page ("<http://e/s> <http://e/q> _:riog00000002 ." ∷ [])) ∷
    -- X24: of the wrapper only its bindings reach inside
    (
      (document xmp_mode (some (ascii "http://e/d")) (wrap ++ ("Axml:base http://w/" ∷ "Axml:lang en" ∷ root ++ ("(rdf:Description" ∷ "Ardf:about p" ∷ "(e:q" ∷ "-x" ∷ [])))).output,
      page ("<http://e/p> <http://e/q> \"x\" ." ∷ []),
    ) ∷
    ((document xmp_mode none (wrap ++ (head ++ ("(rdf:RDF" ∷ top ++ ("(e:q" ∷ "-x" ∷ []))))).output, page ("<http://e/s> <http://e/q> \"x\" ." ∷ [])) ∷
    []

unfoldable pub written : List (Bytes × Bytes) → List Bool
written [] = []
written (r ∷ rs) = same r.0 r.1 ∷ written rs

pub each-wrapper : agree wrapper_table ≡ true
unfolding E.all then ended ended_all outcome document xmp xmp_base base behind held_in stays head root top wrap alt wrapper_table
each-wrapper = refl

pub each_rule : agree rule_table ≡ true
unfolding E.all then ended ended_all outcome document xmp xmp_base base behind held_in stays head root top wrap alt rule_table
each_rule = refl

pub each_line : written line_table ≡ true ∷ true ∷ true ∷ []
unfolding E.all then ended ended_all outcome document head root top wrap line_table written
each_line = refl
