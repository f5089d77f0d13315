-- Document 01, "Proved": what a worked example is, and the test of a table of them.
use Rattle.std.specs.Prelude.{Bool, true, false, ◌&&◌, ◌||◌, not, List, [], ◌∷◌, ◌++◌, ℕ, suc, eqb}
use Prim.Native.String.{String}
use Rattle.spec.specs.Bytes.{Bytes, ascii, byte, same, begins, when◌then◌else◌}
use Rattle.spec.specs.Rfc3986.{resolve}
use Rattle.spec.specs.Rfc5646.{is_language_tag}
use Rattle.spec.specs.Rdf.{rdf}
use Rattle.spec.specs.NTriplesGrammar.{is_n_triples}
use Rattle.spec.specs.NTriplesGrammar as G
use Rattle.spec.specs.Pyx2nt.{pyx2nt}
use Rattle.spec.specs.Pyx2nt as M
pub mod Proved
pub mod Productions
pub mod Refusals
pub mod Calls
pub mod Order
pub mod Xmp
pub mod XmlLang
pub mod Rfc3986
pub mod Reading

-- the lines of a text
unfoldable pub page : List String → Bytes
page [] = []
page (l ∷ ls) = ascii l ++ (byte "\n" ∷ page ls)

-- document 01: R stands for the rdf namespace, printed whole
unfoldable pub printed : Bytes → Bytes
printed [] = []
printed (c ∷ []) = c ∷ []
printed (c ∷ d ∷ s) =
    elim (eqb c (byte "<") && eqb d (byte "R")) [
      | true ↦ byte "<" ∷ rdf "" ++ printed s
      | false ↦ c ∷ printed (d ∷ s)
    ]

pub data Example : Type 0 where
  -- a document's lines print lines
  prints : List String → List String → Example
  -- a reference against a base gives an IRI
  resolves : String → String → String → Example
  -- a language tag is good, or refused
  good_tag bad_tag : String → Example

unfoldable pub holds : Example → Bool
holds (prints i o) = same (pyx2nt (page i)) (printed (page o))
holds (resolves b r i) = same (resolve (ascii b) (ascii r)) (ascii i)
holds (good_tag t) = is_language_tag (ascii t)
holds (bad_tag t) = not (is_language_tag (ascii t))

-- the places of the examples that fail, from n on
unfoldable pub failing : ℕ → List Example → List ℕ
failing n [] = []
failing n (e ∷ l) = when holds e then failing (suc n) l else (n ∷ failing (suc n) l)

-- are these answers, each with the one that is expected?
unfoldable pub agree : List (ℕ × ℕ) → Bool
agree [] = true
agree (r ∷ rs) = eqb r.0 r.1 && agree rs

-- what the examples print is N-Triples; a refusal's line is a comment there
unfoldable pub are_n_triples : List Example → Bool
are_n_triples [] = true
are_n_triples (prints i o ∷ l) = is_n_triples (printed (page o)) && are_n_triples l
are_n_triples (resolves b r i ∷ l) = are_n_triples l
are_n_triples (good_tag t ∷ l) = are_n_triples l
are_n_triples (bad_tag t ∷ l) = are_n_triples l

unfoldable pub all : Unit {0}
unfolding M.all G.all page printed holds failing agree are_n_triples
all = tt
