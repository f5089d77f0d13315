-- What is generated for a start tag, written into a lent area.
use Rattle.std.specs.Prelude.{◌≡◌, Bool, true, false, List, ◌++◌, ℕ, suc, ◌+◌, ◌-◌, ◌≤◌, length, take, drop}
use Rattle.std.proofs.Common.{ap, ◌∙◌, add-one, arith, length-drop}
use Rattle.spec.specs.Bytes.{Bytes, ascii, when◌then◌else◌}
use Rattle.spec.specs.Rdf.{rdf}
use Rattle.spec.specs.NTriples.{label, decimal}
use Rattle.spec.specs.Productions.{is_li, property_iri}
use Rattle.copy.specs.Copy.{Put, Wrote, then as also, wrote_as, put-fits, wrote_same, rest_of}
use Rattle.label.specs.Digits.{Decimals}
use Rattle.label.specs.Label.{length_label}

-- the IRI of the rdf:li after k others
pub li_iri : (i : Bytes) (k : ℕ) → is_li i ≡ true → property_iri i (suc k) ≡ rdf "_" ++ decimal (k + 1)
unfolding property_iri when◌then◌else◌
li_iri i k h = rw (h, add-one k)

-- and of any other property
pub own_iri : (i : Bytes) (k : ℕ) → is_li i ≡ false → property_iri i k ≡ i
unfolding property_iri when◌then◌else◌
own_iri i k h = rw h

-- the stores of `property_iri`: the namespace, `_`, the digits
pub iri_made : {d e f g : List ℕ} {at from : ℕ} {ds : List ℕ} {a b c : Bool} (k : ℕ) → at + 64 ≤ length d → Decimals (k + 1) ds from
    → Put d at (ascii "http://www.w3.org/1999/02/22-rdf-syntax-ns#") e a → Put e (at + 43) (ascii "_") f b → Put f (at + 43 + 1) (take (20 - from) (drop from ds)) g c
    → Wrote d g at (at + (43 + 1 + (20 - from))) (rdf "_" ++ decimal (k + 1))
unfolding rdf ascii
iri_made {d} {e} {f} {g} {at} {from} {ds} k h m p q r =
    let s : take (20 - from) (drop from ds) ≡ drop from ds = rw (← m.size) (rest_of ds from) in
    let n : length (drop from ds) ≡ 20 - from = rw (← m.size) (length-drop from ds) in
    let x : Wrote d e at (at + 43) (ascii "http://www.w3.org/1999/02/22-rdf-syntax-ns#") = put-fits p (omega arith) in
    let y : Wrote e f (at + 43) (at + 43 + 1) (ascii "_") = put-fits q (omega (arith, wrote_same x)) in
    let u : at + 43 + 1 + length (drop from ds) ≡ at + (43 + 1 + (20 - from)) = omega arith in
    let z : Wrote f g (at + 43 + 1) (at + 43 + 1 + length (drop from ds)) (drop from ds) = put-fits (rw s at r) (omega (arith, wrote_same x, wrote_same y, m.within)) in
    wrote_as (also x (also y (rw u at z))) (ap (λ (t : Bytes). ascii "http://www.w3.org/1999/02/22-rdf-syntax-ns#" ++ (ascii "_" ++ t)) m.text)

pub label-made : {d s e : List ℕ} {at : ℕ} {r : Bool} (n : ℕ) → s ≡ label (n + 1) → at + 12 ≤ length d → Put d at s e r → Wrote d e at (at + 12) (label (n + 1))
label-made {d} {s} {e} {at} n q h p =
    let l : length s ≡ 12 = ap length q ∙ length_label (n + 1) in
    wrote_as (rw l at (put-fits p (omega arith))) q
