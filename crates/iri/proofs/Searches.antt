-- The loops that search: what is left to find from the position that a loop has come to.
use mathlib.Core.Path.{◌≡◌, refl, ap, ◌∙◌}
use mathlib.Core.Bool.{true, false, ◌||◌}
use mathlib.Core.List.{[], ◌∷◌, ◌++◌, append-nil, append_assoc}
use Prim.Native.Nat.{ℕ, suc, ◌+◌, ◌<◌, ◌≤◌}
use native.Mathlib.Omega.{arith}
use native.Mathlib.Numerals.{add-one}
use lib.ListN.{length, take, drop, get_or, drop_of_length-le}
use lib.Dec.{eqb}
use lib.Seq.{drop-cons, drop-drop, take-suc}
use Rattle.std.specs.List.{list_any}
use Rattle.spec.specs.Bytes.{Bytes, ascii, begins, among, when◌then◌else◌}
use Rattle.copy.specs.Texts.{begins_true, after_drop}
use Rattle.iri.specs.Addresses.{up_to_gap, from_gap, Gap}

-- ---- a set of characters

pub list_any-among : (s : Bytes) (c : ℕ) → list_any (λ b. eqb b c) s ≡ among s c
unfolding among
list_any-among [] c = refl
list_any-among (b ∷ s) c = ap (eqb b c ||◌) (list_any-among s c)

-- ---- "::"

-- none begins in the first i bytes
pub record Gapless (s : Bytes) (i : ℕ) : Type 0 where
  pub upto : i ≤ length s
  pub front : up_to_gap s ≡ take i s ++ up_to_gap (drop i s)
  pub back : from_gap s ≡ from_gap (drop i s)

module _ {s : Bytes} {i : ℕ} (h : Gapless s i) where
  pub gapless_stop : i < length s → begins (ascii "::") (drop i s) ≡ true → Gap s (take i s) (drop (i + 2) s)
  unfolding ascii up_to_gap from_gap when◌then◌else◌
  gapless_stop l e =
      let b : begins (ascii "::") (get_or s i 0 ∷ drop (suc i) s) ≡ true = rw (drop-cons s i 0 l) at e in
      let q : drop i s ≡ 58 ∷ 58 ∷ drop 2 (drop i s) = begins_true (58 ∷ 58 ∷ []) (drop i s) e ∙ rw (after_drop (58 ∷ 58 ∷ []) (drop i s)) in
      let z : up_to_gap (drop i s) ≡ [] = rw (drop-cons s i 0 l, b) in
      let w : from_gap (drop i s) ≡ drop i s = rw (drop-cons s i 0 l, b) in
      record { front = h.front ∙ rw (z, append-nil); back = h.back ∙ w ∙ q ∙ rw (drop-drop 2 i s) }

  pub gapless_more : i < length s → begins (ascii "::") (drop i s) ≡ false → Gapless s (i + 1)
  unfolding up_to_gap from_gap when◌then◌else◌
  gapless_more l e =
      let b : begins (ascii "::") (get_or s i 0 ∷ drop (suc i) s) ≡ false = rw (drop-cons s i 0 l) at e in
      let z : up_to_gap (drop i s) ≡ get_or s i 0 ∷ up_to_gap (drop (suc i) s) = rw (drop-cons s i 0 l, b) in
      let w : from_gap (drop i s) ≡ from_gap (drop (suc i) s) = rw (drop-cons s i 0 l, b) in
      record { upto = omega arith; front = h.front ∙ rw (z, add-one i, take-suc s i 0 l, append_assoc); back = rw (add-one i) (h.back ∙ w) }

  pub gapless_done : length s ≤ i → from_gap s ≡ []
  unfolding from_gap
  gapless_done l = h.back ∙ rw (drop_of_length-le s l)
