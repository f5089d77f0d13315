-- The search of some ranges in order is being in one of them.
use mathlib.Core.Path.{◌≡◌, refl, sym, ◌∙◌}
use mathlib.Core.Bool.{true, false}
use mathlib.Core.List.{List, [], ◌∷◌}
use Prim.Native.Nat.{ℕ, ◌+◌, ◌<◌, ◌≤◌}
use native.Mathlib.Omega.{arith}
use native.Mathlib.Numerals.{add-one}
use lib.Dec.{leb}
use lib.ListN.{length, drop, get_or, drop_of_length-le}
use lib.Seq.{drop-cons}
use borrow.Author.Tests.{le-leb, lt-leb, leb-true}
use Rattle.spec.specs.Bytes.{between, in_ranges}
use Rattle.spec.proofs.Booleans.{and_left, and_right}
use Rattle.utils.specs.Ranges.{ascending_from}

-- a number before the first of some ascending ranges is in none
pub before_all : (a c : ℕ) (rs : List (ℕ × ℕ)) → c < a → ascending_from a rs ≡ true → in_ranges rs c ≡ false
unfolding in_ranges between ascending_from
before_all a c [] h s = refl
before_all a c (r ∷ rs) h s =
    let l : a ≤ r.0 = leb-true a r.0 (and_left (leb a r.0) (ascending_from r.0 rs) s) in
    rw (lt-leb r.0 c (omega arith)) (before_all r.0 c rs (omega arith) (and_right (leb a r.0) (ascending_from r.0 rs) s))

pub from_zero : (a : ℕ) (rs : List (ℕ × ℕ)) → ascending_from a rs ≡ true → ascending_from 0 rs ≡ true
unfolding ascending_from
from_zero a [] s = refl
from_zero a (r ∷ rs) s = rw (le-leb 0 r.0 (omega arith)) (and_right (leb a r.0) (ascending_from r.0 rs) s)

-- the first i ranges are passed, and the others decide
pub record Searching (t : List (ℕ × ℕ)) (c i : ℕ) : Type 0 where
  pub upto : i ≤ length t
  pub rest : in_ranges t c ≡ in_ranges (drop i t) c
  pub sorted : ascending_from 0 (drop i t) ≡ true

pub search_begins : (t : List (ℕ × ℕ)) (c : ℕ) → ascending_from 0 t ≡ true → Searching t c 0
search_begins t c s = record { upto = omega arith; rest = refl; sorted = s }

module _ {t : List (ℕ × ℕ)} {c i : ℕ} (s : Searching t c i) (l : i < length t) where
  split : drop i t ≡ get_or t i (0, 0) ∷ drop (i + 1) t
  split = rw (drop-cons t i (0, 0) l, add-one i)

  tail_ascends : ascending_from (get_or t i (0, 0)).0 (drop (i + 1) t) ≡ true
  unfolding ascending_from
  tail_ascends = and_right (leb 0 (get_or t i (0, 0)).0) _ (rw split at s.sorted)

  pub search_before : c < (get_or t i (0, 0)).0 → false ≡ in_ranges t c
  unfolding in_ranges between
  search_before b = sym (s.rest ∙ rw (split, lt-leb _ _ b) (before_all _ c _ b tail_ascends))

  pub search_hit : (get_or t i (0, 0)).0 ≤ c → c ≤ (get_or t i (0, 0)).1 → true ≡ in_ranges t c
  unfolding in_ranges between
  search_hit b g = sym (s.rest ∙ rw (split, le-leb _ _ b, le-leb _ _ g))

  pub search_more : (get_or t i (0, 0)).0 ≤ c → (get_or t i (0, 0)).1 < c → Searching t c (i + 1)
  unfolding in_ranges between
  search_more b g =
      record { upto = omega arith; rest = s.rest ∙ rw (split, le-leb _ _ b, lt-leb _ _ g); sorted = from_zero _ _ tail_ascends }

pub search_done : {t : List (ℕ × ℕ)} {c i : ℕ} → Searching t c i → length t ≤ i → false ≡ in_ranges t c
unfolding in_ranges
search_done {t} {c} {i} s l = sym (s.rest ∙ rw (drop_of_length-le t l))
