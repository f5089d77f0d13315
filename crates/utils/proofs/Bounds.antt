-- The search of a table of ranges that is laid flat is being in one of its ranges.
use mathlib.Core.Path.{◌≡◌, refl, sym, ◌∙◌}
use mathlib.Core.Bool.{true, false}
use mathlib.Core.List.{List, [], ◌∷◌}
use Prim.Native.Nat.{ℕ, suc, ◌+◌, ◌<◌, ◌≤◌}
use native.Mathlib.Omega.{arith}
use native.Mathlib.Numerals.{add-one, add-two}
use lib.Dec.{leb}
use lib.ListN.{length, drop, get_or, length-drop}
use lib.Seq.{drop-cons}
use borrow.Author.Tests.{le-leb, lt-leb}
use Rattle.spec.specs.Bytes.{between, in_ranges}
use Rattle.spec.proofs.Booleans.{and_right}
use Rattle.utils.specs.Ranges.{ranges, ascending_from}
use Rattle.utils.proofs.Ranges.{before_all, from_zero}

-- the ranges before the ith number are passed, and those from it on decide
pub record Searching (t : List ℕ) (c i : ℕ) : Type 0 where
  pub upto : i ≤ length t
  pub rest : in_ranges (ranges t) c ≡ in_ranges (ranges (drop i t)) c
  pub sorted : ascending_from 0 (ranges (drop i t)) ≡ true

pub search_begins : (t : List ℕ) (c : ℕ) → ascending_from 0 (ranges t) ≡ true → Searching t c 0
search_begins t c s = record { upto = omega arith; rest = refl; sorted = s }

split : (t : List ℕ) (i : ℕ) → i + 1 < length t → ranges (drop i t) ≡ (get_or t i 0, get_or t (i + 1) 0) ∷ ranges (drop (i + 2) t)
unfolding ranges
split t i l =
    let a : i < length t = omega arith in
    let b : suc i < length t = omega arith in
    rw (drop-cons t i 0 a, drop-cons t (suc i) 0 b, add-one i, add-two i)

module _ {t : List ℕ} {c i : ℕ} (s : Searching t c i) where
  tail_ascends : i + 1 < length t → ascending_from (get_or t i 0) (ranges (drop (i + 2) t)) ≡ true
  unfolding ascending_from
  tail_ascends h = and_right (leb 0 (get_or t i 0)) _ (rw (split t i h) at s.sorted)

  pub search_before : i + 1 < length t → c < get_or t i 0 → false ≡ in_ranges (ranges t) c
  unfolding in_ranges between
  search_before h l = sym (s.rest ∙ rw (split t i h, lt-leb _ _ l) (before_all _ c _ l (tail_ascends h)))

  pub search_hit : i + 1 < length t → get_or t i 0 ≤ c → c ≤ get_or t (i + 1) 0 → true ≡ in_ranges (ranges t) c
  unfolding in_ranges between
  search_hit h l g = sym (s.rest ∙ rw (split t i h, le-leb _ _ l, le-leb _ _ g))

  pub search_more : i + 1 < length t → get_or t i 0 ≤ c → get_or t (i + 1) 0 < c → Searching t c (i + 2)
  unfolding in_ranges between
  search_more h l g =
      record { upto = omega arith; rest = s.rest ∙ rw (split t i h, le-leb _ _ l, lt-leb _ _ g); sorted = from_zero _ _ (tail_ascends h) }

  pub search_done : length t ≤ i + 1 → false ≡ in_ranges (ranges t) c
  unfolding in_ranges ranges
  search_done l = sym (s.rest ∙ by (drop i t) (omega (arith, length-drop i t)))
    where
      by : (u : List ℕ) → length u ≤ 1 → in_ranges (ranges u) c ≡ false
      by [] k = refl
      by (a ∷ []) k = refl
      by (a ∷ z ∷ u) k = absurd (omega arith)
