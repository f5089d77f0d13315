-- Laws of the texts of `spec`: when two are the same, what one begins with, and where it is cut.
use Rattle.std.specs.Cmp.Lexicographic.{pointwise}
use Rattle.std.specs.List.{starts_with}
use Rattle.std.specs.Prelude.{◌≡◌, Bool, ◌||◌, eqb, get_or}
use Rattle.std.proofs.Math.Path.{refl, ap}
use Rattle.std.proofs.Common.{sym, eq-eqb, eqb-true}
use Rattle.std.proofs.Math.Bool.{true, false}
use Rattle.std.proofs.lemmas.Bool.{false≢true}
use mathlib.Core.List.{[], ◌∷◌, ◌++◌}
use Prim.Native.Nat.{ℕ, suc, ◌+◌, ◌<◌, ◌≤◌}
use native.Mathlib.Omega.{arith}
use Rattle.std.proofs.Math.ListN.{length, take, drop}
use Rattle.spec.specs.Bytes.{Bytes, same, when◌then◌else◌, is_empty, begins, after, up_to, from, among}
use Rattle.spec.proofs.Booleans.{and_left, and_right, and_both, no_true}
pub use Rattle.spec.proofs.Bytes.{same_true, same_refl, same_false, same-lengths}

-- ---- what the library's tests of slices answer

pub same_is : (a b : Bytes) → pointwise eqb a b ≡ same a b
unfolding same
same_is [] [] = refl
same_is [] (y ∷ b) = refl
same_is (x ∷ a) [] = refl
same_is (x ∷ a) (y ∷ b) = rw (same_is a b)

pub begins_is : (p s : Bytes) → starts_with eqb s p ≡ begins p s
unfolding begins
begins_is [] s = refl
begins_is (a ∷ p) [] = refl
begins_is (a ∷ p) (b ∷ s) = rw (begins_is p s)

-- ---- is a text empty?

pub empty_is : (s : Bytes) → length s ≡ 0 → is_empty s ≡ true
unfolding is_empty
empty_is [] h = refl
empty_is (b ∷ s) h = absurd (omega arith)

pub empty_not : (s : Bytes) → (length s ≡ 0 → ⊥) → is_empty s ≡ false
unfolding is_empty
empty_not [] h = absurd (h refl)
empty_not (b ∷ s) h = refl

-- ---- what a text begins with

pub begins_true : (p s : Bytes) → begins p s ≡ true → s ≡ p ++ after p s
unfolding begins after
begins_true [] s h = refl
begins_true (a ∷ p) [] h = absurd (false≢true h)
begins_true (a ∷ p) (b ∷ s) h =
    let e : a ≡ b = eqb-true a b (and_left (eqb a b) (begins p s) h) in
    let q : s ≡ p ++ after p s = begins_true p s (and_right (eqb a b) (begins p s) h) in
    cc

pub begins-append : (p s : Bytes) → begins p (p ++ s) ≡ true
unfolding begins
begins-append [] s = refl
begins-append (a ∷ p) s = and_both (eqb a a) (begins p (p ++ s)) (eq-eqb a a refl) (begins-append p s)

-- the beginning is no longer than the text
pub begins-length : (p s : Bytes) → begins p s ≡ true → length p ≤ length s
unfolding begins
begins-length [] s h = omega arith
begins-length (a ∷ p) [] h = absurd (false≢true h)
begins-length (a ∷ p) (b ∷ s) h = omega (arith, begins-length p s (and_right (eqb a b) (begins p s) h))

pub begins_short : (p s : Bytes) → length s < length p → begins p s ≡ false
begins_short p s h = no_true (begins p s) λ e. omega (arith, begins-length p s e)

pub after_drop : (p s : Bytes) → after p s ≡ drop (length p) s
unfolding after
after_drop [] s = refl
after_drop (a ∷ p) [] = refl
after_drop (a ∷ p) (b ∷ s) = after_drop p s

-- ---- a text cut at the first byte of a set

module _ (p : ℕ → Bool) where
  pub length_up_to : (s : Bytes) → length (up_to p s) ≤ length s
  unfolding up_to when◌then◌else◌
  length_up_to [] = omega arith
  length_up_to (a ∷ s) = go (p a) (length_up_to s)
    where
      go : (t : Bool) → length (up_to p s) ≤ length s → length (when t then [] else (a ∷ up_to p s)) ≤ suc (length s)
      go true h = omega arith
      go false h = omega arith

  pub up_to_take : (s : Bytes) → up_to p s ≡ take (length (up_to p s)) s
  unfolding up_to when◌then◌else◌
  up_to_take [] = refl
  up_to_take (a ∷ s) = go (p a) (up_to_take s)
    where
      go : (t : Bool) → up_to p s ≡ take (length (up_to p s)) s
          → (when t then [] else (a ∷ up_to p s)) ≡ take (length (when t then [] else (a ∷ up_to p s))) (a ∷ s)
      go true h = refl
      go false h = ap (a ∷◌) h

  pub from-drop : (s : Bytes) → from p s ≡ drop (length (up_to p s)) s
  unfolding up_to from when◌then◌else◌
  from-drop [] = refl
  from-drop (a ∷ s) = go (p a) (from-drop s)
    where
      go : (t : Bool) → from p s ≡ drop (length (up_to p s)) s
          → (when t then (a ∷ s) else from p s) ≡ drop (length (when t then [] else (a ∷ up_to p s))) (a ∷ s)
      go true h = refl
      go false h = h

  -- the byte that it is cut at is of the set
  pub up_to_stop : (s : Bytes) → length (up_to p s) < length s → p (get_or s (length (up_to p s)) 0) ≡ true
  unfolding up_to when◌then◌else◌
  up_to_stop [] h = absurd (omega arith)
  up_to_stop (a ∷ s) h = go (p a) refl (up_to_stop s) h
    where
      go : (t : Bool) → p a ≡ t → (length (up_to p s) < length s → p (get_or s (length (up_to p s)) 0) ≡ true) → length (when t then [] else (a ∷ up_to p s)) < suc (length s)
          → p (get_or (a ∷ s) (length (when t then [] else (a ∷ up_to p s))) 0) ≡ true
      go true e f h = e
      go false e f h = f (omega arith)

-- a text that does not have the byte is passed over
pub up_to_past : (b : ℕ) (s t : Bytes) → among s b ≡ false → length (up_to (λ c. eqb c b) (s ++ t)) ≡ length s + length (up_to (λ c. eqb c b) t)
unfolding up_to among when◌then◌else◌
up_to_past b [] t h = omega arith
up_to_past b (a ∷ s) t h = go (eqb a b) h (up_to_past b s t)
  where
    go : (x : Bool) → (x || among s b) ≡ false → (among s b ≡ false → length (up_to (λ c. eqb c b) (s ++ t)) ≡ length s + length (up_to (λ c. eqb c b) t))
        → length (when x then [] else (a ∷ up_to (λ c. eqb c b) (s ++ t))) ≡ suc (length s) + length (up_to (λ c. eqb c b) t)
    go true h f = absurd (false≢true (sym h))
    go false h f = omega (arith, f h)
