-- What is cut from a text at bytes below 128 is text.
use Rattle.std.specs.Prelude.{◌≡◌, refl, Bool, true, false, ℕ, eqb}
use Rattle.std.proofs.Math.Path.{sym}
use Rattle.std.proofs.Common.{◌∙◌, ap, subst, inl, inr, eqb-true}
use Rattle.std.proofs.lemmas.Bool.{false≢true}
use Rattle.std.proofs.Math.Option.{Option, none, some}
use mathlib.Core.List.{[], ◌∷◌, ◌++◌, reverse, reverse-append, reverse-reverse, reverse-cons, append_assoc}
use Rattle.spec.specs.Bytes.{Bytes, when◌then◌else◌, begins, after, up_to, from, among, every}
use Rattle.spec.specs.Utf8.{begins_with_one}
use Rattle.spec.proofs.Booleans.{and_left, and_right, or_cases}
use Rattle.theorems.specs.Utf8.{is_ascii, low, Text, join, byte-text, empty-text, clean_cut, behind, cut_at}

-- a text that may be missing
abbrev pub Text? : Option Bytes → Type 0
Text? none = Unit {0}
Text? (some s) = Text s

-- ---- cut where a byte of a set stands

-- sets of bytes below 128
abbrev pub Low : (ℕ → Bool) → Type 0
Low p = (b : ℕ) → p b ≡ true → is_ascii b ≡ true

pub among_low : (l : Bytes) → every is_ascii l ≡ true → Low (among l)
unfolding every among
among_low [] h b k = absurd (false≢true k)
among_low (a ∷ l) h b k = elim (or_cases (eqb a b) (among l b) k) [
  | inl e ↦ rw (← eqb-true a b e) (and_left (is_ascii a) (every is_ascii l) h)
  | inr e ↦ among_low l (and_right (is_ascii a) (every is_ascii l) h) b e
]

pub up_to_from : (p : ℕ → Bool) (s : Bytes) → up_to p s ++ from p s ≡ s
unfolding up_to from when◌then◌else◌
up_to_from p [] = refl
up_to_from p (a ∷ s) = go (p a) (up_to_from p s)
  where
    go : (b : Bool) → up_to p s ++ from p s ≡ s → (when b then [] else (a ∷ up_to p s)) ++ (when b then (a ∷ s) else from p s) ≡ a ∷ s
    go true e = refl
    go false e = ap (λ (x : Bytes). a ∷ x) e

pub after_up_to : (p : ℕ → Bool) (s : Bytes) → after (up_to p s) s ≡ from p s
unfolding up_to from after when◌then◌else◌
after_up_to p [] = refl
after_up_to p (a ∷ s) = go (p a) (after_up_to p s)
  where
    go : (b : Bool) → after (up_to p s) s ≡ from p s → after (when b then [] else (a ∷ up_to p s)) (a ∷ s) ≡ (when b then (a ∷ s) else from p s)
    go true e = refl
    go false e = e

-- what stands from the first byte of a set on: nothing, or it begins with such a byte
pub data From (p : ℕ → Bool) : Bytes → Type 0 where
  nothing : From p []
  found : (b : ℕ) (s : Bytes) → p b ≡ true → From p (b ∷ s)

pub from_view : (p : ℕ → Bool) (s : Bytes) → From p (from p s)
unfolding from when◌then◌else◌
from_view p [] = nothing
from_view p (a ∷ s) = go (p a) refl (from_view p s)
  where
    go : (b : Bool) → p a ≡ b → From p (from p s) → From p (when b then (a ∷ s) else from p s)
    go true e f = found a s e
    go false e f = f

begins_low : (p : ℕ → Bool) → Low p → (s : Bytes) → From p s → begins_with_one s ≡ false
unfolding begins_with_one
begins_low p h s nothing = refl
begins_low p h s (found b t e) = low b (h b e)

-- before the first byte of a set, and from it on
cut_low : (p : ℕ → Bool) → Low p → (u s : Bytes) → Text (u ++ s) → Text (u ++ up_to p s) × Text (from p s)
cut_low p h u s t =
    clean_cut (u ++ up_to p s) (from p s) (begins_low p h (from p s) (from_view p s))
    (subst (λ (x : Bytes). Text x) (ap (λ (x : Bytes). u ++ x) (sym (up_to_from p s)) ∙ sym (append_assoc u (up_to p s) (from p s))) t)

-- the same behind bytes that are not looked at
pub cut_behind : (l u s : Bytes) → every is_ascii l ≡ true → Text (u ++ s) → Text (u ++ up_to (among l) s) × Text (from (among l) s)
cut_behind l u s h t = cut_low (among l) (among_low l h) u s t

module _ (l : Bytes) (h : every is_ascii l ≡ true) (s : Bytes) (t : Text s) where
  pub up_to_text : Text (up_to (among l) s)
  up_to_text = (cut_low (among l) (among_low l h) [] s t).0

  pub from-text : Text (from (among l) s)
  from-text = (cut_low (among l) (among_low l h) [] s t).1

  -- behind the byte itself
  pub past-text : (b : ℕ) → Text (after (b ∷ []) (from (among l) s))
  unfolding after
  past-text b = go (from (among l) s) (from_view (among l) s) from-text
    where
      go : (x : Bytes) → From (among l) x → Text x → Text (after (b ∷ []) x)
      go x nothing k = k
      go x (found a r e) k = (cut_at [] a r (among_low l h a e) k).1

-- behind a beginning
begins_after : (m s : Bytes) → begins m s ≡ true → s ≡ m ++ after m s
unfolding begins after
begins_after [] s h = refl
begins_after (a ∷ m) [] h = absurd (false≢true h)
begins_after (a ∷ m) (b ∷ s) h =
    let p : a ≡ b = eqb-true a b (and_left (eqb a b) (begins m s) h) in
    let q : s ≡ m ++ after m s = begins_after m s (and_right (eqb a b) (begins m s) h) in
    cc

pub after_text : (m s : Bytes) → every is_ascii m ≡ true → begins m s ≡ true → Text s → Text (after m s)
after_text m s h e t = behind m (after m s) h (subst (λ (x : Bytes). Text x) (begins_after m s e) t)

-- what stands before the last byte of a set, without it and with it
module _ (l : Bytes) (h : every is_ascii l ≡ true) (s : Bytes) (t : Text s) where
  last_view : (u v : Bytes) → From (among l) v → u ++ v ≡ reverse s → (b : ℕ) → Text (reverse v) × Text (reverse (after (b ∷ []) v))
  unfolding after
  last_view u v nothing e b = (empty-text, empty-text)
  last_view u v (found a r f) e b =
      let shape : s ≡ reverse r ++ (a ∷ reverse u) =
      sym (reverse-reverse s) ∙ (ap reverse (sym e) ∙ (reverse-append u (a ∷ r) ∙ (ap (λ (x : Bytes). x ++ reverse u) (reverse-cons a r) ∙ append_assoc (reverse r) (a ∷ []) (reverse u)))) in
      let q = cut_at (reverse r) a (reverse u) (among_low l h a f) (subst (λ (x : Bytes). Text x) shape t) in
      (rw (reverse-cons a r) (join q.0 (byte-text a (among_low l h a f))), q.0)

  pub last-text : Text (reverse (from (among l) (reverse s)))
  last-text = (last_view (up_to (among l) (reverse s)) (from (among l) (reverse s)) (from_view (among l) (reverse s)) (up_to_from (among l) (reverse s)) 0).0

  pub last-past-text : (b : ℕ) → Text (reverse (after (b ∷ []) (from (among l) (reverse s))))
  last-past-text b = (last_view (up_to (among l) (reverse s)) (from (among l) (reverse s)) (from_view (among l) (reverse s)) (up_to_from (among l) (reverse s)) b).1
