-- Laws of texts, cut at the first byte of a set, of those without "/", and of tests.
use Rattle.std.specs.Prelude.{◌≡◌, refl, Bool, true, false, ◌&&◌, ◌||◌, ℕ, ◌≤◌, eqb, length, take}
use Rattle.std.proofs.Common.{sym, ap₂, ◌∙◌, take-append-drop, ne_eqb}
use mathlib.Core.List.{[], ◌∷◌, ◌++◌, reverse, reverse-cons}
use Rattle.std.proofs.lemmas.Bool.{eqb-false}
use Rattle.spec.specs.Bytes.{Bytes, ascii, when◌then◌else◌, up_to, from, among, All}
use Rattle.copy.specs.Texts.{up_to_take, from-drop}

-- `t` is the first `n` bytes of `s`
pub record Front (s t : Bytes) (n : ℕ) : Type 0 where
  pub within : n ≤ length s
  pub is : take n s ≡ t

-- a text is what stands before the first byte of a set, and from it on
pub cut : (p : ℕ → Bool) (s : Bytes) → up_to p s ++ from p s ≡ s
cut p s = ap₂ ◌++◌ (up_to_take p s) (from-drop p s) ∙ take-append-drop (length (up_to p s)) s

-- a text that is empty or begins with a byte of a set
abbrev pub Headed : (ℕ → Bool) → Bytes → Type 0
Headed p [] = Unit {0}
Headed p (a ∷ s) = p a ≡ true

pub from_headed : (p : ℕ → Bool) (s : Bytes) → Headed p (from p s)
unfolding from when◌then◌else◌
from_headed p [] = tt
from_headed p (a ∷ s) = go (p a) refl (from_headed p s)
  where
    go : (t : Bool) → p a ≡ t → Headed p (from p s) → Headed p (when t then (a ∷ s) else from p s)
    go true e h = e
    go false e h = h

-- ---- a text without "/"

abbrev pub Plain : Bytes → Type 0
Plain s = All (λ (a : ℕ). a ≡ 47 → ⊥) s

pub plain-append : (s t : Bytes) → Plain s → Plain t → Plain (s ++ t)
plain-append [] t h k = k
plain-append (a ∷ s) t h k = (h.0, plain-append s t h.1 k)

pub plain_reverse : (s : Bytes) → Plain s → Plain (reverse s)
plain_reverse [] h = tt
plain_reverse (a ∷ s) h = rw (reverse-cons a s) (plain-append (reverse s) (a ∷ []) (plain_reverse s h.1) (h.0, tt))

pub plain_up_to : (s : Bytes) → Plain (up_to (λ (c : ℕ). eqb c 47) s)
unfolding up_to when◌then◌else◌
plain_up_to [] = tt
plain_up_to (a ∷ s) = go (eqb a 47) refl (plain_up_to s)
  where
    go : (t : Bool) → eqb a 47 ≡ t → Plain (up_to (λ (c : ℕ). eqb c 47) s) → Plain (when t then [] else (a ∷ up_to (λ (c : ℕ). eqb c 47) s))
    go true e h = tt
    go false e h = (eqb-false a 47 e, h)

-- from its first "/" on, behind such a text
pub from-plain : (s t : Bytes) → Plain s → from (among (ascii "/")) (s ++ 47 ∷ t) ≡ 47 ∷ t
unfolding from among ascii when◌then◌else◌
from-plain [] t h = refl
from-plain (a ∷ s) t h = rw (ne_eqb 47 a (λ (e : 47 ≡ a). h.0 (sym e))) (from-plain s t h.1)

pub from_none : (s : Bytes) → Plain s → from (among (ascii "/")) s ≡ []
unfolding from among ascii when◌then◌else◌
from_none [] h = refl
from_none (a ∷ s) h = rw (ne_eqb 47 a (λ (e : 47 ≡ a). h.0 (sym e))) (from_none s h.1)

-- ---- tests

-- a test that another test leaves as it is, or settles
pub and-false : (a : Bool) → (a && false) ≡ false
and-false true = refl
and-false false = refl

pub and-true : (a : Bool) → (a && true) ≡ a
and-true true = refl
and-true false = refl

pub or-false : (a : Bool) → (a || false) ≡ a
or-false true = refl
or-false false = refl

pub or_true : (a : Bool) → (a || true) ≡ true
or_true true = refl
or_true false = refl
