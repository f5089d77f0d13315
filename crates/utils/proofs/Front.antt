-- What callers cite of `decode`'s answers: the first character and the rest, or that there is none.
use mathlib.Core.Path.{◌≡◌, refl, sym, ap, ◌∙◌}
use mathlib.Core.Logic.{⊎_elim}
use mathlib.Core.Bool.{Bool, true, false, ◌&&◌}
use mathlib.Core.Option.{Option, none, some}
use mathlib.Core.List.{List, [], ◌∷◌, ◌++◌}
use Prim.Native.Nat.{ℕ, zero, suc, ◌≤◌}
use native.Mathlib.Omega.{arith}
use lib.Dec.{leb, ltb}
use lib.ListN.{length, take, drop, take-append-drop}
use borrow.Author.Tests.{leb-true, ltb-true, ltb-false}
use Rattle.spec.specs.Bytes.{Bytes, between, up_to, from, every}
use Rattle.spec.specs.Utf8.{goes_on, is_scalar, character, in_front, characters, holds_of, as_characters}
use Rattle.spec.proofs.Booleans.{or_cases, and_left, and_right}
use Rattle.utils.specs.Decoding.{Front, Stuck}
use Rattle.utils.proofs.Tools.{clash, and-true, and-false}
use Rattle.utils.proofs.Utf8.{goes_one, ones_high, ends, characters_cons, character_good, up_to_on, take_up_to, no_bytes, Sequence, sequence_alone, alone_sequence, low_byte, high_byte, then_others}

-- ---- the first character

-- the first character has a byte
pub front_some : {c n : ℕ} {s : Bytes} → Front c n s → 1 ≤ n
front_some {n = zero} f = absurd (let e = f.alone in clash (cc no_bytes))
front_some {n = suc m} f = omega arith

-- the characters are it, and then those of the rest
pub front_characters : {c n : ℕ} {s : Bytes} → Front c n s → characters s ≡ in_front (some c) (characters (drop n s))
front_characters {n = n} {s = s} f = ap characters (sym (take-append-drop n s)) ∙ then_others (take n s) (drop n s) f.alone

scalar_last : (c : ℕ) → is_scalar c ≡ true → c ≤ 0x10FFFF
unfolding is_scalar between
scalar_last c h =
    ⊎_elim
    (λ (l : leb c 0xD7FF ≡ true). omega (arith, leb-true c 0xD7FF l))
    (λ (r : (leb 0xE000 c && leb c 0x10FFFF) ≡ true). leb-true c 0x10FFFF (and_right (leb 0xE000 c) (leb c 0x10FFFF) r))
    (or_cases (leb c 0xD7FF) (leb 0xE000 c && leb c 0x10FFFF) h)

alone_scalar : {c : ℕ} (t : Bytes) → characters t ≡ some (c ∷ []) → is_scalar c ≡ true
alone_scalar [] e = absurd (clash (cc no_bytes))
alone_scalar (b ∷ u) e = (alone_sequence e).good.scalar

-- it is no surrogate, and not above the last
pub front_scalar : {c n : ℕ} {s : Bytes} → Front c n s → is_scalar c ≡ true
front_scalar {n = n} {s = s} f = alone_scalar (take n s) f.alone

pub front_last : {c n : ℕ} {s : Bytes} → Front c n s → c ≤ 0x10FFFF
front_last f = scalar_last _ (front_scalar f)

-- ---- no character

-- where no beginning is a character, there are none
pub stuck_characters : {s : Bytes} → Stuck s → characters s ≡ none
unfolding in_front
stuck_characters {s = []} h = absurd (omega (arith, h.nonempty))
stuck_characters {s = b ∷ u} h = characters_cons b u ∙ by (character (b ∷ up_to ends u)) refl
  where
    by : (o : Option ℕ) → character (b ∷ up_to ends u) ≡ o → in_front o (characters (from ends u)) ≡ none
    by none e = refl
    by (some c) e = absurd (h.never (suc (length (up_to ends u))) c (rw take_up_to (sequence_alone (record { on = up_to_on u; good = character_good e }))))

-- ---- tests on all characters

-- a test of the characters that goes by the first and the rest
pub front_holds : {c n : ℕ} {s : Bytes} (f g : List ℕ → Bool) (p : ℕ → Bool) → ((d : ℕ) (ds : List ℕ) → f (d ∷ ds) ≡ (p d && g ds)) → Front c n s → as_characters f s ≡ (p c && as_characters g (drop n s))
unfolding as_characters holds_of in_front
front_holds {c} {n} {s} f g p e h = rw (front_characters h) (by (characters (drop n s)))
  where
    by : (o : Option (List ℕ)) → holds_of f (in_front (some c) o) ≡ (p c && holds_of g o)
    by none = sym (and-false (p c))
    by (some cs) = e c cs

-- a test of each character
pub front_every : {c n : ℕ} {s : Bytes} (p : ℕ → Bool) → Front c n s → as_characters (every p) s ≡ (p c && as_characters (every p) (drop n s))
unfolding every
front_every p h = front_holds (every p) (every p) p (λ d ds. refl) h

-- no test passes where no beginning is a character
pub stuck_fails : {s : Bytes} (p : List ℕ → Bool) → Stuck s → as_characters p s ≡ false
unfolding as_characters holds_of
stuck_fails p h = rw (stuck_characters h)

-- nothing to test
pub empty_holds : (f : List ℕ → Bool) (s : Bytes) → length s ≡ 0 → as_characters f s ≡ f []
unfolding as_characters holds_of
empty_holds f [] h = rw no_bytes
empty_holds f (b ∷ u) h = absurd (omega arith)

-- ---- tests on bytes

pub every_append : (p : ℕ → Bool) (s t : Bytes) → every p (s ++ t) ≡ (every p s && every p t)
unfolding every
every_append p [] t = refl
every_append p (a ∷ s) t = by (p a) (every_append p s t)
  where
    by : (x : Bool) → every p (s ++ t) ≡ (every p s && every p t) → (x && every p (s ++ t)) ≡ ((x && every p s) && every p t)
    by true h = h
    by false h = refl

module _ (p : ℕ → Bool) (high : (x : ℕ) → 128 ≤ x → p x ≡ true) where
  on_pass : (u : Bytes) → every goes_on u ≡ true → every p u ≡ true
  unfolding every
  on_pass [] h = refl
  on_pass (a ∷ u) h = rw (high a (ones_high a (omega (arith, goes_one a (and_left (goes_on a) (every goes_on u) h)))), on_pass u (and_right (goes_on a) (every goes_on u) h))

  sequence_pass : {c b : ℕ} {u : Bytes} → Sequence c b u → every p (b ∷ u) ≡ p c
  unfolding every
  sequence_pass {c} {b} {u} q = by (ltb b 128) refl
    where
      by : (t : Bool) → ltb b 128 ≡ t → (p b && every p u) ≡ p c
      by true e = let l = low_byte q (ltb-true b 128 e) in rw (l.0, l.1) (and-true (p c))
      by false e = let h : 128 ≤ b = ltb-false b 128 e in rw (high b h, on_pass u q.on, high c (high_byte q h))

  alone_pass : {c : ℕ} (t : Bytes) → characters t ≡ some (c ∷ []) → every p t ≡ p c
  alone_pass [] e = absurd (clash (cc no_bytes))
  alone_pass (b ∷ u) e = sequence_pass (alone_sequence e)

  -- a test that every byte from 128 on passes can be made on the characters
  pub front_bytes : {c n : ℕ} {s : Bytes} → Front c n s → every p s ≡ (p c && every p (drop n s))
  front_bytes {c} {n} {s} f =
      ap (every p) (sym (take-append-drop n s)) ∙ every_append p (take n s) (drop n s) ∙ rw (alone_pass (take n s) f.alone)
