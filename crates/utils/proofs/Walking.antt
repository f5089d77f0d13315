-- Passing over bytes or characters, while what is left decides a test.
use mathlib.Core.Path.{◌≡◌, refl, sym, ◌∙◌}
use mathlib.Core.Bool.{Bool, true, false, ◌&&◌}
use Prim.Native.Nat.{ℕ, ◌+◌, ◌-◌, ◌<◌, ◌≤◌}
use native.Mathlib.Omega.{arith}
use native.Mathlib.Numerals.{add-one}
use lib.ListN.{length, take, drop, get_or, length-drop, drop_of_length-le}
use lib.Seq.{drop-cons, drop-drop, take-length}
use Rattle.spec.specs.Bytes.{Bytes, every}
use Rattle.spec.specs.Utf8.{as_characters}
use Rattle.utils.specs.Decoding.{Front, Stuck}
use Rattle.utils.specs.Walking.{Walked, Step}
use Rattle.utils.proofs.Front.{front_some, front_every, stuck_fails, empty_holds}

-- a part up to the end
pub to_end : (s : Bytes) (i : ℕ) → take (length s - i) (drop i s) ≡ drop i s
to_end s i = rw (← length-drop i s) (take-length (drop i s))

pub walked_begins : (f : Bytes → Bool) (s : Bytes) → Walked f s 0
walked_begins f s = record { within = omega arith; rest = refl }

-- ---- a test of each byte

module _ (p : ℕ → Bool) {s : Bytes} {i : ℕ} (w : Walked (every p) s i) where
  pub bytes_fail : i < length s → p (get_or s i 0) ≡ false → false ≡ every p s
  unfolding every
  bytes_fail h e = sym (w.rest ∙ rw (drop-cons s i 0 h, e))

  pub bytes_more : i < length s → p (get_or s i 0) ≡ true → Walked (every p) s (i + 1)
  unfolding every
  bytes_more h e = record { within = omega arith; rest = w.rest ∙ rw (drop-cons s i 0 h, e, add-one i) }

  pub bytes_pass : length s ≤ i → true ≡ every p s
  unfolding every
  bytes_pass h = sym (w.rest ∙ rw (drop_of_length-le s h))

-- ---- a test of each character

-- a test that goes by the first character and the rest
pub record ByCharacter (f : Bytes → Bool) (p : ℕ → Bool) : Type 0 where
  pub empty : (s : Bytes) → length s ≡ 0 → f s ≡ true
  pub front : {c n : ℕ} {s : Bytes} → Front c n s → f s ≡ (p c && f (drop n s))
  pub stuck : {s : Bytes} → Stuck s → f s ≡ false

pub every_by : (p : ℕ → Bool) → ByCharacter (as_characters (every p)) p
unfolding every
every_by p = record { empty = empty_holds (every p); front = λ f. front_every p f; stuck = λ h. stuck_fails (every p) h }

-- ---- a step: the first character passes, or the test fails

pub steps_more : {f g : Bytes → Bool} {c n : ℕ} {s : Bytes} → Front c n s → f s ≡ g (drop n s) → Step f g n s
steps_more h e = record { some = front_some h; within = h.within; rest = e }

module _ {f : Bytes → Bool} {p : ℕ → Bool} (b : ByCharacter f p) {s : Bytes} where
  pub step_passes : {c n : ℕ} → Front c n s → p c ≡ true → Step f f n s
  step_passes h e = steps_more h (b.front h ∙ rw e)

  pub step_fails : {c n : ℕ} → Front c n s → p c ≡ false → f s ≡ false
  step_fails h e = b.front h ∙ rw e

  pub step_stuck : Stuck s → f s ≡ false
  step_stuck h = b.stuck h

-- ---- the loops

module _ {f : Bytes → Bool} {s : Bytes} {i : ℕ} (w : Walked f s i) where
  pub walked_within : {n : ℕ} → Step f f n (drop i s) → i + n ≤ length s
  walked_within h = omega (arith, h.within, length-drop i s, w.within)

  pub walked_fails : f (drop i s) ≡ false → false ≡ f s
  walked_fails h = sym (w.rest ∙ h)

  pub walked_more : {n : ℕ} → Step f f n (drop i s) → Walked f s (i + n)
  walked_more {n} h = record { within = walked_within h; rest = w.rest ∙ h.rest ∙ rw (drop-drop n i s) }

  pub walked_on : {k : ℕ} → Walked f (drop i s) k → Walked f s (i + k)
  walked_on {k} h =
      record { within = omega (arith, h.within, length-drop i s, w.within); rest = w.rest ∙ h.rest ∙ rw (drop-drop k i s) }

  pub walked_passes : {p : ℕ → Bool} → ByCharacter f p → length s ≤ i → true ≡ f s
  walked_passes b h = sym (w.rest ∙ b.empty (drop i s) (omega (arith, length-drop i s)))
