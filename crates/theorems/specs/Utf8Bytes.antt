-- The bytes that RFC 3629 has for a character are read as that character.
use Rattle.std.specs.Prelude.{◌≡◌, Bool, [], ◌∷◌, leb, length}
use Rattle.std.proofs.Math.Path.{refl}
use Rattle.std.proofs.Math.Logic.{inl, inr}
use Rattle.std.proofs.Math.Bool.{true, false}
use Rattle.std.proofs.Math.Option.{some}
use Prim.Native.Nat.{ℕ, suc, ◌+◌, ◌*◌, ◌/◌, ◌%◌, ◌≤◌, ◌<◌}
use native.Mathlib.Omega.{arith}
use Rattle.std.proofs.Math.Dec.{ltb}
use borrow.Author.Tests.{ltb-true, ltb-false, le-ltb, le-leb, lt-leb, leb-true}
use Rattle.spec.specs.Bytes.{Bytes, when◌then◌else◌, between, every}
use Rattle.spec.specs.Bytes as B
use Rattle.spec.specs.Utf8.{leading_ones, goes_on, fits, joined, value, least, is_scalar, character, characters}
use Rattle.spec.specs.Utf8 as U
use Rattle.spec.specs.NTriplesReading.{last_bits, utf8}
use Rattle.spec.proofs.Booleans.{and_right, and_both, or_cases}
use Rattle.theorems.specs.Utf8.{is_ascii, ascii-characters, one-character}

-- ---- leading ones

further : (c : ℕ) → goes_on (last_bits c) ≡ true
unfolding goes_on leading_ones U.leading_ones_of last_bits when◌then◌else◌
further c =
    let b : ℕ = 0x80 + c % 64 in
    rw (le-leb 128 b (omega arith), lt-leb 128 (2 * b % 256) (omega arith)) refl

two : (b : ℕ) → 0xC0 ≤ b → b < 0xE0 → leading_ones b ≡ 2
unfolding leading_ones U.leading_ones_of when◌then◌else◌
two b p q =
    rw (le-leb 128 b (omega arith), le-leb 128 (2 * b % 256) (omega arith), lt-leb 128 (2 * (2 * b % 256) % 256) (omega arith)) refl

three : (b : ℕ) → 0xE0 ≤ b → b < 0xF0 → leading_ones b ≡ 3
unfolding leading_ones U.leading_ones_of when◌then◌else◌
three b p q =
    rw (
      le-leb 128 b (omega arith),
      le-leb 128 (2 * b % 256) (omega arith),
      le-leb 128 (2 * (2 * b % 256) % 256) (omega arith),
      lt-leb 128 (2 * (2 * (2 * b % 256) % 256) % 256) (omega arith),
    ) refl

four : (b : ℕ) → 0xF0 ≤ b → b < 0xF8 → leading_ones b ≡ 4
unfolding leading_ones U.leading_ones_of when◌then◌else◌
four b p q =
    rw (
      le-leb 128 b (omega arith),
      le-leb 128 (2 * b % 256) (omega arith),
      le-leb 128 (2 * (2 * b % 256) % 256) (omega arith),
      le-leb 128 (2 * (2 * (2 * b % 256) % 256) % 256) (omega arith),
      lt-leb 128 (2 * (2 * (2 * (2 * b % 256) % 256) % 256) % 256) (omega arith),
    ) refl

-- ---- by length

-- six bits behind the others
six_bits : (c : ℕ) → 64 * (c / 64) + (0x80 + c % 64) % 64 ≡ c
six_bits c = omega arith

third : (c : ℕ) → c < 0x10000 → (0xE0 + c / 64 / 64) % 16 ≡ c / 64 / 64
third c lt = omega (arith, lt)

fourth : (c : ℕ) → c ≤ 0x10FFFF → (0xF0 + c / 64 / 64 / 64) % 8 ≡ c / 64 / 64 / 64
fourth c le = omega (arith, le)

-- a sequence of the right length, whose value is a character of that length
read_as : (b : ℕ) (s : Bytes) (c : ℕ) → fits b (suc (length s)) ≡ true → value b s ≡ c → least (suc (length s)) ≤ c → is_scalar c ≡ true → character (b ∷ s) ≡ some c
unfolding character when◌then◌else◌
read_as b s c f v l i = rw (f, v, le-leb (least (suc (length s))) c l, i) refl

module _ (c : ℕ) (scalar : is_scalar c ≡ true) where
  of_two : 0x80 ≤ c → c < 0x800 → character ((0xC0 + c / 64) ∷ last_bits c ∷ []) ≡ some c
  unfolding fits value joined least last_bits B.all
  of_two p q =
      let b : ℕ = 0xC0 + c / 64 in
      let v : 64 * (b % 32) + (0x80 + c % 64) % 64 ≡ c = omega arith in
      read_as b (last_bits c ∷ []) c (rw (two b (omega arith) (omega arith)) refl) (rw (le-ltb b 128 (omega arith)) v) (omega arith) scalar

  of_three : 0x800 ≤ c → c < 0x10000 → character ((0xE0 + c / 64 / 64) ∷ last_bits (c / 64) ∷ last_bits c ∷ []) ≡ some c
  unfolding fits value joined least last_bits B.all
  of_three p q =
      let b : ℕ = 0xE0 + c / 64 / 64 in
      let v : 64 * (64 * (b % 16) + (0x80 + c / 64 % 64) % 64) + (0x80 + c % 64) % 64 ≡ c =
      rw (third c q, six_bits (c / 64)) (six_bits c) in
      read_as b (last_bits (c / 64) ∷ last_bits c ∷ []) c (rw (three b (omega arith) (omega arith)) refl) (rw (le-ltb b 128 (omega arith)) v) (omega arith) scalar

  of_four : 0x10000 ≤ c → c ≤ 0x10FFFF → character ((0xF0 + c / 64 / 64 / 64) ∷ last_bits (c / 64 / 64) ∷ last_bits (c / 64) ∷ last_bits c ∷ []) ≡ some c
  unfolding fits value joined least last_bits B.all
  of_four p q =
      let b : ℕ = 0xF0 + c / 64 / 64 / 64 in
      let v : 64 * (64 * (64 * (b % 8) + (0x80 + c / 64 / 64 % 64) % 64) + (0x80 + c / 64 % 64) % 64) + (0x80 + c % 64) % 64 ≡ c =
      rw (fourth c q, six_bits (c / 64 / 64), six_bits (c / 64)) (six_bits c) in
      read_as b (last_bits (c / 64 / 64) ∷ last_bits (c / 64) ∷ last_bits c ∷ []) c (rw (four b (omega arith) (omega arith)) refl) (rw (le-ltb b 128 (omega arith)) v) (omega arith) scalar

  most : c ≤ 0x10FFFF
  unfolding is_scalar between
  most = elim (or_cases (leb c 0xD7FF) _ scalar) [ inl e ↦ omega (arith, leb-true c 0xD7FF e) | inr e ↦ leb-true c 0x10FFFF (and_right (leb 0xE000 c) _ e) ]

  -- the bytes of a character are read as it
  pub utf8-reads : characters (utf8 c) ≡ some (c ∷ [])
  unfolding utf8 when◌then◌else◌ every is_ascii
  utf8-reads = go (ltb c 0x80) (ltb c 0x800) (ltb c 0x10000) refl refl refl
    where
      go : (p q r : Bool) → ltb c 0x80 ≡ p → ltb c 0x800 ≡ q → ltb c 0x10000 ≡ r → characters (utf8 c) ≡ some (c ∷ [])
      go true q r e f g = rw e (ascii-characters (c ∷ []) (and_both _ _ e refl))
      go false true r e f g =
          simp (e, f) (one-character (0xC0 + c / 64) (last_bits c ∷ []) c (and_both _ _ (further c) refl) (of_two (ltb-false c 0x80 e) (ltb-true c 0x800 f)))
      go false false true e f g =
          simp (e, f, g) (one-character _ _ c (and_both _ _ (further (c / 64)) (and_both _ _ (further c) refl)) (of_three (ltb-false c 0x800 f) (ltb-true c 0x10000 g)))
      go false false false e f g =
          simp (e, f, g) (one-character _ _ c (and_both _ _ (further (c / 64 / 64)) (and_both _ _ (further (c / 64)) (and_both _ _ (further c) refl))) (of_four (ltb-false c 0x10000 g) most))
