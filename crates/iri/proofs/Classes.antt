-- The tests of one character: an alternative that holds decides, and one that does not leaves the others.
use mathlib.Core.Path.{◌≡◌, refl, sym, ◌∙◌}
use mathlib.Core.Bool.{Bool, true, false, ◌&&◌, ◌||◌, or-false}
use mathlib.Core.List.{[], ◌∷◌}
use Prim.Native.Nat.{ℕ, ◌+◌, ◌<◌, ◌≤◌}
use native.Mathlib.Omega.{arith}
use lib.Dec.{eqb, leb, ltb}
use lib.ListN.{length, get_or}
use borrow.Author.Tests.{eq-eqb, ne_eqb, eqb-true, eqb-false, le-leb, lt-leb, leb-true}
use Rattle.std.proofs.lemmas.Bool.{ltb-true, ltb-false}
use Rattle.std.specs.Char.{to_ascii_lowercase, eq_ignore_ascii_case}
use Rattle.spec.specs.Bytes.{Bytes, byte, between, when◌then◌else◌}
use Rattle.std.proofs.lemmas.Bool.{ltb-true, ltb-false}
use Rattle.std.specs.Char.{to_ascii_lowercase, eq_ignore_ascii_case}
use Rattle.spec.specs.Abnf.{lower}
use Rattle.spec.proofs.Booleans.{and_left, and_right}
use Rattle.iri.specs.Parts.{is_digit, is_alphanum, is_hex, escaped, common}
use Rattle.iri.specs.Parts as P
use Rattle.iri.specs.Forms.{is_mark}
use Rattle.iri.proofs.Languages.{same_test, lower-mark, mark-lower}

pub left : {t a b r : Bool} → t ≡ a → t ≡ false → r ≡ b → r ≡ (a || b)
left e h q = rw (← e, h) q

-- a word of one character that is no letter
pub lower_is : (d : ℕ) → is_mark d ≡ true → (c : ℕ) → eqb c d ≡ eqb (lower c) d
lower_is d m c = same_test (eqb c d) (eqb (lower c) d) (λ e. rw (eqb-true c d e) (mark-lower d m)) (λ e. eq-eqb c d (lower-mark d m c e))

pub colon_is : (c : ℕ) → eqb (lower c) 58 ≡ eqb c 58
unfolding is_mark between
colon_is c = sym (lower_is 58 refl c)

pub slash_is : (c : ℕ) → eqb (lower c) 47 ≡ eqb c 47
unfolding is_mark between
slash_is c = sym (lower_is 47 refl c)

pub beside : (d : ℕ) → is_mark d ≡ true → (c : ℕ) {t a : Bool} → t ≡ a → (c ≡ d → ⊥) → t ≡ (a || eqb (lower c) d)
beside d m c {t} {a} e n = e ∙ sym (rw (← lower_is d m c, ne_eqb c d n) (or-false a))

pub within_high : (a z c : ℕ) → between a z c ≡ true → c ≤ z
unfolding between
within_high a z c h = leb-true c z (and_right (leb a c) (leb c z) h)

within_low : (a z c : ℕ) → between a z c ≡ true → a ≤ c
unfolding between
within_low a z c h = leb-true a c (and_left (leb a c) (leb c z) h)

-- ---- letters and digits, by their ranges

module _ (c : ℕ) where
  pub small_letter : between 97 122 c ≡ true → true ≡ is_alphanum c
  unfolding P.all
  small_letter h =
      let n : leb c 90 ≡ false = lt-leb c 90 (omega (arith, within_low 97 122 c h)) in
      let y : leb 65 c ≡ true = le-leb 65 c (omega (arith, within_low 97 122 c h)) in
      rw (y, n, h)

  pub capital_letter : between 65 90 c ≡ true → true ≡ is_alphanum c
  unfolding P.all
  capital_letter h =
      let l : leb 97 (32 + c) ≡ true = le-leb 97 (32 + c) (omega (arith, within_low 65 90 c h)) in
      let u : leb (32 + c) 122 ≡ true = le-leb (32 + c) 122 (omega (arith, within_high 65 90 c h)) in
      rw (h, l, u)

  pub no_letter : {t : Bool} → between 97 122 c ≡ false → between 65 90 c ≡ false → t ≡ is_digit c → t ≡ is_alphanum c
  unfolding P.all
  no_letter h q e = e ∙ rw (q, h)

-- small letters, capitals, digits
pub alphanum_ranges : (c : ℕ) → is_alphanum c ≡ ((between 97 122 c || between 65 90 c) || is_digit c)
alphanum_ranges c = by (between 97 122 c) (between 65 90 c) refl refl
  where
    by : (a b : Bool) → between 97 122 c ≡ a → between 65 90 c ≡ b → is_alphanum c ≡ ((a || b) || is_digit c)
    by true b e f = sym (small_letter c e)
    by false true e f = sym (capital_letter c f)
    by false false e f = sym (no_letter c e f refl)

-- ---- "%" and two digits

pub escaped_short : (s : Bytes) → length s < 3 → escaped s ≡ false
unfolding escaped
escaped_short [] l = refl
escaped_short (c ∷ []) l = refl
escaped_short (c ∷ a ∷ []) l = refl
escaped_short (c ∷ a ∷ b ∷ s) l = absurd (omega arith)

pub escaped_law : (s : Bytes) → 3 ≤ length s → escaped s ≡ (eqb (get_or s 0 0) 37 && (is_hex (get_or s 1 0) && is_hex (get_or s 2 0)))
unfolding escaped byte
escaped_law [] l = absurd (omega arith)
escaped_law (c ∷ []) l = absurd (omega arith)
escaped_law (c ∷ a ∷ []) l = absurd (omega arith)
escaped_law (c ∷ a ∷ b ∷ s) l = refl

-- ---- letters in either case, by std's test

lowercase-lower : (c : ℕ) → to_ascii_lowercase c ≡ lower c
unfolding lower byte between when◌then◌else◌
lowercase-lower c = go (ltb c 65) (ltb c 91) refl refl
  where
    go : (a b : Bool) → ltb c 65 ≡ a → ltb c 91 ≡ b → to_ascii_lowercase c ≡ (when leb 65 c && leb c 90 then 32 + c else c)
    go true b e f = rw (e, lt-leb 65 c (ltb-true c 65 e))
    go false true e f = rw (e, f, le-leb 65 c (ltb-false c 65 e), le-leb c 90 (omega (arith, ltb-true c 91 f))) (omega arith)
    go false false e f = rw (e, f, le-leb 65 c (ltb-false c 65 e), lt-leb c 90 (omega (arith, ltb-false c 91 f)))

pub same_v : (c : ℕ) → eq_ignore_ascii_case c 118 ≡ true → lower c ≡ 118
same_v c e = sym (lowercase-lower c) ∙ eqb-true _ _ e

pub other_v : (c : ℕ) → eq_ignore_ascii_case c 118 ≡ false → lower c ≡ 118 → ⊥
other_v c e q = eqb-false _ _ e (lowercase-lower c ∙ q)
