-- Letters in either case: what a byte's lower case tells of the byte, and texts of the grammar that are compared so.
use mathlib.Core.Path.{◌≡◌, refl, sym, ap, ◌∙◌}
use mathlib.Core.Bool.{Bool, true, false, ◌&&◌, ◌||◌}
use mathlib.Core.List.{[], ◌∷◌, map, head-eq_of_cons-eq, tail-eq_of_cons-eq, cons≢nil, nil≢cons}
use Prim.Native.Nat.{ℕ, ◌+◌, ◌≤◌, ◌<◌}
use native.Mathlib.Omega.{arith}
use lib.Dec.{eqb, leb, ltb}
use borrow.Author.Tests.{leb-true, le-leb, lt-leb, eqb-true, eq-eqb, ne_eqb}
use Rattle.std.proofs.lemmas.Bool.{ltb-true, ltb-false}
use Rattle.std.specs.Char.{to_ascii_lowercase, eq_ignore_ascii_case, is_ascii_digit, is_ascii_alphabetic}
use Rattle.spec.specs.Bytes.{Bytes, byte, when◌then◌else◌, between}
use Rattle.spec.specs.Grammar.{Describes}
use Rattle.spec.specs.Abnf.{lower, letters}
use Rattle.spec.proofs.Booleans.{and_left, and_right, and_both}
use Rattle.langtag.specs.Machine.{letter, digit, is_x}

-- ---- bytes

pub inside : (a z c : ℕ) → between a z c ≡ true → (a ≤ c) × (c ≤ z)
unfolding between
inside a z c h = (leb-true a c (and_left (leb a c) (leb c z) h), leb-true c z (and_right (leb a c) (leb c z) h))

pub within : (a z c : ℕ) → a ≤ c → c ≤ z → between a z c ≡ true
unfolding between
within a z c p q = and_both (leb a c) (leb c z) (le-leb a c p) (le-leb c z q)

pub below : (a z c : ℕ) → c < a → between a z c ≡ false
unfolding between
below a z c p = rw (lt-leb a c p)

pub above : (a z c : ℕ) → z < c → between a z c ≡ false
unfolding between
above a z c p = go (leb a c)
  where
    go : (t : Bool) → (t && leb c z) ≡ false
    go true = lt-leb c z p
    go false = refl

-- a capital, and any other byte
data Cased (c : ℕ) : Type 0 where
  capital : 65 ≤ c → c ≤ 90 → lower c ≡ 32 + c → Cased c
  other : lower c ≡ c → Cased c

cased : (c : ℕ) → Cased c
unfolding lower byte when◌then◌else◌
cased c = go (between 65 90 c) refl
  where
    go : (t : Bool) → between 65 90 c ≡ t → Cased c
    go true e = capital (inside 65 90 c e).0 (inside 65 90 c e).1 (rw e)
    go false e = other (rw e)

-- a lower case that is no letter is the byte itself
pub lower-plain : (c n : ℕ) → lower c ≡ n → n < 97 → c ≡ n
lower-plain c n e h = go (cased c)
  where
    go : Cased c → c ≡ n
    go (capital p q r) = omega arith
    go (other r) = omega arith

-- what is below the letters is its own lower case
pub lower_low : (c : ℕ) → c < 65 → lower c ≡ c
lower_low c h = go (cased c)
  where
    go : Cased c → lower c ≡ c
    go (capital p q r) = absurd (omega arith)
    go (other r) = r

pub lower_high : (c : ℕ) → 90 < c → lower c ≡ c
lower_high c h = go (cased c)
  where
    go : Cased c → lower c ≡ c
    go (capital p q r) = absurd (omega arith)
    go (other r) = r

pub lower_capital : (c : ℕ) → 65 ≤ c → c ≤ 90 → lower c ≡ 32 + c
unfolding lower byte when◌then◌else◌
lower_capital c a b = rw (within 65 90 c a b)

-- what std's methods answer of a byte
pub lowercase-lower : (c : ℕ) → to_ascii_lowercase c ≡ lower c
lowercase-lower c = go (ltb c 65) (ltb c 91) refl refl
  where
    go : (a b : Bool) → ltb c 65 ≡ a → ltb c 91 ≡ b → to_ascii_lowercase c ≡ lower c
    go true b e f = rw (e, lower_low c (ltb-true c 65 e))
    go false true e f = rw (e, f, lower_capital c (ltb-false c 65 e) (omega (arith, ltb-true c 91 f))) (omega arith)
    go false false e f = rw (e, f, lower_high c (omega (arith, ltb-false c 91 f)))

pub same-x : (c : ℕ) → eq_ignore_ascii_case c 120 ≡ is_x c
unfolding is_x byte
same-x c = rw lowercase-lower

pub digit-digit : (c : ℕ) → is_ascii_digit c ≡ digit c
unfolding digit byte between
digit-digit c = refl

pub alphabetic-letter : (c : ℕ) → is_ascii_alphabetic c ≡ letter c
unfolding letter lower byte between when◌then◌else◌
alphabetic-letter c = go (leb 65 c && leb c 90) refl
  where
    go : (t : Bool) → (leb 65 c && leb c 90) ≡ t → (leb 65 c && leb c 90) || (leb 97 c && leb c 122) ≡ between 97 122 (when leb 65 c && leb c 90 then 32 + c else c)
    go true e =
        let p : (65 ≤ c) × (c ≤ 90) = inside 65 90 c e in
        rw e (sym (within 97 122 (32 + c) (omega (arith, p.0)) (omega (arith, p.1))))
    go false e = rw e

pub lower_twice : (c : ℕ) → lower (lower c) ≡ lower c
lower_twice c = go (cased c)
  where
    again : 65 ≤ c → Cased (32 + c) → lower (32 + c) ≡ 32 + c
    again p (capital a b r) = absurd (omega arith)
    again p (other r) = r

    go : Cased c → lower (lower c) ≡ lower c
    go (capital p q r) = rw r (again p (cased (32 + c)))
    go (other r) = ap lower r

pub digit-lower : (c : ℕ) → digit (lower c) ≡ digit c
unfolding digit byte
digit-lower c = go (cased c)
  where
    go : Cased c → between 48 57 (lower c) ≡ between 48 57 c
    go (capital p q r) = rw r (above 48 57 (32 + c) (omega arith) ∙ sym (above 48 57 c (omega arith)))
    go (other r) = rw r

pub hyphen_lower : (c : ℕ) → eqb (lower c) 45 ≡ eqb c 45
hyphen_lower c = go (cased c)
  where
    go : Cased c → eqb (lower c) 45 ≡ eqb c 45
    go (capital p q r) = rw r (ne_eqb (32 + c) 45 (λ e. omega arith) ∙ sym (ne_eqb c 45 (λ e. omega arith)))
    go (other r) = rw r

-- ---- texts

pub letters_sound : (w s : Bytes) → Describes (letters w) s → map lower s ≡ w
unfolding letters
letters_sound [] s d = rw d
letters_sound (c ∷ w) s d =
    let e : lower d.3.0 ≡ c = eqb-true (lower d.3.0) c d.3.2 in
    let r : map lower d.1 ≡ w = letters_sound w d.1 d.4 in
    rw (d.2, d.3.1, e, r)

pub letters_complete : (w s : Bytes) → map lower s ≡ w → Describes (letters w) s
unfolding letters
letters_complete [] [] e = refl
letters_complete [] (a ∷ s) e = absurd (cons≢nil e)
letters_complete (c ∷ w) [] e = absurd (nil≢cons e)
letters_complete (c ∷ w) (a ∷ s) e =
    (a ∷ [], s, refl, (a, refl, eq-eqb (lower a) c (head-eq_of_cons-eq e)), letters_complete w s (tail-eq_of_cons-eq e))
