-- Rules for small numbers, each by one test that antt computes for all of them.
use mathlib.Core.Path.{◌≡◌, refl, sym}
use mathlib.Core.Logic.{⊎_elim}
use mathlib.Core.Bool.{Bool, true, false, ◌&&◌, ◌||◌, not}
use Prim.Native.Nat.{ℕ, zero, suc, ◌-◌, ◌<◌}
use native.Mathlib.Nat.{not-suc-le-zero, eq-or-lt_of_le, le_of_suc-le-suc}
use borrow.Author.Tests.{eqb-true, not-true}
use lib.Dec.{eqb, leb}
use lib.Count.{count_leading_zeros}
use Rattle.spec.specs.Bytes.{ascii, byte, when◌then◌else◌, among, between, in_ranges}
use Rattle.spec.specs.Utf8.{leading_ones, leading_ones_of}
use Rattle.spec.specs.XmlNames.{is_char, start_ranges, further_ranges, is_name_start, is_name_char}
use Rattle.spec.proofs.Booleans.{and_left, and_right}
use Rattle.utils.specs.Names.{other, starts_nc, goes_on_nc}
use Rattle.utils.specs.Plain.{plain}

-- does a test pass of every number below n?
all_below : (ℕ → Bool) → ℕ → Bool
all_below f zero = true
all_below f (suc n) = f n && all_below f n

below : (f : ℕ → Bool) (n : ℕ) → all_below f n ≡ true → (k : ℕ) → k < n → f k ≡ true
unfolding all_below
below f zero h k b = absurd (not-suc-le-zero b)
below f (suc n) h k b =
    ⊎_elim
    (λ (e : k ≡ n). rw e (and_left (f n) (all_below f n) h))
    (λ (l : k < n). below f n (and_right (f n) (all_below f n) h) k l)
    (eq-or-lt_of_le (le_of_suc-le-suc b))

-- do two tests agree?
agree : Bool → Bool → Bool
agree true b = b
agree false b = not b

agree_same : (a b : Bool) → agree a b ≡ true → a ≡ b
unfolding agree
agree_same true b h = sym h
agree_same false b h = sym (not-true b h)

-- ---- the leading zeros of an inverted byte are its leading ones

ones : ℕ → Bool
ones b = eqb (count_leading_zeros 8 (255 - b)) (leading_ones b)

all_ones : all_below ones 256 ≡ true
unfolding all_below ones leading_ones leading_ones_of when◌then◌else◌ count_leading_zeros
all_ones = refl

pub inverted : (b : ℕ) → b < 256 → count_leading_zeros 8 (255 - b) ≡ leading_ones b
unfolding ones
inverted b h = eqb-true (count_leading_zeros 8 (255 - b)) (leading_ones b) (below ones 256 all_ones b h)

-- ---- whitespace

white : ℕ → Bool
white b = agree (((eqb b 32 || eqb b 9) || eqb b 10) || eqb b 13) (among (ascii " \t\n\r") b)

all_white : all_below white 256 ≡ true
unfolding all_below white agree ascii among
all_white = refl

pub whitespace : (b : ℕ) → b < 256 → (((eqb b 32 || eqb b 9) || eqb b 10) || eqb b 13) ≡ among (ascii " \t\n\r") b
unfolding white
whitespace b h = agree_same _ _ (below white 256 all_white b h)

-- ---- XML's control characters

control : ℕ → Bool
control c = agree ((eqb c 9 || eqb c 10) || eqb c 13) (is_char c)

all_control : all_below control 32 ≡ true
unfolding all_below control agree is_char in_ranges between
all_control = refl

pub controls : (c : ℕ) → c < 32 → ((eqb c 9 || eqb c 10) || eqb c 13) ≡ is_char c
unfolding control
controls c h = agree_same _ _ (below control 32 all_control c h)

-- ---- names in ASCII are those of the table

start : ℕ → Bool
start b = agree ((leb 97 b && leb b 122) || ((leb 65 b && leb b 90) || eqb b 95)) (plain starts_nc b)

all_start : all_below start 256 ≡ true
unfolding all_below start agree plain starts_nc other is_name_start start_ranges in_ranges between byte
all_start = refl

pub plain_start : (b : ℕ) → b < 256 → ((leb 97 b && leb b 122) || ((leb 65 b && leb b 90) || eqb b 95)) ≡ plain starts_nc b
unfolding start
plain_start b h = agree_same _ _ (below start 256 all_start b h)

name : ℕ → Bool
name b = agree (plain starts_nc b || (((leb 48 b && leb b 57) || eqb b 45) || eqb b 46)) (plain goes_on_nc b)

all_name : all_below name 256 ≡ true
unfolding all_below name agree plain starts_nc goes_on_nc other is_name_start is_name_char start_ranges further_ranges in_ranges between byte
all_name = refl

pub plain-name : (b : ℕ) → b < 256 → (plain starts_nc b || (((leb 48 b && leb b 57) || eqb b 45) || eqb b 46)) ≡ plain goes_on_nc b
unfolding name
plain-name b h = agree_same _ _ (below name 256 all_name b h)
