-- The kind of a subtag: what it says of the subtag, and that each production of one subtag is a test of kinds.
use mathlib.Core.Path.{◌≡◌, refl, sym, ap, ◌∙◌}
use mathlib.Core.Logic.{◌⊎◌, inl, inr}
use mathlib.Core.Bool.{Bool, true, false, ◌&&◌, ◌||◌, not, false≢true}
use mathlib.Core.List.{[], ◌∷◌, ◌++◌, map, head-eq_of_cons-eq, tail-eq_of_cons-eq, cons≢nil, nil≢cons}
use Prim.Native.Nat.{ℕ, zero, suc, ◌≤◌, ◌<◌, min}
use native.Mathlib.Omega.{arith}
use lib.Dec.{eqb, leb}
use lib.ListN.{length}
use borrow.Author.Tests.{not-false, leb-true, leb-false, eq-eqb, eqb-true, eqb-false, ne_eqb}
use Rattle.spec.specs.Bytes.{Bytes, ascii, byte, when◌then◌else◌, between, every}
use Rattle.spec.specs.Grammar.{one, ◌then◌, Describes}
use Rattle.spec.specs.Abnf.{lower, ALPHA, DIGIT, alphanum, word, times, ◌to◌}
use Rattle.spec.specs.Rfc5646.{variant, singleton}
use Rattle.spec.proofs.Booleans.{or_cases, or_left, or_right_lem, and_left, and_right, and_both}
use Rattle.langtag.specs.declared.Kind.{Kind}
use Rattle.langtag.specs.declared.Kind.TheVariants.{X, Singleton, Letters2, Letters3, Letters4, Letters5, Digits3, Variant, Other, Bad}
use Rattle.langtag.specs.declared.Subtag.{Subtag}
use Rattle.langtag.specs.Machine.{letter, digit, is_x, kind, sized, number, one_of, long, any}
use Rattle.langtag.proofs.Letters.{inside, within, below, above, lower_low, letters_sound, letters_complete}
use Rattle.langtag.proofs.Hyphens.{Piece, plain}
use Rattle.langtag.proofs.Counts.{Counted, every_wider, times_sound, times_complete, to_sound, to_complete}

-- ---- what the machine has seen of a subtag

abbrev pub alnum : ℕ → Bool
alnum c = letter c || digit c

unfoldable pub numbered : Bytes → Bool
numbered [] = false
numbered (c ∷ t) = digit c

unfoldable pub summary : Bytes → Subtag
summary t =
    record {
      length = min 9 (length t);
      letters = every letter t;
      digits = every digit t;
      alphanum = every alnum t;
      numbered = numbered t;
      x = every is_x t;
    }

unfoldable pub kind_of : Bytes → Kind
kind_of t = kind (summary t)

-- ---- bytes of one class

digit_no_letter : (c : ℕ) → digit c ≡ true → letter c ≡ false
unfolding digit letter byte
digit_no_letter c h =
    let i : (48 ≤ c) × (c ≤ 57) = inside 48 57 c h in
    rw (lower_low c (omega arith)) (below 97 122 c (omega arith))

alnum-plain : (c : ℕ) → alnum c ≡ true → not (eqb c 45) ≡ true
unfolding digit letter byte lower between when◌then◌else◌
alnum-plain c h = go (eqb c 45) refl
  where
    go : (t : Bool) → eqb c 45 ≡ t → not t ≡ true
    go true e = rw (eqb-true c 45 e) at h
    go false e = refl

plain-alnum : (t : Bytes) → every alnum t ≡ true → plain t ≡ true
unfolding plain
plain-alnum t h = every_wider alnum (λ c. not (eqb c 45)) alnum-plain t h

alnum-letters : (t : Bytes) → every letter t ≡ true → every alnum t ≡ true
alnum-letters t h = every_wider letter alnum (λ c e. or_left (letter c) (digit c) e) t h

alnum-digits : (t : Bytes) → every digit t ≡ true → every alnum t ≡ true
alnum-digits t h = every_wider digit alnum (λ c e. or_right_lem (letter c) (digit c) e) t h

-- what begins with a digit is not all letters
unlettered : (t : Bytes) → numbered t ≡ true → every letter t ≡ false
unfolding numbered every
unlettered [] h = absurd (false≢true h)
unlettered (c ∷ t) h = rw (digit_no_letter c h)

-- ---- what a kind says

abbrev Facts : Kind → Bytes → Type 0
Facts X t = (length t ≡ 1) × (every is_x t ≡ true) × (every alnum t ≡ true)
Facts Singleton t = (length t ≡ 1) × (every is_x t ≡ false) × (every alnum t ≡ true)
Facts Letters2 t = Counted letter 2 2 t
Facts Letters3 t = Counted letter 3 3 t
Facts Letters4 t = Counted letter 4 4 t
Facts Letters5 t = Counted letter 5 8 t
Facts Digits3 t = Counted digit 3 3 t
Facts Variant t = Counted alnum 5 8 t ⊎ (Counted alnum 4 4 t × (numbered t ≡ true))
Facts Other t = Counted alnum 2 8 t
Facts Bad t = Unit {0}

branch : {A : Type 0} (P : A → Type 0) (t : Bool) {a b : A} → (t ≡ true → P a) → (t ≡ false → P b) → P (when t then a else b)
unfolding when◌then◌else◌
branch P true f g = f refl
branch P false f g = g refl

-- by the length, each case under the tests before it
module _ (t : Bytes) (m : every alnum t ≡ true) where
  abbrev F : Kind → Type 0
  F k = Facts k t

  facts_sized : (n : ℕ) → n ≡ min 9 (length t) → F (sized n (summary t))
  unfolding sized summary
  facts_sized n q =
      branch F (eqb n 1) (λ e. let l : n ≡ 1 = eqb-true n 1 e in branch F (every is_x t) (λ x. (omega arith, x, m)) (λ x. (omega arith, x, m))) λ _.
      branch F (eqb n 2)
      (λ e.
      let l : n ≡ 2 = eqb-true n 2 e in
      branch F (every letter t) (λ a. record { least = omega arith; most = omega arith; all = a }) (λ _. record { least = omega arith; most = omega arith; all = m }))
      λ _.
      branch F (eqb n 3)
      (λ e.
      let l : n ≡ 3 = eqb-true n 3 e in
      branch F (every letter t) (λ a. record { least = omega arith; most = omega arith; all = a }) λ _.
      branch F (every digit t) (λ a. record { least = omega arith; most = omega arith; all = a }) (λ _. record { least = omega arith; most = omega arith; all = m }))
      λ _.
      branch F (eqb n 4)
      (λ e.
      let l : n ≡ 4 = eqb-true n 4 e in
      branch F (every letter t) (λ a. record { least = omega arith; most = omega arith; all = a }) λ _.
      branch F (numbered t) (λ a. inr (record { least = omega arith; most = omega arith; all = m }, a)) (λ _. record { least = omega arith; most = omega arith; all = m }))
      λ _.
      branch F (between 5 8 n)
      (λ e.
      let l : (5 ≤ n) × (n ≤ 8) = inside 5 8 n e in
      branch F (every letter t) (λ a. record { least = omega arith; most = omega arith; all = a }) (λ _. inl (record { least = omega arith; most = omega arith; all = m })))
      (λ _. tt)

facts : (t : Bytes) → Facts (kind_of t) t
unfolding kind_of kind summary
facts t = branch (λ k. Facts k t) (every alnum t) (λ m. facts_sized t m (min 9 (length t)) refl) (λ _. tt)

from : ℕ → Kind
from zero = X
from (suc zero) = Singleton
from (suc (suc zero)) = Letters2
from (suc (suc (suc zero))) = Letters3
from (suc (suc (suc (suc zero)))) = Letters4
from (suc (suc (suc (suc (suc zero))))) = Letters5
from (suc (suc (suc (suc (suc (suc zero)))))) = Digits3
from (suc (suc (suc (suc (suc (suc (suc zero))))))) = Variant
from (suc (suc (suc (suc (suc (suc (suc (suc zero)))))))) = Other
from (suc (suc (suc (suc (suc (suc (suc (suc (suc n))))))))) = Bad

from-number : (k : Kind) → from (number k) ≡ k
unfolding from
from-number X = refl
from-number Singleton = refl
from-number Letters2 = refl
from-number Letters3 = refl
from-number Letters4 = refl
from-number Letters5 = refl
from-number Digits3 = refl
from-number Variant = refl
from-number Other = refl
from-number Bad = refl

-- a test of one kind passes only at that kind
told : (l : Kind) (t : Bytes) → one_of (l ∷ []) (kind_of t) ≡ true → Facts l t
told l t h = go (or_cases (eqb (number k) (number l)) false h)
  where
    k : Kind
    k = kind_of t

    go : (eqb (number k) (number l) ≡ true) ⊎ (false ≡ true) → Facts l t
    go (inl e) = rw (sym (from-number k) ∙ ap from (eqb-true (number k) (number l) e) ∙ from-number l) at (facts t)
    go (inr e) = absurd (false≢true e)

-- and a test of two at one of them
told-two : (l r : Kind) (t : Bytes) → one_of (l ∷ r ∷ []) (kind_of t) ≡ true → Facts l t ⊎ Facts r t
told-two l r t h = go (or_cases (eqb (number k) (number l)) (one_of (r ∷ []) k) h)
  where
    k : Kind
    k = kind_of t

    go : (eqb (number k) (number l) ≡ true) ⊎ (one_of (r ∷ []) k ≡ true) → Facts l t ⊎ Facts r t
    go (inl e) = inl (told l t (or_left (eqb (number k) (number l)) false e))
    go (inr e) = inr (told r t e)

-- ---- productions of one subtag, as tests of its kind

-- the kind of an alphanumeric subtag, by its length
module _ (u : Subtag) (h : not u.alphanum ≡ false) where
  m : u.alphanum ≡ true
  m = not-false u.alphanum h

  pub kind_none : u.length ≡ 0 → kind u ≡ Bad
  unfolding kind sized between when◌then◌else◌
  kind_none l = rw (m, l)

  pub kind-one : u.length ≡ 1 → kind u ≡ (when u.x then X else Singleton)
  unfolding kind sized when◌then◌else◌
  kind-one l = rw (m, l)

  pub kind-two : u.length ≡ 2 → kind u ≡ (when u.letters then Letters2 else Other)
  unfolding kind sized when◌then◌else◌
  kind-two l = rw (m, l)

  pub kind_three : u.length ≡ 3 → kind u ≡ (when u.letters then Letters3 else when u.digits then Digits3 else Other)
  unfolding kind sized when◌then◌else◌
  kind_three l = rw (m, l)

  pub kind_four : u.length ≡ 4 → kind u ≡ (when u.letters then Letters4 else when u.numbered then Variant else Other)
  unfolding kind sized when◌then◌else◌
  kind_four l = rw (m, l)

  kind-above : (t : Bool) → 4 < u.length → between 5 8 u.length ≡ t → kind u ≡ (when t then (when u.letters then Letters5 else Variant) else Bad)
  unfolding kind sized when◌then◌else◌
  kind-above t a e =
      let n : ℕ = u.length in
      rw (m, ne_eqb n 1 (omega arith), ne_eqb n 2 (omega arith), ne_eqb n 3 (omega arith), ne_eqb n 4 (omega arith), e)

  pub kind_wide : 5 ≤ u.length → u.length ≤ 8 → kind u ≡ (when u.letters then Letters5 else Variant)
  unfolding when◌then◌else◌
  kind_wide a b = kind-above true a (within 5 8 u.length a b)

  pub kind_over : 8 < u.length → kind u ≡ Bad
  unfolding when◌then◌else◌
  kind_over a = kind-above false (omega arith) (above 5 8 u.length a)

kind_at : (t : Bytes) (n : ℕ) → length t ≡ n → n ≤ 9 → every alnum t ≡ true → kind_of t ≡ sized n (summary t)
unfolding kind_of kind summary when◌then◌else◌
kind_at t n l b m = let e : min 9 (length t) ≡ n = omega arith in rw (m, e)

-- of 5 to 8 bytes
wide_at : (t : Bytes) → 5 ≤ length t → length t ≤ 8 → every alnum t ≡ true → kind_of t ≡ (when every letter t then Letters5 else Variant)
unfolding kind_of summary
wide_at t a b m = kind_wide (summary t) (ap not m) (omega arith) (omega arith)

itself : (k : Kind) → one_of (k ∷ []) k ≡ true
itself k = or_left (eqb (number k) (number k)) false (eq-eqb (number k) (number k) refl)

of_letters : (n : ℕ) (k : Kind) → n ≤ 9 → ((u : Subtag) → u.letters ≡ true → sized n u ≡ k) → ((t : Bytes) → Facts k t → Counted letter n n t)
    → Piece kind_of (times n ALPHA) (one_of (k ∷ []))
unfolding ALPHA letter summary
of_letters n k b f g =
    record {
      sound = λ t d.
          let c : Counted letter n n t = times_sound letter n t d in
          let m : every alnum t ≡ true = alnum-letters t c.all in
          (rw (kind_at t n (omega arith) b m, f (summary t) c.all) (itself k), plain-alnum t m);
      complete = λ t h. times_complete letter n t (g t (told k t h));
    }

headed : (n : ℕ) (t : Bytes) → Counted digit (suc n) (suc n) t → numbered t ≡ true
unfolding numbered every
headed n [] c = absurd (omega arith)
headed n (b ∷ t) c = and_left (digit b) (every digit t) c.all

-- a digit and three more
numbered-row : (t : Bytes) → Describes (one digit then times 3 (one alnum)) t → Counted alnum 4 4 t × (numbered t ≡ true)
unfolding numbered every
numbered-row t d =
    let c : Counted alnum 3 3 d.1 = times_sound alnum 3 d.1 d.4 in
    let b : ℕ = d.3.0 in
    let e : t ≡ b ∷ d.1 = d.2 ∙ ap (◌++ d.1) d.3.1 in
    rw e (record { least = omega arith; most = omega arith; all = and_both (alnum b) (every alnum d.1) (or_right_lem (letter b) (digit b) d.3.2) c.all }, d.3.2)

row-numbered : (t : Bytes) → Counted alnum 4 4 t → numbered t ≡ true → Describes (one digit then times 3 (one alnum)) t
unfolding numbered every
row-numbered [] c n = absurd (omega arith)
row-numbered (b ∷ t) c n = (
  b ∷ [],
  t,
  refl,
  (b, refl, n),
  times_complete alnum 3 t (record { least = omega arith; most = omega arith; all = and_right (alnum b) (every alnum t) c.all }),
)

-- a letter but x
abbrev single : ℕ → Bool
single c = between 97 119 (lower c) || between 121 122 (lower c)

single-letter : (c : ℕ) → single c ≡ true → (letter c ≡ true) × (is_x c ≡ false)
unfolding letter is_x byte
single-letter c h = go (or_cases (between 97 119 (lower c)) (between 121 122 (lower c)) h)
  where
    go : (between 97 119 (lower c) ≡ true) ⊎ (between 121 122 (lower c) ≡ true) → (between 97 122 (lower c) ≡ true) × (eqb (lower c) 120 ≡ false)
    go (inl e) =
        let i : (97 ≤ lower c) × (lower c ≤ 119) = inside 97 119 (lower c) e in
        (within 97 122 (lower c) (omega arith) (omega arith), ne_eqb (lower c) 120 (λ q. omega arith))
    go (inr e) =
        let i : (121 ≤ lower c) × (lower c ≤ 122) = inside 121 122 (lower c) e in
        (within 97 122 (lower c) (omega arith) (omega arith), ne_eqb (lower c) 120 (λ q. omega arith))

letter-single : (c : ℕ) → letter c ≡ true → is_x c ≡ false → single c ≡ true
unfolding letter is_x byte
letter-single c h n = go (leb (lower c) 119) refl
  where
    i : (97 ≤ lower c) × (lower c ≤ 122)
    i = inside 97 122 (lower c) h

    go : (t : Bool) → leb (lower c) 119 ≡ t → single c ≡ true
    go true e =
        or_left (between 97 119 (lower c)) (between 121 122 (lower c)) (within 97 119 (lower c) i.0 (leb-true (lower c) 119 e))
    go false e =
        let q : 119 < lower c = leb-false (lower c) 119 e in
        or_right_lem (between 97 119 (lower c)) (between 121 122 (lower c)) (within 121 122 (lower c) (omega (arith, eqb-false (lower c) 120 n)) i.1)

digit_no_x : (c : ℕ) → digit c ≡ true → is_x c ≡ false
unfolding digit is_x byte
digit_no_x c h =
    let i : (48 ≤ c) × (c ≤ 57) = inside 48 57 c h in
    rw (lower_low c (omega arith)) (ne_eqb c 120 (λ q. omega arith))

pub letters2 : Piece kind_of (times 2 ALPHA) (one_of (Letters2 ∷ []))
unfolding sized when◌then◌else◌
letters2 = of_letters 2 Letters2 (omega arith) (λ u a. rw a) (λ t c. c)

pub letters3 : Piece kind_of (times 3 ALPHA) (one_of (Letters3 ∷ []))
unfolding sized when◌then◌else◌
letters3 = of_letters 3 Letters3 (omega arith) (λ u a. rw a) (λ t c. c)

pub letters4 : Piece kind_of (times 4 ALPHA) (one_of (Letters4 ∷ []))
unfolding sized when◌then◌else◌
letters4 = of_letters 4 Letters4 (omega arith) (λ u a. rw a) (λ t c. c)

pub letters23 : Piece kind_of (◌to◌ 2 3 ALPHA) (one_of (Letters2 ∷ Letters3 ∷ []))
unfolding ALPHA letter ◌to◌ sized summary when◌then◌else◌
letters23 =
    record {
      sound = λ t d.
          let c : Counted letter 2 3 t = to_sound letter 2 1 t d in
          let m : every alnum t ≡ true = alnum-letters t c.all in
          (by_length t c m (eqb (length t) 2) refl, plain-alnum t m);
      complete = λ t h. to_complete letter 2 1 t (joined t (told-two Letters2 Letters3 t h));
    }
  where
    by_length : (t : Bytes) → Counted letter 2 3 t → every alnum t ≡ true → (b : Bool) → eqb (length t) 2 ≡ b → one_of (Letters2 ∷ Letters3 ∷ []) (kind_of t) ≡ true
    by_length t c m true e = rw (kind_at t 2 (eqb-true (length t) 2 e) (omega arith) m, c.all)
    by_length t c m false e = rw (kind_at t 3 (omega (arith, eqb-false (length t) 2 e)) (omega arith) m, c.all)

    joined : (t : Bytes) → Counted letter 2 2 t ⊎ Counted letter 3 3 t → Counted letter 2 3 t
    joined t (inl c) = record { least = omega arith; most = omega arith; all = c.all }
    joined t (inr c) = record { least = omega arith; most = omega arith; all = c.all }

pub letters58 : Piece kind_of (◌to◌ 5 8 ALPHA) (one_of (Letters5 ∷ []))
unfolding ALPHA letter ◌to◌ when◌then◌else◌
letters58 =
    record {
      sound = λ t d.
          let c : Counted letter 5 8 t = to_sound letter 5 3 t d in
          let m : every alnum t ≡ true = alnum-letters t c.all in
          (rw (wide_at t c.least c.most m, c.all), plain-alnum t m);
      complete = λ t h. to_complete letter 5 3 t (told Letters5 t h);
    }

pub digits3 : Piece kind_of (times 3 DIGIT) (one_of (Digits3 ∷ []))
unfolding DIGIT digit sized summary when◌then◌else◌
digits3 =
    record {
      sound = λ t d.
          let c : Counted digit 3 3 t = times_sound digit 3 t d in
          let m : every alnum t ≡ true = alnum-digits t c.all in
          (rw (kind_at t 3 (omega arith) (omega arith) m, unlettered t (headed 2 t c), c.all), plain-alnum t m);
      complete = λ t h. times_complete digit 3 t (told Digits3 t h);
    }

pub and-true : (t : Bool) → (t && true) ≡ t
and-true true = refl
and-true false = refl

pub variants : Piece kind_of variant (one_of (Letters5 ∷ Variant ∷ []))
unfolding variant DIGIT alphanum digit letter ◌to◌ sized summary when◌then◌else◌
variants =
    record {
      sound = sound;
      complete = λ t h. complete t (told-two Letters5 Variant t h);
    }
  where
    either : (b : Bool) → one_of (Letters5 ∷ Variant ∷ []) (when b then Letters5 else Variant) ≡ true
    either true = refl
    either false = refl

    sound : (t : Bytes) → Describes variant t → (one_of (Letters5 ∷ Variant ∷ []) (kind_of t) ≡ true) × (plain t ≡ true)
    sound t (inl d) =
        let c : Counted alnum 5 8 t = to_sound alnum 5 3 t d in
        (rw (wide_at t c.least c.most c.all) (either (every letter t)), plain-alnum t c.all)
    sound t (inr d) =
        let c : Counted alnum 4 4 t = (numbered-row t d).0 in
        let n : numbered t ≡ true = (numbered-row t d).1 in
        (rw (kind_at t 4 (omega arith) (omega arith) c.all, unlettered t n, n), plain-alnum t c.all)

    complete : (t : Bytes) → Facts Letters5 t ⊎ Facts Variant t → Describes variant t
    complete t (inl c) = inl (to_complete alnum 5 3 t (record { least = c.least; most = c.most; all = alnum-letters t c.all }))
    complete t (inr (inl c)) = inl (to_complete alnum 5 3 t c)
    complete t (inr (inr c)) = inr (row-numbered t c.0 c.1)

pub singletons : Piece kind_of singleton (one_of (Singleton ∷ []))
unfolding singleton DIGIT digit byte sized summary every when◌then◌else◌
singletons =
    record {
      sound = sound;
      complete = λ t h. complete t (told Singleton t h);
    }
  where
    kinds : (c : ℕ) → alnum c ≡ true → is_x c ≡ false → (one_of (Singleton ∷ []) (kind_of (c ∷ [])) ≡ true) × (plain (c ∷ []) ≡ true)
    kinds c m n =
        let e : every alnum (c ∷ []) ≡ true = and_both (alnum c) true m refl in
        (rw (kind_at (c ∷ []) 1 refl (omega arith) e, n), plain-alnum (c ∷ []) e)

    sound : (t : Bytes) → Describes singleton t → (one_of (Singleton ∷ []) (kind_of t) ≡ true) × (plain t ≡ true)
    sound t (inl d) = rw d.1 (kinds d.0 (or_right_lem (letter d.0) (digit d.0) d.2) (digit_no_x d.0 d.2))
    sound t (inr d) = rw d.1 (kinds d.0 (or_left (letter d.0) (digit d.0) (single-letter d.0 d.2).0) (single-letter d.0 d.2).1)

    complete : (t : Bytes) → Facts Singleton t → Describes singleton t
    complete [] f = absurd (omega arith)
    complete (c ∷ []) f = go (or_cases (letter c) (digit c) (and_left (alnum c) true f.2))
      where
        go : (letter c ≡ true) ⊎ (digit c ≡ true) → Describes singleton (c ∷ [])
        go (inl l) = inr (c, refl, letter-single c l (sym (and-true (is_x c)) ∙ f.1))
        go (inr d) = inl (c, refl, d)
    complete (c ∷ e ∷ t) f = absurd (omega arith)

pub the_x : Piece kind_of (word "x") (one_of (X ∷ []))
unfolding word ascii letter is_x byte between sized summary every when◌then◌else◌
the_x =
    record {
      sound = λ t d. sound t (letters_sound (120 ∷ []) t d);
      complete = λ t h. letters_complete (120 ∷ []) t (complete t (told X t h));
    }
  where
    sound : (t : Bytes) → map lower t ≡ 120 ∷ [] → (one_of (X ∷ []) (kind_of t) ≡ true) × (plain t ≡ true)
    sound [] e = absurd (nil≢cons e)
    sound (c ∷ []) e =
        let q : lower c ≡ 120 = head-eq_of_cons-eq e in
        let m : every alnum (c ∷ []) ≡ true = rw q in
        (rw (kind_at (c ∷ []) 1 refl (omega arith) m, q), plain-alnum (c ∷ []) m)
    sound (c ∷ b ∷ t) e = absurd (cons≢nil (tail-eq_of_cons-eq e))

    complete : (t : Bytes) → Facts X t → map lower t ≡ 120 ∷ []
    complete [] f = absurd (omega arith)
    complete (c ∷ []) f = rw (eqb-true (lower c) 120 (and_left (is_x c) true f.1))
    complete (c ∷ b ∷ t) f = absurd (omega arith)

-- ---- any subtag

-- of 1 to 8 bytes, or of 2 to 8
sizes : (k : Kind) (t : Bytes) → Facts k t → (any k ≡ true → Counted alnum 1 8 t) × (long k ≡ true → 2 ≤ length t)
sizes X t f = (λ _. record { least = omega arith; most = omega arith; all = f.2 }, λ h. absurd (false≢true h))
sizes Singleton t f = (λ _. record { least = omega arith; most = omega arith; all = f.2 }, λ h. absurd (false≢true h))
sizes Letters2 t f = (λ _. record { least = omega arith; most = omega arith; all = alnum-letters t f.all }, λ _. f.least)
sizes Letters3 t f = (λ _. record { least = omega arith; most = omega arith; all = alnum-letters t f.all }, λ _. omega arith)
sizes Letters4 t f = (λ _. record { least = omega arith; most = omega arith; all = alnum-letters t f.all }, λ _. omega arith)
sizes Letters5 t f = (λ _. record { least = omega arith; most = omega arith; all = alnum-letters t f.all }, λ _. omega arith)
sizes Digits3 t f = (λ _. record { least = omega arith; most = omega arith; all = alnum-digits t f.all }, λ _. omega arith)
sizes Variant t (inl f) = (λ _. record { least = omega arith; most = omega arith; all = f.all }, λ _. omega arith)
sizes Variant t (inr f) = (λ _. record { least = omega arith; most = omega arith; all = f.0.all }, λ _. omega arith)
sizes Other t f = (λ _. record { least = omega arith; most = omega arith; all = f.all }, λ _. f.least)
sizes Bad t f = (λ h. absurd (false≢true h), λ h. absurd (false≢true h))

long-any : (k : Kind) → long k ≡ true → any k ≡ true
long-any X h = absurd (false≢true h)
long-any Singleton h = absurd (false≢true h)
long-any Letters2 h = refl
long-any Letters3 h = refl
long-any Letters4 h = refl
long-any Letters5 h = refl
long-any Digits3 h = refl
long-any Variant h = refl
long-any Other h = refl
long-any Bad h = absurd (false≢true h)

fine : (n : ℕ) (u : Subtag) → 1 ≤ n → n ≤ 8 → (any (sized n u) ≡ true) × (2 ≤ n → long (sized n u) ≡ true)
unfolding sized
fine n u a b =
    branch P (eqb n 1) (λ e. let l : n ≡ 1 = eqb-true n 1 e in branch P u.x (λ _. (refl, λ h. absurd (omega arith))) (λ _. (refl, λ h. absurd (omega arith)))) λ e₁.
    branch P (eqb n 2) (λ _. branch P u.letters (λ _. ok) (λ _. ok)) λ e₂.
    branch P (eqb n 3) (λ _. branch P u.letters (λ _. ok) λ _. branch P u.digits (λ _. ok) (λ _. ok)) λ e₃.
    branch P (eqb n 4) (λ _. branch P u.letters (λ _. ok) λ _. branch P u.numbered (λ _. ok) (λ _. ok)) λ e₄.
    branch P (between 5 8 n) (λ _. branch P u.letters (λ _. ok) (λ _. ok))
    (λ e₅. absurd (false≢true (sym e₅ ∙ within 5 8 n (omega (arith, eqb-false n 1 e₁, eqb-false n 2 e₂, eqb-false n 3 e₃, eqb-false n 4 e₄)) b)))
  where
    P : Kind → Type 0
    P k = (any k ≡ true) × (2 ≤ n → long k ≡ true)

    ok : {A : Type 0} → (true ≡ true) × (A → true ≡ true)
    ok = (refl, λ _. refl)

pub any_piece : Piece kind_of (◌to◌ 1 8 alphanum) any
unfolding alphanum letter digit ◌to◌
any_piece =
    record {
      sound = λ t d.
          let c : Counted alnum 1 8 t = to_sound alnum 1 7 t d in
          (rw (kind_at t (length t) refl (omega arith) c.all) (fine (length t) (summary t) c.least c.most).0, plain-alnum t c.all);
      complete = λ t h. to_complete alnum 1 7 t ((sizes (kind_of t) t (facts t)).0 h);
    }

pub long_piece : Piece kind_of (◌to◌ 2 8 alphanum) long
unfolding alphanum letter digit ◌to◌
long_piece =
    record {
      sound = λ t d.
          let c : Counted alnum 2 8 t = to_sound alnum 2 6 t d in
          (rw (kind_at t (length t) refl (omega arith) c.all) ((fine (length t) (summary t) (omega arith) c.most).1 c.least), plain-alnum t c.all);
      complete = λ t h.
          let c : Counted alnum 1 8 t = (sizes (kind_of t) t (facts t)).0 (long-any (kind_of t) h) in
          to_complete alnum 2 6 t (record { least = (sizes (kind_of t) t (facts t)).1 h; most = c.most; all = c.all });
    }
