-- The tests of one group of an IPv6 address, and of an IPv4 address.
use mathlib.Core.Path.{◌≡◌, refl, sym, ◌∙◌}
use mathlib.Core.Bool.{Bool, true, false, ◌&&◌, ◌||◌, false≢true, and-false, or-false, and-true, and-or_distrib_left}
use mathlib.Core.List.{List, [], ◌∷◌, append-nil, cons≢nil}
use Prim.Native.Nat.{ℕ, zero, suc, ◌<◌, ◌≤◌}
use native.Mathlib.Omega.{arith}
use lib.Dec.{eqb, leb}
use lib.ListN.{length, get_or}
use borrow.Author.Tests.{eq-eqb, eqb-true, leb-true, le-leb, lt-leb}
use Rattle.std.specs.Prelude.{Option, Some, None, MatchOption}
use Rattle.std.proofs.Common.{Bor}
use Rattle.spec.specs.Bytes.{Bytes, every, between, is_empty, up_to, from}
use Rattle.spec.specs.Grammar.{Grammar, empty, one, ◌or◌, ◌then◌, many, Many, stop, more, Describes}
use Rattle.spec.specs.Abnf.{lower, letters, word, HEXDIG, DIGIT, at_most}
use Rattle.spec.specs.Rfc3987.{h16, dec_octet, IPv4address}
use Rattle.spec.specs.Rfc3987 as R
use Rattle.spec.proofs.Booleans.{and_right}
use Rattle.iri.specs.Parts.{of, is_hex, is_digit}
use Rattle.iri.specs.Parts as P
use Rattle.iri.specs.Forms.{Cut, is_mark}
use Rattle.iri.specs.Addresses.{dotted, DottedBefore, Undotted, octet}
use Rattle.iri.proofs.Languages.{reads_none, of_in, of_same, same_test, in_empty, empty_in, in_then, then_in, of_or, of_one, of_nil, of_assoc, of_skip, shuns, is, of_cut, lower-mark, mark-marked, of_mark, mark-lower, mark_low}
use Rattle.iri.proofs.Characters.{Reads}
use Rattle.iri.proofs.Rows.{hex_low}

swap : (a b c : Bool) → (a && (b && c)) ≡ (b && (a && c))
swap true b c = refl
swap false b c = sym (and-false b)

leb_suc : (m n : ℕ) → leb (suc m) (suc n) ≡ leb m n
leb_suc m n = same_test (leb (suc m) (suc n)) (leb m n) (λ e. le-leb m n (omega (arith, leb-true (suc m) (suc n) e))) (λ e. le-leb (suc m) (suc n) (omega (arith, leb-true m n e)))

-- ---- rows of ASCII characters

of_empty : (s : Bytes) → of empty s ≡ is_empty s
unfolding is_empty
of_empty [] = of_nil empty
of_empty (c ∷ s) = same_test (of empty (c ∷ s)) false (λ e. absurd (cons≢nil (in_empty (of_in empty (c ∷ s) e)))) (λ e. absurd (false≢true e))

module _ (p : ℕ → Bool) (low : (c : ℕ) → p c ≡ true → c < 128) where
  -- the last character
  of_last : (c : ℕ) (s : Bytes) → of (one p) (c ∷ s) ≡ (p c && is_empty s)
  of_last c s = of_alone ∙ of_one p low empty c s ∙ rw (of_empty s)
    where
      of_alone : of (one p) (c ∷ s) ≡ of (one p then empty) (c ∷ s)
      of_alone =
          of_same {g = one p} {h = one p then empty} {s = c ∷ s} {t = c ∷ s}
          (λ i. rw append-nil at (then_in i empty_in))
          (λ i. let q = in_then i in rw (q.2, in_empty q.4, append-nil) q.3)

  at_most_lem : (n : ℕ) (s : Bytes) → of (at_most n (one p)) s ≡ (leb (length s) n && every p s)
  unfolding at_most every is_empty
  at_most_lem zero [] = of_nil empty
  at_most_lem zero (c ∷ s) = of_empty (c ∷ s) ∙ rw (lt-leb (suc (length s)) 0 (omega arith))
  at_most_lem (suc n) [] = of_nil (at_most (suc n) (one p)) ∙ rw (le-leb 0 (suc n) (omega arith))
  at_most_lem (suc n) (c ∷ s) =
      of_or empty (one p then at_most n (one p)) (c ∷ s) ∙ rw (of_empty (c ∷ s), of_one p low (at_most n (one p)) c s, at_most_lem n s, leb_suc (length s) n) (swap (p c) (leb (length s) n) (every p s))

  -- any number
  pub any : (s : Bytes) → of (many (one p)) s ≡ every p s
  unfolding every
  any [] = of_nil (many (one p))
  any (c ∷ s) =
      of_same {g = many (one p)} {h = one p then many (one p)} {s = c ∷ s} {t = c ∷ s} (λ i. record { text = i.text; reads = i.reads; describes = cut i.text i.reads i.describes }) (λ i. let x = i.describes in record { text = i.text; reads = i.reads; describes = more x.0 x.1 x.2 x.3 x.4 })
      ∙ of_one p low (many (one p)) c s ∙ rw (any s)
    where
      cut : (cs : List ℕ) → Reads (c ∷ s) cs → Many (Describes (one p)) cs → Describes (one p then many (one p)) cs
      cut cs r (stop e) = absurd (cons≢nil (reads_none r e))
      cut cs r (more u v e x y) = (u, v, e, x, y)

-- ---- a group

hexes : (s : Bytes) → of h16 s ≡ (leb 1 (length s) && (leb (length s) 4 && every is_hex s))
unfolding every P.all R.all
hexes [] = of_nil h16
hexes (c ∷ s) =
    sym (of_assoc (one is_hex) empty (at_most 3 (one is_hex)) (c ∷ s)) ∙ of_one is_hex hex_low (empty then at_most 3 (one is_hex)) c s ∙ of-hexes
  where
    of-hexes : (is_hex c && of (empty then at_most 3 (one is_hex)) s) ≡ (leb 1 (suc (length s)) && (leb (suc (length s)) 4 && every is_hex (c ∷ s)))
    of-hexes = rw (of_skip (at_most 3 (one is_hex)) s, at_most_lem is_hex hex_low 3 s, leb_suc (length s) 3, le-leb 1 (suc (length s)) (omega arith)) (swap (is_hex c) (leb (length s) 3) (every is_hex s))

pub group_few : (s : Bytes) → 1 ≤ length s → length s ≤ 4 → of h16 s ≡ of (many HEXDIG) s
unfolding P.all R.all
group_few s l h = hexes s ∙ rw (le-leb 1 (length s) l, le-leb (length s) 4 h) (sym (any is_hex hex_low s))

pub group_none : (s : Bytes) → length s ≡ 0 → of h16 s ≡ false
group_none s l = hexes s ∙ rw (lt-leb 1 (length s) (omega arith))

pub group_long : (s : Bytes) → 4 < length s → of h16 s ≡ false
group_long s l = hexes s ∙ rw (lt-leb (length s) 4 l) (and-false (leb 1 (length s)))

-- ---- an octet

digit_low : (a z : ℕ) → z < 128 → (c : ℕ) → between a z c ≡ true → c < 128
unfolding between
digit_low a z l c h = omega (arith, leb-true c z (and_right (leb a c) (leb c z) h))

decimal_low : (c : ℕ) → between 48 57 c ≡ true → c < 128
decimal_low = digit_low 48 57 (omega arith)

-- a word of one character that is no letter
of_letter : (d : ℕ) → is_mark d ≡ true → (h : Grammar ℕ) (c : ℕ) (s : Bytes) → of (letters (d ∷ []) then h) (c ∷ s) ≡ (eqb c d && of h s)
unfolding letters
of_letter d m h c s =
    sym (of_assoc (one (λ x. eqb (lower x) d)) empty h (c ∷ s)) ∙ of_one (λ x. eqb (lower x) d) (λ x e. rw (lower-mark d m x e) (mark_low d m)) (empty then h) c s
    ∙ rw (of_skip h s, same_test (eqb (lower c) d) (eqb c d) (λ e. eq-eqb c d (lower-mark d m c e)) (λ e. rw (eqb-true c d e) (mark-lower d m)))

or_both : {a b c d : Bool} → a ≡ b → c ≡ d → (a || c) ≡ (b || d)
or_both {a} {b} {c} {d} e f = rw (e, f)

-- the alternatives of two digits or more
abbrev two : Grammar ℕ
two = one (between 49 57) then DIGIT

abbrev hundred : Grammar ℕ
hundred = letters (49 ∷ []) then (DIGIT then (DIGIT then empty))

abbrev two_hundred : Grammar ℕ
two_hundred = letters (50 ∷ []) then (one (between 48 52) then DIGIT)

abbrev two_fifty : Grammar ℕ
two_fifty = letters (50 ∷ 53 ∷ []) then one (between 48 53)

-- the five alternatives, by the first character
octet_cons : (a : ℕ) (s : Bytes) → of dec_octet (a ∷ s) ≡
    ((between 48 57 a && is_empty s) || ((between 49 57 a && of DIGIT s) || ((eqb a 49 && of (DIGIT then (DIGIT then empty)) s)
    || ((eqb a 50 && of (one (between 48 52) then DIGIT) s) || (eqb a 50 && of (letters (53 ∷ []) then one (between 48 53)) s)))))
unfolding is_mark R.all
octet_cons a s =
    of_or DIGIT (two or (hundred or (two_hundred or two_fifty))) (a ∷ s) ∙ or_both (of_last (between 48 57) decimal_low a s)
    (of_or two (hundred or (two_hundred or two_fifty)) (a ∷ s) ∙ or_both (of_one (between 49 57) (digit_low 49 57 (omega arith)) DIGIT a s)
    (of_or hundred (two_hundred or two_fifty) (a ∷ s) ∙ or_both (of_letter 49 refl (DIGIT then (DIGIT then empty)) a s)
    (of_or two_hundred two_fifty (a ∷ s) ∙ or_both (of_letter 50 refl (one (between 48 52) then DIGIT) a s)
    (sym (of_assoc (one (λ x. eqb (lower x) 50)) (letters (53 ∷ [])) (one (between 48 53)) (a ∷ s)) ∙ of_one (λ x. eqb (lower x) 50) (λ x e. rw (lower-mark 50 refl x e) (omega arith)) (letters (53 ∷ []) then one (between 48 53)) a s
    ∙ rw (same_test (eqb (lower a) 50) (eqb a 50) (λ e. eq-eqb a 50 (lower-mark 50 refl a e)) (λ e. rw (eqb-true a 50 e)))))))

of_digit : (c : ℕ) (s : Bytes) → of DIGIT (c ∷ s) ≡ (between 48 57 c && is_empty s)
unfolding R.all
of_digit = of_last (between 48 57) decimal_low

of_digit_then : (h : Grammar ℕ) (c : ℕ) (s : Bytes) → of (DIGIT then h) (c ∷ s) ≡ (between 48 57 c && of h s)
unfolding R.all
of_digit_then h c s = of_one (between 48 57) decimal_low h c s

of_range_then : (h : Grammar ℕ) (c : ℕ) (s : Bytes) → of (one (between 48 52) then h) (c ∷ s) ≡ (between 48 52 c && of h s)
of_range_then h c s = of_one (between 48 52) (digit_low 48 52 (omega arith)) h c s

of_five : (c : ℕ) (s : Bytes) → of (one (between 48 53)) (c ∷ s) ≡ (between 48 53 c && is_empty s)
of_five c s = of_last (between 48 53) (digit_low 48 53 (omega arith)) c s

of_five_then : (h : Grammar ℕ) (c : ℕ) (s : Bytes) → of (letters (53 ∷ []) then h) (c ∷ s) ≡ (eqb c 53 && of h s)
unfolding is_mark between
of_five_then h c s = of_letter 53 refl h c s

nil-digit : of DIGIT [] ≡ false
unfolding R.all
nil-digit = of_nil DIGIT

nil-digit_then : (h : Grammar ℕ) → of (DIGIT then h) [] ≡ false
unfolding R.all
nil-digit_then h = of_nil (DIGIT then h)

nil-one : (p : ℕ → Bool) → of (one p) [] ≡ false
nil-one p = of_nil (one p)

nil-one_then : (p : ℕ → Bool) (h : Grammar ℕ) → of (one p then h) [] ≡ false
nil-one_then p h = of_nil (one p then h)

nil_five_then : (h : Grammar ℕ) → of (letters (53 ∷ []) then h) [] ≡ false
unfolding letters
nil_five_then h = of_nil (letters (53 ∷ []) then h)

nil-octet : of dec_octet [] ≡ false
unfolding R.all
nil-octet = of_nil dec_octet

ruleset octets = (of_digit, of_digit_then, of_range_then, of_five_then, of_five, of_empty, nil-digit, nil-digit_then, nil-one, nil-one_then, nil_five_then, and-false, or-false, and-true)

pub octet_of : (s : Bytes) → of dec_octet s ≡ octet s
unfolding octet is_empty
octet_of [] = nil-octet
octet_of (a ∷ []) = octet_cons a [] ∙ simp octets
octet_of (a ∷ b ∷ []) = octet_cons a (b ∷ []) ∙ simp octets
octet_of (a ∷ b ∷ c ∷ []) = octet_cons a (b ∷ c ∷ []) ∙ simp octets (rw and-or_distrib_left refl)
octet_of (a ∷ b ∷ c ∷ d ∷ s) = octet_cons a (b ∷ c ∷ d ∷ s) ∙ simp octets

-- ---- an address of four octets

dotted_cut : (n : ℕ) (s : Bytes) → of (dotted (suc n)) s ≡ (of dec_octet (up_to (is 46) s) && of (word "." then dotted n) (from (is 46) s))
unfolding dotted shuns is_mark R.all
dotted_cut n s = of_cut 46 dec_octet (word "." then dotted n) (omega arith) refl (λ t i. mark-marked 46 refl t i) s

pub dotted_short : (s : Bytes) → from (is 46) s ≡ [] → Undotted s
unfolding R.all
dotted_short s e n = dotted_cut n s ∙ rw (e, of_nil (word "." then dotted n)) (and-false (of dec_octet (up_to (is 46) s)))

module _ {s a b : Bytes} (cut : Cut 46 s a b) where
  pub dotted_bad : of dec_octet a ≡ false → Undotted s
  dotted_bad e n = dotted_cut n s ∙ rw (cut.front, e)

  pub dotted_more : of dec_octet a ≡ true → DottedBefore s b
  unfolding is_mark R.all
  dotted_more e n = dotted_cut n s ∙ rw (cut.front, cut.back, e, of_mark 46 refl (dotted n) b)

pub four_dotted : (s : Bytes) → of IPv4address s ≡ of (dotted 3) s
unfolding dotted R.all
four_dotted s = refl

-- behind the third octet
pub last_dotted : (s t : Bytes) (o : Option (Bor Bytes)) → of IPv4address s ≡ of (dotted 1) t → MatchOption o (Undotted t) (λ u. DottedBefore t u.now)
    → MatchOption o (of IPv4address s ≡ false) (λ u. of IPv4address s ≡ of dec_octet u.now)
unfolding dotted
last_dotted s t None e h = e ∙ h 0
last_dotted s t (Some u) e h = e ∙ h 0

-- ---- an octet by its length

pub octet-one : (s : Bytes) → length s ≡ 1 → of dec_octet s ≡ is_digit (get_or s 0 0)
unfolding octet P.all
octet-one [] l = absurd (omega arith)
octet-one (a ∷ []) l = octet_of (a ∷ [])
octet-one (a ∷ b ∷ s) l = absurd (omega arith)

pub octet-two : (s : Bytes) → length s ≡ 2 → of dec_octet s ≡ octet (get_or s 0 0 ∷ get_or s 1 0 ∷ [])
octet-two [] l = absurd (omega arith)
octet-two (a ∷ []) l = absurd (omega arith)
octet-two (a ∷ b ∷ []) l = octet_of (a ∷ b ∷ [])
octet-two (a ∷ b ∷ c ∷ s) l = absurd (omega arith)

pub octet_three : (s : Bytes) → length s ≡ 3 → of dec_octet s ≡ octet (get_or s 0 0 ∷ get_or s 1 0 ∷ get_or s 2 0 ∷ [])
octet_three [] l = absurd (omega arith)
octet_three (a ∷ []) l = absurd (omega arith)
octet_three (a ∷ b ∷ []) l = absurd (omega arith)
octet_three (a ∷ b ∷ c ∷ []) l = octet_of (a ∷ b ∷ c ∷ [])
octet_three (a ∷ b ∷ c ∷ d ∷ s) l = absurd (omega arith)

pub octet-other : (s : Bytes) → (length s ≡ 1 → ⊥) → (length s ≡ 2 → ⊥) → (length s ≡ 3 → ⊥) → of dec_octet s ≡ false
unfolding octet
octet-other [] x y z = octet_of []
octet-other (a ∷ []) x y z = absurd (x refl)
octet-other (a ∷ b ∷ []) x y z = absurd (y refl)
octet-other (a ∷ b ∷ c ∷ []) x y z = absurd (z refl)
octet-other (a ∷ b ∷ c ∷ d ∷ s) x y z = octet_of (a ∷ b ∷ c ∷ d ∷ s)
