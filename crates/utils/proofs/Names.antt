-- XML's characters and names: the steps of the tests, and what an answer of `qname` says.
use mathlib.Core.Path.{◌≡◌, refl, sym, ap, ◌∙◌}
use mathlib.Core.Bool.{Bool, true, false, ◌&&◌, ◌||◌, false≢true}
use mathlib.Core.List.{[], ◌∷◌}
use Prim.Native.Nat.{ℕ, zero, suc, ◌+◌, ◌<◌, ◌≤◌}
use native.Mathlib.Omega.{arith}
use native.Mathlib.Numerals.{add-one}
use lib.Dec.{eqb, leb}
use lib.ListN.{length, take, drop, get_or}
use lib.Seq.{drop-cons}
use borrow.Author.Tests.{le-leb, lt-leb, ne_eqb, eqb-true, eqb-false}
use Rattle.spec.specs.Bytes.{Bytes, ascii, byte, when◌then◌else◌, after, among, up_to, from, every, between, in_ranges}
use Rattle.spec.specs.Utf8.{as_characters}
use Rattle.spec.specs.XmlNames.{is_char, is_name_start, is_name_char, is_name, no_colon, is_nc_name, prefix_of, local_of, is_q_name}
use Rattle.spec.proofs.Booleans.{and_right}
use Rattle.utils.specs.declared.Name.{Name}
use Rattle.utils.specs.declared.Name.TheVariants.{NotName, Local, Prefixed}
use Rattle.utils.specs.Decoding.{Front, Stuck}
use Rattle.utils.specs.Names.{name_of, other, starts_nc, goes_on_nc, is_nc_rest}
use Rattle.utils.specs.Walking.{Step}
use Rattle.utils.proofs.Tools.{clash, or-false, and-true, and-false, and_shuffle}
use Rattle.utils.proofs.Utf8.{take_up_to}
use Rattle.utils.proofs.Front.{front_holds, front_every, front_bytes, stuck_fails, empty_holds}
use Rattle.utils.proofs.Walking.{ByCharacter, steps_more}

-- ---- characters

-- from the space on
pub char_high : (c : ℕ) → 32 ≤ c → (leb c 0xD7FF || ((leb 0xE000 c && leb c 0xFFFD) || (leb 0x10000 c && leb c 0x10FFFF))) ≡ is_char c
unfolding is_char in_ranges between
char_high c h =
    sym
    (rw (lt-leb c 10 (omega arith), lt-leb c 13 (omega arith), le-leb 9 c (omega arith), le-leb 13 c (omega arith), le-leb 32 c h, or-false))

-- ---- NCNames

other_high : (c : ℕ) → 128 ≤ c → other c ≡ true
unfolding other byte
other_high c h = rw (ne_eqb c 0x3A (λ e. omega arith))

no_colon_lem : {c n : ℕ} {s : Bytes} → Front c n s → no_colon s ≡ (other c && no_colon (drop n s))
unfolding no_colon other
no_colon_lem f = front_bytes other other_high f

empty-colon : (s : Bytes) → length s ≡ 0 → no_colon s ≡ true
unfolding no_colon every
empty-colon [] h = refl
empty-colon (b ∷ u) h = absurd (omega arith)

colon_fails : (t : Bool) (c : ℕ) → c ≡ 0x3A → (t && other c) ≡ false
unfolding other byte
colon_fails t c e = rw e (and-false t)

other-keeps : (t : Bool) (c : ℕ) → (c ≡ 0x3A → ⊥) → (t && other c) ≡ t
unfolding other byte
other-keeps t c h = rw (ne_eqb c 0x3A h) (and-true t)

module _ (c : ℕ) where
  pub starts_colon : c ≡ 0x3A → starts_nc c ≡ false
  unfolding starts_nc
  starts_colon e = colon_fails (is_name_start c) c e

  pub starts_by : (c ≡ 0x3A → ⊥) → starts_nc c ≡ is_name_start c
  unfolding starts_nc
  starts_by h = other-keeps (is_name_start c) c h

  pub goes_on_colon : c ≡ 0x3A → goes_on_nc c ≡ false
  unfolding goes_on_nc
  goes_on_colon e = colon_fails (is_name_char c) c e

  pub goes_on_by : (c ≡ 0x3A → ⊥) → goes_on_nc c ≡ is_name_char c
  unfolding goes_on_nc
  goes_on_by h = other-keeps (is_name_char c) c h

-- what follows the first character goes by characters
pub rest_by : ByCharacter is_nc_rest goes_on_nc
unfolding is_nc_rest goes_on_nc every
rest_by =
    record {
      empty = λ s h. rw (empty_holds (every is_name_char) s h, empty-colon s h);
      front = λ {c} {n} {s} f. rw (front_every is_name_char f, no_colon_lem f)
          (and_shuffle (is_name_char c) (as_characters (every is_name_char) (drop n s)) (other c) (no_colon (drop n s)));
      stuck = λ h. rw (stuck_fails (every is_name_char) h);
    }

-- an NCName is a character that may start it, and such a rest
nc_front : {c n : ℕ} {s : Bytes} → Front c n s → is_nc_name s ≡ (starts_nc c && is_nc_rest (drop n s))
unfolding is_nc_name is_nc_rest starts_nc is_name
nc_front {c} {n} {s} f =
    rw (front_holds is_name (every is_name_char) is_name_start (λ d ds. refl) f, no_colon_lem f)
    (and_shuffle (is_name_start c) (as_characters (every is_name_char) (drop n s)) (other c) (no_colon (drop n s)))

module _ {c n : ℕ} {s : Bytes} (f : Front c n s) where
  pub nc_starts : starts_nc c ≡ true → Step is_nc_name is_nc_rest n s
  nc_starts e = steps_more f (nc_front f ∙ rw e)

  pub nc_fails : starts_nc c ≡ false → is_nc_name s ≡ false
  nc_fails e = nc_front f ∙ rw e

pub nc_stuck : {s : Bytes} → Stuck s → is_nc_name s ≡ false
unfolding is_nc_name
nc_stuck h = rw (stuck_fails is_name h)

pub nc_empty : (s : Bytes) → length s ≡ 0 → is_nc_name s ≡ false
unfolding is_nc_name is_name
nc_empty s h = rw (empty_holds is_name s h)

-- ---- the first colon

-- how many bytes stand before it
abbrev pub before : Bytes → ℕ
before s = length (up_to (among (ascii ":")) s)

pub found_before : (s : Bytes) → length (up_to (λ c. eqb c 58) s) ≡ before s
unfolding up_to among ascii when◌then◌else◌
found_before [] = refl
found_before (b ∷ s) = by (eqb b 58) refl (found_before s)
  where
    by : (t : Bool) → eqb b 58 ≡ t → length (up_to (λ c. eqb c 58) s) ≡ before s → length (up_to (λ c. eqb c 58) (b ∷ s)) ≡ before (b ∷ s)
    by true e q = rw (eqb-true b 58 e)
    by false e q = rw (e, ne_eqb 58 b (λ d. eqb-false b 58 e (sym d))) (omega (arith, q))

-- ---- names with a colon, and without

-- there is a colon, or all bytes stand before it
data Colon (s : Bytes) : Type 0 where
  without : no_colon s ≡ true → before s ≡ length s → Colon s
  with_one : no_colon s ≡ false → before s < length s → Colon s

colon : (s : Bytes) → Colon s
unfolding no_colon every byte up_to among ascii when◌then◌else◌
colon [] = without refl refl
colon (b ∷ s) = by (eqb b 0x3A) refl (colon s)
  where
    by : (t : Bool) → eqb b 0x3A ≡ t → Colon s → Colon (b ∷ s)
    by true e q = with_one (rw e) (rw (eqb-true b 0x3A e) (omega arith))
    by false e (without n l) = without (rw (e, n)) (rw (ne_eqb 0x3A b (λ d. eqb-false b 0x3A e (sym d))) (omega arith))
    by false e (with_one n l) = with_one (rw (e, n)) (rw (ne_eqb 0x3A b (λ d. eqb-false b 0x3A e (sym d))) (omega arith))

from-drop : (p : ℕ → Bool) (s : Bytes) → from p s ≡ drop (length (up_to p s)) s
unfolding from up_to when◌then◌else◌
from-drop p [] = refl
from-drop p (a ∷ s) = by (p a) (from-drop p s)
  where
    by : (t : Bool) → from p s ≡ drop (length (up_to p s)) s → (when t then (a ∷ s) else from p s) ≡ drop (length (when t then [] else (a ∷ up_to p s))) (a ∷ s)
    by true h = refl
    by false h = h

module _ (s : Bytes) {k : ℕ} (e : k ≡ before s) where
  pub none_colon : length s ≤ k → no_colon s ≡ true
  none_colon h = by (colon s)
    where
      by : Colon s → no_colon s ≡ true
      by (without n l) = n
      by (with_one n l) = absurd (omega arith)

  pub some-colon : k < length s → no_colon s ≡ false
  some-colon h = by (colon s)
    where
      by : Colon s → no_colon s ≡ false
      by (without n l) = absurd (omega arith)
      by (with_one n l) = n

  pub prefix_is : k < length s → prefix_of s ≡ take k s
  unfolding prefix_of when◌then◌else◌
  prefix_is h = rw (some-colon h, e) (sym (take_up_to (among (ascii ":")) s))

  pub local_is : k < length s → local_of s ≡ drop (k + 1) s
  unfolding local_of when◌then◌else◌ after ascii
  local_is h = rw (some-colon h, from-drop (among (ascii ":")) s, ← e, drop-cons s k 0 h, add-one k)

  module _ (h : length s ≤ k) where
    whole_is : is_q_name s ≡ is_nc_name s
    unfolding is_q_name local_of when◌then◌else◌
    whole_is = rw (none_colon h)

    pub name_local : true ≡ is_nc_name s → Local ≡ name_of s
    unfolding name_of when◌then◌else◌
    name_local q = rw (whole_is, ← q, none_colon h)

    pub name_none : false ≡ is_nc_name s → NotName ≡ name_of s
    unfolding name_of when◌then◌else◌
    name_none q = rw (whole_is, ← q)

  module _ (h : k < length s) where
    parts_are : is_q_name s ≡ (is_nc_name (take k s) && is_nc_name (drop (k + 1) s))
    unfolding is_q_name
    parts_are = rw (some-colon h, prefix_is h, local_is h)

    pub name_prefixed : true ≡ is_nc_name (take k s) → true ≡ is_nc_name (drop (k + 1) s) → Prefixed k ≡ name_of s
    unfolding name_of when◌then◌else◌
    name_prefixed p q = rw (parts_are, ← p, ← q, some-colon h, e)

    pub name_no_prefix : false ≡ is_nc_name (take k s) → NotName ≡ name_of s
    unfolding name_of when◌then◌else◌
    name_no_prefix p = rw (parts_are, ← p)

    pub name_no_local : true ≡ is_nc_name (take k s) → false ≡ is_nc_name (drop (k + 1) s) → NotName ≡ name_of s
    unfolding name_of when◌then◌else◌
    name_no_local p q = rw (parts_are, ← p, ← q)

-- ---- a name by its parts

-- an NCName has no colon
nc_colon : (s : Bytes) → is_nc_name s ≡ true → no_colon s ≡ true
unfolding is_nc_name
nc_colon s h = and_right (as_characters is_name s) (no_colon s) h

-- the colon behind bytes that have none is the first
first_colon : (s : Bytes) (k : ℕ) → k < length s → no_colon (take k s) ≡ true → get_or s k 0 ≡ 0x3A → k ≡ before s
unfolding no_colon every byte up_to among ascii when◌then◌else◌
first_colon [] k l n e = absurd (omega arith)
first_colon (b ∷ s) zero l n e = rw e
first_colon (b ∷ s) (suc k) l n e = by (eqb b 0x3A) refl (λ m. first_colon s k (omega arith) m e)
  where
    by : (t : Bool) → eqb b 0x3A ≡ t → (no_colon (take k s) ≡ true → k ≡ before s) → suc k ≡ before (b ∷ s)
    by true q h = absurd (false≢true (rw q at n))
    by false q h = rw (ne_eqb 0x3A b (λ d. eqb-false b 0x3A q (sym d))) (ap suc (h (rw q at n)))

pub by_local : (s : Bytes) → is_nc_name s ≡ true → Local ≡ name_of s
by_local s h = by (colon s)
  where
    by : Colon s → Local ≡ name_of s
    by (without n l) = name_local s refl (omega arith) (sym h)
    by (with_one n l) = absurd (false≢true (sym n ∙ nc_colon s h))

pub by_parts : (s : Bytes) (k : ℕ) → k < length s → is_nc_name (take k s) ≡ true → get_or s k 0 ≡ 0x3A → is_nc_name (drop (k + 1) s) ≡ true → Prefixed k ≡ name_of s
by_parts s k l p e q = name_prefixed s (first_colon s k l (nc_colon (take k s) p) e) l (sym p) (sym q)

-- ---- what callers cite of a name

pub record NoPrefix (s : Bytes) : Type 0 where
  pub name : is_q_name s ≡ true
  pub colon : no_colon s ≡ true
  pub prefix : prefix_of s ≡ []
  pub local : local_of s ≡ s

pub record HasPrefix (k : ℕ) (s : Bytes) : Type 0 where
  pub name : is_q_name s ≡ true
  pub colon : no_colon s ≡ false
  pub within : k < length s
  pub prefix : prefix_of s ≡ take k s
  pub local : local_of s ≡ drop (k + 1) s

-- by whether it is a name, and has no colon
shape : Bool → Bool → ℕ → Name
shape q n k = when q then when n then Local else Prefixed k else NotName

pub not_name : (s : Bytes) → NotName ≡ name_of s → is_q_name s ≡ false
unfolding name_of shape when◌then◌else◌
not_name s e = by (is_q_name s) (no_colon s) e
  where
    by : (q n : Bool) → NotName ≡ shape q n (before s) → q ≡ false
    by true true e = absurd (clash (cc))
    by true false e = absurd (clash (cc))
    by false n e = refl

pub no_prefix : (s : Bytes) → Local ≡ name_of s → NoPrefix s
unfolding name_of shape prefix_of local_of when◌then◌else◌
no_prefix s e =
    let p = by (is_q_name s) (no_colon s) e in
    record { name = p.0; colon = p.1; prefix = rw p.1; local = rw p.1 }
  where
    by : (q n : Bool) → Local ≡ shape q n (before s) → (q ≡ true) × (n ≡ true)
    by true true e = (refl, refl)
    by true false e = absurd (clash (cc))
    by false n e = absurd (clash (cc))

pub has_prefix : (s : Bytes) {k : ℕ} → Prefixed k ≡ name_of s → HasPrefix k s
unfolding name_of shape when◌then◌else◌
has_prefix s {k} e = of (by (is_q_name s) (no_colon s) e) (colon s)
  where
    by : (q n : Bool) → Prefixed k ≡ shape q n (before s) → (q ≡ true) × (n ≡ false) × (k ≡ before s)
    by true true e = absurd (clash (cc))
    by true false e = (refl, refl, cc)
    by false n e = absurd (clash (cc))

    of : (is_q_name s ≡ true) × (no_colon s ≡ false) × (k ≡ before s) → Colon s → HasPrefix k s
    of p (without n l) = absurd (false≢true (sym p.1 ∙ n))
    of p (with_one n l) =
        let h : k < length s = omega arith in
        record { name = p.0; colon = n; within = h; prefix = prefix_is s p.2 h; local = local_is s p.2 h }
