-- RFC 3629, from the front: the characters of some bytes are that of a first sequence, and then those of the rest.
use mathlib.Core.Path.{◌≡◌, refl, sym, ap, ◌∙◌}
use mathlib.Core.Logic.{⊎_elim}
use mathlib.Core.Bool.{Bool, true, false, ◌&&◌, not}
use mathlib.Core.Option.{Option, none, some}
use mathlib.Core.List.{List, [], ◌∷◌, ◌++◌, append-nil}
use Prim.Native.Nat.{ℕ, suc, ◌<◌, ◌≤◌}
use native.Mathlib.Omega.{arith}
use lib.Dec.{eqb, leb, ltb}
use lib.ListN.{length, take, length-append}
use borrow.Author.Tests.{le-leb, lt-leb, lt-ltb, le-ltb, ne_eqb, leb-true, ltb-true, ltb-false, eqb-true}
use Rattle.spec.specs.Bytes.{Bytes, when◌then◌else◌, between, onto, up_to, from, every}
use Rattle.spec.specs.Utf8.{leading_ones, leading_ones_of, goes_on, begins_with_one, sequences, fits, joined, value, least, is_scalar, character, in_front, characters_of, characters}
use Rattle.spec.proofs.Booleans.{or_cases, and_left, and_right}
use Rattle.utils.proofs.Tools.{clash}

-- ---- bytes

pub goes_one : (b : ℕ) → goes_on b ≡ true → leading_ones b ≡ 1
unfolding goes_on
goes_one b h = eqb-true (leading_ones b) 1 h

pub ones_low : (b : ℕ) → b < 128 → leading_ones b ≡ 0
unfolding leading_ones leading_ones_of when◌then◌else◌
ones_low b h = rw (lt-leb 128 b h)

-- the one length that fits a first byte
unfoldable pub size : ℕ → ℕ
size b = when ltb b 128 then 1 else leading_ones b

-- how a length comes to fit
pub data Fit (b n : ℕ) : Type 0 where
  one : n ≡ 1 → b < 128 → Fit b n
  several : 2 ≤ n → n ≤ 4 → leading_ones b ≡ n → Fit b n

pub fits_fit : (b n : ℕ) → fits b n ≡ true → Fit b n
unfolding fits between
fits_fit b n h =
    ⊎_elim
    (λ (l : (eqb n 1 && ltb b 128) ≡ true). one (eqb-true n 1 (and_left (eqb n 1) (ltb b 128) l)) (ltb-true b 128 (and_right (eqb n 1) (ltb b 128) l)))
    (λ (r : ((leb 2 n && leb n 4) && eqb (leading_ones b) n) ≡ true).
    let w = and_left (leb 2 n && leb n 4) (eqb (leading_ones b) n) r in
    several (leb-true 2 n (and_left (leb 2 n) (leb n 4) w)) (leb-true n 4 (and_right (leb 2 n) (leb n 4) w)) (eqb-true (leading_ones b) n (and_right (leb 2 n && leb n 4) (eqb (leading_ones b) n) r)))
    (or_cases (eqb n 1 && ltb b 128) ((leb 2 n && leb n 4) && eqb (leading_ones b) n) h)

pub size_low : (b : ℕ) → b < 128 → size b ≡ 1
unfolding size when◌then◌else◌
size_low b h = rw (lt-ltb b 128 h)

pub size_high : (b : ℕ) → 128 ≤ b → size b ≡ leading_ones b
unfolding size when◌then◌else◌
size_high b h = rw (le-ltb b 128 h)

pub ones_high : (b : ℕ) → 0 < leading_ones b → 128 ≤ b
ones_high b h = by (ltb b 128) refl
  where
    by : (t : Bool) → ltb b 128 ≡ t → 128 ≤ b
    by true e = absurd (omega (arith, ones_low b (ltb-true b 128 e)))
    by false e = ltb-false b 128 e

pub fits-size : (b n : ℕ) → fits b n ≡ true → n ≡ size b
fits-size b n h = by (fits_fit b n h)
  where
    by : Fit b n → n ≡ size b
    by (one e l) = e ∙ sym (size_low b l)
    by (several l g e) = sym (size_high b (ones_high b (omega arith)) ∙ e)

-- a byte that goes on is the first of no sequence
on_never : (b n : ℕ) → goes_on b ≡ true → fits b n ≡ true → ⊥
on_never b n g h = by (goes_one b g) (fits_fit b n h)
  where
    by : leading_ones b ≡ 1 → Fit b n → ⊥
    by e (one q l) = omega (arith, ones_low b l)
    by e (several l m q) = omega arith

least_high : (n : ℕ) → 2 ≤ n → 128 ≤ least n
unfolding least when◌then◌else◌
least_high n h = rw (ne_eqb n 1 (λ e. omega arith)) (by (eqb n 2) (eqb n 3))
  where
    by : (a b : Bool) → 128 ≤ (when a then 0x80 else when b then 0x800 else 0x10000)
    by true b = omega arith
    by false true = omega arith
    by false false = omega arith

-- ---- one sequence

-- what makes the byte b with the bytes u behind it the character c
pub record Good (c b : ℕ) (u : Bytes) : Type 0 where
  pub fit : fits b (suc (length u)) ≡ true
  pub low : least (suc (length u)) ≤ c
  pub scalar : is_scalar c ≡ true
  pub is : value b u ≡ c

pub good_character : {c b : ℕ} {u : Bytes} → Good c b u → character (b ∷ u) ≡ some c
unfolding character when◌then◌else◌
good_character {c} {b} {u} g = rw (g.fit, g.is, le-leb (least (suc (length u))) c g.low, g.scalar)

chosen : {A : Type 0} {a c : A} (t : Bool) → (when t then some a else none) ≡ some c → (t ≡ true) × (a ≡ c)
unfolding when◌then◌else◌
chosen true e = (refl, cc)
chosen false e = absurd (clash (cc))

pub character_good : {c b : ℕ} {u : Bytes} → character (b ∷ u) ≡ some c → Good c b u
unfolding character
character_good {c} {b} {u} e =
    let n = suc (length u) in
    let v = value b u in
    let p = chosen (fits b n && (leb (least n) v && is_scalar v)) e in
    let q = and_right (fits b n) (leb (least n) v && is_scalar v) p.0 in
    let l : least n ≤ v = leb-true (least n) v (and_left (leb (least n) v) (is_scalar v) q) in
    record { fit = and_left (fits b n) (leb (least n) v && is_scalar v) p.0; low = rw (← p.1) l; scalar = rw (← p.1) (and_right (leb (least n) v) (is_scalar v) q); is = p.1 }

pub misfit : (b : ℕ) (u : Bytes) → (fits b (suc (length u)) ≡ true → ⊥) → character (b ∷ u) ≡ none
unfolding character when◌then◌else◌
misfit b u h = by (fits b (suc (length u))) refl
  where
    by : (t : Bool) → fits b (suc (length u)) ≡ t → character (b ∷ u) ≡ none
    by true e = absurd (h e)
    by false e = rw e

-- ---- the first sequence

-- a byte that does not go on with a sequence
unfoldable pub ends : ℕ → Bool
ends b = not (goes_on b)

-- the first sequence is the first byte with those that go on behind it
sequences_cons : (b : ℕ) (s : Bytes) → sequences (b ∷ s) ≡ (b ∷ up_to ends s) ∷ sequences (from ends s)
unfolding sequences begins_with_one when◌then◌else◌ up_to from onto ends
sequences_cons b [] = refl
sequences_cons b (a ∷ s) = by (goes_on a) refl (sequences_cons a s)
  where
    by : (t : Bool) → goes_on a ≡ t → sequences (a ∷ s) ≡ (a ∷ up_to ends s) ∷ sequences (from ends s) → sequences (b ∷ a ∷ s) ≡ (b ∷ up_to ends (a ∷ s)) ∷ sequences (from ends (a ∷ s))
    by true e h = rw (e, h)
    by false e h = rw e

pub characters_cons : (b : ℕ) (s : Bytes) → characters (b ∷ s) ≡ in_front (character (b ∷ up_to ends s)) (characters (from ends s))
unfolding characters characters_of
characters_cons b s = rw (sequences_cons b s)

pub no_bytes : characters [] ≡ some []
unfolding characters characters_of sequences
no_bytes = refl

in_parts : (o : Option ℕ) (r : Option (List ℕ)) {c : ℕ} {cs : List ℕ} → in_front o r ≡ some (c ∷ cs) → (o ≡ some c) × (r ≡ some cs)
unfolding in_front
in_parts none r e = absurd (clash (cc))
in_parts (some d) none e = absurd (clash (cc))
in_parts (some d) (some ds) e = (cc, cc)

in_some : (o : Option ℕ) (r : Option (List ℕ)) → in_front o r ≡ some [] → ⊥
unfolding in_front
in_some none r e = clash (cc)
in_some (some d) none e = clash (cc)
in_some (some d) (some ds) e = clash (cc)

none_left : (s : Bytes) → characters s ≡ some [] → s ≡ []
none_left [] e = refl
none_left (b ∷ s) e = absurd (in_some (character (b ∷ up_to ends s)) (characters (from ends s)) (sym (characters_cons b s) ∙ e))

-- bytes that all go on are cut nowhere
on_up_to : (u r : Bytes) → every goes_on u ≡ true → up_to ends (u ++ r) ≡ u ++ up_to ends r
unfolding every up_to ends when◌then◌else◌
on_up_to [] r h = refl
on_up_to (a ∷ u) r h = rw (and_left (goes_on a) (every goes_on u) h, on_up_to u r (and_right (goes_on a) (every goes_on u) h))

on_from : (u r : Bytes) → every goes_on u ≡ true → from ends (u ++ r) ≡ from ends r
unfolding every from ends when◌then◌else◌
on_from [] r h = refl
on_from (a ∷ u) r h = rw (and_left (goes_on a) (every goes_on u) h) (on_from u r (and_right (goes_on a) (every goes_on u) h))

pub up_to_on : (s : Bytes) → every goes_on (up_to ends s) ≡ true
unfolding every up_to ends when◌then◌else◌
up_to_on [] = refl
up_to_on (a ∷ s) = by (goes_on a) refl (up_to_on s)
  where
    by : (t : Bool) → goes_on a ≡ t → every goes_on (up_to ends s) ≡ true → every goes_on (when not t then [] else (a ∷ up_to ends s)) ≡ true
    by true e h = rw e h
    by false e h = refl

pub take_up_to : (p : ℕ → Bool) (s : Bytes) → take (length (up_to p s)) s ≡ up_to p s
unfolding up_to when◌then◌else◌
take_up_to p [] = refl
take_up_to p (a ∷ s) = by (p a) (take_up_to p s)
  where
    by : (t : Bool) → take (length (up_to p s)) s ≡ up_to p s → take (length (when t then [] else (a ∷ up_to p s))) (a ∷ s) ≡ (when t then [] else (a ∷ up_to p s))
    by true h = refl
    by false h = ap (◌∷◌ a) h

from_none : (s : Bytes) → from ends s ≡ [] → up_to ends s ≡ s
unfolding up_to from when◌then◌else◌
from_none [] h = refl
from_none (a ∷ s) h = by (ends a) (from_none s) h
  where
    by : (t : Bool) → (from ends s ≡ [] → up_to ends s ≡ s) → (when t then (a ∷ s) else from ends s) ≡ [] → (when t then [] else (a ∷ up_to ends s)) ≡ a ∷ s
    by true f q = absurd (clash (cc))
    by false f q = ap (◌∷◌ a) (f q)

-- ---- one character

pub record Sequence (c b : ℕ) (u : Bytes) : Type 0 where
  pub on : every goes_on u ≡ true
  pub good : Good c b u

pub sequence_alone : {c b : ℕ} {u : Bytes} → Sequence c b u → characters (b ∷ u) ≡ some (c ∷ [])
unfolding up_to from in_front
sequence_alone {c} {b} {u} q =
    let up : up_to ends u ≡ u = ap (up_to ends) (sym (append-nil u)) ∙ on_up_to u [] q.on ∙ append-nil u in
    let fr : from ends u ≡ [] = ap (from ends) (sym (append-nil u)) ∙ on_from u [] q.on in
    characters_cons b u ∙ rw (up, fr, good_character q.good, no_bytes)

pub alone_sequence : {c b : ℕ} {u : Bytes} → characters (b ∷ u) ≡ some (c ∷ []) → Sequence c b u
alone_sequence {c} {b} {u} e =
    let p = in_parts (character (b ∷ up_to ends u)) (characters (from ends u)) (sym (characters_cons b u) ∙ e) in
    let up : up_to ends u ≡ u = from_none u (none_left (from ends u) p.1) in
    record { on = rw up at (up_to_on u); good = character_good (rw up at p.0) }

-- a character below 128 is its one byte
pub low_byte : {c b : ℕ} {u : Bytes} → Sequence c b u → b < 128 → (u ≡ []) × (b ≡ c)
unfolding value joined when◌then◌else◌
low_byte {c} {b} {u = []} q h = (refl, rw (lt-ltb b 128 h) at q.good.is)
low_byte {c} {b} {u = a ∷ u} q h = absurd (omega (arith, fits-size b _ q.good.fit, size_low b h))

-- one from 128 on has a first byte from 128 on
pub high_byte : {c b : ℕ} {u : Bytes} → Sequence c b u → 128 ≤ b → 128 ≤ c
high_byte {c} {b} {u} q h = by (fits_fit b _ q.good.fit)
  where
    by : Fit b (suc (length u)) → 128 ≤ c
    by (one e l) = absurd (omega arith)
    by (several l g e) = omega (arith, q.good.low, least_high (suc (length u)) l)

-- behind a good sequence the rest is read by itself, also where it begins with a byte that goes on: then neither is UTF-8
pub front : {c b : ℕ} {u : Bytes} (r : Bytes) → Sequence c b u → characters (b ∷ (u ++ r)) ≡ in_front (some c) (characters r)
unfolding up_to from in_front when◌then◌else◌ ends
front {c} {b} {u} [] q = rw (append-nil, no_bytes) (sequence_alone q)
front {c} {b} {u} (a ∷ r) q = characters_cons b (u ++ a ∷ r) ∙ rw (on_up_to u (a ∷ r) q.on, on_from u (a ∷ r) q.on) (by (goes_on a) refl)
  where
    longer : fits b (suc (length (u ++ a ∷ up_to ends r))) ≡ true → ⊥
    longer h = omega (arith, fits-size b _ h, fits-size b _ q.good.fit, length-append u (a ∷ up_to ends r))

    by : (t : Bool) → goes_on a ≡ t → in_front (character (b ∷ (u ++ up_to ends (a ∷ r)))) (characters (from ends (a ∷ r))) ≡ in_front (some c) (characters (a ∷ r))
    by true e = rw (characters_cons a r, e, misfit b (u ++ a ∷ up_to ends r) longer, misfit a (up_to ends r) (on_never a _ e))
    by false e = rw (e, append-nil, good_character q.good)

-- a character and then others
pub then_others : {c : ℕ} (t r : Bytes) → characters t ≡ some (c ∷ []) → characters (t ++ r) ≡ in_front (some c) (characters r)
then_others [] r e = absurd (clash (cc no_bytes))
then_others (b ∷ u) r e = front r (alone_sequence e)
