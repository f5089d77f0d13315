-- How `decode` comes to its answers, from what the first byte says; and that they are the only ones.
use mathlib.Core.Path.{◌≡◌, refl, sym, ap, ◌∙◌}
use mathlib.Core.Bool.{Bool, true, false, ◌&&◌, false≢true}
use mathlib.Core.Option.{some}
use mathlib.Core.List.{[], ◌∷◌}
use Prim.Native.Nat.{ℕ, zero, suc, ◌+◌, ◌-◌, ◌*◌, ◌%◌, ◌^◌, ◌<◌, ◌≤◌}
use native.Mathlib.Numerals.{add-one}
use native.Mathlib.Omega.{arith}
use lib.Dec.{eqb, ltb}
use lib.ListN.{length, take, drop, get_or, length-take, length-drop, take-append-drop, drop_of_length-le}
use lib.Seq.{drop-cons, length-take-le, take-append_seam}
use borrow.Author.Tests.{le-ltb, lt-ltb, le-leb, eq-eqb}
use Rattle.spec.proofs.Booleans.{or_right_lem}
use Rattle.spec.specs.Bytes.{Bytes, when◌then◌else◌, between, every}
use Rattle.spec.specs.Utf8.{leading_ones, goes_on, fits, joined, value, least, is_scalar, characters}
use Rattle.utils.specs.declared.Decoded.{Decoded}
use Rattle.utils.specs.declared.Decoded.TheVariants.{End, Character, Malformed}
use Rattle.std.specs.Prelude.{Some, None}
use Rattle.utils.specs.Decoding.{Front, Stuck, Decodes, Begins, joins}
use Rattle.utils.proofs.Tools.{clash}
use Rattle.utils.proofs.Utf8.{size, size_high, fits-size, ones_high, Fit, one, several, fits_fit, Good, Sequence, sequence_alone, alone_sequence, no_bytes}
use Rattle.utils.proofs.Front.{front_some}

-- ---- the bytes that go on

pub joins_broken : (bits : ℕ) (s : Bytes) → None ≡ joins bits s → every goes_on s ≡ false
unfolding joins when◌then◌else◌
joins_broken bits s e = by (every goes_on s) e
  where
    by : (t : Bool) → None ≡ (when t then Some (joined bits s) else None) → t ≡ false
    by true e = absurd (clash (cc))
    by false e = refl

pub joins-value : (bits : ℕ) (s : Bytes) {c : ℕ} → Some c ≡ joins bits s → (every goes_on s ≡ true) × (c ≡ joined bits s)
unfolding joins when◌then◌else◌
joins-value bits s {c} e = by (every goes_on s) e
  where
    by : (t : Bool) → Some c ≡ (when t then Some (joined bits s) else None) → (t ≡ true) × (c ≡ joined bits s)
    by true e = (refl, cc)
    by false e = absurd (clash (cc))

-- how many values the first byte's bits and i bytes more can have
unfoldable pub room : ℕ → ℕ
room zero = 32
room (suc i) = 64 * room i

room_small : (i : ℕ) → i < 3 → room i ≤ 131072
unfolding room
room_small zero h = omega arith
room_small (suc zero) h = omega arith
room_small (suc (suc zero)) h = omega arith
room_small (suc (suc (suc i))) h = absurd (omega arith)

-- i bytes are joined to v: what is left to join gives what the whole does
pub record Joining (bits : ℕ) (s : Bytes) (v i : ℕ) : Type 0 where
  pub within : i ≤ length s
  pub rest : joins bits s ≡ joins v (drop i s)
  pub below : v < room i

pub joining_begins : (bits : ℕ) (s : Bytes) → bits < 32 → Joining bits s bits 0
unfolding room
joining_begins bits s h = record { within = omega arith; rest = refl; below = h }

module _ {bits v i : ℕ} {s : Bytes} (j : Joining bits s v i) where
  pub joining_small : i < length s → length s ≤ 3 → v < 131072
  joining_small h l = omega (arith, room_small i (omega arith), j.below)

  pub joining_broken : i < length s → goes_on (get_or s i 0) ≡ false → None ≡ joins bits s
  unfolding joins every when◌then◌else◌
  joining_broken h e = sym (j.rest ∙ rw (drop-cons s i 0 h, e))

  pub joining_more : i < length s → goes_on (get_or s i 0) ≡ true → Joining bits s (v * 64 + get_or s i 0 % 64) (i + 1)
  unfolding room joins every joined
  joining_more h e =
      let swap : v * 64 ≡ 64 * v = omega arith in
      record { within = omega arith; rest = j.rest ∙ rw (drop-cons s i 0 h, e, add-one i, swap); below = rw (add-one i) (omega (arith, j.below)) }

  pub joining_done : length s ≤ i → Some v ≡ joins bits s
  unfolding joins every joined when◌then◌else◌
  joining_done h = sym (j.rest ∙ rw (drop_of_length-le s h))

-- ---- the first byte

head : (s : Bytes) → 0 < length s → s ≡ get_or s 0 0 ∷ drop 1 s
head s h = drop-cons s 0 0 h

-- no length of sequence makes a character
stuck_of : (b : ℕ) (u : Bytes) → ((c m : ℕ) → Sequence c b (take m u) → ⊥) → Stuck (b ∷ u)
stuck_of b u h = record { nonempty = omega arith; never = go }
  where
    go : (n c : ℕ) → characters (take n (b ∷ u)) ≡ some (c ∷ []) → ⊥
    go zero c e = clash (cc no_bytes)
    go (suc m) c e = h c m (alone_sequence e)

stuck_head : (s : Bytes) → 0 < length s → ((c m : ℕ) → Sequence c (get_or s 0 0) (take m (drop 1 s)) → ⊥) → Stuck s
stuck_head s h f = rw (head s h) (stuck_of (get_or s 0 0) (drop 1 s) f)

-- the bytes of a sequence behind its first are as many as the first says
take_counted : (m : ℕ) (u : Bytes) → take (length (take m u)) u ≡ take m u
take_counted m u = ap (take (length (take m u))) (sym (take-append-drop m u)) ∙ take-append_seam (take m u) (drop m u)

counted : {c b : ℕ} (m k : ℕ) (u : Bytes) → Sequence c b (take m u) → size b ≡ suc k → (Sequence c b (take k u)) × (k ≤ length u)
counted {c} {b} m k u q e =
    let l : length (take m u) ≡ k = omega (arith, fits-size b _ q.good.fit) in
    (rw (← l, take_counted) q, omega (arith, length-take m u))

-- ---- a sequence of several bytes

pub begins : (s : Bytes) (n : ℕ) → 0 < length s → 2 ≤ n → n ≤ 4 → leading_ones (get_or s 0 0) ≡ n → get_or s 0 0 % 2 ^ (7 - n) < 32 → Begins s n (get_or s 0 0 % 2 ^ (7 - n)) (least n)
begins s n h l m e r = record { nonempty = h; several = l; few = m; length_of = e; bits_of = refl; small = r; low_of = refl }

-- the bytes of a sequence of n behind its first
abbrev pub behind : Bytes → ℕ → Bytes
behind s n = take (n - 1) (drop 1 s)

take_head : (s : Bytes) (n : ℕ) → 0 < length s → 1 ≤ n → take n s ≡ get_or s 0 0 ∷ behind s n
take_head [] n h l = absurd (omega arith)
take_head (b ∷ u) zero h l = absurd (omega arith)
take_head (b ∷ u) (suc m) h l = let e : suc m - 1 ≡ m = omega arith in rw e

module _ {s : Bytes} {n bits low : ℕ} (h : Begins s n bits low) where
  high : 128 ≤ get_or s 0 0
  high = ones_high (get_or s 0 0) (omega (arith, h.length_of, h.several))

  sized : size (get_or s 0 0) ≡ suc (n - 1)
  sized = size_high (get_or s 0 0) high ∙ omega (arith, h.length_of, h.several)

  -- it is there, if at all, in the n - 1 bytes behind the first
  there : (c m : ℕ) → Sequence c (get_or s 0 0) (take m (drop 1 s)) → (Sequence c (get_or s 0 0) (behind s n)) × (n - 1 ≤ length (drop 1 s))
  there c m q = counted m (n - 1) (drop 1 s) q sized

  counts : n ≤ length s → suc (length (behind s n)) ≡ n
  counts w = omega (arith, length-take-le (n - 1) (drop 1 s) (omega (arith, length-drop 1 s)), h.several)

  valued : n ≤ length s → value (get_or s 0 0) (behind s n) ≡ joined bits (behind s n)
  unfolding value when◌then◌else◌
  valued w =
      let e : 6 - length (behind s n) ≡ 7 - n = omega (arith, counts w) in
      rw (le-ltb (get_or s 0 0) 128 high, e, h.bits_of)

  pub stuck_short : length s < n → Stuck s
  stuck_short l = stuck_head s h.nonempty (λ c m q. omega (arith, (there c m q).1, length-drop 1 s, h.several))

  pub stuck_broken : every goes_on (behind s n) ≡ false → Stuck s
  stuck_broken e = stuck_head s h.nonempty (λ c m q. false≢true (sym e ∙ (there c m q).0.on))

  module _ (w : n ≤ length s) {c : ℕ} (e : c ≡ joined bits (behind s n)) where
    -- the bytes can be no other character
    same : (d m : ℕ) → Sequence d (get_or s 0 0) (take m (drop 1 s)) → d ≡ c
    same d m q = sym (there d m q).0.good.is ∙ valued w ∙ sym e

    pub stuck_overlong : c < low → Stuck s
    stuck_overlong l =
        stuck_head s h.nonempty
        (λ d m q. omega (arith, (there d m q).0.good.low, ap least (counts w), h.low_of, same d m q))

    pub stuck_surrogate : is_scalar c ≡ false → Stuck s
    stuck_surrogate n = stuck_head s h.nonempty (λ d m q. false≢true (sym n ∙ ap is_scalar (sym (same d m q)) ∙ (there d m q).0.good.scalar))

    right : fits (get_or s 0 0) (suc (length (behind s n))) ≡ true
    unfolding fits between
    right =
        rw (counts w, le-leb 2 n h.several, le-leb n 4 h.few, eq-eqb (leading_ones (get_or s 0 0)) n h.length_of)
        (or_right_lem (eqb n 1 && ltb (get_or s 0 0) 128) true refl)

    pub front_several : every goes_on (behind s n) ≡ true → low ≤ c → is_scalar c ≡ true → Front c n s
    front_several on l sc =
        let g : Good c (get_or s 0 0) (behind s n) = record { fit = right; low = rw (counts w) (omega (arith, h.low_of)); scalar = sc; is = valued w ∙ sym e } in
        record { within = w; alone = rw (take_head s n h.nonempty (omega (arith, h.several))) (sequence_alone (record { on = on; good = g })) }

-- ---- any other first byte

pub front_one : (s : Bytes) → 0 < length s → get_or s 0 0 < 128 → Front (get_or s 0 0) 1 s
unfolding every fits value joined is_scalar least when◌then◌else◌
front_one [] h l = absurd (omega arith)
front_one (b ∷ u) h l =
    let g : Good b b [] = record { fit = rw (lt-ltb b 128 l); low = omega arith; scalar = rw (le-leb b 0xD7FF (omega arith)); is = rw (lt-ltb b 128 l) } in
    record { within = omega arith; alone = sequence_alone (record { on = refl; good = g }) }

pub stuck_first : (s : Bytes) → 0 < length s → 128 ≤ get_or s 0 0 → (leading_ones (get_or s 0 0) ≡ 2 → ⊥) → (leading_ones (get_or s 0 0) ≡ 3 → ⊥) → (leading_ones (get_or s 0 0) ≡ 4 → ⊥) → Stuck s
stuck_first s h l two three four = stuck_head s h (λ c m q. by (fits_fit (get_or s 0 0) _ q.good.fit))
  where
    by : {n : ℕ} → Fit (get_or s 0 0) n → ⊥
    by (one e g) = omega arith
    by (several g k e) = omega arith

-- ---- one answer

front_size : (c n : ℕ) (s : Bytes) → Front c n s → n ≡ size (get_or s 0 0)
front_size c n [] f = absurd (omega (arith, front_some f, f.within))
front_size c zero (b ∷ u) f = absurd (omega (arith, front_some f))
front_size c (suc m) (b ∷ u) f =
    sym (ap suc (length-take-le m u (omega (arith, f.within)))) ∙ fits-size b _ (alone_sequence f.alone).good.fit

same_front : {c d n m : ℕ} {s : Bytes} → Front c n s → Front d m s → Character c n ≡ Character d m
same_front {c} {d} {n} {m} {s} f g =
    let e : n ≡ m = front_size c n s f ∙ sym (front_size d m s g) in
    let l : some (c ∷ []) ≡ some (d ∷ []) = sym f.alone ∙ rw e g.alone in
    cc

-- no two answers say what is so of the same bytes
pub decodes_unique : (s : Bytes) (a b : Decoded) → Decodes a s → Decodes b s → a ≡ b
decodes_unique s End End f g = refl
decodes_unique s End (Character c n) f g = absurd (omega (arith, front_some g, g.within))
decodes_unique s End Malformed f g = absurd (omega (arith, g.nonempty))
decodes_unique s (Character c n) End f g = absurd (omega (arith, front_some f, f.within))
decodes_unique s (Character c n) (Character d m) f g = same_front f g
decodes_unique s (Character c n) Malformed f g = absurd (g.never n c f.alone)
decodes_unique s Malformed End f g = absurd (omega (arith, f.nonempty))
decodes_unique s Malformed (Character c n) f g = absurd (f.never n c g.alone)
decodes_unique s Malformed Malformed f g = refl
