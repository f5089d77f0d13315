-- A text written byte by byte, in runs: bytes that are written as they are go together.
use Rattle.std.specs.Prelude.{ℕ, zero, suc, ◌+◌, ◌-◌, ◌*◌, ◌<◌, ◌≤◌, ◌≡◌, Bool, false, ◌||◌, length, take, drop, get_or}
use Rattle.std.proofs.Math.Path.{refl}
use Rattle.std.proofs.Common.{sym, ⊎_elim, add-one, eq-or-lt_of_le, mul-suc, length-append, length-drop, take-suc, take-add}
use mathlib.Core.List.{List, [], ◌∷◌, ◌++◌, append_assoc, append-nil}
use native.Mathlib.Omega.{arith}
use Rattle.std.proofs.Math.Seq.{take-length}
use Rattle.spec.specs.Bytes.{Bytes}
use Rattle.spec.specs.NTriples.{coded}
use Rattle.copy.specs.Copy.{rest_of}
use Rattle.writer.specs.Put.{most, Put, puts, put_as, put_none, compare}
use Rattle.writer.specs.Words.{neither}

module _ (w : ℕ → Bytes) where
  pub coded-append : (s t : Bytes) → coded w (s ++ t) ≡ coded w s ++ coded w t
  unfolding coded
  coded-append [] t = refl
  coded-append (c ∷ s) t = rw (coded-append s t, append_assoc)

  coded-one : (c : ℕ) → coded w (c ∷ []) ≡ w c
  unfolding coded
  coded-one c = append-nil (w c)

  coded_suc : (s : Bytes) (i : ℕ) → i < length s → coded w (take (i + 1) s) ≡ coded w (take i s) ++ w (get_or s i 0)
  coded_suc s i h = rw (add-one, take-suc s i 0, coded-append, coded-one)

  -- where no word has more than k bytes
  pub length-coded : (k : ℕ) → ((c : ℕ) → length (w c) ≤ k) → (s : Bytes) → length (coded w s) ≤ k * length s
  unfolding coded
  length-coded k h [] = omega arith
  length-coded k h (c ∷ s) = simp (length-append, mul-suc) (omega (arith, h c, length-coded k h s))

-- ---- the search for the next marked byte: the first `i` bytes are written as they are

pub record Plain (w : ℕ → Bytes) (s : Bytes) (i : ℕ) : Type 0 where
  pub upto : i ≤ length s
  pub each : (k : ℕ) → k < i → w (get_or s k 0) ≡ get_or s k 0 ∷ []

plain-coded : {w : ℕ → Bytes} {s : Bytes} (i : ℕ) → Plain w s i → coded w (take i s) ≡ take i s
unfolding coded
plain-coded zero h = refl
plain-coded {w} {s} (suc i) h =
    let before : Plain w s i = record { upto = omega (arith, h.upto); each = λ k l. h.each k (omega arith) } in
    rw (take-suc s i 0 (omega (arith, h.upto)), coded-append, coded-one, plain-coded i before, h.each i (omega arith))

pub plain-begins : {w : ℕ → Bytes} {s : Bytes} → Plain w s 0
plain-begins = record { upto = omega arith; each = λ k h. absurd (omega arith) }

pub plain_more : {w : ℕ → Bytes} {s : Bytes} {i : ℕ} → Plain w s i → i < length s → w (get_or s i 0) ≡ get_or s i 0 ∷ [] → Plain w s (i + 1)
plain_more {w} {s} {i} h b e =
    record {
      upto = omega arith;
      each = λ k l. ⊎_elim (λ (x : k ≡ i). rw x e) (λ (x : k < i). h.each k x) (eq-or-lt_of_le (omega arith));
    }

-- ---- the test of a block: unless one was marked, the bytes from `a` up to `b` are written as they are

pub record Clean (w : ℕ → Bytes) (s : Bytes) (a b : ℕ) (marked : Bool) : Type 0 where
  pub each : marked ≡ false → (k : ℕ) → a ≤ k → k < b → w (get_or s k 0) ≡ get_or s k 0 ∷ []

pub clean_none : {w : ℕ → Bytes} {s : Bytes} {a : ℕ} {m : Bool} → Clean w s a a m
clean_none = record { each = λ n k l h. absurd (omega arith) }

pub clean_more : {w : ℕ → Bytes} {s : Bytes} {a i : ℕ} {m r : Bool} → Clean w s a i m → (r ≡ false → w (get_or s i 0) ≡ get_or s i 0 ∷ []) → Clean w s a (i + 1) (m || r)
clean_more {w} {s} {a} {i} {m} {r} h e =
    record {
      each = λ n k l b.
          ⊎_elim
          (λ (x : k ≡ i). rw x (e (neither m r n).1))
          (λ (x : k < i). h.each (neither m r n).0 k l x)
          (eq-or-lt_of_le (omega arith));
    }

pub clean_less : {w : ℕ → Bytes} {s : Bytes} {a b i : ℕ} {m : Bool} → Clean w s a i m → b ≤ i → Clean w s a b m
clean_less h l = record { each = λ n k x y. h.each n k x (omega arith) }

-- a block without a marked byte, which begins among those that were plain before
pub plain-block : {w : ℕ → Bytes} {s : Bytes} {i a b : ℕ} {m : Bool} → Plain w s i → a ≤ i
    → Clean w s a b m → m ≡ false → b ≤ length s → Plain w s b
plain-block {w} {s} {i} {a} {b} {m} p l c n u =
    record {
      upto = u;
      each = λ k h. ⊎_elim (λ (x : i ≤ k). c.each n k (omega arith) h) (λ (x : k < i). p.each k x) (compare i k);
    }

-- the last one
pub plain-last : {w : ℕ → Bytes} {s : Bytes} {a b : ℕ} {m : Bool} → Plain w s a → Clean w s a b m → m ≡ false → b ≡ length s → Plain w s (length s)
plain-last p c n e = rw (← e) (plain-block p (omega arith) c n (omega (arith, e)))

pub plain_less : {w : ℕ → Bytes} {s : Bytes} {a b : ℕ} → Plain w s a → b ≤ a → Plain w s b
plain_less p l = record { upto = omega (arith, p.upto); each = λ k h. p.each k (omega arith) }

-- ---- the loops that write, behind a first run of `j` bytes: whoever wrote those has written the first `i` now

pub record Going (w : ℕ → Bytes) (on : Bool) (d e : List ℕ) (at to : ℕ) (s : Bytes) (j i : ℕ) : Type 0 where
  pub upto : i ≤ length s
  pub put : {b : List ℕ} {a : ℕ} → Put on b d a at (coded w (take j s)) → Put on b e a to (coded w (take i s))

pub going_begins : {w : ℕ → Bytes} {on : Bool} {d : List ℕ} {at j : ℕ} {s : Bytes} → Plain w s j → Going w on d d at at s j j
going_begins h = record { upto = h.upto; put = λ p. p }

-- one byte more
pub going_byte : {w : ℕ → Bytes} {on : Bool} {d e f : List ℕ} {at to up j i : ℕ} {s : Bytes} → Going w on d e at to s j i → i < length s
    → Put on e f to up (w (get_or s i 0)) → Going w on d f at up s j (i + 1)
going_byte {w} {i = i} {s = s} h l p =
    record { upto = omega arith; put = λ first. put_as (puts (h.put first) p) (sym (coded_suc w s i l)) }

-- `n` bytes more
going_part : {w : ℕ → Bytes} {on : Bool} {d e f : List ℕ} {at to up j i : ℕ} {s : Bytes} (n : ℕ) → Going w on d e at to s j i
    → i + n ≤ length s → Put on e f to up (coded w (take n (drop i s))) → Going w on d f at up s j (i + n)
going_part {i = i} {s = s} n h l p =
    record { upto = l; put = λ first. put_as (puts (h.put first) p) (sym (rw (take-add i n s, coded-append))) }

-- a row, and the run behind it
pub going_more : {w : ℕ → Bytes} {on : Bool} {d e f g : List ℕ} {at to up by j i : ℕ} {s : Bytes} (n m : ℕ) → Going w on d e at to s j i
    → n ≤ length (take (length s - i) (drop i s)) → Put on e f to up (coded w (take (i + n - i) (drop i s)))
    → Plain w (take (length s - (i + n)) (drop (i + n) s)) m → Put on f g up by (take (i + n + m - (i + n)) (drop (i + n) s))
    → Going w on d g at by s j (i + n + m)
going_more {w} {on} {d} {e} {f} {g} {at} {to} {up} {by} {j} {i} {s} n m h l p r q =
    let row : i + n - i ≡ n = omega arith in
    let size : i + n + m - (i + n) ≡ m = omega arith in
    let upto : i + n ≤ length s = omega (arith, h.upto, simp length-drop at (rw rest_of at l)) in
    let run : Plain w (drop (i + n) s) m = rw rest_of at r in
    let before : Going w on d f at up s j (i + n) = going_part n h upto (rw row at p) in
    going_part m before (omega (arith, simp length-drop at run.upto)) (put_as (rw size at q) (sym (plain-coded m run)))

pub going_done : {w : ℕ → Bytes} {on : Bool} {b d e : List ℕ} {a at to j i : ℕ} {s : Bytes} → Plain w s j → Put on b d a at (take j s)
    → Going w on d e at to s j i → length s ≤ i → Put on b e a to (coded w s)
going_done {w} {on} {b} {d} {e} {a} {at} {to} {j} {i} {s} h p g l =
    let q : i ≡ length s = omega arith in
    put_as (g.put (put_as p (sym (plain-coded j h)))) (rw (q, take-length s))

-- with no first run
pub going_whole : {w : ℕ → Bytes} {on : Bool} {d e : List ℕ} {at to i : ℕ} {s : Bytes} → at ≤ most → Going w on d e at to s 0 i
    → length s ≤ i → Put on d e at to (coded w s)
unfolding coded
going_whole {i = i} {s = s} m g l =
    let q : i ≡ length s = omega (arith, g.upto) in
    put_as (g.put (put_none m)) (rw (q, take-length s))

-- what is left falls
pub going_less : {l i n : ℕ} (m : ℕ) → i < l → 0 < n → l - (i + n + m) < l - i
going_less m h p = omega arith

-- nothing to code, nothing written
pub coded_none : (w : ℕ → Bytes) {on : Bool} {d : List ℕ} (s : Bytes) {at : ℕ} → length s ≡ 0 → at ≤ most → Put on d d at at (coded w s)
unfolding coded
coded_none w [] e h = put_none h
coded_none w (x ∷ s) e h = absurd (omega (arith, e))
