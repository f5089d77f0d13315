-- How the numbers of a state are read from bytes and written to them.
use Rattle.std.specs.Prelude.{ℕ, zero, suc, ◌+◌, ◌-◌, ◌*◌, ◌^◌, ◌<◌, ◌≤◌, ◌≡◌, refl, List, [], ◌∷◌, ◌++◌, length, get_or, take, drop, set, map}
use Rattle.std.specs.Int.{w32, w64, to_le_bytes, from_le_bytes}
use Rattle.std.proofs.Common.{sym, ap, ◌∙◌, add-one, pow-suc, arith, length-set, take-suc, take-suc-set, drop-drop}
use Rattle.std.proofs.Math.Nat.{div-div-eq-div-mul}
use Rattle.std.proofs.Math.Seq.{take-length}
use Rattle.std.proofs.lemmas.List.{length-map, get_or-map, map-set, map-id}
use Rattle.spec.specs.Bytes.{Bytes}
use Rattle.copy.specs.Copy.{part, part_of, length_part, lent_back, Wrote, then, wrote_none, wrote_as, wrote_same}
use Rattle.reader_host.specs.Little.{little, value_of, rows, rows_at, unrow, Below, length-little, rows_append, rows-one, unrow_more}

-- numbers of a width, written from a place on
pub record WroteRows (k : ℕ) (b : Bytes) (at : ℕ) (ns : List ℕ) (b' : Bytes) : Type 0 where
  pub same : length b' ≡ length b
  pub wrote : Wrote b b' at (at + length ns * k) (rows k ns)
  pub fits : Below (256 ^ k) ns

-- ---- one number: std's bytes of it are these

four_bytes : (n : ℕ) → to_le_bytes w32 n ≡ little 4 n
unfolding little
four_bytes n = simp div-div-eq-div-mul refl

eight_bytes : (n : ℕ) → to_le_bytes w64 n ≡ little 8 n
unfolding little
eight_bytes n = simp div-div-eq-div-mul refl

four_value : (s : Bytes) → length s ≡ 4 → from_le_bytes w32 s ≡ value_of s
unfolding value_of
four_value [] h = absurd (omega arith)
four_value (a ∷ []) h = absurd (omega arith)
four_value (a ∷ b ∷ []) h = absurd (omega arith)
four_value (a ∷ b ∷ c ∷ []) h = absurd (omega arith)
four_value (a ∷ b ∷ c ∷ d ∷ []) h = omega arith
four_value (a ∷ b ∷ c ∷ d ∷ e ∷ s) h = absurd (omega arith)

eight_value : (s : Bytes) → length s ≡ 8 → from_le_bytes w64 s ≡ value_of s
unfolding value_of
eight_value [] h = absurd (omega arith)
eight_value (a ∷ []) h = absurd (omega arith)
eight_value (a ∷ b ∷ []) h = absurd (omega arith)
eight_value (a ∷ b ∷ c ∷ []) h = absurd (omega arith)
eight_value (a ∷ b ∷ c ∷ d ∷ []) h = absurd (omega arith)
eight_value (a ∷ b ∷ c ∷ d ∷ e ∷ []) h = absurd (omega arith)
eight_value (a ∷ b ∷ c ∷ d ∷ e ∷ f ∷ []) h = absurd (omega arith)
eight_value (a ∷ b ∷ c ∷ d ∷ e ∷ f ∷ g ∷ []) h = absurd (omega arith)
eight_value (a ∷ b ∷ c ∷ d ∷ e ∷ f ∷ g ∷ i ∷ []) h = omega arith
eight_value (a ∷ b ∷ c ∷ d ∷ e ∷ f ∷ g ∷ i ∷ j ∷ s) h = absurd (omega arith)

-- the bytes y of a number, copied into a lent part of k bytes
put : {b y : Bytes} {at j : ℕ} (k n : ℕ) → at + k ≤ length b → y ≡ little k n → j ≡ k
    → Wrote b (take at b ++ (y ++ drop j (drop at b))) at (at + k) (little k n)
put {b} {y} {at} {j} k n h q e =
    let l : length (little k n) ≡ k = length-little k n in
    record { room = omega arith; up = omega arith; eq = rw q (lent_back b at j (little k n) (l ∙ sym e)) }

pub four_put : {b y s : Bytes} {at j : ℕ} (n : ℕ) → at + 4 ≤ length b → y ≡ s → s ≡ to_le_bytes w32 n → j ≡ 4
    → Wrote b (take at b ++ (y ++ drop j (drop at b))) at (at + 4) (little 4 n)
four_put n h q r e = put 4 n h (q ∙ (r ∙ four_bytes n)) e

pub eight_put : {b y s : Bytes} {at j : ℕ} (n : ℕ) → at + 8 ≤ length b → y ≡ s → s ≡ to_le_bytes w64 n → j ≡ 8
    → Wrote b (take at b ++ (y ++ drop j (drop at b))) at (at + 8) (little 8 n)
eight_put n h q r e = put 8 n h (q ∙ (r ∙ eight_bytes n)) e

-- and read from the bytes of a part
pub four_read : {s : Bytes} {v : ℕ} (b : Bytes) (at : ℕ) → at + 4 ≤ length b → s ≡ take (at + 4 - at) (drop at b) → v ≡ from_le_bytes w32 s → v ≡ value_of (part b at 4)
four_read {s} b at h q e =
    let p : s ≡ part b at 4 = q ∙ part_of b at 4 in
    e ∙ (four_value s (ap length p ∙ length_part b at 4 h) ∙ ap value_of p)

pub eight_read : {s : Bytes} {v : ℕ} (b : Bytes) (at : ℕ) → at + 8 ≤ length b → s ≡ take (at + 8 - at) (drop at b) → v ≡ from_le_bytes w64 s → v ≡ value_of (part b at 8)
eight_read {s} b at h q e =
    let p : s ≡ part b at 8 = q ∙ part_of b at 8 in
    e ∙ (eight_value s (ap length p ∙ length_part b at 8 h) ∙ ap value_of p)

-- ---- numbers that fit in k bytes

pow_up : (k : ℕ) → 0 < 256 ^ k
pow_up zero = omega arith
pow_up (suc k) = rw pow-suc (omega (arith, pow_up k))

below_push : {m x : ℕ} (a : List ℕ) → Below m a → x < m → Below m (a ++ (x ∷ []))
below_push [] h l zero = l
below_push [] h l (suc i) = h 0
below_push (y ∷ a) h l zero = h 0
below_push (y ∷ a) h l (suc i) = below_push a (λ j. h (suc j)) l i

-- ---- the loops: i numbers are done

pub record Writing (k : ℕ) (b : Bytes) (at : ℕ) (ns : List ℕ) (b' : Bytes) (i : ℕ) : Type 0 where
  pub upto : i ≤ length ns
  pub fits : at + length ns * k ≤ length b
  pub same : length b' ≡ length b
  pub wrote : Wrote b b' at (at + i * k) (rows k (take i ns))
  pub small : Below (256 ^ k) (take i ns)

pub writing_begins : {k : ℕ} {b : Bytes} {at : ℕ} {ns : List ℕ} → at + length ns * k ≤ length b → Writing k b at ns b 0
unfolding rows
writing_begins {k} {b} {at} {ns} h =
    let z : at + 0 * k ≡ at = omega arith in
    record { upto = omega arith; fits = h; same = refl; wrote = rw z (wrote_none (omega arith)); small = λ i. pow_up k }

-- x is number i of a row xs of some type, each with its value
pub writing_more : {A : Type 0} {k : ℕ} {b : Bytes} {at : ℕ} (value : A → ℕ) (xs : List A) {d e : Bytes} {i : ℕ} {x : A} → Writing k b at (map value xs) d i → i < length xs → x ≡ get_or xs i x
    → Wrote d e (at + i * k) (at + i * k + k) (little k (value x)) → value x < 256 ^ k → Writing k b at (map value xs) e (i + 1)
writing_more {A} {k} {b} {at} value xs {d} {e} {i} {x} h l is w f =
    let m : i < length (map value xs) = rw length-map l in
    let v : get_or (map value xs) i 0 ≡ value x = get_or-map value xs i x 0 l ∙ ap value (sym is) in
    let p : at + i * k + k ≡ at + (i + 1) * k = omega arith in
    let t : take (i + 1) (map value xs) ≡ take i (map value xs) ++ (value x ∷ []) = rw (add-one, take-suc (map value xs) i 0 m, v) in
    let y : rows k (take i (map value xs)) ++ little k (value x) ≡ rows k (take (i + 1) (map value xs)) = sym (rw (t, rows_append, rows-one)) in
    record {
      upto = omega arith;
      fits = h.fits;
      same = wrote_same w ∙ h.same;
      wrote = wrote_as (rw p at (then h.wrote w)) y;
      small = rw t (below_push (take i (map value xs)) h.small f);
    }

pub writing_done : {k : ℕ} {b : Bytes} {at : ℕ} {ns : List ℕ} {e : Bytes} {i : ℕ} → Writing k b at ns e i → length ns ≤ i → WroteRows k b at ns e
writing_done {k} {b} {at} {ns} {e} {i} h l =
    let q : i ≡ length ns = omega arith in
    record { same = h.same; wrote = rw (q, take-length ns) at h.wrote; fits = rw (q, take-length ns) at h.small }

pub record Reading (k : ℕ) (b : Bytes) (at : ℕ) (ns₀ ns : List ℕ) (i : ℕ) : Type 0 where
  pub upto : i ≤ length ns
  pub same : length ns ≡ length ns₀
  pub fits : at + length ns * k ≤ length b
  pub front : take i ns ≡ rows_at k b at i

pub reading_begins : {k : ℕ} {b : Bytes} {at : ℕ} {ns : List ℕ} → at + length ns * k ≤ length b → Reading k b at ns ns 0
unfolding rows_at unrow
reading_begins {k} {b} {at} {ns} h = record { upto = omega arith; same = refl; fits = h; front = refl }

pub reading_more : {k : ℕ} {b : Bytes} {at : ℕ} {ns₀ ns : List ℕ} {i v : ℕ} → Reading k b at ns₀ ns i → i < length ns → v ≡ value_of (part b (at + i * k) k) → Reading k b at ns₀ (set ns i v) (i + 1)
unfolding rows_at part
reading_more {k} {b} {at} {ns₀} {ns} {i} {v} h l e =
    record {
      upto = rw length-set (omega arith);
      same = length-set ns i v ∙ h.same;
      fits = rw length-set h.fits;
      front = rw (add-one, take-suc-set ns i v l, h.front, e, unrow_more, drop-drop);
    }

-- the same of a row xs of some type, each with its value
pub reading_one : {A : Type 0} {k : ℕ} {b : Bytes} {at : ℕ} (value : A → ℕ) (xs₀ xs : List A) {i : ℕ} {x : A} → Reading k b at (map value xs₀) (map value xs) i → i < length xs
    → value x ≡ value_of (part b (at + i * k) k) → Reading k b at (map value xs₀) (map value (set xs i x)) (i + 1)
reading_one {A} {k} {b} {at} value xs₀ xs {i} {x} h l e =
    rw (map-set value xs i x) (reading_more h (rw length-map l) e)

pub reading_done : {k : ℕ} {b : Bytes} {at : ℕ} {ns₀ ns : List ℕ} {i : ℕ} → Reading k b at ns₀ ns i → length ns ≤ i → ns ≡ rows_at k b at (length ns₀)
reading_done {k} {b} {at} {ns₀} {ns} {i} h l =
    let q : i ≡ length ns = omega arith in
    sym (take-length ns) ∙ ap (λ (m : ℕ). take m ns) (sym q) ∙ (h.front ∙ rw (q, h.same))

pub writing_all : {A : Type 0} {k : ℕ} {b : Bytes} {at : ℕ} (value : A → ℕ) (xs : List A) {e : Bytes} {i : ℕ} → Writing k b at (map value xs) e i → length xs ≤ i → WroteRows k b at (map value xs) e
writing_all value xs h l = writing_done h (rw length-map l)

pub reading_all : {A : Type 0} {k : ℕ} {b : Bytes} {at : ℕ} (value : A → ℕ) (xs₀ xs : List A) {i : ℕ} → Reading k b at (map value xs₀) (map value xs) i → length xs ≤ i
    → map value xs ≡ rows_at k b at (length xs₀)
reading_all {A} {k} {b} {at} value xs₀ xs h l = reading_done h (rw length-map l) ∙ ap (rows_at k b at) (length-map xs₀ value)

-- ---- rows of numbers that are their own values

pub row_there : {k : ℕ} {b : Bytes} {at : ℕ} {ns : List ℕ} {b' : Bytes} → WroteRows k b at (map (λ n. n) ns) b' → WroteRows k b at ns b'
row_there {ns = ns} h = rw (map-id ns) at h

pub row_back : {ns r : List ℕ} → map (λ n. n) ns ≡ r → ns ≡ r
row_back {ns} e = sym (map-id ns) ∙ e
