-- Numbers as bytes, the low byte first: one number, a row of numbers of one width, and both back.
use Rattle.std.specs.Prelude.{ℕ, zero, suc, ◌+◌, ◌*◌, ◌/◌, ◌%◌, ◌^◌, ◌<◌, ◌≤◌, ◌≡◌, refl, List, [], ◌∷◌, ◌++◌, length, get_or, take, drop}
use Rattle.std.proofs.Common.{sym, ap, ◌∙◌, append-nil, append_assoc, pow-suc, div-lt_iff_lt-mul, arith, length-append, length-take, length-drop, take_at, drop_at, take-add, get_or-drop, drop-drop}
use Rattle.spec.specs.Bytes.{Bytes}

-- a number in k bytes
unfoldable pub little : ℕ → ℕ → Bytes
little zero n = []
little (suc k) n = (n % 256) ∷ little k (n / 256)

-- the number that bytes are
unfoldable pub value_of : Bytes → ℕ
value_of [] = 0
value_of (a ∷ s) = a + 256 * value_of s

-- numbers end to end, each in k bytes
unfoldable pub rows : ℕ → List ℕ → Bytes
rows k [] = []
rows k (n ∷ ns) = little k n ++ rows k ns

-- the first m numbers of k bytes each
unfoldable pub unrow : ℕ → ℕ → Bytes → List ℕ
unrow k zero s = []
unrow k (suc m) s = value_of (take k s) ∷ unrow k m (drop k s)

-- m numbers from a place on
unfoldable pub rows_at : ℕ → Bytes → ℕ → ℕ → List ℕ
rows_at k b at m = unrow k m (drop at b)

-- every element is below m: bytes are below 256, numbers of k bytes below 256 ^ k
abbrev pub Below : ℕ → List ℕ → Type 0
Below m s = (i : ℕ) → get_or s i 0 < m

-- ---- one number

pub length-little : (k n : ℕ) → length (little k n) ≡ k
unfolding little
length-little zero n = refl
length-little (suc k) n = ap suc (length-little k (n / 256))

pub value-little : (k n : ℕ) → n < 256 ^ k → value_of (little k n) ≡ n
unfolding little value_of
value-little zero n h = omega arith
value-little (suc k) n h =
    let b : n / 256 < 256 ^ k = (div-lt_iff_lt-mul {k = 256} (omega arith)).1 (rw pow-suc at h) in
    rw (value-little k (n / 256) b) (omega arith)

pub little-value : (s : Bytes) → Below 256 s → little (length s) (value_of s) ≡ s
unfolding little value_of
little-value [] h = refl
little-value (a ∷ s) h =
    let b : a < 256 = h 0 in
    let q : (a + 256 * value_of s) / 256 ≡ value_of s = omega arith in
    let r : (a + 256 * value_of s) % 256 ≡ a = omega arith in
    rw (q, r, little-value s (λ i. h (suc i)))

-- ---- a row of them

pub length-rows : (k : ℕ) (ns : List ℕ) → length (rows k ns) ≡ length ns * k
unfolding rows
length-rows k [] = omega arith
length-rows k (n ∷ ns) = rw (length-append, length-little, length-rows k ns) (omega arith)

pub length-unrow : (k m : ℕ) (s : Bytes) → length (unrow k m s) ≡ m
unfolding unrow
length-unrow k zero s = refl
length-unrow k (suc m) s = ap suc (length-unrow k m (drop k s))

-- what was put there is read back, whatever follows
pub read_rows : (k : ℕ) (ns : List ℕ) (t : Bytes) → Below (256 ^ k) ns → unrow k (length ns) (rows k ns ++ t) ≡ ns
unfolding rows unrow
read_rows k [] t h = refl
read_rows k (n ∷ ns) t h =
    rw (append_assoc, take_at (little k n) (rows k ns ++ t) k (length-little k n), drop_at (little k n) (rows k ns ++ t) k (length-little k n), value-little k n (h 0))
    (ap (n ∷◌) (read_rows k ns t (λ i. h (suc i))))

pub below-drop : (k : ℕ) (s : Bytes) → Below 256 s → Below 256 (drop k s)
below-drop k s h i = rw get_or-drop (h (k + i))

below-take : (k : ℕ) (s : Bytes) → Below 256 s → Below 256 (take k s)
below-take zero s h i = omega arith
below-take (suc k) [] h i = h i
below-take (suc k) (a ∷ s) h zero = h 0
below-take (suc k) (a ∷ s) h (suc i) = below-take k s (λ j. h (suc j)) i

-- what was read is put back
pub rows_read : (k m : ℕ) (s : Bytes) → Below 256 s → m * k ≤ length s → rows k (unrow k m s) ≡ take (m * k) s
unfolding rows unrow
rows_read k zero s h b = let z : 0 * k ≡ 0 = omega arith in rw z
rows_read k (suc m) s h b =
    let n : length (take k s) ≡ k = rw length-take (omega arith) in
    let e : suc m * k ≡ k + m * k = omega arith in
    let v : little k (value_of (take k s)) ≡ take k s = ap (λ j. little j (value_of (take k s))) (sym n) ∙ little-value (take k s) (below-take k s h) in
    rw (v, rows_read k m (drop k s) (below-drop k s h) (rw length-drop (omega arith)), e, take-add)

-- ---- one more at the end

pub rows_append : (k : ℕ) (a b : List ℕ) → rows k (a ++ b) ≡ rows k a ++ rows k b
unfolding rows
rows_append k [] b = refl
rows_append k (n ∷ a) b = rw (rows_append k a b) (sym (append_assoc (little k n) (rows k a) (rows k b)))

pub rows-one : (k n : ℕ) → rows k (n ∷ []) ≡ little k n
unfolding rows
rows-one k n = append-nil (little k n)

pub unrow_more : (k m : ℕ) (s : Bytes) → unrow k (suc m) s ≡ unrow k m s ++ (value_of (take k (drop (m * k) s)) ∷ [])
unfolding unrow
unrow_more k zero s = let z : 0 * k ≡ 0 = omega arith in rw z
unrow_more k (suc m) s =
    let e : suc m * k ≡ k + m * k = omega arith in
    rw (e, ← drop-drop) (ap (value_of (take k s) ∷◌) (unrow_more k m (drop k s)))
