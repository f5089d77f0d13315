-- Generated labels: different numbers below 10⁸ have different labels, and each is of the form that 13 refuses.
use Rattle.std.specs.Prelude.{◌≡◌, refl, Bool, true, ℕ, zero, suc, ◌+◌, ◌*◌, ◌/◌, ◌%◌, ◌^◌, ◌≤◌, ◌<◌, length, leb}
use Rattle.std.proofs.Common.{◌∙◌, ap, arith, pow-suc, length-append, le-leb, leb-true, lt-ltb}
use mathlib.Core.List.{List, [], ◌∷◌, ◌++◌, cons≢nil, nil≢cons, head-eq_of_cons-eq, tail-eq_of_cons-eq, append_cancel_left}
use Rattle.spec.specs.Bytes.{Bytes, ascii, every, between}
use Rattle.spec.specs.Bytes as B
use Rattle.spec.proofs.Booleans.{and_left, and_right, and_both}
use Rattle.spec.specs.NTriples.{digits, label}
use Rattle.spec.specs.StartTag.{is_generated}
use Rattle.theorems.specs.Utf8.{is_ascii}

pub snoc_inj : (u v : List ℕ) (a b : ℕ) → u ++ (a ∷ []) ≡ v ++ (b ∷ []) → (u ≡ v) × (a ≡ b)
snoc_inj [] [] a b e = (refl, head-eq_of_cons-eq e)
snoc_inj [] (y ∷ []) a b e = absurd (nil≢cons (tail-eq_of_cons-eq e))
snoc_inj [] (y ∷ z ∷ v) a b e = absurd (nil≢cons (tail-eq_of_cons-eq e))
snoc_inj (x ∷ []) [] a b e = absurd (cons≢nil (tail-eq_of_cons-eq e))
snoc_inj (x ∷ w ∷ u) [] a b e = absurd (cons≢nil (tail-eq_of_cons-eq e))
snoc_inj (x ∷ u) (y ∷ v) a b e =
    let r : (u ≡ v) × (a ≡ b) = snoc_inj u v a b (tail-eq_of_cons-eq e) in
    let h : x ≡ y = head-eq_of_cons-eq e in
    let t : u ≡ v = r.0 in
    (cc, r.1)

pub digits_inj : (k m n : ℕ) → m < 10 ^ k → n < 10 ^ k → digits k m ≡ digits k n → m ≡ n
unfolding digits
digits_inj zero m n p q e = omega (arith, p, q)
digits_inj (suc k) m n p q e =
    let r : (digits k (m / 10) ≡ digits k (n / 10)) × (48 + m % 10 ≡ 48 + n % 10) = snoc_inj (digits k (m / 10)) (digits k (n / 10)) (48 + m % 10) (48 + n % 10) e in
    let p' : m < 10 ^ k * 10 = rw (pow-suc 10 k) at p in
    let q' : n < 10 ^ k * 10 = rw (pow-suc 10 k) at q in
    let h : m / 10 ≡ n / 10 = digits_inj k (m / 10) (n / 10) (omega arith) (omega arith) r.0 in
    let g : 48 + m % 10 ≡ 48 + n % 10 = r.1 in
    omega arith

pub label_inj : (m n : ℕ) → m < 100_000_000 → n < 100_000_000 → label m ≡ label n → m ≡ n
unfolding label
label_inj m n p q e = digits_inj 8 m n p q (append_cancel_left (ascii "riog") (digits 8 m) (digits 8 n) e)

-- every digit is a digit
digit : (n : ℕ) → between 48 57 (48 + n % 10) ≡ true
unfolding between
digit n = simp (le-leb 48 (48 + n % 10) (omega arith), le-leb (48 + n % 10) 57 (omega arith))

pub every_append : (p : ℕ → Bool) (s t : List ℕ) → every p s ≡ true → every p t ≡ true → every p (s ++ t) ≡ true
unfolding every
every_append p [] t f g = g
every_append p (a ∷ s) t f g = and_both (p a) (every p (s ++ t)) (and_left (p a) (every p s) f) (every_append p s t (and_right (p a) (every p s) f) g)

pub every_map : (p q : ℕ → Bool) → ((c : ℕ) → p c ≡ true → q c ≡ true) → (s : Bytes) → every p s ≡ true → every q s ≡ true
unfolding every
every_map p q f [] h = refl
every_map p q f (c ∷ s) h = and_both (q c) (every q s) (f c (and_left (p c) (every p s) h)) (every_map p q f s (and_right (p c) (every p s) h))

pub all_digits : (k n : ℕ) → every (between 48 57) (digits k n) ≡ true
unfolding every digits
all_digits zero n = refl
all_digits (suc k) n = every_append (between 48 57) (digits k (n / 10)) ((48 + n % 10) ∷ []) (all_digits k (n / 10)) (and_both (between 48 57 (48 + n % 10)) true (digit n) refl)

pub ascii-digits : (k n : ℕ) → every is_ascii (digits k n) ≡ true
unfolding between is_ascii
ascii-digits k n =
    every_map (between 48 57) is_ascii (λ c h. let le : c ≤ 57 = leb-true c 57 (and_right (leb 48 c) (leb c 57) h) in lt-ltb c 128 (omega arith)) (digits k n) (all_digits k n)

pub length_digits : (k n : ℕ) → length (digits k n) ≡ k
unfolding digits
length_digits zero n = refl
length_digits (suc k) n = length-append (digits k (n / 10)) ((48 + n % 10) ∷ []) ∙ (ap (◌+ 1) (length_digits k (n / 10)) ∙ omega arith)

pub label_generated : (n : ℕ) → is_generated (label n) ≡ true
unfolding is_generated label B.all
label_generated n = simp (length_digits 8 n, all_digits 8 n)
