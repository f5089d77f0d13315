-- How numbers are written: what leading zeros leave, and that a number below 10ʲ has at most j digits.
use Rattle.std.specs.Prelude.{◌≡◌, refl, Bool, true, false, ℕ, zero, suc, ◌+◌, ◌*◌, ◌/◌, ◌%◌, ◌^◌, ◌≤◌, ◌<◌, eqb, length}
use mathlib.Core.List.{[], ◌∷◌, ◌++◌, cons≢nil}
use Rattle.std.proofs.Common.{arith, pow-suc, length-append, ne_eqb}
use Rattle.spec.specs.Bytes.{Bytes, byte}
use Rattle.spec.specs.NTriples.{digits, drop_zeros, decimal}

drop_zeros_end : (c : ℕ) (s : Bytes) → length (drop_zeros (s ++ (c ∷ []))) ≤ length (drop_zeros s) + 1
unfolding drop_zeros
drop_zeros_end c [] = go (eqb c (byte "0"))
  where
    go : (b : Bool) → length {A = ℕ} (elim b [ true ↦ [] | false ↦ c ∷ [] ]) ≤ 1
    go true = omega arith
    go false = omega arith
drop_zeros_end c (a ∷ s) = go (eqb a (byte "0")) (drop_zeros_end c s)
  where
    go : (b : Bool) → length (drop_zeros (s ++ (c ∷ []))) ≤ length (drop_zeros s) + 1
        → length {A = ℕ} (elim b [ true ↦ drop_zeros (s ++ (c ∷ [])) | false ↦ a ∷ (s ++ (c ∷ [])) ]) ≤ length {A = ℕ} (elim b [ true ↦ drop_zeros s | false ↦ a ∷ s ]) + 1
    go true h = h
    go false h = simp length-append (omega arith)

drop_zeros_zero : (s : Bytes) → drop_zeros s ≡ [] → drop_zeros (s ++ (48 ∷ [])) ≡ []
unfolding drop_zeros byte
drop_zeros_zero [] h = refl
drop_zeros_zero (a ∷ s) h = go (eqb a 48) (drop_zeros_zero s) h
  where
    go : (b : Bool) → (drop_zeros s ≡ [] → drop_zeros (s ++ (48 ∷ [])) ≡ []) → ◌≡◌ {A = Bytes} (elim b [ true ↦ drop_zeros s | false ↦ a ∷ s ]) []
        → ◌≡◌ {A = Bytes} (elim b [ true ↦ drop_zeros (s ++ (48 ∷ [])) | false ↦ a ∷ (s ++ (48 ∷ [])) ]) []
    go true f h = f h
    go false f h = absurd (cons≢nil h)

-- a digit other than 0 behind nothing but zeros
pub drop_zeros_last : (s : Bytes) (c : ℕ) → drop_zeros s ≡ [] → (c ≡ 48 → ⊥) → drop_zeros (s ++ (c ∷ [])) ≡ c ∷ []
unfolding drop_zeros byte
drop_zeros_last [] c h n = rw (ne_eqb c 48 n, drop_zeros)
drop_zeros_last (a ∷ s) c h n = go (eqb a 48) (drop_zeros_last s c) h
  where
    go : (b : Bool) → (drop_zeros s ≡ [] → (c ≡ 48 → ⊥) → drop_zeros (s ++ (c ∷ [])) ≡ c ∷ [])
        → ◌≡◌ {A = Bytes} (elim b [ true ↦ drop_zeros s | false ↦ a ∷ s ]) []
        → ◌≡◌ {A = Bytes} (elim b [ true ↦ drop_zeros (s ++ (c ∷ [])) | false ↦ a ∷ (s ++ (c ∷ [])) ]) (c ∷ [])
    go true f h = f h n
    go false f h = absurd (cons≢nil h)

-- what stands behind a digit that is left stays
pub drop_zeros_more : (s t : Bytes) → (drop_zeros s ≡ [] → ⊥) → drop_zeros (s ++ t) ≡ drop_zeros s ++ t
unfolding drop_zeros byte
drop_zeros_more [] t n = absurd (n refl)
drop_zeros_more (a ∷ s) t n = go (eqb a 48) (drop_zeros_more s t) n
  where
    go : (b : Bool) → ((drop_zeros s ≡ [] → ⊥) → drop_zeros (s ++ t) ≡ drop_zeros s ++ t)
        → (◌≡◌ {A = Bytes} (elim b [ true ↦ drop_zeros s | false ↦ a ∷ s ]) [] → ⊥)
        → ◌≡◌ {A = Bytes} (elim b [ true ↦ drop_zeros (s ++ t) | false ↦ a ∷ (s ++ t) ]) (elim b [ true ↦ drop_zeros s | false ↦ a ∷ s ] ++ t)
    go true f n = f n
    go false f n = refl

pub no_digits : (k : ℕ) → drop_zeros (digits k 0) ≡ []
unfolding digits drop_zeros
no_digits zero = refl
no_digits (suc k) = drop_zeros_zero (digits k 0) (no_digits k)

few-digits : (j k n : ℕ) → n < 10 ^ j → length (drop_zeros (digits k n)) ≤ j
unfolding digits drop_zeros
few-digits zero k n h = let z : n ≡ 0 = omega arith in rw (z, no_digits k) (omega arith)
few-digits (suc j) zero n h = omega arith
few-digits (suc j) (suc k) n h =
    let h' : n < 10 ^ j * 10 = rw (pow-suc 10 j) at h in
    let ih : length (drop_zeros (digits k (n / 10))) ≤ j = few-digits j k (n / 10) (omega arith) in
    omega (arith, drop_zeros_end (48 + n % 10) (digits k (n / 10)))

-- a number below 10ʲ is written in at most j digits
pub decimal-length : (j n : ℕ) → n < 10 ^ j → length (decimal n) ≤ j
unfolding decimal
decimal-length j n h = few-digits j 20 n h
