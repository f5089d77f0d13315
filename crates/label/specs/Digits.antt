-- Numbers in decimal digits: the loop that fills a slice with them from the back, and the one that ends where
-- nothing is left of the number.
use Rattle.std.specs.Prelude.{◌≡◌, refl, Bool, true, false, List, [], ◌∷◌, ◌++◌, ℕ, zero, suc, ◌+◌, ◌-◌, ◌*◌, ◌/◌, ◌%◌, ◌^◌, ◌<◌, ◌≤◌, eqb, length, drop, set}
use Rattle.std.proofs.Common.{sym, ap, ◌∙◌, append-nil, append_assoc, pow-suc, arith, length-set, drop-cons, drop-set-lt, get_or-set_same, ne_eqb}
use Rattle.std.proofs.Math.Seq.{drop-length}
use Rattle.std.proofs.lemmas.List.{set_at}
use Rattle.spec.specs.Bytes.{byte}
use Rattle.spec.specs.NTriples.{digits, drop_zeros, decimal}
pub use Rattle.theorems.specs.Labels.{length_digits}

-- What `Decimal::of` answers: the digits, and behind the leading zeros the number as it is written.
pub record Decimals (v : ℕ) (ds : List ℕ) (from : ℕ) : Type 0 where
  pub all : ds ≡ digits 20 v
  pub size : length ds ≡ 20
  pub within : from ≤ 20
  pub text : drop from ds ≡ decimal v

length-drop_zeros : (s : List ℕ) → length (drop_zeros s) ≤ length s
unfolding drop_zeros
length-drop_zeros [] = omega arith
length-drop_zeros (c ∷ s) = go (eqb c (byte "0")) (length-drop_zeros s)
  where
    go : (t : Bool) → length (drop_zeros s) ≤ length s → length {A = ℕ} (elim t [ true ↦ drop_zeros s | false ↦ c ∷ s ]) ≤ suc (length s)
    go true h = omega arith
    go false h = omega arith

pub length-decimal : (v : ℕ) → length (decimal v) ≤ 20
unfolding decimal
length-decimal v = omega (arith, length-drop_zeros (digits 20 v), length_digits 20 v)

-- ---- the loop of `write_u64_to_slice`: from `i` on the digits of `v₀` are written, and `v` is what is left to write

pub record Written (n v₀ v : ℕ) (s : List ℕ) (i : ℕ) : Type 0 where
  pub upto : i ≤ n
  pub size : length s ≡ n
  pub rest : digits n v₀ ≡ digits i v ++ drop i s

pub written-begins : {s : List ℕ} {v : ℕ} → Written (length s) v v s (length s)
written-begins {s} {v} = record { upto = omega arith; size = refl; rest = rw (drop-length s, append-nil) }

last-digit : (i v : ℕ) (t : List ℕ) → 0 < i → digits i v ++ t ≡ digits (i - 1) (v / 10) ++ ((48 + v % 10) ∷ t)
unfolding digits
last-digit i v t b =
    let q : i ≡ suc (i - 1) = omega arith in
    ap (λ (m : ℕ). digits m v ++ t) q ∙ append_assoc (digits (i - 1) (v / 10)) ((48 + v % 10) ∷ []) t

drop-set : (s : List ℕ) (i x : ℕ) → 0 < i → i ≤ length s → drop (i - 1) (set s (i - 1) x) ≡ x ∷ drop i s
drop-set s i x b within =
    let j : ℕ = i - 1 in
    let q : suc j ≡ i = omega arith in
    let at : j < length (set s j x) = rw length-set (omega arith) in
    drop-cons (set s j x) j 0 at ∙ rw (get_or-set_same s j x 0 (omega arith), q, drop-set-lt i s j x (omega arith))

pub written_more : {s : List ℕ} {n v₀ v i : ℕ} → Written n v₀ v s i → 0 < i → Written n v₀ (v / 10) (set s (i - 1) (48 + v % 10)) (i - 1)
written_more {s} {n} {v₀} {v} {i} h b =
    let x : ℕ = 48 + v % 10 in
    let tail : drop (i - 1) (set s (i - 1) x) ≡ x ∷ drop i s = drop-set s i x b (omega arith) in
    record {
      upto = omega arith;
      size = length-set s (i - 1) x ∙ h.size;
      rest = h.rest ∙ (last-digit i v (drop i s) b ∙ ap (digits (i - 1) (v / 10) ++◌) (sym tail));
    }

pub written_done : {s : List ℕ} {n v₀ v i : ℕ} → Written n v₀ v s i → i ≤ 0 → s ≡ digits n v₀
unfolding digits
written_done {s} {n} {v₀} {v} {i} h b =
    let q : i ≡ 0 = omega arith in
    sym (h.rest ∙ rw q)

-- ---- the loop of `Decimal::of`: before `i` are zeros and there is room for `v`; once `v` is 0, no zero is at `i`

pub record Filled (v₀ v : ℕ) (s : List ℕ) (i : ℕ) : Type 0 where
  pub written : Written 20 v₀ v s i
  pub zeros : s ≡ digits i 0 ++ drop i s
  pub room : v < 10 ^ i
  pub first : v ≡ 0 → drop_zeros (drop i s) ≡ drop i s

zeros_first : (k : ℕ) (s : List ℕ) → drop_zeros (digits k 0 ++ s) ≡ drop_zeros s
unfolding digits drop_zeros byte
zeros_first zero s = refl
zeros_first (suc k) s = ap drop_zeros (append_assoc (digits k 0) (48 ∷ []) s) ∙ zeros_first k (48 ∷ s)

other_first : (c : ℕ) (s : List ℕ) → (c ≡ 48 → ⊥) → drop_zeros (c ∷ s) ≡ c ∷ s
unfolding drop_zeros byte
other_first c s e = ap (λ (t : Bool). elim t [ true ↦ drop_zeros s | false ↦ c ∷ s ]) (ne_eqb c 48 e)

-- every u64 has room in twenty digits
pub filled_begins : {v : ℕ} → v < 18_446_744_073_709_551_616 → Filled v v (digits 20 0) 20
unfolding digits drop_zeros
filled_begins {v} h = record { written = written-begins; zeros = refl; room = omega arith; first = λ _. refl }

-- while something is left there is room for its last digit
pub filled_room : {s : List ℕ} {v₀ v i : ℕ} → Filled v₀ v s i → 0 < v → 0 < i
filled_room {i = zero} h b = let r = h.room in omega arith
filled_room {i = suc i} h b = omega arith

pub filled_more : {s : List ℕ} {v₀ v i : ℕ} → Filled v₀ v s i → 0 < v
    → Filled v₀ (v / 10) (set s (i - 1) (48 + v % 10)) (i - 1)
filled_more {s} {v₀} {v} {i} h b =
    let j : ℕ = i - 1 in
    let x : ℕ = 48 + v % 10 in
    let some : 0 < i = filled_room h b in
    let q : i ≡ suc j = omega arith in
    let room : v < 10 ^ j * 10 = rw (pow-suc 10 j) at (rw q at h.room) in
    let tail : drop j (set s j x) ≡ x ∷ drop i s = drop-set s i x some (omega (arith, h.written)) in
    let zeros : s ≡ digits j 0 ++ (48 ∷ drop i s) = h.zeros ∙ last-digit i 0 (drop i s) some in
    let size : length (digits j 0) ≡ j = length_digits j 0 in
    record {
      written = written_more h.written some;
      zeros = ap (λ t. set t j x) zeros ∙ (set_at (digits j 0) 48 (drop i s) x j size ∙ ap (digits j 0 ++◌) (sym tail));
      room = omega (arith, room);
      first = λ z. rw tail (other_first x (drop i s) λ e. omega arith);
    }

pub filled_done : {s : List ℕ} {v₀ v i : ℕ} → Filled v₀ v s i → v ≤ 0 → Decimals v₀ s i
unfolding decimal
filled_done {s} {v₀} {v} {i} h b =
    let w = h.written in
    let z : v ≡ 0 = omega arith in
    let all : digits 20 v₀ ≡ digits i 0 ++ drop i s = w.rest ∙ rw z in
    record {
      all = h.zeros ∙ sym all;
      size = w.size;
      within = w.upto;
      text = sym (ap drop_zeros all ∙ (zeros_first i (drop i s) ∙ h.first z));
    }
