-- Is there a pair, of the first k things, that a test passes? The walks of the repeated attributes.
use Rattle.std.specs.Prelude.{◌≡◌, refl, Bool, true, false, ◌||◌}
use Rattle.std.proofs.Math.Path.{sym}
use Rattle.std.proofs.Common.{◌∙◌}
use Prim.Native.Nat.{ℕ, zero, suc, ◌+◌, ◌-◌, ◌<◌, ◌≤◌}
use Rattle.std.proofs.Math.Numerals.{add-one}
use native.Mathlib.Omega.{arith}

-- does j pass the test with one of the m things from i on?
unfoldable pub behind : (ℕ → ℕ → Bool) → ℕ → ℕ → ℕ → Bool
behind t j i zero = false
behind t j i (suc m) = t j i || behind t j (suc i) m

-- does one of the m things from j on pass it with a later one?
unfoldable pub pairs : (ℕ → ℕ → Bool) → ℕ → ℕ → Bool
pairs t j zero = false
pairs t j (suc m) = behind t j (suc j) m || pairs t (suc j) m

-- j and those behind it, of k
abbrev pub behind_in : (ℕ → ℕ → Bool) → ℕ → ℕ → Bool
behind_in t j k = behind t j (j + 1) (k - (j + 1))

-- ---- the inner loop: j passes the test with none of those before i

pub record Alone (t : ℕ → ℕ → Bool) (j k i : ℕ) : Type 0 where
  pub over : j < i
  pub rest : behind_in t j k ≡ behind t j i (k - i)

module _ {t : ℕ → ℕ → Bool} {j k : ℕ} where
  pub alone_begins : Alone t j k (j + 1)
  alone_begins = record { over = omega arith; rest = refl }

  module _ {i : ℕ} (h : Alone t j k i) where
    here : i < k → behind_in t j k ≡ (t j i || behind t j (i + 1) (k - (i + 1)))
    unfolding behind
    here l = let s : k - i ≡ suc (k - (i + 1)) = omega arith in h.rest ∙ rw (s, add-one i)

    pub alone_hit : i < k → t j i ≡ true → true ≡ behind_in t j k
    alone_hit l b = sym (here l ∙ rw b)

    pub alone_more : i < k → t j i ≡ false → Alone t j k (i + 1)
    alone_more l b = record { over = omega arith; rest = here l ∙ rw b }

    pub alone_done : k ≤ i → false ≡ behind_in t j k
    unfolding behind
    alone_done l = let z : k - i ≡ 0 = omega arith in sym (h.rest ∙ rw z)

-- where there are none
pub none_behind : (t : ℕ → ℕ → Bool) (j k : ℕ) → k ≤ j → false ≡ behind_in t j k
unfolding behind
none_behind t j k l = let z : k - (j + 1) ≡ 0 = omega arith in rw z

-- ---- the outer loop: none of those before j passes it with a later one

pub record Unpaired (t : ℕ → ℕ → Bool) (k j : ℕ) : Type 0 where
  pub upto : j ≤ k
  pub rest : pairs t 0 k ≡ pairs t j (k - j)

module _ {t : ℕ → ℕ → Bool} {k : ℕ} where
  pub unpaired_begins : Unpaired t k 0
  unpaired_begins = let z : k - 0 ≡ k = omega arith in record { upto = omega arith; rest = rw z }

  module _ {j : ℕ} (h : Unpaired t k j) where
    next : j < k → pairs t 0 k ≡ (behind_in t j k || pairs t (j + 1) (k - (j + 1)))
    unfolding pairs
    next l = let s : k - j ≡ suc (k - (j + 1)) = omega arith in h.rest ∙ rw (s, add-one j)

    pub unpaired_hit : j < k → behind_in t j k ≡ true → true ≡ pairs t 0 k
    unpaired_hit l b = sym (next l ∙ rw b)

    pub unpaired_more : j < k → behind_in t j k ≡ false → Unpaired t k (j + 1)
    unpaired_more l b = record { upto = omega arith; rest = next l ∙ rw b }

    pub unpaired_done : k ≤ j → false ≡ pairs t 0 k
    unfolding pairs
    unpaired_done l = let z : k - j ≡ 0 = omega arith in sym (h.rest ∙ rw z)
