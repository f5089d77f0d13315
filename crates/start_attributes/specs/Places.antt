-- Places in a row, and a test of each of them.
use Rattle.std.specs.Prelude.{◌≡◌, refl, Bool, true, false, List, [], ◌∷◌, ℕ, zero, suc, ◌+◌, ◌<◌, ◌≤◌, length, get_or}
use Rattle.std.proofs.Common.{◌∙◌, ap, zero-add, arith}
use Rattle.spec.specs.Bytes.{every}
use Rattle.copy.specs.Scan.{Passed, passed_stop, passed_more, passed_done}

-- m places from j on
unfoldable pub places : ℕ → ℕ → List ℕ
places j zero = []
places j (suc m) = j ∷ places (suc j) m

length-places : (j m : ℕ) → length (places j m) ≡ m
unfolding places
length-places j zero = refl
length-places j (suc m) = ap suc (length-places (suc j) m)

get_d_places : (j m i : ℕ) → i < m → get_or (places j m) i 0 ≡ j + i
unfolding places
get_d_places j zero i h = absurd (omega arith)
get_d_places j (suc m) zero h = omega arith
get_d_places j (suc m) (suc i) h = let q = get_d_places (suc j) m i (omega arith) in omega arith

-- a loop that has come to place j of k, and all before it passed
module _ {p : ℕ → Bool} {k j : ℕ} (h : Passed p (places 0 k) j) where
  here : j < k → p (get_or (places 0 k) j 0) ≡ p j
  here l = ap p (get_d_places 0 k j l ∙ zero-add j)

  pub place_stops : j < k → p j ≡ false → false ≡ every p (places 0 k)
  place_stops l b = passed_stop h (omega (arith, length-places 0 k)) (here l ∙ b)

  pub place_passes : j < k → p j ≡ true → Passed p (places 0 k) (j + 1)
  place_passes l b = passed_more h (omega (arith, length-places 0 k)) (here l ∙ b)

  pub places_pass : k ≤ j → true ≡ every p (places 0 k)
  places_pass l = passed_done h (omega (arith, length-places 0 k))
