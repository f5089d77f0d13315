-- What a search for a delimiter found, as the cut of the text: n bytes stand before the first d, counted from `at`.
use mathlib.Core.Path.{◌≡◌, refl, ◌∙◌}
use mathlib.Core.Bool.{Bool, true, false, ◌&&◌}
use mathlib.Core.List.{[], ◌∷◌}
use Prim.Native.Nat.{ℕ, suc, ◌≤◌}
use native.Mathlib.Omega.{arith}
use lib.Dec.{eqb}
use lib.ListN.{length, take}
use borrow.Author.Tests.{eq-eqb, ne_eqb, eqb-true}
use Rattle.spec.specs.Bytes.{Bytes, up_to, every, byte, when◌then◌else◌}
use Rattle.copy.specs.Texts.{length_up_to}
use Rattle.iri.specs.Forms.{other, colonless}
use Rattle.iri.proofs.Languages.{is, same_test, cut-take}

module _ (d : ℕ) (s : Bytes) {n : ℕ} (e : n ≡ length (up_to (is d) s)) where
  pub found_within : n ≤ length s
  found_within = omega (arith, length_up_to (is d) s)

-- ---- no ":" before the first "/"

eqb_suc : (m n : ℕ) → eqb (suc m) (suc n) ≡ eqb m n
eqb_suc m n = same_test (eqb (suc m) (suc n)) (eqb m n) (λ e. eq-eqb m n (omega (arith, eqb-true (suc m) (suc n) e))) (λ e. eq-eqb (suc m) (suc n) (omega (arith, eqb-true m n e)))

all_up_to : (d : ℕ) (u : Bytes) → eqb (length (up_to (is d) u)) (length u) ≡ every (other d) u
unfolding up_to every when◌then◌else◌
all_up_to d [] = refl
all_up_to d (a ∷ u) = by (eqb a d) refl (all_up_to d u)
  where
    by : (t : Bool) → eqb a d ≡ t → eqb (length (up_to (is d) u)) (length u) ≡ every (other d) u → eqb (length (up_to (is d) (a ∷ u))) (suc (length u)) ≡ (other d a && every (other d) u)
    by true e h = rw e (ne_eqb 0 (suc (length u)) (λ q. omega arith))
    by false e h = rw e (eqb_suc (length (up_to (is d) u)) (length u) ∙ h)

pub colonless-found : (s : Bytes) {n m : ℕ} → n ≡ length (up_to (is 47) s) → m ≡ length (up_to (is 58) (take n s)) → eqb m n ≡ colonless s
unfolding colonless byte
colonless-found s {n} {m} e f =
    let u = cut-take 47 s e in
    let g : m ≡ length (up_to (is 58) (up_to (is 47) s)) = rw u f in
    rw (g, e) (all_up_to 58 (up_to (is 47) s))
