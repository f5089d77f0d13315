-- `same` tells whether two texts are equal.
use mathlib.Core.Path.{◌≡◌, refl, ap}
use mathlib.Core.Bool.{true, false, false≢true}
use mathlib.Core.List.{[], ◌∷◌}
use lib.Dec.{eqb}
use lib.ListN.{length}
use borrow.Author.Tests.{eqb-true, eq-eqb}
use Rattle.spec.specs.Bytes.{Bytes, same}
use Rattle.spec.proofs.Booleans.{and_left, and_right, and_both, no_true}

pub same_true : (u v : Bytes) → same u v ≡ true → u ≡ v
unfolding same
same_true [] [] h = refl
same_true [] (b ∷ v) h = absurd (false≢true h)
same_true (a ∷ u) [] h = absurd (false≢true h)
same_true (a ∷ u) (b ∷ v) h =
    let p : a ≡ b = eqb-true a b (and_left (eqb a b) (same u v) h) in
    let q : u ≡ v = same_true u v (and_right (eqb a b) (same u v) h) in
    cc

pub same_refl : (u : Bytes) → same u u ≡ true
unfolding same
same_refl [] = refl
same_refl (a ∷ u) = and_both (eqb a a) (same u u) (eq-eqb a a refl) (same_refl u)

pub same_false : (u v : Bytes) → (u ≡ v → ⊥) → same u v ≡ false
same_false u v f = no_true (same u v) λ e. f (same_true u v e)

-- texts of different lengths differ
pub same-lengths : (u v : Bytes) → (length u ≡ length v → ⊥) → same u v ≡ false
same-lengths u v f = same_false u v λ e. f (ap length e)
