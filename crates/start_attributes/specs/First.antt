-- Where a role's first attribute stands, and the property attributes in written order.
use Rattle.std.specs.Prelude.{◌≡◌, Bool, not, List, [], ◌∷◌, map, length, get_or, take, drop}
use Rattle.std.proofs.Math.Path.{refl, ap}
use Rattle.std.proofs.Common.{sym, ◌∙◌, zero-add, length-take, drop-cons, eq-eqb, ne_eqb, eqb-true}
use Rattle.std.proofs.Math.Bool.{true, false}
use Rattle.std.proofs.Math.Option.{Option, none, some}
use Prim.Native.Nat.{ℕ, zero, suc, ◌+◌, ◌<◌, ◌≤◌}
use native.Mathlib.Omega.{arith}
use Rattle.std.proofs.Math.Dec.{eqb}
use Rattle.std.proofs.lemmas.Bool.{eqb-false}
use Rattle.spec.specs.Bytes.{Bytes, when◌then◌else◌, up_to, is_empty, is_some}
use Rattle.spec.specs.StartTag.{Role, property, role_number, same_role, Meaning, means, first, property_attributes}
use Rattle.copy.specs.Copy.{part}
use Rattle.copy.specs.Texts.{length_up_to}
use Rattle.start_names.specs.Tag.{value_at}
use Rattle.start_names.specs.Classes.{class_at}
use Rattle.start_attributes.specs.Places.{places}
use Rattle.start_attributes.specs.Attributes.{role_at, meant_at}
use Rattle.start_attributes.specs.Reads.{meanings_of, Roles}

-- ---- from place j on, m of them: where the first attribute of a role stands, and its value

abbrev found_from : List ℕ → Role → ℕ → ℕ → ℕ
found_from rs r j m = length (up_to (λ c. eqb c (role_number r)) (part rs j m))

abbrev first_from : List ℕ → List ℕ → List ℕ → List ℕ → Role → ℕ → ℕ → Option Bytes
first_from e w v cs r j m = first r (map (meant_at e w v cs) (places j m))

-- of the first k, or k
unfoldable pub first_in : List ℕ → ℕ → Role → ℕ
first_in rs k r = found_from rs r 0 k

-- a test the other way round
pub turned : (a b : ℕ) (t : Bool) → eqb a b ≡ t → eqb b a ≡ t
turned a b true h = eq-eqb b a (sym (eqb-true a b h))
turned a b false h = ne_eqb b a (λ (q : b ≡ a). eqb-false a b h (sym q))

part_cons : (rs : List ℕ) (j m : ℕ) → j < length rs → part rs j (suc m) ≡ get_or rs j 0 ∷ part rs (suc j) m
unfolding part
part_cons rs j m h = rw (drop-cons rs j 0 h)

module _ {e w v cs rs : List ℕ} {k : ℕ} (h : Roles e w v cs rs k) (r : Role) where
  module _ (j m : ℕ) (l : j < k) (t : Bool) (b : eqb (get_or rs j 0) (role_number r) ≡ t) where
    found_at : found_from rs r j (suc m) ≡ length (when t then [] else (get_or rs j 0 ∷ up_to (λ c. eqb c (role_number r)) (part rs (suc j) m)))
    unfolding up_to
    found_at = rw (part_cons rs j m (omega (arith, h.room)), b)

    first_at : first_from e w v cs r j (suc m) ≡ (when t then some (value_at e w j) else first_from e w v cs r (suc j) m)
    unfolding places meant_at first same_role
    first_at = rw (turned (role_number (role_at e w v (class_at cs j) j)) (role_number r) t (rw (h.number j l) at b))

  some-from : (j m : ℕ) → j + m ≤ k → found_from rs r j m < m → first_from e w v cs r j m ≡ some (value_at e w (j + found_from rs r j m))
  unfolding when◌then◌else◌
  some-from j zero l f = absurd (omega arith)
  some-from j (suc m) l f = go (eqb (get_or rs j 0) (role_number r)) refl (some-from (suc j) m (omega arith))
    where
      go : (t : Bool) → eqb (get_or rs j 0) (role_number r) ≡ t
          → (found_from rs r (suc j) m < m → first_from e w v cs r (suc j) m ≡ some (value_at e w (suc j + found_from rs r (suc j) m)))
          → first_from e w v cs r j (suc m) ≡ some (value_at e w (j + found_from rs r j (suc m)))
      go true b more =
          let z : found_from rs r j (suc m) ≡ 0 = found_at j m (omega arith) true b in
          let q : j ≡ j + found_from rs r j (suc m) = omega arith in
          first_at j m (omega arith) true b ∙ ap (λ (i : ℕ). some (value_at e w i)) q
      go false b more =
          let z : found_from rs r j (suc m) ≡ suc (found_from rs r (suc j) m) = found_at j m (omega arith) false b in
          let q : suc j + found_from rs r (suc j) m ≡ j + found_from rs r j (suc m) = omega arith in
          first_at j m (omega arith) false b ∙ (more (omega arith) ∙ ap (λ (i : ℕ). some (value_at e w i)) q)

  none_from : (j m : ℕ) → j + m ≤ k → m ≤ found_from rs r j m → first_from e w v cs r j m ≡ none
  unfolding when◌then◌else◌ places first
  none_from j zero l f = refl
  none_from j (suc m) l f = go (eqb (get_or rs j 0) (role_number r)) refl (none_from (suc j) m (omega arith))
    where
      go : (t : Bool) → eqb (get_or rs j 0) (role_number r) ≡ t → (m ≤ found_from rs r (suc j) m → first_from e w v cs r (suc j) m ≡ none)
          → first_from e w v cs r j (suc m) ≡ none
      go true b more = let z : found_from rs r j (suc m) ≡ 0 = found_at j m (omega arith) true b in absurd (omega arith)
      go false b more =
          let z : found_from rs r j (suc m) ≡ suc (found_from rs r (suc j) m) = found_at j m (omega arith) false b in
          first_at j m (omega arith) false b ∙ more (omega arith)

  -- what callers learn: the value, where there is one
  pub first_some : first_in rs k r < k → first r (meanings_of e w v cs k) ≡ some (value_at e w (first_in rs k r))
  unfolding first_in meanings_of
  first_some l = some-from 0 k (omega arith) l ∙ ap (λ (i : ℕ). some (value_at e w i)) (zero-add (found_from rs r 0 k))

  pub first_none : k ≤ first_in rs k r → first r (meanings_of e w v cs k) ≡ none
  unfolding first_in meanings_of
  first_none l = none_from 0 k (omega arith) l

pub first_most : (rs : List ℕ) (k : ℕ) (r : Role) → first_in rs k r ≤ k
unfolding first_in part
first_most rs k r = omega (arith, length_up_to (λ c. eqb c (role_number r)) (take k (drop 0 rs)), length-take k (drop 0 rs))

-- ---- is there a property attribute?

no_properties : (ms : List Meaning) → is_empty (property_attributes ms) ≡ not (is_some (first property ms))
unfolding property_attributes first is_some is_empty when◌then◌else◌
no_properties [] = refl
no_properties (means q i x ∷ ms) = go (same_role property q) (no_properties ms)
  where
    go : (t : Bool) → is_empty (property_attributes ms) ≡ not (is_some (first property ms))
        → is_empty (when t then ((i, x) ∷ property_attributes ms) else property_attributes ms) ≡ not (is_some (when t then some x else first property ms))
    go true h = refl
    go false h = h

module _ {e w v cs rs : List ℕ} {k : ℕ} (h : Roles e w v cs rs k) where
  pub properties_some : first_in rs k property < k → is_empty (property_attributes (meanings_of e w v cs k)) ≡ false
  unfolding is_some
  properties_some l = no_properties (meanings_of e w v cs k) ∙ rw (first_some h property l)

  pub properties_none : k ≤ first_in rs k property → is_empty (property_attributes (meanings_of e w v cs k)) ≡ true
  unfolding is_some
  properties_none l = no_properties (meanings_of e w v cs k) ∙ rw (first_none h property l)
