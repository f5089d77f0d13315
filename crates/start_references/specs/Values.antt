-- The values that a tag's roles have, from the places of their first attributes, and the base that references are resolved on.
use Rattle.std.specs.Prelude.{ℕ, ◌+◌, ◌<◌, ◌≤◌, ◌≡◌, Bool, List, length}
use Rattle.std.proofs.Math.Path.{refl}
use Rattle.std.proofs.Math.Bool.{true, false}
use Rattle.std.proofs.Math.Option.{Option, none, some}
use Rattle.std.proofs.Common.{sym, ◌∙◌, arith, ltb-true, ltb-false, lt-ltb}
use Rattle.std.proofs.Math.Dec.{ltb}
use Rattle.std.proofs.lemmas.Bool.Decides.{nat_tests}
use Rattle.spec.specs.Bytes.{Bytes, or_else}
use Rattle.spec.specs.StartTag.{Role, xml_base, first}
use Rattle.copy.specs.Copy.{part, part_short}
use Rattle.state_words.specs.Words.{pick}
use Rattle.state.specs.declared.Span.{Span}
use Rattle.std.specs.declared.option.Option as std
use Rattle.std.specs.Prelude.{Some, None, is_some}
use Rattle.state.specs.Language.{bytes_found}
use Rattle.state_inner.specs.Laws.{found}
use Rattle.start_names.specs.Tag.{start_at, size_at, value_size_at, value_at}
use Rattle.start_references.specs.Reference.{given}
use Rattle.start_attributes.specs.Reads.{meanings_of, Roles}
use Rattle.start_attributes.specs.First.{first_in, first_some, first_none}

pub value-most : (e w : List ℕ) (j : ℕ) → length (value_at e w j) ≤ length e
unfolding value_at
value-most e w j = part_short e (start_at w j + size_at w j) (value_size_at w j)

-- the value of attribute j of k, where there is one
unfoldable pub value_if : List ℕ → List ℕ → ℕ → ℕ → Option Bytes
value_if e w k j = given (ltb j k) (value_at e w j)

-- as it is read, at the place j: v is the value
pub some-value : (e w : List ℕ) (k : ℕ) {j i : ℕ} {v : Bytes} → j ≡ i → j < k → v ≡ value_at e w j → some v ≡ value_if e w k i
unfolding value_if given
some-value e w k {j} q h p = rw (← q, lt-ltb j k h, p)

-- that of a role: j is the place of its first attribute
module _ {e w v cs rs : List ℕ} {k : ℕ} (h : Roles e w v cs rs k) (r : Role) where
  pub first_value : first r (meanings_of e w v cs k) ≡ value_if e w k (first_in rs k r)
  unfolding value_if given
  first_value = go (ltb (first_in rs k r) k) refl
    where
      go : (t : Bool) → ltb (first_in rs k r) k ≡ t → first r (meanings_of e w v cs k) ≡ pick (ltb (first_in rs k r) k) (some (value_at e w (first_in rs k r))) none
      go true q = rw q (first_some h r (ltb-true (first_in rs k r) k q))
      go false q = rw q (first_none h r (ltb-false (first_in rs k r) k q))

-- ---- the base that holds for a tag: its own, or that which was found in force

unfoldable pub in_force : List ℕ → List ℕ → List ℕ → ℕ → List ℕ → std.Option Span → Option Bytes
in_force e w v k rs f = or_else (value_if e w k (first_in rs k xml_base)) (found f v)

-- its own is at place j of k, where it has one
unfoldable pub base_at : List ℕ → List ℕ → ℕ → ℕ → List ℕ → std.Option Span → Option Bytes
base_at e w k j v f = or_else (value_if e w k j) (found f v)

module _ (e w v : List ℕ) (k j : ℕ) (f : std.Option Span) where
  pub base_own : {x : Bytes} → j < k → x ≡ value_at e w j → some x ≡ base_at e w k j v f
  unfolding base_at value_if given or_else
  base_own h q = rw (lt-ltb j k h, q)

  -- without its own
  base_found : k ≤ j → found f v ≡ base_at e w k j v f
  unfolding base_at value_if given or_else
  base_found h = let none : ltb j k ≡ false = grind (arith, nat_tests) in rw none

  pub base_none : k ≤ j → f ≡ None → none ≡ base_at e w k j v f
  unfolding found
  base_none h q = let e : found f v ≡ none = rw q in sym e ∙ base_found h

  pub base_other : {x : Bytes} {s : Span} → k ≤ j → f ≡ Some s → x ≡ part v s.at s.len → some x ≡ base_at e w k j v f
  unfolding found
  base_other {s = s} h q p = let e : found f v ≡ some (part v s.at s.len) = rw q in rw p (sym e ∙ base_found h)

  -- j is the place of xml:base, f what is in force
  pub based : (rs : List ℕ) {g : std.Option Span} {o : Option Bytes} → o ≡ base_at e w k j v f → j ≡ first_in rs k xml_base → f ≡ g → o ≡ in_force e w v k rs g
  unfolding in_force base_at
  based rs b p t = rw (← p, ← t) b
