-- Expanded names of at most 1,024 bytes.
use Rattle.std.specs.Prelude.{◌≡◌, refl, Bool, true, ◌&&◌, List, [], ◌∷◌, ◌++◌, eqb, leb, length}
use Rattle.std.proofs.Math.Path.{sym}
use Rattle.std.proofs.Common.{◌∙◌, arith, eq-eqb, ne_eqb}
use Prim.Native.Nat.{ℕ, zero, suc, ◌+◌, ◌<◌, ◌≤◌}
use Rattle.spec.specs.Bytes.{Bytes, when◌then◌else◌, those, present, every}
use Rattle.spec.specs.Limits.{most_name_bytes}
use Rattle.spec.specs.XmlNames.{prefix_of, local_of}
use Rattle.spec.specs.Pyx.{Attribute, attribute}
use Rattle.spec.specs.Namespaces.{Binding, name_of, xml_name, joined, expand_attribute, expanded_names}
use Rattle.spec.specs.StartTag.{all_short}
use Rattle.start_names.specs.declared.Class.{Class}
use Rattle.start_names.specs.declared.Class.TheVariants.{Declaration, Unknown, Unprefixed, Xml, Own, Held}
use Rattle.start_names.specs.Tag.{name_at, value_at, attribute_at, attributes_from, attributes_of, Splits}
use Rattle.start_names.specs.Found.{scope}
use Rattle.start_names.specs.Classes.{Says, class_at, kind_of, text_by, text_at, Classified, space_by, tail_at, two_parts}
use Rattle.start_attributes.specs.Places.{places}

-- of a name whose expanded name is i, where it has one
unfoldable pub short_by : Class → Bytes → Bool
short_by c i = when eqb (kind_of c) 2 then leb (length i) most_name_bytes else true

unfoldable pub short_at : List ℕ → List ℕ → List ℕ → List ℕ → ℕ → Bool
short_at e w v cs j = short_by (class_at cs j) (text_at e w v (class_at cs j) j)

-- ---- the tests of `is_short`, by the kind m of class c

pub short_written : (c : Class) (i : Bytes) {m : ℕ} → m ≡ kind_of c → (m ≡ 2 → ⊥) → true ≡ short_by c i
unfolding short_by when◌then◌else◌
short_written c i p h = rw (ne_eqb (kind_of c) 2 (λ z. h (p ∙ z)))

-- its expanded name is in two parts
pub short_expanded : (e w v : List ℕ) (j : ℕ) (c : Class) {m : ℕ} {s n : Bytes} {r : Bool} → m ≡ kind_of c → m ≡ 2 → s ≡ space_by e v xml_name c → n ≡ tail_at e w c j
    → r ≡ leb (length (s ++ n)) most_name_bytes → r ≡ short_by c (text_at e w v c j)
unfolding short_by when◌then◌else◌
short_expanded e w v j c p h x y q = q ∙ rw (x, y, eq-eqb (kind_of c) 2 (sym p ∙ h), two_parts e w v c j)

-- the test of `names_short`: c is the class that was loaded
pub short_test : (e w v cs : List ℕ) (j : ℕ) {c : Class} {r : Bool} → c ≡ class_at cs j → r ≡ short_by c (text_at e w v c j) → short_at e w v cs j ≡ r
unfolding short_at
short_test e w v cs j p h = rw (← p) (sym h)

-- ---- a class tells whether the definition's name is short

module _ (e v : List ℕ) (bs : List Binding) (a : Attribute) (as' : List Attribute) {p l : Bytes} where
  short_by_lem : (c : Class) → Says c e v bs a p → p ≡ prefix_of (name_of a) → l ≡ local_of (name_of a)
      → all_short (expanded_names bs (a ∷ as')) ≡ (short_by c (text_by e v (name_of a) l c) && all_short (expanded_names bs as'))
  unfolding expanded_names those present all_short short_by text_by expand_attribute joined when◌then◌else◌
  short_by_lem Declaration h q r = rw h
  short_by_lem Unknown h q r = rw (h.other, ← q, h.some, h.is)
  short_by_lem Unprefixed h q r = rw (h.0, ← q, h.1)
  short_by_lem Xml h q r = rw (h.other, ← q, h.some, h.is, r)
  short_by_lem (Own at n) h q r = rw (h.other, ← q, h.some, h.is, r)
  short_by_lem (Held at n) h q r = rw (h.other, ← q, h.some, h.is, r)

no_names : (bs : List Binding) → true ≡ all_short (expanded_names bs [])
unfolding expanded_names those present all_short
no_names bs = refl

module _ {e w : List ℕ} {k : ℕ} {v bs : List ℕ} {n : ℕ} {cs : List ℕ} (h : Classified e w k v bs n cs k) (s : Splits e w k) where
  short_at_lem : (j : ℕ) (as' : List Attribute) → j < k
      → all_short (expanded_names (scope e w k v bs n) (attribute_at e w j ∷ as')) ≡ (short_at e w v cs j && all_short (expanded_names (scope e w k v bs n) as'))
  unfolding attribute_at name_of short_at text_at
  short_at_lem j as' l =
      short_by_lem e v (scope e w k v bs n) (attribute (name_at e w j) (value_at e w j)) as' (class_at cs j) (h.each j l) (s.at j l).front (s.at j l).back

  short_from : (j m : ℕ) → j + m ≤ k → every (short_at e w v cs) (places j m) ≡ all_short (expanded_names (scope e w k v bs n) (attributes_from e w j m))
  unfolding places every attributes_from
  short_from j zero b = no_names (scope e w k v bs n)
  short_from j (suc m) b = rw (short_from (suc j) m (omega arith)) (sym (short_at_lem j (attributes_from e w (suc j) m) (omega arith)))

  -- what `names_short` tells
  pub short_means : every (short_at e w v cs) (places 0 k) ≡ all_short (expanded_names (scope e w k v bs n) (attributes_of e w k))
  short_means = short_from 0 k (omega arith)
