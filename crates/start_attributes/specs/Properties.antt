-- The property attributes in written order, each with its namespace and its local name.
use Rattle.std.specs.Prelude.{◌≡◌, Bool, List, [], ◌∷◌, ◌++◌, map, get_or}
use Rattle.std.proofs.Math.Path.{refl}
use Rattle.std.proofs.Common.{sym, ◌∙◌}
use Rattle.std.proofs.Math.Bool.{true, false}
use Rattle.std.proofs.lemmas.Bool.{false≢true}
use Rattle.std.proofs.Math.Option.{some}
use Prim.Native.Nat.{ℕ, zero, suc, ◌+◌, ◌-◌, ◌<◌, ◌≤◌}
use Rattle.std.proofs.Math.Numerals.{add-one}
use native.Mathlib.Omega.{arith}
use Rattle.std.proofs.Math.Dec.{eqb}
use borrow.Author.Tests.{eq-eqb, ne_eqb, eqb-true}
use Rattle.spec.specs.Bytes.{Bytes, ascii, when◌then◌else◌, same, begins, ◌>>◌, require◌or◌}
use Rattle.spec.specs.Numbers.{good}
use Rattle.spec.specs.Pyx.{Attribute, attribute}
use Rattle.spec.specs.Namespaces.{Binding, name_of, xml_name, joined, expand_attribute}
use Rattle.spec.specs.StartTag.{property, role_number, same_role, role_of, property_attributes}
use Rattle.start_names.specs.declared.Class.{Class}
use Rattle.start_names.specs.declared.Class.TheVariants.{Declaration, Unknown, Unprefixed, Xml, Own, Held}
use Rattle.start_names.specs.Tag.{name_at, value_at, colon_at, front_of, back_of, attribute_at, Split, Splits}
use Rattle.start_names.specs.Found.{scope}
use Rattle.start_names.specs.Classes.{Prefixed, Says, class_at, text_by, text_at, Classified, space_by}
use Rattle.start_attributes.specs.Places.{places}
use Rattle.start_attributes.specs.Attributes.{known_by, role_by, role_at, check_by, check_at, meant_at}
use Rattle.start_attributes.specs.Reads.{meanings_of, Roles}
use Rattle.start_attributes.specs.First.{turned}

-- attribute j in two parts: its namespace and its local name
abbrev pub space_at : List ℕ → List ℕ → List ℕ → ℕ → Bytes
space_at e v cs j = space_by e v xml_name (class_at cs j)

abbrev pub local_at : List ℕ → List ℕ → ℕ → Bytes
local_at e w j = back_of (colon_at w j) (name_at e w j)

-- does a class tell a namespace?
abbrev pub has_space : Class → Bool
has_space Declaration = false
has_space Unknown = false
has_space Unprefixed = false
has_space Xml = true
has_space (Own at n) = true
has_space (Held at n) = true

-- then the two parts are the expanded name
pub space_local : (e w v : List ℕ) (c : Class) (j : ℕ) → has_space c ≡ true → text_at e w v c j ≡ space_by e v xml_name c ++ local_at e w j
unfolding text_at text_by
space_local e w v Declaration j h = absurd (false≢true h)
space_local e w v Unknown j h = absurd (false≢true h)
space_local e w v Unprefixed j h = absurd (false≢true h)
space_local e w v Xml j h = refl
space_local e w v (Own at n) j h = refl
space_local e w v (Held at n) j h = refl

prefixed : (bs : List Binding) (a : Attribute) {c : ℕ} {x : Bytes} → Split c (name_of a) → Prefixed bs a (front_of c (name_of a)) (some x)
    → expand_attribute bs (name_of a) ≡ some (x ++ back_of c (name_of a))
unfolding expand_attribute joined when◌then◌else◌
prefixed bs a s y = rw (← s.front, y.some, y.is, s.back)

-- what the definitions expand such a name to
pub space_expands : {e w : List ℕ} {k : ℕ} {v bs : List ℕ} {n : ℕ} {cs : List ℕ} → Classified e w k v bs n cs k → Splits e w k
    → (j : ℕ) → j < k → has_space (class_at cs j) ≡ true → expand_attribute (scope e w k v bs n) (name_at e w j) ≡ some (space_at e v cs j ++ local_at e w j)
unfolding attribute_at name_of
space_expands {e} {w} {k} {v} {bs} {n} {cs} h s j l q = go (class_at cs j) (h.each j l) q
  where
    go : (c : Class) → Says c e v (scope e w k v bs n) (attribute_at e w j) (front_of (colon_at w j) (name_at e w j)) → has_space c ≡ true
        → expand_attribute (scope e w k v bs n) (name_at e w j) ≡ some (space_by e v xml_name c ++ local_at e w j)
    go Declaration y b = absurd (false≢true b)
    go Unknown y b = absurd (false≢true b)
    go Unprefixed y b = absurd (false≢true b)
    go Xml y b = prefixed (scope e w k v bs n) (attribute (name_at e w j) (value_at e w j)) (s.at j l) y
    go (Own at m) y b = prefixed (scope e w k v bs n) (attribute (name_at e w j) (value_at e w j)) (s.at j l) y
    go (Held at m) y b = prefixed (scope e w k v bs n) (attribute (name_at e w j) (value_at e w j)) (s.at j l) y

-- ---- a property has a namespace

-- a name that begins `xml` is none
begins_xml : (n i : Bytes) → begins (ascii "xml") n ≡ true → role_number (role_of n i) < 3
unfolding role_of role_number when◌then◌else◌
begins_xml n i h = go (same n (ascii "xml:lang")) refl (same n (ascii "xml:base")) refl
  where
    go : (s : Bool) → same n (ascii "xml:lang") ≡ s → (t : Bool) → same n (ascii "xml:base") ≡ t → role_number (role_of n i) < 3
    go true p t q = rw p (omega arith)
    go false p true q = rw (p, q) (omega arith)
    go false p false q = rw (p, q, h) (omega arith)

property-space : (e w v : List ℕ) (c : Class) (j : ℕ) → check_at e w v c j ≡ good tt → role_number (role_at e w v c j) ≡ role_number property → has_space c ≡ true
unfolding check_at check_by known_by role_at role_by role_number ◌>>◌ require◌or◌
property-space e w v Declaration j f h = absurd (omega arith)
property-space e w v Unknown j f h = absurd (omega arith)
property-space e w v Unprefixed j f h = go (begins (ascii "xml") (name_at e w j)) refl
  where
    go : (t : Bool) → begins (ascii "xml") (name_at e w j) ≡ t → false ≡ true
    go true b = absurd (omega (arith, begins_xml (name_at e w j) (text_at e w v Unprefixed j) b))
    go false b = absurd (let z : ◌≡◌ {A = ℕ} 0 1 = cc (rw b at f) in omega arith)
property-space e w v Xml j f h = refl
property-space e w v (Own at n) j f h = refl
property-space e w v (Held at n) j f h = refl

-- ---- those of m attributes from j on, that have the role's number

unfoldable pub properties_from : List ℕ → List ℕ → List ℕ → List ℕ → List ℕ → ℕ → ℕ → List (Bytes × Bytes)
properties_from e w v cs rs j zero = []
properties_from e w v cs rs j (suc m) =
    when eqb (get_or rs j 0) (role_number property) then ((space_at e v cs j ++ local_at e w j, value_at e w j) ∷ properties_from e w v cs rs (suc j) m) else properties_from e w v cs rs (suc j) m

module _ {e w v cs rs : List ℕ} {k : ℕ} (h : Roles e w v cs rs k) where
  -- the expanded name of a property, as a line is given it
  pub property-name : (j : ℕ) → j < k → get_or rs j 0 ≡ role_number property → text_at e w v (class_at cs j) j ≡ space_at e v cs j ++ local_at e w j
  property-name j l q = space_local e w v (class_at cs j) j (property-space e w v (class_at cs j) j (h.fine j l) (sym (h.number j l) ∙ q))

  from_places : (j m : ℕ) → j + m ≤ k → property_attributes (map (meant_at e w v cs) (places j m)) ≡ properties_from e w v cs rs j m
  unfolding places properties_from property_attributes meant_at same_role when◌then◌else◌
  from_places j zero b = refl
  from_places j (suc m) b = go (eqb (get_or rs j 0) (role_number property)) refl (from_places (suc j) m (omega arith))
    where
      go : (t : Bool) → eqb (get_or rs j 0) (role_number property) ≡ t → property_attributes (map (meant_at e w v cs) (places (suc j) m)) ≡ properties_from e w v cs rs (suc j) m
          → property_attributes (map (meant_at e w v cs) (places j (suc m))) ≡ properties_from e w v cs rs j (suc m)
      go true q more =
          rw (q, turned _ (role_number property) true (rw (h.number j (omega arith)) at q), property-name j (omega arith) (eqb-true (get_or rs j 0) (role_number property) q), more)
      go false q more = rw (q, turned _ (role_number property) false (rw (h.number j (omega arith)) at q)) more

  pub properties : property_attributes (meanings_of e w v cs k) ≡ properties_from e w v cs rs 0 k
  unfolding meanings_of
  properties = from_places 0 k (omega arith)

-- for a loop that has come to attribute j of k
module _ (e w v cs rs : List ℕ) (k j : ℕ) where
  abbrev rest : ℕ → List (Bytes × Bytes)
  rest i = properties_from e w v cs rs i (k - i)

  pub property_here : j < k → get_or rs j 0 ≡ role_number property → rest j ≡ (space_at e v cs j ++ local_at e w j, value_at e w j) ∷ rest (j + 1)
  unfolding properties_from when◌then◌else◌
  property_here l q = let s : k - j ≡ suc (k - (j + 1)) = omega arith in rw (s, eq-eqb (get_or rs j 0) (role_number property) q, add-one j)

  pub other_here : j < k → (get_or rs j 0 ≡ role_number property → ⊥) → rest j ≡ rest (j + 1)
  unfolding properties_from when◌then◌else◌
  other_here l q = let s : k - j ≡ suc (k - (j + 1)) = omega arith in rw (s, ne_eqb (get_or rs j 0) (role_number property) q, add-one j)

  pub properties_end : k ≤ j → rest j ≡ []
  unfolding properties_from
  properties_end l = let z : k - j ≡ 0 = omega arith in rw z
