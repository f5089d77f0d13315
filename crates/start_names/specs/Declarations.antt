-- Declarations: which attributes they are, what they bind, and whether that is legal.
use Rattle.std.specs.Prelude.{◌≡◌, Bool, ◌&&◌, ◌||◌, not, ℕ, suc, ◌+◌, ◌-◌, ◌<◌, ◌≤◌, eqb}
use Rattle.std.proofs.Math.Path.{refl, sym, ap}
use Rattle.std.proofs.Common.{◌∙◌, ne_eqb}
use Rattle.std.proofs.Math.Bool.{true, false}
use mathlib.Core.List.{List, [], ◌∷◌, ◌++◌, map}
use native.Mathlib.Omega.{arith}
use Rattle.std.proofs.Math.ListN.{length}
use Rattle.spec.specs.Bytes.{Bytes, ascii, when◌then◌else◌, same, begins, after, those, is_empty}
use Rattle.spec.specs.Pyx.{Attribute, attribute}
use Rattle.spec.specs.Namespaces.{is_declaration, declares, declared, is_legal, all_legal, xml_name, xmlns_name}
use Rattle.copy.specs.Texts.{after_drop}
use Rattle.start_names.specs.Tag.{back_of, attribute_at, name_at, value_at, attributes_from, attributes_of, attributes_all, attributes_more, attributes_end, last_of}

-- ---- the tests of `is_declaration`

module _ (n : Bytes) where
  pub plainly : same n (ascii "xmlns") ≡ true → true ≡ is_declaration (attribute n [])
  unfolding is_declaration
  plainly h = rw h

  pub begins_decides : same n (ascii "xmlns") ≡ false → begins (ascii "xmlns:") n ≡ is_declaration (attribute n [])
  unfolding is_declaration
  begins_decides h = rw h

  -- whatever its value
  pub declaration_of : (v : Bytes) → is_declaration (attribute n v) ≡ is_declaration (attribute n [])
  unfolding is_declaration
  declaration_of v = refl

  pub declares_after : back_of 6 n ≡ after (ascii "xmlns:") n
  unfolding back_of ascii
  declares_after = sym (after_drop (ascii "xmlns:") n)

-- ---- empty texts

pub is_empty_lem : (s : Bytes) → length s ≡ 0 → is_empty s ≡ true
unfolding is_empty
is_empty_lem [] h = refl
is_empty_lem (b ∷ s) h = absurd (omega arith)

pub not_empty : (s : Bytes) → (length s ≡ 0 → ⊥) → is_empty s ≡ false
unfolding is_empty
not_empty [] h = absurd (h refl)
not_empty (b ∷ s) h = refl

pub no_bytes : (s : Bytes) → eqb (length s) 0 ≡ is_empty s
unfolding is_empty
no_bytes [] = refl
no_bytes (b ∷ s) = ne_eqb (suc (length s)) 0 (λ (h : suc (length s) ≡ 0). omega arith)

-- ---- the tests of `is_legal`

module _ (p ns : Bytes) where
  pub of_xml : same p (ascii "xml") ≡ true → same ns xml_name ≡ is_legal (p, ns)
  unfolding is_legal when◌then◌else◌
  of_xml h = rw h

  module _ (x : same p (ascii "xml") ≡ false) where
    pub of_xmlns : same p (ascii "xmlns") ≡ true → false ≡ is_legal (p, ns)
    unfolding is_legal when◌then◌else◌
    of_xmlns h = rw (x, h)

    module _ (y : same p (ascii "xmlns") ≡ false) where
      pub as_xml : same ns xml_name ≡ true → false ≡ is_legal (p, ns)
      unfolding is_legal when◌then◌else◌
      as_xml h = rw (x, y, h)

      module _ (z : same ns xml_name ≡ false) where
        pub as_xmlns : same ns xmlns_name ≡ true → false ≡ is_legal (p, ns)
        unfolding is_legal when◌then◌else◌
        as_xmlns h = rw (x, y, z, h)

        module _ (u : same ns xmlns_name ≡ false) where
          left : (is_empty p || not (is_empty ns)) ≡ is_legal (p, ns)
          unfolding is_legal when◌then◌else◌
          left = rw (x, y, z, u)

          pub default_any : length p ≡ 0 → true ≡ is_legal (p, ns)
          default_any h = rw (is_empty_lem p h) at left

          pub prefix_some : (length p ≡ 0 → ⊥) → not (eqb (length ns) 0) ≡ is_legal (p, ns)
          prefix_some h = rw (no_bytes ns) (rw (not_empty p h) at left)

-- ---- one attribute: does it bind the prefix p; is it legal, where it is a declaration; how many bindings it declares

unfoldable pub binds_to : Bytes → Attribute → Bool
binds_to p a = is_declaration a && same p (declares a).0

unfoldable pub legal : Attribute → Bool
legal a = when is_declaration a then is_legal (declares a) else true

unfoldable pub bindings_in : Attribute → ℕ
bindings_in a = when is_declaration a then 1 else 0

module _ (e w : List ℕ) (j : ℕ) where
  -- what `is_declaration` says of the name of attribute j
  pub told : {n : Bytes} {r t : Bool} → n ≡ name_at e w j → r ≡ is_declaration (attribute n []) → r ≡ t → is_declaration (attribute_at e w j) ≡ t
  unfolding attribute_at is_declaration
  told p q h = rw (← h, q, p)

  module _ (h : is_declaration (attribute_at e w j) ≡ false) where
    pub legal-other : true ≡ legal (attribute_at e w j)
    unfolding legal when◌then◌else◌
    legal-other = rw h

    pub no_binding : 0 ≡ bindings_in (attribute_at e w j)
    unfolding bindings_in when◌then◌else◌
    no_binding = rw h

    pub binds_none : (p : Bytes) → false ≡ binds_to p (attribute_at e w j)
    unfolding binds_to
    binds_none p = rw h

  module _ (h : is_declaration (attribute_at e w j) ≡ true) where
    pub one_binding : 1 ≡ bindings_in (attribute_at e w j)
    unfolding bindings_in when◌then◌else◌
    one_binding = rw h

    -- n is its name, d what it binds, v its value
    module _ {n d : Bytes} (p : n ≡ name_at e w j) (q : d ≡ after (ascii "xmlns:") n) where
      -- what it declares
      pub binding : {v : Bytes} → v ≡ value_at e w j → (d, v) ≡ declares (attribute_at e w j)
      unfolding declares attribute_at
      binding r = rw (q, p, r)

      pub legal-declared : {v : Bytes} → v ≡ value_at e w j → is_legal (d, v) ≡ legal (attribute_at e w j)
      unfolding legal when◌then◌else◌
      legal-declared r = rw (h, binding r)

      pub binds_declared : (o : Bytes) → same o d ≡ binds_to o (attribute_at e w j)
      unfolding binds_to
      binds_declared o = rw (h, ← binding refl)

module _ (a : Attribute) (as' : List Attribute) where
  all_legal_more : all_legal (declared (a ∷ as')) ≡ (legal a && all_legal (declared as'))
  unfolding declared those all_legal legal when◌then◌else◌
  all_legal_more = go (is_declaration a)
    where
      go : (t : Bool) → all_legal (map declares (when t then (a ∷ those is_declaration as') else those is_declaration as')) ≡ ((when t then is_legal (declares a) else true) && all_legal (declared as'))
      go true = refl
      go false = refl

  pub declared_more : length (declared (a ∷ as')) ≡ bindings_in a + length (declared as')
  unfolding declared those bindings_in when◌then◌else◌
  declared_more = go (is_declaration a)
    where
      go : (t : Bool) → length (map declares (when t then (a ∷ those is_declaration as') else those is_declaration as')) ≡ (when t then 1 else 0) + length (declared as')
      go true = omega arith
      go false = omega arith

-- ---- the loop of `all_legal`: the first j attributes are legal

pub record Legal (e w : List ℕ) (k j : ℕ) : Type 0 where
  pub upto : j ≤ k
  pub rest : all_legal (declared (attributes_of e w k)) ≡ all_legal (declared (attributes_from e w j (k - j)))

pub legal-begins : {e w : List ℕ} {k : ℕ} → Legal e w k 0
legal-begins {e} {w} {k} = record { upto = omega arith; rest = ap (λ (x : List Attribute). all_legal (declared x)) (attributes_all e w k) }

module _ {e w : List ℕ} {k j : ℕ} (h : Legal e w k j) where
  here : j < k → all_legal (declared (attributes_of e w k)) ≡ (legal (attribute_at e w j) && all_legal (declared (attributes_from e w (j + 1) (k - (j + 1)))))
  here l = h.rest ∙ rw (attributes_more e w k j l) (all_legal_more (attribute_at e w j) (attributes_from e w (j + 1) (k - (j + 1))))

  pub legal_stop : j < k → legal (attribute_at e w j) ≡ false → false ≡ all_legal (declared (attributes_of e w k))
  legal_stop l b = sym (here l ∙ rw b)

  pub legal_more : j < k → legal (attribute_at e w j) ≡ true → Legal e w k (j + 1)
  legal_more l b = record { upto = omega arith; rest = here l ∙ rw b }

  pub legal_done : k ≤ j → true ≡ all_legal (declared (attributes_of e w k))
  unfolding declared those all_legal
  legal_done l = sym (h.rest ∙ rw (attributes_end e w k j l))

-- ---- the loop of `count_declared`: n of the first j attributes are declarations

pub record Counted (e w : List ℕ) (k j n : ℕ) : Type 0 where
  pub upto : j ≤ k
  pub few : n ≤ j
  pub rest : length (declared (attributes_of e w k)) ≡ n + length (declared (attributes_from e w j (k - j)))

pub counted-begins : {e w : List ℕ} {k : ℕ} → Counted e w k 0 0
counted-begins {e} {w} {k} =
    record { upto = omega arith; few = omega arith; rest = omega (arith, ap (λ (x : List Attribute). length (declared x)) (attributes_all e w k)) }

pub at_most_one : (a : Attribute) → bindings_in a ≤ 1
unfolding bindings_in when◌then◌else◌
at_most_one a = go (is_declaration a)
  where
    go : (t : Bool) → (when t then 1 else 0) ≤ 1
    go true = omega arith
    go false = omega arith

module _ {e w : List ℕ} {k j n : ℕ} (h : Counted e w k j n) where
  pub counted_more : {m : ℕ} → j < k → m ≡ bindings_in (attribute_at e w j) → Counted e w k (j + 1) (n + m)
  counted_more {m} l q =
      let s = declared_more (attribute_at e w j) (attributes_from e w (j + 1) (k - (j + 1))) in
      let t = ap (λ (x : List Attribute). length (declared x)) (attributes_more e w k j l) in
      let one = at_most_one (attribute_at e w j) in
      record { upto = omega arith; few = omega arith; rest = omega arith }

  pub counted_done : k ≤ j → n ≡ length (declared (attributes_of e w k))
  unfolding declared those
  counted_done l = let t = ap (λ (x : List Attribute). length (declared x)) (attributes_end e w k j l) in omega arith

-- ---- the loop of `declaring`: from attribute i on there is no declaration

none_more : (as' : List Attribute) (a : Attribute) → is_declaration a ≡ false → declared (as' ++ (a ∷ [])) ≡ declared as'
unfolding declared those when◌then◌else◌
none_more [] a h = rw h
none_more (b ∷ as') a h = go (is_declaration b) (none_more as' a h)
  where
    go : (t : Bool) → map declares (those is_declaration (as' ++ (a ∷ []))) ≡ map declares (those is_declaration as')
        → map declares (when t then (b ∷ those is_declaration (as' ++ (a ∷ []))) else those is_declaration (as' ++ (a ∷ []))) ≡ map declares (when t then (b ∷ those is_declaration as') else those is_declaration as')
    go true r = ap (declares b ∷◌) r
    go false r = r

pub none_behind : (e w : List ℕ) (k i j : ℕ) → i ≡ j + 1 → is_declaration (attribute_at e w j) ≡ false
    → declared (attributes_of e w i) ≡ declared (attributes_of e w k) → declared (attributes_of e w j) ≡ declared (attributes_of e w k)
none_behind e w k i j s h r =
    let t : i ≡ suc j = omega arith in
    sym (none_more (attributes_of e w j) (attribute_at e w j) h) ∙ (ap declared (sym (last_of e w j)) ∙ (ap (λ (x : ℕ). declared (attributes_of e w x)) (sym t) ∙ r))

pub none_left : (e w : List ℕ) (k i : ℕ) → i ≡ 0 → declared (attributes_of e w i) ≡ declared (attributes_of e w k) → declared (attributes_of e w 0) ≡ declared (attributes_of e w k)
none_left e w k i z r = ap (λ (x : ℕ). declared (attributes_of e w x)) (sym z) ∙ r
