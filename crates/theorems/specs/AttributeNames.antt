-- Names of attributes: those that begin `xml`, declarations, and names whose prefix is known.
use Rattle.std.specs.Prelude.{◌≡◌, Bool, ◌||◌, List, [], ◌∷◌, ◌++◌, ℕ, eqb}
use Rattle.std.proofs.Math.Path.{refl}
use Rattle.std.proofs.Common.{sym, ◌∙◌, ap, inl}
use Rattle.std.proofs.Math.Logic.{inr}
use Rattle.std.proofs.Math.Bool.{true, false}
use Rattle.std.proofs.lemmas.Bool.{false≢true}
use Rattle.std.proofs.Math.Option.{Option, none, some, none-ne-some}
use Rattle.spec.specs.Bytes.{Bytes, ascii, when◌then◌else◌, same, begins, is_empty, is_some, each, All, ◌>>◌, require◌or◌}
use Rattle.spec.specs.Bytes as Y
use Rattle.spec.specs.Numbers.{Answer, good}
use Rattle.spec.specs.XmlNames.{prefix_of, local_of}
use Rattle.spec.specs.Pyx.{Attribute, attribute, opening}
use Rattle.spec.specs.Namespaces.{Binding, declared, is_declaration, name_of, is_known, namespace, joined, in_namespace, expand_attribute, expand_element, known_attribute}
use Rattle.spec.specs.Document.{Doc, in_scope, Place, outside, nodes, nodes_or_text, xml, properties, place_in}
use Rattle.spec.specs.StartTag.{judge, role_of, known, means, meaning, Tag, read_tag}
use Rattle.spec.specs.Productions.{Opened, open_node, open_property, open_root}
use Rattle.spec.specs.Xmp.{open_wrapper}
use Rattle.spec.specs.Opening.{Step, copy_element, open_element, open_in, on_opening}
use Rattle.spec.specs.RdfXml.{on_event, within, next}
use Rattle.spec.proofs.Booleans.{or_cases, or_right_lem, and_left, and_right, and_both, no_true}
use Rattle.spec.proofs.Bytes.{same_true}
use Rattle.theorems.specs.Always.{Always, always_bind, always_any, always_then, always_after, always_test, always_require, always_if, always_good}
use Rattle.theorems.specs.Rules.{Wrapping, wrapping}

-- ---- names that begin `xml`

begins-part : (p q n : Bytes) → begins (p ++ q) n ≡ true → begins p n ≡ true
unfolding begins
begins-part [] q n h = refl
begins-part (a ∷ p) q [] h = absurd (false≢true h)
begins-part (a ∷ p) q (b ∷ n) h = and_both (eqb a b) (begins p n) (and_left (eqb a b) (begins (p ++ q) n) h) (begins-part p q n (and_right (eqb a b) (begins (p ++ q) n) h))

-- a name that is written so begins `xml`
pub named_xml : (n m : Bytes) → begins (ascii "xml") m ≡ true → same n m ≡ true → begins (ascii "xml") n ≡ true
named_xml n m h e = rw (same_true n m e) h

-- a declaration begins `xml`, and is neither xml:lang nor xml:base
pub declaration_xml : (n v : Bytes) → is_declaration (attribute n v) ≡ true → begins (ascii "xml") n ≡ true
unfolding is_declaration ascii
declaration_xml n v h = elim (or_cases (same n (ascii "xmlns")) _ h) [ inl e ↦ named_xml n (ascii "xmlns") (unfold begins in refl) e | inr e ↦ begins-part (ascii "xml") (ascii "ns:") n e ]

pub declaration_not : (n v m : Bytes) → is_declaration (attribute n v) ≡ true → is_declaration (attribute m v) ≡ false
    → same n m ≡ false
declaration_not n v m h k = no_true (same n m) λ e. false≢true (sym k ∙ (ap (λ (x : Bytes). is_declaration (attribute x v)) (sym (same_true n m e)) ∙ h))

-- ---- known prefixes

-- every prefix of a start tag is known
abbrev pub PrefixesKnown : List Binding → Bytes → List Attribute → Type 0
PrefixesKnown bs n as' = (is_known bs n ≡ true) × All (λ a. is_declaration a ≡ false → is_known bs (name_of a) ≡ true) as'

-- a start tag whose prefixes are known is not refused by 8 in Literal content
pub known_each : (bs : List Binding) (as' : List Attribute)
    → All (λ y. is_declaration y ≡ false → is_known bs (name_of y) ≡ true) as'
    → (us : List (Unit {0})) × (each (known_attribute bs) as' ≡ good us)
unfolding each known_attribute Y.◌>>=◌ require◌or◌
known_each bs [] k = ([], refl)
known_each bs (y ∷ as') k =
    let r : (us : List (Unit {0})) × (each (known_attribute bs) as' ≡ good us) = known_each bs as' k.1 in
    (tt ∷ r.0, rw (go (is_declaration y) (is_known bs (name_of y)) k.0, r.1))
  where
    go : (a b : Bool) → (a ≡ false → b ≡ true) → (a || b) ≡ true
    go true b h = refl
    go false b h = h refl

-- a name that can be expanded has a known prefix
expanded_known : (bs : List Binding) (n i : Bytes) → expand_attribute bs n ≡ some i → is_known bs n ≡ true
unfolding expand_attribute is_known joined is_some when◌then◌else◌
expanded_known bs n i h = go (is_empty (prefix_of n)) (namespace bs (prefix_of n)) h
  where
    go : (b : Bool) (o : Option Bytes) → (when b then some n else joined o (local_of n)) ≡ some i → (b || is_some o) ≡ true
    go true o h = refl
    go false none h = absurd (none-ne-some i h)
    go false (some ns) h = refl

module _ (bs : List Binding) where
  attribute_known : (a : Attribute)
      → Always (λ m. is_declaration a ≡ false → is_known bs (name_of a) ≡ true) (meaning bs a)
  unfolding meaning known name_of Y.◌>>=◌
  attribute_known (attribute n v) =
      always_if (λ m. is_declaration (attribute n v) ≡ false → is_known bs n ≡ true) _ _ _ (λ e f. absurd (false≢true (sym f ∙ e))) λ e.
      go (expand_attribute bs n) refl
    where
      go : (o : Option Bytes) → expand_attribute bs n ≡ o
          → Always (λ m. is_declaration (attribute n v) ≡ false → is_known bs n ≡ true)
          (Y.◌>>=◌ (known n o) λ i. judge (role_of n i) v >> good (means (role_of n i) i v))
      go none e = tt
      go (some i) e = always_any (λ m. is_declaration (attribute n v) ≡ false → is_known bs n ≡ true) (known n (some i)) _ λ j. always_after _ _ _ λ f. expanded_known bs n i e

  copied_known : (a : Attribute)
      → Always (λ u. is_declaration a ≡ false → is_known bs (name_of a) ≡ true) (known_attribute bs a)
  unfolding known_attribute
  copied_known a = always_test _ _ _ λ h f. go (is_declaration a) (is_known bs (name_of a)) h f
    where
      go : (x y : Bool) → (x || y) ≡ true → x ≡ false → y ≡ true
      go true y h f = absurd (false≢true (sym f))
      go false y h f = h

  element_known : (n : Bytes) → Always (λ i. is_known bs n ≡ true) (expand_element bs n)
  unfolding expand_element in_namespace is_known is_some
  element_known n = go (namespace bs (prefix_of n))
    where
      go : (o : Option Bytes) → Always (λ i. (is_empty (prefix_of n) || is_some o) ≡ true) (in_namespace o (local_of n))
      go none = tt
      go (some ns) = always_after _ _ _ (or_right_lem (is_empty (prefix_of n)) true refl)

-- what holds of each that a row of checks passes
each_passes : {A B : Type 0} (R : A → Type 0) (f : A → Answer B) → ((a : A) → Always (λ b. R a) (f a)) → (l : List A)
    → Always (λ bs. All R l) (each f l)
unfolding each
each_passes R f h [] = tt
each_passes R f h (a ∷ l) =
    always_bind (λ b. R a) (λ bs. R a × All R l) _ _ (h a) λ b r.
    always_bind (λ bs. All R l) (λ bs. R a × All R l) _ _ (each_passes R f h l) λ bs q. (r, q)

module _ (n : Bytes) (as' : List Attribute) (d : Doc) where
  abbrev All-known : {A : Type 0} → A → Type 0
  All-known x = PrefixesKnown (declared as' ++ in_scope d.frames) n as'

  opened_known : (production : Tag → ℕ → Answer Opened) → Always All-known (open_element production n as' d)
  unfolding open_element read_tag
  opened_known production =
      always_bind All-known All-known _ _
      (always_bind (λ i. is_known (declared as' ++ in_scope d.frames) n ≡ true) All-known _ _ (element_known _ n) λ i e.
      always_bind (λ ms. All (λ a. is_declaration a ≡ false → is_known (declared as' ++ in_scope d.frames) (name_of a) ≡ true) as') All-known _ _
      (each_passes _ _ (attribute_known _) as') λ ms k.
      always_any All-known _ _ λ id'. always_after All-known _ _
      (always_any All-known _ _ λ about'. always_any All-known _ _ λ resource'. always_any All-known _ _ λ datatype'. always_any All-known _ _ λ type'. (e, k)))
      λ t k. always_any All-known _ _ λ o. always_after All-known _ _ k

  copied-attributes : Always (λ us. All (λ a. is_declaration a ≡ false → is_known (declared as' ++ in_scope d.frames) (name_of a) ≡ true) as')
      (each (known_attribute (declared as' ++ in_scope d.frames)) as')
  copied-attributes = each_passes _ _ (copied_known _) as'

  copied_all : Always All-known (copy_element n as' d)
  unfolding copy_element
  copied_all = always_require All-known _ _ _ λ e. always_then _ All-known _ _ copied-attributes λ us k. (e, k)

  wrapped_all : Wrapping d.mode.xmp n as' d.frames → Always All-known (open_wrapper n as' d)
  unfolding open_wrapper
  wrapped_all w =
      always_then _ All-known _ _ copied-attributes λ us k.
      always_after All-known _ _ (always_good (λ i. is_known (declared as' ++ in_scope d.frames) n ≡ true) (element_known _ n) w.expands, k)

  opened_in : (p : Place) → Always All-known (open_in p n as' d)
  unfolding open_in
  opened_in outside =
      always_if All-known _ _ _ (λ w. wrapped_all (wrapping d.mode.xmp n as' d.frames w)) λ w. opened_known open_root
  opened_in nodes = opened_known open_node
  opened_in nodes_or_text = opened_known open_node
  opened_in (properties s li) = opened_known λ t. open_property t s li
  opened_in xml = copied_all

  -- a start tag that is accepted has no unknown prefix
  pub accepted_known : (s : Step) → next (opening n as') d ≡ good s
      → PrefixesKnown (declared as' ++ in_scope d.frames) n as'
  unfolding next on_event on_opening within
  accepted_known s h =
      always_good All-known
      (always_bind All-known All-known _ _ (always_after All-known _ _ (always_after All-known _ _ (opened_in (place_in d.frames)))) λ t k. always_after All-known _ _ k)
      h
