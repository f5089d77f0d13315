-- An attribute by the class of its name: what it is there for, and what is wrong with it.
use Rattle.std.specs.Prelude.{◌≡◌, refl, Bool, true, false, List, [], ◌++◌, ℕ, ◌<◌}
use Rattle.std.proofs.Common.{◌⊎◌, inl, inr, sym, ◌∙◌, append-nil}
use Rattle.spec.specs.Bytes.{Bytes, ascii, when◌then◌else◌, begins, ◌>>=◌, ◌>>◌, require◌or◌}
use Rattle.spec.specs.Numbers.{Answer, refuse, good}
use Rattle.spec.specs.declared.Refusal.TheVariants.{NoNamespace}
use Rattle.spec.specs.XmlNames.{prefix_of, local_of}
use Rattle.spec.specs.Pyx.{attribute}
use Rattle.spec.specs.Namespaces.{Binding, xml_name, joined, expand_attribute}
use Rattle.copy.specs.Copy.{part}
use Rattle.spec.specs.StartTag.{Role, nothing, role_of, judge, known, Meaning, means, meaning}
use Rattle.start_names.specs.declared.Class.{Class}
use Rattle.start_names.specs.declared.Class.TheVariants.{Declaration, Unknown, Unprefixed, Xml, Own, Held}
use Rattle.start_names.specs.Tag.{name_at, value_at, colon_at, back_of, attribute_at, Splits}
use Rattle.start_names.specs.Found.{scope}
use Rattle.start_names.specs.Classes.{Says, class_at, text_by, text_at, Classified}

-- ---- of a name n, whose expanded name is i, and a value x

-- has it a namespace, or needs it none? (8)
unfoldable pub known_by : Class → Bytes → Bool
known_by Declaration n = true
known_by Unknown n = false
known_by Unprefixed n = begins (ascii "xml") n
known_by Xml n = true
known_by (Own at m) n = true
known_by (Held at m) n = true

unfoldable pub role_by : Class → Bytes → Bytes → Role
role_by Declaration n i = nothing
role_by Unknown n i = nothing
role_by Unprefixed n i = role_of n i
role_by Xml n i = role_of n i
role_by (Own at m) n i = role_of n i
role_by (Held at m) n i = role_of n i

unfoldable pub check_by : Class → Bytes → Role → Bytes → Answer (Unit {0})
check_by c n r x = (require known_by c n or NoNamespace) >> judge r x

unfoldable pub meaning_by : Class → Bytes → Bytes → Bytes → Answer Meaning
meaning_by c n i x = check_by c n (role_by c n i) x >> good (means (role_by c n i) i x)

-- ---- of attribute j of a start tag

unfoldable pub role_at : List ℕ → List ℕ → List ℕ → Class → ℕ → Role
role_at e w v c j = role_by c (name_at e w j) (text_at e w v c j)

unfoldable pub check_at : List ℕ → List ℕ → List ℕ → Class → ℕ → Answer (Unit {0})
check_at e w v c j = check_by c (name_at e w j) (role_at e w v c j) (value_at e w j)

-- what it means where nothing is wrong with it
unfoldable pub meant_at : List ℕ → List ℕ → List ℕ → List ℕ → ℕ → Meaning
meant_at e w v cs j = means (role_at e w v (class_at cs j) j) (text_at e w v (class_at cs j) j) (value_at e w j)

unfoldable pub meaning_at : List ℕ → List ℕ → List ℕ → List ℕ → ℕ → Answer Meaning
meaning_at e w v cs j = check_at e w v (class_at cs j) j >> good (meant_at e w v cs j)

-- ---- a class gives the meaning of the definitions

unprefixed : (n x : Bytes) (t : Bool)
    → (((require t or NoNamespace) >> good n) >>= λ i. judge (role_of n i) x >> good (means (role_of n i) i x))
    ≡ (((require t or NoNamespace) >> judge (role_of n n) x) >> good (means (role_of n n) n x))
unfolding ◌>>=◌ ◌>>◌ require◌or◌
unprefixed n x true = refl
unprefixed n x false = refl

module _ (e v : List ℕ) (bs : List Binding) (n x : Bytes) {p l : Bytes} where
  pub meaning_by_lem : (c : Class) → Says c e v bs (attribute n x) p → p ≡ prefix_of n → l ≡ local_of n → meaning bs (attribute n x) ≡ meaning_by c n (text_by e v n l c) x
  unfolding meaning meaning_by check_by known_by role_by text_by known expand_attribute joined judge when◌then◌else◌ ◌>>=◌ ◌>>◌ require◌or◌
  meaning_by_lem Declaration h q r = rw h
  meaning_by_lem Unknown h q r = rw (h.other, ← q, h.some, h.is)
  meaning_by_lem Unprefixed h q r = rw (h.0, ← q, h.1, ← q, h.1) (unprefixed n x (begins (ascii "xml") n))
  meaning_by_lem Xml h q r = rw (h.other, ← q, h.some, h.is, ← q, h.some, r)
  meaning_by_lem (Own at m) h q r = rw (h.other, ← q, h.some, h.is, ← q, h.some, r)
  meaning_by_lem (Held at m) h q r = rw (h.other, ← q, h.some, h.is, ← q, h.some, r)

pub meaning_at_lem : {e w : List ℕ} {k : ℕ} {v bs : List ℕ} {n : ℕ} {cs : List ℕ} → Classified e w k v bs n cs k → Splits e w k
    → (j : ℕ) → j < k → meaning (scope e w k v bs n) (attribute_at e w j) ≡ meaning_at e w v cs j
unfolding attribute_at meaning_at meant_at check_at role_at text_at meaning_by
meaning_at_lem {e} {w} {k} {v} {bs} {n} {cs} h s j l =
    meaning_by_lem e v (scope e w k v bs n) (name_at e w j) (value_at e w j) (class_at cs j) (h.each j l) (s.at j l).front (s.at j l).back

-- ---- the arms of `role_at`

-- n is its name as it was read, x its expanded name
by_name : (e w v : List ℕ) (j : ℕ) (c : Class) {n x : Bytes} {r : Role} → n ≡ name_at e w j → text_at e w v c j ≡ x → r ≡ role_of n x
    → role_by c (name_at e w j) (text_at e w v c j) ≡ role_of (name_at e w j) (text_at e w v c j) → r ≡ role_at e w v c j
unfolding role_at
by_name e w v j c p t q h = q ∙ (rw (p, ← t) (sym h))

module _ (e w v : List ℕ) (j : ℕ) {c : Class} where
  pub no_role : (c ≡ Declaration) ⊎ (c ≡ Unknown) → nothing ≡ role_at e w v c j
  unfolding role_at role_by
  no_role (inl h) = rw h
  no_role (inr h) = rw h

  module _ {n x : Bytes} {r : Role} (p : n ≡ name_at e w j) (t : text_at e w v c j ≡ x) (q : r ≡ role_of n x) where
    pub role_unprefixed : c ≡ Unprefixed → r ≡ role_at e w v c j
    unfolding role_by
    role_unprefixed h = by_name e w v j c p t q (rw h)

    pub role_xml : c ≡ Xml → r ≡ role_at e w v c j
    unfolding role_by
    role_xml h = by_name e w v j c p t q (rw h)

    pub role_own : {at m : ℕ} → c ≡ Own at m → r ≡ role_at e w v c j
    unfolding role_by
    role_own h = by_name e w v j c p t q (rw h)

    pub role_held : {at m : ℕ} → c ≡ Held at m → r ≡ role_at e w v c j
    unfolding role_by
    role_held h = by_name e w v j c p t q (rw h)

-- ---- the tests of `judge_at`

module _ (c : Class) (n : Bytes) (r : Role) (x : Bytes) where
  pub not_known : known_by c n ≡ false → refuse NoNamespace ≡ check_by c n r x
  unfolding check_by ◌>>◌ require◌or◌
  not_known h = rw h

  pub is_known_lem : known_by c n ≡ true → judge r x ≡ check_by c n r x
  unfolding check_by ◌>>◌ require◌or◌
  is_known_lem h = rw h

-- ---- its expanded name by its class: n is its name, l the local part, s the namespace that was found

pub text-unprefixed : (e w v : List ℕ) (j : ℕ) {c : Class} {n : Bytes} → n ≡ name_at e w j → c ≡ Unprefixed → text_at e w v c j ≡ n ++ []
unfolding text_at text_by
text-unprefixed e w v j {n = n} p h = rw (h, ← p) (sym (append-nil n))

module _ (e w v : List ℕ) (j : ℕ) {c : Class} {l : Bytes} (p : l ≡ back_of (colon_at w j) (name_at e w j)) where
  pub text_xml_lem : c ≡ Xml → text_at e w v c j ≡ xml_name ++ l
  unfolding text_at text_by
  text_xml_lem h = rw (h, p)

  pub text_own : {at m : ℕ} {s : Bytes} → c ≡ Own at m → s ≡ part e at m → text_at e w v c j ≡ s ++ l
  unfolding text_at text_by
  text_own h q = rw (h, p, q)

  pub text-held : {at m : ℕ} {s : Bytes} → c ≡ Held at m → s ≡ part v at m → text_at e w v c j ≡ s ++ l
  unfolding text_at text_by
  text-held h q = rw (h, p, q)
