-- Where the namespace of a prefix was found, and what an element's or an attribute's name is by it.
use Rattle.std.specs.Prelude.{◌≡◌, refl, Bool, true, false, ◌&&◌, ◌||◌, List, [], ◌∷◌, ◌++◌, length, get_or}
use Rattle.std.proofs.Math.Path.{sym}
use Rattle.std.proofs.Common.{ap, ◌∙◌, add-zero, zero-add}
use Rattle.std.proofs.Math.Option.{Option, none, some}
use Prim.Native.Nat.{ℕ, suc, ◌+◌, ◌-◌, ◌*◌, ◌<◌, ◌≤◌}
use native.Mathlib.Omega.{arith}
use Rattle.spec.specs.Bytes.{Bytes, ascii, when◌then◌else◌, same, is_empty, or_else, those, ◌>>◌, require◌or◌, is_some}
use Rattle.spec.specs.Numbers.{Answer, refuse, good}
use Rattle.spec.specs.declared.Refusal.TheVariants.{NoNamespace}
use Rattle.spec.specs.Pyx.{Attribute}
use Rattle.spec.specs.Namespaces.{Binding, xml_name, is_declaration, declares, declared, look_up, namespace, in_namespace, expand_element, is_known}
use Rattle.copy.specs.Copy.{part, get_d_part}
use Rattle.state_words.specs.Words.{row_at, row_of}
use Rattle.state_words.specs.declared.Row.{Row}
use Rattle.state.specs.Meaning.{binding_of, bindings_of}
use Rattle.start_names.specs.declared.Found.{Found}
use Rattle.start_names.specs.declared.Found.TheVariants.{Unknown, Xml, Own, Held}
use Rattle.start_names.specs.Declarations.{binds_to, is_empty_lem, not_empty}
use Rattle.start_names.specs.Tag.{Word, start_word, start_at, size_at, value_size_at, value_at, attribute_at, attributes_from, attributes_of, attributes_all, attributes_more, attributes_end, front_of, back_of, Split}

-- the namespace that was found: `Own` in the scratch e, `Held` in the work store v
unfoldable pub found_bytes : List ℕ → List ℕ → Found → Option Bytes
found_bytes e v Unknown = none
found_bytes e v Xml = some xml_name
found_bytes e v (Own at n) = some (part e at n)
found_bytes e v (Held at n) = some (part v at n)

-- the bindings in scope of a start tag: its own, then those of the open elements, which are the first n rows
unfoldable pub scope : List ℕ → List ℕ → ℕ → List ℕ → List ℕ → ℕ → List Binding
scope e w k v bs n = declared (attributes_of e w k) ++ bindings_of bs v 0 n

-- it depends on what is declared alone
pub same-scope : (e w : List ℕ) (m k : ℕ) (v bs : List ℕ) (n : ℕ) → declared (attributes_of e w m) ≡ declared (attributes_of e w k) → scope e w m v bs n ≡ scope e w k v bs n
unfolding scope
same-scope e w m k v bs n d = rw d

-- `element`'s answer, with the local name: 8 where nothing was found
unfoldable pub answered : Option Bytes → Bytes → Answer Bytes
answered none l = refuse NoNamespace
answered (some ns) l = good (ns ++ l)

-- ---- a tag's own declarations

look_own : (p : Bytes) (a : Attribute) (as' : List Attribute)
    → look_up p (declared (a ∷ as')) ≡ (when binds_to p a then some (declares a).1 else look_up p (declared as'))
unfolding binds_to declared those look_up when◌then◌else◌
look_own p a as' = go (is_declaration a) refl
  where
    go : (t : Bool) → is_declaration a ≡ t → look_up p (declared (a ∷ as')) ≡ (when is_declaration a && same p (declares a).0 then some (declares a).1 else look_up p (declared as'))
    go true e = rw e
    go false e = rw e

-- the loop of `own`: none of the first j attributes binds p
pub record Passed (p : Bytes) (e w : List ℕ) (k j : ℕ) : Type 0 where
  pub upto : j ≤ k
  pub rest : look_up p (declared (attributes_of e w k)) ≡ look_up p (declared (attributes_from e w j (k - j)))

-- what `own_at` answers
pub own_words : (w : List ℕ) (j : ℕ) {at n v : ℕ} → Word w (j * 4 + 0) at → Word w (j * 4 + 1) n → Word w (j * 4 + 3) v
    → Own (at + n) v ≡ Own (start_at w j + size_at w j) (value_size_at w j)
own_words w j p q r = rw (start_word w j p, q.is, r.is)

-- what `own` answers
pub record IsOwn (p : Bytes) (e w : List ℕ) (k : ℕ) (r : Found) : Type 0 where
  pub is : (v : List ℕ) → found_bytes e v r ≡ look_up p (declared (attributes_of e w k))

pub passed-begins : {p : Bytes} {e w : List ℕ} {k : ℕ} → Passed p e w k 0
passed-begins {p} {e} {w} {k} = record { upto = omega arith; rest = ap (λ (x : List Attribute). look_up p (declared x)) (attributes_all e w k) }

module _ {p : Bytes} {e w : List ℕ} {k j : ℕ} (h : Passed p e w k j) where
  here : j < k → look_up p (declared (attributes_of e w k))
      ≡ (when binds_to p (attribute_at e w j) then some (declares (attribute_at e w j)).1 else look_up p (declared (attributes_from e w (j + 1) (k - (j + 1)))))
  here l = h.rest ∙ rw (attributes_more e w k j l) (look_own p (attribute_at e w j) (attributes_from e w (j + 1) (k - (j + 1))))

  pub passed_more : j < k → binds_to p (attribute_at e w j) ≡ false → Passed p e w k (j + 1)
  unfolding when◌then◌else◌
  passed_more l b = record { upto = omega arith; rest = here l ∙ rw b }

  pub passed_hit : j < k → binds_to p (attribute_at e w j) ≡ true → {r : Found} → r ≡ Own (start_at w j + size_at w j) (value_size_at w j) → IsOwn p e w k r
  unfolding when◌then◌else◌ found_bytes attribute_at declares value_at
  passed_hit l b q = record { is = λ v. rw q (sym (here l ∙ rw b)) }

  pub passed_done : k ≤ j → IsOwn p e w k Unknown
  unfolding declared those look_up found_bytes
  passed_done l = record { is = λ v. sym (h.rest ∙ rw (attributes_end e w k j l)) }

-- ---- the bindings of the open elements: the loop of `held` has passed the rows from i on

pub record IsHeld (p : Bytes) (v bs : List ℕ) (n : ℕ) (r : Found) : Type 0 where
  pub is : (e : List ℕ) → found_bytes e v r ≡ look_up p (bindings_of bs v 0 n)

pub record Sought (p : Bytes) (v bs : List ℕ) (n i : ℕ) : Type 0 where
  pub upto : i ≤ n
  pub rest : look_up p (bindings_of bs v 0 n) ≡ look_up p (bindings_of bs v 0 i)

pub sought_begins : {p : Bytes} {v bs : List ℕ} {n : ℕ} → Sought p v bs n n
sought_begins = record { upto = omega arith; rest = refl }

-- the namespace that a row binds its prefix to
abbrev pub held_by : Row → Found
held_by r = Held (r.at + r.name) r.more

-- a row's prefix and namespace, from its words
module _ (bs : List ℕ) (i : ℕ) {at size : ℕ} (p : at ≡ get_or bs (i * 3 + 0) 0) (q : size ≡ get_or bs (i * 3 + 1) 0) where
  pub prefix_read : (v : List ℕ) → part v at size ≡ (binding_of v (row_at bs i)).0
  unfolding binding_of row_at row_of
  prefix_read v = rw (get_d_part bs (i * 3) 3 0 (omega arith), get_d_part bs (i * 3) 3 1 (omega arith), p, q)

  pub held_read : {more : ℕ} → more ≡ get_or bs (i * 3 + 2) 0 → Held (at + size) more ≡ held_by (row_at bs i)
  unfolding row_at row_of
  held_read r = rw (get_d_part bs (i * 3) 3 0 (omega arith), get_d_part bs (i * 3) 3 1 (omega arith), get_d_part bs (i * 3) 3 2 (omega arith), p, q, r)

-- the first word of a row that stands whole in its table
pub row_start : (bs : List ℕ) (i : ℕ) {at : ℕ} → at ≡ get_or bs (i * 3) 0 → at ≡ get_or bs (i * 3 + 0) 0
row_start bs i h = h ∙ ap (λ (m : ℕ). get_or bs m 0) (sym (add-zero (i * 3)))

module _ {p : Bytes} {v bs : List ℕ} {n i : ℕ} (h : Sought p v bs n i) where
  pub sought_done : i ≤ 0 → IsHeld p v bs n Unknown
  unfolding bindings_of look_up found_bytes
  sought_done l = let z : i ≡ 0 = omega arith in record { is = λ e. sym (h.rest ∙ rw z) }

  there : 0 < i → look_up p (bindings_of bs v 0 n)
      ≡ (when same p (binding_of v (row_at bs (i - 1))).0 then some (binding_of v (row_at bs (i - 1))).1 else look_up p (bindings_of bs v 0 (i - 1)))
  unfolding bindings_of look_up
  there l = let s : i ≡ suc (i - 1) = omega arith in h.rest ∙ (ap (λ (m : ℕ). look_up p (bindings_of bs v 0 m)) s ∙ rw (zero-add (i - 1)))

  -- x is the prefix of row i - 1
  module _ {x : Bytes} (l : 0 < i) (q : x ≡ (binding_of v (row_at bs (i - 1))).0) where
    pub sought_more : same p x ≡ false → Sought p v bs n (i - 1)
    unfolding when◌then◌else◌
    sought_more s = record { upto = omega arith; rest = there l ∙ rw (← q, s) }

    pub sought_hit : same p x ≡ true → {r : Found} → r ≡ held_by (row_at bs (i - 1)) → IsHeld p v bs n r
    unfolding when◌then◌else◌ found_bytes binding_of
    sought_hit s h = record { is = λ e. rw h (sym (there l ∙ rw (← q, s))) }

-- ---- both: the tests of `lookup`

look_append : (p : Bytes) (xs ys : List Binding) → look_up p (xs ++ ys) ≡ or_else (look_up p xs) (look_up p ys)
unfolding look_up or_else when◌then◌else◌
look_append p [] ys = refl
look_append p (x ∷ xs) ys = go (same p x.0) (look_append p xs ys)
  where
    go : (t : Bool) → look_up p (xs ++ ys) ≡ or_else (look_up p xs) (look_up p ys)
        → (when t then some x.1 else look_up p (xs ++ ys)) ≡ or_else (when t then some x.1 else look_up p xs) (look_up p ys)
    go true h = refl
    go false h = h

module _ (p : Bytes) (e w : List ℕ) (k : ℕ) (v bs : List ℕ) (n : ℕ) where
  pub found_xml : same p (ascii "xml") ≡ true → found_bytes e v Xml ≡ namespace (scope e w k v bs n) p
  unfolding found_bytes namespace when◌then◌else◌
  found_xml s = rw s

  in_scope_lem : same p (ascii "xml") ≡ false → namespace (scope e w k v bs n) p ≡ or_else (look_up p (declared (attributes_of e w k))) (look_up p (bindings_of bs v 0 n))
  unfolding namespace scope when◌then◌else◌
  in_scope_lem s = rw s (look_append p (declared (attributes_of e w k)) (bindings_of bs v 0 n))

  -- its own declarations stand before those of the open elements
  pub found_own : {q r : Found} {x : Bytes} → same p (ascii "xml") ≡ false → IsOwn p e w k q → q ≡ r → found_bytes e v r ≡ some x
      → found_bytes e v r ≡ namespace (scope e w k v bs n) p
  unfolding or_else
  found_own {q} {r} {x} s o h y =
      let l : some x ≡ look_up p (declared (attributes_of e w k)) = sym y ∙ (rw (← h) (o.is v)) in
      y ∙ sym (in_scope_lem s ∙ rw (← l))

  pub found_there : (q : Found) → same p (ascii "xml") ≡ false → IsOwn p e w k q → (q ≡ Unknown → ⊥) → found_bytes e v q ≡ namespace (scope e w k v bs n) p
  unfolding found_bytes
  found_there Unknown s o h = absurd (h refl)
  found_there Xml s o h = found_own s o refl refl
  found_there (Own at m) s o h = found_own s o refl refl
  found_there (Held at m) s o h = found_own s o refl refl

  pub found-held : {r q : Found} → same p (ascii "xml") ≡ false → IsOwn p e w k q → q ≡ Unknown → IsHeld p v bs n r → found_bytes e v r ≡ namespace (scope e w k v bs n) p
  unfolding or_else found_bytes
  found-held s o q h = let l : none ≡ look_up p (declared (attributes_of e w k)) = rw q at (o.is v) in h.is e ∙ sym (in_scope_lem s ∙ rw (← l))

-- ---- an element's name: the empty namespace is none

-- `element`'s answer r, where q was looked up
pub record Names (e v : List ℕ) (q : Option Bytes) (r : Found) : Type 0 where
  pub is : (l : Bytes) → answered (found_bytes e v r) l ≡ in_namespace q l

module _ {e v : List ℕ} {q : Option Bytes} {f : Found} (h : found_bytes e v f ≡ q) where
  pub names_none : f ≡ Unknown → Names e v q Unknown
  unfolding answered in_namespace found_bytes
  names_none p = record { is = λ l. rw (← h, p) }

  pub names-some : {r : Found} {b : ℕ} {x : Bytes} → f ≡ r → found_bytes e v r ≡ some (b ∷ x) → Names e v q r
  unfolding answered in_namespace is_empty ◌>>◌ require◌or◌
  names-some p y = record { is = λ l. rw (← h, p, y) }

  pub names_full : {r : Found} {x y : Bytes} → f ≡ r → found_bytes e v r ≡ some x → y ≡ x → (length y ≡ 0 → ⊥) → Names e v q r
  unfolding answered in_namespace ◌>>◌ require◌or◌
  names_full p k z m = record { is = λ l. rw (← h, p, k, ← z, not_empty _ m) }

  pub names-empty : {r : Found} {x y : Bytes} → f ≡ r → found_bytes e v r ≡ some x → y ≡ x → length y ≡ 0 → Names e v q Unknown
  unfolding answered in_namespace found_bytes ◌>>◌ require◌or◌
  names-empty p k z m = record { is = λ l. rw (← h, p, k, ← z, is_empty_lem _ m) }

-- ---- what callers learn, where c tells the name's prefix and local part

-- the expanded name of an element: the namespace that `element` answers, then the local part
pub element_means : (e v : List ℕ) (bs : List Binding) {c : ℕ} {n : Bytes} {r : Found} → Split c n → Names e v (namespace bs (front_of c n)) r
    → answered (found_bytes e v r) (back_of c n) ≡ expand_element bs n
unfolding expand_element
element_means e v bs {c} {n} s h = h.is (back_of c n) ∙ rw (s.front, s.back)

-- is a name's prefix known, from what `lookup` answers?
pub known_means : (e v : List ℕ) (bs : List Binding) {c : ℕ} {n : Bytes} (r : Found) → Split c n → found_bytes e v r ≡ namespace bs (front_of c n)
    → is_known bs n ≡ (is_empty (front_of c n) || is_some (found_bytes e v r))
unfolding is_known
known_means e v bs r s h = rw (h, s.front)
