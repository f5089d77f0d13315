-- 8 inside Literal content: is each prefix known?
use Rattle.std.specs.Prelude.{◌≡◌, Bool, true, false, ◌&&◌, ◌||◌, List, ◌++◌, ℕ, suc, ◌+◌, ◌-◌, ◌<◌, ◌≤◌, length, leb}
use Rattle.std.proofs.Math.Path.{sym}
use Rattle.std.proofs.Common.{ap, ◌∙◌, arith, length-append}
use Rattle.std.proofs.Math.Option.{some}
use borrow.Author.Tests.{le-leb, lt-leb, leb-true, leb-false}
use Rattle.spec.specs.Limits as L
use Rattle.spec.specs.Bytes.{Bytes, is_empty, is_some}
use Rattle.spec.specs.Namespaces.{Binding, declared, is_declaration, name_of, namespace, is_known}
use Rattle.state.specs.Meaning.{bindings_of}
use Rattle.state_stack.specs.Laws.{by}
use Rattle.start_names.specs.declared.Found.{Found}
use Rattle.start_names.specs.declared.Found.TheVariants.{Unknown}
use Rattle.start_names.specs.Tag.{name_at, colon_at, attribute_at, attributes_from, attributes_of, attributes_all, attributes_more, attributes_end, front_of, Split, Splits}
use Rattle.start_names.specs.Declarations.{is_empty_lem, not_empty}
use Rattle.start_names.specs.Found.{found_bytes, scope}
use Rattle.literal.specs.Judged.{counts, all_known, length_bindings, length-attributes}

-- is a prefix known, or empty?
abbrev pub known_prefix : List Binding → Bytes → Bool
known_prefix bs p = is_empty p || is_some (namespace bs p)

-- ---- the tests of `known`

module _ (bs : List Binding) (p : Bytes) where
  pub known_none : length p ≡ 0 → true ≡ known_prefix bs p
  known_none h = rw (is_empty_lem p h)

  module _ (s : length p ≡ 0 → ⊥) (e v : List ℕ) {f : Found} (q : found_bytes e v f ≡ namespace bs p) where
    pub known_not : f ≡ Unknown → false ≡ known_prefix bs p
    unfolding found_bytes is_some
    known_not h = rw (not_empty p s, ← q, h)

    pub known_found : {g : Found} {x : Bytes} → f ≡ g → found_bytes e v g ≡ some x → true ≡ known_prefix bs p
    unfolding is_some
    known_found h y = rw (not_empty p s, ← q, h, y)

-- the prefix of a name
pub known_name : (e sp : List ℕ) (k : ℕ) (v bs : List ℕ) (m : ℕ) {c : ℕ} {n p : Bytes} {b t : Bool} → Split c n → p ≡ front_of c n → b ≡ known_prefix (scope e sp k v bs m) p → b ≡ t
    → is_known (declared (attributes_of e sp k) ++ bindings_of bs v 0 m) n ≡ t
unfolding is_known scope
known_name e sp k v bs m s q h y = rw (← s.front, ← q) (sym h ∙ y)

-- ---- one attribute

unfoldable pub known_at : List Binding → List ℕ → List ℕ → ℕ → Bool
known_at bs e sp j = is_declaration (attribute_at e sp j) || known_prefix bs (front_of (colon_at sp j) (name_at e sp j))

module _ (bs : List Binding) (e sp : List ℕ) (j : ℕ) where
  pub known_declaration : is_declaration (attribute_at e sp j) ≡ true → true ≡ known_at bs e sp j
  unfolding known_at
  known_declaration h = rw h

  pub known_other : {b : Bool} {p : Bytes} → is_declaration (attribute_at e sp j) ≡ false → p ≡ front_of (colon_at sp j) (name_at e sp j) → b ≡ known_prefix bs p → b ≡ known_at bs e sp j
  unfolding known_at
  known_other h q y = y ∙ rw (h, q)

  known_means : Split (colon_at sp j) (name_at e sp j) → known_at bs e sp j ≡ (is_declaration (attribute_at e sp j) || is_known bs (name_of (attribute_at e sp j)))
  unfolding known_at is_known attribute_at name_of
  known_means s = rw s.front

-- ---- the loop of `all_known`: the prefixes of the first j attributes are known

pub record Knowing (bs : List Binding) (e sp : List ℕ) (k j : ℕ) : Type 0 where
  pub upto : j ≤ k
  pub rest : all_known bs (attributes_of e sp k) ≡ all_known bs (attributes_from e sp j (k - j))

pub knowing_begins : {bs : List Binding} {e sp : List ℕ} {k : ℕ} → Knowing bs e sp k 0
knowing_begins {bs} {e} {sp} {k} = record { upto = omega arith; rest = ap (all_known bs) (attributes_all e sp k) }

module _ {bs : List Binding} {e sp : List ℕ} {k j : ℕ} (h : Knowing bs e sp k j) where
  pub knowing_done : k ≤ j → true ≡ all_known bs (attributes_of e sp k)
  unfolding all_known
  knowing_done l = sym (h.rest ∙ rw (attributes_end e sp k j l))

  module _ (s : Splits e sp k) (l : j < k) where
    here : all_known bs (attributes_of e sp k) ≡ (known_at bs e sp j && all_known bs (attributes_from e sp (j + 1) (k - (j + 1))))
    unfolding all_known
    here = h.rest ∙ rw (attributes_more e sp k j l, known_means bs e sp j (s.at j l))

    pub knowing_stop : known_at bs e sp j ≡ false → false ≡ all_known bs (attributes_of e sp k)
    knowing_stop b = sym (here ∙ rw b)

    pub knowing_more : known_at bs e sp j ≡ true → Knowing bs e sp k (j + 1)
    knowing_more b = record { upto = omega arith; rest = here ∙ rw b }

pub known_all : (e sp : List ℕ) (k : ℕ) (v bs : List ℕ) (m : ℕ) {b t : Bool} → b ≡ all_known (scope e sp k v bs m) (attributes_of e sp k) → b ≡ t
    → all_known (declared (attributes_of e sp k) ++ bindings_of bs v 0 m) (attributes_of e sp k) ≡ t
unfolding scope
known_all e sp k v bs m h y = sym h ∙ y

-- ---- the tests of `counts_fit`

module _ (d a b : ℕ) where
  pub counts_deep : 64 ≤ d → false ≡ counts d a b
  unfolding counts L.all
  counts_deep h = rw (lt-leb (suc d) 64 (omega arith))

  module _ (l : d < 64) where
    pub counts-many : 64 < a → false ≡ counts d a b
    unfolding counts L.all
    counts-many h = rw (le-leb (suc d) 64 l, lt-leb a 64 h)

    module _ (m : a ≤ 64) where
      pub counts-bound : 128 < b → false ≡ counts d a b
      unfolding counts L.all
      counts-bound h = rw (le-leb (suc d) 64 l, le-leb a 64 m, lt-leb b 128 h)

      pub counts-rest : (x y : ℕ) → b ≡ x + y → y ≤ 128 → leb x (128 - y) ≡ counts d a b
      unfolding counts L.all
      counts-rest x y e h =
          rw (le-leb (suc d) 64 l, le-leb a 64 m)
          (by (leb x (128 - y))
          (λ t. t ∙ sym (le-leb b 128 (omega (arith, leb-true x (128 - y) t))))
          (λ f. f ∙ sym (lt-leb b 128 (omega (arith, leb-false x (128 - y) f)))))

-- what `counts_fit` counts is what the definitions count
pub counts_as : (e sp : List ℕ) (k : ℕ) (v bs : List ℕ) (d m : ℕ) {b t : Bool} → b ≡ counts d k (length (declared (attributes_of e sp k)) + m) → b ≡ t
    → counts d (length (attributes_of e sp k)) (length (declared (attributes_of e sp k) ++ bindings_of bs v 0 m)) ≡ t
counts_as e sp k v bs d m h y =
    rw (length-attributes e sp 0 k, length-append (declared (attributes_of e sp k)) (bindings_of bs v 0 m), length_bindings bs v 0 m) (sym h ∙ y)
