-- The form of a start tag outside Literal content: refusal 6, and the counts (7).
use Rattle.std.specs.Prelude.{ℕ, zero, suc, ◌+◌, ◌/◌, ◌<◌, ◌≤◌, ◌≡◌, refl, Bool, true, false, ◌&&◌, ◌||◌, not, List, [], ◌∷◌, ◌++◌, eqb, take}
use Rattle.std.proofs.Common.{sym, ap, ◌∙◌, arith, length-append}
use Rattle.std.proofs.lemmas.Bool.{false≢true}
use Rattle.std.proofs.Math.ListN.{length}
use borrow.Author.Tests.{ne_eqb, le-leb, lt-leb}
use Rattle.spec.specs.Bytes.{Bytes, is_empty, those}
use Rattle.spec.specs.Numbers.{refuse}
use Rattle.spec.specs.declared.Refusal.TheVariants.{NotWellFormed, OverLimit}
use Rattle.spec.specs.Limits as L
use Rattle.spec.specs.Namespaces.{declared, all_legal, repeats_expanded}
use Rattle.spec.specs.Document.{Frame as Element, in_scope, place_in}
use Rattle.spec.specs.Opening.{is_second_root, counts_fit, is_xml, on_opening}
use Rattle.state.specs.declared.Registers.{Registers}
use Rattle.state.specs.Meaning.{bindings_of, elements_of, doc_of}
use Rattle.state.specs.Valid.{Valid}
use Rattle.state.specs.Held as H
use Rattle.state.specs.Live.{in_scope_lem}
use Rattle.start_names.specs.Tag.{attributes_from, attributes_of, start_at, size_at, value_size_at, Split, Splits}
use Rattle.start_names.specs.Found.{scope}
use Rattle.start_names.specs.Pairs.{behind, pairs}
use Rattle.start_names.specs.Classes.{same_keys, Classified, Classifies, expanded_means}
use Rattle.start_form.specs.Order.{Starts, WellFormed, second_root, illegal, repeats, too_many}
use Rattle.std.specs.Prelude.{Result, Ok, Err}
use Rattle.spec.specs.declared.Refusal.{Refusal}

-- a decoded start tag: its name is the first m bytes of e, with colon word c; its k attributes are where the words w say
pub record Decoded (e w : List ℕ) (m c k : ℕ) : Type 0 where
  pub few : k ≤ 64
  pub name : m ≤ 32_768
  pub colon : Split c (take m e)
  pub splits : Splits e w k
  pub within : (j : ℕ) → j < k → start_at w j + size_at w j + value_size_at w j ≤ 32_768

-- ---- the counts

length-attributes : (e w : List ℕ) (j m : ℕ) → length (attributes_from e w j m) ≡ m
unfolding attributes_from
length-attributes e w j zero = refl
length-attributes e w j (suc m) = ap suc (length-attributes e w (suc j) m)

length_bindings : (bs w : List ℕ) (b n : ℕ) → length (bindings_of bs w b n) ≡ n
unfolding bindings_of
length_bindings bs w b zero = refl
length_bindings bs w b (suc n) = ap suc (length_bindings bs w b n)

module _ {r : Registers} {fs bs is w : List ℕ} (x : Valid r fs bs is w) (e v : List ℕ) (k : ℕ) where
  bound : length (declared (attributes_of e v k) ++ in_scope (elements_of r fs bs is w)) ≡ length (declared (attributes_of e v k)) + r.counts.bindings
  bound = rw (in_scope_lem x) (omega (arith, length-append (declared (attributes_of e v k)) (bindings_of bs w 0 r.counts.bindings), length_bindings bs w 0 r.counts.bindings))

  pub counts_deep : 64 ≤ r.counts.depth + r.counts.inner → counts_fit (attributes_of e v k) (elements_of r fs bs is w) ≡ false
  unfolding counts_fit L.all
  counts_deep h = rw (lt-leb (suc (length (elements_of r fs bs is w))) 64 (omega (arith, H.depth r fs bs is w)))

  pub counts-bound : r.counts.depth + r.counts.inner < 64 → k ≤ 64 → 128 < length (declared (attributes_of e v k)) + r.counts.bindings → counts_fit (attributes_of e v k) (elements_of r fs bs is w) ≡ false
  unfolding counts_fit L.all
  counts-bound d f h =
      rw (
        le-leb (suc (length (elements_of r fs bs is w))) 64 (omega (arith, H.depth r fs bs is w)),
        le-leb (length (attributes_of e v k)) 64 (omega (arith, length-attributes e v 0 k)),
        lt-leb (length (declared (attributes_of e v k) ++ in_scope (elements_of r fs bs is w))) 128 (omega (arith, bound)),
      )

  pub counts_fit_lem : r.counts.depth + r.counts.inner < 64 → k ≤ 64 → length (declared (attributes_of e v k)) + r.counts.bindings ≤ 128 → counts_fit (attributes_of e v k) (elements_of r fs bs is w) ≡ true
  unfolding counts_fit L.all
  counts_fit_lem d f h =
      rw (
        le-leb (suc (length (elements_of r fs bs is w))) 64 (omega (arith, H.depth r fs bs is w)),
        le-leb (length (attributes_of e v k)) 64 (omega (arith, length-attributes e v 0 k)),
        le-leb (length (declared (attributes_of e v k) ++ in_scope (elements_of r fs bs is w))) 128 (omega (arith, bound)),
      )

-- ---- a second root

no_elements : (es : List Element) → is_empty es ≡ eqb (length es) 0
unfolding is_empty
no_elements [] = refl
no_elements (x ∷ es) = sym (ne_eqb (suc (length es)) 0 (λ z. omega arith))

module _ (r : Registers) (fs bs is w : List ℕ) (ids : List Bytes) where
  pub second_read : r.counts.inner ≡ 0 → is_second_root (doc_of r fs bs is w ids) ≡ (r.flags.rooted && eqb r.counts.depth 0)
  unfolding is_second_root doc_of
  second_read i =
      let e : length (elements_of r fs bs is w) ≡ r.counts.depth = omega (arith, H.depth r fs bs is w) in
      rw (no_elements (elements_of r fs bs is w), e)

-- ---- what `has_fault` answers

-- b: is a binding illegal, or do two attributes repeat? Where all are legal, each has its class in the words, now ds
pub record Faults (b : Bool) (e v : List ℕ) (k : ℕ) (w bs : List ℕ) (n : ℕ) (cs ds : List ℕ) : Type 0 where
  pub answer : b ≡ (not (all_legal (declared (attributes_of e v k))) || pairs (same_keys e v w ds) 0 k)
  pub same : length ds ≡ length cs
  pub are : all_legal (declared (attributes_of e v k)) ≡ true → Classified e v k w bs n ds k

module _ {e v : List ℕ} {k : ℕ} {w bs : List ℕ} {n : ℕ} {cs : List ℕ} where
  pub fault_none : k ≡ 0 → Faults false e v k w bs n cs cs
  unfolding attributes_from declared all_legal those pairs
  fault_none z = record { answer = rw z; same = refl; are = λ l. record { each = λ j b. absurd (omega arith) } }

  pub fault_illegal : {t : Bool} → t ≡ all_legal (declared (attributes_of e v k)) → t ≡ false
      → Faults true e v k w bs n cs cs
  fault_illegal q h =
      let l : all_legal (declared (attributes_of e v k)) ≡ false = sym q ∙ h in
      record { answer = rw l; same = refl; are = λ y. absurd (false≢true (sym l ∙ y)) }

  module _ {t y : Bool} {ds : List ℕ} (q : t ≡ all_legal (declared (attributes_of e v k))) (h : t ≡ true)
      (z : Classifies e v k w bs n cs ds y) (few : k ≤ 64) (words : 192 ≤ length cs) where
    pub fault_twice : {b : Bool} → b ≡ pairs (same_keys e v w ds) 0 k → Faults b e v k w bs n cs ds
    fault_twice p =
        let l : all_legal (declared (attributes_of e v k)) ≡ true = sym q ∙ h in
        let told : y ≡ true = z.answer ∙ le-leb k (length cs / 3) (omega arith) in
        record { answer = p ∙ rw l; same = z.same; are = λ x. z.are told }

    -- one attribute repeats none
    pub fault_alone : k ≡ 1 → Faults false e v k w bs n cs ds
    unfolding pairs behind
    fault_alone o = fault_twice (rw o)

  module _ {b : Bool} {ds : List ℕ} (z : Faults b e v k w bs n cs ds) where
    pub by_pairs : all_legal (declared (attributes_of e v k)) ≡ true → b ≡ pairs (same_keys e v w ds) 0 k
    by_pairs l = z.answer ∙ rw l

    all_legal_by : b ≡ false → (l : Bool) → all_legal (declared (attributes_of e v k)) ≡ l → l ≡ true
    all_legal_by h true l = refl
    all_legal_by h false l = absurd (false≢true (sym h ∙ (z.answer ∙ rw l)))

    pub all_legal_lem : b ≡ false → all_legal (declared (attributes_of e v k)) ≡ true
    all_legal_lem h = all_legal_by h _ refl

-- ---- what `check_form` answers

-- good: well-formed in its place, the counts fit, and each attribute has its class
pub record Formed (r : Registers) (fs bs is w e v : List ℕ) (m k : ℕ) (cs : List ℕ) : Type 0 where
  pub form : (ids : List Bytes) → WellFormed (place_in (elements_of r fs bs is w)) (take m e) (attributes_of e v k) (doc_of r fs bs is w ids)
  pub counts : counts_fit (attributes_of e v k) (elements_of r fs bs is w) ≡ true
  pub classes : Classified e v k w bs r.counts.bindings cs k
  pub deep : r.counts.depth < 64
  pub bound : length (declared (attributes_of e v k)) + r.counts.bindings ≤ 128

abbrev pub Forms : Result Unit Refusal → Registers → List ℕ → List ℕ → List ℕ → List ℕ → List ℕ → List ℕ → ℕ → ℕ → List ℕ → Type 0
Forms (Err x) r fs bs is w e v m k cs = (ids : List Bytes) → on_opening (take m e) (attributes_of e v k) (doc_of r fs bs is w ids) ≡ refuse x
Forms (Ok _) r fs bs is w e v m k cs = Formed r fs bs is w e v m k cs

pub record Checks (f : Result Unit Refusal) (r : Registers) (fs bs is w e v : List ℕ) (m k : ℕ) (cs ds : List ℕ) : Type 0 where
  pub cases : Forms f r fs bs is w e v m k ds
  pub same : length ds ≡ length cs

-- ---- how it comes to its answer

-- what is asked
pub record Asked (r : Registers) (fs bs is w e v : List ℕ) (m c k : ℕ) (cs : List ℕ) : Type 0 where
  pub valid : Valid r fs bs is w
  pub outer : is_xml (place_in (elements_of r fs bs is w)) ≡ false
  pub flat : r.counts.inner ≡ 0
  pub tag : Decoded e v m c k
  pub words : 192 ≤ length cs

module _ {r : Registers} {fs bs is w e v : List ℕ} {m c k : ℕ} {cs : List ℕ} (a : Asked r fs bs is w e v m c k cs) where
  starts : (ids : List Bytes) → Starts (place_in (elements_of r fs bs is w)) (take m e) (attributes_of e v k) (doc_of r fs bs is w ids)
  unfolding doc_of
  starts ids = record { at = refl; outer = a.outer }

  pub form_second : {t : Bool} → t ≡ (r.flags.rooted && eqb r.counts.depth 0) → t ≡ true → Checks (Err NotWellFormed) r fs bs is w e v m k cs cs
  form_second q h = record { cases = λ ids. second_root (starts ids) (second_read r fs bs is w ids a.flat ∙ (sym q ∙ h)); same = refl }

  module _ {o : Bool} (s : o ≡ (r.flags.rooted && eqb r.counts.depth 0)) (n : o ≡ false) where
    f : (ids : List Bytes) → is_second_root (doc_of r fs bs is w ids) ≡ false
    f ids = second_read r fs bs is w ids a.flat ∙ (sym s ∙ n)

    module _ {ds : List ℕ} {t : Bool} (z : Faults t e v k w bs r.counts.bindings cs ds) where
      twice : (ids : List Bytes) → all_legal (declared (attributes_of e v k)) ≡ true
          → repeats_expanded (declared (attributes_of e v k) ++ in_scope (doc_of r fs bs is w ids).frames) (attributes_of e v k) ≡ t
      unfolding doc_of scope
      twice ids l = rw (in_scope_lem a.valid) (sym (by_pairs z l ∙ expanded_means (z.are l) a.tag.splits))

      fault : t ≡ true → (ids : List Bytes) (l : Bool) → all_legal (declared (attributes_of e v k)) ≡ l
          → on_opening (take m e) (attributes_of e v k) (doc_of r fs bs is w ids) ≡ refuse NotWellFormed
      fault h ids false l = illegal (starts ids) (f ids) l
      fault h ids true l = repeats (starts ids) (f ids) l (twice ids l ∙ h)

      pub form_fault : t ≡ true → Checks (Err NotWellFormed) r fs bs is w e v m k cs ds
      form_fault h = record { cases = λ ids. fault h ids _ refl; same = z.same }

      module _ (h : t ≡ false) where
        well : (ids : List Bytes) → WellFormed (place_in (elements_of r fs bs is w)) (take m e) (attributes_of e v k) (doc_of r fs bs is w ids)
        well ids =
            let l : all_legal (declared (attributes_of e v k)) ≡ true = all_legal_lem z h in
            record { starts = starts ids; first = f ids; legal = l; once = twice ids l ∙ h }

        many : (ids : List Bytes) → counts_fit (attributes_of e v k) (elements_of r fs bs is w) ≡ false → on_opening (take m e) (attributes_of e v k) (doc_of r fs bs is w ids) ≡ refuse OverLimit
        unfolding doc_of
        many ids x = too_many (well ids) x

        pub form_deep : 64 ≤ r.counts.depth → Checks (Err OverLimit) r fs bs is w e v m k cs ds
        form_deep g = record { cases = λ ids. many ids (counts_deep a.valid e v k (omega arith)); same = z.same }

        pub form_bound : {i : ℕ} → r.counts.depth < 64 → i ≡ length (declared (attributes_of e v k)) → 128 < i + r.counts.bindings → Checks (Err OverLimit) r fs bs is w e v m k cs ds
        form_bound g p b = record { cases = λ ids. many ids (counts-bound a.valid e v k (omega (arith, a.flat)) a.tag.few (omega arith)); same = z.same }

        pub form_good : {i : ℕ} → r.counts.depth < 64 → i ≡ length (declared (attributes_of e v k)) → i + r.counts.bindings ≤ 128 → Checks (Ok tt) r fs bs is w e v m k cs ds
        form_good g p b =
            record {
              cases = record {
                form = well;
                counts = counts_fit_lem a.valid e v k (omega (arith, a.flat)) a.tag.few (omega arith);
                classes = z.are (all_legal_lem z h);
                deep = g;
                bound = omega arith;
              };
              same = z.same;
            }
