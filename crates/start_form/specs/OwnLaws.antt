-- Laws of the rows of a tag's own declarations, and of the classes by them.
use Rattle.std.specs.Prelude.{◌≡◌, refl, Bool, true, false, List, [], ◌∷◌, ◌++◌, ℕ, zero, suc, ◌+◌, ◌-◌, ◌*◌, ◌/◌, ◌<◌, ◌≤◌, min, leb, length, take, drop}
use Rattle.std.proofs.Math.Path.{sym}
use Rattle.std.proofs.Common.{◌∙◌, zero-add, add-one, arith, drop-drop, leb-true, leb-false}
use Rattle.std.proofs.Math.Option.{none, some}
use Rattle.std.proofs.Math.Seq.{take-nil}
use Rattle.spec.specs.Bytes.{Bytes, ascii, when◌then◌else◌, same, those, or_else}
use Rattle.spec.specs.Pyx.{Attribute}
use Rattle.spec.specs.Namespaces.{Binding, is_declaration, declares, declared, look_up, namespace, xml_name}
use Rattle.copy.specs.Copy.{part}
use Rattle.copy.specs.Texts.{after_drop}
use Rattle.state_words.specs.Kept.{Kept, kept_less, kept_before}
use Rattle.state_words.specs.declared.Row.{Row}
use Rattle.state_words.specs.Words.{StoredRow, row_wrote, row_load_store, row_kept}
use Rattle.state.specs.Meaning.{binding_of, bindings_of}
use Rattle.start_names.specs.declared.Found.{Found}
use Rattle.start_names.specs.declared.Found.TheVariants.{Unknown}
use Rattle.start_names.specs.declared.Class.{Class}
use Rattle.start_names.specs.Tag.{Word, start_word, start_at, size_at, name_at, value_at, attribute_at}
use Rattle.start_names.specs.Tag.{attributes_from, attributes_all, attributes_more, attributes_end}
use Rattle.start_names.specs.Found.{found_bytes, scope}
use Rattle.start_names.specs.Classes.{found_class, Says, Prefixed, says-found, says_class}
use Rattle.start_form.specs.Own.{WithinAt, own_row, Owns}

-- ---- one row, from the words of its declaration

module _ (w : List ℕ) (j : ℕ) {at n v : ℕ}
    (p : Word w (j * 4 + 0) at) (q : Word w (j * 4 + 1) n) (r : Word w (j * 4 + 3) v) where
  pub row_within : WithinAt w j → at + n + v ≤ 32_768
  row_within h = rw (start_word w j p, q.is, r.is) h.ends

  -- a name too short for a prefix
  pub row_short : n < 6 → record { at = at + n; name = 0; more = v } ≡ own_row w j
  row_short h =
      let x : min 6 n ≡ n = omega arith in
      let y : n - 6 ≡ 0 = omega arith in
      rw (← start_word w j p, ← q.is, ← r.is, x, y)

  pub row-long : 6 ≤ n → record { at = at + 6; name = n - 6; more = v } ≡ own_row w j
  row-long h = let x : min 6 n ≡ 6 = omega arith in rw (← start_word w j p, ← q.is, ← r.is, x)

-- ---- it binds what is declared

drop-take : (b n : ℕ) (s : List ℕ) → drop b (take n s) ≡ take (n - b) (drop b s)
drop-take zero n s = let z : n - 0 ≡ n = omega arith in rw z
drop-take (suc b) zero s = let z : 0 - suc b ≡ 0 = omega arith in rw z
drop-take (suc b) (suc n) [] = sym (take-nil (suc n - suc b))
drop-take (suc b) (suc n) (x ∷ s) = let z : suc n - suc b ≡ n - b = omega arith in rw z (drop-take b n s)

-- the bytes of a part from b on
part-from : (e : List ℕ) (s n b : ℕ) → drop b (part e s n) ≡ part e (s + min b n) (n - b)
unfolding part
part-from e s n b = drop-take b n (drop s e) ∙ go (leb b n) refl
  where
    go : (t : Bool) → leb b n ≡ t → take (n - b) (drop b (drop s e)) ≡ take (n - b) (drop (s + min b n) e)
    go true h = let x : min b n ≡ b = omega (arith, leb-true b n h) in rw (x, drop-drop b s e)
    go false h = let x : n - b ≡ 0 = omega (arith, leb-false b n h) in rw x

row-declares : (e w : List ℕ) (j : ℕ) → binding_of e (own_row w j) ≡ declares (attribute_at e w j)
unfolding binding_of declares attribute_at name_at value_at ascii
row-declares e w j =
    let ends : start_at w j + min 6 (size_at w j) + (size_at w j - 6) ≡ start_at w j + size_at w j = omega arith in
    rw (ends, after_drop (ascii "xmlns:") (part e (start_at w j) (size_at w j)), part-from e (start_at w j) (size_at w j) 6)

-- ---- one attribute more in front, and one row more

module _ (a : Attribute) (as' : List Attribute) where
  declared-one : is_declaration a ≡ true → declared (a ∷ as') ≡ declares a ∷ declared as'
  unfolding declared those when◌then◌else◌
  declared-one h = rw h

  declared-other : is_declaration a ≡ false → declared (a ∷ as') ≡ declared as'
  unfolding declared those when◌then◌else◌
  declared-other h = rw h

-- rows below a change stay
bindings_kept : {rs ss : List ℕ} (e : List ℕ) (d : ℕ) → Kept rs ss 0 (d * 3) → bindings_of ss e 0 d ≡ bindings_of rs e 0 d
unfolding bindings_of
bindings_kept e zero k = refl
bindings_kept e (suc d) k =
    let below = bindings_kept e d (kept_less k (omega arith) (omega arith)) in
    rw (row_kept k (0 + d) (omega arith) (omega arith), below)

bindings_more : {rs ss : List ℕ} (e : List ℕ) {d : ℕ} {r : Row} {b : Bool}
    → StoredRow rs d r ss b → d * 3 + 3 ≤ length rs → bindings_of ss e 0 (d + 1) ≡ binding_of e r ∷ bindings_of rs e 0 d
unfolding bindings_of
bindings_more e {d} s h =
    rw (add-one d, zero-add d, row_load_store s h, bindings_kept e d (kept_before (row_wrote s h)))

-- ---- the loop of `own_rows`: d rows bind what the attributes from j on declare

pub record Owning (e w : List ℕ) (k : ℕ) (rs ss : List ℕ) (d j : ℕ) : Type 0 where
  pub few : d + j ≤ k
  pub room : k ≤ length rs / 3
  pub same : length ss ≡ length rs
  pub is : bindings_of ss e 0 d ≡ declared (attributes_from e w j (k - j))

pub owning_begins : {e w rs : List ℕ} {k : ℕ} → k ≤ length rs / 3 → Owning e w k rs rs 0 k
unfolding bindings_of declared those
owning_begins {e} {w} {rs} {k} h =
    record { few = omega arith; room = h; same = refl; is = rw (attributes_end e w k k (omega arith)) }

module _ {e w : List ℕ} {k : ℕ} {rs ss : List ℕ} {d j : ℕ} (o : Owning e w k rs ss d j) where
  module _ (l : 0 < j) where
    front : attributes_from e w (j - 1) (k - (j - 1)) ≡ attribute_at e w (j - 1) ∷ attributes_from e w j (k - j)
    front = let z : j - 1 + 1 ≡ j = omega arith in attributes_more e w k (j - 1) (omega arith) ∙ rw z

    pub owning_other : is_declaration (attribute_at e w (j - 1)) ≡ false → Owning e w k rs ss d (j - 1)
    owning_other h =
        record {
          few = omega arith;
          room = o.room;
          same = o.same;
          is = o.is ∙ sym (rw front (declared-other (attribute_at e w (j - 1)) (attributes_from e w j (k - j)) h));
        }

    pub owning_more : {r : Row} {ts : List ℕ} {b : Bool}
        → is_declaration (attribute_at e w (j - 1)) ≡ true → r ≡ own_row w (j - 1) → StoredRow ss d r ts b
        → Owning e w k rs ts (d + 1) (j - 1)
    owning_more h q s =
        let one = declared-one (attribute_at e w (j - 1)) (attributes_from e w j (k - j)) h in
        let more = bindings_more e s (omega (arith, o.few, o.room, o.same)) in
        record {
          few = omega arith;
          room = o.room;
          same = s.same ∙ o.same;
          is = more ∙ rw (q, row-declares e w (j - 1), o.is, front) (sym one);
        }

  pub owning_done : j ≤ 0 → Owns e w k rs ss d
  owning_done l =
      let z : j ≡ 0 = omega arith in
      record { same = o.same; is = rw (attributes_all e w k) (rw z at o.is) }

-- ---- own bindings first, then those of the open elements

look_append : (p : Bytes) (xs ys : List Binding) → look_up p (xs ++ ys) ≡ or_else (look_up p xs) (look_up p ys)
unfolding look_up or_else when◌then◌else◌
look_append p [] ys = refl
look_append p (x ∷ xs) ys = go (same p x.0) (look_append p xs ys)
  where
    go : (t : Bool) → look_up p (xs ++ ys) ≡ or_else (look_up p xs) (look_up p ys)
        → (when t then some x.1 else look_up p (xs ++ ys))
        ≡ or_else (when t then some x.1 else look_up p xs) (look_up p ys)
    go true h = refl
    go false h = h

namespace-append : (p : Bytes) (xs ys : List Binding)
    → namespace (xs ++ ys) p ≡ or_else (namespace xs p) (namespace ys p)
unfolding namespace or_else when◌then◌else◌
namespace-append p xs ys = go (same p (ascii "xml"))
  where
    go : (t : Bool) → (when t then some xml_name else look_up p (xs ++ ys))
        ≡ or_else (when t then some xml_name else look_up p xs) (when t then some xml_name else look_up p ys)
    go true = refl
    go false = look_append p xs ys

module _ {e w : List ℕ} {k : ℕ} {rs ss : List ℕ} {d : ℕ} (o : Owns e w k rs ss d) (v bs : List ℕ) (n : ℕ) where
  own_first : (p : Bytes)
      → namespace (scope e w k v bs n) p ≡ or_else (namespace (scope e w 0 e ss d) p) (namespace (scope e w 0 v bs n) p)
  unfolding scope declared those attributes_from
  own_first p = rw (← o.is) (namespace-append p (bindings_of ss e 0 d) (bindings_of bs v 0 n))

  -- attribute a has the prefix p, read as q, which was looked for among its tag's rows: f was found
  module _ (a : Attribute) {p q : Bytes} {f : Found}
      (c : is_declaration a ≡ false) (r : q ≡ p) (s : length q ≡ 0 → ⊥)
      (h : found_bytes e e f ≡ namespace (scope e w 0 e ss d) q) where
    pub says_own : {g : Found} {x : Bytes} → f ≡ g → found_bytes e e g ≡ some x
        → Prefixed (scope e w k v bs n) a p (some x)
    unfolding or_else
    says_own {g} {x} t y =
        let z : some x ≡ namespace (scope e w 0 e ss d) q = sym y ∙ (rw (← t) h) in
        says-found e e f c r s (rw t (y ∙ sym (own_first q ∙ rw (← z)))) t y

    -- nothing; g was found among the open elements' rows
    pub says-held : (g : Found) {m : Class}
        → f ≡ Unknown → found_bytes e v g ≡ namespace (scope e w 0 v bs n) q → m ≡ found_class g
        → Says m e v (scope e w k v bs n) a p
    unfolding or_else found_bytes
    says-held g t y z =
        let u : none ≡ namespace (scope e w 0 e ss d) q = rw t at h in
        says_class e v (scope e w k v bs n) a g c r s (y ∙ sym (own_first q ∙ rw (← u))) z
