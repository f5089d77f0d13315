-- Attributes in the scratch, by their words: how a line is read, and that what comes later changes none that are there.
use mathlib.Core.Path.{◌≡◌, refl, sym, ap, ◌∙◌, subst, fun_ext}
use mathlib.Core.Bool.{Bool, true, false, ◌||◌}
use mathlib.Core.List.{List, [], ◌∷◌, ◌++◌, append-nil}
use Prim.Native.Nat.{ℕ, zero, suc, ◌+◌, ◌-◌, ◌*◌, ◌/◌, ◌<◌, ◌≤◌}
use native.Mathlib.Omega.{arith}
use native.Mathlib.Numerals.{add-one}
use native.Mathlib.Nat.{zero-add, add-zero}
use lib.Dec.{eqb, ltb}
use lib.ListN.{length, take, drop, get_or, set, length-append, length-drop, length-set, drop_of_length-le, get_elem?}
use mathlib.Core.Option.{some}
use lib.Seq.{drop-cons, drop-drop, take-take, take_at, drop_at, take_all, get_or-take, get_or-drop}
use borrow.Author.Tests.{le-leb, eqb-true, ltb-true, ltb-false}
use Rattle.spec.specs.Bytes.{Bytes, ascii, when◌then◌else◌, begins, after, up_to, from, among, each, ◌>>=◌, ◌>>◌, require◌or◌}
use Rattle.spec.specs.Numbers.{Answer, refuse, good}
use Rattle.spec.specs.declared.Refusal.TheVariants.{NotPyx}
use Rattle.spec.specs.XmlNames.{is_q_name, prefix_of, local_of}
use Rattle.spec.specs.Pyx.{Attribute, attribute, unescape, name, read_attribute}
use Rattle.spec.specs.Pyx as P
use Rattle.copy.specs.Copy.{Put, Wrote, part, stored_at, length_part, then as and_then, wrote_one, wrote_same, wrote_before, part-part, part-inside, get_d_stored, take_before}
use Rattle.copy.specs.Texts.{length_up_to, up_to_take, from-drop, up_to_stop, after_drop}
use Rattle.pyx.specs.Lines.{lines_of, front, Kept}
use Rattle.pyx.specs.Names.{Name}
use Rattle.pyx.specs.Escapes.{Stored}
use Rattle.pyx.specs.Attributes.{row, start_at, size_at, colon_at, value_size_at, name_at, value_at, attributes_of, Placed, Read, Small, Behind, Laid}
use Rattle.pyx.proofs.Reach.{is_end}
use Rattle.pyx.proofs.Lines.{first_line, no_line, front_nil, front_front, front_refuse, front_good, each_good, each_refuse, kept_all, kept_more, kept_then, kept_wrote, eqb_swap, clear_line}
use Rattle.pyx.proofs.Names.{colon_within, prefix_part, local_part}

-- ---- what a line is read as

abbrev pub is_space : ℕ → Bool
is_space c = eqb c 32

spaces : among (ascii " ") ≡ is_space
unfolding among ascii
spaces = fun_ext λ b. or-false (eqb 32 b) ∙ eqb_swap 32 b
  where
    or-false : (x : Bool) → (x || false) ≡ x
    or-false true = refl
    or-false false = refl

-- by its name, and what stands from its first space on
read_parts : Bytes → Bytes → Answer Attribute
read_parts x y = name x >>= λ n. ((require begins (ascii " ") y or NotPyx) >> (unescape (after (ascii " ") y) >>= λ v. good (attribute n v)))

read_by : (l : Bytes) → read_attribute l ≡ read_parts (up_to (among (ascii " ")) (after (ascii "A") l)) (from (among (ascii " ")) l)
unfolding read_attribute read_parts
read_by l = refl

pub read_empty : (l : Bytes) → length l ≡ 0 → read_attribute l ≡ refuse NotPyx
unfolding P.all
read_empty [] h = refl
read_empty (a ∷ l) h = absurd (omega arith)

skip : (l : Bytes) → 0 < length l → eqb (get_or l 0 0) 32 ≡ false → from is_space l ≡ from is_space (drop 1 l)
unfolding from when◌then◌else◌
skip [] h e = absurd (omega arith)
skip (a ∷ l) h e = rw e

module _ (l : Bytes) {n : ℕ} (nonempty : 0 < length l) (clear : eqb (get_or l 0 0) 32 ≡ false) (e : n ≡ length (up_to is_space (drop 1 l))) where
  name-part : up_to (among (ascii " ")) (after (ascii "A") l) ≡ part l 1 n
  unfolding part ascii
  name-part = rw (spaces, after_drop (65 ∷ []) l, e) (up_to_take is_space (drop 1 l))

  from-space : from (among (ascii " ")) l ≡ drop (n + 1) l
  from-space =
      let q : 1 + n ≡ n + 1 = omega arith in
      ap (λ (p : ℕ → Bool). from p l) spaces ∙ (skip l nonempty clear ∙ (from-drop is_space (drop 1 l) ∙ (rw (← e) (drop-drop n 1 l ∙ rw q))))

  parts : read_attribute l ≡ read_parts (part l 1 n) (drop (n + 1) l)
  parts = read_by l ∙ rw (name-part, from-space)

  pub read_no_name : is_q_name (part l 1 n) ≡ false → read_attribute l ≡ refuse NotPyx
  unfolding read_parts P.name ◌>>=◌ ◌>>◌ require◌or◌
  read_no_name q = parts ∙ rw q

  pub read_no_space : length l ≤ n + 1 → read_attribute l ≡ refuse NotPyx
  unfolding read_parts P.name ◌>>=◌ ◌>>◌ require◌or◌ begins ascii
  read_no_space h = parts ∙ rw (drop_of_length-le l h) (go (is_q_name (part l 1 n)))
    where
      go : (t : Bool) → ((require t or NotPyx) >> good (part l 1 n) >>= λ x. ((require false or NotPyx) >> (unescape (after (ascii " ") []) >>= λ v. good (attribute x v)))) ≡ refuse NotPyx
      go true = refl
      go false = refl

  module _ (b : n + 1 < length l) where
    space : drop (n + 1) l ≡ 32 ∷ drop (n + 2) l
    space =
        let k : length (drop 1 l) ≡ length l - 1 = length-drop 1 l in
        let s : get_or l (n + 1) 0 ≡ 32 = eqb-true (get_or l (n + 1) 0) 32 (rw (get_or-drop 1 l n 0, one_more_lem) at (rw (← e) at (up_to_stop is_space (drop 1 l) (omega arith)))) in
        drop-cons l (n + 1) 0 b ∙ rw (s, two_more)
      where
        one_more_lem : 1 + n ≡ n + 1
        one_more_lem = omega arith

        two_more : suc (n + 1) ≡ n + 2
        two_more = omega arith

    valued : is_q_name (part l 1 n) ≡ true → read_attribute l ≡ (unescape (drop (n + 2) l) >>= λ v. good (attribute (part l 1 n) v))
    unfolding read_parts P.name ◌>>=◌ ◌>>◌ require◌or◌ begins after ascii
    valued q = parts ∙ rw (space, q)

    pub read_wrong : is_q_name (part l 1 n) ≡ true → unescape (drop (n + 2) l) ≡ refuse NotPyx → read_attribute l ≡ refuse NotPyx
    unfolding ◌>>=◌
    read_wrong q u = valued q ∙ rw u

    pub read_good : (v : Bytes) → is_q_name (part l 1 n) ≡ true → unescape (drop (n + 2) l) ≡ good v → read_attribute l ≡ good (attribute (part l 1 n) v)
    unfolding ◌>>=◌
    read_good v q u = valued q ∙ rw u

-- ---- the words of an attribute

wrote_next : (b : ℕ) {d e : List ℕ} {at to i : ℕ} {s : List ℕ} → Wrote d e at to s → i ≡ to → i < length e → Wrote d (set e i b) at (i + 1) (s ++ (b ∷ []))
wrote_next b {e = e} {to = to} {i = i} w q h =
    let v : Wrote e (set e i b) to (i + 1) (b ∷ []) = subst (λ (x : ℕ). Wrote e (set e i b) x (i + 1) (b ∷ [])) q (wrote_one {d = e} {at = i} {b = b} h) in
    and_then w v

put_did : {d e : List ℕ} {at to : ℕ} {s : List ℕ} → Wrote d e at to s → Put d at s e true
put_did {d} {e} {at} {to} {s} w =
    record { answer = sym (le-leb (at + length s) (length d) w.room); wrote = λ _. w.eq; kept = λ l. absurd (omega (arith, w.room)); same = wrote_same w }

pub entered : (w : List ℕ) (i : ℕ) {start size colon value : ℕ} → i + 4 ≤ length w
    → Put w i (row start size colon value) (set (set (set (set w i start) (i + 1) size) (i + 2) colon) (i + 3) value) true
entered w i {start} {size} {colon} {value} h =
    put_did
    (wrote_next value
    (wrote_next colon
    (wrote_next size (wrote_one (omega arith)) refl (simp length-set (omega arith)))
    (omega arith)
    (simp length-set (omega arith)))
    (omega arith)
    (simp length-set (omega arith)))

-- ---- what comes later changes none

part_agrees : (e f : List ℕ) (u a n : ℕ) → a + n ≤ u → take u f ≡ take u e → part f a n ≡ part e a n
unfolding part
part_agrees e f u a n h q =
    let x : part (take u f) a n ≡ part f a n = rw zero-add at (part-part f 0 u a n h) in
    let y : part (take u e) a n ≡ part e a n = rw zero-add at (part-part e 0 u a n h) in
    sym x ∙ (ap (λ (l : List ℕ). part l a n) q ∙ y)

word_agrees : (w v : List ℕ) (u i : ℕ) → i < u → take u v ≡ take u w → get_or v i 0 ≡ get_or w i 0
word_agrees w v u i h q = sym (get_or-take u v i 0 h) ∙ (ap (λ (l : List ℕ). get_or l i 0) q ∙ get_or-take u w i 0 h)

module _ (f v : List ℕ) (m : ℕ) {e w : List ℕ} {j n : ℕ} (p : Placed e w j n) (q : take n f ≡ take n e) (r : take m v ≡ take m w) (b : j * 4 + 4 ≤ m) where
  start_kept : start_at v j ≡ start_at w j
  start_kept = word_agrees w v m (j * 4) (omega arith) r

  size_kept : size_at v j ≡ size_at w j
  size_kept = word_agrees w v m (j * 4 + 1) (omega arith) r

  value-size_kept : value_size_at v j ≡ value_size_at w j
  value-size_kept = word_agrees w v m (j * 4 + 3) (omega arith) r

  pub name_kept : name_at f v j ≡ name_at e w j
  unfolding name_at
  name_kept = rw (start_kept, size_kept) (part_agrees e f n (start_at w j) (size_at w j) (omega (arith, p.within)) q)

  pub value_kept : value_at f v j ≡ value_at e w j
  unfolding value_at
  value_kept = rw (start_kept, size_kept, value-size_kept) (part_agrees e f n (start_at w j + size_at w j) (value_size_at w j) p.within q)

  pub placed_kept : (k : ℕ) → n ≤ k → Placed f v j k
  placed_kept k h =
      record {
        within = rw (start_kept, size_kept, value-size_kept) (omega (arith, p.within));
        colon = rw (name_kept, word_agrees w v m (j * 4 + 2) (omega arith) r) p.colon;
      }

pub attributes_kept : (e f w v : List ℕ) (n k : ℕ) → take n f ≡ take n e → take (k * 4) v ≡ take (k * 4) w → ((j : ℕ) → j < k → Placed e w j n)
    → attributes_of f v k ≡ attributes_of e w k
unfolding attributes_of
attributes_kept e f w v n zero q r p = refl
attributes_kept e f w v n (suc k) q r p =
    let s : take (k * 4) v ≡ take (k * 4) w = sym (take-take (k * 4) (suc k * 4) v (omega arith)) ∙ (ap (λ (l : List ℕ). take (k * 4) l) r ∙ take-take (k * 4) (suc k * 4) w (omega arith)) in
    let a : Placed e w k n = p k (omega arith) in
    let b : k * 4 + 4 ≤ suc k * 4 = omega arith in
    rw (attributes_kept e f w v n k q s (λ j h. p j (omega arith)), name_kept f v (suc k * 4) a q r b, value_kept f v (suc k * 4) a q r b)

-- ---- what a reader of attribute j finds

pub length-attributes : (e w : List ℕ) (k : ℕ) → length (attributes_of e w k) ≡ k
unfolding attributes_of
length-attributes e w zero = refl
length-attributes e w (suc k) = rw (length-append (attributes_of e w k) (attribute (name_at e w k) (value_at e w k) ∷ [])) (omega (arith, length-attributes e w k))

pub attribute_at_lem : (e w : List ℕ) (k j : ℕ) → j < k → get_elem? (attributes_of e w k) j ≡ some (attribute (name_at e w j) (value_at e w j))
unfolding attributes_of
attribute_at_lem e w zero j h = absurd (omega arith)
attribute_at_lem e w (suc k) j h = go (ltb j k) refl (attribute_at_lem e w k j)
  where
    row_of : ℕ → Attribute
    row_of i = attribute (name_at e w i) (value_at e w i)

    inside : (l : List Attribute) (i : ℕ) (a : Attribute) → i < length l → get_elem? (l ++ (a ∷ [])) i ≡ get_elem? l i
    inside [] i a h = absurd (omega arith)
    inside (x ∷ l) zero a h = refl
    inside (x ∷ l) (suc i) a h = inside l i a (omega arith)

    last : (l : List Attribute) (i : ℕ) (a : Attribute) → i ≡ length l → get_elem? (l ++ (a ∷ [])) i ≡ some a
    last [] zero a h = refl
    last [] (suc i) a h = absurd (omega arith)
    last (x ∷ l) zero a h = absurd (omega arith)
    last (x ∷ l) (suc i) a h = last l i a (omega arith)

    go : (t : Bool) → ltb j k ≡ t → (j < k → get_elem? (attributes_of e w k) j ≡ some (row_of j)) → get_elem? (attributes_of e w k ++ (row_of k ∷ [])) j ≡ some (row_of j)
    go true q f = inside (attributes_of e w k) j (row_of k) (omega (arith, length-attributes e w k, ltb-true j k q)) ∙ f (ltb-true j k q)
    go false q f =
        let z : j ≡ k = omega (arith, ltb-false j k q) in
        rw z (last (attributes_of e w k) k (row_of k) (sym (length-attributes e w k)))

-- name and value are parts of the scratch
pub name_at_lem : (e w : List ℕ) (j : ℕ) → name_at e w j ≡ part e (start_at w j) (size_at w j)
unfolding name_at
name_at_lem e w j = refl

pub value_at_lem : (e w : List ℕ) (j : ℕ) → value_at e w j ≡ part e (start_at w j + size_at w j) (value_size_at w j)
unfolding value_at
value_at_lem e w j = refl

-- and so are the prefix and the local part of the name
module _ {e w : List ℕ} {j n : ℕ} (p : Placed e w j n) where
  pub prefix_at : prefix_of (name_at e w j) ≡ part e (start_at w j) (colon_at w j - 1)
  unfolding name_at
  prefix_at = rw p.colon (prefix_part e (start_at w j) (size_at w j))

  pub local_at : local_of (name_at e w j) ≡ part e (start_at w j + colon_at w j) (size_at w j - colon_at w j)
  unfolding name_at
  local_at = rw p.colon (local_part e (start_at w j) (size_at w j))

-- ---- a line in the scratch

module _ {l : Bytes} {d e : List ℕ} {at n c v : ℕ} (r : Read l d e at n c v) where
  both : length (r.name ++ r.value) ≡ n + v
  both = rw (length-append r.name r.value) (omega (arith, r.name_size, r.value_size))

  name_there : part e at n ≡ r.name
  unfolding part
  name_there =
      let q : part (stored_at d at (r.name ++ r.value)) (at + 0) n ≡ part (r.name ++ r.value) 0 n =
      part-inside d at (r.name ++ r.value) 0 n r.wrote.room (omega (arith, both)) in
      rw r.wrote.eq (rw add-zero at q ∙ take_at r.name r.value n r.name_size)

  value_there : part e (at + n) v ≡ r.value
  unfolding part
  value_there =
      rw r.wrote.eq
      (part-inside d at (r.name ++ r.value) n v r.wrote.room (omega (arith, both))
      ∙ (ap (take v) (drop_at r.name r.value n r.name_size) ∙ take_all v r.value (omega (arith, r.value_size))))

  -- the words of it, entered at place k
  module _ {w u : List ℕ} {k : ℕ} {b : Bool} (p : Put w (k * 4) (row at n c v) u b) (h : k < length w / 4) where
    stored : u ≡ stored_at w (k * 4) (row at n c v)
    stored = p.wrote (omega arith)

    word : (i : ℕ) → i < 4 → get_or u (k * 4 + i) 0 ≡ get_or (row at n c v) i 0
    word i q = rw stored (get_d_stored w (k * 4) (row at n c v) (omega arith) i q)

    start_is : start_at u k ≡ at
    start_is = rw add-zero at (word 0 (omega arith))

    pub name_is : name_at e u k ≡ r.name
    unfolding name_at
    name_is = rw (start_is, word 1 (omega arith)) name_there

    pub value_is : value_at e u k ≡ r.value
    unfolding value_at
    value_is = rw (start_is, word 1 (omega arith), word 3 (omega arith)) value_there

    pub placed_is : Placed e u k (at + n + v)
    placed_is =
        record {
          within = rw (start_is, word 1 (omega arith), word 3 (omega arith)) (omega arith);
          colon = rw (word 2 (omega arith), name_is) r.colon;
        }

    pub words_before : take (k * 4) u ≡ take (k * 4) w
    words_before = rw stored (take_before w (k * 4) (row at n c v) (omega arith) (k * 4) (omega arith))

-- ---- `put_attribute`: a line that does not begin with a space, n bytes of it up to the next space

module _ (l : Bytes) {n : ℕ} (nonempty : 0 < length l) (e : n ≡ length (up_to is_space (drop 1 l))) where
  pub read_end : n + 1 ≤ length l
  read_end = omega (arith, length_up_to is_space (drop 1 l), length-drop 1 l)

  name_size : length (part l 1 n) ≡ n
  name_size = length_part l 1 n (omega (arith, read_end))

  pub read_name-room : (at : ℕ) (d : List ℕ) → at + length l ≤ length d → at + length (part l 1 n) ≤ length d
  read_name-room at d h = omega (arith, name_size, read_end)

  module _ (clear : eqb (get_or l 0 0) 32 ≡ false) (d f : List ℕ) (at : ℕ) where
    pub read_nameless : (is_q_name (part l 1 n) ≡ false) × Kept d f (at + length (part l 1 n)) → (read_attribute l ≡ refuse NotPyx) × Kept d f (at + length l)
    read_nameless m = (read_no_name l nonempty clear e m.0, kept_more m.1 (omega (arith, name_size, read_end)))

    module _ {c : ℕ} {g : List ℕ} (b : n + 1 < length l) (m : Name c (part l 1 n) d g at) where
      pub read_valueless : (unescape (drop (n + 2) l) ≡ refuse NotPyx) × Kept g f (at + n + length (drop (n + 2) l)) → (read_attribute l ≡ refuse NotPyx) × Kept d f (at + length l)
      read_valueless v = (
        read_wrong l nonempty clear e b m.qname v.0,
        kept_then (kept_wrote m.wrote (omega (arith, name_size))) (kept_more v.1 (omega (arith, length-drop (n + 2) l))),
      )

      -- a name in the scratch, and a value behind it
      pub read_both : {to : ℕ} → Stored (unescape (drop (n + 2) l)) (length (drop (n + 2) l)) g f (at + n) to → Read l d f at n c (to - (at + n))
      read_both {to} p =
          let up : to ≡ at + n + length p.text = p.wrote.up in
          let z : at + n + (to - (at + n)) ≡ to = omega arith in
          record {
            name = part l 1 n;
            value = p.text;
            is = read_good l nonempty clear e b p.text m.qname p.is;
            wrote = rw z (and_then (rw name_size at m.wrote) p.wrote);
            name_size = name_size;
            value_size = omega arith;
            colon = m.colon;
            colon_within = rw m.colon (omega (arith, colon_within (part l 1 n), name_size));
            short = omega (arith, p.short, length-drop (n + 2) l);
          }

-- ---- the loop over the lines: the next begins at `at`, `used` bytes of the scratch are used, k attributes are there

pub record Laying (s : Bytes) (from size : ℕ) (d e w v : List ℕ) (at used k : ℕ) : Type 0 where
  pub behind : Behind s d from size
  pub line : get_or s (at - 1) 0 ≡ 10
  pub nonempty : 0 < at
  pub within : at ≤ length s
  pub short : used ≤ at
  pub low : size ≤ used
  pub few : k ≤ at
  pub attributes : List Attribute
  pub rest : each read_attribute (lines_of (drop from s)) ≡ front attributes (each read_attribute (lines_of (drop at s)))
  pub count : length attributes ≡ k
  pub before : take size e ≡ take size d
  pub kept : Kept d e used
  pub words : length v ≡ length w
  pub told : k ≤ length w / 4 → attributes ≡ attributes_of e v k
  pub placed : k ≤ length w / 4 → (j : ℕ) → j < k → Placed e v j used

pub laying_begins : {s : Bytes} {from size : ℕ} {d w : List ℕ} → Behind s d from size → Laying s from size d d w w from size 0
unfolding attributes_of
laying_begins {s} {from} b =
    record {
      behind = b;
      line = b.line;
      nonempty = b.some;
      within = b.within;
      short = b.before;
      low = omega arith;
      few = omega arith;
      attributes = [];
      rest = front_nil (each read_attribute (lines_of (drop from s)));
      count = refl;
      before = refl;
      kept = kept_all;
      words = refl;
      told = λ _. refl;
      placed = λ _ j h. absurd (omega arith);
    }

-- no more lines
laying_over : {s : Bytes} {from size : ℕ} {d e w v : List ℕ} {at used k : ℕ} → Laying s from size d e w v at used k → lines_of (drop at s) ≡ [] → Laid s from size d e w v k
unfolding each
laying_over {s} {at = at} {used = used} t q =
    record {
      attributes = t.attributes;
      is = t.rest ∙ (rw q (front_good t.attributes [] ∙ ap good (append-nil t.attributes)));
      count = t.count;
      before = t.before;
      kept = kept_more t.kept (omega (arith, t.short, t.within));
      words = t.words;
      told = t.told;
      placed = λ h j b. placed_more (t.placed h j b) (omega (arith, t.short, t.within));
    }
  where
    placed_more : {e v : List ℕ} {j n m : ℕ} → Placed e v j n → n ≤ m → Placed e v j m
    placed_more p h = record { within = omega (arith, p.within); colon = p.colon }

pub laying_done : {s : Bytes} {from size : ℕ} {d e w v : List ℕ} {at used k : ℕ} → Laying s from size d e w v at used k → length s ≤ at → Laid s from size d e w v k
laying_done {s} {at = at} t h = laying_over t (no_line (drop at s) refl (omega (arith, length-drop at s)))

module _ {s : Bytes} {from size : ℕ} {d e w v : List ℕ} {at used k : ℕ} (t : Laying s from size d e w v at used k) {n : ℕ} (q : n ≡ length (up_to is_end (drop at s))) where
  pub laying_end : at + n ≤ length s
  laying_end = omega (arith, length_up_to is_end (drop at s), length-drop at s, t.within)

  pub laying_unended : at + n ≡ length s → Laid s from size d e w v k
  laying_unended h = laying_over t (no_line (drop at s) q (omega (arith, length-drop at s)))

  sized : length (part s at n) ≡ n
  sized = length_part s at n laying_end

  pub laying_clear : eqb (get_or (part s at n) 0 0) 32 ≡ false
  unfolding part
  laying_clear = clear_line s at n t.behind.clear t.nonempty t.line

  pub laying_room : used + length (part s at n) ≤ length e
  laying_room = omega (arith, sized, laying_end, t.kept.same, t.short, t.behind.room)

  module _ (h : at + n ≡ length s → ⊥) where
    ends : n < length (drop at s)
    ends = omega (arith, laying_end, length-drop at s)

    next : lines_of (drop at s) ≡ part s at n ∷ lines_of (drop (at + n + 1) s)
    unfolding part
    next = let z : at + (n + 1) ≡ at + n + 1 = omega arith in first_line (drop at s) q ends ∙ rw (drop-drop (n + 1) at s, z)

    end_there : get_or s (at + n) 0 ≡ 10
    end_there = eqb-true (get_or s (at + n) 0) 10 (rw (get_or-drop at s n 0) at (rw (← q) at (up_to_stop is_end (drop at s) (rw (← q) ends))))

    pub laying_wrong : {f : List ℕ} → (read_attribute (part s at n) ≡ refuse NotPyx) × Kept e f (used + length (part s at n))
        → (each read_attribute (lines_of (drop from s)) ≡ refuse NotPyx) × (Kept d f (length s)) × (length v ≡ length w)
    laying_wrong r = (
      t.rest ∙ (rw (next, each_refuse read_attribute (part s at n) (lines_of (drop (at + n + 1) s)) NotPyx r.0) (front_refuse t.attributes NotPyx)),
      kept_then (kept_more t.kept (omega (arith, t.short, t.within))) (kept_more r.1 (omega (arith, sized, laying_end, t.short))),
      t.words,
    )

    module _ {f : List ℕ} {m c x : ℕ} (r : Read (part s at n) e f used m c x) where
      pub laying_within : used + m + x ≤ at + n
      laying_within = omega (arith, r.short, sized, t.short)

      pub laying_small : Small used m c x
      laying_small = record { ends = omega (arith, laying_within, laying_end, t.behind.most); colon_within = r.colon_within }

      module _ {u : List ℕ} {b : Bool} (p : Put v (k * 4) (row used m c x) u b) where
        module _ (fits : k + 1 ≤ length w / 4) where
          room : k < length v / 4
          room = omega (arith, t.words)

          front_kept : take used f ≡ take used e
          front_kept = wrote_before r.wrote

          told_more : t.attributes ++ (attribute r.name r.value ∷ []) ≡ attributes_of f u (suc k)
          unfolding attributes_of
          told_more =
              rw (t.told (omega arith), name_is r p room, value_is r p room, attributes_kept e f v u used k front_kept (words_before r p room) (t.placed (omega arith)))

          placed_more : (j : ℕ) → j < k + 1 → Placed f u j (used + m + x)
          placed_more j h = go (ltb j k) refl
            where
              go : (y : Bool) → ltb j k ≡ y → Placed f u j (used + m + x)
              go true g =
                  let l : j < k = ltb-true j k g in
                  placed_kept f u (k * 4) (t.placed (omega arith) j l) front_kept (words_before r p room) (omega arith) (used + m + x) (omega arith)
              go false g = let z : j ≡ k = omega (arith, ltb-false j k g) in rw z (placed_is r p room)

        pub laying_more : Laying s from size d f w u (at + n + 1) (used + m + x) (k + 1)
        laying_more =
            let z : at + n + 1 - 1 ≡ at + n = omega arith in
            record {
              behind = t.behind;
              line = rw z end_there;
              nonempty = omega arith;
              within = omega (arith, laying_end);
              short = omega (arith, laying_within);
              low = omega (arith, t.low);
              few = omega (arith, t.few);
              attributes = t.attributes ++ (attribute r.name r.value ∷ []);
              rest =
                  t.rest
                  ∙ (rw (next, each_good read_attribute (part s at n) (lines_of (drop (at + n + 1) s)) (attribute r.name r.value) r.is)
                  (front_front t.attributes (attribute r.name r.value ∷ []) (each read_attribute (lines_of (drop (at + n + 1) s)))));
              count = rw (length-append t.attributes (attribute r.name r.value ∷ [])) (omega (arith, t.count));
              before =
                  sym (take-take size used f t.low) ∙ (ap (λ (l : List ℕ). take size l) (wrote_before r.wrote) ∙ (take-take size used e t.low ∙ t.before));
              kept = kept_then (kept_more t.kept (omega arith)) (kept_wrote r.wrote (omega arith));
              words = p.same ∙ t.words;
              told = λ g. rw (add-one k) (told_more g);
              placed = placed_more;
            }
