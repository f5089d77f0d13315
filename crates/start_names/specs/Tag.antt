-- The attributes of a start tag, from its decoded bytes and the words that tell where they are: four for each.
use Rattle.std.specs.Prelude.{◌≡◌, Bool, true, false, List, [], ◌∷◌, ◌++◌, ℕ, zero, suc, ◌+◌, ◌-◌, ◌*◌, ◌<◌, ◌≤◌, length, get_or, take, drop}
use Rattle.std.proofs.Math.Path.{refl, sym}
use Rattle.std.proofs.Common.{ap, ◌∙◌, add-zero, zero-add, add-one, arith, drop_of_length-le, drop-drop}
use Rattle.std.proofs.Math.ListN.{get_or-eq_default}
use Rattle.spec.specs.Bytes.{Bytes, ascii, when◌then◌else◌, up_to, from, among}
use Rattle.spec.specs.XmlNames.{no_colon, prefix_of, local_of}
use Rattle.spec.specs.Pyx.{Attribute, attribute}
use Rattle.copy.specs.Copy.{part, rest_of}
use Rattle.copy.specs.Texts.{up_to_take, from-drop, after_drop}

-- ---- what the words say

-- of attribute j: where its name starts, the name's length, the place of its colon plus 1 or 0, the value's length
abbrev pub start_at : List ℕ → ℕ → ℕ
start_at w j = get_or w (j * 4) 0

abbrev pub size_at : List ℕ → ℕ → ℕ
size_at w j = get_or w (j * 4 + 1) 0

abbrev pub colon_at : List ℕ → ℕ → ℕ
colon_at w j = get_or w (j * 4 + 2) 0

abbrev pub value_size_at : List ℕ → ℕ → ℕ
value_size_at w j = get_or w (j * 4 + 3) 0

-- its name and its value, which stands right behind the name
unfoldable pub name_at : List ℕ → List ℕ → ℕ → Bytes
name_at e w j = part e (start_at w j) (size_at w j)

unfoldable pub value_at : List ℕ → List ℕ → ℕ → Bytes
value_at e w j = part e (start_at w j + size_at w j) (value_size_at w j)

unfoldable pub attribute_at : List ℕ → List ℕ → ℕ → Attribute
attribute_at e w j = attribute (name_at e w j) (value_at e w j)

-- m attributes from j on, in written order
unfoldable pub attributes_from : List ℕ → List ℕ → ℕ → ℕ → List Attribute
attributes_from e w j zero = []
attributes_from e w j (suc m) = attribute_at e w j ∷ attributes_from e w (suc j) m

-- the first k attributes
abbrev pub attributes_of : List ℕ → List ℕ → ℕ → List Attribute
attributes_of e w k = attributes_from e w 0 k

-- all, one of them, and none
pub attributes_all : (e w : List ℕ) (k : ℕ) → attributes_of e w k ≡ attributes_from e w 0 (k - 0)
attributes_all e w k = let z : k - 0 ≡ k = omega arith in rw z

pub attributes_more : (e w : List ℕ) (k j : ℕ) → j < k → attributes_from e w j (k - j) ≡ attribute_at e w j ∷ attributes_from e w (j + 1) (k - (j + 1))
unfolding attributes_from
attributes_more e w k j h = let s : k - j ≡ suc (k - (j + 1)) = omega arith in rw (s, add-one j)

pub attributes_end : (e w : List ℕ) (k j : ℕ) → k ≤ j → attributes_from e w j (k - j) ≡ []
unfolding attributes_from
attributes_end e w k j h = let z : k - j ≡ 0 = omega arith in rw z

-- the last of them
attributes-last : (e w : List ℕ) (j m : ℕ) → attributes_from e w j (suc m) ≡ attributes_from e w j m ++ (attribute_at e w (j + m) ∷ [])
unfolding attributes_from
attributes-last e w j zero = rw (add-zero j)
attributes-last e w j (suc m) =
    let s : suc j + m ≡ j + suc m = omega arith in
    ap (attribute_at e w j ∷◌) (attributes-last e w (suc j) m ∙ ap (λ (i : ℕ). attributes_from e w (suc j) m ++ (attribute_at e w i ∷ [])) s)

pub last_of : (e w : List ℕ) (k : ℕ) → attributes_of e w (suc k) ≡ attributes_of e w k ++ (attribute_at e w k ∷ [])
last_of e w k = attributes-last e w 0 k ∙ rw (zero-add k)

pub last_attribute : (e w : List ℕ) (k : ℕ) → attributes_of e w (suc k) ≡ attributes_of e w k ++ (attribute (name_at e w k) (value_at e w k) ∷ [])
unfolding attribute_at
last_attribute e w k = last_of e w k

-- ---- a name in two, where its colon's place plus 1, or 0, is c

unfoldable pub front_of : ℕ → Bytes → Bytes
front_of c n = take (c - 1) n

unfoldable pub back_of : ℕ → Bytes → Bytes
back_of c n = drop c n

-- c tells a name's prefix and its local part
pub record Split (c : ℕ) (n : Bytes) : Type 0 where
  pub front : front_of c n ≡ prefix_of n
  pub back : back_of c n ≡ local_of n

-- the third words of the first k attributes do
pub record Splits (e w : List ℕ) (k : ℕ) : Type 0 where
  pub at : (j : ℕ) → j < k → Split (colon_at w j) (name_at e w j)

-- the place of the first colon plus 1, or 0
pub colon_splits : (n : Bytes) → Split (when no_colon n then 0 else suc (length (up_to (among (ascii ":")) n))) n
unfolding front_of back_of prefix_of local_of when◌then◌else◌ ascii
colon_splits n = go (no_colon n) refl
  where
    go : (t : Bool) → no_colon n ≡ t → Split (when t then 0 else suc (length (up_to (among (ascii ":")) n))) n
    go true h = record { front = rw h; back = rw h }
    go false h =
        record {
          front = let z : suc (length (up_to (among (ascii ":")) n)) - 1 ≡ length (up_to (among (ascii ":")) n) = omega arith in rw (h, z) (sym (up_to_take (among (ascii ":")) n));
          back = rw (h, after_drop (ascii ":") (from (among (ascii ":")) n), from-drop (among (ascii ":")) n, drop-drop 1 (length (up_to (among (ascii ":")) n)) n, add-one (length (up_to (among (ascii ":")) n)));
        }

-- ---- a word of a table, 0 where the table is too short

pub record Word (w : List ℕ) (i r : ℕ) : Type 0 where
  pub is : r ≡ get_or w i 0
  pub small : r < 4294967296

pub word_none : {w : List ℕ} {i : ℕ} → length w ≤ i → Word w i 0
word_none {w} {i} h = record { is = sym (get_or-eq_default w 0 {n = i} h); small = omega arith }

pub word_here : {w : List ℕ} {i j r : ℕ} → i ≡ j → (r ≡ get_or w i 0) × (r < 4294967296) → Word w j r
word_here {w} e h = record { is = h.0 ∙ ap (λ (m : ℕ). get_or w m 0) e; small = h.1 }

-- an attribute's words give its name and its value
pub start_word : (w : List ℕ) (j : ℕ) {at : ℕ} → Word w (j * 4 + 0) at → at ≡ start_at w j
start_word w j p = p.is ∙ ap (λ (m : ℕ). get_or w m 0) (add-zero (j * 4))

module _ (e : List ℕ) {w : List ℕ} (j : ℕ) {at n : ℕ} (p : Word w (j * 4 + 0) at) (q : Word w (j * 4 + 1) n) where
  pub name_read : part e at n ≡ name_at e w j
  unfolding name_at
  name_read = rw (start_word w j p, q.is)

  pub value_read : {v : ℕ} → Word w (j * 4 + 3) v → part e (at + n) v ≡ value_at e w j
  unfolding value_at
  value_read r = rw (start_word w j p, q.is, r.is)

-- the two parts of its name, from the name and the third word
module _ (e w : List ℕ) (j : ℕ) {c : ℕ} {n : Bytes} (p : n ≡ name_at e w j) (q : Word w (j * 4 + 2) c) where
  pub front_read : front_of c n ≡ front_of (colon_at w j) (name_at e w j)
  front_read = rw (p, q.is)

  pub back_read : back_of c n ≡ back_of (colon_at w j) (name_at e w j)
  back_read = rw (p, q.is)

-- ---- a name in two

module _ (n : Bytes) (c : ℕ) where
  pub front_none : c ≡ 0 → [] ≡ front_of c n
  unfolding front_of
  front_none h = rw h

  pub front_piece : part n 0 (c - 1) ≡ front_of c n
  unfolding front_of part
  front_piece = refl

  pub back_none : length n < c → [] ≡ back_of c n
  unfolding back_of
  back_none h = sym (drop_of_length-le n {i = c} (omega arith))

  pub back_rest : take (length n - c) (drop c n) ≡ back_of c n
  unfolding back_of
  back_rest = rest_of n c
