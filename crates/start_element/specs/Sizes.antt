-- How many bytes a new element holds.
use Rattle.std.specs.Prelude.{◌≡◌, Bool, ℕ, zero, suc, ◌+◌, ◌-◌, ◌*◌, ◌<◌, ◌≤◌, eqb}
use Rattle.std.proofs.Math.Path.{refl, ap}
use Rattle.std.proofs.Common.{sym, eqb-true}
use Rattle.std.proofs.Math.Bool.{true, false}
use mathlib.Core.List.{List, ◌∷◌, map}
use native.Mathlib.Omega.{arith}
use Rattle.std.proofs.Math.ListN.{length, length-drop}
use Rattle.spec.specs.Bytes.{Bytes, ascii, when◌then◌else◌, those, after, size_of, total}
use Rattle.spec.specs.Pyx.{Attribute}
use Rattle.spec.specs.Namespaces.{is_declaration, declares, declared}
use Rattle.spec.specs.NTriples.{Subject, named, blank}
use Rattle.spec.specs.Document.{no_object, node_object, text_object, subject_bytes, object_bytes, value_bytes, kind_bytes, binding_bytes, frame_bytes}
use Rattle.copy.specs.Copy.{part}
use Rattle.copy.specs.Texts.{after_drop}
use Rattle.state_words.specs.declared.Kind.{Kind}
use Rattle.state_words.specs.declared.Kind.TheVariants.{Rdf, NodeElt, PropertyElt, ParseTypeCollectionPropertyElt, ParseTypeLiteralPropertyElt, ParseTypeOtherPropertyElt, Wrapper}
use Rattle.state_words.specs.Words.{pick}
use Rattle.copy.specs.Copy.{part_short}
use Rattle.state.specs.Language.{tag_of_own, tag_short, bytes_by}
use Rattle.state.specs.declared.language.Own as said
use Rattle.state.specs.Meaning.{object_of}
use Rattle.start_names.specs.Tag.{start_at, size_at, value_size_at, name_at, value_at, attribute_at, attributes_from, attributes_of, attributes_all, attributes_more, attributes_end}
use Rattle.start_names.specs.Declarations.{binding}
use Rattle.start_element.specs.declared.Source.{Source}
use Rattle.start_element.specs.declared.Source.TheVariants.{Missing, Own, Made}
use Rattle.start_element.specs.declared.Parts.{Parts}
use Rattle.start_element.specs.Element.{word_of, text_of, maybe, node_is, property_is, kind_is, new_element, Lacks, Fitting}

-- ---- what the caller knows: sums of a few lengths fit a number

-- all parts
abbrev pub parts_bytes : Parts → List ℕ → List ℕ → ℕ
parts_bytes p e a =
    length (text_of p.base e a) + length (tag_of_own p.tag a) + length (text_of p.main e a) + length (text_of p.id e a) + length (text_of p.datatype e a) + length (text_of p.object e a)

pub record Short (e a : List ℕ) : Type 0 where
  pub event : length e ≤ 65_536
  pub area : length a ≤ 65_536

module _ {e a : List ℕ} (x : Short e a) where
  text_short : (s : Source) → length (text_of s e a) ≤ 65_536
  unfolding text_of
  text_short Missing = omega arith
  text_short (Own i n) = omega (arith, part_short e i n)
  text_short (Made i n) = omega (arith, part_short a i n)

  pub few-text : (s : Source) {n : ℕ} → n ≡ length (text_of s e a) → n ≤ 65_536
  few-text s {n} h = omega (arith, text_short s)

  pub few-tag : (o : said.Own) {s : Bytes} → s ≡ tag_of_own o a → length s ≤ 65_536
  few-tag o h = omega (arith, ap length h, tag_short o a)

  pub few_parts : (p : Parts) {n : ℕ} → n ≡ parts_bytes p e a → n ≤ 393_216
  few_parts p {n} h =
      omega (arith, text_short p.base, tag_short p.tag a, text_short p.main, text_short p.id, text_short p.datatype, text_short p.object)

-- ---- the bytes of the bindings

-- of one attribute
unfoldable pub bytes_in : Attribute → ℕ
bytes_in a = when is_declaration a then binding_bytes (declares a) else 0

module _ (e w : List ℕ) (j : ℕ) where
  pub no_bytes : is_declaration (attribute_at e w j) ≡ false → 0 ≡ bytes_in (attribute_at e w j)
  unfolding bytes_in when◌then◌else◌
  no_bytes h = rw h

  -- n is its name, p the prefix that it binds, v its value
  pub these_bytes : {n p v : Bytes} → is_declaration (attribute_at e w j) ≡ true → n ≡ name_at e w j → p ≡ after (ascii "xmlns:") n → v ≡ value_at e w j
      → length p + length v ≡ bytes_in (attribute_at e w j)
  unfolding bytes_in when◌then◌else◌ binding_bytes
  these_bytes h x y z = rw (h, ← binding e w j h x y z)

  pub few_bytes : length e ≤ 65_536 → bytes_in (attribute_at e w j) ≤ 131_072
  unfolding bytes_in when◌then◌else◌ binding_bytes declares attribute_at name_at value_at
  few_bytes h =
      go (is_declaration (attribute_at e w j))
    where
      short : length (after (ascii "xmlns:") (name_at e w j)) + length (value_at e w j) ≤ 131_072
      short =
          let n = ap length (after_drop (ascii "xmlns:") (name_at e w j)) in
          let d = length-drop (length (ascii "xmlns:")) (name_at e w j) in
          omega (arith, part_short e (start_at w j) (size_at w j), part_short e (start_at w j + size_at w j) (value_size_at w j))

      go : (t : Bool) → (when t then binding_bytes (declares (attribute_at e w j)) else 0) ≤ 131_072
      go true = short
      go false = omega arith

pub declared_bytes : (a : Attribute) (as' : List Attribute) → total binding_bytes (declared (a ∷ as')) ≡ bytes_in a + total binding_bytes (declared as')
unfolding declared those bytes_in when◌then◌else◌ total
declared_bytes a as' = go (is_declaration a)
  where
    go : (t : Bool) → total binding_bytes (map declares (when t then (a ∷ those is_declaration as') else those is_declaration as')) ≡ (when t then binding_bytes (declares a) else 0) + total binding_bytes (declared as')
    go true = refl
    go false = omega arith

pub few-declared : (e : List ℕ) → length e ≤ 65_536 → (w : List ℕ) (j m : ℕ) → total binding_bytes (declared (attributes_from e w j m)) ≤ m * 131_072
unfolding attributes_from declared those total
few-declared e h w j zero = omega arith
few-declared e h w j (suc m) =
    omega (arith, declared_bytes (attribute_at e w j) (attributes_from e w (suc j) m), few_bytes e w j h, few-declared e h w (suc j) m)

-- the loop of `declared_size`: the first j attributes have n bytes
pub record Summed (e w : List ℕ) (k j n : ℕ) : Type 0 where
  pub upto : j ≤ k
  pub most : n ≤ j * 131_072
  pub rest : total binding_bytes (declared (attributes_of e w k)) ≡ n + total binding_bytes (declared (attributes_from e w j (k - j)))

pub summed_begins : {e w : List ℕ} {k : ℕ} → Summed e w k 0 0
summed_begins {e} {w} {k} =
    record { upto = omega arith; most = omega arith; rest = omega (arith, ap (λ (x : List Attribute). total binding_bytes (declared x)) (attributes_all e w k)) }

module _ {e w : List ℕ} {k j n : ℕ} (h : Summed e w k j n) where
  pub summed_more : {m : ℕ} → length e ≤ 65_536 → j < k → m ≡ bytes_in (attribute_at e w j) → Summed e w k (j + 1) (n + m)
  summed_more {m} z l q =
      let s = declared_bytes (attribute_at e w j) (attributes_from e w (j + 1) (k - (j + 1))) in
      let t = ap (λ (x : List Attribute). total binding_bytes (declared x)) (attributes_more e w k j l) in
      let few = few_bytes e w j z in
      record { upto = omega arith; most = omega arith; rest = omega arith }

  pub summed_done : k ≤ j → n ≡ total binding_bytes (declared (attributes_of e w k))
  unfolding declared those total
  summed_done l = let t = ap (λ (x : List Attribute). total binding_bytes (declared x)) (attributes_end e w k j l) in omega arith

-- ---- the bytes of the parts

pub maybe-size : (s : Source) (e a : List ℕ) → size_of (maybe s e a) ≡ length (text_of s e a)
unfolding maybe text_of size_of
maybe-size Missing e a = refl
maybe-size (Own i n) e a = refl
maybe-size (Made i n) e a = refl

pub missing_size : {s : Source} (e a : List ℕ) → s ≡ Missing → length (text_of s e a) ≡ 0
unfolding text_of
missing_size e a h = rw h

object-size : (h : ℕ) (s : Bytes) → (h ≡ 0 → length s ≡ 0) → object_bytes (object_of h s) ≡ length s
unfolding object_of object_bytes subject_bytes
object-size h s z = go (eqb h 0) (eqb h 1) (eqb h 2) (λ e. z (eqb-true h 0 e))
  where
    go : (x y u : Bool) → (x ≡ true → length s ≡ 0) → object_bytes (pick x no_object (pick y (node_object (named s)) (pick u (node_object (blank s)) (text_object s)))) ≡ length s
    go true y u k = sym (k refl)
    go false true u k = refl
    go false false true k = refl
    go false false false k = refl

module _ (p : Parts) (e a : List ℕ) (s : Subject) where
  node-size : (b : Bool) (t : Bytes) → subject_bytes (node_is b t) ≡ length t
  unfolding node_is subject_bytes
  node-size true t = refl
  node-size false t = refl

  kind-size : (q : Kind) → Lacks q p
      → kind_bytes (kind_is q p e a s) ≡ length (text_of p.main e a) + length (text_of p.id e a) + length (text_of p.datatype e a) + length (text_of p.object e a)
  unfolding kind_is kind_bytes value_bytes property_is total
  kind-size Rdf l = omega (arith, missing_size e a l.0, missing_size e a l.1, missing_size e a l.2, missing_size e a l.3)
  kind-size NodeElt l = omega (arith, node-size p.blank (text_of p.main e a), missing_size e a l.0, missing_size e a l.1, missing_size e a l.2)
  kind-size PropertyElt l =
      omega (arith, maybe-size p.id e a, maybe-size p.datatype e a, object-size (word_of p.what) (text_of p.object e a) (λ z. missing_size e a (l z)))
  kind-size ParseTypeCollectionPropertyElt l = omega (arith, maybe-size p.id e a, missing_size e a l.0, missing_size e a l.1)
  kind-size ParseTypeLiteralPropertyElt l = omega (arith, maybe-size p.id e a, missing_size e a l.0, missing_size e a l.1)
  kind-size Wrapper l = omega (arith, missing_size e a l.0, missing_size e a l.1, missing_size e a l.2, missing_size e a l.3)
  kind-size ParseTypeOtherPropertyElt l = omega (arith, maybe-size p.id e a, missing_size e a l.0, missing_size e a l.1)

-- the bytes of a new element, whatever the subject around it
pub record Measures (e w : List ℕ) (m k : ℕ) (a : List ℕ) (p : Parts) (n : ℕ) : Type 0 where
  pub bytes : (s : Subject) → frame_bytes (new_element e w m k a p s) ≡ n

pub measured : (e w : List ℕ) (m k : ℕ) (a : List ℕ) (p : Parts) {t : Bytes} {b n : ℕ} → Fitting p → t ≡ part e 0 m
    → b ≡ total binding_bytes (declared (attributes_of e w k)) → n ≡ parts_bytes p e a → Measures e w m k a p (length t + b + n)
unfolding new_element frame_bytes part
measured e w m k a p {t} {b} {n} f x y z =
    record { bytes = λ s. omega (arith, ap length x, kind-size p e a s p.kind f.lacks, maybe-size p.base e a, bytes_by p.tag a) }
