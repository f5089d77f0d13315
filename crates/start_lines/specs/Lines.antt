-- The lines of a start tag: the loop over its property attributes, and what the calls write in the definitions' words.
use Rattle.std.proofs.lemmas.Bool.Decides.{nat_tests}
use Rattle.std.proofs.Common.{ltb}
use Rattle.std.specs.Prelude.{◌≡◌, refl, Bool, true, false, not, ℕ, suc, ◌+◌, ◌-◌, ◌<◌, ◌≤◌, eqb, length, get_or}
use Rattle.std.proofs.Common.{sym, ◌∙◌, add-one, arith}
use Rattle.std.proofs.Math.Option.{none, some}
use mathlib.Core.List.{List, [], ◌∷◌, ◌++◌, append_assoc, append-nil}
use Rattle.std.proofs.Math.ListN.{get_or-eq_default}
use Rattle.spec.specs.Bytes.{Bytes, ascii, when◌then◌else◌, same}
use Rattle.spec.specs.NTriples.{Subject, named, node, Triple, triple, line, write}
use Rattle.spec.specs.Rdf.{rdf}
use Rattle.spec.specs.Namespaces.{xml_name}
use Rattle.spec.specs.XmlLang.{written, Language}
use Rattle.spec.specs.StartTag.{property, role_number, property_attributes, Tag}
use Rattle.spec.specs.Productions.{literal_of, attribute_lines, type_line, tag_lines, element_type}
use Rattle.writer.specs.Put.{Put, most, puts, put_as, put_none}
use Rattle.ntriples.specs.declared.Term.TheVariants as term-kind
use Rattle.ntriples.specs.declared.Term as K
use Rattle.ntriples.specs.Terms.{term_of, in_rdf, id_of as given}
use Rattle.ntriples.specs.Lines.{write-one}
use Rattle.state.specs.Language.{language_of}
use Rattle.start_names.specs.declared.Class.{Class}
use Rattle.start_names.specs.Tag.{value_at}
use Rattle.start_names.specs.Classes.{class_at, space_by}
use Rattle.start_attributes.specs.Reads.{meanings_of, Roles}
use Rattle.start_attributes.specs.Properties.{space_at, local_at, properties_from, properties, properties_end}

-- a text, with a tag where there is one
unfoldable pub literal_kind : Bytes → K.Term
literal_kind [] = term-kind.Plain
literal_kind (c ∷ l) = term-kind.Tagged

literal-kind : (v l : Bytes) → term_of (literal_kind l) v l ≡ literal_of none (language_of l) v
unfolding literal_kind term_of language_of literal_of written
literal-kind v [] = refl
literal-kind v (c ∷ l) = refl

-- ---- lines in a row

write-append : (ts us : List Triple) → write (ts ++ us) ≡ write ts ++ write us
unfolding write
write-append [] us = refl
write-append (t ∷ ts) us = rw (write-append ts us, append_assoc)

lines-append : (s : Subject) (l : Language) (a b : List (Bytes × Bytes)) → attribute_lines s l (a ++ b) ≡ attribute_lines s l a ++ attribute_lines s l b
unfolding attribute_lines
lines-append s l [] b = refl
lines-append s l (x ∷ a) b = rw (lines-append s l a b)

pub lines_then : (a b : List Triple) → write a ++ write b ≡ write (a ++ b)
lines_then a b = sym (write-append a b)

-- ---- one attribute

-- is it a property?
pub role_none : (rs : List ℕ) (j : ℕ) → length rs ≤ j → ltb j (length rs) ≡ eqb (get_or rs j 0) (role_number property)
unfolding role_number
role_none rs j h = let none : ltb j (length rs) ≡ false = grind (arith, nat_tests) in none ∙ rw (get_or-eq_default rs 0 {n = j} h)

module _ (e w v cs rs : List ℕ) (j : ℕ) where
  not_one : eqb (get_or rs j 0) (role_number property) ≡ false → properties_from e w v cs rs j 1 ≡ []
  unfolding properties_from when◌then◌else◌
  not_one h = rw h

  one : eqb (get_or rs j 0) (role_number property) ≡ true → properties_from e w v cs rs j 1 ≡ (space_at e v cs j ++ local_at e w j, value_at e w j) ∷ []
  unfolding properties_from when◌then◌else◌
  one h = rw h

-- the tests of `emit_property_attr`; c is the class that was loaded, n its namespace
module _ {on : Bool} {d : List ℕ} {at : ℕ} (s : Subject) (l : Language) (e w v cs rs : List ℕ) (j : ℕ) where
  pub no_line : eqb (get_or rs j 0) (role_number property) ≡ false → at ≤ most → Put on d d at at (write (attribute_lines s l (properties_from e w v cs rs j 1)))
  unfolding attribute_lines write
  no_line h m = rw (not_one e w v cs rs j h) (put_none m)

  pub one_line : {f : List ℕ} {to : ℕ} {n : Bytes} {c : Class} → Put on d f at to (line (triple s (n ++ local_at e w j) (literal_of none l (value_at e w j))))
      → eqb (get_or rs j 0) (role_number property) ≡ true → c ≡ class_at cs j → n ≡ space_by e v xml_name c → Put on d f at to (write (attribute_lines s l (properties_from e w v cs rs j 1)))
  unfolding attribute_lines
  one_line p h q r = put_as p (rw (r, q, one e w v cs rs j h) (write-one (triple s (space_at e v cs j ++ local_at e w j) (literal_of none l (value_at e w j)))))

-- what `property_line` writes, from what it has read
pub property-text : (s : Subject) (n : Bytes) {x y : Bytes} {k : K.Term} (g : Bytes) (e w : List ℕ) (j : ℕ) → x ≡ local_at e w j → y ≡ value_at e w j → k ≡ literal_kind g
    → line (triple s (n ++ x) (term_of k (y ++ []) g)) ≡ line (triple s (n ++ local_at e w j) (literal_of none (language_of g) (value_at e w j)))
property-text s n {x} {y} g e w j p q r = rw (append-nil y, r, literal-kind y g, p, q)

-- ---- all of them: the loop of `emit_property_attrs` has come to attribute j of k, and f is behind what it wrote

pub record Emitting (on : Bool) (d f : List ℕ) (at to : ℕ) (s : Subject) (l : Language) (e w v cs rs : List ℕ) (k j : ℕ) : Type 0 where
  pub upto : j ≤ k
  pub bytes : Bytes
  pub all : write (attribute_lines s l (properties_from e w v cs rs 0 k)) ≡ bytes ++ write (attribute_lines s l (properties_from e w v cs rs j (k - j)))
  pub put : Put on d f at to bytes

rest-split : (e w v cs rs : List ℕ) (k j : ℕ) → j < k → properties_from e w v cs rs j (k - j) ≡ properties_from e w v cs rs j 1 ++ properties_from e w v cs rs (j + 1) (k - (j + 1))
unfolding properties_from when◌then◌else◌
rest-split e w v cs rs k j h = let s : k - j ≡ suc (k - (j + 1)) = omega arith in rw (s, add-one j) (go (eqb (get_or rs j 0) (role_number property)) refl)
  where
    go : (t : Bool) → eqb (get_or rs j 0) (role_number property) ≡ t
        → properties_from e w v cs rs j (suc (k - suc j)) ≡ properties_from e w v cs rs j 1 ++ properties_from e w v cs rs (suc j) (k - suc j)
    go true q = rw q
    go false q = rw q

module _ {on : Bool} {d : List ℕ} {at : ℕ} {s : Subject} {l : Language} {e w v cs rs : List ℕ} {k : ℕ} where
  pub emitting_begins : at ≤ most → Emitting on d d at at s l e w v cs rs k 0
  emitting_begins m =
      let z : k - 0 ≡ k = omega arith in
      record { upto = omega arith; bytes = []; all = rw z; put = put_none m }

  module _ {f : List ℕ} {to j : ℕ} (h : Emitting on d f at to s l e w v cs rs k j) where
    pub emitting_more : {g : List ℕ} {up : ℕ} → j < k → Put on f g to up (write (attribute_lines s l (properties_from e w v cs rs j 1))) → Emitting on d g at up s l e w v cs rs k (j + 1)
    emitting_more b p =
        record {
          upto = omega arith;
          bytes = h.bytes ++ write (attribute_lines s l (properties_from e w v cs rs j 1));
          all = h.all ∙ rw (rest-split e w v cs rs k j b, lines-append, write-append) (sym (append_assoc h.bytes _ _));
          put = puts h.put p;
        }

    pub emitting_done : k ≤ j → Put on d f at to (write (attribute_lines s l (properties_from e w v cs rs 0 k)))
    unfolding attribute_lines write
    emitting_done b = put_as h.put (sym (h.all ∙ rw (properties_end e w v cs rs k j b) (append-nil h.bytes)))

-- ---- an rdf:type line

module _ {on : Bool} {d : List ℕ} {at : ℕ} (s : Subject) {t : Bool} (i : Bytes) where
  pub no_type : t ≡ false → at ≤ most → Put on d d at at (write (type_line s (given t i)))
  unfolding given type_line write
  no_type h m = rw h (put_none m)

  pub one_type : {f : List ℕ} {to : ℕ} → t ≡ true → Put on d f at to (line (triple s (in_rdf (ascii "type")) (term_of term-kind.Named (i ++ []) []))) → Put on d f at to (write (type_line s (given t i)))
  unfolding given type_line term_of in_rdf rdf
  one_type h p = rw h (put_as p (rw append-nil (write-one (triple s (rdf "type") (node (named i))))))

-- ---- what callers learn: the lines of a start tag t about s

-- the type of a node element, unless it is rdf:Description
pub element_type_lem : (i : Bytes) {x : Bool} → x ≡ not (same i (rdf "Description")) → given x i ≡ element_type i
unfolding given element_type when◌then◌else◌
element_type_lem i q = rw q (go (same i (rdf "Description")))
  where
    go : (t : Bool) → given (not t) i ≡ (when t then none else some i)
    go true = refl
    go false = refl

module _ {e w v cs rs : List ℕ} {k : ℕ} (h : Roles e w v cs rs k) (s : Subject) (t : Tag) (a : t.attributes ≡ property_attributes (meanings_of e w v cs k))
    (tag : Bytes) (l : t.language ≡ language_of tag) (typed : Bool) (kind : Bytes) (y : t.type ≡ given typed kind) where
  pub tag-lines : attribute_lines s (language_of tag) (properties_from e w v cs rs 0 k) ++ type_line s (given typed kind) ≡ tag_lines s t
  unfolding tag_lines
  tag-lines = rw (l, y, a, properties h)

  pub node_lines_lem : (x : Bool) → x ≡ not (same t.iri (rdf "Description"))
      → (attribute_lines s (language_of tag) (properties_from e w v cs rs 0 k) ++ type_line s (given typed kind)) ++ type_line s (given x t.iri)
      ≡ tag_lines s t ++ type_line s (element_type t.iri)
  node_lines_lem x q = rw (tag-lines, element_type_lem t.iri q)
