-- The XML text of a start tag, piece by piece.
use Rattle.std.specs.Prelude.{◌≡◌, true, List, ◌++◌, ℕ, ◌+◌, ◌<◌, ◌≤◌}
use Rattle.std.proofs.Common.{add-one, arith}
use Rattle.spec.specs.Bytes.{Bytes}
use Rattle.spec.specs.Pyx.{Attribute, attribute}
use Rattle.spec.specs.XmlLiteral.{attribute_xml, attributes_xml, start_tag_xml}
use Rattle.writer.specs.Put.{Put, most, puts, put_as, put_none}
use Rattle.xmltext.specs.Tags.{open_xml, close_xml, start_tag, attributes_more}
use Rattle.start_names.specs.Tag.{name_at, value_at, attributes_of, attributes_from, last_attribute}

-- the loop of `attributes`: the first j stand from `at` up to `to`
pub record Copying (d x e sp : List ℕ) (k at to j : ℕ) : Type 0 where
  pub upto : j ≤ k
  pub put : Put true d x at to (attributes_xml (attributes_of e sp j))

pub copying_begins : {d e sp : List ℕ} {k at : ℕ} → at ≤ most → Copying d d e sp k at at 0
unfolding attributes_xml attributes_from
copying_begins h = record { upto = omega arith; put = put_none h }

one_more_lem : (e sp : List ℕ) (j : ℕ) {n v : Bytes} → n ≡ name_at e sp j → v ≡ value_at e sp j
    → attributes_xml (attributes_of e sp j) ++ attribute_xml (attribute n v) ≡ attributes_xml (attributes_of e sp (j + 1))
one_more_lem e sp j p q = rw (p, q, add-one j, last_attribute e sp j) (attributes_more (attributes_of e sp j) (attribute (name_at e sp j) (value_at e sp j)))

module _ {d x e sp : List ℕ} {k at to j : ℕ} (h : Copying d x e sp k at to j) where
  pub copying_more : {y n v : List ℕ} {up : ℕ} → j < k → n ≡ name_at e sp j → v ≡ value_at e sp j → Put true x y to up (attribute_xml (attribute n v)) → Copying d y e sp k at up (j + 1)
  copying_more l p q w = record { upto = omega arith; put = put_as (puts h.put w) (one_more_lem e sp j p q) }

  pub copying_done : k ≤ j → Put true d x at to (attributes_xml (attributes_of e sp k))
  copying_done l = let z : j ≡ k = omega (arith, h.upto) in rw z at h.put

-- all pieces
pub tag-put : {d x y z : List ℕ} {at a b to : ℕ} (n : Bytes) (as' : List Attribute) → Put true d x at a (open_xml n) → Put true x y a b (attributes_xml as') → Put true y z b to close_xml
    → Put true d z at to (start_tag_xml n as')
tag-put n as' p q r = put_as (puts p (puts q r)) (start_tag n as')
