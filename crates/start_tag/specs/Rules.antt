-- The rules of a document's mode, which stand between 14 and the other refusals of a production.
use Prim.Native.Nat.{ℕ}
use Rattle.std.specs.Prelude.{◌≡◌, refl, Bool, true, false, not, eqb, ltb}
use Rattle.std.proofs.Common.{sym, ap, ◌∙◌}
use Rattle.std.proofs.lemmas.Bool.{false≢true}
use Rattle.std.proofs.Math.Option.{Option, none, some}
use Rattle.spec.specs.Bytes.{Bytes, when◌then◌else◌, same, ◌>>=◌, ◌>>◌, require◌or◌}
use Rattle.spec.proofs.Bytes.{same_true}
use Rattle.spec.specs.Numbers.{number, Answer, refuse, good}
use Rattle.spec.specs.declared.Refusal.{Refusal}
use Rattle.spec.specs.declared.Refusal.TheVariants.{LabelsSpent, Reserved, TwoNames}
use Rattle.spec.specs.Limits.{most_labels}
use Rattle.spec.specs.Rdf.{rdf, may_be_node, may_be_property}
use Rattle.spec.specs.Rdf as F
use Rattle.spec.specs.NTriples.{Subject}
use Rattle.spec.specs.Document.{Property}
use Rattle.spec.specs.StartTag.{Tag}
use Rattle.spec.specs.Productions.{Opened, one_more, two_of, open_node, ParseType, no_parse_type, as_collection, as_resource, as_literal, as_other, parse_type_of, has_node, object_of, open_with_node, open_default, open_resource, open_with, open_as, two_objects, is_li, property_iri, open_property, open_root}
use Rattle.spec.specs.Opening.{under_rules}

-- is a production refused because its name is reserved here?
unfoldable pub is_reserved : Answer Opened → Bool
is_reserved (good o) = false
is_reserved (refuse q) = eqb (number q) (number Reserved)

-- 14 stands before them
pub under_reserved : (x : Answer (Unit {0})) → under_rules x (refuse Reserved) ≡ refuse Reserved
unfolding under_rules when◌then◌else◌
under_reserved (good u) = refl
under_reserved (refuse r) = refl

-- all others behind them
pub under_broken : (r : Refusal) (a : Answer Opened) → is_reserved a ≡ false → under_rules (refuse r) a ≡ refuse r
unfolding under_rules when◌then◌else◌ is_reserved
under_broken r (good o) h = refl
under_broken r (refuse q) h = rw h

-- ---- a production whose name is allowed is not refused by 14

-- another requirement in front of it
free : (b : Bool) (n : Refusal) (a : Answer Opened) → eqb (number n) (number Reserved) ≡ false → is_reserved a ≡ false → is_reserved ((require b or n) >> a) ≡ false
unfolding is_reserved ◌>>◌ require◌or◌
free true n a h q = q
free false n a h q = h

one_more_free : (n : ℕ) (a : Answer Opened) → is_reserved a ≡ false → is_reserved (one_more n >> a) ≡ false
unfolding one_more
one_more_free n a q = free (ltb n most_labels) LabelsSpent a refl q

asked_free : (b : Bool) (n : ℕ) (a : Answer Opened) → is_reserved a ≡ false → is_reserved ((when b then one_more n else good tt) >> a) ≡ false
unfolding when◌then◌else◌ ◌>>◌
asked_free true n a q = one_more_free n a q
asked_free false n a q = q

pub node-free : (t : Tag) (n : ℕ) → may_be_node t.iri ≡ true → is_reserved (open_node t n) ≡ false
unfolding open_node is_reserved ◌>>◌ require◌or◌ one_more
node-free t n h = rw h (go _ (not (two_of t.id t.node_id t.about)) (ltb n most_labels))
  where
    go : (o : Opened) (a b : Bool) → is_reserved ((require a or TwoNames) >> ((require b or LabelsSpent) >> good o)) ≡ false
    go o true true = refl
    go o true false = refl
    go o false b = refl

with_node-free : (r l : Option Bytes) (t : Tag) (p : Property) (n : ℕ) → t.resource ≡ r → t.node_id ≡ l → is_reserved (open_with_node t p n) ≡ false
unfolding open_with_node object_of is_reserved ◌>>=◌ ◌>>◌ require◌or◌ one_more
with_node-free (some r) l t p n h q = rw h
with_node-free none (some l) t p n h q = rw (h, q)
with_node-free none none t p n h q = rw (h, q) (go _ _ (ltb n most_labels))
  where
    go : (s : Subject × ℕ) (f : Subject × ℕ → Opened) (b : Bool) → is_reserved (((require b or LabelsSpent) >> good s) >>= λ o. good (f o)) ≡ false
    go s f true = refl
    go s f false = refl

as_free : (q : ParseType) (t : Tag) (p : Property) (n : ℕ) → is_reserved (open_as q t p n) ≡ false
unfolding open_as open_default open_resource open_with is_reserved when◌then◌else◌
as_free no_parse_type t p n = go _ (has_node t)
  where
    go : (o : Opened) (b : Bool) → is_reserved (when b then open_with_node t p n else good o) ≡ false
    go o true = with_node-free t.resource t.node_id t p n refl refl
    go o false = refl
as_free as_collection t p n = refl
as_free as_resource t p n = one_more_free n _ refl
as_free as_literal t p n = refl
as_free as_other t p n = refl

past : {b : Bool} (a : Answer Opened) → b ≡ true → is_reserved a ≡ false → is_reserved ((require b or Reserved) >> a) ≡ false
unfolding is_reserved ◌>>◌ require◌or◌
past a e q = rw e q

pub property-free : (t : Tag) (s : Subject) (li n : ℕ) → may_be_property t.iri ≡ true → is_reserved (open_property t s li n) ≡ false
unfolding open_property
property-free t s li n h = past _ h (free (not (two_objects t)) TwoNames _ refl (asked_free (is_li t.iri) li _ (as_free (parse_type_of t.parse_type) t (record { subject = s; iri = property_iri t.iri (Prim.Native.Nat.suc li); id = t.id }) n)))

pub root-free : (t : Tag) (n : ℕ) → same t.iri (rdf "RDF") ≡ true → is_reserved (open_root t n) ≡ false
unfolding open_root when◌then◌else◌ is_reserved
root-free t n h = rw h

-- ---- names that no node has

-- rdf:RDF is reserved
pub node_not_rdf : (i : Bytes) → may_be_node i ≡ true → same i (rdf "RDF") ≡ false
unfolding F.all
node_not_rdf i h = go (same i (rdf "RDF")) refl
  where
    go : (t : Bool) → same i (rdf "RDF") ≡ t → same i (rdf "RDF") ≡ false
    go true q = absurd (false≢true (sym (ap may_be_node (same_true i (rdf "RDF") q)) ∙ h))
    go false q = q
