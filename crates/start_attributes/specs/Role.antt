-- The role of an attribute: from its name as written, or from the term that its expanded name is.
use Rattle.std.specs.Prelude.{◌≡◌, true, false, List, [], ◌∷◌, map}
use Rattle.std.proofs.Math.Path.{refl}
use Rattle.std.proofs.Common.{sym, ◌∙◌}
use Rattle.std.proofs.lemmas.Bool.{false≢true}
use Prim.Native.String.{String}
use Rattle.spec.specs.Bytes.{Bytes, ascii, when◌then◌else◌, same, begins, member}
use Rattle.spec.specs.StartTag.{rdf_roles, role_among, role_of}
use Rattle.spec.specs.StartTag as S
use Rattle.spec.specs.Rdf.{rdf}
use Rattle.spec.proofs.Booleans.{no_true, and_left, and_right}
use Rattle.copy.specs.Texts.{same_true}
use Rattle.start_attributes.specs.declared.roles.Role.{Role}
use Rattle.start_attributes.specs.declared.roles.Role.TheVariants.{Nothing, XmlLang, XmlBase, Id, BagId, NodeId, About, Resource, Datatype, ParseType, «Type», Forbidden, Property}
use Rattle.start_attributes.specs.declared.vocabulary.RdfTerm.{RdfTerm}
use Rattle.start_attributes.specs.declared.vocabulary.RdfTerm.TheVariants as term
use Rattle.start_attributes.specs.Vocabulary.{vocabulary, words, terms, term_of, by_term, all_in, not_word}

abbrev pub role_is : Role → S.Role
role_is Nothing = S.nothing
role_is XmlLang = S.xml_lang
role_is XmlBase = S.xml_base
role_is Id = S.rdf_ID
role_is BagId = S.rdf_bag_id
role_is NodeId = S.rdf_node_id
role_is About = S.rdf_about
role_is Resource = S.rdf_resource
role_is Datatype = S.rdf_datatype
role_is ParseType = S.rdf_parse_type
role_is «Type» = S.rdf_type
role_is Forbidden = S.forbidden
role_is Property = S.property

-- the role of a name by its term
abbrev pub attribute_role : RdfTerm → Role
attribute_role term.Rdf = Forbidden
attribute_role term.Description = Property
attribute_role term.Id = Id
attribute_role term.About = About
attribute_role term.ParseType = ParseType
attribute_role term.Resource = Resource
attribute_role term.NodeId = NodeId
attribute_role term.Datatype = Datatype
attribute_role term.Li = Forbidden
attribute_role term.«Type» = «Type»
attribute_role term.AboutEach = Forbidden
attribute_role term.AboutEachPrefix = Forbidden
attribute_role term.BagId = BagId
attribute_role term.Other = Property

-- it is that of the definitions
other_role : (i : Bytes) (ws : List Bytes) → member i ws ≡ false → (rs : List (String × S.Role)) → all_in (words rs) ws ≡ true → role_among rs i ≡ S.property
unfolding role_among words all_in when◌then◌else◌
other_role i ws h [] a = refl
other_role i ws h (r ∷ rs) a =
    rw (not_word i ws h (rdf r.0) (and_left (member (rdf r.0) ws) (all_in (words rs) ws) a))
    (other_role i ws h rs (and_right (member (rdf r.0) ws) (all_in (words rs) ws) a))

word_roles : map (role_among rdf_roles) (words vocabulary) ≡ map (λ t. role_is (attribute_role t)) (terms vocabulary)
unfolding S.all vocabulary words terms
word_roles = refl

words_known : all_in (words rdf_roles) (words vocabulary) ≡ true
unfolding S.all vocabulary words all_in
words_known = refl

term_role : (i : Bytes) → role_among rdf_roles i ≡ role_is (attribute_role (term_of i))
term_role i = by_term (role_among rdf_roles) (λ t. role_is (attribute_role t)) i word_roles (λ h. other_role i (words vocabulary) h rdf_roles words_known)

-- ---- the tests of `role_of`: n is the name as written, i the expanded name

module _ (n i : Bytes) where
  other : (u : Bytes) → begins (ascii "xml") u ≡ true → begins (ascii "xml") n ≡ false → same n u ≡ false
  other u h b = no_true (same n u) λ (q : same n u ≡ true). let e : n ≡ u = same_true n u q in false≢true (sym b ∙ rw e h)

  pub by_expanded : begins (ascii "xml") n ≡ false → role_is (attribute_role (term_of i)) ≡ role_of n i
  unfolding role_of when◌then◌else◌ begins ascii
  by_expanded b = rw (other (ascii "xml:lang") refl b, other (ascii "xml:base") refl b, b, term_role i)

  pub is_lang : same n (ascii "xml:lang") ≡ true → S.xml_lang ≡ role_of n i
  unfolding role_of when◌then◌else◌
  is_lang h = rw h

  module _ (h : same n (ascii "xml:lang") ≡ false) where
    pub is_base : same n (ascii "xml:base") ≡ true → S.xml_base ≡ role_of n i
    unfolding role_of when◌then◌else◌
    is_base b = rw (h, b)

    pub is_nothing : same n (ascii "xml:base") ≡ false → begins (ascii "xml") n ≡ true → S.nothing ≡ role_of n i
    unfolding role_of when◌then◌else◌
    is_nothing b x = rw (h, b, x)
