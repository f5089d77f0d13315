-- The names of the rdf namespace that elements may not have, or that say what an element is: RDF 1.1 XML Syntax, section 5.1.
use Rattle.std.specs.Prelude.{◌≡◌, Bool, ◌&&◌, ◌-◌, ◌<◌, ◌≤◌, leb, length, take, drop}
use Rattle.std.proofs.Math.Path.{refl, sym}
use Rattle.std.proofs.Common.{◌∙◌, true≢false, arith, leb-true}
use Rattle.std.proofs.Math.Bool.{true, false, not}
use mathlib.Core.List.{List, [], ◌∷◌, ◌++◌, map}
use Prim.Native.String.{String}
use Rattle.spec.specs.Bytes.{Bytes, ascii, when◌then◌else◌, same, begins, is_empty, member}
use Rattle.spec.specs.Rdf.{rdf, reserved_elements, may_be_node, may_be_property}
use Rattle.spec.specs.Rdf as F
use Rattle.spec.specs.Limits.{most_name_bytes}
use Rattle.spec.specs.StartTag.{all_short}
use Rattle.spec.specs.Productions.{is_li}
use Rattle.spec.proofs.Booleans.{and_left, and_right}
use Rattle.copy.specs.Copy.{rest_of}
use Rattle.copy.specs.Texts.{same-lengths}
use Rattle.start_names.specs.Joined.{joined-split}
use Rattle.ntriples.specs.Terms.{in_rdf, in_rdf_lem}
use Rattle.start_attributes.specs.declared.vocabulary.RdfTerm.{RdfTerm}
use Rattle.start_attributes.specs.declared.vocabulary.RdfTerm.TheVariants.{Rdf, Description, Id, About, ParseType, Resource, NodeId, Datatype, Li, «Type», AboutEach, AboutEachPrefix, BagId, Other}
use Rattle.start_attributes.specs.Vocabulary.{vocabulary, words, terms, if_named, term_among, term_of, local_term, by_term, all_in, not_word, not_words, rdf_space, cut_inside, cut-outside}

abbrev space : Bytes
space = ascii "http://www.w3.org/1999/02/22-rdf-syntax-ns#"

-- the name behind the namespace; empty where an IRI is not in it
unfoldable pub name_in_rdf : Bytes → Bytes
name_in_rdf i = when begins space i then drop (length space) i else []

is_space_lem : space ≡ rdf_space
unfolding rdf_space rdf ascii
is_space_lem = refl

no_name : Other ≡ local_term []
unfolding local_term term_among if_named vocabulary when◌then◌else◌ same ascii
no_name = refl

-- ---- an IRI is a name of the namespace where the name behind the namespace is

front_split : (p s t : Bytes) → same s (p ++ t) ≡ (begins p s && same (drop (length p) s) t)
unfolding same
front_split p s t = joined-split s t [] p (omega arith)

module _ (i : Bytes) where
  pub name-outside : begins space i ≡ false → [] ≡ name_in_rdf i
  unfolding name_in_rdf when◌then◌else◌
  name-outside h = rw h

  pub name-inside : begins space i ≡ true → take (length i - 43) (drop 43 i) ≡ name_in_rdf i
  unfolding name_in_rdf when◌then◌else◌ ascii
  name-inside h = rw h (rest_of i 43)

  -- of a name that is not empty
  pub name_decides : (n : Bytes) → is_empty n ≡ false → same (name_in_rdf i) n ≡ same i (in_rdf n)
  unfolding is_empty in_rdf name_in_rdf when◌then◌else◌ same
  name_decides [] e = absurd (true≢false e)
  name_decides (b ∷ n) e = go (begins space i) refl
    where
      go : (t : Bool) → begins space i ≡ t → same (name_in_rdf i) (b ∷ n) ≡ same i (space ++ (b ∷ n))
      go true h = rw h (sym (front_split space i (b ∷ n) ∙ rw h))
      go false h = rw h (sym (front_split space i (b ∷ n) ∙ rw h))

  pub is_rdf-name : (s : String) → is_empty (ascii s) ≡ false → same (name_in_rdf i) (ascii s) ≡ same i (rdf s)
  is_rdf-name s e = rw (← in_rdf_lem s) (name_decides (ascii s) e)

  -- its term is that of the name
  pub name_term : term_of i ≡ local_term (name_in_rdf i)
  unfolding name_in_rdf when◌then◌else◌ same ascii
  name_term = go (begins space i) refl
    where
      go : (t : Bool) → begins space i ≡ t → term_of i ≡ local_term (name_in_rdf i)
      go true h = rw h (sym (cut_inside [] i space is_space_lem (omega arith) h refl))
      go false h = rw h (sym (cut-outside [] i space is_space_lem (omega arith) h) ∙ no_name)

-- the terms that no node element may have as its name
abbrev pub reserves_node : RdfTerm → Bool
reserves_node Rdf = true
reserves_node Description = false
reserves_node Id = true
reserves_node About = true
reserves_node ParseType = true
reserves_node Resource = true
reserves_node NodeId = true
reserves_node Datatype = true
reserves_node Li = true
reserves_node «Type» = false
reserves_node AboutEach = true
reserves_node AboutEachPrefix = true
reserves_node BagId = true
reserves_node Other = false

-- and no property element
abbrev pub reserves_property : RdfTerm → Bool
reserves_property Rdf = true
reserves_property Description = true
reserves_property Id = true
reserves_property About = true
reserves_property ParseType = true
reserves_property Resource = true
reserves_property NodeId = true
reserves_property Datatype = true
reserves_property Li = false
reserves_property «Type» = false
reserves_property AboutEach = true
reserves_property AboutEachPrefix = true
reserves_property BagId = true
reserves_property Other = false

-- ---- by its term, an IRI is what the definitions say: tried of each word

tried_node : map (λ i. not (may_be_node i)) (words vocabulary) ≡ map reserves_node (terms vocabulary)
unfolding F.all vocabulary words terms
tried_node = refl

tried_property : map (λ i. not (may_be_property i)) (words vocabulary) ≡ map reserves_property (terms vocabulary)
unfolding F.all vocabulary words terms
tried_property = refl

known : all_in reserved_elements (words vocabulary) ≡ true
unfolding F.all vocabulary words all_in
known = refl

known_two : (member (rdf "li") (words vocabulary) ≡ true) × (member (rdf "Description") (words vocabulary) ≡ true)
unfolding F.all vocabulary words
known_two = (refl, refl)

module _ (i : Bytes) where
  pub node_by_term : reserves_node (term_of i) ≡ not (may_be_node i)
  unfolding may_be_node
  node_by_term = sym (by_term (λ j. not (may_be_node j)) reserves_node i tried_node (λ h. rw (not_words i (words vocabulary) h reserved_elements known)))

  pub property_by_term : reserves_property (term_of i) ≡ not (may_be_property i)
  unfolding may_be_property
  property_by_term =
      sym (by_term (λ j. not (may_be_property j)) reserves_property i tried_property (λ h. rw (
        not_words i (words vocabulary) h reserved_elements known,
        not_word i (words vocabulary) h (rdf "li") known_two.0,
        not_word i (words vocabulary) h (rdf "Description") known_two.1,
      )))

-- ---- an IRI longer than an IRI may be is none of them

long-member : (i : Bytes) (l : List Bytes) → all_short l ≡ true → 1_024 < length i → member i l ≡ false
unfolding member all_short most_name_bytes
long-member i [] a h = refl
long-member i (s ∷ l) a h =
    let b : length s ≤ 1_024 = leb-true (length s) 1_024 (and_left (leb (length s) 1_024) (all_short l) a) in
    rw (same-lengths i s (λ e. omega arith), long-member i l (and_right (leb (length s) 1_024) (all_short l) a) h)

module _ (i : Bytes) (h : 1_024 < length i) where
  long-name : (s : String) → leb (length (rdf s)) 1_024 ≡ true → same i (rdf s) ≡ false
  long-name s b = same-lengths i (rdf s) (λ e. omega (arith, leb-true (length (rdf s)) 1_024 b))

  pub long-rdf : same i (rdf "RDF") ≡ false
  unfolding F.all
  long-rdf = long-name "RDF" refl

  pub long-description : same i (rdf "Description") ≡ false
  unfolding F.all
  long-description = long-name "Description" refl

  pub long-alt : same i (rdf "Alt") ≡ false
  unfolding F.all
  long-alt = long-name "Alt" refl

  pub long-li : is_li i ≡ false
  unfolding F.all is_li
  long-li = long-name "li" refl

  pub long-node : may_be_node i ≡ true
  unfolding F.all all_short most_name_bytes
  long-node = rw (long-member i reserved_elements refl h)

  pub long-property : may_be_property i ≡ true
  unfolding F.all all_short most_name_bytes
  long-property = rw (long-member i reserved_elements refl h, long-name "li" refl, long-name "Description" refl)
