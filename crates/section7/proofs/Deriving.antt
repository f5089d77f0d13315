-- Tools for examples: a start tag that section 7 accepts, by computation.
use Rattle.std.specs.Prelude.{◌≡◌, Bool, true, ◌&&◌, not, List, [], ◌∷◌, ◌++◌}
use Rattle.std.proofs.Common.{ap}
use Rattle.std.proofs.Math.Option.{Option}
use Rattle.std.proofs.lemmas.Bool.{not-true}
use Rattle.spec.specs.Bytes.{Bytes, ascii, repeats, All}
use Rattle.spec.specs.Numbers.{Answer, good}
use Rattle.spec.specs.Pyx.{Attribute}
use Rattle.spec.specs.Namespaces.{declared, all_legal, expand_element}
use Rattle.spec.specs.Rdf.{rdf}
use Rattle.spec.specs.StartTag.{resolved}
use Rattle.spec.proofs.Booleans.{and_left, and_right}
use Rattle.section7.specs.Events.{Context, written, inside, is_named, repeats_name}
use Rattle.section7.specs.Grammar.{value, values, fragment, all_resolved, attrs, is_rdf_id, terms_in, Identifier, identifier, is_new, StartElement}
use Rattle.section7.specs.Differences as D

-- of every element
unfoldable pub check : {A : Type 0} → (A → Bool) → List A → Bool
check test [] = true
check test (a ∷ l) = test a && check test l

pub check_all : {A : Type 0} (test : A → Bool) (l : List A) → check test l ≡ true → All (λ a. test a ≡ true) l
unfolding check
check_all test [] h = tt
check_all test (a ∷ l) h = (and_left (test a) (check test l) h, check_all test l (and_right (test a) (check test l) h))

-- what 7.2 asks of a start tag
unfoldable pub tests : Context → List Attribute → List Identifier → Bool
tests c as' ids =
    all_legal (declared as') && (not (repeats_name (declared as' ++ c.bindings) as') && (check (is_named (declared as' ++ c.bindings)) as'
    && (not (repeats (terms_in (attrs c as'))) && (check is_rdf_id (attrs c as') && is_new (identifier c as') ids))))

-- its URI, xml:base, and references
abbrev pub Said : Type 0
Said = Bool × Answer Bytes × Answer (Option Bytes) × Answer (Option Bytes) × Answer (Option Bytes) × Answer (Option Bytes) × Answer (Option Bytes) × Answer (List (Option Bytes))

unfoldable pub says_all : Context → Bytes → List Attribute → List Identifier → Said
says_all c n as' ids = (
  tests c as' ids,
  expand_element (declared as' ++ c.bindings) n,
  resolved c.base_uri (written (ascii "xml:base") as'),
  resolved (inside as' c).base_uri (fragment (value (rdf "ID") (attrs c as'))),
  resolved (inside as' c).base_uri (value (rdf "about") (attrs c as')),
  resolved (inside as' c).base_uri (value (rdf "resource") (attrs c as')),
  resolved (inside as' c).base_uri (value (rdf "datatype") (attrs c as')),
  all_resolved (inside as' c).base_uri (values (rdf "type") (attrs c as')),
)

unfoldable pub start : (c : Context) (n : Bytes) (as' : List Attribute) (ids : List Identifier) (uri : Bytes) (base id about resource datatype : Option Bytes) (types : List (Option Bytes))
    → says_all c n as' ids ≡ (true, good uri, good base, good id, good about, good resource, good datatype, good types) → StartElement c n as' ids
unfolding says_all tests
start c n as' ids uri base id about resource datatype types h =
    let t : tests c as' ids ≡ true = ap (λ (x : Said). x.0) h in
    let t₁ : _ ≡ true = and_right (all_legal (declared as')) _ t in
    let t₂ : _ ≡ true = and_right (not (repeats_name (declared as' ++ c.bindings) as')) _ t₁ in
    let t₃ : _ ≡ true = and_right (check (is_named (declared as' ++ c.bindings)) as') _ t₂ in
    let t₄ : _ ≡ true = and_right (not (repeats (terms_in (attrs c as')))) _ t₃ in
    record {
      legal = and_left (all_legal (declared as')) _ t;
      once = not-true _ (and_left (not (repeats_name (declared as' ++ c.bindings) as')) _ t₁);
      uri = uri;
      expanded = ap (λ (x : Said). x.1) h;
      all_named = check_all _ as' (and_left (check (is_named (declared as' ++ c.bindings)) as') _ t₂);
      terms_once = not-true _ (and_left (not (repeats (terms_in (attrs c as')))) _ t₃);
      all_ids = check_all _ (attrs c as') (and_left (check is_rdf_id (attrs c as')) _ t₄);
      base = base;
      base_resolved = ap (λ (x : Said). x.2) h;
      id = id;
      id_resolved = ap (λ (x : Said). x.3) h;
      id_new = and_right (check is_rdf_id (attrs c as')) _ t₄;
      about = about;
      about_resolved = ap (λ (x : Said). x.4) h;
      resource = resource;
      resource_resolved = ap (λ (x : Said). x.5) h;
      datatype = datatype;
      datatype_resolved = ap (λ (x : Said). x.6) h;
      types = types;
      types_resolved = ap (λ (x : Said). x.7) h;
    }

unfoldable pub all : Unit {0}
unfolding D.all check tests says_all start
all = tt
