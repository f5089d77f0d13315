-- rdf:IDs are only ever added, so that each is new where all are different.
use Rattle.std.specs.Prelude.{◌≡◌, refl, List, [], ◌∷◌, ◌++◌, map}
use Rattle.std.proofs.Common.{sym, ◌∙◌, ap, append_assoc}
use Rattle.std.proofs.Math.Option.{Option, none, some}
use Rattle.spec.specs.Bytes.{member, repeats}
use Rattle.spec.specs.NTriples.{Triple}
use Rattle.theorems.specs.Roles.{or_none}
use Rattle.section7.specs.Events.{Content, Context}
use Rattle.section7.specs.Grammar as G
use Rattle.section7.specs.Grammar.{Row, Used, Identifier, entered, iri_of_identifier, Matches}
use Rattle.section7.specs.Differences.{OneIriEach}

-- some behind others
pub record Grown (ids ids' : List Identifier) : Type 0 where
  pub more : List Identifier
  pub grown : ids' ≡ more ++ ids

same_ids : {ids : List Identifier} → Grown ids ids
same_ids = record { more = []; grown = refl }

◌further◌ : {ids ids₁ ids₂ : List Identifier} → Grown ids ids₁ → Grown ids₁ ids₂ → Grown ids ids₂
◌further◌ {ids} g h = record {
  more = h.more ++ g.more;
  grown = h.grown ∙ (ap (λ (x : List Identifier). h.more ++ x) g.grown ∙ sym (append_assoc h.more g.more ids));
}

infixr 5 ◌further◌
pub once_entered : (o : Option Identifier) (ids : List Identifier) → Grown ids (entered o ids)
unfolding entered
once_entered none ids = same_ids
once_entered (some i) ids = record { more = i ∷ []; grown = refl }

pub grows : {r : Row} {c : Context} {x : Content} {u u' : Used} {ts : List Triple} → Matches r c x u u' ts → Grown u.ids u'.ids
grows G.no_node = same_ids
grows G.no_property = same_ids
grows (G.ws h m) = grows m
grows (G.ignored_instruction m) = grows m
grows (G.ignored_comment m) = grows m
grows (G.node_element e h a two s m₁ m₂) = once_entered _ _ further grows m₁ further grows m₂
grows (G.resource_property_elt e h a m₁ m₂) = once_entered _ _ further grows m₁ further grows m₂
grows (G.literal_property_elt e h a t full m) = once_entered _ _ further grows m
grows (G.parse_type_literal_property_elt e h a t x m) = once_entered _ _ further grows m
grows (G.parse_type_resource_property_elt e h a t m₁ m₂) = once_entered _ _ further grows m₁ further grows m₂
grows (G.parse_type_collection_property_elt e h a t m₁ m₂) = once_entered _ _ further grows m₁ further grows m₂
grows (G.parse_type_other_property_elt e h a t o x m) = once_entered _ _ further grows m
grows (G.empty_property_elt e h a t m) = once_entered _ _ further grows m
grows (G.empty_property_elt_named e h a two one t o m) = once_entered _ _ further grows m
grows (G.empty_property_elt_blank e h a one t o m) = once_entered _ _ further grows m

behind_others : (more ids : List Identifier) → OneIriEach (more ++ ids) → OneIriEach ids
unfolding repeats
behind_others [] ids h = h
behind_others (i ∷ more) ids h = behind_others more ids (or_none (member (iri_of_identifier i) (map iri_of_identifier (more ++ ids))) (repeats (map iri_of_identifier (more ++ ids))) h).1

-- what holds of the rdf:IDs at the end held before
pub earlier_ids : {ids ids' : List Identifier} → Grown ids ids' → OneIriEach ids' → OneIriEach ids
earlier_ids {ids} g h = behind_others g.more ids (rw g.grown at h)
