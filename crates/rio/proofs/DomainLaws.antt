-- What is in the domain is refused by no number outside it; and whatever is accepted is in the domain, but for what
-- clears the language.
use Rattle.std.specs.Prelude.{◌≡◌, refl, Bool, true, false, ◌&&◌, not, List, [], ◌∷◌, ◌++◌}
use Rattle.std.proofs.Common.{sym, ◌∙◌, inl, inr, true≢false}
use Rattle.std.proofs.lemmas.Bool.{not-true}
use Rattle.spec.specs.Bytes.{All}
use Rattle.spec.specs.Numbers.{refuse, good}
use Rattle.spec.specs.declared.Refusal.{Refusal}
use Rattle.spec.specs.declared.Refusal.TheVariants.{Incomplete, NoRoom, BadState, Closed, NotPyx, NotWellFormed, OverLimit, NoNamespace, NotNcName, BadLanguage, BadIri, RepeatedId, BadLabel, Reserved, TwoNames, StrayText, EmptyLiteral, LabelsSpent, ProfileBroken}
use Rattle.spec.specs.Pyx.{Attribute, Event, opening, closing, text, instruction}
use Rattle.spec.specs.Namespaces.{declared, is_declaration, name_of, is_known, all_legal}
use Rattle.spec.specs.Document.{Doc, in_scope, place_in}
use Rattle.spec.specs.Opening.{Step, is_second_root, repeated}
use Rattle.spec.specs.RdfXml.{next}
use Rattle.spec.proofs.Booleans.{and_left, and_right}
use Rattle.theorems.specs.AttributeNames.{accepted_known}
use Rattle.theorems.specs.Refusals.{well_formed, refused-above, not_well_formed}
use Rattle.rio.specs.Domain.{KnownPrefixes, NamespaceWellFormed, NoRepeatedAttribute, NoneCleared, InDomain, XmlNameKnown, NeededPrefixes, outside}

-- ---- prefixes

-- where all are known, so are these
pub needed : (e : Event) (d : Doc) → KnownPrefixes e d → NeededPrefixes e d
needed (opening n as') d k = (λ h. k, each as' k.1)
  where
    each : (xs : List Attribute)
        → All (λ a. is_declaration a ≡ false → is_known (declared as' ++ in_scope d.frames) (name_of a) ≡ true) xs
        → All (XmlNameKnown (declared as' ++ in_scope d.frames)) xs
    each [] h = tt
    each (x ∷ xs) h = (λ p q. h.0 p, each xs h.1)
needed (closing n) d k = tt
needed (text s) d k = tt
needed instruction d k = tt

-- ---- in the domain no event is refused by a number outside it

-- 6 is its first test
well_formed_lem : (e : Event) (d : Doc) → NamespaceWellFormed e d → NoRepeatedAttribute e d → well_formed e d ≡ true
well_formed_lem (opening n as') d k r = rw (k.0, k.1, r)
well_formed_lem (closing n) d k r = k
well_formed_lem (text s) d k r = refl
well_formed_lem instruction d k r = refl

pub in_domain : (e : Event) (d : Doc) → InDomain e d → (n : Refusal) → next e d ≡ refuse n → outside n ≡ false
in_domain e d k Incomplete h = refl
in_domain e d k NoRoom h = refl
in_domain e d k BadState h = refl
in_domain e d k Closed h = refl
in_domain e d k NotPyx h = refl
in_domain e d k NotWellFormed h =
    elim (refused-above e d NotWellFormed h) [
      | inl x ↦ absurd (true≢false x)
      | inr x ↦ absurd (true≢false (sym (well_formed_lem e d k.namespace_well_formed k.no_repeated_attribute) ∙ x.1))
    ]
in_domain e d k OverLimit h = absurd (k.within_the_limits h)
in_domain e d k NoNamespace h = refl
in_domain e d k NotNcName h = refl
in_domain e d k BadLanguage h = refl
in_domain e d k BadIri h = refl
in_domain e d k RepeatedId h = refl
in_domain e d k BadLabel h = absurd (k.not_refused_by_13 h)
in_domain e d k Reserved h = refl
in_domain e d k TwoNames h = refl
in_domain e d k StrayText h = refl
in_domain e d k EmptyLiteral h = refl
in_domain e d k LabelsSpent h = absurd (k.not_refused_by_18 h)
in_domain e d k ProfileBroken h = refl

pub in_domain_needed : (e : Event) (d : Doc) → InDomain e d → NeededPrefixes e d
in_domain_needed (opening n as') d k = needed (opening n as') d k.namespace_well_formed.2
in_domain_needed (closing n) d k = tt
in_domain_needed (text s) d k = tt
in_domain_needed instruction d k = tt

-- ---- every event that is accepted, and clears no language, is in it

pub refuse_good : {A : Type 0} {n : Refusal} {a : A} → refuse n ≡ good a → ⊥
refuse_good e = let z : true ≡ false = cc in true≢false z

module _ (d : Doc) (s : Step) where
  accepted_well_formed : (e : Event) → next e d ≡ good s → well_formed e d ≡ true
  accepted_well_formed e q = go (well_formed e d) refl
    where
      go : (b : Bool) → well_formed e d ≡ b → b ≡ true
      go true h = refl
      go false h = absurd (refuse_good (sym (not_well_formed e d h) ∙ q))

  pub accepted_prefixes : (e : Event) → next e d ≡ good s → KnownPrefixes e d
  accepted_prefixes (opening n as') q = accepted_known n as' d s q
  accepted_prefixes (closing n) q = tt
  accepted_prefixes (text t) q = tt
  accepted_prefixes instruction q = tt

  accepted-names : (e : Event) → next e d ≡ good s → well_formed e d ≡ true
      → NamespaceWellFormed e d × NoRepeatedAttribute e d
  accepted-names (opening n as') q h =
      let r : (all_legal (declared as') && not (repeated (place_in d.frames) as' d)) ≡ true
      = and_right (not (is_second_root d)) _ h in (
        (
          not-true (is_second_root d) (and_left (not (is_second_root d)) _ h),
          and_left (all_legal (declared as')) _ r,
          accepted_prefixes (opening n as') q,
        ),
        not-true (repeated (place_in d.frames) as' d) (and_right (all_legal (declared as')) _ r),
      )
  accepted-names (closing n) q h = (h, tt)
  accepted-names (text t) q h = (tt, tt)
  accepted-names instruction q h = (tt, tt)

  pub accepted_in_domain : (e : Event) → next e d ≡ good s → NoneCleared e d → InDomain e d
  accepted_in_domain e q said =
      let k = accepted-names e q (accepted_well_formed e q) in
      record {
        namespace_well_formed = k.0;
        within_the_limits = λ h. refuse_good (sym h ∙ q);
        not_refused_by_13 = λ h. refuse_good (sym h ∙ q);
        not_refused_by_18 = λ h. refuse_good (sym h ∙ q);
        no_repeated_attribute = k.1;
        none_cleared = said;
      }
