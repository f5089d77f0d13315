-- A text is a language tag by RFC 5646 exactly where the machine composes it or it is listed as irregular.
use mathlib.Core.Path.{◌≡◌, refl, sym, ◌∙◌}
use mathlib.Core.Logic.{◌⊎◌, inl, inr}
use mathlib.Core.Bool.{Bool, true, false, ◌||◌}
use Rattle.spec.specs.Bytes.{Bytes, when◌then◌else◌}
use lib.ListN.{length}
use Rattle.spec.specs.Grammar.{◌or◌, Describes}
use Rattle.spec.specs.Rfc5646 as R
use Rattle.spec.specs.Rfc5646.{language_tag, is_language_tag}
use Rattle.spec.proofs.Booleans.{or_cases, or_left, or_right_lem}
use Rattle.theorems.specs.Grammar.{accepts_sound, accepts_complete}
use Rattle.spec.specs.declared.Verdict.TheVariants.{Good, Clears, Bad}
use Rattle.spec.specs.XmlLang.{verdict}
use Rattle.theorems.specs.Languages.{tags_good}
use Rattle.copy.specs.Texts.{empty_is, empty_not}
use Rattle.langtag.specs.Machine.{composed, irregular}
use Rattle.langtag.proofs.Machine.{composed_sound, composed_complete}
use Rattle.langtag.proofs.Grandfathered.{irregular_sound, irregular_complete, regular-composed}

same_tests : (a b : Bool) → (a ≡ true → b ≡ true) → (b ≡ true → a ≡ true) → a ≡ b
same_tests true b f g = sym (f refl)
same_tests false true f g = g refl
same_tests false false f g = refl

pub well_formed_lem : (s : Bytes) → is_language_tag s ≡ (composed s || irregular s)
unfolding is_language_tag language_tag
well_formed_lem s =
    same_tests (is_language_tag s) (composed s || irregular s) (λ h. sound (accepts_sound language_tag s h))
    (λ h. accepts_complete language_tag s (complete (or_cases (composed s) (irregular s) h)))
  where
    sound : Describes language_tag s → (composed s || irregular s) ≡ true
    sound (inl d) = or_left (composed s) (irregular s) (composed_complete s (inl d))
    sound (inr (inl d)) = or_left (composed s) (irregular s) (composed_complete s (inr d))
    sound (inr (inr (inl d))) = or_right_lem (composed s) (irregular s) (irregular_complete s d)
    sound (inr (inr (inr d))) = or_left (composed s) (irregular s) (regular-composed s d)

    complete : (composed s ≡ true) ⊎ (irregular s ≡ true) → Describes language_tag s
    complete (inl h) = go (composed_sound s h)
      where
        go : Describes (R.langtag or R.privateuse) s → Describes language_tag s
        go (inl d) = inl d
        go (inr d) = inr (inl d)
    complete (inr h) = inr (inr (inl (irregular_sound s h)))

-- ---- the answers of `parse`

module _ (s : Bytes) where
  pub none_clears : length s ≡ 0 → Clears ≡ verdict s
  unfolding verdict when◌then◌else◌
  none_clears h = rw (empty_is s h)

  pub composed_good : composed s ≡ true → Good ≡ verdict s
  composed_good h = sym (tags_good s (well_formed_lem s ∙ rw h))

  pub irregular_good : irregular s ≡ true → Good ≡ verdict s
  irregular_good h = sym (tags_good s (well_formed_lem s ∙ or_right_lem (composed s) (irregular s) h))

  pub neither_bad : (length s ≡ 0 → ⊥) → composed s ≡ false → irregular s ≡ false → Bad ≡ verdict s
  unfolding verdict when◌then◌else◌
  neither_bad e h k = rw (empty_not s e, well_formed_lem s, h, k)
