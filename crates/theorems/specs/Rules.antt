-- Document 02: what the rules of a mode leave of a production, and what is known where the wrapper opens.
use Rattle.std.specs.Prelude.{◌≡◌, refl, Bool, true, false, ◌&&◌, List, [], ◌∷◌, ◌++◌, eqb}
use Rattle.std.proofs.lemmas.Bool.{false≢true}
use Rattle.spec.specs.Bytes.{Bytes, when◌then◌else◌, is_empty, require◌or◌}
use Rattle.spec.specs.Numbers.{number, Answer, refuse, good}
use Rattle.spec.specs.declared.Refusal.TheVariants.{ProfileBroken, Reserved}
use Rattle.spec.specs.declared.Mode.{Mode}
use Rattle.spec.specs.Modes.{base_mode}
use Rattle.spec.specs.Pyx.{Attribute, Event, opening, closing, text, instruction}
use Rattle.spec.specs.Namespaces.{declared, expand_element}
use Rattle.spec.specs.Document.{Frame, Doc, in_scope}
use Rattle.spec.specs.StartTag.{Tag}
use Rattle.spec.specs.Productions.{Opened}
use Rattle.spec.specs.Xmp.{names_wrapper, starts_wrapper, keeps}
use Rattle.spec.specs.Opening.{mode_rules, under_rules}
use Rattle.spec.proofs.Booleans.{and_left, and_right}
use Rattle.theorems.specs.Always.{Always}

-- what a production gives it gives under rules too, if they let it past
pub always_rules : (Q : Opened → Type 0) (r : Answer (Unit {0})) (a : Answer Opened) → Always Q a → Always Q (under_rules r a)
unfolding under_rules when◌then◌else◌
always_rules Q (good u) a h = h
always_rules Q (refuse r) (good o) h = tt
always_rules Q (refuse r) (refuse q) h = go (eqb (number q) (number Reserved))
  where
    go : (b : Bool) → Always Q (when b then refuse q else refuse r)
    go true = tt
    go false = tt

-- and it kept them
kept_by : (b : Bool) (a : Answer Opened) → Always (λ o. (a ≡ good o) × (b ≡ true)) (under_rules (require b or ProfileBroken) a)
unfolding under_rules require◌or◌ when◌then◌else◌
kept_by true (refuse q) = tt
kept_by true (good o) = (refl, refl)
kept_by false (good o) = tt
kept_by false (refuse q) = go (eqb (number q) (number Reserved))
  where
    go : (b : Bool) → Always (λ (o : Opened). (refuse q ≡ good o) × (false ≡ true)) (when b then refuse q else refuse ProfileBroken)
    go true = tt
    go false = tt

pub rules_kept : (m : Mode) (fs : List Frame) (t : Tag) (a : Answer Opened) → Always (λ o. (a ≡ good o) × (keeps m.xmp fs t ≡ true)) (under_rules (mode_rules m fs t) a)
unfolding mode_rules
rules_kept m fs t a = kept_by (keeps m.xmp fs t) a

-- the wrapper is the outermost element, and opens only in the profile
pub record Wrapping (p : Bool) (n : Bytes) (as' : List Attribute) (fs : List Frame) : Type 0 where
  pub xmp : p ≡ true
  pub outermost : fs ≡ []
  pub iri : Bytes
  pub expands : expand_element (declared as' ++ in_scope fs) n ≡ good iri

no_frame_lem : (fs : List Frame) → is_empty fs ≡ true → fs ≡ []
unfolding is_empty
no_frame_lem [] h = refl
no_frame_lem (f ∷ fs) h = absurd (false≢true h)

pub wrapping : (p : Bool) (n : Bytes) (as' : List Attribute) (fs : List Frame) → starts_wrapper p n as' fs ≡ true → Wrapping p n as' fs
unfolding starts_wrapper names_wrapper
wrapping false n as' fs h = absurd (false≢true h)
wrapping true n as' fs h = go (expand_element (declared as' ++ in_scope fs) n) refl h
  where
    go : (a : Answer Bytes) → expand_element (declared as' ++ in_scope fs) n ≡ a → (is_empty fs && names_wrapper a) ≡ true → Wrapping true n as' fs
    go (refuse r) e h = absurd (false≢true (and_right (is_empty fs) false h))
    go (good i) e h = record { xmp = refl; outermost = no_frame_lem fs (and_left (is_empty fs) (names_wrapper (good i)) h); iri = i; expands = e }

-- the base mode has no rules of its own, and no wrapper
pub no_rules : (m : Mode) (fs : List Frame) (t : Tag) (a : Answer Opened) → m ≡ base_mode → under_rules (mode_rules m fs t) a ≡ a
unfolding under_rules mode_rules keeps require◌or◌
no_rules m fs t a e = rw e

pub no_wrapper : (m : Mode) (n : Bytes) (as' : List Attribute) (fs : List Frame) → m ≡ base_mode → starts_wrapper m.xmp n as' fs ≡ false
unfolding starts_wrapper
no_wrapper m n as' fs e = rw e

-- an event that does not open the wrapper, as none does in the base mode
abbrev pub Unwrapped : Event → Doc → Type 0
Unwrapped (opening n as') d = starts_wrapper d.mode.xmp n as' d.frames ≡ false
Unwrapped (closing n) d = Unit {0}
Unwrapped (text s) d = Unit {0}
Unwrapped instruction d = Unit {0}
