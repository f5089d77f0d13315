-- Document 02, request 1: numbers that a mode never gives. 19 is the profile's alone, and without rdf:ID and Literal content
-- the profile has no 12 and no 17.
use Rattle.std.specs.Prelude.{◌≡◌, Bool, List, [], ◌∷◌, ℕ}
use Rattle.std.proofs.Common.{subst, arith}
use Rattle.std.proofs.Math.Option.{Option, some, some-injective}
use Rattle.spec.specs.Bytes.{Bytes, All}
use Rattle.spec.specs.Numbers.{refuse}
use Rattle.spec.specs.declared.Refusal.{Refusal}
use Rattle.spec.specs.declared.Refusal.TheVariants.{RepeatedId, EmptyLiteral, ProfileBroken}
use Rattle.spec.specs.Pyx.{Event}
use Rattle.spec.specs.NTriples.{Triple}
use Rattle.spec.specs.declared.Mode.{Mode}
use Rattle.spec.specs.Modes.{base_mode, xmp_mode}
use Rattle.spec.specs.Document.{Kind, literal, property_element, Frame, Doc, fresh}
use Rattle.spec.specs.RdfXml.{next}
use Rattle.spec.specs.Lists.{After}
use Rattle.spec.specs.Inside.{innermost}
use Rattle.spec.specs.Nesting.{Nested}
use Rattle.spec.specs.Packets.{PlainKind, NoneOut}
use Rattle.spec.specs.Calls.{State, is_open, is_closed, unlawful, call_step}
use Rattle.theorems.specs.Calls.{Steps, Written, written}
use Rattle.theorems.specs.Refusals.{InLiteral, refused_needs, EventRefused, step-refused}
use Rattle.theorems.specs.Nesting.{always_mode, always_nested}
use Rattle.theorems.specs.NoneOut.{always_none_out}

-- ---- an event

-- not by 19 in the base mode
pub no_nineteen : (e : Event) (d : Doc) → d.mode ≡ base_mode → Nested d.mode d.frames
    → next e d ≡ refuse ProfileBroken → ⊥
no_nineteen e d base nest q = refused_needs e d ProfileBroken q base nest

-- nor, where nothing that the profile rules out is open or entered, by 12 and 17
no_twelve : (e : Event) (d : Doc) → NoneOut d → next e d ≡ refuse RepeatedId → ⊥
no_twelve e d h q = refused_needs e d RepeatedId q h.ids

plain-innermost : (fs : List Frame) (k : Kind) → All (λ f. PlainKind f.kind) fs → innermost fs ≡ some k → PlainKind k
unfolding innermost
plain-innermost [] k h e = let z : ◌≡◌ {A = ℕ} 0 1 = cc in absurd (omega arith)
plain-innermost (f ∷ fs) k h e = subst PlainKind (some-injective f.kind k e) h.0

no_seventeen : (e : Event) (d : Doc) → NoneOut d → next e d ≡ refuse EmptyLiteral → ⊥
no_seventeen e d h q =
    let k : InLiteral d = refused_needs e d EmptyLiteral q in
    (plain-innermost d.frames (property_element k.0 (literal k.1)) h.elements k.2).1

-- ---- documents

-- In the base mode no event is refused by 19.
pub base-without_19 : (b : Option Bytes) {d : Doc} {ts : List Triple} → After (fresh base_mode b) d ts → (e : Event)
    → next e d ≡ refuse ProfileBroken → ⊥
base-without_19 b {d} {ts} a e = no_nineteen e d (always_mode base_mode b d ts a) (always_nested base_mode b d ts a)

-- In the profile none is by 12 ("rdf:ID .. out"), and none by 17 ("every parseType but Resource .. out").
pub packets_without_12 : (b : Option Bytes) {d : Doc} {ts : List Triple} → After (fresh xmp_mode b) d ts → (e : Event)
    → next e d ≡ refuse RepeatedId → ⊥
packets_without_12 b {d} a e = no_twelve e d (always_none_out b a)

pub packets_without_17 : (b : Option Bytes) {d : Doc} {ts : List Triple} → After (fresh xmp_mode b) d ts → (e : Event)
    → next e d ≡ refuse EmptyLiteral → ⊥
packets_without_17 b {d} a e = no_seventeen e d (always_none_out b a)

-- ---- the calls: no step answers it, whatever pieces and room it is given

abbrev Never : Mode → Option Bytes → Refusal → Type 0
Never m b x = (d : Doc) (ts : List Triple) → After (fresh m b) d ts → (e : Event) → next e d ≡ refuse x → ⊥

steps-without : (m : Mode) (b : Option Bytes) (x : Refusal) → Never m b x → (t : State) (w : Bytes) → Steps m b t w
    → EventRefused t x → ⊥
steps-without m b x never (is_open d) w s (e, q) =
    let k : Written m b (is_open d) w = written m b (is_open d) w s in never d k.0 k.1 e q
steps-without m b x never (is_closed d) w s h = h
steps-without m b x never unlawful w s h = h

pub base_never_19 : (b : Option Bytes) (t : State) (w : Bytes) → Steps base_mode b t w
    → (last : Bool) (rest : Bytes) (room : ℕ) → (call_step last rest room t).answer ≡ 19 → ⊥
base_never_19 b t w s last rest room h =
    steps-without base_mode b ProfileBroken (λ d ts. base-without_19 b) t w s
    (step-refused last rest room t ProfileBroken (omega arith) h)

pub packets_never_12 : (b : Option Bytes) (t : State) (w : Bytes) → Steps xmp_mode b t w
    → (last : Bool) (rest : Bytes) (room : ℕ) → (call_step last rest room t).answer ≡ 12 → ⊥
packets_never_12 b t w s last rest room h =
    steps-without xmp_mode b RepeatedId (λ d ts. packets_without_12 b) t w s
    (step-refused last rest room t RepeatedId (omega arith) h)

pub packets_never_17 : (b : Option Bytes) (t : State) (w : Bytes) → Steps xmp_mode b t w
    → (last : Bool) (rest : Bytes) (room : ℕ) → (call_step last rest room t).answer ≡ 17 → ⊥
packets_never_17 b t w s last rest room h =
    steps-without xmp_mode b EmptyLiteral (λ d ts. packets_without_17 b) t w s
    (step-refused last rest room t EmptyLiteral (omega arith) h)
