-- Document 01, "Numbers returned", and document 02 (19).
use Rattle.std.specs.Prelude.{Bool, true, false, ℕ}
use Rattle.spec.specs.declared.Refusal.{Refusal}
use Rattle.spec.specs.declared.Refusal.TheVariants.{Incomplete, NoRoom, BadState, Closed, NotPyx, NotWellFormed, OverLimit, NoNamespace, NotNcName, BadLanguage, BadIri, RepeatedId, BadLabel, Reserved, TwoNames, StrayText, EmptyLiteral, LabelsSpent, ProfileBroken}

-- column "No."; 0 is "done"
abbrev pub number : Refusal → ℕ
number Incomplete = 1
number NoRoom = 2
number BadState = 3
number Closed = 4
number NotPyx = 5
number NotWellFormed = 6
number OverLimit = 7
number NoNamespace = 8
number NotNcName = 9
number BadLanguage = 10
number BadIri = 11
number RepeatedId = 12
number BadLabel = 13
number Reserved = 14
number TwoNames = 15
number StrayText = 16
number EmptyLiteral = 17
number LabelsSpent = 18
number ProfileBroken = 19

-- column "Document": what a refusal makes of it ("goes on" is for 0)
pub data Effect : Type 0 where
  stays_open unchanged becomes_closed : Effect

abbrev pub effect : Refusal → Effect
effect Incomplete = stays_open
effect NoRoom = stays_open
effect BadState = unchanged
effect Closed = unchanged
effect NotPyx = becomes_closed
effect NotWellFormed = becomes_closed
effect OverLimit = becomes_closed
effect NoNamespace = becomes_closed
effect NotNcName = becomes_closed
effect BadLanguage = becomes_closed
effect BadIri = becomes_closed
effect RepeatedId = becomes_closed
effect BadLabel = becomes_closed
effect Reserved = becomes_closed
effect TwoNames = becomes_closed
effect StrayText = becomes_closed
effect EmptyLiteral = becomes_closed
effect LabelsSpent = becomes_closed
effect ProfileBroken = becomes_closed

-- is the closing mark set?
abbrev pub marks : Effect → Bool
marks stays_open = false
marks unchanged = false
marks becomes_closed = true

-- does a refusal close the document?
abbrev pub closes : Refusal → Bool
closes r = marks (effect r)

-- an answer: a refusal, or a value
pub data Answer (A : Type 0) : Type 0 where
  refuse : Refusal → Answer A
  good : A → Answer A
