-- Document 01, xml:lang, as request 2 of document 02 amends it: "xml:lang="" to say that an item has none".
use Rattle.std.specs.Prelude.{Bool, true, false, map, ℕ, length}
use Rattle.std.proofs.Math.Option.{Option, none, some}
use Rattle.spec.specs.Bytes.{Bytes, when◌then◌else◌, is_empty}
use Rattle.spec.specs.Abnf.{lower}
use Rattle.spec.specs.Rfc5646.{is_language_tag}
use Rattle.spec.specs.Rfc5646 as L
use Rattle.spec.specs.declared.Verdict.{Verdict}
use Rattle.spec.specs.declared.Verdict.TheVariants.{Good, Clears, Bad}

-- ---- "The tag check shall answer "clears" besides "good" and "bad""

-- of a value of xml:lang
unfoldable pub verdict : Bytes → Verdict
verdict v = when is_empty v then Clears else when is_language_tag v then Good else Bad

-- 10: only a bad one is refused
unfoldable pub is_allowed : Verdict → Bool
is_allowed Good = true
is_allowed Clears = true
is_allowed Bad = false

-- ---- a tag: how it is kept, and which bytes are written

pub record LanguageTag : Type 0 where
  pub lowercased : Bytes

-- of a good value of xml:lang
unfoldable pub tag_of : Bytes → LanguageTag
tag_of v = record { lowercased = map lower v }

-- behind "@" in a line
unfoldable pub written : LanguageTag → Bytes
written t = t.lowercased

-- held bytes
unfoldable pub tag_bytes : LanguageTag → ℕ
tag_bytes t = length t.lowercased

-- ---- what an element says of its language

pub data Own : Type 0 where
  -- nothing: the language around holds in it
  unsaid : Own
  -- there is none in it
  cleared : Own
  -- this one
  given : LanguageTag → Own

-- by the verdict on its value (a bad one is refused, and says nothing)
unfoldable pub said_by : Verdict → Bytes → Own
said_by Good v = given (tag_of v)
said_by Clears v = cleared
said_by Bad v = unsaid

-- by its xml:lang, if it has one
unfoldable pub own_of : Option Bytes → Own
own_of none = unsaid
own_of (some v) = said_by (verdict v) v

-- does it carry xml:lang?
unfoldable pub carries : Own → Bool
carries unsaid = false
carries cleared = true
carries (given t) = true

-- held bytes: the tag's
unfoldable pub own_bytes : Own → ℕ
own_bytes unsaid = 0
own_bytes cleared = 0
own_bytes (given t) = tag_bytes t

-- ---- what is in force in an element

pub data Language : Type 0 where
  no_language : Language
  language : LanguageTag → Language

-- by what the element says, and what is in force around it
unfoldable pub in_force : Own → Language → Language
in_force unsaid l = l
in_force cleared l = no_language
in_force (given t) l = language t

-- the tag that literals in it have, if they have one
unfoldable pub spoken : Language → Option Bytes
spoken no_language = none
spoken (language t) = some (written t)

unfoldable pub all : Unit {0}
unfolding L.all verdict is_allowed tag_of written tag_bytes said_by own_of carries own_bytes in_force spoken
all = tt
