-- How the language of an element is kept: a tag by its bytes, in lower case; xml:lang="" as a tag that has none.
use Rattle.std.specs.Prelude.{◌≡◌, refl, Bool, true, false, [], ◌∷◌, map, ℕ, ◌≤◌, eqb, length}
use Rattle.std.proofs.Common.{sym, arith}
use Rattle.std.proofs.lemmas.Bool.{false≢true}
use Rattle.std.proofs.Math.Option.{some}
use Rattle.spec.specs.Bytes.{Bytes, when◌then◌else◌, is_empty}
use Rattle.spec.specs.Abnf.{lower}
use Rattle.spec.specs.Rfc5646.{is_language_tag}
use Rattle.spec.specs.declared.Verdict.TheVariants.{Good, Bad}
use Rattle.spec.specs.XmlLang.{verdict, is_allowed, LanguageTag, tag_of, tag_bytes, Own, unsaid, cleared, given, said_by, own_of, carries, own_bytes, Language, no_language, language, in_force}
use Rattle.copy.specs.Copy.{part, part_short}
use Rattle.state_words.specs.Words.{pick}
use Rattle.state.specs.declared.language.Own as code
use Rattle.state.specs.declared.language.Own.TheVariants.{Unsaid, Cleared, Given}
use Rattle.state.specs.declared.Span.{Span}
use Rattle.std.specs.declared.option.Option as std
use Rattle.std.specs.Prelude.{Some, None}

-- ---- by the bytes that are kept

-- the tag of these bytes
abbrev pub kept : Bytes → LanguageTag
kept b = record { lowercased = b }

-- what an element with xml:lang says
unfoldable pub said_as : Bytes → Own
said_as [] = cleared
said_as (c ∷ s) = given (kept (c ∷ s))

-- what an element says, by its mark, which is 0 where it has no xml:lang
unfoldable pub own_in : ℕ → Bytes → Own
own_in m b = pick (eqb m 0) unsaid (said_as b)

-- the same, where a test tells whether it has
unfoldable pub said_if : Bool → Bytes → Own
said_if t b = pick t (said_as b) unsaid

-- what is in force
unfoldable pub language_of : Bytes → Language
language_of [] = no_language
language_of (c ∷ s) = language (kept (c ∷ s))

-- ---- as code has it

abbrev pub mark_of : code.Own → ℕ
mark_of Unsaid = 0
mark_of Cleared = 1
mark_of (Given at n) = 1

abbrev pub is_said : code.Own → Bool
is_said Unsaid = false
is_said Cleared = true
is_said (Given at n) = true

unfoldable pub tag_of_own : code.Own → Bytes → Bytes
tag_of_own Unsaid a = []
tag_of_own Cleared a = []
tag_of_own (Given at n) a = part a at n

-- what the element says
abbrev pub own_of_code : code.Own → Bytes → Own
own_of_code o a = own_in (mark_of o) (tag_of_own o a)

-- the bytes of a stretch of a store, if there is one
unfoldable pub bytes_found : std.Option Span → Bytes → Bytes
bytes_found None w = []
bytes_found (Some s) w = part w s.at s.len

-- what is in force is the stretch of a tag
abbrev pub tag_of_language : std.Option Span → Bytes → Bytes
tag_of_language = bytes_found

unfoldable pub tag_in_force : code.Own → std.Option Span → Bytes → Bytes → Bytes
tag_in_force Unsaid l w a = tag_of_language l w
tag_in_force Cleared l w a = []
tag_in_force (Given at n) l w a = part a at n

-- ---- laws

pub in_force_said : (b : Bytes) (l : Language) → in_force (said_as b) l ≡ language_of b
unfolding in_force said_as language_of
in_force_said [] l = refl
in_force_said (c ∷ s) l = refl

pub bytes_said : (b : Bytes) → own_bytes (said_as b) ≡ length b
unfolding own_bytes said_as tag_bytes
bytes_said [] = refl
bytes_said (c ∷ s) = refl

pub carries-said : (b : Bytes) → carries (said_as b) ≡ true
unfolding carries said_as
carries-said [] = refl
carries-said (c ∷ s) = refl

pub carries_if : (t : Bool) (b : Bytes) → carries (said_if t b) ≡ t
unfolding said_if carries
carries_if true b = carries-said b
carries_if false b = refl

pub carries_by_lem : (o : code.Own) (a : Bytes) → carries (own_of_code o a) ≡ is_said o
unfolding own_in carries
carries_by_lem Unsaid a = refl
carries_by_lem Cleared a = carries-said (tag_of_own Cleared a)
carries_by_lem (Given at n) a = carries-said (tag_of_own (Given at n) a)

pub bytes_by : (o : code.Own) (a : Bytes) → own_bytes (own_of_code o a) ≡ length (tag_of_own o a)
unfolding own_in own_bytes tag_of_own
bytes_by Unsaid a = refl
bytes_by Cleared a = bytes_said []
bytes_by (Given at n) a = bytes_said (part a at n)

pub tag_short : (o : code.Own) (a : Bytes) → length (tag_of_own o a) ≤ length a
unfolding tag_of_own
tag_short Unsaid a = omega arith
tag_short Cleared a = omega arith
tag_short (Given at n) a = part_short a at n

-- the language in force by what an element says, and what is around it
pub in_force_by : (o : code.Own) (l : std.Option Span) (w a : Bytes) → language_of (tag_in_force o l w a) ≡ in_force (own_of_code o a) (language_of (tag_of_language l w))
unfolding tag_in_force tag_of_own own_in in_force said_as language_of
in_force_by Unsaid l w a = refl
in_force_by Cleared l w a = refl
in_force_by (Given at n) l w a = sym (in_force_said (part a at n) (language_of (tag_of_language l w)))

-- a value that is not refused says what its bytes in lower case are kept for
pub said_kept : (v : Bytes) → is_allowed (verdict v) ≡ true → own_of (some v) ≡ said_as (map lower v)
unfolding own_of said_by verdict is_allowed is_empty tag_of said_as when◌then◌else◌
said_kept [] h = refl
said_kept (c ∷ s) h = go (is_language_tag (c ∷ s)) h
  where
    go : (t : Bool) → is_allowed (when t then Good else Bad) ≡ true → said_by (when t then Good else Bad) (c ∷ s) ≡ given (kept (map lower (c ∷ s)))
    go true h = refl
    go false h = absurd (false≢true h)
