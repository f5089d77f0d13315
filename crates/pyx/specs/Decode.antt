-- What an answer of `decode` stands for.
use Rattle.std.specs.Prelude.{◌≡◌, Bool, true, false, ◌||◌, List, ℕ, ◌/◌, ◌<◌, ◌≤◌, eqb, ltb, length, take}
use Rattle.spec.specs.Bytes.{Bytes, up_to}
use Rattle.spec.specs.Limits.{most_event_bytes}
use Rattle.spec.specs.Numbers.{Answer, refuse, good}
use Rattle.spec.specs.declared.Refusal.TheVariants.{NotPyx}
use Rattle.spec.specs.Pyx.{Attribute, opening, closing, text, instruction, read_event}
use Rattle.spec.specs.Pyx as P
use Rattle.pyx.specs.Lines.{spaced, Kept}
use Rattle.pyx.specs.Names.{colon_of}
use Rattle.pyx.specs.Attributes.{attributes_of, Placed}
use Rattle.pyx.specs.declared.Event.{Event}
use Rattle.pyx.specs.declared.Event.TheVariants.{Malformed, NoScratch, Instruction, Text, Closing, Opening, Crowded}

-- is an event too long, or longer than the scratch, or none that `first_event` gives?
unfoldable pub unread : Bytes → List ℕ → Bool
unread s d = ltb most_event_bytes (length s) || (ltb (length d) (length s) || spaced s)

-- the answer for such an event
abbrev pub no_scratch : Event → Bool
no_scratch Malformed = false
no_scratch NoScratch = true
no_scratch Instruction = false
no_scratch (Text m) = false
no_scratch (Closing m) = false
no_scratch (Opening m c k) = false
no_scratch Crowded = false

-- a start tag: its name is the first m bytes, with its colon at c, and its k attributes are where the words say
pub record Opened (a : Answer P.Event) (n : ℕ) (e w : List ℕ) (m c k : ℕ) : Type 0 where
  pub is : a ≡ good (opening (take m e) (attributes_of e w k))
  pub within : m ≤ n
  pub colon : c ≡ colon_of (take m e)
  pub fits : k ≤ length w / 4
  pub placed : (j : ℕ) → j < k → Placed e w j n

-- a start tag with more attributes than the words have places for
pub record Over (a : Answer P.Event) (w : List ℕ) : Type 0 where
  pub name : Bytes
  pub attributes : List Attribute
  pub is : a ≡ good (opening name attributes)
  pub many : length w / 4 < length attributes

-- what an answer says of the event, which has n bytes
abbrev pub Means : Event → Answer P.Event → ℕ → List ℕ → List ℕ → List ℕ → List ℕ → Type 0
Means Malformed a n d e w v = a ≡ refuse NotPyx
Means NoScratch a n d e w v = (e ≡ d) × (v ≡ w)
Means Instruction a n d e w v = a ≡ good instruction
Means (Text m) a n d e w v = (a ≡ good (text (take m e))) × (m ≤ n)
Means (Closing m) a n d e w v = (a ≡ good (closing (take m e))) × (m ≤ n)
Means (Opening m c k) a n d e w v = Opened a n e v m c k
Means Crowded a n d e w v = Over a w

-- an answer for an event of n bytes that is read as a, and unread where u is true: d and e are the scratch before and behind it, w and v the words
pub record Says (r : Event) (a : Answer P.Event) (u : Bool) (n : ℕ) (d e w v : List ℕ) : Type 0 where
  pub refused : no_scratch r ≡ u
  pub means : Means r a n d e w v
  pub kept : Kept d e n
  pub words : length v ≡ length w

-- `decode`
abbrev pub Decodes : Event → Bytes → List ℕ → List ℕ → List ℕ → List ℕ → Type 0
Decodes r s d e w v = Says r (read_event s) (unread s d) (length s) d e w v

-- inside `decode`: the event's first line has n bytes, and its texts fit the scratch
pub record Fits (s d : Bytes) (n : ℕ) : Type 0 where
  pub line : n ≡ length (up_to (λ c. eqb c 10) s)
  pub ended : n < length s
  pub room : length s ≤ length d
  pub most : length s ≤ 32_768
  pub clear : spaced s ≡ false
