-- Bytes, and texts as lists of bytes.
use Rattle.std.specs.Prelude.{Bool, true, false, ◌&&◌, ◌||◌, List, [], ◌∷◌, ◌++◌, ℕ, ◌+◌, eqb, leb, length}
use Rattle.std.proofs.Math.Option.{Option, none, some}
use Prim.Native.String.{String, [] as empty, ◌∷◌ as ◌then◌}
use Prim.Native.Char.{Char, code}
use Rattle.spec.specs.Numbers.{Answer, refuse, good}
use Rattle.spec.specs.declared.Refusal.{Refusal}

abbrev pub Bytes : Type 0
Bytes = List ℕ

-- the bytes of an ASCII text
unfoldable pub ascii : String → Bytes
ascii empty = []
ascii (◌then◌ c s) = code c ∷ ascii s

-- the byte of an ASCII character
unfoldable pub byte : Char → ℕ
byte c = code c

infixr 4 when◌then◌else◌
unfoldable pub when◌then◌else◌ : {A : Type 0} → Bool → A → A → A
when◌then◌else◌ true a b = a
when◌then◌else◌ false a b = b

unfoldable pub same : Bytes → Bytes → Bool
same [] [] = true
same [] (b ∷ t) = false
same (a ∷ s) [] = false
same (a ∷ s) (b ∷ t) = eqb a b && same s t

-- does the second text begin with the first?
unfoldable pub begins : Bytes → Bytes → Bool
begins [] s = true
begins (a ∷ p) [] = false
begins (a ∷ p) (b ∷ s) = eqb a b && begins p s

-- what follows a beginning
unfoldable pub after : Bytes → Bytes → Bytes
after [] s = s
after (a ∷ p) [] = []
after (a ∷ p) (b ∷ s) = after p s

-- the elements that pass a test
unfoldable pub those : {A : Type 0} → (A → Bool) → List A → List A
those p [] = []
those p (a ∷ l) = when p a then (a ∷ those p l) else those p l

-- a text up to, and from, the first byte of a set
unfoldable pub up_to : (ℕ → Bool) → Bytes → Bytes
up_to p [] = []
up_to p (a ∷ s) = when p a then [] else (a ∷ up_to p s)

unfoldable pub from : (ℕ → Bool) → Bytes → Bytes
from p [] = []
from p (a ∷ s) = when p a then (a ∷ s) else from p s

-- is a byte among those of a text?
unfoldable pub among : Bytes → ℕ → Bool
among [] b = false
among (a ∷ s) b = eqb a b || among s b

unfoldable pub is_empty : {A : Type 0} → List A → Bool
is_empty [] = true
is_empty (a ∷ s) = false

unfoldable pub every : (ℕ → Bool) → Bytes → Bool
every p [] = true
every p (a ∷ s) = p a && every p s

unfoldable pub member : Bytes → List Bytes → Bool
member s [] = false
member s (t ∷ l) = same s t || member s l

unfoldable pub between : ℕ → ℕ → ℕ → Bool
between a z b = leb a b && leb b z

-- is a number in one of some ranges, first and last number each?
unfoldable pub in_ranges : List (ℕ × ℕ) → ℕ → Bool
in_ranges [] c = false
in_ranges (r ∷ rs) c = between r.0 r.1 c || in_ranges rs c

-- what holds of every element
abbrev pub All : {A : Type 0} → (A → Type 0) → List A → Type 0
All P [] = Unit {0}
All P (a ∷ l) = P a × All P l

-- does a text stand more than once in a list?
unfoldable pub repeats : List Bytes → Bool
repeats [] = false
repeats (s ∷ l) = member s l || repeats l

-- the sum of a measure over a list
unfoldable pub total : {A : Type 0} → (A → ℕ) → List A → ℕ
total f [] = 0
total f (a ∷ l) = f a + total f l

-- the length of a text that may be missing
unfoldable pub size_of : Option Bytes → ℕ
size_of none = 0
size_of (some s) = length s

-- the first, or where it is missing the second
unfoldable pub or_else : Option Bytes → Option Bytes → Option Bytes
or_else none b = b
or_else (some a) b = some a

unfoldable pub is_some : {A : Type 0} → Option A → Bool
is_some none = false
is_some (some a) = true

-- the texts that are not missing
unfoldable pub present : List (Option Bytes) → List Bytes
present [] = []
present (none ∷ l) = present l
present (some s ∷ l) = s ∷ present l

-- the pieces of a text between the separators: one more than there are separators
unfoldable pub onto : ℕ → List Bytes → List Bytes
onto c [] = (c ∷ []) ∷ []
onto c (l ∷ ls) = (c ∷ l) ∷ ls

unfoldable pub split : ℕ → Bytes → List Bytes
split sep [] = [] ∷ []
split sep (c ∷ s) = when eqb c sep then [] ∷ split sep s else onto c (split sep s)

unfoldable pub concat : List Bytes → Bytes
concat [] = []
concat (s ∷ l) = s ++ concat l

infixl 5 ◌>>=◌
unfoldable pub ◌>>=◌ : {A B : Type 0} → Answer A → (A → Answer B) → Answer B
◌>>=◌ (refuse n) f = refuse n
◌>>=◌ (good a) f = f a

infixl 5 ◌>>◌
unfoldable pub ◌>>◌ : {A B : Type 0} → Answer A → Answer B → Answer B
◌>>◌ (refuse n) b = refuse n
◌>>◌ (good a) b = b

-- this refusal unless the test passes
unfoldable pub require◌or◌ : Bool → Refusal → Answer (Unit {0})
require◌or◌ true n = good tt
require◌or◌ false n = refuse n

infix 6 require◌or◌
-- a check of each element in order
unfoldable pub each : {A B : Type 0} → (A → Answer B) → List A → Answer (List B)
each f [] = good []
each f (a ∷ l) = f a >>= λ b. each f l >>= λ bs. good (b ∷ bs)

unfoldable pub all : Unit {0}
unfolding ascii byte when◌then◌else◌ same begins after those up_to from among is_empty every member between in_ranges repeats total size_of or_else is_some present onto split concat ◌>>=◌ ◌>>◌ require◌or◌ each
all = tt
