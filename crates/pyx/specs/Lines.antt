-- An event's lines, and what is kept of the scratch.
use Rattle.std.specs.Prelude.{◌≡◌, Bool, true, false, ◌&&◌, ◌||◌, ℕ, ◌-◌, ◌<◌, Result, Ok, Err, eqb, length, take, drop, get_or}
use mathlib.Core.List.{List, [], ◌∷◌, ◌++◌, drop_last}
use Rattle.spec.specs.Bytes.{Bytes, ascii, byte, begins, split, up_to, every, ◌>>=◌}
use Rattle.spec.specs.Utf8.{as_characters}
use Rattle.spec.specs.XmlNames.{is_char}
use Rattle.spec.specs.Numbers.{Answer, refuse, good}
use Rattle.spec.specs.declared.Refusal.TheVariants.{NotPyx}
use Rattle.spec.specs.Pyx.{read_event}
use Rattle.utils.specs.Plain.{printable}
use Rattle.pyx.specs.declared.LineError.{LineError}
use Rattle.pyx.specs.declared.LineError.TheVariants.{Spaced, NotText}

-- the lines that have an end
unfoldable pub lines_of : Bytes → List Bytes
lines_of s = drop_last (split (byte "\n") s)

-- does a line behind the first begin with a space?
unfoldable pub spaced : Bytes → Bool
spaced [] = false
spaced (a ∷ s) = (eqb a (byte "\n") && begins (ascii " ") s) || spaced s

-- an answer, behind what was there before it
unfoldable pub front : {A : Type 0} → List A → Answer (List A) → Answer (List A)
front xs r = r >>= λ ys. good (xs ++ ys)

-- nothing changed from `n` on
pub record Kept (d e : List ℕ) (n : ℕ) : Type 0 where
  pub same : length e ≡ length d
  pub beyond : drop n e ≡ drop n d

-- ---- the first line of an event

-- bytes in ASCII that are no control characters, and a line feed
pub record PlainLine (s : Bytes) : Type 0 where
  pub some : 0 < length s
  pub ended : get_or s (length s - 1) 0 ≡ 10
  pub plain : every printable (take (length s - 1) s) ≡ true

-- a text whose first line has n bytes, and no line of which begins with a space
pub record Headed (s : Bytes) (n : ℕ) : Type 0 where
  pub clear : false ≡ spaced s
  pub text : true ≡ as_characters (every is_char) s
  pub line : n ≡ length (up_to (λ c. eqb c 10) s)
  pub ended : n < length s

-- `first_line`
abbrev pub Begins : Result ℕ LineError → Bytes → Type 0
Begins (Ok n) s = Headed s n
Begins (Err Spaced) s = true ≡ spaced s
Begins (Err NotText) s = (false ≡ spaced s) × (read_event s ≡ refuse NotPyx)
