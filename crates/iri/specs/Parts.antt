-- The parts of an IRI that are rows of characters, and of escaped ones.
use Rattle.std.specs.Prelude.{◌≡◌, Bool, true, false, ◌&&◌, ◌||◌, List, [], ◌∷◌, ℕ, ◌<◌, ◌≤◌, eqb, length, drop}
use Rattle.spec.specs.Bytes.{Bytes, ascii, byte, between, among, in_ranges}
use Rattle.spec.specs.Bytes as B
use Rattle.spec.specs.Grammar.{Grammar, one, ◌or◌, many, accepts}
use Rattle.spec.specs.Abnf.{lower, letters}
use Rattle.spec.specs.Rfc3987.{pct_encoded}
use Rattle.spec.specs.Utf8.{as_characters}
use Rattle.iri.specs.declared.Part.{Part}
use Rattle.iri.specs.declared.Part.TheVariants.{Scheme, Port, Hex, Later, UserInfo, Name, Path, Query, Fragment}

-- are bytes what a grammar of characters describes?
abbrev pub of : Grammar ℕ → Bytes → Bool
of g s = as_characters (accepts g) s

-- what stands at each place of a row: a character of a set, this one, an escape, or one of two kinds
pub data Class : Type 0 where
  set : (ℕ → Bool) → Class
  letter : ℕ → Class
  escape : Class
  ◌either◌ : Class → Class → Class

infixr 20 ◌either◌
unfoldable pub grammar : Class → Grammar ℕ
grammar (set p) = one p
grammar (letter d) = letters (d ∷ [])
grammar escape = pct_encoded
grammar (k either l) = grammar k or grammar l

-- the characters that it allows as they are
unfoldable pub allowed : Class → ℕ → Bool
allowed (set p) c = p c
allowed (letter d) c = eqb (lower c) d
allowed escape c = false
allowed (k either l) c = allowed k c || allowed l c

-- does it allow escapes?
unfoldable pub escapes : Class → Bool
escapes (set p) = false
escapes (letter d) = false
escapes escape = true
escapes (k either l) = escapes k || escapes l

-- RFC 5234: ALPHA, ALPHA / DIGIT, HEXDIG
unfoldable pub is_alpha : ℕ → Bool
is_alpha c = between (byte "a") (byte "z") (lower c)

unfoldable pub is_digit : ℕ → Bool
is_digit c = between (byte "0") (byte "9") c

unfoldable pub is_alphanum : ℕ → Bool
is_alphanum c = is_alpha c || is_digit c

unfoldable pub is_hex : ℕ → Bool
is_hex c = is_digit c || between (byte "a") (byte "f") (lower c)

-- RFC 3987
unfoldable pub ucschars : List (ℕ × ℕ)
ucschars =
    (0xA0, 0xD7FF) ∷ (0xF900, 0xFDCF) ∷ (0xFDF0, 0xFFEF) ∷ (0x10000, 0x1FFFD) ∷ (0x20000, 0x2FFFD) ∷ (0x30000, 0x3FFFD) ∷ (0x40000, 0x4FFFD) ∷
    (0x50000, 0x5FFFD) ∷ (0x60000, 0x6FFFD) ∷ (0x70000, 0x7FFFD) ∷ (0x80000, 0x8FFFD) ∷ (0x90000, 0x9FFFD) ∷ (0xA0000, 0xAFFFD) ∷
    (0xB0000, 0xBFFFD) ∷ (0xC0000, 0xCFFFD) ∷ (0xD0000, 0xDFFFD) ∷ (0xE1000, 0xEFFFD) ∷ []

unfoldable pub is_ucschar : ℕ → Bool
is_ucschar c = in_ranges ucschars c

unfoldable pub iprivates : List (ℕ × ℕ)
iprivates = (0xE000, 0xF8FF) ∷ (0xF0000, 0xFFFFD) ∷ (0x100000, 0x10FFFD) ∷ []

unfoldable pub is_iprivate : ℕ → Bool
is_iprivate c = in_ranges iprivates c

unfoldable pub unreserved : Class
unreserved = set is_alphanum either set (among (ascii "-._~")) either set is_ucschar

unfoldable pub delims : Class
delims = set (among (ascii "!$&'()*+,;="))

unfoldable pub pchar : Class
pchar = unreserved either escape either delims either set (among (ascii ":@"))

-- of each part
unfoldable pub class_of : Part → Class
class_of Scheme = set is_alphanum either set (among (ascii "+-."))
class_of Port = set is_digit
class_of Hex = set is_hex
class_of Later = set is_alphanum either set (among (ascii "-._~")) either delims either letter (byte ":")
class_of UserInfo = unreserved either escape either delims either letter (byte ":")
class_of Name = unreserved either escape either delims
class_of Path = pchar either letter (byte "/")
class_of Query = pchar either set is_iprivate either set (among (ascii "/?"))
class_of Fragment = pchar either set (among (ascii "/?"))

-- does it allow every letter and digit of ASCII, "-" and "."?
unfoldable pub lettered : Part → Bool
lettered Scheme = true
lettered Port = false
lettered Hex = false
lettered Later = true
lettered UserInfo = true
lettered Name = true
lettered Path = true
lettered Query = true
lettered Fragment = true

-- and "/"?
unfoldable pub slashed : Part → Bool
slashed Scheme = false
slashed Port = false
slashed Hex = false
slashed Later = false
slashed UserInfo = false
slashed Name = false
slashed Path = true
slashed Query = true
slashed Fragment = true

-- a letter or digit, "-" or ".", or "/" where so said
unfoldable pub common : Bool → ℕ → Bool
common t c = is_alphanum c || (among (ascii "-.") c || (t && eqb c (byte "/")))

-- such a part
unfoldable pub row : Part → Grammar ℕ
row p = many (grammar (class_of p))

-- does a text begin with "%" and two hexadecimal digits?
unfoldable pub escaped : Bytes → Bool
escaped [] = false
escaped (c ∷ []) = false
escaped (c ∷ a ∷ []) = false
escaped (c ∷ a ∷ b ∷ s) = eqb c (byte "%") && (is_hex a && is_hex b)

-- how many bytes the first place of a row takes; 0 where it takes none
pub record Taken (p : Part) (s : Bytes) (n : ℕ) : Type 0 where
  pub within : n ≤ length s
  pub none : n ≡ 0 → 0 < length s → of (row p) s ≡ false
  pub some : 0 < n → of (row p) s ≡ of (row p) (drop n s)

-- the first `at` bytes are places of a row: the whole is one if the rest is
pub record Walked (p : Part) (s : Bytes) (at : ℕ) : Type 0 where
  pub upto : at ≤ length s
  pub rest : of (row p) s ≡ of (row p) (drop at s)

unfoldable pub all : Unit {0}
unfolding B.all lower is_alpha is_digit is_alphanum is_hex ucschars is_ucschar iprivates is_iprivate unreserved delims pchar class_of
all = tt
