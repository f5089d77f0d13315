-- W3C N-Triples 1.1, section 7, by value: what a line says. The productions stand under the grammar's names and in its order.
-- A text is its bytes in UTF-8: a character that stands for itself says its own bytes, an escape those of the character it names.
use Rattle.std.specs.Prelude.{Bool, true, ◌||◌, not, List, [], ◌∷◌, ◌++◌, ℕ, zero, suc, ◌+◌, ◌-◌, ◌*◌, ◌/◌, ◌%◌, eqb, ltb, length}
use Rattle.std.proofs.Math.Option.{Option, none, some}
use Prim.Native.String.{String}
use Rattle.spec.specs.Bytes.{Bytes, ascii, byte, when◌then◌else◌, begins, after, between, among, is_empty}
use Rattle.spec.specs.Grammar.{Grammar, accepts}
use Rattle.spec.specs.Utf8.{is_scalar, as_characters}
use Rattle.spec.specs.NTriples.{Subject, named, blank, Term, node, plain, tagged, typed, Triple}
use Rattle.spec.specs.NTriples as N
use Rattle.spec.specs.NTriplesGrammar as G

-- ---- reading from the front

-- what a piece at the front of a text says, and the rest of the text; or nothing, where it does not stand there
abbrev pub Reader : Type 0 → Type 0
Reader A = Bytes → Option (A × Bytes)

infixl 5 ◌>>=◌
unfoldable pub ◌>>=◌ : {A B : Type 0} → Option A → (A → Option B) → Option B
◌>>=◌ none f = none
◌>>=◌ (some a) f = f a

-- what it says, made into another thing
unfoldable pub says : {A B : Type 0} → (A → B) → Reader A → Reader B
says f p s = p s >>= λ r. some (f r.0, r.1)

-- the first of two that stands there
infixr 20 ◌or◌
unfoldable pub ◌or◌ : {A : Type 0} → Reader A → Reader A → Reader A
◌or◌ p q s = elim (p s) [ none ↦ q s | some r ↦ some r ]

-- one behind the other: the second says it, or the first
infixr 30 ◌then◌ ◌followedBy◌
unfoldable pub ◌then◌ : {A B : Type 0} → Reader A → Reader B → Reader B
◌then◌ p q s = p s >>= λ r. q r.1

unfoldable pub ◌followedBy◌ : {A B : Type 0} → Reader A → Reader B → Reader A
◌followedBy◌ p q s = p s >>= λ r. q r.1 >>= λ t. some (r.0, t.1)

unfoldable pub optional : {A : Type 0} → Reader A → Reader (Option A)
optional p = says some p or λ s. some (none, s)

-- as many as stand there, up to n
unfoldable pub up_to : ℕ → Reader Bytes → Reader Bytes
up_to zero p s = some ([], s)
up_to (suc n) p s = elim (p s) [ none ↦ some ([], s) | some r ↦ says (λ v. r.0 ++ v) (up_to n p) r.1 ]

-- as many as stand there; a piece has a byte at least
unfoldable pub many : Reader Bytes → Reader Bytes
many p s = up_to (length s) p s

-- a byte of a class; what the classes leave out is ASCII, so that all bytes of another character are in them
unfoldable pub one : (ℕ → Bool) → Reader Bytes
one p [] = none
one p (c ∷ s) = when p c then some (c ∷ [], s) else none

unfoldable pub text : String → Reader (Unit {0})
text w s = when begins (ascii w) s then some (tt, after (ascii w) s) else none

-- the longest beginning that passes a test
unfoldable pub longest : (Bytes → Bool) → Reader Bytes
longest p [] = when p [] then some ([], []) else none
longest p (c ∷ s) =
    elim (longest (λ u. p (c ∷ u)) s) [
      | none ↦ when p [] then some ([], c ∷ s) else none
      | some r ↦ some (c ∷ r.0, r.1)
    ]

-- a terminal without escapes says what follows its mark
unfoldable pub terminal : Grammar ℕ → String → Reader Bytes
terminal g mark = says (after (ascii mark)) (longest (as_characters (accepts g)))

-- ---- RFC 3629, section 3: the bytes of a character

-- 10xxxxxx: the last six bits
unfoldable pub last_bits : ℕ → ℕ
last_bits c = 0x80 + c % 64

unfoldable pub utf8 : ℕ → Bytes
utf8 c =
    when ltb c 0x80 then c ∷ [] else
    when ltb c 0x800 then (0xC0 + c / 64) ∷ last_bits c ∷ [] else
    when ltb c 0x10000 then (0xE0 + c / 64 / 64) ∷ last_bits (c / 64) ∷ last_bits c ∷ [] else
    (0xF0 + c / 64 / 64 / 64) ∷ last_bits (c / 64 / 64) ∷ last_bits (c / 64) ∷ last_bits c ∷ []

-- ---- the terminals

-- [162s] HEX
unfoldable pub HEX : ℕ → Option ℕ
HEX c =
    when between (byte "0") (byte "9") c then some (c - byte "0") else
    when between (byte "A") (byte "F") c then some (10 + (c - byte "A")) else
    when between (byte "a") (byte "f") c then some (10 + (c - byte "a")) else none

-- n of them behind those that say v
unfoldable pub digits : ℕ → ℕ → Reader ℕ
digits zero v s = some (v, s)
digits (suc n) v [] = none
digits (suc n) v (c ∷ s) = HEX c >>= λ d. digits n (16 * v + d) s

-- the character of a number: none is a surrogate, none is above 10FFFF
unfoldable pub character : Reader ℕ → Reader Bytes
character p s = p s >>= λ r. when is_scalar r.0 then some (utf8 r.0, r.1) else none

-- [10] UCHAR
unfoldable pub UCHAR : Reader Bytes
UCHAR = character (text "\\u" then digits 4 0) or character (text "\\U" then digits 8 0)

-- [153s] ECHAR: what stands behind the backslash, and the character that it says
unfoldable pub ECHARS : List (ℕ × ℕ)
ECHARS =
    (byte "t", 0x09) ∷ (byte "b", 0x08) ∷ (byte "n", 0x0A) ∷ (byte "r", 0x0D) ∷ (byte "f", 0x0C) ∷
    (byte "\"", 0x22) ∷ (byte "'", 0x27) ∷ (byte "\\", 0x5C) ∷ []

unfoldable pub one_of : List (ℕ × ℕ) → Reader Bytes
one_of l [] = none
one_of [] (c ∷ s) = none
one_of (e ∷ l) (c ∷ s) = when eqb e.0 c then some (e.1 ∷ [], s) else one_of l (c ∷ s)

unfoldable pub ECHAR : Reader Bytes
ECHAR = text "\\" then one_of ECHARS

-- [8] IRIREF
unfoldable pub IRIREF : Reader Bytes
IRIREF =
    text "<" then many (one (λ c. not (between 0 0x20 c || among (ascii "<>\"{}|^`\\") c)) or UCHAR) followedBy text ">"

-- [141s] BLANK_NODE_LABEL
unfoldable pub BLANK_NODE_LABEL : Reader Bytes
BLANK_NODE_LABEL = terminal G.BLANK_NODE_LABEL "_:"

-- [144s] LANGTAG
unfoldable pub LANGTAG : Reader Bytes
LANGTAG = terminal G.LANGTAG "@"

-- [9] STRING_LITERAL_QUOTE
unfoldable pub STRING_LITERAL_QUOTE : Reader Bytes
STRING_LITERAL_QUOTE =
    text "\"" then many (one (λ c. not (among (ascii "\"\\\n\r") c)) or ECHAR or UCHAR) followedBy text "\""

-- ---- the productions

-- section 7: white space may stand between terminals
unfoldable pub WS : Reader Bytes
WS = many (one (among (ascii " \t")))

-- [6]
unfoldable pub literal : Reader Term
literal s =
    STRING_LITERAL_QUOTE s >>= λ v.
    (says (typed v.0) (WS then text "^^" then WS then IRIREF)
    or says (tagged v.0) (WS then LANGTAG)
    or λ rest. some (plain v.0, rest)) v.1

-- [3], [4], [5]
unfoldable pub subject : Reader Subject
subject = says named IRIREF or says blank BLANK_NODE_LABEL

unfoldable pub predicate : Reader Bytes
predicate = IRIREF

unfoldable pub object : Reader Term
object = says node subject or literal

-- [2] triple
unfoldable pub triple : Reader Triple
triple s =
    (WS then subject) s >>= λ x.
    (WS then predicate) x.1 >>= λ p.
    ((WS then object) followedBy (WS then text ".")) p.1 >>= λ o.
    some (N.triple x.0 p.0 o.0, o.1)

-- section 7: a comment goes from `#` to the end of its line
unfoldable pub comment : Reader Bytes
comment = text "#" then many (one (λ c. not (among (ascii "\r\n") c)))

-- [7] EOL, or the end of the text
unfoldable pub EOL : Reader (Unit {0})
EOL [] = some (tt, [])
EOL (c ∷ s) = when among (ascii "\r\n") c then some (tt, s) else none

-- a line with its end: a triple, if there is one, and a comment, if there is one
unfoldable pub line : Reader (Option Triple)
line = optional triple followedBy (WS then optional comment then EOL)

-- the triple of a line, if it has one, and those of the lines behind it
unfoldable pub in_front : Option Triple → List Triple → List Triple
in_front none ts = ts
in_front (some t) ts = t ∷ ts

-- [1] ntriplesDoc: up to n lines
unfoldable pub lines : ℕ → Bytes → Option (List Triple)
lines zero s = when is_empty s then some [] else none
lines (suc n) s = when is_empty s then some [] else line s >>= λ l. lines n l.1 >>= λ ts. some (in_front l.0 ts)

-- a document: its triples in order; or nothing, where it is none. No more lines than bytes.
unfoldable pub ntriples_doc : Bytes → Option (List Triple)
ntriples_doc s = when as_characters (λ cs. true) s then lines (length s) s else none

unfoldable pub all : Unit {0}
unfolding G.all N.all ◌>>=◌ says ◌or◌ ◌then◌ ◌followedBy◌ optional up_to many one text longest terminal last_bits utf8 HEX digits character UCHAR ECHARS one_of ECHAR IRIREF BLANK_NODE_LABEL LANGTAG STRING_LITERAL_QUOTE WS literal subject predicate object triple comment EOL line in_front lines ntriples_doc
all = tt
