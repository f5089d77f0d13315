-- W3C N-Triples 1.1, section 7: the grammar of a document, over characters.
use Rattle.std.specs.Prelude.{Bool, ◌||◌, not, List, [], ◌∷◌, ℕ, eqb}
use Prim.Native.String.{String}
use Rattle.spec.specs.Bytes.{Bytes, ascii, byte, between, among, in_ranges}
use Rattle.spec.specs.Grammar.{Grammar, empty, one, ◌or◌, ◌then◌, many, accepts}
use Rattle.spec.specs.Abnf.{ALPHA, DIGIT, alphanum, HEXDIG, any_of, optional, some, times}
use Rattle.spec.specs.Abnf as A
use Rattle.spec.specs.Utf8.{as_characters}
use Rattle.spec.specs.Utf8 as U

-- 'text' of EBNF: these characters, in this case
unfoldable pub characters : Bytes → Grammar ℕ
characters [] = empty
characters (c ∷ s) = one (eqb c) then characters s

unfoldable pub text : String → Grammar ℕ
text s = characters (ascii s)

-- [162s] HEX
unfoldable pub HEX : Grammar ℕ
HEX = HEXDIG

-- [10] UCHAR
unfoldable pub UCHAR : Grammar ℕ
UCHAR = (text "\\u" then times 4 HEX) or (text "\\U" then times 8 HEX)

-- [153s] ECHAR
unfoldable pub ECHAR : Grammar ℕ
ECHAR = text "\\" then any_of "tbnrf\"'\\"

-- [8] IRIREF
unfoldable pub IRIREF : Grammar ℕ
IRIREF = text "<" then many (one (λ c. not (between 0 0x20 c || among (ascii "<>\"{}|^`\\") c)) or UCHAR) then text ">"

-- [157s] PN_CHARS_BASE
unfoldable pub PN_CHARS_BASE : List (ℕ × ℕ)
PN_CHARS_BASE =
    (byte "A", byte "Z") ∷ (byte "a", byte "z") ∷ (0xC0, 0xD6) ∷ (0xD8, 0xF6) ∷ (0xF8, 0x2FF) ∷ (0x370, 0x37D) ∷ (0x37F, 0x1FFF) ∷ (0x200C, 0x200D) ∷
    (0x2070, 0x218F) ∷ (0x2C00, 0x2FEF) ∷ (0x3001, 0xD7FF) ∷ (0xF900, 0xFDCF) ∷ (0xFDF0, 0xFFFD) ∷ (0x10000, 0xEFFFF) ∷ []

-- [158s] PN_CHARS_U
unfoldable pub PN_CHARS_U : List (ℕ × ℕ)
PN_CHARS_U = (byte "_", byte "_") ∷ (byte ":", byte ":") ∷ PN_CHARS_BASE

-- [160s] PN_CHARS
unfoldable pub PN_CHARS : List (ℕ × ℕ)
PN_CHARS = (byte "-", byte "-") ∷ (byte "0", byte "9") ∷ (0xB7, 0xB7) ∷ (0x300, 0x36F) ∷ (0x203F, 0x2040) ∷ PN_CHARS_U

-- [141s] BLANK_NODE_LABEL
unfoldable pub BLANK_NODE_LABEL : Grammar ℕ
BLANK_NODE_LABEL =
    text "_:" then (one (in_ranges PN_CHARS_U) or DIGIT) then optional (many (one (in_ranges PN_CHARS) or text ".") then one (in_ranges PN_CHARS))

-- [144s] LANGTAG
unfoldable pub LANGTAG : Grammar ℕ
LANGTAG = text "@" then some ALPHA then many (text "-" then some alphanum)

-- [9] STRING_LITERAL_QUOTE
unfoldable pub STRING_LITERAL_QUOTE : Grammar ℕ
STRING_LITERAL_QUOTE = text "\"" then many (one (λ c. not (among (ascii "\"\\\n\r") c)) or ECHAR or UCHAR) then text "\""

-- [6]
unfoldable pub literal : Grammar ℕ
literal = STRING_LITERAL_QUOTE then optional ((text "^^" then IRIREF) or LANGTAG)

-- [3], [4], [5]
unfoldable pub subject : Grammar ℕ
subject = IRIREF or BLANK_NODE_LABEL

unfoldable pub predicate : Grammar ℕ
predicate = IRIREF

unfoldable pub object : Grammar ℕ
object = IRIREF or BLANK_NODE_LABEL or literal

-- section 7: white space may stand between terminals
unfoldable pub WS : Grammar ℕ
WS = many (any_of " \t")

-- [2] triple
unfoldable pub triple : Grammar ℕ
triple = WS then subject then WS then predicate then WS then object then WS then text "."

-- section 7: a comment goes from `#` to the end of its line, and counts as white space
unfoldable pub comment : Grammar ℕ
comment = text "#" then many (one (λ c. not (among (ascii "\r\n") c)))

-- [7] EOL, with the white space, comments and empty lines that stand before it
unfoldable pub EOL : Grammar ℕ
EOL = some (WS then optional comment then any_of "\r\n")

-- [1] ntriplesDoc
unfoldable pub ntriples_doc : Grammar ℕ
ntriples_doc = optional triple then many (EOL then triple) then optional EOL then WS then optional comment

-- of bytes: of the characters that they are in UTF-8
unfoldable pub is_n_triples : Bytes → Bool
is_n_triples s = as_characters (accepts ntriples_doc) s

unfoldable pub all : Unit {0}
unfolding A.all U.all characters text HEX UCHAR ECHAR IRIREF PN_CHARS_BASE PN_CHARS_U PN_CHARS BLANK_NODE_LABEL LANGTAG STRING_LITERAL_QUOTE literal subject predicate object WS triple comment EOL ntriples_doc is_n_triples
all = tt
