use Rattle.std.specs.Prelude.{◌≡◌, refl, List, [], ◌∷◌, ◌++◌, map}
use Rattle.std.proofs.Math.Option.{Option, none, some}
use Rattle.spec.specs.Bytes.{Bytes, ascii}
use Rattle.spec.specs.NTriples.{named, blank, Term, node, plain, tagged, typed, Triple, triple, write}
use Rattle.spec.specs.NTriplesReading.{ntriples_doc}
use Rattle.spec.specs.NTriplesReading as R

-- ---- lines with what they say

-- a line with this object, and its triple
unfoldable pub about : Bytes → Bytes
about o = ascii "<a> <b> " ++ (o ++ ascii " .\n")

unfoldable pub that : Term → Option (List Triple)
that o = some (triple (named (ascii "a")) (ascii "b") o ∷ [])

unfoldable pub objects : List (Bytes × Option (List Triple))
objects =
    -- the eight of ECHAR
    (
      about (ascii "\"\\t\\b\\n\\r\\f\\\"\\'\\\\\""),
      that (plain (0x09 ∷ 0x08 ∷ 0x0A ∷ 0x0D ∷ 0x0C ∷ 0x22 ∷ 0x27 ∷ 0x5C ∷ [])),
    ) ∷
    -- both of UCHAR, hex digits in either case; characters of one to four bytes
    (
      about (ascii "\"\\u0041\\u00e9\\u20AC\\U0001F600\""),
      that (plain (0x41 ∷ 0xC3 ∷ 0xA9 ∷ 0xE2 ∷ 0x82 ∷ 0xAC ∷ 0xF0 ∷ 0x9F ∷ 0x98 ∷ 0x80 ∷ [])),
    ) ∷
    -- bytes that stand for themselves
    (about (0x22 ∷ 0xC3 ∷ 0xA9 ∷ 0x00 ∷ 0x09 ∷ 0x22 ∷ []), that (plain (0xC3 ∷ 0xA9 ∷ 0x00 ∷ 0x09 ∷ []))) ∷
    -- in an IRI, UCHAR alone
    (about (ascii "<x\\u0020\\U0000003E>"), that (node (named (ascii "x >")))) ∷
    (about (ascii "<\\n>"), none) ∷
    (about (ascii "<x y>"), none) ∷
    -- a noncharacter is a character; a surrogate is none, not even two of them
    (about (ascii "\"\\uFFFF\""), that (plain (0xEF ∷ 0xBF ∷ 0xBF ∷ []))) ∷
    (about (ascii "\"\\uD83D\\uDE00\""), none) ∷
    (about (ascii "\"\\U00110000\""), none) ∷
    (about (ascii "\"\\u004\""), none) ∷
    (about (ascii "\"\\a\""), none) ∷
    -- labels and tags
    (about (ascii "_:a.b"), that (node (blank (ascii "a.b")))) ∷
    (about (ascii "\"v\"@en-GB"), that (tagged (ascii "v") (ascii "en-GB"))) ∷
    (about (ascii "\"v\"^^<d>"), that (typed (ascii "v") (ascii "d"))) ∷
    (about (ascii "\"v\" ^^ <d>"), that (typed (ascii "v") (ascii "d"))) ∷
    (about (ascii "\"v\"@"), none) ∷
    -- not UTF-8
    (about (0x22 ∷ 0xFF ∷ 0x22 ∷ []), none) ∷
    []

unfoldable pub documents : List (Bytes × Option (List Triple))
documents =
    ([], some []) ∷
    (ascii "\n # a comment\r\t\n", some []) ∷
    (ascii "<a><b>_:c.", some (triple (named (ascii "a")) (ascii "b") (node (blank (ascii "c"))) ∷ [])) ∷ (
      ascii "_:x<b>\"\".#\r\n\n<a>\t<b> <c>\t. # end",
      some (triple (blank (ascii "x")) (ascii "b") (plain []) ∷ triple (named (ascii "a")) (ascii "b") (node (named (ascii "c"))) ∷ []),
    ) ∷
    -- the empty IRI; colons and full stops in labels, but none that ends one
    (ascii "<><>_:a:b..c.", some (triple (named []) [] (node (blank (ascii "a:b..c"))) ∷ [])) ∷
    (ascii "<><>_:c..", none) ∷
    (ascii "_:.a<b><c>.", none) ∷
    (ascii "_:-a<b><c>.", none) ∷
    (ascii "_:\\u0041<b><c>.", none) ∷
    -- a byte order mark, and a comment that is not UTF-8
    (0xEF ∷ 0xBB ∷ 0xBF ∷ ascii "<a><b><c>.", none) ∷
    (ascii "#" ++ (0xFF ∷ []), none) ∷
    (ascii "<a><b><c>.<a><b><c>.", none) ∷
    (ascii "<a><b><c>", none) ∷
    (ascii "<a><b>\n<c>.", none) ∷
    (ascii "\"s\" <b> <c> .", none) ∷
    []

-- what each of them says is what it should say
abbrev pub Read : List (Bytes × Option (List Triple)) → Type 0
Read l = map (λ (r : Bytes × Option (List Triple)). ntriples_doc r.0) l ≡ map (λ (r : Bytes × Option (List Triple)). r.1) l

pub objects_read : Read objects
unfolding R.all about that objects
objects_read = refl

pub documents_read : Read documents
unfolding R.all documents
documents_read = refl

-- ---- what is written reads back

-- the bytes that are escaped, in every place
unfoldable pub written : List Triple
written =
    triple (named (ascii "<>\"{}|^`\\ \n")) (0x00 ∷ 0x1F ∷ 0x7F ∷ 0xC3 ∷ 0xA9 ∷ []) (plain (ascii "\"\\\n\r\t'")) ∷
    triple (blank (ascii "a.b")) (ascii "b") (tagged (ascii "\n\r") (ascii "en-gb")) ∷
    triple (named []) (ascii "b") (typed (ascii "\r\n") (ascii "> .\n")) ∷ []

pub written-reads : ntriples_doc (write written) ≡ some written
unfolding R.all written
written-reads = refl
