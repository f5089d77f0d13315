-- Pieces of RFC 3987's productions that have no name there.
use Rattle.std.specs.Prelude.{◌≡◌, Bool, true, false, not, ◌&&◌, [], ◌∷◌, ℕ, eqb, ltb}
use Rattle.spec.specs.Bytes.{Bytes, up_to, from, every, byte, between}
use Rattle.spec.specs.Grammar.{Grammar, ◌or◌, ◌then◌}
use Rattle.spec.specs.Abnf.{word, letters, optional, some, alphanum, HEXDIG, any_of}
use Rattle.spec.specs.Rfc3987.{ihier_part, irelative_part, iquery, ifragment, iauthority, ipath_abempty, ihost, port, IPv6address, IPvFuture, sub_delims, ipchar}
use Rattle.iri.specs.declared.Part.{Part}
use Rattle.iri.specs.Parts.{row}

-- the first d stands behind the one text and before the other
pub record Cut (d : ℕ) (s before behind : Bytes) : Type 0 where
  pub front : up_to (λ c. eqb c d) s ≡ before
  pub back : from (λ c. eqb c d) s ≡ d ∷ behind

-- a character of ASCII that is no letter: a word of it is it alone
unfoldable pub is_mark : ℕ → Bool
is_mark d = ltb d 128 && (not (between 65 90 d) && not (between 97 122 d))

-- [ mark part ]
abbrev pub optionally : ℕ → Part → Grammar ℕ
optionally d p = optional (letters (d ∷ []) then row p)

-- [ "?" iquery ], [ "#" ifragment ], [ ":" port ]
abbrev pub query : Grammar ℕ
query = optional (word "?" then iquery)

abbrev pub fragment : Grammar ℕ
fragment = optional (word "#" then ifragment)

abbrev pub portal : Grammar ℕ
portal = optional (word ":" then port)

-- what stands before the query: in a relative reference, or behind a scheme
unfoldable pub part_of : Bool → Grammar ℕ
part_of true = irelative_part
part_of false = ihier_part

unfoldable pub rest_of : Bool → Grammar ℕ
rest_of relative = part_of relative then (query then fragment)

-- behind "//"
abbrev pub network : Grammar ℕ
network = iauthority then ipath_abempty

-- behind the user information
abbrev pub server : Grammar ℕ
server = ihost then portal

-- behind "["
abbrev pub literal : Grammar ℕ
literal = IPv6address or IPvFuture

abbrev pub bracketed : Grammar ℕ
bracketed = literal then (word "]" then portal)

-- of an address of a later version: behind "v", and a character behind the full stop
abbrev pub later : Grammar ℕ
later = alphanum or (any_of "-._~" or (sub_delims or word ":"))

abbrev pub version : Grammar ℕ
version = some HEXDIG then (word "." then some later)

-- a character of a path
abbrev pub pathchar : Grammar ℕ
pathchar = ipchar or word "/"

-- another character than d
abbrev pub other : ℕ → ℕ → Bool
other d c = not (eqb c d)

-- is there no ":" before the first "/"?
unfoldable pub colonless : Bytes → Bool
colonless s = every (other (byte ":")) (up_to (λ c. eqb c (byte "/")) s)
