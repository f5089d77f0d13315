-- A machine for the grammar of RFC 5646: subtags are read byte by byte and told apart by length and bytes, and each moves the place in the grammar.
use Rattle.std.specs.Prelude.{Bool, true, false, ◌&&◌, ◌||◌, not, List, [], ◌∷◌, map, ℕ, ◌+◌, eqb, leb}
use Rattle.spec.specs.Bytes.{Bytes, ascii, byte, when◌then◌else◌, between, member, onto}
use Rattle.spec.specs.Abnf.{lower}
use Rattle.langtag.specs.declared.Kind.{Kind}
use Rattle.langtag.specs.declared.Kind.TheVariants.{X, Singleton, Letters2, Letters3, Letters4, Letters5, Digits3, Variant, Other, Bad}
use Rattle.langtag.specs.declared.Place.{Place}
use Rattle.langtag.specs.declared.Place.TheVariants as P
use Rattle.langtag.specs.declared.Subtag.{Subtag}
use Rattle.langtag.specs.declared.Reader.{Reader}

-- ---- bytes

unfoldable pub letter : ℕ → Bool
letter c = between (byte "a") (byte "z") (lower c)

unfoldable pub digit : ℕ → Bool
digit c = between (byte "0") (byte "9") c

unfoldable pub is_x : ℕ → Bool
is_x c = eqb (lower c) (byte "x")

-- ---- subtags

-- no byte yet: what is said of all its bytes holds
unfoldable pub fresh : Subtag
fresh = record { length = 0; letters = true; digits = true; alphanum = true; numbered = false; x = true }

-- 9 stands for every length above 8
unfoldable pub longer : ℕ → ℕ
longer n = when leb n 8 then n + 1 else 9

-- the first byte decides
unfoldable pub first : ℕ → Bool → Bool → Bool
first n new old = when eqb n 0 then new else old

unfoldable pub grown : Subtag → ℕ → Subtag
grown u c =
    record {
      length = longer u.length;
      letters = u.letters && letter c;
      digits = u.digits && digit c;
      alphanum = u.alphanum && (letter c || digit c);
      numbered = first u.length (digit c) u.numbered;
      x = u.x && is_x c;
    }

-- what an alphanumeric subtag of a length can serve as
unfoldable pub sized : ℕ → Subtag → Kind
sized n u =
    when eqb n 1 then (when u.x then X else Singleton) else when eqb n 2 then (when u.letters then Letters2 else Other) else
    when eqb n 3 then (when u.letters then Letters3 else when u.digits then Digits3 else Other) else
    when eqb n 4 then (when u.letters then Letters4 else when u.numbered then Variant else Other) else
    when between 5 8 n then (when u.letters then Letters5 else Variant) else Bad

unfoldable pub kind : Subtag → Kind
kind u = when u.alphanum then sized u.length u else Bad

-- ---- places

-- kinds are told apart by numbers
abbrev pub number : Kind → ℕ
number X = 0
number Singleton = 1
number Letters2 = 2
number Letters3 = 3
number Letters4 = 4
number Letters5 = 5
number Digits3 = 6
number Variant = 7
number Other = 8
number Bad = 9

abbrev pub one_of : List Kind → Kind → Bool
one_of [] k = false
one_of (l ∷ ls) k = eqb (number k) (number l) || one_of ls k

-- of 2 to 8 bytes, and of 1 to 8
abbrev pub long : Kind → Bool
long k = not (one_of (X ∷ Singleton ∷ Bad ∷ []) k)

abbrev pub any : Kind → Bool
any k = not (one_of (Bad ∷ []) k)

-- What a kind leads to where an extension may come; a variant or what follows it; a region or what follows it; and so on.
abbrev pub extensions : Kind → Place
extensions X = P.X
extensions Singleton = P.Singleton
extensions Letters2 = P.Nowhere
extensions Letters3 = P.Nowhere
extensions Letters4 = P.Nowhere
extensions Letters5 = P.Nowhere
extensions Digits3 = P.Nowhere
extensions Variant = P.Nowhere
extensions Other = P.Nowhere
extensions Bad = P.Nowhere

abbrev pub variants : Kind → Place
variants X = extensions X
variants Singleton = extensions Singleton
variants Letters2 = extensions Letters2
variants Letters3 = extensions Letters3
variants Letters4 = extensions Letters4
variants Letters5 = P.Region
variants Digits3 = extensions Digits3
variants Variant = P.Region
variants Other = extensions Other
variants Bad = extensions Bad

abbrev pub regions : Kind → Place
regions X = variants X
regions Singleton = variants Singleton
regions Letters2 = P.Region
regions Letters3 = variants Letters3
regions Letters4 = variants Letters4
regions Letters5 = variants Letters5
regions Digits3 = P.Region
regions Variant = variants Variant
regions Other = variants Other
regions Bad = variants Bad

abbrev pub scripts : Kind → Place
scripts X = regions X
scripts Singleton = regions Singleton
scripts Letters2 = regions Letters2
scripts Letters3 = regions Letters3
scripts Letters4 = P.Script
scripts Letters5 = regions Letters5
scripts Digits3 = regions Digits3
scripts Variant = regions Variant
scripts Other = regions Other
scripts Bad = regions Bad

-- the same where an extlang may come, which leads to the place given
abbrev pub extlangs : Place → Kind → Place
extlangs q X = P.X
extlangs q Singleton = P.Singleton
extlangs q Letters2 = P.Region
extlangs q Letters3 = q
extlangs q Letters4 = P.Script
extlangs q Letters5 = P.Region
extlangs q Digits3 = P.Region
extlangs q Variant = P.Region
extlangs q Other = P.Nowhere
extlangs q Bad = P.Nowhere

abbrev pub languages : Kind → Place
languages X = P.X
languages Singleton = P.Nowhere
languages Letters2 = P.Language3
languages Letters3 = P.Language3
languages Letters4 = P.Language
languages Letters5 = P.Language
languages Digits3 = P.Nowhere
languages Variant = P.Nowhere
languages Other = P.Nowhere
languages Bad = P.Nowhere

-- inside an extension a single byte leads to the place given
abbrev pub extended : Place → Kind → Place
extended q X = q
extended q Singleton = q
extended q Letters2 = P.Extension
extended q Letters3 = P.Extension
extended q Letters4 = P.Extension
extended q Letters5 = P.Extension
extended q Digits3 = P.Extension
extended q Variant = P.Extension
extended q Other = P.Extension
extended q Bad = q

abbrev pub private : Kind → Place
private X = P.Private
private Singleton = P.Private
private Letters2 = P.Private
private Letters3 = P.Private
private Letters4 = P.Private
private Letters5 = P.Private
private Digits3 = P.Private
private Variant = P.Private
private Other = P.Private
private Bad = P.Nowhere

abbrev pub follow : Place → Kind → Place
follow P.Start k = languages k
follow P.Language3 k = extlangs P.Language2 k
follow P.Language2 k = extlangs P.Language1 k
follow P.Language1 k = extlangs P.Language k
follow P.Language k = scripts k
follow P.Script k = regions k
follow P.Region k = variants k
follow P.Singleton k = extended P.Nowhere k
follow P.Extension k = extended (extensions k) k
follow P.X k = private k
follow P.Private k = private k
follow P.Nowhere k = P.Nowhere

-- may a tag end here?
abbrev pub final : Place → Bool
final P.Start = false
final P.Language3 = true
final P.Language2 = true
final P.Language1 = true
final P.Language = true
final P.Script = true
final P.Region = true
final P.Singleton = false
final P.Extension = true
final P.X = false
final P.Private = true
final P.Nowhere = false

-- ---- the machine

unfoldable pub start : Reader
start = record { place = P.Start; subtag = fresh }

-- where the tag leads if its last subtag ends here
unfoldable pub ended : Reader → Place
ended r = follow r.place (kind r.subtag)

unfoldable pub step : Reader → ℕ → Reader
step r c =
    when eqb c (byte "-") then record { place = ended r; subtag = fresh } else record { place = r.place; subtag = grown r.subtag c }

unfoldable pub reads : Reader → Bytes → Reader
reads r [] = r
reads r (c ∷ s) = reads (step r c) s

-- is a text composed as `langtag` or `privateuse` say? (proofs/Machine)
unfoldable pub composed : Bytes → Bool
composed s = final (ended (reads start s))

-- ---- the tags that the grammar lists (`regular` ones are composed as others are: proofs/Grandfathered)

-- the words of a text, each ended by a space or the end
unfoldable pub spaced : ℕ → List Bytes → List Bytes
spaced c l = when eqb c (byte " ") then [] ∷ l else onto c l

unfoldable pub words : Bytes → List Bytes
words [] = []
words (c ∷ s) = spaced c (words s)

unfoldable pub irregulars : List Bytes
irregulars =
    words (ascii "en-gb-oed i-ami i-bnn i-default i-enochian i-hak i-klingon i-lux i-mingo i-navajo i-pwn i-tao i-tay i-tsu sgn-be-fr sgn-be-nl sgn-ch-de")

unfoldable pub irregular : Bytes → Bool
irregular s = member (map lower s) irregulars
