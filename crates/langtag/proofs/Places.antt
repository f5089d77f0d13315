-- The grammar of RFC 5646 over kinds of subtags, production by production; and that the machine's places are its derivatives.
use mathlib.Core.Path.{◌≡◌, refl, ap, ◌∙◌}
use mathlib.Core.List.{List, [], ◌∷◌}
use Prim.Native.Nat.{ℕ, zero, suc}
use Rattle.spec.specs.Bytes.{when◌then◌else◌}
use Rattle.spec.specs.Grammar.{Grammar, nothing, empty, one, ◌or◌, ◌then◌, many, after, null, accepts}
use Rattle.langtag.specs.declared.Kind.{Kind}
use Rattle.langtag.specs.declared.Kind.TheVariants.{X, Singleton, Letters2, Letters3, Letters4, Letters5, Digits3, Variant, Other, Bad}
use Rattle.langtag.specs.declared.Place.{Place}
use Rattle.langtag.specs.declared.Place.TheVariants as P
use Rattle.langtag.specs.Machine.{one_of, long, any, follow, final}

-- ---- the grammar

-- one kind of these
abbrev pub a : List Kind → Grammar Kind
a ks = one (one_of ks)

-- [ ], and *n of them
abbrev pub optional : Grammar Kind → Grammar Kind
optional g = empty or g

abbrev pub at_most : ℕ → Grammar Kind → Grammar Kind
at_most zero g = empty
at_most (suc n) g = empty or g then at_most n g

unfoldable pub extlang : Grammar Kind
extlang = a (Letters3 ∷ []) then at_most 2 (a (Letters3 ∷ []))

unfoldable pub language : Grammar Kind
language = (a (Letters2 ∷ Letters3 ∷ []) then optional extlang) or a (Letters4 ∷ []) or a (Letters5 ∷ [])

unfoldable pub region : Grammar Kind
region = a (Letters2 ∷ []) or a (Digits3 ∷ [])

unfoldable pub extension : Grammar Kind
extension = a (Singleton ∷ []) then (one long then many (one long))

unfoldable pub privateuse : Grammar Kind
privateuse = a (X ∷ []) then (one any then many (one any))

unfoldable pub from_extensions : Grammar Kind
from_extensions = many extension then optional privateuse

unfoldable pub from_variants : Grammar Kind
from_variants = many (a (Letters5 ∷ Variant ∷ [])) then from_extensions

unfoldable pub from_region : Grammar Kind
from_region = optional region then from_variants

unfoldable pub from_script : Grammar Kind
from_script = optional (a (Letters4 ∷ [])) then from_region

unfoldable pub tag : Grammar Kind
tag = (language then from_script) or privateuse

-- ---- what may follow a place

rest : Place → Grammar Kind
rest P.Start = tag
rest P.Language3 = optional extlang then from_script
rest P.Language2 = at_most 2 (a (Letters3 ∷ [])) then from_script
rest P.Language1 = at_most 1 (a (Letters3 ∷ [])) then from_script
rest P.Language = from_script
rest P.Script = from_region
rest P.Region = from_variants
rest P.Singleton = ((one long then many (one long)) then many extension) then optional privateuse
rest P.Extension = (many (one long) then many extension) then optional privateuse
rest P.X = one any then many (one any)
rest P.Private = many (one any)
rest P.Nowhere = nothing

each : (P : Kind → Type 0) → P X → P Singleton → P Letters2 → P Letters3 → P Letters4 → P Letters5 → P Digits3 → P Variant → P Other → P Bad → (k : Kind) → P k
each P a b c d e f g h i j X = a
each P a b c d e f g h i j Singleton = b
each P a b c d e f g h i j Letters2 = c
each P a b c d e f g h i j Letters3 = d
each P a b c d e f g h i j Letters4 = e
each P a b c d e f g h i j Letters5 = f
each P a b c d e f g h i j Digits3 = g
each P a b c d e f g h i j Variant = h
each P a b c d e f g h i j Other = i
each P a b c d e f g h i j Bad = j

abbrev Leads : Place → Kind → Type 0
Leads q k = after k (rest q) ≡ rest (follow q k)

leads : (q : Place) (k : Kind) → Leads q k
unfolding extlang language region extension privateuse from_extensions from_variants from_region from_script tag rest when◌then◌else◌
leads P.Start k = each (Leads P.Start) refl refl refl refl refl refl refl refl refl refl k
leads P.Language3 k = each (Leads P.Language3) refl refl refl refl refl refl refl refl refl refl k
leads P.Language2 k = each (Leads P.Language2) refl refl refl refl refl refl refl refl refl refl k
leads P.Language1 k = each (Leads P.Language1) refl refl refl refl refl refl refl refl refl refl k
leads P.Language k = each (Leads P.Language) refl refl refl refl refl refl refl refl refl refl k
leads P.Script k = each (Leads P.Script) refl refl refl refl refl refl refl refl refl refl k
leads P.Region k = each (Leads P.Region) refl refl refl refl refl refl refl refl refl refl k
leads P.Singleton k = each (Leads P.Singleton) refl refl refl refl refl refl refl refl refl refl k
leads P.Extension k = each (Leads P.Extension) refl refl refl refl refl refl refl refl refl refl k
leads P.X k = each (Leads P.X) refl refl refl refl refl refl refl refl refl refl k
leads P.Private k = each (Leads P.Private) refl refl refl refl refl refl refl refl refl refl k
leads P.Nowhere k = refl

ends : (q : Place) → null (rest q) ≡ final q
unfolding extlang language region extension privateuse from_extensions from_variants from_region from_script tag rest
ends P.Start = refl
ends P.Language3 = refl
ends P.Language2 = refl
ends P.Language1 = refl
ends P.Language = refl
ends P.Script = refl
ends P.Region = refl
ends P.Singleton = refl
ends P.Extension = refl
ends P.X = refl
ends P.Private = refl
ends P.Nowhere = refl

-- ---- the machine on kinds

unfoldable pub follows : Place → List Kind → Place
follows q [] = q
follows q (k ∷ ks) = follows (follow q k) ks

walks : (q : Place) (ks : List Kind) → accepts (rest q) ks ≡ final (follows q ks)
unfolding follows
walks q [] = ends q
walks q (k ∷ ks) = ap (λ (g : Grammar Kind). accepts g ks) (leads q k) ∙ walks (follow q k) ks

pub places : (ks : List Kind) → accepts tag ks ≡ final (follows P.Start ks)
unfolding rest
places ks = walks P.Start ks
