-- RFC 3986, section 5.2: reference resolution.
use Rattle.std.specs.Prelude.{Bool, ◌&&◌, ◌||◌, not, [], ◌∷◌, ◌++◌, reverse, ℕ, zero, suc, length, drop}
use Rattle.std.proofs.Math.Option.{Option, none, some}
use Rattle.spec.specs.Bytes.{Bytes, ascii, when◌then◌else◌, same, begins, after, up_to, from, among, is_empty, or_else, is_some}
use Rattle.spec.specs.Bytes as B

-- the five components (3, and the expression of appendix B)
pub record Reference : Type 0 where
  pub scheme : Option Bytes
  pub authority : Option Bytes
  pub path : Bytes
  pub query : Option Bytes
  pub fragment : Option Bytes

-- a component that a mark begins: what stands between the mark and the first byte of a set
unfoldable pub marked : Bytes → Bytes → Bytes → Option Bytes
marked mark stop s = when begins mark s then some (up_to (among stop) (after mark s)) else none

-- the text behind such a component
unfoldable pub past : Bytes → Bytes → Bytes → Bytes
past mark stop s = when begins mark s then from (among stop) (after mark s) else s

-- 3.1: what stands before the first ":", if no "/", "?" or "#" comes before it
unfoldable pub scheme_of : Bytes → Option Bytes
scheme_of s =
    let n = up_to (among (ascii ":/?#")) s in
    when begins (ascii ":") (from (among (ascii ":/?#")) s) && not (is_empty n) then some n else none

-- the text behind the scheme and its ":"
unfoldable pub after_scheme : Option Bytes → Bytes → Bytes
after_scheme none s = s
after_scheme (some n) s = after (ascii ":") (after n s)

-- appendix B
unfoldable pub parse : Bytes → Reference
parse s =
    let s₁ = after_scheme (scheme_of s) s in
    let s₂ = past (ascii "//") (ascii "/?#") s₁ in
    let s₃ = from (among (ascii "?#")) s₂ in
    let s₄ = past (ascii "?") (ascii "#") s₃ in
    record {
      scheme = scheme_of s;
      authority = marked (ascii "//") (ascii "/?#") s₁;
      path = up_to (among (ascii "?#")) s₂;
      query = marked (ascii "?") (ascii "#") s₃;
      fragment = marked (ascii "#") [] s₄;
    }

-- 5.2.4: the output without its last segment and that segment's "/"
unfoldable pub without_last : Bytes → Bytes
without_last s = reverse (after (ascii "/") (from (among (ascii "/")) (reverse s)))

-- 5.2.4, step 2 E: the first segment, with the "/" in front of it, if any, and without the next one
unfoldable pub first_segment : Bytes → Bytes
first_segment [] = []
first_segment (c ∷ s) = c ∷ up_to (among (ascii "/")) s

-- 5.2.4, step 2, A to E: the input buffer and the output buffer, after one turn
unfoldable pub turn : Bytes → Bytes → Bytes × Bytes
turn i o =
    when begins (ascii "../") i then (drop 3 i, o) else
    when begins (ascii "./") i then (drop 2 i, o) else
    when begins (ascii "/./") i then (drop 2 i, o) else
    when same (ascii "/.") i then (ascii "/", o) else
    when begins (ascii "/../") i then (drop 3 i, without_last o) else
    when same (ascii "/..") i then (ascii "/", without_last o) else
    when same (ascii ".") i || same (ascii "..") i then ([], o) else
    (from (among (ascii "/")) (drop 1 i), o ++ first_segment i)

-- each turn shortens the input buffer, so as many turns as it has bytes are enough
unfoldable pub turns : ℕ → Bytes → Bytes → Bytes
turns zero i o = o
turns (suc n) [] o = o
turns (suc n) (c ∷ i) o = let r = turn (c ∷ i) o in turns n r.0 r.1

-- 5.2.4
unfoldable pub remove_dot_segments : Bytes → Bytes
remove_dot_segments p = turns (length p) p []

-- 5.2.3
unfoldable pub merge : Reference → Bytes → Bytes
merge base p = elim base.authority [ none ↦ rest | some a ↦ (when is_empty base.path then ascii "/" ++ p else rest) ]
  where
    rest : Bytes
    rest = reverse (from (among (ascii "/")) (reverse base.path)) ++ p

-- 5.2.2, strict
unfoldable pub transform : Reference → Reference → Reference
transform base r =
    when is_some r.scheme then target r.scheme r.authority (remove_dot_segments r.path) r.query else
    when is_some r.authority then target base.scheme r.authority (remove_dot_segments r.path) r.query else
    when is_empty r.path then target base.scheme base.authority base.path (or_else r.query base.query) else
    when begins (ascii "/") r.path then target base.scheme base.authority (remove_dot_segments r.path) r.query else
    target base.scheme base.authority (remove_dot_segments (merge base r.path)) r.query
  where
    target : Option Bytes → Option Bytes → Bytes → Option Bytes → Reference
    target s a p q = record { scheme = s; authority = a; path = p; query = q; fragment = r.fragment }

-- 5.3
unfoldable pub with_mark : Bytes → Option Bytes → Bytes → Bytes
with_mark before none end = []
with_mark before (some s) end = before ++ s ++ end

-- 5.3
unfoldable pub recompose : Reference → Bytes
recompose r =
    with_mark [] r.scheme (ascii ":") ++ (with_mark (ascii "//") r.authority [] ++ (r.path
    ++ (with_mark (ascii "?") r.query [] ++ with_mark (ascii "#") r.fragment [])))

-- 5.2: a reference on a base
unfoldable pub resolve : Bytes → Bytes → Bytes
resolve base r = recompose (transform (parse base) (parse r))

-- 3.3: where there is no authority, the path cannot begin with "//"
unfoldable pub has_form : Reference → Bool
has_form r = is_some r.authority || not (begins (ascii "//") r.path)

-- has the reference on the base a form?
unfoldable pub resolves : Bytes → Bytes → Bool
resolves base r = has_form (transform (parse base) (parse r))

unfoldable pub all : Unit {0}
unfolding B.all marked past scheme_of after_scheme parse without_last first_segment turn turns remove_dot_segments merge transform with_mark recompose resolve has_form resolves
all = tt
