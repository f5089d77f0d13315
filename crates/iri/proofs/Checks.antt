-- The laws of the grammar in the shape of the code: a delimiter is found, the pieces on its sides are checked.
use mathlib.Core.Path.{◌≡◌, refl, sym, ap, ◌∙◌}
use mathlib.Core.Bool.{Bool, true, false, not, ◌&&◌, ◌||◌, and-false, and-true, false≢true}
use mathlib.Core.List.{[], ◌∷◌}
use Prim.Native.Nat.{ℕ, ◌+◌, ◌<◌, ◌≤◌}
use native.Mathlib.Omega.{arith}
use lib.Dec.{eqb, leb}
use lib.ListN.{length, take, drop, get_or}
use borrow.Author.Tests.{lt-leb, eq-eqb, ne_eqb, eqb-true, eqb-false}
use Rattle.std.specs.Prelude.{Option, Some, None, MatchOption}
use Rattle.std.specs.Option.{option_eq}
use Rattle.spec.specs.Bytes.{Bytes, ascii, begins, up_to, from, every, is_empty, when◌then◌else◌}
use Rattle.spec.specs.Bytes as B
use Rattle.spec.specs.Grammar.{◌then◌, many, null}
use Rattle.spec.specs.Abnf.{lower, word, some, HEXDIG}
use Rattle.spec.specs.Rfc3987.{IRI, IRI-reference, irelative_ref, ihier_part, irelative_part, scheme, iauthority, h16, IPv6address, IPvFuture}
use Rattle.spec.specs.Rfc3987 as R
use Rattle.copy.specs.Texts.{begins_true, after_drop}
use Rattle.iri.specs.declared.Part.{Part}
use Rattle.iri.specs.declared.Part.TheVariants.{Scheme, Port, Hex, Later, UserInfo, Name, Path, Query, Fragment}
use Rattle.iri.specs.Parts.{of, grammar, class_of, row, is_alpha}
use Rattle.iri.specs.Parts as P
use Rattle.iri.specs.Forms.{Cut, is_mark, optionally, query, fragment, portal, part_of, rest_of, network, server, literal, bracketed, later, version, pathchar, colonless}
use Rattle.iri.proofs.Languages.{same_test, is, of_some, of_nil, of_or, cut-take, cut-drop, of_optional_none, of_optional-some, optional-marked, marked-head, of_in, Marked, end, mark, of_mark}
use Rattle.iri.proofs.Components.{iri_cut, fragment-cut, query-cut, hier_shuns-query, hier_shuns-fragment, relative_shuns-query, relative_shuns-fragment, network-cut, hier_network, relative_network, authority_user, authority_server}
use Rattle.iri.proofs.Hosts.{server-literal, bracketed-cut, close-portal, close_none, server-name, future_cons, future_nil, version-cut, later-some, later_none}
use Rattle.iri.proofs.Paths.{abempty_path, hier_slash, hier_plain, hier_nil, relative_slash, relative_plain, relative_nil}
use Rattle.iri.proofs.Rows.{row_hex, row_user, row-name, row_path, scheme_cons, scheme-nil}
use Rattle.iri.specs.Addresses.{Counted, Gap, from_gap}
use Rattle.iri.proofs.Addresses.{address_whole, address_gap}
use Rattle.iri.proofs.Octets.{group_few}

-- ---- the answers of `a && b` and `a || b`, by that of a

module _ {w a x : Bool} (b : Bool) where
  pub and-first : w ≡ (a && b) → x ≡ a → x ≡ false → x ≡ w
  and-first h e n = n ∙ sym (h ∙ rw (sym e ∙ n))

  pub and-second : {r : Bool} → w ≡ (a && b) → x ≡ a → x ≡ true → r ≡ b → r ≡ w
  and-second h e y q = q ∙ sym (h ∙ rw (sym e ∙ y))

  pub or-first : w ≡ (a || b) → x ≡ a → x ≡ true → x ≡ w
  or-first h e y = y ∙ sym (h ∙ rw (sym e ∙ y))

  pub or-second : {r : Bool} → w ≡ (a || b) → x ≡ a → x ≡ false → r ≡ b → r ≡ w
  or-second h e n q = q ∙ sym (h ∙ rw (sym e ∙ n))

-- ---- a test that is one of what stands before the mark, and one of what stands from it on

module _ (d : ℕ) (whole first second : Bytes → Bool) (s : Bytes) (law : whole s ≡ (first (up_to (is d) s) && second (from (is d) s))) where
  -- the text is split at the mark
  split : {n : ℕ} {a b : Bytes} → n ≡ length (up_to (is d) s) → a ≡ take n s → b ≡ drop n s → whole s ≡ (first a && second b)
  split e f g = law ∙ rw (cut-take d s e, cut-drop d s e, f, g)

  -- the mark is passed over
  passed : {a b : Bytes} → Cut d s a b → (rest : Bytes → Bool) → ((t : Bytes) → second (d ∷ t) ≡ rest t) → whole s ≡ (first a && rest b)
  passed {a} {b} c rest f = law ∙ rw (c.front, c.back, f b)

  -- it is needed
  uncut : from (is d) s ≡ [] → second [] ≡ false → false ≡ whole s
  uncut e h = sym (law ∙ rw (e, h) (and-false (first (up_to (is d) s))))

-- ---- rows

-- no part is a row of nothings
pieces : (p : Part) → null (grammar (class_of p)) ≡ false
unfolding grammar P.all R.all
pieces Scheme = refl
pieces Port = refl
pieces Hex = refl
pieces Later = refl
pieces UserInfo = refl
pieces Name = refl
pieces Path = refl
pieces Query = refl
pieces Fragment = refl

pub filled_none : (p : Part) (s : Bytes) → length s ≡ 0 → false ≡ of (some (grammar (class_of p))) s
unfolding is_empty
filled_none p [] l = sym (of_some (grammar (class_of p)) [] (pieces p))
filled_none p (c ∷ s) l = absurd (omega arith)

pub filled_some : (p : Part) (s : Bytes) → 0 < length s → of (row p) s ≡ of (some (grammar (class_of p))) s
unfolding is_empty row
filled_some p [] l = absurd (omega arith)
filled_some p (c ∷ s) l = sym (of_some (grammar (class_of p)) (c ∷ s) (pieces p))

pub group_row : (s : Bytes) → 1 ≤ length s → length s ≤ 4 → of (row Hex) s ≡ of h16 s
group_row s l h = rw row_hex (sym (group_few s l h))

module _ (d : ℕ) (ok : is_mark d ≡ true) (p : Part) where
  pub optional_none : (s : Bytes) → length s ≡ 0 → true ≡ of (optionally d p) s
  optional_none [] l = sym (of_optional_none d ok (row p))
  optional_none (c ∷ s) l = absurd (omega arith)

  pub optional-other : (s : Bytes) → 0 < length s → (get_or s 0 0 ≡ d → ⊥) → false ≡ of (optionally d p) s
  optional-other [] l n = absurd (omega arith)
  optional-other (c ∷ s) l n = sym (same_test (of (optionally d p) (c ∷ s)) false (λ e. absurd (n (marked-head (optional-marked d ok _ (c ∷ s) (of_in (optionally d p) (c ∷ s) e))))) (λ e. absurd (false≢true e)))

  pub optional-row : (s : Bytes) → 0 < length s → get_or s 0 0 ≡ d → of (row p) (drop 1 s) ≡ of (optionally d p) s
  optional-row [] l e = absurd (omega arith)
  optional-row (c ∷ s) l e = rw e (sym (of_optional-some d ok (row p) s))

-- ---- the scheme

pub scheme_none : (s : Bytes) → length s ≡ 0 → false ≡ of scheme s
scheme_none [] l = sym scheme-nil
scheme_none (c ∷ s) l = absurd (omega arith)

pub scheme-other : (s : Bytes) → 0 < length s → is_alpha (get_or s 0 0) ≡ false → false ≡ of scheme s
scheme-other [] l e = absurd (omega arith)
scheme-other (c ∷ s) l e = sym (scheme_cons c s ∙ rw e)

pub scheme-row : (s : Bytes) → 0 < length s → is_alpha (get_or s 0 0) ≡ true → of (row Scheme) (drop 1 s) ≡ of scheme s
scheme-row [] l e = absurd (omega arith)
scheme-row (c ∷ s) l e = sym (scheme_cons c s ∙ rw e)

-- ---- addresses of later versions

pub future_none : (s : Bytes) → length s ≡ 0 → false ≡ of IPvFuture s
future_none [] l = sym future_nil
future_none (c ∷ s) l = absurd (omega arith)

pub future_other : (s : Bytes) → 0 < length s → (lower (get_or s 0 0) ≡ 118 → ⊥) → false ≡ of IPvFuture s
future_other [] l e = absurd (omega arith)
future_other (c ∷ s) l e = sym (future_cons c s ∙ rw (ne_eqb (lower c) 118 e))

pub future_version : (s : Bytes) → 0 < length s → lower (get_or s 0 0) ≡ 118 → of version (drop 1 s) ≡ of IPvFuture s
future_version [] l e = absurd (omega arith)
future_version (c ∷ s) l e = sym (future_cons c s ∙ rw (eq-eqb (lower c) 118 e))

module _ (s : Bytes) where
  abbrev dot : Bytes → Bool
  dot = of (word "." then some later)

  pub version_none : from (is 46) s ≡ [] → false ≡ of version s
  version_none e = uncut 46 (of version) (of (some HEXDIG)) dot s (version-cut s) e later_none

  pub version_law : {a b : Bytes} → Cut 46 s a b → of version s ≡ (of (some (grammar (class_of Hex))) a && of (some (grammar (class_of Later))) b)
  unfolding grammar P.all R.all
  version_law c = passed 46 (of version) (of (some HEXDIG)) dot s (version-cut s) c (of (some later)) later-some

-- ---- hosts

pub literal_law : (s : Bytes) → of literal s ≡ (of IPv6address s || of IPvFuture s)
literal_law s = of_or IPv6address IPvFuture s

-- eight groups, or those on both sides of the first "::"
pub eight_law : (s : Bytes) → from_gap s ≡ [] → (o : Option ℕ) → MatchOption o (Counted true s 9) (λ r. Counted true s r) → option_eq eqb o (Some 8) ≡ of IPv6address s
eight_law s e None h = sym (address_whole s e ∙ h.each 8 (omega arith))
eight_law s e (Some r) h = same_test (eqb r 8) (eqb 8 r) (λ q. eq-eqb 8 r (sym (eqb-true r 8 q))) (λ q. eq-eqb r 8 (sym (eqb-true 8 r q))) ∙ sym (address_whole s e ∙ h.each 8 (omega arith))

pub counted : {v : Bool} {s : Bytes} (o : Option ℕ) → MatchOption o (Counted v s 9) (λ r. Counted v s r) → (r : ℕ) × Counted v s r
counted None h = (9, h)
counted (Some r) h = (r, h)

pub gap_law : {x y : ℕ} (s : Bytes) {a b : Bytes} → Gap s a b → Counted false a x → Counted true b y → leb (x + y) 7 ≡ of IPv6address s
gap_law {x} {y} s {a} {b} g l r = sym (address_gap s b {x = x} {y = y} g.back (rw g.front l) r)

pub gap_over : {x y : ℕ} (s : Bytes) {a b : Bytes} → Gap s a b → Counted false a x → Counted true b y → 7 < x + y → false ≡ of IPv6address s
gap_over {x} {y} s g l r h = sym (lt-leb (x + y) 7 h) ∙ gap_law s g l r

optional-port : optionally 58 Port ≡ portal
unfolding row grammar P.all R.all
optional-port = refl

module _ (s : Bytes) where
  abbrev close : Bytes → Bool
  close = of (word "]" then portal)

  pub bracketed_none : from (is 93) s ≡ [] → false ≡ of bracketed s
  bracketed_none e = uncut 93 (of bracketed) (of literal) close s (bracketed-cut s) e close_none

  pub bracketed_law : {a b : Bytes} → Cut 93 s a b → of bracketed s ≡ (of literal a && of (optionally 58 Port) b)
  bracketed_law c = rw optional-port (passed 93 (of bracketed) (of literal) close s (bracketed-cut s) c (of portal) close-portal)

-- "[" in front, or not
starts : (s : Bytes) → begins (ascii "[") s ≡ true → s ≡ 91 ∷ drop 1 s
unfolding ascii
starts s h = begins_true (91 ∷ []) s h ∙ rw (after_drop (91 ∷ []) s)

pub server_bracket : (s : Bytes) → begins (ascii "[") s ≡ true → of bracketed (drop 1 s) ≡ of server s
server_bracket s h = sym (ap (of server) (starts s h) ∙ server-literal (drop 1 s))

no_bracket : (s : Bytes) → begins (ascii "[") s ≡ false → (t : Bytes) → s ≡ 91 ∷ t → ⊥
unfolding ascii begins
no_bracket s h t e = false≢true (sym h ∙ rw e)

pub server_law : (s : Bytes) {a b : Bytes} {n : ℕ} → begins (ascii "[") s ≡ false → n ≡ length (up_to (is 58) s) → a ≡ take n s → b ≡ drop n s
    → of server s ≡ (of (row Name) a && of (optionally 58 Port) b)
server_law s h = rw (row-name, optional-port) (split 58 (of server) (of R.ireg_name) (of portal) s (server-name s (no_bracket s h)))

-- ---- the authority, and the path behind it

pub authority_none : (s : Bytes) → from (is 64) s ≡ [] → of server s ≡ of iauthority s
authority_none s e = sym (authority_server s e)

pub authority_law : (s : Bytes) {a b : Bytes} → Cut 64 s a b → of iauthority s ≡ (of (row UserInfo) a && of server b)
authority_law s c = authority_user s c.back ∙ rw (row_user, c.front)

from-marked : (d : ℕ) (s : Bytes) → Marked d (from (is d) s)
unfolding from when◌then◌else◌
from-marked d [] = end
from-marked d (a ∷ s) = by (eqb a d) refl (from-marked d s)
  where
    by : (t : Bool) → eqb a d ≡ t → Marked d (from (is d) s) → Marked d (when t then (a ∷ s) else from (is d) s)
    by true e m = rw (eqb-true a d e) (mark s)
    by false e m = m

pub network_law : (s : Bytes) {a b : Bytes} {n : ℕ} → n ≡ length (up_to (is 47) s) → a ≡ take n s → b ≡ drop n s → of network s ≡ (of iauthority a && of (row Path) b)
network_law s =
    split 47 (of network) (of iauthority) (of (row Path)) s (network-cut s ∙ rw (abempty_path (from (is 47) s) (from-marked 47 s), row_path))

-- ---- ihier-part and irelative-part

slashes : (s : Bytes) → begins (ascii "//") s ≡ true → s ≡ 47 ∷ 47 ∷ drop 2 s
unfolding ascii
slashes s h = begins_true (47 ∷ 47 ∷ []) s h ∙ rw (after_drop (47 ∷ 47 ∷ []) s)

pub part-network : (r : Bool) (s : Bytes) → begins (ascii "//") s ≡ true → of network (drop 2 s) ≡ of (part_of r) s
unfolding part_of
part-network true s h = sym (ap (of irelative_part) (slashes s h) ∙ relative_network (drop 2 s))
part-network false s h = sym (ap (of ihier_part) (slashes s h) ∙ hier_network (drop 2 s))

unslashed : (s : Bytes) → begins (ascii "//") (47 ∷ s) ≡ false → (t : Bytes) → s ≡ 47 ∷ t → ⊥
unfolding ascii begins
unslashed s h t e = false≢true (sym h ∙ rw e)

hier_path : (s : Bytes) → begins (ascii "//") s ≡ false → of ihier_part s ≡ of (row Path) s
hier_path [] h = rw row_path hier_nil
hier_path (c ∷ s) h = rw row_path (by (eqb c 47) refl)
  where
    by : (t : Bool) → eqb c 47 ≡ t → of ihier_part (c ∷ s) ≡ of (many pathchar) (c ∷ s)
    by true e = let q = eqb-true c 47 e in rw q (hier_slash s (unslashed s (rw q at h)))
    by false e = hier_plain c s (eqb-false c 47 e)

relative_path : (s : Bytes) → begins (ascii "//") s ≡ false → of irelative_part s ≡ (of (row Path) s && colonless s)
unfolding colonless up_to every when◌then◌else◌ B.byte
relative_path [] h = rw row_path (relative_nil ∙ sym (and-true (of (many pathchar) [])))
relative_path (c ∷ s) h = rw row_path (by (eqb c 47) refl)
  where
    by : (t : Bool) → eqb c 47 ≡ t → of irelative_part (c ∷ s) ≡ (of (many pathchar) (c ∷ s) && colonless (c ∷ s))
    by true e = let q = eqb-true c 47 e in rw q (relative_slash s (unslashed s (rw q at h)) ∙ sym (and-true (of (many pathchar) (47 ∷ s))))
    by false e = relative_plain c s (eqb-false c 47 e)

pub part_law : (r : Bool) (s : Bytes) → begins (ascii "//") s ≡ false → of (part_of r) s ≡ (of (row Path) s && (not r || colonless s))
unfolding part_of
part_law true s b = relative_path s b
part_law false s b = hier_path s b ∙ sym (and-true (of (row Path) s))

-- ---- the rest, with query and fragment

optional-query : optionally 63 Query ≡ query
unfolding row grammar P.all R.all
optional-query = refl

optional-fragment : optionally 35 Fragment ≡ fragment
unfolding row grammar P.all R.all
optional-fragment = refl

rest-fragment : (r : Bool) (s : Bytes) → of (rest_of r) s ≡ (of (part_of r then query) (up_to (is 35) s) && of fragment (from (is 35) s))
unfolding rest_of part_of
rest-fragment true s = fragment-cut irelative_part relative_shuns-query relative_shuns-fragment s
rest-fragment false s = fragment-cut ihier_part hier_shuns-query hier_shuns-fragment s

rest-query : (r : Bool) (s : Bytes) → of (part_of r then query) s ≡ (of (part_of r) (up_to (is 63) s) && of query (from (is 63) s))
unfolding part_of
rest-query true s = query-cut irelative_part relative_shuns-query relative_shuns-fragment s
rest-query false s = query-cut ihier_part hier_shuns-query hier_shuns-fragment s

-- the front of the text and its fragment, and in the front the part and its query
pub rest_law : (r : Bool) (s : Bytes) {front f p q : Bytes} {n m : ℕ} → n ≡ length (up_to (is 35) s) → front ≡ take n s → f ≡ drop n s
    → m ≡ length (up_to (is 63) front) → p ≡ take m front → q ≡ drop m front
    → of (rest_of r) s ≡ ((of (part_of r) p && of (optionally 63 Query) q) && of (optionally 35 Fragment) f)
rest_law r s {front} e a b g c d =
    let cut = split 63 (of (part_of r then query)) (of (part_of r)) (of query) front (rest-query r front) g c d in
    split 35 (of (rest_of r)) (of (part_of r then query)) (of fragment) s (rest-fragment r s) e a b ∙ rw (optional-query, optional-fragment, cut)

-- ---- the whole

colon_none : of (word ":" then (ihier_part then (query then fragment))) [] ≡ false
unfolding R.all
colon_none = of_nil (word ":" then (ihier_part then (query then fragment)))

colon-some : (t : Bytes) → of (word ":" then (ihier_part then (query then fragment))) (58 ∷ t) ≡ of (rest_of false) t
unfolding is_mark rest_of part_of R.all
colon-some t = of_mark 58 refl (ihier_part then (query then fragment)) t

module _ (s : Bytes) where
  abbrev colon : Bytes → Bool
  colon = of (word ":" then (ihier_part then (query then fragment)))

  pub iri_none : from (is 58) s ≡ [] → false ≡ of IRI s
  iri_none e = uncut 58 (of IRI) (of scheme) colon s (iri_cut s) e colon_none

  pub iri_law : {a b : Bytes} → Cut 58 s a b → of IRI s ≡ (of scheme a && of (rest_of false) b)
  iri_law c = passed 58 (of IRI) (of scheme) colon s (iri_cut s) c (of (rest_of false)) colon-some

pub reference_law : (s : Bytes) → of IRI-reference s ≡ (of IRI s || of (rest_of true) s)
unfolding IRI-reference irelative_ref rest_of part_of
reference_law s = of_or IRI irelative_ref s
