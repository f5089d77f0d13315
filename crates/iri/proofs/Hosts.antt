-- RFC 3987, 3.2.2 of RFC 3986: the host and its port.
use mathlib.Core.Path.{◌≡◌, refl, sym, ◌∙◌}
use mathlib.Core.Logic.{inl, inr}
use mathlib.Core.Bool.{Bool, true, false, ◌&&◌, ◌||◌, false≢true}
use mathlib.Core.List.{[], ◌∷◌, ◌++◌}
use Prim.Native.Nat.{ℕ, ◌+◌, ◌<◌, ◌≤◌}
use native.Mathlib.Omega.{arith}
use lib.Dec.{eqb, leb}
use borrow.Author.Tests.{eqb-true, leb-true, le-leb}
use Rattle.spec.specs.Bytes.{Bytes, up_to, from, between, byte}
use Rattle.spec.specs.Bytes as B
use Rattle.spec.specs.Grammar.{empty, one, ◌or◌, ◌then◌, Describes}
use Rattle.spec.specs.Abnf.{word, some, HEXDIG, lower}
use Rattle.spec.specs.Rfc3987.{ihost, port, IPvFuture, IPv4address, IP-literal, ireg_name, iunreserved, pct_encoded, sub_delims}
use Rattle.spec.specs.Rfc3987 as R
use Rattle.spec.proofs.Booleans.{and_left, and_right, and_both, or_left, or_right_lem, or_cases}
use Rattle.iri.specs.Parts.{of}
use Rattle.iri.proofs.Languages.{In, of_assoc, same_test, of_in, of_same, in_then, then_in, in_or, right_in, of_nil, of_after, shuns, is, Within, within-every, of_cut, in_mark, of_mark, lower-mark, mark-marked, optional-marked, marked-head, every-many, of_one, of_skip, of_optional_none, of_optional-some}
use Rattle.iri.specs.Forms.{is_mark, portal, server, literal, bracketed, later, version}

-- ---- ihost [ ":" port ]

pub server-literal : (s : Bytes) → of server (91 ∷ s) ≡ of bracketed s
unfolding R.all
server-literal s = of_after server 91 s (omega arith) ∙ sym (of_assoc literal (word "]") portal s)

pub bracketed-cut : (s : Bytes) → of bracketed s ≡ (of literal (up_to (is 93) s) && of (word "]" then portal) (from (is 93) s))
unfolding shuns is_mark R.all
bracketed-cut s = of_cut 93 literal (word "]" then portal) (omega arith) refl (λ t i. mark-marked 93 refl t i) s

pub close-portal : (s : Bytes) → of (word "]" then portal) (93 ∷ s) ≡ of portal s
unfolding is_mark R.all
close-portal s = of_mark 93 refl portal s

pub close_none : of (word "]" then portal) [] ≡ false
unfolding R.all
close_none = of_nil (word "]" then portal)

-- ---- a registered name; an IPv4 address is one too

digit_or_dot : ℕ → Bool
digit_or_dot c = between 48 57 c || eqb c 46

digit : (a z : ℕ) → 48 ≤ a → z ≤ 57 → (c : ℕ) → between a z c ≡ true → digit_or_dot c ≡ true
unfolding digit_or_dot between
digit a z l m c e =
    let lo = leb-true a c (and_left (leb a c) (leb c z) e) in
    let hi = leb-true c z (and_right (leb a c) (leb c z) e) in
    or_left (leb 48 c && leb c 57) (eqb c 46) (and_both (leb 48 c) (leb c 57) (le-leb 48 c (omega arith)) (le-leb c 57 (omega arith)))

-- a word of one character that is among them
sign : (d : ℕ) → is_mark d ≡ true → digit_or_dot d ≡ true → (c : ℕ) → eqb (lower c) d ≡ true → digit_or_dot c ≡ true
sign d m q c e = rw (lower-mark d m c e) q

decimal : (c : ℕ) → between 48 57 c ≡ true → digit_or_dot c ≡ true
decimal = digit 48 57 (omega arith) (omega arith)

octet-within : Within digit_or_dot R.dec_octet
unfolding digit_or_dot is_mark R.all
octet-within = (
  decimal,
  (
    (digit 49 57 (omega arith) (omega arith), decimal),
    (
      ((sign 49 refl refl, tt), (decimal, (decimal, tt))),
      (((sign 50 refl refl, tt), (digit 48 52 (omega arith) (omega arith), decimal)), ((sign 50 refl refl, (sign 53 refl refl, tt)), digit 48 53 (omega arith) (omega arith))),
    ),
  ),
)

address_within : Within digit_or_dot IPv4address
unfolding digit_or_dot is_mark R.all
address_within = (octet-within, ((sign 46 refl refl, tt), (octet-within, ((sign 46 refl refl, tt), (octet-within, ((sign 46 refl refl, tt), octet-within))))))

in_name : (c : ℕ) → digit_or_dot c ≡ true → Describes (iunreserved or (pct_encoded or sub_delims)) (c ∷ [])
unfolding digit_or_dot R.all
in_name c h =
    elim (or_cases (between 48 57 c) (eqb c 46) h) [
      | inl x ↦ inl (inl (c, refl, or_right_lem (between 97 122 (lower c)) (between 48 57 c) x))
      | inr y ↦ inl (inr (inl (c, refl, rw (eqb-true c 46 y) refl)))
    ]

address_name : {s : Bytes} → In IPv4address s → In ireg_name s
unfolding ireg_name
address_name i = record { text = i.text; reads = i.reads; describes = every-many digit_or_dot (iunreserved or (pct_encoded or sub_delims)) in_name i.text (within-every digit_or_dot IPv4address i.text address_within i.describes) }

-- a host that is no literal
host_name : {s : Bytes} → ((t : Bytes) → s ≡ 91 ∷ t → ⊥) → In ihost s → In ireg_name s
unfolding is_mark R.all
host_name n i =
    elim (in_or i) [
      | inl x ↦ absurd (let q = in_mark 91 refl x in n q.0 q.1)
      | inr y ↦ (elim (in_or y) [ inl z ↦ address_name z | inr z ↦ z ])
    ]

pub server-name : (s : Bytes) → ((t : Bytes) → s ≡ 91 ∷ t → ⊥) → of server s ≡ (of ireg_name (up_to (is 58) s) && of portal (from (is 58) s))
unfolding shuns is_mark R.all
server-name s n =
    of_same {g = server} {h = ireg_name then portal} {s = s} {t = s}
    (λ i. let p = in_then i in rw p.2 (then_in (host_name (λ t e. n (t ++ p.1) (p.2 ∙ rw e)) p.3) p.4))
    (λ i. let p = in_then i in rw p.2 (then_in (right_in {g = IP-literal} (right_in {g = IPv4address} p.3)) p.4))
    ∙ of_cut 58 ireg_name portal (omega arith) refl (λ t i. optional-marked 58 refl _ t i) s

-- ---- [ ":" port ]

pub portal_none : of portal [] ≡ true
unfolding is_mark R.all
portal_none = of_optional_none 58 refl port

pub portal-some : (s : Bytes) → of portal (58 ∷ s) ≡ of port s
unfolding is_mark R.all
portal-some s = of_optional-some 58 refl port s

pub portal-other : (c : ℕ) (s : Bytes) → (c ≡ 58 → ⊥) → of portal (c ∷ s) ≡ false
unfolding is_mark R.all
portal-other c s n = same_test (of portal (c ∷ s)) false (λ e. absurd (n (marked-head (optional-marked 58 refl _ (c ∷ s) (of_in portal (c ∷ s) e))))) (λ e. absurd (false≢true e))

-- ---- "v" 1*HEXDIG "." 1*( unreserved / sub-delims / ":" )

lower_low : (d : ℕ) → d < 128 → (c : ℕ) → eqb (lower c) d ≡ true → c < 128
unfolding lower B.when◌then◌else◌
lower_low d l c e = by (between (byte "A") (byte "Z") c) e
  where
    by : (t : Bool) → eqb (B.when◌then◌else◌ t (32 + c) c) d ≡ true → c < 128
    by true e = omega (arith, eqb-true (32 + c) d e)
    by false e = omega (arith, eqb-true c d e)

pub future_cons : (c : ℕ) (s : Bytes) → of IPvFuture (c ∷ s) ≡ (eqb (lower c) 118 && of version s)
unfolding R.all
future_cons c s =
    sym (of_assoc (one (λ x. eqb (lower x) 118)) empty version (c ∷ s)) ∙ of_one (λ x. eqb (lower x) 118) (lower_low 118 (omega arith)) (empty then version) c s
    ∙ rw (of_skip version s)

pub future_nil : of IPvFuture [] ≡ false
unfolding R.all
future_nil = of_nil IPvFuture

pub version-cut : (s : Bytes) → of version s ≡ (of (some HEXDIG) (up_to (is 46) s) && of (word "." then some later) (from (is 46) s))
unfolding shuns is_mark R.all
version-cut s = of_cut 46 (some HEXDIG) (word "." then some later) (omega arith) refl (λ t i. mark-marked 46 refl t i) s

pub later-some : (s : Bytes) → of (word "." then some later) (46 ∷ s) ≡ of (some later) s
unfolding is_mark R.all
later-some s = of_mark 46 refl (some later) s

pub later_none : of (word "." then some later) [] ≡ false
unfolding R.all
later_none = of_nil (word "." then some later)
