-- A row of characters from the front: what its first place takes.
use mathlib.Core.Path.{◌≡◌, refl, sym, ap, ◌∙◌}
use mathlib.Core.Logic.{inl, inr}
use mathlib.Core.Bool.{Bool, true, false, ◌&&◌, ◌||◌, false≢true}
use mathlib.Core.Option.{some}
use mathlib.Core.List.{List, [], ◌∷◌, ◌++◌, head-eq_of_cons-eq, tail-eq_of_cons-eq, nil≢cons}
use Prim.Native.Nat.{ℕ, ◌+◌, ◌<◌}
use native.Mathlib.Omega.{arith}
use lib.Dec.{eqb, leb}
use lib.ListN.{length, drop, get_or}
use borrow.Author.Tests.{eqb-true, leb-true}
use Rattle.spec.specs.Bytes.{Bytes, ascii, between, byte, among, when◌then◌else◌}
use Rattle.spec.specs.Bytes as B
use Rattle.spec.specs.Grammar.{◌then◌, many, Many, stop, more, Describes, accepts}
use Rattle.spec.specs.Abnf.{lower, HEXDIG}
use Rattle.spec.specs.Rfc3987 as R
use Rattle.spec.specs.Utf8.{characters, in_front}
use Rattle.spec.proofs.Booleans.{and_left, and_right, and_both, or_cases, or_left, or_right_lem}
use Rattle.utils.specs.Decoding.{Front, Stuck}
use Rattle.utils.proofs.Front.{front_characters, front_some, stuck_fails}
use Rattle.utils.proofs.Decoding.{front_one}
use Rattle.iri.specs.declared.Part.{Part}
use Rattle.iri.specs.declared.Part.TheVariants.{Scheme, Port, Hex, Later, UserInfo, Name, Path, Query, Fragment}
use Rattle.iri.specs.Parts.{of, Class, set, letter, escape, ◌either◌, grammar, allowed, escapes, is_hex, is_digit, is_alpha, is_alphanum, unreserved, pchar, class_of, lettered, slashed, common, row, escaped, Taken}
use Rattle.iri.specs.Parts as P
use Rattle.iri.proofs.Characters.{Reads, in_parts, reads-characters, characters-reads, reads_front, front_reads}
use Rattle.iri.proofs.Languages.{In, of_same, of_in, same_test, letters-mark, of_one, of_nil}
use Rattle.iri.specs.Forms.{is_mark, later, pathchar}

-- what stands at one place
pub data Piece (k : Class) (u : List ℕ) : Type 0 where
  single : (c : ℕ) → allowed k c ≡ true → u ≡ c ∷ [] → Piece k u
  triple : escapes k ≡ true → (a b : ℕ) → is_hex a ≡ true → is_hex b ≡ true → u ≡ 37 ∷ a ∷ b ∷ [] → Piece k u

piece_left : {k l : Class} {u : List ℕ} → Piece k u → Piece (k either l) u
unfolding allowed escapes
piece_left {k} {l} (single c h e) = single c (or_left (allowed k c) (allowed l c) h) e
piece_left {k} {l} (triple h a b p q e) = triple (or_left (escapes k) (escapes l) h) a b p q e

piece_right : {k l : Class} {u : List ℕ} → Piece l u → Piece (k either l) u
unfolding allowed escapes
piece_right {k} {l} (single c h e) = single c (or_right_lem (allowed k c) (allowed l c) h) e
piece_right {k} {l} (triple h a b p q e) = triple (or_right_lem (escapes k) (escapes l) h) a b p q e

described_piece : (k : Class) (u : List ℕ) → Describes (grammar k) u → Piece k u
unfolding grammar allowed escapes is_mark R.all is_hex is_digit
described_piece (set p) u x = single x.0 x.2 x.1
described_piece (letter d) u x = single x.3.0 x.3.2 (x.2 ∙ rw (x.3.1, x.4))
described_piece escape u x = let y = x.4 in triple refl y.3.0 y.4.3.0 y.3.2 y.4.3.2 (x.2 ∙ rw (letters-mark 37 refl x.0 x.3, y.2, y.3.1, y.4.2, y.4.3.1, y.4.4))
described_piece (k either l) u (inl x) = piece_left (described_piece k u x)
described_piece (k either l) u (inr y) = piece_right (described_piece l u y)

piece_described : (k : Class) (u : List ℕ) → Piece k u → Describes (grammar k) u
unfolding grammar allowed escapes R.all is_hex is_digit
piece_described (set p) u (single c h e) = (c, e, h)
piece_described (set p) u (triple h a b p' q e) = absurd (false≢true h)
piece_described (letter d) u (single c h e) = (c ∷ [], [], e, (c, refl, h), refl)
piece_described (letter d) u (triple h a b p q e) = absurd (false≢true h)
piece_described escape u (single c h e) = absurd (false≢true h)
piece_described escape u (triple h a b p q e) = (37 ∷ [], a ∷ b ∷ [], e, (37 ∷ [], [], refl, (37, refl, refl), refl), (a ∷ [], b ∷ [], refl, (a, refl, p), (b ∷ [], [], refl, (b, refl, q), refl)))
piece_described (k either l) u (single c h e) = elim (or_cases (allowed k c) (allowed l c) h) [ inl x ↦ inl (piece_described k u (single c x e)) | inr y ↦ inr (piece_described l u (single c y e)) ]
piece_described (k either l) u (triple h a b p q e) = elim (or_cases (escapes k) (escapes l) h) [ inl x ↦ inl (piece_described k u (triple x a b p q e)) | inr y ↦ inr (piece_described l u (triple y a b p q e)) ]

-- ---- a row, by its first character

pub hex_low : (c : ℕ) → is_hex c ≡ true → c < 128
unfolding is_hex is_digit lower between byte when◌then◌else◌
hex_low c h = elim (or_cases (between 48 57 c) (between 97 102 (lower c)) h) [ inl x ↦ omega (arith, leb-true c 57 (and_right (leb 48 c) (leb c 57) x)) | inr y ↦ by (leb 65 c && leb c 90) y ]
  where
    by : (t : Bool) → between 97 102 (when t then 32 + c else c) ≡ true → c < 128
    by true y = omega (arith, leb-true (32 + c) 102 (and_right (leb 97 (32 + c)) (leb (32 + c) 102) y))
    by false y = omega (arith, leb-true c 102 (and_right (leb 97 c) (leb c 102) y))

some-injective : {a b : ℕ} → some a ≡ some b → a ≡ b
some-injective e = cc

-- the first place of a row that is not empty
data First (k : Class) (c : ℕ) (cs : List ℕ) : Type 0 where
  plain : allowed k c ≡ true → Describes (many (grammar k)) cs → First k c cs
  percent : escapes k ≡ true → (a b : ℕ) (ds : List ℕ) → is_hex a ≡ true → is_hex b ≡ true → c ∷ cs ≡ 37 ∷ a ∷ b ∷ ds → Describes (many (grammar k)) ds → First k c cs

module _ (k : Class) where
  piece_first : {c : ℕ} {cs u v : List ℕ} → c ∷ cs ≡ u ++ v → Piece k u → Many (Describes (grammar k)) v → First k c cs
  piece_first {c} {cs} {v = v} e (single d h z) y =
      let w : c ∷ cs ≡ d ∷ v = e ∙ ap (λ (t : List ℕ). t ++ v) z in
      plain (rw (head-eq_of_cons-eq w) h) (rw (tail-eq_of_cons-eq w) y)
  piece_first {v = v} e (triple h a b p r z) y = percent h a b v p r (e ∙ ap (λ (t : List ℕ). t ++ v) z) y

  first : {c : ℕ} {cs : List ℕ} → Describes (many (grammar k)) (c ∷ cs) → First k c cs
  first {c} {cs} x = by (c ∷ cs) refl x
    where
      by : (ds : List ℕ) → ds ≡ c ∷ cs → Many (Describes (grammar k)) ds → First k c cs
      by ds q (stop e) = absurd (nil≢cons (sym e ∙ q))
      by ds q (more u v e x y) = piece_first (sym q ∙ e) (described_piece k u x) y

-- ---- the same of bytes

data Begun (k : Class) (c n : ℕ) (s : Bytes) : Type 0 where
  plainly : allowed k c ≡ true → In (many (grammar k)) (drop n s) → Begun k c n s
  escapedly : c ≡ 37 → (escapes k && escaped s) ≡ true → In (many (grammar k)) (drop 3 s) → Begun k c n s

module _ (k : Class) where
  triple_read : {s : Bytes} {a b : ℕ} {ds : List ℕ} → is_hex a ≡ true → is_hex b ≡ true → Reads s (37 ∷ a ∷ b ∷ ds) → (t : Bytes) × (s ≡ 37 ∷ a ∷ b ∷ t) × Reads t ds
  triple_read {s} {a} {b} p q r =
      let x = reads_front (omega arith) r in
      let y = reads_front (hex_low a p) x.2 in
      let z = reads_front (hex_low b q) y.2 in
      (z.0, x.1 ∙ ap (◌∷◌ 37) y.1 ∙ ap (λ (t : Bytes). 37 ∷ a ∷ t) z.1, z.2)

  escaped-triple : (a b : ℕ) (t : Bytes) → is_hex a ≡ true → is_hex b ≡ true → escaped (37 ∷ a ∷ b ∷ t) ≡ true
  unfolding escaped byte
  escaped-triple a b t p q = and_both (is_hex a) (is_hex b) p q

  begun : {c n : ℕ} {s : Bytes} → Front c n s → In (many (grammar k)) s → Begun k c n s
  begun {c} {n} {s} f i =
      let p = in_parts (some c) (characters (drop n s)) (sym (front_characters f) ∙ reads-characters i.reads) in
      let e : i.text ≡ c ∷ p.1 = p.4 ∙ ap (λ (x : ℕ). x ∷ p.1) (sym (some-injective p.2)) in
      by p.1 p.3 (rw e at i.reads) (first k (rw e at i.describes))
    where
      by : (cs : List ℕ) → characters (drop n s) ≡ some cs → Reads s (c ∷ cs) → First k c cs → Begun k c n s
      by cs q r (plain h x) = plainly h (record { text = cs; reads = characters-reads cs (drop n s) q; describes = x })
      by cs q r (percent h a b ds x y e z) =
          let t = triple_read x y (rw e at r) in
          escapedly (head-eq_of_cons-eq e) (and_both (escapes k) (escaped s) h (rw t.1 (escaped-triple a b t.0 x y))) (rw t.1 (record { text = ds; reads = t.2; describes = z }))

  single_in : {c n : ℕ} {s : Bytes} → Front c n s → allowed k c ≡ true → In (many (grammar k)) (drop n s) → In (many (grammar k)) s
  unfolding in_front
  single_in {c} {n} {s} f h i =
      record {
        text = c ∷ i.text;
        reads = characters-reads (c ∷ i.text) s (front_characters f ∙ rw (reads-characters i.reads));
        describes = more (c ∷ []) i.text refl (piece_described k (c ∷ []) (single c h refl)) i.describes;
      }

  triple_in : {a b : ℕ} {t : Bytes} → escapes k ≡ true → is_hex a ≡ true → is_hex b ≡ true → In (many (grammar k)) t → In (many (grammar k)) (37 ∷ a ∷ b ∷ t)
  triple_in {a} {b} {t} h p q i =
      record {
        text = 37 ∷ a ∷ b ∷ i.text;
        reads = front_reads 37 (omega arith) (front_reads a (hex_low a p) (front_reads b (hex_low b q) i.reads));
        describes = more (37 ∷ a ∷ b ∷ []) i.text refl (piece_described k (37 ∷ a ∷ b ∷ []) (triple h a b p q refl)) i.describes;
      }

-- ---- what the first place of a part takes

no_percent : (p : Part) → allowed (class_of p) 37 ≡ false
unfolding allowed P.all B.all lower
no_percent Scheme = refl
no_percent Port = refl
no_percent Hex = refl
no_percent Later = refl
no_percent UserInfo = refl
no_percent Name = refl
no_percent Path = refl
no_percent Query = refl
no_percent Fragment = refl

module _ (p : Part) (s : Bytes) where
  pub taken-plain : {c n : ℕ} → Front c n s → allowed (class_of p) c ≡ true → Taken p s n
  unfolding row
  taken-plain {c} {n} f h =
      record {
        within = f.within;
        none = λ e l. absurd (omega (arith, front_some f));
        some = λ l. of_same {g = row p} {h = row p} {s = s} {t = drop n s} (λ i. by (begun (class_of p) f i)) (λ i. single_in (class_of p) f h i);
      }
    where
      by : Begun (class_of p) c n s → In (row p) (drop n s)
      by (plainly x y) = y
      by (escapedly x y z) = absurd (false≢true (sym (no_percent p) ∙ rw x at h))

  pub taken_none : {c n : ℕ} → Front c n s → allowed (class_of p) c ≡ false → (escapes (class_of p) && escaped s) ≡ false → Taken p s 0
  unfolding row
  taken_none {c} {n} f h e =
      record {
        within = omega arith;
        none = λ q l. same_test (of (row p) s) false (λ t. absurd (by (begun (class_of p) f (of_in (row p) s t)))) (λ t. absurd (false≢true t));
        some = λ l. absurd (omega arith);
      }
    where
      by : Begun (class_of p) c n s → ⊥
      by (plainly x y) = false≢true (sym h ∙ x)
      by (escapedly x y z) = false≢true (sym e ∙ y)

  pub taken_stuck : Stuck s → Taken p s 0
  taken_stuck h = record { within = omega arith; none = λ q l. stuck_fails (accepts (row p)) h; some = λ l. absurd (omega arith) }

  pub taken_end : length s ≡ 0 → Taken p s 0
  taken_end h = record { within = omega arith; none = λ q l. absurd (omega arith); some = λ l. absurd (omega arith) }

taken-triple : (p : Part) (a b : ℕ) (s : Bytes) → escapes (class_of p) ≡ true → is_hex a ≡ true → is_hex b ≡ true → Taken p (37 ∷ a ∷ b ∷ s) 3
unfolding row
taken-triple p a b s h x y =
    record {
      within = omega arith;
      none = λ e l. absurd (omega arith);
      some = λ l. of_same {g = row p} {h = row p} {s = 37 ∷ a ∷ b ∷ s} {t = s} (λ i. by (begun (class_of p) (front_one (37 ∷ a ∷ b ∷ s) (omega arith) (omega arith)) i)) (λ i. triple_in (class_of p) h x y i);
    }
  where
    by : Begun (class_of p) 37 1 (37 ∷ a ∷ b ∷ s) → In (row p) s
    by (plainly x y) = absurd (false≢true (sym (no_percent p) ∙ x))
    by (escapedly x y z) = z

pub taken_escape : (p : Part) (s : Bytes) → escapes (class_of p) ≡ true → escaped s ≡ true → Taken p s 3
unfolding escaped byte
taken_escape p [] h e = absurd (false≢true e)
taken_escape p (c ∷ []) h e = absurd (false≢true e)
taken_escape p (c ∷ a ∷ []) h e = absurd (false≢true e)
taken_escape p (c ∷ a ∷ b ∷ s) h e =
    let x = and_right (eqb c 37) (is_hex a && is_hex b) e in
    rw (eqb-true c 37 (and_left (eqb c 37) (is_hex a && is_hex b) e)) (taken-triple p a b s h (and_left (is_hex a) (is_hex b) x) (and_right (is_hex a) (is_hex b) x))

-- ---- a common character, where the part has them

lettered_allows : (p : Part) (c : ℕ) → lettered p ≡ true → is_alphanum c ≡ true → allowed (class_of p) c ≡ true
unfolding lettered allowed class_of pchar unreserved
lettered_allows Scheme c l h = rw h
lettered_allows Port c l h = absurd (false≢true l)
lettered_allows Hex c l h = absurd (false≢true l)
lettered_allows Later c l h = rw h
lettered_allows UserInfo c l h = rw h
lettered_allows Name c l h = rw h
lettered_allows Path c l h = rw h
lettered_allows Query c l h = rw h
lettered_allows Fragment c l h = rw h

alpha_low : (c : ℕ) → is_alpha c ≡ true → c < 128
unfolding P.all
alpha_low c h = by (leb 65 c && leb c 90) h
  where
    by : (t : Bool) → between 97 122 (when t then 32 + c else c) ≡ true → c < 128
    by true y = omega (arith, leb-true (32 + c) 122 (and_right (leb 97 (32 + c)) (leb (32 + c) 122) y))
    by false y = omega (arith, leb-true c 122 (and_right (leb 97 c) (leb c 122) y))

alphanum_low : (c : ℕ) → is_alphanum c ≡ true → c < 128
unfolding is_alphanum is_digit between byte
alphanum_low c h = elim (or_cases (is_alpha c) (between 48 57 c) h) [ inl x ↦ alpha_low c x | inr y ↦ omega (arith, leb-true c 57 (and_right (leb 48 c) (leb c 57) y)) ]

hyphen_allowed : (p : Part) → lettered p ≡ true → allowed (class_of p) 45 ≡ true
unfolding lettered allowed P.all B.all lower
hyphen_allowed Scheme l = refl
hyphen_allowed Port l = absurd (false≢true l)
hyphen_allowed Hex l = absurd (false≢true l)
hyphen_allowed Later l = refl
hyphen_allowed UserInfo l = refl
hyphen_allowed Name l = refl
hyphen_allowed Path l = refl
hyphen_allowed Query l = refl
hyphen_allowed Fragment l = refl

dot-allowed : (p : Part) → lettered p ≡ true → allowed (class_of p) 46 ≡ true
unfolding lettered allowed P.all B.all lower
dot-allowed Scheme l = refl
dot-allowed Port l = absurd (false≢true l)
dot-allowed Hex l = absurd (false≢true l)
dot-allowed Later l = refl
dot-allowed UserInfo l = refl
dot-allowed Name l = refl
dot-allowed Path l = refl
dot-allowed Query l = refl
dot-allowed Fragment l = refl

slash_allowed : (p : Part) → slashed p ≡ true → allowed (class_of p) 47 ≡ true
unfolding slashed allowed P.all B.all lower
slash_allowed Scheme l = absurd (false≢true l)
slash_allowed Port l = absurd (false≢true l)
slash_allowed Hex l = absurd (false≢true l)
slash_allowed Later l = absurd (false≢true l)
slash_allowed UserInfo l = absurd (false≢true l)
slash_allowed Name l = absurd (false≢true l)
slash_allowed Path l = refl
slash_allowed Query l = refl
slash_allowed Fragment l = refl

-- what a common character is
pub data Common (t : Bool) (c : ℕ) : Type 0 where
  alphanum : is_alphanum c ≡ true → Common t c
  hyphen : c ≡ 45 → Common t c
  dot : c ≡ 46 → Common t c
  slash : t ≡ true → c ≡ 47 → Common t c

pub common_is : (t : Bool) (c : ℕ) → common t c ≡ true → Common t c
unfolding common among ascii byte
common_is t c h = elim (or_cases (is_alphanum c) _ h) [ inl x ↦ alphanum x | inr y ↦ elim (or_cases (among (ascii "-.") c) (t && eqb c 47) y) [ inl z ↦ marks z | inr z ↦ slash (and_left t (eqb c 47) z) (eqb-true c 47 (and_right t (eqb c 47) z)) ] ]
  where
    marks : among (ascii "-.") c ≡ true → Common t c
    marks z = elim (or_cases (eqb 45 c) (eqb 46 c || false) z) [ inl x ↦ hyphen (sym (eqb-true 45 c x)) | inr y ↦ elim (or_cases (eqb 46 c) false y) [ inl x ↦ dot (sym (eqb-true 46 c x)) | inr x ↦ absurd (false≢true x) ] ]

common_low : {t : Bool} {c : ℕ} → Common t c → c < 128
common_low {t} {c} (alphanum h) = alphanum_low c h
common_low (hyphen e) = omega (arith, e)
common_low (dot e) = omega (arith, e)
common_low (slash h e) = omega (arith, e)

common-allowed : (p : Part) {c : ℕ} → lettered p ≡ true → Common (slashed p) c → allowed (class_of p) c ≡ true
common-allowed p {c} l (alphanum h) = lettered_allows p c l h
common-allowed p l (hyphen e) = rw e (hyphen_allowed p l)
common-allowed p l (dot e) = rw e (dot-allowed p l)
common-allowed p l (slash h e) = rw e (slash_allowed p h)

pub taken-common : (p : Part) (s : Bytes) → lettered p ≡ true → 0 < length s → common (slashed p) (get_or s 0 0) ≡ true → Taken p s 1
taken-common p s l z h =
    let x = common_is (slashed p) (get_or s 0 0) h in
    taken-plain p s (front_one s z (common_low x)) (common-allowed p l x)

-- ---- the parts are those of RFC 3987

pub row-port : row Port ≡ R.port
unfolding row grammar P.all R.all
row-port = refl

pub row_hex : row Hex ≡ many HEXDIG
unfolding row grammar P.all R.all
row_hex = refl

pub row-later : row Later ≡ many later
unfolding row grammar P.all R.all
row-later = refl

pub row_user : row UserInfo ≡ R.iuserinfo
unfolding row grammar P.all R.all
row_user = refl

pub row-name : row Name ≡ R.ireg_name
unfolding row grammar P.all R.all
row-name = refl

pub row_path : row Path ≡ many pathchar
unfolding row grammar P.all R.all
row_path = refl

pub row-query : row Query ≡ R.iquery
unfolding row grammar P.all R.all
row-query = refl

pub row-fragment : row Fragment ≡ R.ifragment
unfolding row grammar P.all R.all
row-fragment = refl

-- ALPHA *( ALPHA / DIGIT / "+" / "-" / "." )
pub scheme_cons : (c : ℕ) (s : Bytes) → of R.scheme (c ∷ s) ≡ (is_alpha c && of (row Scheme) s)
unfolding row grammar P.all R.all
scheme_cons c s = of_one is_alpha alpha_low (row Scheme) c s

pub scheme-nil : of R.scheme [] ≡ false
unfolding R.all
scheme-nil = of_nil R.scheme
