-- What refusals 9 and 13 leave of rdf:nodeID is what N-Triples can write: each such label is a BLANK_NODE_LABEL of its grammar. So is
-- each generated label.
use Rattle.std.specs.Prelude.{◌≡◌, refl, ◌⊎◌, Bool, true, false, ◌&&◌, ◌||◌, List, [], ◌∷◌, ◌++◌, ℕ, ◌+◌, ◌%◌, ◌≤◌, leb}
use Rattle.std.proofs.Common.{sym, ◌∙◌, ap, inl, inr, true≢false, arith, ne_eqb, eqb-true, eq-eqb, leb-true, le-leb}
use Rattle.std.proofs.lemmas.Bool.{false≢true, eqb-false}
use Rattle.spec.specs.Bytes.{Bytes, ascii, every, between, in_ranges}
use Rattle.spec.specs.Bytes as B
use Rattle.spec.specs.Grammar.{Grammar, one, ◌or◌, ◌then◌, many, Describes, stop, more, accepts}
use Rattle.spec.proofs.Booleans.{and_left, and_right, and_both, or_cases, or_left, or_right_lem}
use Rattle.spec.specs.Abnf.{optional}
use Rattle.spec.specs.Utf8.{holds_of, as_characters}
use Rattle.spec.specs.XmlNames.{is_nc_name, is_name, is_name_char, is_name_start, no_colon, start_ranges, further_ranges}
use Rattle.spec.specs.XmlNames as N
use Rattle.spec.specs.NTriplesGrammar.{BLANK_NODE_LABEL, PN_CHARS, PN_CHARS_U, text}
use Rattle.spec.specs.NTriplesGrammar as G
use Rattle.spec.specs.StartTag.{ends_in_stop}
use Rattle.spec.specs.NTriples.{digits, label}
use Rattle.theorems.specs.Labels.{every_map, all_digits, ascii-digits}
use Rattle.theorems.specs.Utf8.{is_ascii, ascii-characters, characters-append, Decoded, decoded, Row, end, small, large, row}
use Rattle.theorems.specs.Spelled.{In, accepted}

-- ---- ranges inside ranges

inside : List (ℕ × ℕ) → ℕ × ℕ → Bool
inside [] r = false
inside (q ∷ qs) r = (leb q.0 r.0 && leb r.1 q.1) || inside qs r

covered : List (ℕ × ℕ) → List (ℕ × ℕ) → Bool
covered [] qs = true
covered (r ∷ rs) qs = inside qs r && covered rs qs

inside_sound : (qs : List (ℕ × ℕ)) (r : ℕ × ℕ) (c : ℕ) → inside qs r ≡ true → between r.0 r.1 c ≡ true → in_ranges qs c ≡ true
unfolding inside in_ranges between
inside_sound [] r c h k = absurd (false≢true h)
inside_sound (q ∷ qs) r c h k = elim (or_cases (leb q.0 r.0 && leb r.1 q.1) (inside qs r) h) [
  | inl e ↦
      (let p₁ : q.0 ≤ r.0 = leb-true q.0 r.0 (and_left (leb q.0 r.0) (leb r.1 q.1) e) in
      let p₂ : r.1 ≤ q.1 = leb-true r.1 q.1 (and_right (leb q.0 r.0) (leb r.1 q.1) e) in
      let p₃ : r.0 ≤ c = leb-true r.0 c (and_left (leb r.0 c) (leb c r.1) k) in
      let p₄ : c ≤ r.1 = leb-true c r.1 (and_right (leb r.0 c) (leb c r.1) k) in
      or_left (leb q.0 c && leb c q.1) (in_ranges qs c)
      (and_both (leb q.0 c) (leb c q.1) (le-leb q.0 c (omega arith)) (le-leb c q.1 (omega arith))))
  | inr e ↦ or_right_lem (leb q.0 c && leb c q.1) (in_ranges qs c) (inside_sound qs r c e k)
]

covered_sound : (rs qs : List (ℕ × ℕ)) (c : ℕ) → covered rs qs ≡ true → in_ranges rs c ≡ true → in_ranges qs c ≡ true
unfolding covered in_ranges
covered_sound [] qs c h k = absurd (false≢true k)
covered_sound (r ∷ rs) qs c h k = elim (or_cases (between r.0 r.1 c) (in_ranges rs c) k) [
  | inl e ↦ inside_sound qs r c (and_left (inside qs r) (covered rs qs) h) e
  | inr e ↦ covered_sound rs qs c (and_right (inside qs r) (covered rs qs) h) e
]

start_char : (c : ℕ) → is_name_start c ≡ true → in_ranges PN_CHARS_U c ≡ true
unfolding is_name_start covered inside N.all G.all
start_char c h = covered_sound start_ranges PN_CHARS_U c refl h

abbrev with_stop : List (ℕ × ℕ)
with_stop = (46, 46) ∷ PN_CHARS

covers_start : covered start_ranges with_stop ≡ true
unfolding covered inside N.all G.all
covers_start = refl

covers_further : covered further_ranges with_stop ≡ true
unfolding covered inside N.all G.all
covers_further = refl

name_char : (c : ℕ) → is_name_char c ≡ true → (46 ≡ c) ⊎ (in_ranges PN_CHARS c ≡ true)
unfolding is_name_char is_name_start in_ranges between
name_char c h =
    let k : in_ranges with_stop c ≡ true = elim (or_cases (is_name_start c) (in_ranges further_ranges c) h) [
      | inl e ↦ covered_sound start_ranges with_stop c covers_start e
      | inr e ↦ covered_sound further_ranges with_stop c covers_further e
    ] in
    elim (or_cases (leb 46 c && leb c 46) (in_ranges PN_CHARS c) k) [
      | inl e ↦
          (let p : 46 ≤ c = leb-true 46 c (and_left (leb 46 c) (leb c 46) e) in
          let q : c ≤ 46 = leb-true c 46 (and_right (leb 46 c) (leb c 46) e) in
          inl (omega arith))
      | inr e ↦ inr e
    ]

-- ---- the grammar

abbrev inner : Grammar ℕ
inner = one (in_ranges PN_CHARS) or text "."

piece : (d : ℕ) → is_name_char d ≡ true → Describes inner (d ∷ [])
unfolding text G.characters ascii
piece d h = elim (name_char d h) [
  | inl e ↦ inr (d ∷ [], [], refl, (d, refl, eq-eqb 46 d e), refl)
  | inr e ↦ inl (d, refl, e)
]

tail_described : (d : ℕ) (ds : List ℕ) → every is_name_char (d ∷ ds) ≡ true → ends_in_stop (d ∷ ds) ≡ false → Describes (many inner then one (in_ranges PN_CHARS)) (d ∷ ds)
unfolding every ends_in_stop B.byte
tail_described d [] h k = elim (name_char d (and_left (is_name_char d) true h)) [
  | inl e ↦ absurd (eqb-false d 46 k (sym e))
  | inr e ↦ ([], d ∷ [], refl, stop refl, (d, refl, e))
]
tail_described d (e ∷ es) h k =
    let r : Describes (many inner then one (in_ranges PN_CHARS)) (e ∷ es) = tail_described e es (and_right (is_name_char d) (every is_name_char (e ∷ es)) h) k in
    (d ∷ r.0, r.1, ap (λ (x : List ℕ). d ∷ x) r.2, more (d ∷ []) r.0 refl (piece d (and_left (is_name_char d) (every is_name_char (e ∷ es)) h)) r.3, r.4)

label_described : (cs : List ℕ) → is_name cs ≡ true → ends_in_stop cs ≡ false → Describes BLANK_NODE_LABEL (95 ∷ 58 ∷ cs)
unfolding is_name ends_in_stop BLANK_NODE_LABEL text G.characters ascii optional every
label_described [] h k = absurd (false≢true h)
label_described (c ∷ []) h k = (
  95 ∷ 58 ∷ [],
  c ∷ [],
  refl,
  (95 ∷ [], 58 ∷ [], refl, (95, refl, refl), (58 ∷ [], [], refl, (58, refl, refl), refl)),
  (c ∷ [], [], refl, inl (c, refl, start_char c (and_left (is_name_start c) true h)), inl refl),
)
label_described (c ∷ d ∷ ds) h k = (
  95 ∷ 58 ∷ [],
  c ∷ d ∷ ds,
  refl,
  (95 ∷ [], 58 ∷ [], refl, (95, refl, refl), (58 ∷ [], [], refl, (58, refl, refl), refl)),
  (
    c ∷ [],
    d ∷ ds,
    refl,
    inl (c, refl, start_char c (and_left (is_name_start c) (every is_name_char (d ∷ ds)) h)),
    inr (tail_described d ds (and_right (is_name_start c) (every is_name_char (d ∷ ds)) h) k),
  ),
)

-- ---- a full stop among the characters is a full stop among the bytes

ends-append : (u v : Bytes) → ends_in_stop v ≡ true → ends_in_stop (u ++ v) ≡ true
unfolding ends_in_stop
ends-append [] v h = h
ends-append (a ∷ []) [] h = absurd (false≢true h)
ends-append (a ∷ []) (c ∷ v) h = h
ends-append (a ∷ b ∷ u) v h = ends-append (b ∷ u) v h

row_stop : {s : Bytes} {cs : List ℕ} → Row s cs → ends_in_stop cs ≡ true → ends_in_stop s ≡ true
unfolding ends_in_stop B.byte
row_stop end h = h
row_stop (small {s = s} {cs = []} b a end) h = h
row_stop (small {s = s} {cs = d ∷ cs} b a r) h = ends-append (b ∷ []) s (row_stop r h)
row_stop (large {s = s} {cs = []} l c e a le r) h = let p : c ≡ 46 = eqb-true c 46 h in absurd (omega arith)
row_stop (large {s = s} {cs = d ∷ cs} l c e a le r) h = ends-append l s (row_stop r h)

-- ---- the theorem

pub label_in : (l : Bytes) → is_nc_name l ≡ true → ends_in_stop l ≡ false → In BLANK_NODE_LABEL (ascii "_:" ++ l)
unfolding is_nc_name ascii every is_ascii
label_in l h k =
    let r : Decoded is_name l = decoded is_name l (and_left (as_characters is_name l) (no_colon l) h) in
    record {
      chars = 95 ∷ 58 ∷ r.chars;
      are = characters-append (ascii "_:") l (ascii "_:") r.chars (ascii-characters (ascii "_:") refl) r.are;
      described = label_described r.chars r.pass (go r.chars (row l r.chars r.are) (ends_in_stop r.chars) refl);
    }
  where
    go : (cs : List ℕ) → Row l cs → (b : Bool) → ends_in_stop cs ≡ b → ends_in_stop cs ≡ false
    go cs r true e = absurd (true≢false (sym (row_stop r e) ∙ k))
    go cs r false e = e

-- an rdf:nodeID that 9 and 13 let past, written `_:` and the label, is a BLANK_NODE_LABEL
pub label_in_grammar : (l : Bytes) → is_nc_name l ≡ true → ends_in_stop l ≡ false → as_characters (accepts BLANK_NODE_LABEL) (ascii "_:" ++ l) ≡ true
label_in_grammar l h k = accepted (label_in l h k)

-- ---- generated labels

digit_char : (c : ℕ) → between 48 57 c ≡ true → is_name_char c ≡ true
unfolding is_name_char further_ranges inside N.all
digit_char c h = or_right_lem (is_name_start c) (in_ranges further_ranges c) (inside_sound further_ranges (48, 57) c refl h)

digit_small : (c : ℕ) → between 48 57 c ≡ true → c ≤ 57
unfolding between
digit_small c h = leb-true c 57 (and_right (leb 48 c) (leb c 57) h)

label-ascii : (n : ℕ) → every is_ascii (label n) ≡ true
unfolding label every ascii is_ascii
label-ascii n = ascii-digits 8 n

label-name : (n : ℕ) → is_name (label n) ≡ true
unfolding label ascii N.all
label-name n = every_map (between 48 57) is_name_char digit_char (digits 8 n) (all_digits 8 n)

label-colon : (n : ℕ) → no_colon (label n) ≡ true
unfolding label ascii N.all
label-colon n = every_map (between 48 57) _ (λ c h. let le : c ≤ 57 = digit_small c h in rw (ne_eqb c 58 λ e. omega arith)) (digits 8 n) (all_digits 8 n)

label_ncname : (n : ℕ) → is_nc_name (label n) ≡ true
unfolding is_nc_name as_characters holds_of
label_ncname n = and_both (as_characters is_name (label n)) (no_colon (label n)) (rw (ascii-characters (label n) (label-ascii n)) (label-name n)) (label-colon n)

label_stop : (n : ℕ) → ends_in_stop (label n) ≡ false
unfolding label digits ends_in_stop ascii B.byte
label_stop n = ne_eqb (48 + n % 10) 46 λ e. omega arith

-- a generated label, written `_:` and the label, is a BLANK_NODE_LABEL
pub generated_in : (n : ℕ) → In BLANK_NODE_LABEL (ascii "_:" ++ label n)
generated_in n = label_in (label n) (label_ncname n) (label_stop n)
