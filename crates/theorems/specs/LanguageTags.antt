-- A well-formed language tag of RFC 5646, lowercased, is what N-Triples has behind `@`: letters, then words of letters and digits,
-- a hyphen before each.
use Rattle.std.specs.Prelude.{◌≡◌, refl, Bool, true, false, ◌||◌, List, [], ◌∷◌, ◌++◌, map, leb}
use Rattle.std.proofs.Common.{sym, ◌∙◌, ap, append_assoc, append-nil, arith, eqb-true, leb-true, le-leb, lt-ltb}
use Rattle.std.proofs.Math.Logic.{inl, inr}
use Rattle.std.proofs.lemmas.List.{map-append}
use Prim.Native.Nat.{ℕ, zero, suc, ◌+◌, ◌-◌, ◌≤◌}
use Prim.Native.String.{String}
use Rattle.std.proofs.lemmas.Bool.{lt-leb}
use Rattle.spec.specs.Bytes.{Bytes, ascii, byte, between, every}
use Rattle.spec.specs.Bytes as B
use Rattle.spec.specs.Grammar.{Grammar, one, ◌or◌, ◌then◌, many, Many, stop, more, Describes, accepts}
use Rattle.spec.specs.Abnf.{lower, ALPHA, DIGIT, alphanum, letters, word, optional, times, at_most, ◌to◌, some}
use Rattle.spec.specs.Rfc5646 as L
use Rattle.spec.specs.Rfc5646.{is_language_tag, language_tag}
use Rattle.spec.specs.NTriplesGrammar.{LANGTAG, text}
use Rattle.spec.specs.NTriplesGrammar as G
use Rattle.spec.proofs.Booleans.{and_left, and_right, and_both, or_cases, or_left, or_right_lem}
use Rattle.theorems.specs.Grammar.{accepts_sound}
use Rattle.theorems.specs.Utf8.{is_ascii, characters-append}
use Rattle.theorems.specs.Spelled.{In, in_ascii, in_one, in_none, in_more, ◌before◌, in_text}

-- what the first grammar describes is, lowercased, in the second
record Lowers (g h : Grammar ℕ) : Type 0 where
  pub lowered : (v : List ℕ) → Describes g v → In h (map lower v)

-- ---- rows

described_append : {P : List ℕ → Type 0} {s v : List ℕ} → Many P s → Many P v → Many P (s ++ v)
described_append (stop e) y = rw e y
described_append {v = v} (more u w e x r) y = more u (w ++ v) (ap (λ (x : List ℕ). x ++ v) e ∙ append_assoc u w v) x (described_append r y)

many-append : {g : Grammar ℕ} {u v : Bytes} → In (many g) u → In (many g) v → In (many g) (u ++ v)
many-append {u = u} {v = v} x y = record {
  chars = x.chars ++ y.chars;
  are = characters-append u v x.chars y.chars x.are y.are;
  described = described_append x.described y.described;
}

module _ {g h : Grammar ℕ} where
  lowers_one : Lowers g h → Lowers g (many h)
  lowers_one f = record { lowered = λ v d. rw (← append-nil (map lower v)) (in_more (f.lowered v d) in_none) }

  lowers_or : {k : Grammar ℕ} → Lowers g h → Lowers k h → Lowers (g or k) h
  lowers_or f f' = record { lowered = λ v d. elim d [ inl x ↦ f.lowered v x | inr y ↦ f'.lowered v y ] }

  lowers_then : {k l : Grammar ℕ} → Lowers g h → Lowers k l → Lowers (g then k) (h then l)
  lowers_then f f' = record { lowered = λ v d. rw (d.2, map-append) (f.lowered d.0 d.3 before f'.lowered d.1 d.4) }

  -- rows stay rows
  lowers_row : {k : Grammar ℕ} → Lowers g (many h) → Lowers k (many h) → Lowers (g then k) (many h)
  lowers_row f f' = record { lowered = λ v d. rw (d.2, map-append) (many-append (f.lowered d.0 d.3) (f'.lowered d.1 d.4)) }

  lowers_many : Lowers g (many h) → Lowers (many g) (many h)
  lowers_many f = record { lowered = go }
    where
      go : (v : List ℕ) → Many (Describes g) v → In (many h) (map lower v)
      go v (stop e) = rw e in_none
      go v (more u w e x r) = rw (e, map-append) (many-append (f.lowered u x) (go w r))

  lowers_optional : Lowers g (many h) → Lowers (optional g) (many h)
  unfolding optional
  lowers_optional f = record { lowered = λ v d. elim d [ inl e ↦ rw e in_none | inr y ↦ f.lowered v y ] }

  lowers_assoc : {k l : Grammar ℕ} → Lowers (g then (k then l)) h → Lowers ((g then k) then l) h
  lowers_assoc f = record {
    lowered = λ v d.
        f.lowered v (d.3.0, d.3.1 ++ d.1, d.2 ∙ (ap (λ (x : List ℕ). x ++ d.1) d.3.2 ∙ append_assoc d.3.0 d.3.1 d.1), d.3.3, (d.3.1, d.1, refl, d.3.4, d.4));
  }

module _ {g h : Grammar ℕ} where
  lowers_times : (n : ℕ) → Lowers g h → Lowers (times n g) (many h)
  unfolding times
  lowers_times zero f = record { lowered = λ v e. rw e in_none }
  lowers_times (suc n) f = lowers_row (lowers_one f) (lowers_times n f)

  lowers_at_most : (n : ℕ) → Lowers g (many h) → Lowers (at_most n g) (many h)
  unfolding at_most optional
  lowers_at_most zero f = record { lowered = λ v e. rw e in_none }
  lowers_at_most (suc n) f = lowers_optional (lowers_row f (lowers_at_most n f))

  -- at least one
  lowers_some : {k : Grammar ℕ} → Lowers g h → Lowers k (many h) → Lowers (g then k) (some h)
  unfolding some
  lowers_some f f' = lowers_then f f'

  some-times : (n : ℕ) → Lowers g h → Lowers (times (suc n) g) (some h)
  unfolding times
  some-times n f = lowers_some f (lowers_times n f)

  some_to : (m n : ℕ) → Lowers g h → Lowers (◌to◌ (suc m) n g) (some h)
  unfolding ◌to◌ times
  some_to m n f = lowers_assoc (lowers_some f (lowers_row (lowers_times m f) (lowers_at_most (n - suc m) (lowers_one f))))

-- ---- letters, digits, words

lower-lower : (c : ℕ) → lower (lower c) ≡ lower c
unfolding lower B.all
lower-lower c = go (between 65 90 c) refl
  where
    go : (b : Bool) → between 65 90 c ≡ b → lower (lower c) ≡ lower c
    go true e =
        let le : 65 ≤ c = leb-true 65 c (and_left (leb 65 c) (leb c 90) e) in
        simp (e, lt-leb (32 + c) 90 (omega arith), le-leb 65 (32 + c) (omega arith))
    go false e = simp e

letters-lower : (s v : List ℕ) → Describes (letters s) v → map lower v ≡ s
unfolding letters
letters-lower [] v e = rw e
letters-lower (c ∷ s) v ((u, w, e, (a, f, g), d)) =
    let p : lower a ≡ c = eqb-true (lower a) c g in
    let q : map lower w ≡ s = letters-lower s w d in
    rw (e, f) (cc)

-- a word is in what accepts it
lowers_word : {h : Grammar ℕ} (w : String) → every is_ascii (ascii w) ≡ true → accepts h (ascii w) ≡ true → Lowers (word w) h
unfolding word
lowers_word {h} w a e = record { lowered = λ v d. rw (letters-lower (ascii w) v d) (in_ascii (ascii w) a (accepts_sound h (ascii w) e)) }

between_low : (a z c : ℕ) → z ≤ 127 → between a z c ≡ true → is_ascii c ≡ true
unfolding between is_ascii
between_low a z c le h = let k : c ≤ z = leb-true c z (and_right (leb a c) (leb c z) h) in lt-ltb c 128 (omega arith)

between_wider : (a z a' z' c : ℕ) → a ≤ a' → z' ≤ z → between a' z' c ≡ true → between a z c ≡ true
unfolding between
between_wider a z a' z' c p q h =
    let m : a' ≤ c = leb-true a' c (and_left (leb a' c) (leb c z') h) in
    let n : c ≤ z' = leb-true c z' (and_right (leb a' c) (leb c z') h) in
    and_both (leb a c) (leb c z) (le-leb a c (omega arith)) (le-leb c z (omega arith))

digit-lower : (c : ℕ) → between 48 57 c ≡ true → lower c ≡ c
unfolding lower B.all
digit-lower c h = let k : c ≤ 57 = leb-true c 57 (and_right (leb 48 c) (leb c 57) h) in simp (lt-leb 65 c (omega arith))

-- is it a letter or a digit?
abbrev is_alphanum : ℕ → Bool
is_alphanum c = between 97 122 (lower c) || between 48 57 c

alphanum-lower : (c : ℕ) → is_alphanum c ≡ true → (is_ascii (lower c) ≡ true) × (is_alphanum (lower c) ≡ true)
alphanum-lower c h = elim (or_cases (between 97 122 (lower c)) (between 48 57 c) h) [
  | inl e ↦ (between_low 97 122 (lower c) (omega arith) e, or_left (between 97 122 (lower (lower c))) (between 48 57 (lower c)) (rw (lower-lower c) e))
  | inr e ↦ (
    rw (digit-lower c e) (between_low 48 57 c (omega arith) e),
    or_right_lem (between 97 122 (lower (lower c))) (between 48 57 (lower c)) (rw (digit-lower c e) e),
  )
]

lowers_class : {p : ℕ → Bool} → ((c : ℕ) → p c ≡ true → is_alphanum c ≡ true) → Lowers (one p) alphanum
unfolding alphanum byte
lowers_class f = record { lowered = λ v d. rw d.1 (let r = alphanum-lower d.0 (f d.0 d.2) in in_one _ (lower d.0) r.0 r.1) }

alpha_alpha : Lowers ALPHA ALPHA
unfolding ALPHA byte
alpha_alpha = record { lowered = λ v d. rw d.1 (in_one _ (lower d.0) (between_low 97 122 (lower d.0) (omega arith) d.2) (rw (lower-lower d.0) d.2)) }

alpha : Lowers ALPHA alphanum
unfolding ALPHA byte
alpha = lowers_class λ c h. or_left (between 97 122 (lower c)) (between 48 57 c) h

digit : Lowers DIGIT alphanum
unfolding DIGIT byte
digit = lowers_class λ c h. or_right_lem (between 97 122 (lower c)) (between 48 57 c) h

either : Lowers alphanum alphanum
unfolding alphanum byte
either = lowers_class λ c h. h

-- ---- the tags

-- words behind hyphens
abbrev Words : Grammar ℕ
Words = many (text "-" then some alphanum)

-- one more row behind a row
in_row : {g h : Grammar ℕ} {u v : Bytes} → In (g then many h) u → In (many h) v → In (g then many h) (u ++ v)
in_row {u = u} {v = v} x y =
    let d = x.described in record {
      chars = x.chars ++ y.chars;
      are = characters-append u v x.chars y.chars x.are y.are;
      described = (d.0, d.1 ++ y.chars, ap (λ (s : List ℕ). s ++ y.chars) d.2 ∙ append_assoc d.0 d.1 y.chars, d.3, described_append d.4 y.described);
    }

-- a piece in front of a row of such pieces
in_rows : {g h : Grammar ℕ} {s : Bytes} → In (g then (h then many (g then h))) s → In (many (g then h)) s
in_rows x =
    let d = x.described in record {
      chars = x.chars;
      are = x.are;
      described = more (d.0 ++ d.4.0) d.4.1 (d.2 ∙ (ap (λ (s : List ℕ). d.0 ++ s) d.4.2 ∙ sym (append_assoc d.0 d.4.0 d.4.1))) (d.0, d.4.0, refl, d.3, d.4.3) d.4.4;
    }

module _ {g h : Grammar ℕ} where
  lowers_alone : {k : Grammar ℕ} → Lowers g h → Lowers g (h then many k)
  lowers_alone f = record { lowered = λ v d. rw (← append-nil (map lower v)) (f.lowered v d before in_none) }

  lowers_follow : {k l : Grammar ℕ} → Lowers g (h then many k) → Lowers l (many k) → Lowers (g then l) (h then many k)
  lowers_follow f f' = record { lowered = λ v d. rw (d.2, map-append) (in_row (f.lowered d.0 d.3) (f'.lowered d.1 d.4)) }

hyphen : Lowers (word "-") (text "-")
unfolding G.all is_ascii
hyphen = lowers_word "-" refl refl

-- a hyphen and words
hyphens : {g : Grammar ℕ} → Lowers g (some alphanum then Words) → Lowers (word "-" then g) Words
hyphens f = record { lowered = λ v d. in_rows ((lowers_then hyphen f).lowered v d) }

one_word : {g : Grammar ℕ} → Lowers g (some alphanum) → Lowers (word "-" then g) Words
one_word f = hyphens (lowers_alone f)

extlang : Lowers L.extlang (some alphanum then Words)
unfolding L.extlang
extlang = lowers_then (some-times 2 alpha) (lowers_at_most 2 (one_word (some-times 2 alpha)))

language : Lowers L.language (some ALPHA then Words)
unfolding L.language
language =
    lowers_or (lowers_then (some_to 1 3 alpha_alpha) (lowers_optional (hyphens extlang)))
    (lowers_or (lowers_alone (some-times 3 alpha_alpha)) (lowers_alone (some_to 4 8 alpha_alpha)))

region : Lowers L.region (some alphanum)
unfolding L.region
region = lowers_or (some-times 1 alpha) (some-times 2 digit)

variant : Lowers L.variant (some alphanum)
unfolding L.variant
variant = lowers_or (some_to 4 8 either) (lowers_some digit (lowers_times 3 either))

singleton : Lowers L.singleton (some alphanum)
unfolding L.singleton some byte
singleton = lowers_alone (lowers_or digit (lowers_class λ c h. or_left (between 97 122 (lower c)) (between 48 57 c)
    (elim (or_cases (between 97 119 (lower c)) (between 121 122 (lower c)) h) [
      | inl e ↦ between_wider 97 122 97 119 (lower c) (omega arith) (omega arith) e
      | inr e ↦ between_wider 97 122 121 122 (lower c) (omega arith) (omega arith) e
    ])))

extension : Lowers L.extension (some alphanum then Words)
unfolding L.extension
extension = lowers_then singleton (lowers_row (one_word (some_to 1 8 either)) (lowers_many (one_word (some_to 1 8 either))))

-- the words of a private use tag
private-words : Lowers ((word "-" then ◌to◌ 1 8 alphanum) then many (word "-" then ◌to◌ 1 8 alphanum)) Words
private-words = lowers_row (one_word (some_to 0 8 either)) (lowers_many (one_word (some_to 0 8 either)))

private-later : Lowers L.privateuse (some alphanum then Words)
unfolding L.privateuse G.all is_ascii
private-later = lowers_then (lowers_word "x" refl refl) private-words

private_first : Lowers L.privateuse (some ALPHA then Words)
unfolding L.privateuse G.all is_ascii
private_first = lowers_then (lowers_word "x" refl refl) private-words

langtag : Lowers L.langtag (some ALPHA then Words)
unfolding L.langtag L.script
langtag =
    lowers_follow language (lowers_row (lowers_optional (one_word (some-times 3 alpha))) (lowers_row (lowers_optional (one_word region))
    (lowers_row (lowers_many (one_word variant)) (lowers_row (lowers_many (hyphens extension)) (lowers_optional (hyphens private-later))))))

-- one more of the registered tags that no rule makes
also : {g h : Grammar ℕ} (w : String) → every is_ascii (ascii w) ≡ true → accepts h (ascii w) ≡ true → Lowers g h → Lowers (word w or g) h
also w a e f = lowers_or (lowers_word w a e) f

irregular : Lowers L.irregular (some ALPHA then Words)
unfolding L.irregular G.all is_ascii
irregular =
    also "en-gb-oed" refl refl (also "i-ami" refl refl (also "i-bnn" refl refl (also "i-default" refl refl (
    also "i-enochian" refl refl (also "i-hak" refl refl (also "i-klingon" refl refl (also "i-lux" refl refl (
    also "i-mingo" refl refl (also "i-navajo" refl refl (also "i-pwn" refl refl (also "i-tao" refl refl (
    also "i-tay" refl refl (also "i-tsu" refl refl (also "sgn-be-fr" refl refl (also "sgn-be-nl" refl refl (
    lowers_word "sgn-ch-de" refl refl))))))))))))))))

regular : Lowers L.regular (some ALPHA then Words)
unfolding L.regular G.all is_ascii
regular =
    also "art-lojban" refl refl (also "cel-gaulish" refl refl (also "no-bok" refl refl (also "no-nyn" refl refl (
    also "zh-guoyu" refl refl (also "zh-hakka" refl refl (also "zh-min" refl refl (also "zh-min-nan" refl refl (
    lowers_word "zh-xiang" refl refl))))))))

any-tag : Lowers language_tag (some ALPHA then Words)
unfolding language_tag
any-tag = lowers_or langtag (lowers_or private_first (lowers_or irregular regular))

-- a good xml:lang, lowercased, written `@` and the tag, is a LANGTAG
pub tag_in_grammar : (v : Bytes) → is_language_tag v ≡ true → In LANGTAG (ascii "@" ++ map lower v)
unfolding is_language_tag LANGTAG ascii text every is_ascii
tag_in_grammar v h = in_text (ascii "@") refl before any-tag.lowered v (accepts_sound language_tag v h)
