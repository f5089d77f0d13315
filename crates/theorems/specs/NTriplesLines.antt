-- The lines of triples whose IRIs and values are texts, and whose labels and tags are of its grammar, are a document of N-Triples.
use Rattle.std.specs.Prelude.{◌≡◌, refl, Bool, true, false, ◌&&◌, ◌||◌, not, List, [], ◌∷◌, ◌++◌, ℕ, ◌+◌, ◌/◌, ◌%◌, ◌≤◌, ◌<◌, eqb, leb, ltb}
use Rattle.std.proofs.Common.{sym, ◌∙◌, ap, subst, inl, inr, append_assoc, append-nil, arith, eqb-true, ne_eqb, le-leb, leb-true, ltb-true, ltb-false, lt-ltb}
use Rattle.std.proofs.lemmas.Bool.{false≢true, eqb-false}
use Rattle.spec.specs.Bytes.{Bytes, ascii, byte, when◌then◌else◌, between, among, every}
use Rattle.spec.specs.Bytes as B
use Rattle.spec.specs.Grammar.{Grammar, one, ◌or◌, ◌then◌, many, more, accepts}
use Rattle.spec.specs.Abnf.{lower, HEXDIG, optional, times}
use Rattle.spec.specs.NTriples.{Subject, named, blank, Term, node, plain, tagged, typed, Triple, literal_byte, hex_digit, forbidden, iri_byte, write_iri, write_subject, quoted, write_term, line, write}
use Rattle.spec.specs.NTriples as N
use Rattle.spec.specs.NTriplesGrammar.{HEX, UCHAR, ECHAR, IRIREF, BLANK_NODE_LABEL, LANGTAG, STRING_LITERAL_QUOTE, literal, subject, object, WS, triple, EOL, ntriples_doc, is_n_triples, text}
use Rattle.spec.specs.NTriplesGrammar as G
use Rattle.spec.proofs.Booleans.{and_left, and_right, and_both, or_left, or_right_lem, or_cases}
use Rattle.theorems.specs.Grammar.{accepts_sound}
use Rattle.theorems.specs.Utf8.{is_ascii, Text, characters-append}
use Rattle.theorems.specs.Spelled.{In, accepted, in_ascii, in_left, in_right, ◌before◌, in_none, in_one, in_text, in_coded}

-- what the test accepts, of bytes below 128
in_word : (g : Grammar ℕ) (s : Bytes) → every is_ascii s ≡ true → accepts g s ≡ true → In g s
in_word g s h e = in_ascii s h (accepts_sound g s e)

-- ---- IRIs

among_below : (n : ℕ) (l : Bytes) (c : ℕ) → every (λ x. ltb x n) l ≡ true → among l c ≡ true → c < n
unfolding every among
among_below n [] c h k = absurd (false≢true k)
among_below n (a ∷ l) c h k = elim (or_cases (eqb a c) (among l c) k) [
  | inl e ↦ omega (arith, eqb-true a c e, ltb-true a n (and_left (ltb a n) (every (λ x. ltb x n) l) h))
  | inr e ↦ among_below n l c (and_right (ltb a n) (every (λ x. ltb x n) l) h) e
]

pub forbidden-below : (c : ℕ) → forbidden c ≡ true → c < 128
unfolding forbidden B.all
forbidden-below c h = elim (or_cases (leb c 32) (among (ascii "<>\"{}|^`\\") c) h) [
  | inl e ↦ omega (arith, leb-true c 32 e)
  | inr e ↦ among_below 128 (ascii "<>\"{}|^`\\") c refl e
]

-- a character of an IRI, as it is
abbrev pub is_iri_char : ℕ → Bool
is_iri_char c = not (between 0 0x20 c || among (ascii "<>\"{}|^`\\") c)

pub allowed : (c : ℕ) → forbidden c ≡ false → is_iri_char c ≡ true
unfolding forbidden between
allowed c h = rw (le-leb 0 c (omega arith), h)

not_forbidden : (c : ℕ) → 128 ≤ c → forbidden c ≡ false
not_forbidden c le = go (forbidden c) refl
  where
    go : (b : Bool) → forbidden c ≡ b → b ≡ false
    go true e = let lt : c < 128 = forbidden-below c e in absurd (omega arith)
    go false e = refl

lower-letter : (c : ℕ) → 65 ≤ c → c ≤ 90 → lower c ≡ 32 + c
unfolding lower B.all
lower-letter c p q = simp (le-leb 65 c p, le-leb c 90 q)

in_hex : (n : ℕ) → n < 16 → In HEX (hex_digit n ∷ [])
unfolding HEX HEXDIG hex_digit is_ascii B.all
in_hex n le = go (ltb n 10) refl
  where
    go : (b : Bool) → ltb n 10 ≡ b → In HEX ((when b then 48 + n else 55 + n) ∷ [])
    go true e =
        let lt : n < 10 = ltb-true n 10 e in
        in_one _ (48 + n) (lt-ltb (48 + n) 128 (omega arith)) (or_left _ _ (and_both _ _ (le-leb 48 (48 + n) (omega arith)) (le-leb (48 + n) 57 (omega arith))))
    go false e =
        let ge : 10 ≤ n = ltb-false n 10 e in
        in_one _ (55 + n) (lt-ltb (55 + n) 128 (omega arith)) (or_right_lem (leb 48 (55 + n) && leb (55 + n) 57) _ (simp (lower-letter (55 + n) (omega arith) (omega arith))
        (and_both _ _ (le-leb 97 (32 + (55 + n)) (omega arith)) (le-leb (32 + (55 + n)) 102 (omega arith)))))

abbrev iri_piece : Grammar ℕ
iri_piece = one is_iri_char or UCHAR

iri_byte_lem : (b : ℕ) → is_ascii b ≡ true → In iri_piece (iri_byte b)
unfolding iri_byte UCHAR text G.characters ascii times hex_digit when◌then◌else◌ is_ascii every
iri_byte_lem b h = go (forbidden b) refl
  where
    go : (t : Bool) → forbidden b ≡ t → In iri_piece (when t then ascii "\\u00" ++ (hex_digit (b / 16) ∷ hex_digit (b % 16) ∷ []) else b ∷ [])
    go true e =
        let lt : b < 128 = forbidden-below b e in
        in_right (in_left (in_text (ascii "\\u") refl before in_hex 0 (omega arith) before in_hex 0 (omega arith) before in_hex (b / 16) (omega arith) before in_hex (b % 16) (omega arith) before in_ascii [] refl refl))
    go false e = in_left (in_one is_iri_char b h (allowed b e))

iri_high : (b : ℕ) → 128 ≤ b → iri_byte b ≡ b ∷ []
unfolding iri_byte when◌then◌else◌
iri_high b le = rw (not_forbidden b le)

in_iri : (i : Bytes) → Text i → In IRIREF (write_iri i)
unfolding IRIREF write_iri text G.characters ascii byte every is_ascii
in_iri i t =
    in_text (ascii "<") refl before
    in_coded iri_byte iri_piece iri_byte_lem iri_high (λ c le. inl (c, refl, allowed c (not_forbidden c le))) i t before
    in_text (ascii ">") refl

-- ---- literals

-- a character of a literal, as it is
abbrev pub is_literal_char : ℕ → Bool
is_literal_char c = not (among (ascii "\"\\\n\r") c)

abbrev literal_piece : Grammar ℕ
literal_piece = one is_literal_char or ECHAR or UCHAR

-- none of the four that are escaped
abbrev pub Plain : ℕ → Type 0
Plain c = (eqb c 34 ≡ false) × (eqb c 92 ≡ false) × (eqb c 10 ≡ false) × (eqb c 13 ≡ false)

pub plain_char : (c : ℕ) → Plain c → is_literal_char c ≡ true
unfolding among ascii
plain_char c (p, q, r, s) = rw (flip c 34 p, flip c 92 q, flip c 10 r, flip c 13 s) refl
  where
    flip : (a b : ℕ) → eqb a b ≡ false → eqb b a ≡ false
    flip a b h = ne_eqb b a λ e. eqb-false a b h (sym e)

pub plain_byte : (c : ℕ) → Plain c → literal_byte c ≡ c ∷ []
unfolding literal_byte B.all
plain_byte c (p, q, r, s) = simp (p, q, r, s)

plain_high : (c : ℕ) → 128 ≤ c → Plain c
plain_high c le = (ne_eqb c 34 (λ e. omega arith), ne_eqb c 92 (λ e. omega arith), ne_eqb c 10 (λ e. omega arith), ne_eqb c 13 (λ e. omega arith))

literal-byte : (b : ℕ) → is_ascii b ≡ true → In literal_piece (literal_byte b)
unfolding G.all N.all is_ascii
literal-byte b h = go (eqb b 34) (eqb b 92) (eqb b 10) (eqb b 13) refl refl refl refl
  where
    go : (p q r s : Bool) → eqb b 34 ≡ p → eqb b 92 ≡ q → eqb b 10 ≡ r → eqb b 13 ≡ s → In literal_piece (literal_byte b)
    go true q r s e₁ e₂ e₃ e₄ = rw (eqb-true b 34 e₁) (in_right (in_left (in_word ECHAR (ascii "\\\"") refl refl)))
    go false true r s e₁ e₂ e₃ e₄ = rw (eqb-true b 92 e₂) (in_right (in_left (in_word ECHAR (ascii "\\\\") refl refl)))
    go false false true s e₁ e₂ e₃ e₄ = rw (eqb-true b 10 e₃) (in_right (in_left (in_word ECHAR (ascii "\\n") refl refl)))
    go false false false true e₁ e₂ e₃ e₄ = rw (eqb-true b 13 e₄) (in_right (in_left (in_word ECHAR (ascii "\\r") refl refl)))
    go false false false false e₁ e₂ e₃ e₄ = rw (plain_byte b (e₁, e₂, e₃, e₄)) (in_left (in_one is_literal_char b h (plain_char b (e₁, e₂, e₃, e₄))))

in_quoted : (v : Bytes) → Text v → In STRING_LITERAL_QUOTE (quoted v)
unfolding STRING_LITERAL_QUOTE quoted text G.characters ascii byte every is_ascii
in_quoted v t =
    in_text (ascii "\"") refl before
    in_coded literal_byte literal_piece literal-byte (λ b le. plain_byte b (plain_high b le)) (λ c le. inl (c, refl, plain_char c (plain_high c le))) v t before
    in_text (ascii "\"") refl

-- ---- terms and lines

-- what can be written: IRIs and values are texts, labels and tags are of the grammar
abbrev pub SpelledSubject : Subject → Type 0
SpelledSubject (named i) = Text i
SpelledSubject (blank l) = In BLANK_NODE_LABEL (ascii "_:" ++ l)

abbrev pub SpelledTerm : Term → Type 0
SpelledTerm (node s) = SpelledSubject s
SpelledTerm (plain v) = Text v
SpelledTerm (tagged v l) = Text v × In LANGTAG (ascii "@" ++ l)
SpelledTerm (typed v d) = Text v × Text d

abbrev pub SpelledLines : List Triple → Type 0
SpelledLines [] = Unit {0}
SpelledLines (N.triple s p o ∷ ts) = SpelledSubject s × Text p × SpelledTerm o × SpelledLines ts

pub spelled_append : (ts us : List Triple) → SpelledLines ts → SpelledLines us → SpelledLines (ts ++ us)
spelled_append [] us h k = k
spelled_append (N.triple s p o ∷ ts) us h k = (h.0, h.1, h.2, spelled_append ts us h.3 k)

pub spelled_behind : (ts us : List Triple) → SpelledLines (ts ++ us) → SpelledLines us
spelled_behind [] us h = h
spelled_behind (N.triple s p o ∷ ts) us h = spelled_behind ts us h.3

in_subject : (s : Subject) → SpelledSubject s → In subject (write_subject s)
unfolding subject write_subject
in_subject (named i) h = in_left (in_iri i h)
in_subject (blank l) h = in_right h

in_object : (o : Term) → SpelledTerm o → In object (write_term o)
unfolding object write_term literal optional write_subject text G.characters ascii every is_ascii
in_object (node (named i)) h = in_left (in_iri i h)
in_object (node (blank l)) h = in_right (in_left h)
in_object (plain v) h = in_right (in_right (subst (λ (x : Bytes). In literal x) (append-nil (quoted v)) (in_quoted v h before in_left (in_ascii [] refl refl))))
in_object (tagged v l) h = in_right (in_right (in_quoted v h.0 before in_right (in_right h.1)))
in_object (typed v d) h = in_right (in_right (in_quoted v h.0 before in_right (in_left (in_text (ascii "^^") refl before in_iri d h.1))))

-- a line without its end
body : Subject → Bytes → Term → Bytes
body s p o = write_subject s ++ (ascii " " ++ (write_iri p ++ (ascii " " ++ (write_term o ++ (ascii " " ++ ascii ".")))))

space : In WS (ascii " ")
unfolding G.all is_ascii
space = in_word WS (ascii " ") refl refl

in_triple : (s : Subject) (p : Bytes) (o : Term) → SpelledSubject s → Text p → SpelledTerm o → In triple (body s p o)
unfolding triple body G.predicate WS text ascii every is_ascii
in_triple s p o x y z =
    in_none before in_subject s x before space before in_iri p y before space before in_object o z before space before in_text (ascii ".") refl

line_body : (s : Subject) (p : Bytes) (o : Term) (w : Bytes) → line (N.triple s p o) ++ w ≡ body s p o ++ (ascii "\n" ++ w)
unfolding line body ascii
line_body s p o w = simp append_assoc

-- ---- documents

in_eol : In EOL (ascii "\n")
unfolding G.all is_ascii
in_eol = in_word EOL (ascii "\n") refl refl

-- one more piece in front of a row
in_front_lem : {g h : Grammar ℕ} {u v : Bytes} → In g u → In (many g then h) v → In (many g then h) (u ++ v)
in_front_lem {u = u} {v = v} x y =
    let d = y.described in record {
      chars = x.chars ++ y.chars;
      are = characters-append u v x.chars y.chars x.are y.are;
      described = (x.chars ++ d.0, d.1, ap (λ (s : List ℕ). x.chars ++ s) d.2 ∙ sym (append_assoc x.chars d.0 d.1), more x.chars d.0 refl x.described d.3, d.4);
    }

last_end : In (optional EOL then WS then optional G.comment) (ascii "\n")
unfolding G.all is_ascii
last_end = in_word _ (ascii "\n") refl refl

in_some : {g : Grammar ℕ} {s : Bytes} → In g s → In (optional g) s
unfolding optional
in_some x = in_right x

no_lines : is_n_triples [] ≡ true
unfolding G.all
no_lines = refl

-- what stands behind a line's triple
abbrev Rest : Grammar ℕ
Rest = many (EOL then triple) then optional EOL then WS then optional G.comment

no_more : In Rest (ascii "\n")
no_more = in_none before last_end

one_more_lem : (s : Subject) (p : Bytes) (o : Term) (w : Bytes) → In triple (body s p o) → In Rest (ascii "\n" ++ w) → In Rest (ascii "\n" ++ (line (N.triple s p o) ++ w))
one_more_lem s p o w x y = rw (line_body s p o w, ← append_assoc (ascii "\n") (body s p o) (ascii "\n" ++ w)) (in_front_lem (in_eol before x) y)

in_rest : (ts : List Triple) → SpelledLines ts → In Rest (ascii "\n" ++ write ts)
unfolding write
in_rest [] h = rw (append-nil (ascii "\n")) no_more
in_rest (N.triple s p o ∷ ts) h = one_more_lem s p o (write ts) (in_triple s p o h.0 h.1 h.2) (in_rest ts h.3)

-- the lines of such triples are a document of the grammar
pub lines_in_grammar : (ts : List Triple) → SpelledLines ts → is_n_triples (write ts) ≡ true
unfolding is_n_triples ntriples_doc write
lines_in_grammar [] h = no_lines
lines_in_grammar (N.triple s p o ∷ ts) h =
    rw (line_body s p o (write ts)) (accepted (in_some (in_triple s p o h.0 h.1 h.2) before in_rest ts h.3))
