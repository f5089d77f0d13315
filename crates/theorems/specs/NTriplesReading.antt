-- Reading what is written gives back the triples.
use Rattle.std.specs.Prelude.{◌≡◌, Bool, true, false, eqb, ltb, length}
use Rattle.std.proofs.Math.Path.{refl}
use Rattle.std.proofs.Common.{◌∙◌, ap, true≢false, arith, length-append, eqb-true, le-leb, ltb-true, ltb-false, lt-ltb}
use Rattle.std.proofs.Math.Option.{Option, none, some}
use mathlib.Core.List.{List, [], ◌∷◌, ◌++◌, append_assoc}
use Prim.Native.Nat.{ℕ, zero, suc, ◌+◌, ◌*◌, ◌/◌, ◌%◌, ◌≤◌, ◌<◌}
use Prim.Native.String.{String}
use Rattle.std.proofs.lemmas.Bool.{lt-leb}
use Rattle.spec.specs.Bytes.{Bytes, ascii, byte, when◌then◌else◌, among, All}
use Rattle.spec.specs.Bytes as B
use Rattle.spec.specs.Grammar.{Grammar, accepts}
use Rattle.spec.specs.Utf8.{is_scalar, holds_of, as_characters}
use Rattle.spec.specs.NTriples.{Subject, named, blank, Term, node, plain, tagged, typed, Triple, triple, coded, literal_byte, hex_digit, forbidden, iri_byte, write_iri, write_subject, quoted, write_term, line, write}
use Rattle.spec.specs.NTriplesGrammar.{is_n_triples}
use Rattle.spec.specs.NTriplesGrammar as G
use Rattle.spec.specs.declared.Mode.{Mode}
use Rattle.spec.specs.Document.{fresh}
use Rattle.spec.specs.Lists.{After}
use Rattle.spec.specs.Calls.{State, is_open, is_closed, unlawful}
use Rattle.spec.specs.NTriplesReading.{Reader, ◌or◌, up_to, many, one, longest, terminal, HEX, UCHAR, ECHAR, IRIREF, BLANK_NODE_LABEL, LANGTAG, STRING_LITERAL_QUOTE, WS, ntriples_doc}
use Rattle.spec.specs.NTriplesReading as R
use Rattle.theorems.specs.Utf8.{Text, decoded_text}
use Rattle.theorems.specs.Spelled.{In, accepted, avoids, left_out}
use Rattle.theorems.specs.Calls.{Steps, Holds}
use Rattle.theorems.specs.NTriplesLines.{forbidden-below, is_iri_char, allowed, is_literal_char, plain_char, plain_byte, SpelledSubject, SpelledTerm, SpelledLines, lines_in_grammar}
use Rattle.theorems.specs.NTriplesGrammar.{LabelSubject, LabelTerm, LabelTriple, GoodBase, all_spelled}

-- ---- reading from the front

or_first : {A : Type 0} (p q : Reader A) (s : Bytes) {r : A × Bytes} → p s ≡ some r → (p or q) s ≡ some r
unfolding ◌or◌
or_first p q s h = rw (h, ◌or◌)

or_second : {A : Type 0} (p q : Reader A) (s : Bytes) → p s ≡ none → (p or q) s ≡ q s
unfolding ◌or◌
or_second p q s h = rw (h, ◌or◌)

one_back : (p : ℕ → Bool) (c : ℕ) (s : Bytes) → p c ≡ true → one p (c ∷ s) ≡ some (c ∷ [], s)
unfolding one when◌then◌else◌
one_back p c s h = rw h

-- ---- a text written byte by byte

module _ (w : ℕ → Bytes) (p : Reader Bytes) (back : (c : ℕ) (s : Bytes) → p (w c ++ s) ≡ some (c ∷ [], s)) (b : ℕ) (stops : (s : Bytes) → p (b ∷ s) ≡ none) where
  up_to_coded : (n : ℕ) (u s : Bytes) → length u ≤ n → up_to n p (coded w u ++ (b ∷ s)) ≡ some (u, b ∷ s)
  unfolding up_to coded R.says R.◌>>=◌
  up_to_coded zero [] s le = refl
  up_to_coded zero (c ∷ u) s le = absurd (omega (arith, le))
  up_to_coded (suc n) [] s le = rw (stops s, up_to)
  up_to_coded (suc n) (c ∷ u) s le = rw (append_assoc (w c) (coded w u) (b ∷ s), back c (coded w u ++ (b ∷ s)), up_to_coded n u s (omega (arith, le)), up_to)

-- ---- IRIs

hex_back : (n : ℕ) → n < 16 → HEX (hex_digit n) ≡ some n
unfolding HEX hex_digit B.all
hex_back n le = go (ltb n 10) refl
  where
    go : (b : Bool) → ltb n 10 ≡ b → HEX (when b then 48 + n else 55 + n) ≡ some n
    go true e =
        let lt : n < 10 = ltb-true n 10 e in
        simp (le-leb 48 (48 + n) (omega arith), le-leb (48 + n) 57 (omega arith)) (ap some (omega arith))
    go false e =
        let ge : 10 ≤ n = ltb-false n 10 e in
        simp (le-leb 48 (55 + n) (omega arith), lt-leb (55 + n) 57 (omega arith), le-leb 65 (55 + n) (omega arith), le-leb (55 + n) 70 (omega arith)) (ap some (omega arith))

scalar_below : (c : ℕ) → c < 128 → is_scalar c ≡ true
unfolding is_scalar
scalar_below c lt = rw (le-leb c 0xD7FF (omega arith))

-- a byte below 128 as `\u` and four digits
digits_back : (c : ℕ) (s : Bytes) → c < 128 → R.digits 4 0 (48 ∷ 48 ∷ hex_digit (c / 16) ∷ hex_digit (c % 16) ∷ s) ≡ some (c, s)
unfolding R.digits R.◌>>=◌ HEX B.all
digits_back c s lt =
    let is : 16 * (0 + c / 16) + c % 16 ≡ c = omega arith in
    rw (hex_back (c / 16) (omega arith), hex_back (c % 16) (omega arith)) (ap (λ (n : ℕ). some (n, s)) is)

uchar_back : (c : ℕ) (s : Bytes) → c < 128 → UCHAR (92 ∷ 117 ∷ 48 ∷ 48 ∷ hex_digit (c / 16) ∷ hex_digit (c % 16) ∷ s) ≡ some (c ∷ [], s)
unfolding UCHAR R.character R.◌then◌ R.text R.◌>>=◌ R.utf8 B.all
uchar_back c s lt =
    or_first (R.character (R.◌then◌ (R.text "\\u") (R.digits 4 0))) _ _ (rw (digits_back c s lt, scalar_below c lt, lt-ltb c 128 lt))

abbrev iri_piece : Reader Bytes
iri_piece = one is_iri_char or UCHAR

iri_back : (c : ℕ) (s : Bytes) → iri_piece (iri_byte c ++ s) ≡ some (c ∷ [], s)
unfolding iri_byte one B.all
iri_back c s = go (forbidden c) refl
  where
    go : (b : Bool) → forbidden c ≡ b → iri_piece ((when b then ascii "\\u00" ++ (hex_digit (c / 16) ∷ hex_digit (c % 16) ∷ []) else c ∷ []) ++ s) ≡ some (c ∷ [], s)
    go true e = or_second (one is_iri_char) UCHAR _ refl ∙ uchar_back c s (forbidden-below c e)
    go false e = or_first (one is_iri_char) UCHAR (c ∷ s) (one_back is_iri_char c s (allowed c e))

iri_end : (s : Bytes) → iri_piece (62 ∷ s) ≡ none
unfolding R.all
iri_end s = refl

many_back : (w : ℕ → Bytes) (p : Reader Bytes) → ((c : ℕ) (s : Bytes) → p (w c ++ s) ≡ some (c ∷ [], s)) → (b : ℕ) → ((s : Bytes) → p (b ∷ s) ≡ none) → ((c : ℕ) → 1 ≤ length (w c))
    → (u s : Bytes) → many p (coded w u ++ (b ∷ s)) ≡ some (u, b ∷ s)
unfolding many coded
many_back w p back b stops long u s = up_to_coded w p back b stops (length (coded w u ++ (b ∷ s))) u s (omega (arith, size u, length-append (coded w u) (b ∷ s)))
  where
    size : (u : Bytes) → length u ≤ length (coded w u)
    size [] = omega arith
    size (c ∷ u) = omega (arith, size u, long c, length-append (w c) (coded w u))

iri_long : (c : ℕ) → 1 ≤ length (iri_byte c)
unfolding iri_byte ascii when◌then◌else◌
iri_long c = go (forbidden c)
  where
    go : (b : Bool) → 1 ≤ length (when b then ascii "\\u00" ++ (hex_digit (c / 16) ∷ hex_digit (c % 16) ∷ []) else c ∷ [])
    go true = omega arith
    go false = omega arith

iri_read : (i s : Bytes) → IRIREF (write_iri i ++ s) ≡ some (i, s)
unfolding IRIREF write_iri R.◌then◌ R.◌followedBy◌ R.◌>>=◌ R.text B.all
iri_read i s = rw (append_assoc (coded iri_byte i) (62 ∷ []) s, many_back iri_byte _ iri_back 62 iri_end iri_long i s)

-- ---- literals

abbrev literal_piece : Reader Bytes
literal_piece = one is_literal_char or ECHAR or UCHAR

literal_back : (c : ℕ) (s : Bytes) → literal_piece (literal_byte c ++ s) ≡ some (c ∷ [], s)
unfolding R.all literal_byte
literal_back c s = go (eqb c 34) (eqb c 92) (eqb c 10) (eqb c 13) refl refl refl refl
  where
    go : (p q m n : Bool) → eqb c 34 ≡ p → eqb c 92 ≡ q → eqb c 10 ≡ m → eqb c 13 ≡ n → literal_piece (literal_byte c ++ s) ≡ some (c ∷ [], s)
    go true q m n e f g h = rw (eqb-true c 34 e)
    go false true m n e f g h = rw (eqb-true c 92 f)
    go false false true n e f g h = rw (eqb-true c 10 g)
    go false false false true e f g h = rw (eqb-true c 13 h)
    go false false false false e f g h = rw (plain_byte c (e, f, g, h)) (or_first (one is_literal_char) (ECHAR or UCHAR) (c ∷ s) (one_back is_literal_char c s (plain_char c (e, f, g, h))))

literal_end : (s : Bytes) → literal_piece (34 ∷ s) ≡ none
unfolding R.all
literal_end s = refl

literal-long : (c : ℕ) → 1 ≤ length (literal_byte c)
unfolding literal_byte B.all
literal-long c = go (eqb c 34) (eqb c 92) (eqb c 10) (eqb c 13)
  where
    go : (p q m n : Bool) → 1 ≤ length (when p then ascii "\\\"" else when q then ascii "\\\\" else when m then ascii "\\n" else when n then ascii "\\r" else c ∷ [])
    go true q m n = omega arith
    go false true m n = omega arith
    go false false true n = omega arith
    go false false false true = omega arith
    go false false false false = omega arith

string_read : (v s : Bytes) → STRING_LITERAL_QUOTE (quoted v ++ s) ≡ some (v, s)
unfolding STRING_LITERAL_QUOTE quoted R.◌then◌ R.◌followedBy◌ R.◌>>=◌ R.text B.all
string_read v s = rw (append_assoc (coded literal_byte v) (34 ∷ []) s, many_back literal_byte literal_piece literal_back 34 literal_end literal-long v s)

-- ---- labels and tags: the longest beginning

longest_none : (p : Bytes → Bool) (s : Bytes) → ((v : Bytes) → p v ≡ false) → longest p s ≡ none
unfolding longest when◌then◌else◌
longest_none p [] h = rw (h [])
longest_none p (c ∷ s) h = rw (longest_none (λ u. p (c ∷ u)) s (λ v. h (c ∷ v)), h [], longest)

longest_back : (p : Bytes → Bool) (u : Bytes) (b : ℕ) (s : Bytes) → p u ≡ true → ((v : Bytes) → p (u ++ (b ∷ v)) ≡ false) → longest p (u ++ (b ∷ s)) ≡ some (u, b ∷ s)
unfolding longest when◌then◌else◌
longest_back p [] b s h k = rw (longest_none (λ u. p (b ∷ u)) s k, h, longest)
longest_back p (c ∷ u) b s h k = rw (longest_back (λ u. p (c ∷ u)) u b s h k, longest)

after_mark : (m l : Bytes) → B.after m (m ++ l) ≡ l
unfolding B.after
after_mark [] l = refl
after_mark (c ∷ m) l = after_mark m l

terminal_back : (g : Grammar ℕ) (mark : String) (b : ℕ) → b < 128 → avoids b g ≡ true → (l s : Bytes) → In g (ascii mark ++ l)
    → terminal g mark (ascii mark ++ (l ++ (b ∷ s))) ≡ some (l, b ∷ s)
unfolding terminal R.says R.◌>>=◌
terminal_back g mark b lt a l s h =
    rw (← append_assoc (ascii mark) l (b ∷ s), longest_back (as_characters (accepts g)) (ascii mark ++ l) b s (accepted h) (left_out g b lt a (ascii mark ++ l)), after_mark (ascii mark) l)

terminal_none : (g : Grammar ℕ) (mark : String) (b : ℕ) → b < 128 → avoids b g ≡ true → as_characters (accepts g) [] ≡ false → (s : Bytes) → terminal g mark (b ∷ s) ≡ none
unfolding terminal R.says R.◌>>=◌ longest when◌then◌else◌
terminal_none g mark b lt a h s =
    rw (longest_none (λ u. as_characters (accepts g) (b ∷ u)) s (left_out g b lt a []), h, longest)

label_read : (l s : Bytes) → In G.BLANK_NODE_LABEL (ascii "_:" ++ l) → BLANK_NODE_LABEL (ascii "_:" ++ (l ++ (32 ∷ s))) ≡ some (l, 32 ∷ s)
unfolding BLANK_NODE_LABEL avoids G.all
label_read l s h = terminal_back G.BLANK_NODE_LABEL "_:" 32 (omega arith) refl l s h

no_label : (s : Bytes) → BLANK_NODE_LABEL (34 ∷ s) ≡ none
unfolding BLANK_NODE_LABEL avoids G.all
no_label s = terminal_none G.BLANK_NODE_LABEL "_:" 34 (omega arith) refl refl s

tag_read : (l s : Bytes) → In G.LANGTAG (ascii "@" ++ l) → LANGTAG (ascii "@" ++ (l ++ (32 ∷ s))) ≡ some (l, 32 ∷ s)
unfolding LANGTAG avoids G.all
tag_read l s h = terminal_back G.LANGTAG "@" 32 (omega arith) refl l s h

no_tag : (s : Bytes) → LANGTAG (46 ∷ s) ≡ none
unfolding LANGTAG avoids G.all
no_tag s = terminal_none G.LANGTAG "@" 46 (omega arith) refl refl s

-- ---- terms

subject_read : (x : Subject) (s : Bytes) → LabelSubject x → R.subject (write_subject x ++ (32 ∷ s)) ≡ some (x, 32 ∷ s)
unfolding R.subject R.says R.◌>>=◌ IRIREF R.◌then◌ R.text write_subject B.all
subject_read (named i) s h = or_first (R.says named IRIREF) _ _ (rw (iri_read i (32 ∷ s)))
subject_read (blank l) s h = or_second (R.says named IRIREF) _ _ refl ∙ rw (label_read l s h)

-- what is no subject begins with a quote
no_subject : (s : Bytes) → R.says node R.subject (34 ∷ s) ≡ none
unfolding R.subject R.says R.◌>>=◌ R.◌or◌ IRIREF R.◌then◌ R.text B.all
no_subject s = rw (no_label s, ◌or◌)

-- what may follow a literal's text
abbrev as_typed : Bytes → Reader Term
as_typed v = R.says (typed v) (R.◌then◌ WS (R.◌then◌ (R.text "^^") (R.◌then◌ WS IRIREF)))

abbrev as_tagged : Bytes → Reader Term
as_tagged v = R.says (tagged v) (R.◌then◌ WS LANGTAG)

abbrev as_plain : Bytes → Reader Term
as_plain v s = some (plain v, s)

no_space : (c : ℕ) (s : Bytes) → among (ascii " \t") c ≡ false → WS (c ∷ s) ≡ some ([], c ∷ s)
unfolding WS many up_to one when◌then◌else◌
no_space c s h = rw (h, up_to)

before_iri : (i s : Bytes) → WS (write_iri i ++ s) ≡ some ([], write_iri i ++ s)
unfolding write_iri byte among ascii
before_iri i s = no_space 60 _ refl

literal_read : (v s : Bytes) → R.object (quoted v ++ s) ≡ (as_typed v or as_tagged v or as_plain v) s
unfolding R.object R.literal R.◌>>=◌ quoted byte
literal_read v s = or_second (R.says node R.subject) R.literal (quoted v ++ s) (no_subject _) ∙ rw (string_read v s)

typed_read : (v d s : Bytes) → as_typed v (94 ∷ 94 ∷ (write_iri d ++ s)) ≡ some (typed v d, s)
unfolding R.says R.◌>>=◌ R.◌then◌ R.text B.all
typed_read v d s = rw (no_space 94 (94 ∷ (write_iri d ++ s)) refl, before_iri d s, iri_read d s)

object_read : (o : Term) (s : Bytes) → LabelTerm o → R.object (write_term o ++ (32 ∷ 46 ∷ s)) ≡ some (o, 32 ∷ 46 ∷ s)
unfolding R.object write_term R.says R.◌>>=◌ R.◌then◌ WS many up_to one R.text B.all
object_read (node x) s h = or_first (R.says node R.subject) R.literal _ (rw (subject_read x (46 ∷ s) h))
object_read (plain v) s h =
    literal_read v (32 ∷ 46 ∷ s) ∙ (or_second (as_typed v) (as_tagged v or as_plain v) (32 ∷ 46 ∷ s) refl
    ∙ or_second (as_tagged v) (as_plain v) (32 ∷ 46 ∷ s) (rw (no_tag s)))
object_read (tagged v l) s h =
    rw (append_assoc (quoted v) (64 ∷ l) (32 ∷ 46 ∷ s))
    (literal_read v (64 ∷ (l ++ (32 ∷ 46 ∷ s))) ∙ (or_second (as_typed v) (as_tagged v or as_plain v) (64 ∷ (l ++ (32 ∷ 46 ∷ s))) refl
    ∙ or_first (as_tagged v) (as_plain v) (64 ∷ (l ++ (32 ∷ 46 ∷ s))) (rw (tag_read l (46 ∷ s) h))))
object_read (typed v d) s h =
    rw (append_assoc (quoted v) (94 ∷ 94 ∷ write_iri d) (32 ∷ 46 ∷ s))
    (literal_read v (94 ∷ 94 ∷ (write_iri d ++ (32 ∷ 46 ∷ s))) ∙ or_first (as_typed v) (as_tagged v or as_plain v) _ (typed_read v d (32 ∷ 46 ∷ s)))

-- ---- lines

before_subject : (x : Subject) (s : Bytes) → WS (write_subject x ++ s) ≡ some ([], write_subject x ++ s)
unfolding write_subject ascii among
before_subject (named i) s = before_iri i s
before_subject (blank l) s = no_space 95 (58 ∷ (l ++ s)) refl

before_term : (o : Term) (s : Bytes) → WS (write_term o ++ s) ≡ some ([], write_term o ++ s)
unfolding write_term quoted byte ascii among
before_term (node x) s = before_subject x s
before_term (plain v) s = no_space 34 _ refl
before_term (tagged v l) s = no_space 34 _ refl
before_term (typed v d) s = no_space 34 _ refl

a_space : (s : Bytes) → WS s ≡ some ([], s) → WS (32 ∷ s) ≡ some (32 ∷ [], s)
unfolding WS many up_to one R.says R.◌>>=◌ B.all
a_space s h = rw h

triple_read : (x : Subject) (p : Bytes) (o : Term) (s : Bytes) → LabelSubject x → LabelTerm o
    → R.triple (write_subject x ++ (32 ∷ (write_iri p ++ (32 ∷ (write_term o ++ (32 ∷ 46 ∷ s)))))) ≡ some (triple x p o, s)
unfolding R.triple R.predicate R.◌then◌ R.◌followedBy◌ R.◌>>=◌ R.text B.all
triple_read x p o s h k =
    rw (
      before_subject x (32 ∷ (write_iri p ++ (32 ∷ (write_term o ++ (32 ∷ 46 ∷ s))))),
      subject_read x (write_iri p ++ (32 ∷ (write_term o ++ (32 ∷ 46 ∷ s)))) h,
      a_space (write_iri p ++ (32 ∷ (write_term o ++ (32 ∷ 46 ∷ s)))) (before_iri p _),
      iri_read p (32 ∷ (write_term o ++ (32 ∷ 46 ∷ s))),
      a_space (write_term o ++ (32 ∷ 46 ∷ s)) (before_term o _),
      object_read o s k,
      a_space (46 ∷ s) (no_space 46 s refl),
    )

line-shape : (x : Subject) (p : Bytes) (o : Term) (w : Bytes)
    → line (triple x p o) ++ w ≡ write_subject x ++ (32 ∷ (write_iri p ++ (32 ∷ (write_term o ++ (32 ∷ 46 ∷ 10 ∷ w)))))
unfolding line ascii
line-shape x p o w = simp append_assoc

-- A written line says its triple, whatever follows it.
pub line-reads_back : (t : Triple) (s : Bytes) → LabelTriple t → R.line (line t ++ s) ≡ some (some t, s)
unfolding R.line R.optional R.says R.◌then◌ R.◌followedBy◌ R.◌>>=◌ R.◌or◌ R.EOL R.comment R.text B.all
line-reads_back (triple x p o) s (h, k) =
    rw (line-shape x p o s, triple_read x p o (10 ∷ s) h k, no_space 10 s refl, ◌or◌) refl

-- ---- texts of lines

not_empty : (u v : Bytes) (a : ℕ) → B.is_empty (u ++ (a ∷ v)) ≡ false
unfolding B.is_empty
not_empty [] v a = refl
not_empty (b ∷ u) v a = refl

line_not_empty : (t : Triple) (s : Bytes) → B.is_empty (line t ++ s) ≡ false
line_not_empty (triple x p o) s = rw (line-shape x p o s) (not_empty (write_subject x) (write_iri p ++ (32 ∷ (write_term o ++ (32 ∷ 46 ∷ 10 ∷ s)))) 32)

pub lines_back : (n : ℕ) (ts : List Triple) → length ts ≤ n → All LabelTriple ts → R.lines n (write ts) ≡ some ts
unfolding R.lines R.◌>>=◌ R.in_front write B.is_empty when◌then◌else◌
lines_back zero [] le h = refl
lines_back (suc n) [] le h = refl
lines_back zero (t ∷ ts) le h = absurd (omega (arith, le))
lines_back (suc n) (t ∷ ts) le h = rw (line_not_empty t (write ts), line-reads_back t (write ts) h.0, lines_back n ts (omega (arith, le)) h.1) refl

-- no more lines than bytes
long : (s : Bytes) → B.is_empty s ≡ false → 1 ≤ length s
unfolding B.is_empty
long [] h = absurd (true≢false h)
long (c ∷ s) h = omega arith

write-long : (ts : List Triple) → length ts ≤ length (write ts)
unfolding write
write-long [] = omega arith
write-long (t ∷ ts) = omega (arith, write-long ts, long (line t ++ []) (line_not_empty t []), length-append (line t) (write ts), length-append (line t) [])

label-subject : (x : Subject) → SpelledSubject x → LabelSubject x
label-subject (named i) h = tt
label-subject (blank l) h = h

label_term : (o : Term) → SpelledTerm o → LabelTerm o
label_term (node x) h = label-subject x h
label_term (plain v) h = tt
label_term (tagged v l) h = h.1
label_term (typed v d) h = tt

spelled_labels : (ts : List Triple) → SpelledLines ts → All LabelTriple ts
spelled_labels [] h = tt
spelled_labels (triple x p o ∷ ts) h = ((label-subject x h.0, label_term o h.2), spelled_labels ts h.3)

text_test : (s : Bytes) → Text s → as_characters (λ cs. true) s ≡ true
unfolding as_characters holds_of
text_test s t = rw t.are

-- Lines that can be written say their triples, in order.
pub lines_read_back : (ts : List Triple) → SpelledLines ts → ntriples_doc (write ts) ≡ some ts
unfolding ntriples_doc when◌then◌else◌ is_n_triples
lines_read_back ts h =
    rw (text_test (write ts) (decoded_text (accepts G.ntriples_doc) (write ts) (lines_in_grammar ts h)), lines_back (length (write ts)) ts (write-long ts) (spelled_labels ts h))

-- Whatever bytes the steps of a document are given, in whatever pieces and with whatever output room, and whether or not one of them
-- is refused: reading all that they have written gives back the triples of its accepted events.
pub all_reads_back : (m : Mode) (b : Option Bytes) (t : State) (w : Bytes) → GoodBase b → Steps m b t w → Holds (λ d ts. After (fresh m b) d ts × (ntriples_doc w ≡ some ts)) t w
all_reads_back m b t w g h = go t (all_spelled m b t w g h)
  where
    go : (t : State) → Holds (λ d ts. After (fresh m b) d ts × SpelledLines ts) t w → Holds (λ d ts. After (fresh m b) d ts × (ntriples_doc w ≡ some ts)) t w
    go (is_open d) (ts, k, e) = (ts, (k.0, ap ntriples_doc e ∙ lines_read_back ts k.1), e)
    go (is_closed d) (ts, k, e) = (ts, (k.0, ap ntriples_doc e ∙ lines_read_back ts k.1), e)
    go unlawful k = absurd k
