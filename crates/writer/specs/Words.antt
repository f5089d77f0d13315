-- The words that bytes are written as: which bytes stand for themselves, which an IRI may not hold, and the tests that mark them.
use Rattle.std.specs.Prelude.{ℕ, ◌≤◌, ◌<◌, ◌/◌, ◌%◌, ◌≡◌, refl, Bool, true, false, ◌||◌, ◌&&◌, List, [], ◌∷◌, ◌⊎◌, eqb, leb, length}
use Rattle.std.proofs.Common.{sym, ◌∙◌, inl, inr, ⊎_elim, eq-or-lt_of_le, arith, ne_eqb, le-leb, leb-false}
use Rattle.std.proofs.lemmas.Bool.{false≢true, lt-leb}
use types.Run.{OneOf}
use Rattle.std.specs.Int.Bits.{bit_and}
use Rattle.spec.specs.Bytes.{Bytes, ascii, byte, when◌then◌else◌, among, every}
use Rattle.spec.specs.NTriples.{literal_byte, iri_byte, hex_digit, forbidden}
use Rattle.spec.specs.XmlLiteral.{text_byte, value_byte}
use Rattle.spec.proofs.Booleans.{and_left, and_right}
use Rattle.writer.specs.Put.{compare}

-- ---- bytes that stand for themselves

pub literal-same : {c : ℕ} → (c ≡ 34 → ⊥) → (c ≡ 92 → ⊥) → (c ≡ 10 → ⊥) → (c ≡ 13 → ⊥) → literal_byte c ≡ c ∷ []
unfolding literal_byte when◌then◌else◌ byte
literal-same {c} a b d e = rw (ne_eqb c 34 a, ne_eqb c 92 b, ne_eqb c 10 d, ne_eqb c 13 e)

pub text_same : {c : ℕ} → (c ≡ 38 → ⊥) → (c ≡ 60 → ⊥) → (c ≡ 62 → ⊥) → (c ≡ 34 → ⊥) → (c ≡ 39 → ⊥) → text_byte c ≡ c ∷ []
unfolding text_byte when◌then◌else◌ byte
text_same {c} a b d e f = rw (ne_eqb c 38 a, ne_eqb c 60 b, ne_eqb c 62 d, ne_eqb c 34 e, ne_eqb c 39 f)

pub value_same : {c : ℕ} → (c ≡ 38 → ⊥) → (c ≡ 60 → ⊥) → (c ≡ 34 → ⊥) → (c ≡ 9 → ⊥) → (c ≡ 10 → ⊥) → (c ≡ 13 → ⊥) → value_byte c ≡ c ∷ []
unfolding value_byte when◌then◌else◌ byte
value_same {c} a b d e f g = rw (ne_eqb c 38 a, ne_eqb c 60 b, ne_eqb c 34 d, ne_eqb c 9 e, ne_eqb c 10 f, ne_eqb c 13 g)

pub iri_same : {c : ℕ} → forbidden c ≡ false → iri_byte c ≡ c ∷ []
unfolding iri_byte when◌then◌else◌
iri_same h = rw h

-- a forbidden byte is its two hex digits
pub iri_digits : (c : ℕ) → forbidden c ≡ true → 92 ∷ 117 ∷ 48 ∷ 48 ∷ hex_digit (c / 16) ∷ hex_digit (c % 16) ∷ [] ≡ iri_byte c
unfolding iri_byte when◌then◌else◌ ascii
iri_digits c h = rw h

-- ---- how long a word is

short_if_lem : (t : Bool) (s r : Bytes) (k : ℕ) → length s ≤ k → length r ≤ k → length (when t then s else r) ≤ k
unfolding when◌then◌else◌
short_if_lem true s r k a b = a
short_if_lem false s r k a b = b

pub length-literal-byte : (c : ℕ) → length (literal_byte c) ≤ 2
unfolding literal_byte ascii
length-literal-byte c =
    let two : (t : Bool) (a b : ℕ) (r : Bytes) → length r ≤ 2 → length (when t then a ∷ b ∷ [] else r) ≤ 2 =
    λ t a b r. short_if_lem t (a ∷ b ∷ []) r 2 (omega arith) in
    two _ _ _ _ (two _ _ _ _ (two _ _ _ _ (two _ _ _ (c ∷ []) (omega arith))))

pub length_iri_byte : (c : ℕ) → length (iri_byte c) ≤ 6
unfolding iri_byte ascii
length_iri_byte c = short_if_lem (forbidden c) _ (c ∷ []) 6 (omega arith) (omega arith)

-- ---- forbidden bytes

pub forbidden_low : {c : ℕ} → c ≤ 32 → forbidden c ≡ true
unfolding forbidden
forbidden_low {c} h = rw (le-leb c 32 h)

-- what passes for each of some numbers passes for one of them
one_of : (p : ℕ → Bool) (k : ℕ) (ks : List ℕ) (c : ℕ) → every p (k ∷ ks) ≡ true → OneOf (k ∷ ks) c → p c ≡ true
unfolding every
one_of p k [] c h e = rw e (and_left (p k) true h)
one_of p k (m ∷ ks) c h (inl e) = rw e (and_left (p k) (every p (m ∷ ks)) h)
one_of p k (m ∷ ks) c h (inr r) = one_of p m ks c (and_right (p k) (every p (m ∷ ks)) h) r

-- six marks, and three that stand in a row
pub forbidden-mark : {c : ℕ} → OneOf (34 ∷ 60 ∷ 62 ∷ 92 ∷ 94 ∷ 96 ∷ []) c → forbidden c ≡ true
unfolding forbidden among ascii every
forbidden-mark {c} m = one_of forbidden 34 (60 ∷ 62 ∷ 92 ∷ 94 ∷ 96 ∷ []) c refl m

pub forbidden_brace : {c : ℕ} → 123 ≤ c → c < 126 → forbidden c ≡ true
unfolding forbidden among ascii
forbidden_brace {c} l h =
    ⊎_elim
    (λ (e : 123 ≡ c). rw (← e))
    (λ (m : 123 < c). ⊎_elim (λ (e : 124 ≡ c). rw (← e)) (λ (n : 124 < c). let e : c ≡ 125 = omega arith in rw e) (eq-or-lt_of_le {n = 124} {m = c} (omega arith)))
    (eq-or-lt_of_le l)

pub allowed : {c : ℕ} → 32 < c → (OneOf (34 ∷ 60 ∷ 62 ∷ 92 ∷ 94 ∷ 96 ∷ []) c → ⊥) → (c < 123) ⊎ (126 ≤ c) → forbidden c ≡ false
unfolding forbidden among ascii
allowed {c} l m o =
    let brace : (k : ℕ) → 123 ≤ k → k < 126 → k ≡ c → ⊥ = λ k a b e. ⊎_elim (λ (x : c < 123). omega arith) (λ (x : 126 ≤ c). omega arith) o in
    rw (
      lt-leb c 32 l,
      ne_eqb 60 c (λ e. m (inr (inl (sym e)))),
      ne_eqb 62 c (λ e. m (inr (inr (inl (sym e))))),
      ne_eqb 34 c (λ e. m (inl (sym e))),
      ne_eqb 123 c (brace 123 (omega arith) (omega arith)),
      ne_eqb 125 c (brace 125 (omega arith) (omega arith)),
      ne_eqb 124 c (brace 124 (omega arith) (omega arith)),
      ne_eqb 94 c (λ e. m (inr (inr (inr (inr (inl (sym e))))))),
      ne_eqb 96 c (λ e. m (inr (inr (inr (inr (inr (sym e))))))),
      ne_eqb 92 c (λ e. m (inr (inr (inr (inl (sym e)))))),
    )

-- ---- marked bytes: a byte that is not stands for itself

pub neither : (a b : Bool) → (a || b) ≡ false → (a ≡ false) × (b ≡ false)
neither true b h = absurd (false≢true (sym h))
neither false b h = (refl, h)

-- a byte that fails a test is none that passes it
differs : (p : ℕ → Bool) (k : ℕ) {c : ℕ} → p k ≡ true → p c ≡ false → c ≡ k → ⊥
differs p k y n e = false≢true (sym n ∙ rw e y)

literal_marked : ℕ → Bool
literal_marked c = (leb c 13 || eqb c 34) || eqb c 92

pub literal_unmarked : (c : ℕ) → ((leb c 13 || eqb c 34) || eqb c 92) ≡ false → literal_byte c ≡ c ∷ []
unfolding literal_marked
literal_unmarked c h =
    literal-same
    (differs literal_marked 34 refl h)
    (differs literal_marked 92 refl h)
    (differs literal_marked 10 refl h)
    (differs literal_marked 13 refl h)

text_marked : ℕ → Bool
text_marked c = (eqb (bit_and c 250) 34 || eqb c 60) || eqb c 62

pub text_unmarked : (c : ℕ) → ((eqb (bit_and c 250) 34 || eqb c 60) || eqb c 62) ≡ false → text_byte c ≡ c ∷ []
unfolding text_marked
text_unmarked c h =
    text_same
    (differs text_marked 38 refl h)
    (differs text_marked 60 refl h)
    (differs text_marked 62 refl h)
    (differs text_marked 34 refl h)
    (differs text_marked 39 refl h)

value_marked : ℕ → Bool
value_marked c = ((leb c 13 || eqb c 34) || eqb c 38) || eqb c 60

pub value_unmarked : (c : ℕ) → (((leb c 13 || eqb c 34) || eqb c 38) || eqb c 60) ≡ false → value_byte c ≡ c ∷ []
unfolding value_marked
value_unmarked c h =
    value_same
    (differs value_marked 38 refl h)
    (differs value_marked 60 refl h)
    (differs value_marked 34 refl h)
    (differs value_marked 9 refl h)
    (differs value_marked 10 refl h)
    (differs value_marked 13 refl h)

iri_marked : ℕ → Bool
iri_marked c = ((eqb (bit_and c 157) 28 || eqb c 96) || leb c 34) || (leb 123 c && leb c 127)

pub iri_unmarked : (c : ℕ) → (((eqb (bit_and c 157) 28 || eqb c 96) || leb c 34) || (leb 123 c && leb c 127)) ≡ false → iri_byte c ≡ c ∷ []
unfolding iri_marked every
iri_unmarked c h =
    let d = neither ((eqb (bit_and c 157) 28 || eqb c 96) || leb c 34) (leb 123 c && leb c 127) h in
    let low : 34 < c = leb-false c 34 (neither (eqb (bit_and c 157) 28 || eqb c 96) (leb c 34) d.0).1 in
    let out : (c < 123) ⊎ (126 ≤ c) =
    ⊎_elim (λ (x : 123 ≤ c). inr (omega (arith, leb-false c 127 (rw (le-leb 123 c x) at d.1)))) inl (compare 123 c) in
    iri_same (allowed (omega arith) (λ m. false≢true (sym h ∙ one_of iri_marked 34 (60 ∷ 62 ∷ 92 ∷ 94 ∷ 96 ∷ []) c refl m)) out)
