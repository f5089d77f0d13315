-- Bytes of ASCII passed over without decoding them: each is the character that it is.
use mathlib.Core.Path.{◌≡◌, refl, sym, ap, ◌∙◌}
use mathlib.Core.Logic.{⊎_elim}
use mathlib.Core.Bool.{Bool, true, ◌&&◌}
use mathlib.Core.List.{[], ◌∷◌, ◌++◌}
use Prim.Native.Nat.{ℕ, zero, suc, ◌+◌, ◌-◌, ◌<◌, ◌≤◌}
use native.Mathlib.Omega.{arith}
use native.Mathlib.Numerals.{add-one}
use native.Mathlib.Nat.{add-zero}
use lib.Dec.{eqb, leb, ltb}
use lib.ListN.{length, take, drop, get_or, get_or-append, length-drop, take-append-drop, drop_of_length-le}
use lib.Seq.{drop-cons, drop-drop, get_or-drop}
use borrow.Author.Tests.{le-leb, lt-ltb, leb-true, ltb-true, eqb-true}
use Rattle.spec.specs.Bytes.{Bytes, byte, every, between, in_ranges}
use Rattle.spec.specs.Utf8.{as_characters}
use Rattle.spec.specs.XmlNames.{is_char, is_name_start, is_name_char, is_nc_name}
use Rattle.spec.proofs.Booleans.{and_left, and_right, or_cases}
use Rattle.utils.specs.Decoding.{Front}
use Rattle.utils.specs.Names.{other, starts_nc, goes_on_nc, PlainPart}
use Rattle.utils.specs.Plain.{plain, plain_text, printable}
use Rattle.utils.specs.Walking.{Walked, Step}
use Rattle.utils.proofs.Tools.{and-true, and_assoc}
use Rattle.utils.proofs.Front.{every_append}
use Rattle.utils.proofs.Decoding.{front_one}
use Rattle.utils.proofs.Walking.{ByCharacter, every_by, to_end, step_passes, walked_begins, walked_more, walked_passes}
use Rattle.utils.proofs.Names.{char_high, rest_by, nc_starts}

-- a plain byte stands for itself, and passes
pub plain_front : (p : ℕ → Bool) {s : Bytes} → 0 < length s → plain p (get_or s 0 0) ≡ true → (Front (get_or s 0 0) 1 s) × (p (get_or s 0 0) ≡ true)
unfolding plain
plain_front p {s} l h =
    let b = get_or s 0 0 in
    (front_one s l (ltb-true b 128 (and_left (ltb b 128) (p b) h)), and_right (ltb b 128) (p b) h)

-- what is plain in a text is one of XML's characters
plain_high : (b : ℕ) → 32 ≤ b → b < 128 → plain is_char b ≡ true
unfolding plain
plain_high b h l = rw (lt-ltb b 128 l, ← char_high b h, le-leb b 0xD7FF (omega arith))

plain-line_feed : (b : ℕ) → b ≡ 10 → plain is_char b ≡ true
unfolding plain is_char in_ranges between
plain-line_feed b e = rw e

pub plain-text : (b : ℕ) → plain_text b ≡ true → plain is_char b ≡ true
unfolding plain_text byte
plain-text b h =
    ⊎_elim
    (λ (e : (leb 32 b && ltb b 128) ≡ true). plain_high b (leb-true 32 b (and_left (leb 32 b) (ltb b 128) e)) (ltb-true b 128 (and_right (leb 32 b) (ltb b 128) e)))
    (λ (e : eqb b 10 ≡ true). plain-line_feed b (eqb-true b 10 e))
    (or_cases (leb 32 b && ltb b 128) (eqb b 10) h)

every_drop : (q : ℕ → Bool) (k : ℕ) (t : Bytes) → every q t ≡ true → every q (drop k t) ≡ true
unfolding every
every_drop q zero t h = h
every_drop q (suc k) [] h = h
every_drop q (suc k) (a ∷ t) h = every_drop q k t (and_right (q a) (every q t) h)

-- from a byte on, and so from a later one
every-later : (q : ℕ → Bool) (s : Bytes) {last i : ℕ} → last ≤ i → every q (drop last s) ≡ true → every q (drop i s) ≡ true
every-later q s {last} {i} l h =
    let d : last + (i - last) ≡ i = omega arith in
    rw (← d, ← drop-drop (i - last) last s) (every_drop q (i - last) (drop last s) h)

-- a test of each byte by blocks: one of n bytes, and the last n, some of which may be passed already
module _ (q : ℕ → Bool) (n : ℕ) {s : Bytes} {i : ℕ} (w : Walked (every q) s i) where
  pub every-block : i + n ≤ length s → every q (take n (drop i s)) ≡ true → Walked (every q) s (i + n)
  every-block l h =
      record {
        within = l;
        rest = w.rest ∙ ap (every q) (sym (take-append-drop n (drop i s))) ∙ every_append q (take n (drop i s)) (drop n (drop i s)) ∙ rw (h, drop-drop n i s);
      }

  pub every-last : length s - n ≤ i → every q (drop (length s - n) s) ≡ true → every q s ≡ true
  every-last l h = w.rest ∙ every-later q s l h

plain-printable : (b : ℕ) → printable b ≡ true → plain is_char b ≡ true
unfolding printable byte
plain-printable b e = plain_high b (leb-true 32 b (and_left (leb 32 b) (ltb b 128) e)) (ltb-true b 128 (and_right (leb 32 b) (ltb b 128) e))

module _ {f : Bytes → Bool} {p : ℕ → Bool} (b : ByCharacter f p) where
  plain-steps : {s : Bytes} → 0 < length s → plain p (get_or s 0 0) ≡ true → Step f f 1 s
  plain-steps l h = let q = plain_front p l h in step_passes b q.0 q.1

  -- one byte passed
  pub walked_plain : {s : Bytes} {i : ℕ} → Walked f s i → i < length s → plain p (get_or s i 0) ≡ true → Walked f s (i + 1)
  walked_plain {s} {i} w l h =
      walked_more w (plain-steps (omega (arith, length-drop i s)) (rw (get_or-drop i s 0 0, add-zero) h))

  -- a block of n bytes passed at once, by a test that only plain bytes pass
  module _ (q : ℕ → Bool) (only : (a : ℕ) → q a ≡ true → plain p a ≡ true) where
    past : (s t : Bytes) → every q s ≡ true → f (s ++ t) ≡ f t
    unfolding every
    past [] t h = refl
    past (a ∷ s) t h =
        (plain-steps {s = a ∷ (s ++ t)} (omega arith) (only a (and_left (q a) (every q s) h))).rest
        ∙ past s t (and_right (q a) (every q s) h)

    pub walked_block : (n : ℕ) {s : Bytes} {i : ℕ} → Walked f s i → i + n ≤ length s → every q (take n (drop i s)) ≡ true → Walked f s (i + n)
    walked_block n {s} {i} w l h =
        record {
          within = l;
          rest = w.rest ∙ ap f (sym (take-append-drop n (drop i s))) ∙ past (take n (drop i s)) (drop n (drop i s)) h ∙ ap f (drop-drop n i s);
        }

    -- the last n bytes at once, some of which may be passed already
    pub walked_last : (n : ℕ) {s : Bytes} {i : ℕ} → Walked f s i → length s - n ≤ i → every q (drop (length s - n) s) ≡ true → Walked f s (length s)
    walked_last n {s} {i} w l h =
        let e : i + (length s - i) ≡ length s = omega (arith, w.within) in
        rw e at (walked_block (length s - i) w (omega (arith, w.within)) (rw to_end (every-later q s l h)))

    -- all bytes are plain
    pub past_all : (s : Bytes) → every q s ≡ true → f s ≡ true
    past_all s h = sym (walked_passes (walked_last (length s) (walked_begins f s) (omega arith) (let z : length s - length s ≡ 0 = omega arith in rw z h)) b (omega arith))

-- n such bytes and a line feed are a text
pub printable-line : (s : Bytes) (n : ℕ) → n < length s → length s ≤ n + 1 → every printable (take n s) ≡ true → get_or s n 0 ≡ 10 → true ≡ as_characters (every is_char) s
printable-line s n l m h e =
    let z : 0 + n ≡ n = omega arith in
    let w = rw z at (walked_block (every_by is_char) printable plain-printable n (walked_begins (as_characters (every is_char)) s) (omega arith) h) in
    walked_passes (walked_plain (every_by is_char) w l (plain-line_feed (get_or s n 0) e)) (every_by is_char) m

-- `&s[i..i + n]`
pub block : (s : Bytes) (i n : ℕ) → take (i + n - i) (drop i s) ≡ take n (drop i s)
block s i n = let e : i + n - i ≡ n = omega arith in rw e

-- ---- a test of each byte with no branch: `all` is the answer for the first `j` bytes

pub record Gathered (p : ℕ → Bool) (s : Bytes) (j : ℕ) (all : Bool) : Type 0 where
  pub within : j ≤ length s
  pub rest : every p s ≡ (all && every p (drop j s))

pub gathered_begins : {p : ℕ → Bool} {s : Bytes} → Gathered p s 0 true
gathered_begins = record { within = omega arith; rest = refl }

module _ {p : ℕ → Bool} {s : Bytes} {j : ℕ} {all : Bool} (g : Gathered p s j all) where
  pub gathered_more : {r : Bool} → j < length s → r ≡ p (get_or s j 0) → Gathered p s (j + 1) (all && r)
  unfolding every
  gathered_more h e =
      record {
        within = omega arith;
        rest = g.rest ∙ rw (e, drop-cons s j 0 h, add-one) (sym (and_assoc all (p (get_or s j 0)) (every p (drop (suc j) s))));
      }

  pub gathered_done : length s ≤ j → all ≡ every p s
  unfolding every
  gathered_done h = sym (g.rest ∙ rw (drop_of_length-le s h) (and-true all))

-- ---- a part of a name, byte by byte

plain_starts_on : (b : ℕ) → plain starts_nc b ≡ true → plain goes_on_nc b ≡ true
unfolding plain starts_nc goes_on_nc is_name_char
plain_starts_on b h =
    let p = and_right (ltb b 128) (is_name_start b && other b) h in
    rw (and_left (ltb b 128) (is_name_start b && other b) h, and_left (is_name_start b) (other b) p, and_right (is_name_start b) (other b) p)

pub part_none : PlainPart []
unfolding every
part_none = record { on = refl; starts = λ l. absurd (omega arith) }

module _ {t : Bytes} (b : ℕ) (h : PlainPart t) where
  longer : plain goes_on_nc b ≡ true → every (plain goes_on_nc) (t ++ (b ∷ [])) ≡ true
  unfolding every
  longer e = every_append (plain goes_on_nc) t (b ∷ []) ∙ rw (h.on, e)

  pub part_on : 0 < length t → plain goes_on_nc b ≡ true → PlainPart (t ++ (b ∷ []))
  part_on l e = record { on = longer e; starts = λ _. rw (get_or-append t (b ∷ []) 0 0 l) (h.starts l) }

pub part_start : (t : Bytes) (b : ℕ) → PlainPart t → plain starts_nc b ≡ true → PlainPart (t ++ (b ∷ []))
part_start [] b h e = record { on = longer b h (plain_starts_on b e); starts = λ _. e }
part_start (a ∷ t) b h e = part_on b h (omega arith) (plain_starts_on b e)

pub part-name : {t : Bytes} → PlainPart t → 0 < length t → is_nc_name t ≡ true
part-name {t} h l =
    let q = plain_front starts_nc l (h.starts l) in
    (nc_starts q.0 q.1).rest ∙ past_all rest_by (plain goes_on_nc) (λ a e. e) (drop 1 t) (every_drop (plain goes_on_nc) 1 t h.on)
