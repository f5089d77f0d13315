-- Values and data, decoded byte by byte.
use mathlib.Core.Path.{◌≡◌, refl, ap, ◌∙◌}
use mathlib.Core.Bool.{Bool, true, false, true≢false}
use mathlib.Core.List.{List, [], ◌∷◌, ◌++◌, append-nil}
use Prim.Native.Nat.{ℕ, suc, ◌+◌, ◌-◌, ◌<◌, ◌≤◌}
use native.Mathlib.Omega.{arith}
use native.Mathlib.Numerals.{add-one}
use lib.Dec.{eqb}
use lib.ListN.{length, take, drop, get_or, set, length-drop, drop_of_length-le}
use lib.Seq.{drop-cons, drop-drop}
use borrow.Author.Tests.{ne_eqb, eqb-false}
use Rattle.spec.specs.Bytes.{Bytes, ascii, byte, when◌then◌else◌, after, up_to, concat, each, ◌>>=◌}
use Rattle.spec.specs.Numbers.{Answer, refuse, good}
use Rattle.spec.specs.declared.Refusal.TheVariants.{NotPyx}
use Rattle.spec.specs.Pyx.{escaped, unescape}
use Rattle.copy.specs.Copy.{Put, Wrote, part, length_part, put-fits, then as and_then, wrote_none, wrote_one, wrote_same}
use Rattle.copy.specs.Texts.{length_up_to, after_drop}
use Rattle.pyx.specs.Lines.{lines_of, front, Kept}
use Rattle.pyx.specs.Escapes.{Stands, Stored, data_of}
use Rattle.pyx.proofs.Reach.{is_end}
use Rattle.pyx.proofs.Lines.{first_line, no_line, front_nil, front_front, front_refuse, front_good, each_good, each_refuse, kept_wrote, kept_then, kept_more}

-- ---- one byte, or what stands for one

-- a list by its first elements
module _ (s : Bytes) (i : ℕ) where
  pub one_ahead : i < length s → drop i s ≡ get_or s i 0 ∷ drop (i + 1) s
  one_ahead h = rw (add-one i) (drop-cons s i 0 h)

  pub two_ahead : i + 1 < length s → drop i s ≡ get_or s i 0 ∷ get_or s (i + 1) 0 ∷ drop (i + 2) s
  two_ahead h =
      let z : suc (i + 1) ≡ i + 2 = omega arith in
      one_ahead (omega arith) ∙ rw (drop-cons s (i + 1) 0 h, z)

plain : (b : ℕ) (s : Bytes) → (b ≡ 92 → ⊥) → unescape (b ∷ s) ≡ front (b ∷ []) (unescape s)
unfolding unescape front ◌>>=◌ when◌then◌else◌ byte
plain b [] n = rw (ne_eqb b 92 n) refl
plain b (c ∷ s) n = go (eqb b 92) (ne_eqb b 92 n)
  where
    go : (t : Bool) → t ≡ false
        → elim t as (λ _. Answer Bytes) [
          | true ↦ escaped c >>= λ e. unescape s >>= λ u. good (e ∷ u)
          | false ↦ unescape (c ∷ s) >>= λ u. good (b ∷ u)
        ] ≡ front (b ∷ []) (unescape (c ∷ s))
    go true e = absurd (true≢false e)
    go false e = refl

-- a text without a backslash stands for itself
as_it_is : (s : Bytes) → length s ≤ length (up_to (λ c. eqb c 92) s) → unescape s ≡ good s
unfolding unescape up_to when◌then◌else◌
as_it_is [] h = refl
as_it_is (b ∷ s) h = go (eqb b 92) refl (as_it_is s) h
  where
    go : (x : Bool) → eqb b 92 ≡ x → (length s ≤ length (up_to (λ c. eqb c 92) s) → unescape s ≡ good s)
        → suc (length s) ≤ length (when x then [] else (b ∷ up_to (λ c. eqb c 92) s)) → unescape (b ∷ s) ≡ good (b ∷ s)
    go true e f h = absurd (omega arith)
    go false e f h = plain b s (eqb-false b 92 e) ∙ (ap (front (b ∷ [])) (f (omega arith)) ∙ front_good (b ∷ []) s)

-- `unescape`: such a text is copied
pub copied : {s : Bytes} {d e : List ℕ} {at n : ℕ} {r : Bool} → Put d at s e r → at + length s ≤ length d → n ≡ length (up_to (λ c. eqb c 92) s) → n ≡ length s
    → Stored (unescape s) (length s) d e at (at + n)
copied {s} p h q l = record { text = s; is = as_it_is s (omega arith); wrote = rw l (put-fits p h); short = omega arith }

pub stands_plain : (s : Bytes) (i b : ℕ) → i < length s → b ≡ get_or s i 0 → (b ≡ 92 → ⊥) → Stands b 1 (drop i s)
stands_plain s i b h e n =
    record { some = omega arith; within = omega (arith, length-drop i s); eq = stands }
  where
    stands : unescape (drop i s) ≡ front (b ∷ []) (unescape (drop 1 (drop i s)))
    stands = ap unescape (one_ahead s i h ∙ rw (← e)) ∙ (plain b (drop (i + 1) s) n ∙ rw (drop-drop 1 i s))

pub wrong_last : (s : Bytes) (i : ℕ) → i < length s → get_or s i 0 ≡ 92 → length s - i < 2 → unescape (drop i s) ≡ refuse NotPyx
unfolding unescape when◌then◌else◌ byte
wrong_last s i h e l = rw (one_ahead s i h, drop_of_length-le s {i = i + 1} (omega arith), e) refl

escape : (c e : ℕ) (s : Bytes) → escaped c ≡ good e → unescape (92 ∷ c ∷ s) ≡ front (e ∷ []) (unescape s)
unfolding unescape front ◌>>=◌ byte
escape c e s h = rw h refl

no_escape : (c : ℕ) (s : Bytes) → escaped c ≡ refuse NotPyx → unescape (92 ∷ c ∷ s) ≡ refuse NotPyx
unfolding unescape ◌>>=◌ byte
no_escape c s h = rw h refl

module _ (s : Bytes) (i : ℕ) (h : i + 1 < length s) (b : get_or s i 0 ≡ 92) where
  escaped_as : (e : ℕ) → escaped (get_or s (i + 1) 0) ≡ good e → Stands e 2 (drop i s)
  escaped_as e q =
      record {
        some = omega arith;
        within = omega (arith, length-drop i s);
        eq = ap unescape (two_ahead s i h ∙ rw b) ∙ (escape (get_or s (i + 1) 0) e (drop (i + 2) s) q ∙ rw (drop-drop 2 i s));
      }

  pub stands-line_feed : get_or s (i + 1) 0 ≡ 110 → Stands 10 2 (drop i s)
  unfolding escaped when◌then◌else◌ byte
  stands-line_feed e = escaped_as 10 (rw e refl)

  pub stands_tab : get_or s (i + 1) 0 ≡ 116 → Stands 9 2 (drop i s)
  unfolding escaped when◌then◌else◌ byte
  stands_tab e = escaped_as 9 (rw e refl)

  pub stands_backslash : get_or s (i + 1) 0 ≡ 92 → Stands 92 2 (drop i s)
  unfolding escaped when◌then◌else◌ byte
  stands_backslash e = escaped_as 92 (rw e refl)

  pub wrong_escape : (get_or s (i + 1) 0 ≡ 110 → ⊥) → (get_or s (i + 1) 0 ≡ 116 → ⊥) → (get_or s (i + 1) 0 ≡ 92 → ⊥) → unescape (drop i s) ≡ refuse NotPyx
  unfolding escaped when◌then◌else◌ byte
  wrong_escape n t k = rw (two_ahead s i h, b) (no_escape (get_or s (i + 1) 0) (drop (i + 2) s) (rw (ne_eqb _ _ n, ne_eqb _ _ t, ne_eqb _ _ k) refl))

-- ---- the loops: a text in the scratch, in front of what is left of an answer

pub record Done (a left : Answer Bytes) (d e : List ℕ) (at to : ℕ) : Type 0 where
  pub text : Bytes
  pub rest : a ≡ front text left
  pub wrote : Wrote d e at to text

pub done_begins : {a : Answer Bytes} {d : List ℕ} {at : ℕ} → at ≤ length d → Done a a d d at at
done_begins {a} h = record { text = []; rest = front_nil a; wrote = wrote_none h }

pub done_more : {a left right : Answer Bytes} {d e f : List ℕ} {at to up : ℕ} {t : Bytes} → Done a left d e at to → left ≡ front t right → Wrote e f to up t → Done a right d f at up
done_more {a} {left} {right} {t = t} h q w =
    record { text = h.text ++ t; rest = h.rest ∙ (ap (front h.text) q ∙ front_front h.text t right); wrote = and_then h.wrote w }

pub done_refuse : {a left : Answer Bytes} {d e : List ℕ} {at to : ℕ} → Done a left d e at to → left ≡ refuse NotPyx → a ≡ refuse NotPyx
done_refuse h q = h.rest ∙ (ap (front h.text) q ∙ front_refuse h.text NotPyx)

pub done_ends : {a left : Answer Bytes} {d e : List ℕ} {at to n : ℕ} → Done a left d e at to → left ≡ good [] → to ≤ at + n → Stored a n d e at to
done_ends h q b =
    record { text = h.text; is = h.rest ∙ (ap (front h.text) q ∙ (front_good h.text [] ∙ ap good (append-nil h.text))); wrote = h.wrote; short = b }

-- `unescape_bytes`: i bytes are passed
pub record Passed (s : Bytes) (d e : List ℕ) (at i to : ℕ) : Type 0 where
  pub within : i ≤ length s
  pub short : to ≤ at + i
  pub room : at + length s ≤ length d
  pub done : Done (unescape s) (unescape (drop i s)) d e at to

pub passed-begins : {s : Bytes} {d : List ℕ} {at : ℕ} → at + length s ≤ length d → Passed s d d at 0 at
passed-begins h = record { within = omega arith; short = omega arith; room = h; done = done_begins (omega arith) }

module _ {s : Bytes} {d e : List ℕ} {at i to : ℕ} (p : Passed s d e at i to) where
  pub passed-room : i < length s → to < length e
  passed-room h = omega (arith, wrote_same p.done.wrote, p.short, p.room)

  pub passed-within : {b n : ℕ} → Stands b n (drop i s) → i + n ≤ length s
  passed-within w = omega (arith, w.within, length-drop i s, p.within)

  pub passed_more : {b n : ℕ} → i < length s → Stands b n (drop i s) → Passed s d (set e to b) at (i + n) (to + 1)
  passed_more {b} {n} h w =
      record {
        within = omega (arith, w.within, length-drop i s);
        short = omega (arith, p.short, w.some);
        room = p.room;
        done = done_more p.done (w.eq ∙ rw (drop-drop n i s)) (wrote_one (passed-room h));
      }

  pub passed_wrong : unescape (drop i s) ≡ refuse NotPyx → (unescape s ≡ refuse NotPyx) × Kept d e (at + length s)
  passed_wrong q = (done_refuse p.done q, kept_wrote p.done.wrote (omega (arith, p.short, p.within)))

  pub passed_done : length s ≤ i → Stored (unescape s) (length s) d e at to
  unfolding unescape
  passed_done h = done_ends p.done (rw (drop_of_length-le s h) refl) (omega (arith, p.short, p.within))

-- ---- the data of the lines

data_front : (t : Bytes) (r : Answer (List Bytes)) → (front (t ∷ []) r >>= λ ts. good (concat ts)) ≡ front t (r >>= λ ts. good (concat ts))
unfolding front ◌>>=◌ concat
data_front t (refuse n) = refl
data_front t (good ts) = refl

behind_first : (l : Bytes) → after (ascii "-") l ≡ drop 1 l
unfolding ascii
behind_first l = after_drop (45 ∷ []) l

module _ (s : Bytes) {n : ℕ} (e : n ≡ length (up_to is_end s)) where
  pub data_line : n < length s → (t : Bytes) → unescape (drop 1 (take n s)) ≡ good t → data_of s ≡ front t (data_of (drop (n + 1) s))
  unfolding data_of
  data_line h t q =
      let f : unescape (after (ascii "-") (take n s)) ≡ good t = rw (behind_first (take n s)) q in
      rw (first_line s e h, each_good (λ l. unescape (after (ascii "-") l)) (take n s) (lines_of (drop (n + 1) s)) t f)
      (data_front t (each (λ l. unescape (after (ascii "-") l)) (lines_of (drop (n + 1) s))))

  pub data_wrong : n < length s → unescape (drop 1 (take n s)) ≡ refuse NotPyx → data_of s ≡ refuse NotPyx
  unfolding data_of ◌>>=◌
  data_wrong h q =
      let f : unescape (after (ascii "-") (take n s)) ≡ refuse NotPyx = rw (behind_first (take n s)) q in
      rw (first_line s e h, each_refuse (λ l. unescape (after (ascii "-") l)) (take n s) (lines_of (drop (n + 1) s)) NotPyx f) refl

  pub data_none : length s ≤ n → data_of s ≡ good []
  unfolding data_of ◌>>=◌ each concat
  data_none h = rw (no_line s e h) refl

-- `put_lines`: the next line begins at `at`
pub record Texting (s : Bytes) (d e : List ℕ) (at used : ℕ) : Type 0 where
  pub within : at ≤ length s
  pub short : used ≤ at
  pub room : length s ≤ length d
  pub done : Done (data_of s) (data_of (drop at s)) d e 0 used

pub texting_begins : {s : Bytes} {d : List ℕ} → length s ≤ length d → Texting s d d 0 0
texting_begins h = record { within = omega arith; short = omega arith; room = h; done = done_begins (omega arith) }

pub texting_done : {s : Bytes} {d e : List ℕ} {at used : ℕ} → Texting s d e at used → length s ≤ at → Stored (data_of s) (length s) d e 0 used
texting_done {s} {at = at} t h = done_ends t.done (data_none (drop at s) refl (omega (arith, length-drop at s))) (omega (arith, t.short, t.within))

module _ {s : Bytes} {d e : List ℕ} {at used : ℕ} (t : Texting s d e at used) {n : ℕ} (q : n ≡ length (up_to is_end (drop at s))) where
  pub texting_end : at + n ≤ length s
  texting_end = omega (arith, length_up_to is_end (drop at s), length-drop at s, t.within)

  pub texting_unended : at + n ≡ length s → Stored (data_of s) (length s) d e 0 used
  texting_unended h = done_ends t.done (data_none (drop at s) q (omega (arith, length-drop at s))) (omega (arith, t.short, t.within))

  sized : length (part s at n) ≡ n
  sized = length_part s at n texting_end

  pub texting_room : used + length (part s at n) ≤ length e
  texting_room = omega (arith, sized, texting_end, wrote_same t.done.wrote, t.short, t.room)

  module _ (h : at + n ≡ length s → ⊥) where
    ends : n < length (drop at s)
    ends = omega (arith, texting_end, length-drop at s)

    data_size : length (drop 1 (part s at n)) ≤ n
    data_size = omega (arith, sized, length-drop 1 (part s at n))

    pub texting_wrong : {f : List ℕ} → (unescape (drop 1 (part s at n)) ≡ refuse NotPyx) × Kept e f (used + length (drop 1 (part s at n))) → (data_of s ≡ refuse NotPyx) × Kept d f (0 + length s)
    unfolding part
    texting_wrong r = (
      done_refuse t.done (data_wrong (drop at s) q ends r.0),
      kept_then (kept_wrote t.done.wrote (omega (arith, t.short, t.within))) (kept_more r.1 (omega (arith, data_size, texting_end, t.short))),
    )

    pub texting_more : {f : List ℕ} {to : ℕ} → Stored (unescape (drop 1 (part s at n))) (length (drop 1 (part s at n))) e f used to → Texting s d f (at + n + 1) to
    unfolding part
    texting_more p =
        let z : at + (n + 1) ≡ at + n + 1 = omega arith in
        record {
          within = omega (arith, texting_end);
          short = omega (arith, p.short, data_size, t.short);
          room = t.room;
          done = done_more t.done (data_line (drop at s) q ends p.text p.is ∙ rw (drop-drop (n + 1) at s, z)) p.wrote;
        }

-- `put_data`: what stands behind a line's first byte
pub data_empty : (l : Bytes) {d : List ℕ} {at : ℕ} → length l ≡ 0 → at + length l ≤ length d → Stored (unescape (drop 1 l)) (length (drop 1 l)) d d at at
unfolding unescape
data_empty [] h r = record { text = []; is = refl; wrote = wrote_none (omega arith); short = omega arith }
data_empty (a ∷ l) h r = absurd (omega arith)
