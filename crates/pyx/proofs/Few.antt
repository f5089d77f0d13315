-- A start tag has no more attributes than a fourth of its bytes: each has a line, with an `A`, a name, a space and the line's end.
use mathlib.Core.Path.{◌≡◌, refl}
use mathlib.Core.Bool.{Bool, true, false}
use mathlib.Core.List.{List, [], ◌∷◌}
use Prim.Native.Nat.{ℕ, zero, suc, ◌+◌, ◌-◌, ◌*◌, ◌<◌, ◌≤◌}
use native.Mathlib.Omega.{arith}
use lib.Dec.{eqb, ltb}
use lib.ListN.{length, take, drop, get_or, length-drop}
use lib.Seq.{drop-drop, get_or-drop, length-take-le}
use borrow.Author.Tests.{eqb-true, ltb-true, ltb-false}
use Rattle.spec.specs.Bytes.{Bytes, ascii, when◌then◌else◌, begins, after, up_to, every, concat, each, ◌>>=◌, ◌>>◌, require◌or◌}
use Rattle.spec.specs.Numbers.{Answer, refuse, good}
use Rattle.spec.specs.declared.Refusal.TheVariants.{NotPyx}
use Rattle.spec.specs.Utf8.{as_characters}
use Rattle.spec.specs.XmlNames as X
use Rattle.spec.specs.XmlNames.{is_char, is_q_name}
use Rattle.spec.specs.Pyx.{Attribute, Event, opening, closing, text, instruction, unescape, name, read_attribute, read_opening, read_closing, read_text, read_lines, read_event}
use Rattle.copy.specs.Copy.{part}
use Rattle.copy.specs.Texts.{up_to_stop}
use Rattle.pyx.specs.Lines.{lines_of, spaced, front}
use Rattle.pyx.proofs.Reach.{is_end}
use Rattle.pyx.proofs.Lines.{first_line, no_line, each_good, each_refuse, clear_line}
use Rattle.pyx.proofs.Attributes.{is_space, read_empty, read_no_name, read_no_space}

-- ---- one line

no_name : is_q_name [] ≡ false
unfolding X.all
no_name = refl

-- a line that is read has an `A`, a byte of a name, and a space
read_long : (l : Bytes) {a : Attribute} → eqb (get_or l 0 0) 32 ≡ false → read_attribute l ≡ good a → 3 ≤ length l
unfolding part
read_long [] {a} c q = let z : ◌≡◌ {A = ℕ} 0 1 = cc (read_empty [] refl) in omega arith
read_long (b ∷ l) {a} c q = go (length (up_to is_space l)) refl
  where
    go : (n : ℕ) → n ≡ length (up_to is_space l) → 3 ≤ suc (length l)
    go zero e =
        let z : ◌≡◌ {A = ℕ} 0 1 = cc (read_no_name (b ∷ l) (omega arith) c e no_name) in
        omega arith
    go (suc n) e = long (ltb (suc n + 1) (suc (length l))) refl
      where
        long : (t : Bool) → ltb (suc n + 1) (suc (length l)) ≡ t → 3 ≤ suc (length l)
        long true h = omega (arith, ltb-true (suc n + 1) (suc (length l)) h)
        long false h =
            let z : ◌≡◌ {A = ℕ} 0 1 = cc (read_no_space (b ∷ l) (omega arith) c e (ltb-false (suc n + 1) (suc (length l)) h)) in
            omega arith

-- ---- all lines

-- attributes that were read, four bytes for each
abbrev Few : ℕ → Answer (List Attribute) → Type 0
Few n (refuse x) = Unit {0}
Few n (good as') = 4 * length as' ≤ n

few_front : (a : Attribute) (r : Answer (List Attribute)) (n m : ℕ) → n + 4 ≤ m → Few n r → Few m (front (a ∷ []) r)
unfolding front ◌>>=◌
few_front a (refuse x) n m h f = tt
few_front a (good as') n m h f = omega arith

line-few : (l : Bytes) (ls : List Bytes) (n : ℕ) → eqb (get_or l 0 0) 32 ≡ false → Few n (each read_attribute ls) → Few (n + length l + 1) (each read_attribute (l ∷ ls))
line-few l ls n c f = go (read_attribute l) refl
  where
    go : (r : Answer Attribute) → read_attribute l ≡ r → Few (n + length l + 1) (each read_attribute (l ∷ ls))
    go (refuse x) e = rw (each_refuse read_attribute l ls x e) tt
    go (good a) e = rw (each_good read_attribute l ls a e) (few_front a (each read_attribute ls) n (n + length l + 1) (omega (arith, read_long l c e)) f)

none_few : (n : ℕ) (ls : List Bytes) → ls ≡ [] → Few n (each read_attribute ls)
unfolding each
none_few n ls e = rw e (omega arith)

module _ (s : Bytes) (clear : spaced s ≡ false) where
  -- the lines from `at` on, where one begins; m bounds the steps
  lines-few : (m at : ℕ) → length s ≤ at + m → 0 < at → at ≤ length s → get_or s (at - 1) 0 ≡ 10 → Few (length s - at) (each read_attribute (lines_of (drop at s)))
  lines-few zero at h p b e = none_few (length s - at) (lines_of (drop at s)) (no_line (drop at s) refl (omega (arith, length-drop at s)))
  lines-few (suc m) at h p b e = go (ltb n (length (drop at s))) refl (lines-few m (at + (n + 1)))
    where
      n : ℕ
      n = length (up_to is_end (drop at s))

      go : (t : Bool) → ltb n (length (drop at s)) ≡ t
          → (length s ≤ at + (n + 1) + m → 0 < at + (n + 1) → at + (n + 1) ≤ length s → get_or s (at + (n + 1) - 1) 0 ≡ 10
          → Few (length s - (at + (n + 1))) (each read_attribute (lines_of (drop (at + (n + 1)) s)))) → Few (length s - at) (each read_attribute (lines_of (drop at s)))
      go false q f = none_few (length s - at) (lines_of (drop at s)) (no_line (drop at s) refl (ltb-false n (length (drop at s)) q))
      go true q f =
          let l : n < length (drop at s) = ltb-true n (length (drop at s)) q in
          let d : length (drop at s) ≡ length s - at = length-drop at s in
          let k : length (take n (drop at s)) ≡ n = length-take-le n (drop at s) (omega arith) in
          let x : at + (n + 1) - 1 ≡ at + n = omega arith in
          let y : get_or s (at + n) 0 ≡ 10 = eqb-true (get_or s (at + n) 0) 10 (rw (get_or-drop at s n 0) at (up_to_stop is_end (drop at s) l)) in
          let z : length s - (at + (n + 1)) + length (take n (drop at s)) + 1 ≡ length s - at = omega arith in
          let r : Few (length s - (at + (n + 1))) (each read_attribute (lines_of (drop (at + (n + 1)) s))) = f (omega arith) (omega arith) (omega arith) (rw x y) in
          rw (first_line (drop at s) refl l, drop-drop (n + 1) at s, ← z)
          (line-few (take n (drop at s)) (lines_of (drop (at + (n + 1)) s)) (length s - (at + (n + 1))) (clear_line s at n clear p e) r)

-- ---- the event

abbrev FewIn : ℕ → Answer Event → Type 0
FewIn n (refuse x) = Unit {0}
FewIn n (good (opening x as')) = 4 * length as' ≤ n
FewIn n (good (closing x)) = Unit {0}
FewIn n (good (text x)) = Unit {0}
FewIn n (good instruction) = Unit {0}

opening-few : (l : Bytes) (ls : List Bytes) (n : ℕ) → Few n (each read_attribute ls) → FewIn n (read_opening l ls)
unfolding read_opening ◌>>=◌
opening-few l ls n f = go (name (after (ascii "(") l)) (each read_attribute ls) f
  where
    go : (x : Answer Bytes) (r : Answer (List Attribute)) → Few n r → FewIn n (x >>= λ m. (r >>= λ as'. good (opening m as')))
    go (refuse y) r f = tt
    go (good m) (refuse y) f = tt
    go (good m) (good as') f = f

closing_few : (l : Bytes) (n : ℕ) → FewIn n (read_closing l)
unfolding read_closing ◌>>=◌
closing_few l n = go (name (after (ascii ")") l))
  where
    go : (x : Answer Bytes) → FewIn n (x >>= λ m. good (closing m))
    go (refuse y) = tt
    go (good m) = tt

text-few : (ls : List Bytes) (n : ℕ) → FewIn n (read_text ls)
unfolding read_text ◌>>=◌
text-few ls n = go (each (λ l. unescape (after (ascii "-") l)) ls)
  where
    go : (x : Answer (List Bytes)) → FewIn n (x >>= λ ts. good (text (concat ts)))
    go (refuse y) = tt
    go (good ts) = tt

by_line : (l : Bytes) (ls : List Bytes) (n : ℕ) → Few n (each read_attribute ls) → FewIn n (read_lines (l ∷ ls))
unfolding read_lines when◌then◌else◌
by_line l ls n f = go (begins (ascii "(") l) (begins (ascii ")") l) (begins (ascii "-") l) (begins (ascii "?") l)
  where
    go : (t u v w : Bool) → FewIn n (when t then read_opening l ls else when u then read_closing l else when v then read_text (l ∷ ls) else when w then good instruction else refuse NotPyx)
    go true u v w = opening-few l ls n f
    go false true v w = closing_few l n
    go false false true w = text-few (l ∷ ls) n
    go false false false true = tt
    go false false false false = tt

no_event : (n : ℕ) (ls : List Bytes) → ls ≡ [] → FewIn n (read_lines ls)
unfolding read_lines
no_event n ls e = rw e tt

few_more : (r : Answer (List Attribute)) (n m : ℕ) → n ≤ m → Few n r → Few m r
few_more (refuse x) n m h f = tt
few_more (good as') n m h f = omega arith

module _ (s : Bytes) (clear : spaced s ≡ false) where
  event_few : FewIn (length s) (read_lines (lines_of s))
  event_few = go (ltb n (length s)) refl
    where
      n : ℕ
      n = length (up_to is_end s)

      go : (t : Bool) → ltb n (length s) ≡ t → FewIn (length s) (read_lines (lines_of s))
      go false q = no_event (length s) (lines_of s) (no_line s refl (ltb-false n (length s) q))
      go true q =
          let l : n < length s = ltb-true n (length s) q in
          let x : n + 1 - 1 ≡ n = omega arith in
          let y : get_or s n 0 ≡ 10 = eqb-true (get_or s n 0) 10 (up_to_stop is_end s l) in
          let r : Few (length s - (n + 1)) (each read_attribute (lines_of (drop (n + 1) s))) = lines-few s clear (length s) (n + 1) (omega arith) (omega arith) (omega arith) (rw x y) in
          rw (first_line s refl l) (by_line (take n s) (lines_of (drop (n + 1) s)) (length s) (few_more (each read_attribute (lines_of (drop (n + 1) s))) (length s - (n + 1)) (length s) (omega arith) r))

  -- for all that `first_event` gives
  pub attributes-few : {n : Bytes} {as' : List Attribute} → read_event s ≡ good (opening n as') → 4 * length as' ≤ length s
  unfolding read_event lines_of ◌>>◌ require◌or◌
  attributes-few {n} {as'} e = go (as_characters (every is_char) s) e
    where
      go : (t : Bool) → ((require t or NotPyx) >> read_lines (lines_of s)) ≡ good (opening n as') → 4 * length as' ≤ length s
      go true e = let f : FewIn (length s) (good (opening n as')) = rw e at event_few in f
      go false e = let z : ◌≡◌ {A = ℕ} 0 1 = cc in omega arith
