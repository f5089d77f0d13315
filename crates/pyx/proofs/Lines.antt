-- An event's lines one after the other, what is done of them in front of what is left; and lines that begin with a space.
use mathlib.Core.Path.{◌≡◌, refl, sym, ap, ◌∙◌}
use mathlib.Core.Bool.{Bool, true, false, ◌&&◌, ◌||◌, false≢true}
use mathlib.Core.List.{List, [], ◌∷◌, ◌++◌, drop_last, append_assoc}
use Prim.Native.Nat.{ℕ, zero, suc, ◌+◌, ◌-◌, ◌<◌, ◌≤◌}
use native.Mathlib.Omega.{arith}
use native.Mathlib.Numerals.{add-one}
use lib.Dec.{eqb}
use lib.ListN.{length, take, drop, get_or, length-drop}
use lib.Seq.{drop-cons, drop-drop, get_or-drop, get_or-take}
use borrow.Author.Tests.{eqb-true, eqb-false, eq-eqb, ne_eqb}
use Rattle.spec.specs.Bytes.{Bytes, ascii, byte, when◌then◌else◌, begins, up_to, onto, split, each, ◌>>=◌}
use Rattle.spec.specs.Numbers.{Answer, refuse, good}
use Rattle.spec.specs.declared.Refusal.{Refusal}
use Rattle.copy.specs.Copy.{Wrote, wrote_same, wrote_behind}
use Rattle.copy.specs.Scan.{or_assoc, or-false}
use Rattle.pyx.specs.Lines.{lines_of, spaced, front, Kept}
use Rattle.pyx.proofs.Reach.{is_end}

-- ---- the first line

split-some : (s : Bytes) → 0 < length (split 10 s)
unfolding split onto when◌then◌else◌
split-some [] = omega arith
split-some (c ∷ s) = go (eqb c 10) (split 10 s) (split-some s)
  where
    go : (x : Bool) (ls : List Bytes) → 0 < length ls → 0 < length (when x then [] ∷ ls else onto c ls)
    go true ls h = omega arith
    go false [] h = omega arith
    go false (l ∷ ls) h = omega arith

split-line : (s : Bytes) → length (up_to is_end s) < length s → split 10 s ≡ take (length (up_to is_end s)) s ∷ split 10 (drop (suc (length (up_to is_end s))) s)
unfolding split onto up_to when◌then◌else◌
split-line [] h = absurd (omega arith)
split-line (c ∷ s) h = go (eqb c 10) (split-line s) h
  where
    go : (x : Bool) → (length (up_to is_end s) < length s → split 10 s ≡ take (length (up_to is_end s)) s ∷ split 10 (drop (suc (length (up_to is_end s))) s))
        → length (when x then [] else (c ∷ up_to is_end s)) < suc (length s)
        → (when x then [] ∷ split 10 s else onto c (split 10 s))
        ≡ take (length (when x then [] else (c ∷ up_to is_end s))) (c ∷ s) ∷ split 10 (drop (suc (length (when x then [] else (c ∷ up_to is_end s)))) (c ∷ s))
    go true f h = refl
    go false f h = rw (f (omega arith)) refl

split_none : (s : Bytes) → length s ≤ length (up_to is_end s) → split 10 s ≡ s ∷ []
unfolding split onto up_to when◌then◌else◌
split_none [] h = refl
split_none (c ∷ s) h = go (eqb c 10) (split_none s) h
  where
    go : (x : Bool) → (length s ≤ length (up_to is_end s) → split 10 s ≡ s ∷ []) → suc (length s) ≤ length (when x then [] else (c ∷ up_to is_end s))
        → (when x then [] ∷ split 10 s else onto c (split 10 s)) ≡ (c ∷ s) ∷ []
    go true f h = absurd (omega arith)
    go false f h = rw (f (omega arith)) refl

drop-last_cons : (l : Bytes) (ls : List Bytes) → 0 < length ls → drop_last (l ∷ ls) ≡ l ∷ drop_last ls
drop-last_cons l [] h = absurd (omega arith)
drop-last_cons l (m ∷ ls) h = refl

module _ (s : Bytes) {n : ℕ} (e : n ≡ length (up_to is_end s)) where
  pub first_line : n < length s → lines_of s ≡ take n s ∷ lines_of (drop (n + 1) s)
  unfolding lines_of byte
  first_line h =
      rw (e, add-one (length (up_to is_end s)), split-line s (omega arith))
      (drop-last_cons (take (length (up_to is_end s)) s) (split 10 (drop (suc (length (up_to is_end s))) s)) (split-some (drop (suc (length (up_to is_end s))) s)))

  pub no_line : length s ≤ n → lines_of s ≡ []
  unfolding lines_of byte
  no_line h = rw (split_none s (omega arith))

-- ---- what is done, in front of what is left

module _ {A : Type 0} where
  pub front_nil : (r : Answer (List A)) → r ≡ front [] r
  unfolding front ◌>>=◌
  front_nil (refuse n) = refl
  front_nil (good xs) = refl

  pub front_front : (xs ys : List A) (r : Answer (List A)) → front xs (front ys r) ≡ front (xs ++ ys) r
  unfolding front ◌>>=◌
  front_front xs ys (refuse n) = refl
  front_front xs ys (good zs) = ap good (sym (append_assoc xs ys zs))

  pub front_refuse : (xs : List A) (n : Refusal) → front xs (refuse n) ≡ refuse n
  unfolding front ◌>>=◌
  front_refuse xs n = refl

  pub front_good : (xs ys : List A) → front xs (good ys) ≡ good (xs ++ ys)
  unfolding front ◌>>=◌
  front_good xs ys = refl

module _ {A B : Type 0} (f : A → Answer B) (a : A) (l : List A) where
  pub each_good : (b : B) → f a ≡ good b → each f (a ∷ l) ≡ front (b ∷ []) (each f l)
  unfolding each front ◌>>=◌
  each_good b e = rw e refl

  pub each_refuse : (n : Refusal) → f a ≡ refuse n → each f (a ∷ l) ≡ refuse n
  unfolding each ◌>>=◌
  each_refuse n e = rw e refl

-- a test for none failed
pub positive : {n : ℕ} → (n ≡ 0 → ⊥) → 0 < n
positive h = omega arith

-- ---- what is kept of the scratch

pub kept_all : {d : List ℕ} {n : ℕ} → Kept d d n
kept_all = record { same = refl; beyond = refl }

further : (d e : List ℕ) (n m : ℕ) → n ≤ m → drop n e ≡ drop n d → drop m e ≡ drop m d
further d e n m h q =
    let z : n + (m - n) ≡ m = omega arith in
    let p : drop (n + (m - n)) e ≡ drop (n + (m - n)) d = sym (drop-drop (m - n) n e) ∙ (ap (λ (l : List ℕ). drop (m - n) l) q ∙ drop-drop (m - n) n d) in
    rw z at p

pub kept_more : {d e : List ℕ} {n m : ℕ} → Kept d e n → n ≤ m → Kept d e m
kept_more {d} {e} {n} {m} k h = record { same = k.same; beyond = further d e n m h k.beyond }

pub kept_then : {d e f : List ℕ} {n : ℕ} → Kept d e n → Kept e f n → Kept d f n
kept_then k l = record { same = l.same ∙ k.same; beyond = l.beyond ∙ k.beyond }

pub kept_wrote : {d e : List ℕ} {at to n : ℕ} {s : Bytes} → Wrote d e at to s → to ≤ n → Kept d e n
kept_wrote w h = kept_more (record { same = wrote_same w; beyond = wrote_behind w }) h

-- ---- lines that begin with a space

spaced_here : (a b : ℕ) (s : Bytes) → spaced (a ∷ b ∷ s) ≡ ((eqb a 10 && (eqb 32 b && true)) || spaced (b ∷ s))
unfolding spaced begins byte ascii
spaced_here a b s = refl

spaced_at : (s : Bytes) (i : ℕ) → suc i < length s → get_or s i 0 ≡ 10 → get_or s (suc i) 0 ≡ 32 → spaced s ≡ true
unfolding spaced begins byte ascii
spaced_at [] i h p q = absurd (omega arith)
spaced_at (a ∷ []) i h p q = absurd (omega arith)
spaced_at (a ∷ b ∷ s) zero h p q = rw (p, q) refl
spaced_at (a ∷ b ∷ s) (suc i) h p q = rw (spaced_at (b ∷ s) i (omega arith) p q) (or_true (eqb a 10 && (eqb 32 b && true)))
  where
    or_true : (x : Bool) → (x || true) ≡ true
    or_true true = refl
    or_true false = refl

there : (s : Bytes) (i : ℕ) → 0 < get_or s i 0 → i < length s
there [] i h = absurd (omega arith)
there (a ∷ s) zero h = omega arith
there (a ∷ s) (suc i) h = omega (arith, there s i h)

-- where none begins with a space, no line that begins behind a line's end does
pub clear_line : (s : Bytes) (at n : ℕ) → spaced s ≡ false → 0 < at → get_or s (at - 1) 0 ≡ 10 → eqb (get_or (take n (drop at s)) 0 0) 32 ≡ false
clear_line s at zero c h p = refl
clear_line s at (suc n) c h p = ne_eqb (get_or (take (suc n) (drop at s)) 0 0) 32 go
  where
    go : get_or (take (suc n) (drop at s)) 0 0 ≡ 32 → ⊥
    go e =
        let z : at + 0 ≡ suc (at - 1) = omega arith in
        let g : get_or s (suc (at - 1)) 0 ≡ 32 = rw z at (sym (get_or-take (suc n) (drop at s) 0 0 (omega arith) ∙ get_or-drop at s 0 0) ∙ e) in
        false≢true (sym c ∙ spaced_at s (at - 1) (there s (suc (at - 1)) (omega (arith, g))) p g)

-- ---- the search for one: `found` is the answer for the bytes before the last of i

pub record Spacing (s : Bytes) (i : ℕ) (found : Bool) : Type 0 where
  pub some : 1 ≤ i
  pub rest : spaced s ≡ (found || spaced (drop (i - 1) s))

pub spacing_begins : {s : Bytes} → Spacing s 1 false
spacing_begins = record { some = omega arith; rest = refl }

two : (s : Bytes) (i : ℕ) → 1 ≤ i → i < length s → drop (i - 1) s ≡ get_or s (i - 1) 0 ∷ get_or s i 0 ∷ drop (suc i) s
two s i h b =
    let z : suc (i - 1) ≡ i = omega arith in
    drop-cons s (i - 1) 0 (omega arith) ∙ rw (z, drop-cons s i 0 b)

pub eqb_swap : (a b : ℕ) → eqb a b ≡ eqb b a
eqb_swap a b = go (eqb b a) refl
  where
    go : (t : Bool) → eqb b a ≡ t → eqb a b ≡ t
    go true e = eq-eqb a b (sym (eqb-true b a e))
    go false e = ne_eqb a b λ q. eqb-false b a e (sym q)

and-true : (x : Bool) → (x && true) ≡ x
and-true true = refl
and-true false = refl

here : (s : Bytes) (i : ℕ) → 1 ≤ i → i < length s → spaced (drop (i - 1) s) ≡ ((eqb (get_or s (i - 1) 0) 10 && eqb (get_or s i 0) 32) || spaced (drop i s))
here s i h b =
    rw (two s i h b, spaced_here (get_or s (i - 1) 0) (get_or s i 0) (drop (suc i) s), ← drop-cons s i 0 b, eqb_swap 32 (get_or s i 0), and-true (eqb (get_or s i 0) 32))

pub spacing_more : {s : Bytes} {i : ℕ} {found : Bool} → Spacing s i found → i < length s → Spacing s (i + 1) (found || (eqb (get_or s (i - 1) 0) 10 && eqb (get_or s i 0) 32))
spacing_more {s} {i} {found} w b =
    let z : i + 1 - 1 ≡ i = omega arith in
    record {
      some = omega arith;
      rest = w.rest ∙ rw (here s i w.some b, z) (sym (or_assoc found (eqb (get_or s (i - 1) 0) 10 && eqb (get_or s i 0) 32) (spaced (drop i s))));
    }

short : (t : Bytes) → length t ≤ 1 → spaced t ≡ false
unfolding spaced begins ascii
short [] h = refl
short (a ∷ []) h = go (eqb a (byte "\n"))
  where
    go : (x : Bool) → ((x && false) || false) ≡ false
    go true = refl
    go false = refl
short (a ∷ b ∷ t) h = absurd (omega arith)

pub spacing_done : {s : Bytes} {i : ℕ} {found : Bool} → Spacing s i found → length s ≤ i → found ≡ spaced s
spacing_done {s} {i} {found} w h = sym (w.rest ∙ rw (short (drop (i - 1) s) (omega (arith, length-drop (i - 1) s))) (or-false found))

alone : (s : Bytes) → length s ≡ 0 → (begins (ascii " ") s || spaced s) ≡ false
unfolding spaced begins ascii
alone [] h = refl
alone (a ∷ s) h = absurd (omega arith)

-- one line alone has none behind it
pub spaced-one : (s : Bytes) → length s ≤ suc (length (up_to is_end s)) → spaced s ≡ false
unfolding spaced byte up_to when◌then◌else◌
spaced-one [] h = refl
spaced-one (a ∷ s) h = go (eqb a 10) (spaced-one s) h
  where
    go : (x : Bool) → (length s ≤ suc (length (up_to is_end s)) → spaced s ≡ false) → suc (length s) ≤ suc (length (when x then [] else (a ∷ up_to is_end s)))
        → ((x && begins (ascii " ") s) || spaced s) ≡ false
    go true f h = alone s (omega arith)
    go false f h = f (omega arith)
