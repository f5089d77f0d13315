-- RFC 3986, section 5.2.4, by segments: what each does to the output buffer, so that dot segments are removed on the way. That this is the
-- section's loop is `removed_on_the_way`.
use Rattle.std.specs.Prelude.{◌≡◌, refl, Bool, ◌&&◌, ◌||◌, not, ℕ, zero, suc, ◌+◌, ◌-◌, ◌<◌, ◌≤◌, eqb, length, drop, get_or}
use Rattle.std.proofs.Common.{sym, ◌∙◌, arith, length-drop, drop_of_length-le, drop-cons, drop-drop, get_or-drop, add-zero, zero-add, add-one, ne_eqb, eqb-true}
use Rattle.std.proofs.Math.Path.{ap}
use Rattle.std.proofs.Math.Bool.{true, false}
use Rattle.std.proofs.lemmas.Bool.{false≢true, eqb-false}
use mathlib.Core.List.{List, [], ◌∷◌, ◌++◌, append_assoc}
use Rattle.spec.specs.Bytes.{Bytes, ascii, when◌then◌else◌, same, begins, up_to, from, among, All, split, onto}
use Rattle.spec.specs.Rfc3986.{without_last, first_segment, turn, turns, remove_dot_segments}
use Rattle.copy.specs.Texts.{same_true, length_up_to, up_to_stop}
use Rattle.resolve.specs.Texts.{Plain, from-plain, from_none, and-false, or_true}
use Rattle.resolve.specs.Last.{without_first}
use Rattle.resolve.specs.Turns.{left, left-turn}

-- ---- one segment

-- a segment in the output, behind a "/" unless it is the first
unfoldable pub appended : Bool → Bytes → Bytes → Bytes
appended true s o = o ++ 47 ∷ s
appended false s o = o ++ s

-- a dot segment at the end leaves its "/"
unfoldable pub closed : Bool → Bool → Bytes → Bytes
closed begun last o = when last && begun then appended true [] o else o

-- what a segment makes of the output, in which some stood already or none
unfoldable pub output : Bool → Bool → Bytes → Bytes → Bytes
output begun last s o =
    when same (ascii ".") s then closed begun last o else
    when same (ascii "..") s then closed begun last (without_last o) else
    appended begun s o

-- dot segments that come first are passed over
unfoldable pub begun_by : Bool → Bytes → Bool
begun_by begun s = begun || not (same (ascii ".") s || same (ascii "..") s)

-- ---- the segments of a path, in order; with `more`, another path comes behind a "/"

unfoldable pub is_last : Bool → List Bytes → Bool
is_last more [] = not more
is_last more (s ∷ ss) = false

unfoldable pub outputs : Bool → Bool → List Bytes → Bytes → Bytes
outputs begun more [] o = o
outputs begun more (s ∷ ss) o = outputs (begun_by begun s) more ss (output begun (is_last more ss) s o)

unfoldable pub begun_after : Bool → List Bytes → Bool
begun_after begun [] = begun
begun_after begun (s ∷ ss) = begun_after (begun_by begun s) ss

-- ---- a path cut at its first "/"

pub split_plain : (s : Bytes) → Plain s → split 47 s ≡ s ∷ []
unfolding split onto when◌then◌else◌
split_plain [] h = refl
split_plain (a ∷ s) h = rw (ne_eqb a 47 h.0, split_plain s h.1)

pub split_segment : (s t : Bytes) → Plain s → split 47 (s ++ 47 ∷ t) ≡ s ∷ split 47 t
unfolding split onto when◌then◌else◌
split_segment [] t h = refl
split_segment (a ∷ s) t h = rw (ne_eqb a 47 h.0, split_segment s t h.1)

-- a path has a segment, be it empty
onto_never : (more : Bool) (c : ℕ) (ls : List Bytes) → is_last more (onto c ls) ≡ false
unfolding is_last onto
onto_never more c [] = refl
onto_never more c (l ∷ ls) = refl

pub split_never : (more : Bool) (s : Bytes) → is_last more (split 47 s) ≡ false
unfolding split is_last when◌then◌else◌
split_never more [] = refl
split_never more (c ∷ s) = go (eqb c 47)
  where
    go : (t : Bool) → is_last more (when t then [] ∷ split 47 s else onto c (split 47 s)) ≡ false
    go true = refl
    go false = onto_never more c (split 47 s)

-- ---- two paths with a "/" between them

onto-append : (c : ℕ) (ls ms : List Bytes) → is_last false ls ≡ false → onto c (ls ++ ms) ≡ onto c ls ++ ms
unfolding onto is_last
onto-append c [] ms h = absurd (false≢true (sym h))
onto-append c (l ∷ ls) ms h = refl

pub split-append : (s t : Bytes) → split 47 (s ++ 47 ∷ t) ≡ split 47 s ++ split 47 t
unfolding split when◌then◌else◌
split-append [] t = refl
split-append (c ∷ s) t = go (eqb c 47) (split-append s t)
  where
    go : (b : Bool) → split 47 (s ++ 47 ∷ t) ≡ split 47 s ++ split 47 t
        → (when b then [] ∷ split 47 (s ++ 47 ∷ t) else onto c (split 47 (s ++ 47 ∷ t))) ≡ (when b then [] ∷ split 47 s else onto c (split 47 s)) ++ split 47 t
    go true e = ap ([] ∷◌) e
    go false e = ap (onto c) e ∙ onto-append c (split 47 s) (split 47 t) (split_never false s)

more_never : (ss : List Bytes) → is_last true ss ≡ false
unfolding is_last
more_never [] = refl
more_never (s ∷ ss) = refl

append_never : (more : Bool) (ss ts : List Bytes) → is_last false ts ≡ false → is_last more (ss ++ ts) ≡ false
unfolding is_last
append_never more [] [] h = absurd (false≢true (sym h))
append_never more [] (t ∷ ts) h = refl
append_never more (s ∷ ss) ts h = refl

pub outputs-append : (begun more : Bool) (ss ts : List Bytes) (o : Bytes) → is_last false ts ≡ false
    → outputs begun more (ss ++ ts) o ≡ outputs (begun_after begun ss) more ts (outputs begun true ss o)
unfolding outputs begun_after
outputs-append begun more [] ts o h = refl
outputs-append begun more (s ∷ ss) ts o h =
    ap (λ (l : Bool). outputs (begun_by begun s) more (ss ++ ts) (output begun l s o)) (append_never more ss ts h)
    ∙ outputs-append (begun_by begun s) more ss ts (output begun false s o) h
    ∙ ap (λ (l : Bool). outputs (begun_after (begun_by begun s) ss) more ts (outputs (begun_by begun s) true ss (output begun l s o))) (sym (more_never ss))

-- ---- a turn on a segment, and on the last one

-- tests of a text by its first segment
up_to_segment : (s t : Bytes) → Plain s → up_to (among (ascii "/")) (s ++ 47 ∷ t) ≡ s
unfolding up_to among ascii when◌then◌else◌
up_to_segment [] t h = refl
up_to_segment (a ∷ s) t h = rw (ne_eqb 47 a (λ (e : 47 ≡ a). h.0 (sym e))) (ap (a ∷◌) (up_to_segment s t h.1))

up_to_plain : (s : Bytes) → Plain s → up_to (among (ascii "/")) s ≡ s
unfolding up_to among ascii when◌then◌else◌
up_to_plain [] h = refl
up_to_plain (a ∷ s) h = rw (ne_eqb 47 a (λ (e : 47 ≡ a). h.0 (sym e))) (ap (a ∷◌) (up_to_plain s h.1))

begins_segment : (w s t : Bytes) → Plain w → Plain s → begins (w ++ (47 ∷ [])) (s ++ 47 ∷ t) ≡ same w s
unfolding begins same
begins_segment [] [] t p h = refl
begins_segment [] (a ∷ s) t p h = rw (ne_eqb 47 a (λ (e : 47 ≡ a). h.0 (sym e)))
begins_segment (b ∷ w) [] t p h = rw (ne_eqb b 47 p.0)
begins_segment (b ∷ w) (a ∷ s) t p h = rw (begins_segment w s t p.1 h.1)

begins-plain : (w s : Bytes) → Plain s → begins (w ++ (47 ∷ [])) s ≡ false
unfolding begins
begins-plain [] [] h = refl
begins-plain [] (a ∷ s) h = rw (ne_eqb 47 a (λ (e : 47 ≡ a). h.0 (sym e)))
begins-plain (b ∷ w) [] h = refl
begins-plain (b ∷ w) (a ∷ s) h = rw (begins-plain w s h.1) (and-false (eqb b a))

same-longer : (w s t : Bytes) → Plain w → same w (s ++ 47 ∷ t) ≡ false
unfolding same
same-longer [] [] t p = refl
same-longer [] (a ∷ s) t p = refl
same-longer (b ∷ w) [] t p = rw (ne_eqb b 47 p.0)
same-longer (b ∷ w) (a ∷ s) t p = rw (same-longer w s t p.1) (and-false (eqb b a))

dot : Plain (46 ∷ [])
dot = (eqb-false 46 47 refl, tt)

dots : Plain (46 ∷ 46 ∷ [])
dots = (eqb-false 46 47 refl, dot)

-- a segment behind a "/", with another one behind it
turn_led : (s t o : Bytes) → Plain s → ◌≡◌ {A = Bytes × Bytes} (turn (47 ∷ s ++ 47 ∷ t) o) (47 ∷ t, output true false s o)
unfolding turn begins same ascii first_segment output closed appended when◌then◌else◌
turn_led s t o h =
    rw (begins_segment (46 ∷ []) s t dot h, same-longer (46 ∷ []) s t dot, begins_segment (46 ∷ 46 ∷ []) s t dots h, same-longer (46 ∷ 46 ∷ []) s t dots)
    (go (same (46 ∷ []) s) (same (46 ∷ 46 ∷ []) s) refl refl)
  where
    go : (a b : Bool) → same (46 ∷ []) s ≡ a → same (46 ∷ 46 ∷ []) s ≡ b
        → ◌≡◌ {A = Bytes × Bytes}
        (when a then (drop 2 (47 ∷ s ++ 47 ∷ t), o) else when b then (drop 3 (47 ∷ s ++ 47 ∷ t), without_last o) else (from (among (47 ∷ [])) (s ++ 47 ∷ t), o ++ (47 ∷ up_to (among (47 ∷ [])) (s ++ 47 ∷ t))))
        (47 ∷ t, when a then o else when b then without_last o else o ++ 47 ∷ s)
    go true b e f = rw (← (same_true (46 ∷ []) s e))
    go false true e f = rw (← (same_true (46 ∷ 46 ∷ []) s f))
    go false false e f = rw (from-plain s t h, up_to_segment s t h)

-- "/" alone
left_slash : (o : Bytes) → left (47 ∷ []) o ≡ o ++ 47 ∷ []
unfolding left turns turn begins same ascii first_segment from up_to among when◌then◌else◌
left_slash o = refl

left-nothing : (o : Bytes) → left [] o ≡ o
unfolding left turns
left-nothing o = refl

none_last : without_last [] ≡ []
none_last = without_first [] tt

-- the last one behind a "/"
led_last : (s o : Bytes) → Plain s → left (47 ∷ s) o ≡ output true true s o
unfolding turn begins same ascii first_segment output closed appended when◌then◌else◌
led_last s o h =
    left-turn (47 ∷ s) o (omega arith)
    ∙ rw (begins-plain (46 ∷ []) s h, begins-plain (46 ∷ 46 ∷ []) s h, from_none s h, up_to_plain s h) (go (same (46 ∷ []) s) (same (46 ∷ 46 ∷ []) s))
  where
    behind : Bool → Bool → Bytes × Bytes
    behind a b = when a then (47 ∷ [], o) else when b then (47 ∷ [], without_last o) else ([], o ++ (47 ∷ s))

    go : (a b : Bool) → left (behind a b).0 (behind a b).1 ≡ (when a then o ++ 47 ∷ [] else when b then without_last o ++ 47 ∷ [] else o ++ 47 ∷ s)
    go true b = left_slash o
    go false true = left_slash (without_last o)
    go false false = left-nothing (o ++ 47 ∷ s)

-- the first one, with another one behind it
turn_first : (a : ℕ) (s t : Bytes) → Plain (a ∷ s)
    → ◌≡◌ {A = Bytes × Bytes} (turn (a ∷ s ++ 47 ∷ t) []) (when begun_by false (a ∷ s) then (47 ∷ t, output false false (a ∷ s) []) else (t, []))
unfolding turn begins same ascii first_segment output closed appended begun_by when◌then◌else◌
turn_first a s t h =
    rw (
      begins_segment (46 ∷ 46 ∷ []) (a ∷ s) t dots h,
      begins_segment (46 ∷ []) (a ∷ s) t dot h,
      ne_eqb 47 a (λ (e : 47 ≡ a). h.0 (sym e)),
      same-longer (46 ∷ []) (a ∷ s) t dot,
      same-longer (46 ∷ 46 ∷ []) (a ∷ s) t dots,
      from-plain s t h.1,
      up_to_segment s t h.1,
      none_last,
    )
    (go (same (46 ∷ []) (a ∷ s)) (same (46 ∷ 46 ∷ []) (a ∷ s)) refl refl)
  where
    go : (x y : Bool) → same (46 ∷ []) (a ∷ s) ≡ x → same (46 ∷ 46 ∷ []) (a ∷ s) ≡ y
        → ◌≡◌ {A = Bytes × Bytes} (when y then (drop 3 (a ∷ s ++ 47 ∷ t), []) else when x then (drop 2 (a ∷ s ++ 47 ∷ t), []) else (47 ∷ t, a ∷ s))
        (when not (x || y) then (47 ∷ t, when x then [] else when y then [] else a ∷ s) else (t, []))
    go true true e f = absurd (let z : ◌≡◌ {A = ℕ} 1 2 = ap length (same_true (46 ∷ []) (a ∷ s) e ∙ sym (same_true (46 ∷ 46 ∷ []) (a ∷ s) f)) in omega arith)
    go true false e f = rw (← (ap (drop 1) (same_true (46 ∷ []) (a ∷ s) e)))
    go false true e f = rw (← (ap (drop 1) (same_true (46 ∷ 46 ∷ []) (a ∷ s) f)))
    go false false e f = refl

-- the first one and the last
first_last : (s : Bytes) → Plain s → left s [] ≡ output false true s []
unfolding left turns turn begins same ascii first_segment output closed appended when◌then◌else◌
first_last [] h = refl
first_last (a ∷ s) h =
    left-turn (a ∷ s) [] (omega arith)
    ∙ rw (
      begins-plain (46 ∷ 46 ∷ []) (a ∷ s) h,
      begins-plain (46 ∷ []) (a ∷ s) h,
      ne_eqb 47 a (λ (e : 47 ≡ a). h.0 (sym e)),
      from_none s h.1,
      up_to_plain s h.1,
      none_last,
    )
    (go (same (46 ∷ []) (a ∷ s)) (same (46 ∷ 46 ∷ []) (a ∷ s)))
  where
    behind : Bool → Bool → Bytes × Bytes
    behind x y = when x || y then ([], []) else ([], a ∷ s)

    go : (x y : Bool) → left (behind x y).0 (behind x y).1 ≡ (when x then [] else when y then [] else a ∷ s)
    go true y = refl
    go false true = refl
    go false false = refl

-- ---- removing dot segments on the way is removing them at the end

-- the segments in a row, a "/" between them
unfoldable joined : List Bytes → Bytes
joined [] = []
joined (s ∷ []) = s
joined (s ∷ (t ∷ ss)) = s ++ 47 ∷ joined (t ∷ ss)

joined_cons : (s : Bytes) (ss : List Bytes) → is_last false ss ≡ false → joined (s ∷ ss) ≡ s ++ 47 ∷ joined ss
unfolding joined is_last
joined_cons s [] h = absurd (false≢true (sym h))
joined_cons s (t ∷ ss) h = refl

joined-onto : (c : ℕ) (ss : List Bytes) → is_last false ss ≡ false → joined (onto c ss) ≡ c ∷ joined ss
unfolding joined onto is_last
joined-onto c [] h = absurd (false≢true (sym h))
joined-onto c (s ∷ []) h = refl
joined-onto c (s ∷ (t ∷ ss)) h = refl

joined-split : (s : Bytes) → joined (split 47 s) ≡ s
unfolding joined split when◌then◌else◌
joined-split [] = refl
joined-split (c ∷ s) = go (eqb c 47) refl (joined-split s)
  where
    go : (t : Bool) → eqb c 47 ≡ t → joined (split 47 s) ≡ s → joined (when t then [] ∷ split 47 s else onto c (split 47 s)) ≡ c ∷ s
    go true e h = joined_cons [] (split 47 s) (split_never false s) ∙ rw (h, eqb-true c 47 e)
    go false e h = joined-onto c (split 47 s) (split_never false s) ∙ ap (c ∷◌) h

plain-onto : (c : ℕ) (ss : List Bytes) → (c ≡ 47 → ⊥) → All Plain ss → All Plain (onto c ss)
unfolding onto
plain-onto c [] n h = ((n, tt), tt)
plain-onto c (s ∷ ss) n h = ((n, h.0), h.1)

plain-split : (s : Bytes) → All Plain (split 47 s)
unfolding split when◌then◌else◌
plain-split [] = (tt, tt)
plain-split (c ∷ s) = go (eqb c 47) refl (plain-split s)
  where
    go : (t : Bool) → eqb c 47 ≡ t → All Plain (split 47 s) → All Plain (when t then [] ∷ split 47 s else onto c (split 47 s))
    go true e h = (tt, h)
    go false e h = plain-onto c (split 47 s) (eqb-false c 47 e) h

-- what the section's loop makes of the segments that are left, the first of which has its "/" where some came before
unfoldable left_from : Bool → Bytes → Bytes → Bytes
left_from true i o = left (47 ∷ i) o
left_from false i o = left i o

one_more_lem : (begun : Bool) (s t o : Bytes) → (begun ≡ false → o ≡ []) → Plain s → left_from begun (s ++ 47 ∷ t) o ≡ left_from (begun_by begun s) t (output begun false s o)
unfolding left_from begun_by output closed appended same ascii when◌then◌else◌
one_more_lem true s t o f h =
    left-turn (47 ∷ s ++ 47 ∷ t) o (omega arith) ∙ ap (λ (r : Bytes × Bytes). left r.0 r.1) (turn_led s t o h)
one_more_lem false [] t o f h = rw (f refl)
one_more_lem false (a ∷ s) t o f h =
    ap (left (a ∷ s ++ 47 ∷ t)) (f refl) ∙ left-turn (a ∷ s ++ 47 ∷ t) [] (omega arith) ∙ ap (λ (r : Bytes × Bytes). left r.0 r.1) (turn_first a s t h)
    ∙ rw (f refl) (go (same (46 ∷ []) (a ∷ s)) (same (46 ∷ 46 ∷ []) (a ∷ s)))
  where
    behind : Bool → Bool → Bytes × Bytes
    behind x y = when not (x || y) then (47 ∷ t, when x then [] else when y then without_last [] else (a ∷ s)) else (t, [])

    go : (x y : Bool) → left (behind x y).0 (behind x y).1 ≡ left_from (not (x || y)) t (when x then [] else when y then without_last [] else (a ∷ s))
    go true y = refl
    go false true = rw none_last
    go false false = refl

none_yet : (begun : Bool) (s o : Bytes) → (begun ≡ false → o ≡ []) → begun_by begun s ≡ false → output begun false s o ≡ []
unfolding begun_by output closed when◌then◌else◌
none_yet true s o f h = absurd (false≢true (sym h))
none_yet false s o f h = rw (f refl) (go (same (ascii ".") s) (same (ascii "..") s) h)
  where
    go : (x y : Bool) → not (x || y) ≡ false → (when x then [] else when y then without_last [] else appended false s []) ≡ []
    go true y h = refl
    go false true h = none_last
    go false false h = absurd (false≢true (sym h))

all_outputs : (begun : Bool) (s : Bytes) (ss : List Bytes) (o : Bytes) → (begun ≡ false → o ≡ []) → All Plain (s ∷ ss)
    → left_from begun (joined (s ∷ ss)) o ≡ outputs begun false (s ∷ ss) o
unfolding joined outputs is_last left_from
all_outputs true s [] o f h = led_last s o h.0
all_outputs false s [] o f h = rw (f refl) (first_last s h.0)
all_outputs begun s (t ∷ ss) o f h =
    one_more_lem begun s (joined (t ∷ ss)) o f h.0 ∙ all_outputs (begun_by begun s) t ss (output begun false s o) (none_yet begun s o f) h.1

pub removed_on_the_way : (p : Bytes) → remove_dot_segments p ≡ outputs false false (split 47 p) []
unfolding remove_dot_segments left left_from is_last
removed_on_the_way p = ap (λ (q : Bytes). left q []) (sym (joined-split p)) ∙ go (split 47 p) (split_never false p) (plain-split p)
  where
    go : (ss : List Bytes) → is_last false ss ≡ false → All Plain ss → left (joined ss) [] ≡ outputs false false ss []
    go [] h k = absurd (false≢true (sym h))
    go (s ∷ ss) h k = all_outputs false s ss [] (λ _. refl) k

-- of two paths in a row, with a "/" between them
pub merged_on_the_way : (a p : Bytes) → remove_dot_segments (a ++ 47 ∷ p) ≡ outputs (begun_after false (split 47 a)) false (split 47 p) (outputs false true (split 47 a) [])
merged_on_the_way a p = removed_on_the_way (a ++ 47 ∷ p) ∙ rw (split-append a p) (outputs-append false false (split 47 a) (split 47 p) [] (split_never false p))

-- ---- a path without dot segments

unfoldable pub is_dots : Bytes → Bool
is_dots s = same (ascii ".") s || same (ascii "..") s

none_dots : is_dots [] ≡ false
unfolding is_dots same ascii
none_dots = refl

neither : (a b : Bool) → (a || b) ≡ false → (a ≡ false) × (b ≡ false)
neither true b h = absurd (false≢true (sym h))
neither false b h = (refl, h)

module _ (begun : Bool) (s : Bytes) (h : is_dots s ≡ false) where
  output-plain : (last : Bool) (o : Bytes) → output begun last s o ≡ appended begun s o
  unfolding is_dots output when◌then◌else◌
  output-plain last o = let n = neither (same (ascii ".") s) (same (ascii "..") s) h in rw (n.0, n.1)

  begun-plain : begun_by begun s ≡ true
  unfolding is_dots begun_by
  begun-plain = rw h (or_true begun)

appended_twice : (begun : Bool) (s t o : Bytes) → appended true t (appended begun s o) ≡ appended begun (s ++ 47 ∷ t) o
unfolding appended
appended_twice true s t o = append_assoc o (47 ∷ s) (47 ∷ t)
appended_twice false s t o = append_assoc o s (47 ∷ t)

-- such segments go to the output as they stand
as_they_stand : (begun more : Bool) (s : Bytes) (ss : List Bytes) (o : Bytes) → All (λ (t : Bytes). is_dots t ≡ false) (s ∷ ss)
    → outputs begun more (s ∷ ss) o ≡ appended begun (joined (s ∷ ss)) o
unfolding outputs joined
as_they_stand begun more s [] o h = output-plain begun s h.0 (is_last more []) o
as_they_stand begun more s (t ∷ ss) o h =
    ap (λ (b : Bool). outputs b more (t ∷ ss) (output begun (is_last more (t ∷ ss)) s o)) (begun-plain begun s h.0)
    ∙ ap (outputs true more (t ∷ ss)) (output-plain begun s h.0 (is_last more (t ∷ ss)) o)
    ∙ as_they_stand true more t ss (appended begun s o) h.1 ∙ appended_twice begun s (joined (t ∷ ss)) o

all_begun : (begun : Bool) (s : Bytes) (ss : List Bytes) → All (λ (t : Bytes). is_dots t ≡ false) (s ∷ ss) → begun_after begun (s ∷ ss) ≡ true
unfolding begun_after
all_begun begun s [] h = begun-plain begun s h.0
all_begun begun s (t ∷ ss) h = ap (λ (b : Bool). begun_after b (t ∷ ss)) (begun-plain begun s h.0) ∙ all_begun true t ss h.1

-- does a segment begin with "."? The first one does not begin where a text does, if another one came before it
unfoldable pub starts_dot : Bool → Bytes → Bool
starts_dot start [] = false
starts_dot start (c ∷ s) = (start && eqb c 46) || starts_dot (eqb c 47) s

-- such a segment is no dot segment; of the first one that is known where it begins with the text
DotFree : Bool → List Bytes → Type 0
DotFree start [] = Unit {0}
DotFree start (s ∷ ss) = (start ≡ true → is_dots s ≡ false) × All (λ (t : Bytes). is_dots t ≡ false) ss

free_all : (ss : List Bytes) → DotFree true ss → All (λ (t : Bytes). is_dots t ≡ false) ss
unfolding DotFree
free_all [] h = tt
free_all (s ∷ ss) h = (h.0 refl, h.1)

other_dots : (c : ℕ) (s : Bytes) → eqb c 46 ≡ false → is_dots (c ∷ s) ≡ false
unfolding is_dots same ascii
other_dots c s n = rw (ne_eqb 46 c (λ (e : 46 ≡ c). eqb-false c 46 n (sym e)))

free-onto : (start : Bool) (c : ℕ) (ss : List Bytes) → (start && eqb c 46) ≡ false → DotFree false ss → DotFree start (onto c ss)
unfolding DotFree onto
free-onto start c [] n h = (λ e. other_dots c [] (rw e at n), tt)
free-onto start c (s ∷ ss) n h = (λ e. other_dots c s (rw e at n), h.1)

free-split : (start : Bool) (p : Bytes) → starts_dot start p ≡ false → DotFree start (split 47 p)
unfolding starts_dot split when◌then◌else◌ DotFree
free-split start [] h = (λ _. none_dots, tt)
free-split start (c ∷ s) h =
    let n = neither (start && eqb c 46) (starts_dot (eqb c 47) s) h in
    go (eqb c 47) refl n.0 (free-split (eqb c 47) s n.1)
  where
    go : (t : Bool) → eqb c 47 ≡ t → (start && eqb c 46) ≡ false → DotFree (eqb c 47) (split 47 s) → DotFree start (when t then [] ∷ split 47 s else onto c (split 47 s))
    go true e n h = (λ _. none_dots, free_all (split 47 s) (rw e at h))
    go false e n h = free-onto start c (split 47 s) n (rw e at h)

module _ (p : Bytes) (h : starts_dot true p ≡ false) where
  free : All (λ (t : Bytes). is_dots t ≡ false) (split 47 p)
  free = free_all (split 47 p) (free-split true p h)

  pub outputs-whole : (begun more : Bool) (o : Bytes) → outputs begun more (split 47 p) o ≡ appended begun p o
  unfolding is_last
  outputs-whole begun more o = go (split 47 p) (split_never false p) free ∙ ap (λ (s : Bytes). appended begun s o) (joined-split p)
    where
      go : (ss : List Bytes) → is_last false ss ≡ false → All (λ (t : Bytes). is_dots t ≡ false) ss → outputs begun more ss o ≡ appended begun (joined ss) o
      go [] n k = absurd (false≢true (sym n))
      go (s ∷ ss) n k = as_they_stand begun more s ss o k

  pub begun-whole : (begun : Bool) → begun_after begun (split 47 p) ≡ true
  unfolding is_last
  begun-whole begun = go (split 47 p) (split_never false p) free
    where
      go : (ss : List Bytes) → is_last false ss ≡ false → All (λ (t : Bytes). is_dots t ≡ false) ss → begun_after begun ss ≡ true
      go [] n k = absurd (false≢true (sym n))
      go (s ∷ ss) n k = all_begun begun s ss k

-- ---- the search for one

-- does a segment begin there?
unfoldable pub starts_at : Bytes → ℕ → Bool
starts_at p zero = true
starts_at p (suc n) = eqb (get_or p n 0) 47

pub starts_behind : (p : Bytes) (n : ℕ) → (n ≡ 0 → ⊥) → eqb (get_or p (n - 1) 0) 47 ≡ starts_at p n
unfolding starts_at
starts_behind p zero h = absurd (h refl)
starts_behind p (suc n) h = let e : suc n - 1 ≡ n = omega arith in rw e

-- the same behind the first n bytes of a text
flagged : Bool → Bytes → ℕ → Bool
flagged start s zero = start
flagged start s (suc n) = eqb (get_or s n 0) 47

flagged_at : (p : Bytes) (i n : ℕ) → flagged (starts_at p i) (drop i p) n ≡ starts_at p (i + n)
unfolding flagged starts_at
flagged_at p i zero = rw (add-zero i)
flagged_at p i (suc n) = let e : i + suc n ≡ suc (i + n) = omega arith in rw (e, get_or-drop)

flagged_cons : (start : Bool) (c : ℕ) (s : Bytes) (n : ℕ) → flagged start (c ∷ s) (suc n) ≡ flagged (eqb c 47) s n
unfolding flagged
flagged_cons start c s zero = refl
flagged_cons start c s (suc n) = refl

-- bytes that are no "." are passed over
passed_over : (start : Bool) (s : Bytes) → (let n = length (up_to (λ (c : ℕ). eqb c 46) s) in starts_dot (flagged start s n) (drop n s) ≡ false) → starts_dot start s ≡ false
unfolding starts_dot up_to when◌then◌else◌ flagged
passed_over start [] h = refl
passed_over start (c ∷ s) h = go (eqb c 46) refl h (passed_over (eqb c 47) s)
  where
    go : (t : Bool) → eqb c 46 ≡ t
        → (let n = length (when t then [] else (c ∷ up_to (λ (a : ℕ). eqb a 46) s)) in starts_dot (flagged start (c ∷ s) n) (drop n (c ∷ s)) ≡ false)
        → ((let n = length (up_to (λ (a : ℕ). eqb a 46) s) in starts_dot (flagged (eqb c 47) s n) (drop n s) ≡ false) → starts_dot (eqb c 47) s ≡ false)
        → ((start && eqb c 46) || starts_dot (eqb c 47) s) ≡ false
    go true e h f = h
    go false e h f =
        let n : ℕ = length (up_to (λ (a : ℕ). eqb a 46) s) in
        rw (e, and-false start) (f (rw (flagged_cons start c s n) at h))

-- a "." stands at `at`, and none that begins a segment stands before it
pub record Seeking (p : Bytes) (at : ℕ) : Type 0 where
  pub within : at ≤ length p
  pub dot : at < length p → get_or p at 0 ≡ 46
  pub rest : starts_dot (starts_at p at) (drop at p) ≡ false → starts_dot true p ≡ false

seeks : (p : Bytes) (i : ℕ) → i ≤ length p → (starts_dot (starts_at p i) (drop i p) ≡ false → starts_dot true p ≡ false)
    → Seeking p (i + length (up_to (λ (c : ℕ). eqb c 46) (drop i p)))
seeks p i l h =
    let n : ℕ = length (up_to (λ (c : ℕ). eqb c 46) (drop i p)) in
    let small : n ≤ length p - i = rw length-drop at (length_up_to (λ (c : ℕ). eqb c 46) (drop i p)) in
    record {
      within = omega arith;
      dot = λ b.
          eqb-true (get_or p (i + n) 0) 46
          (rw (get_or-drop i p n 0) at (up_to_stop (λ (c : ℕ). eqb c 46) (drop i p) (rw length-drop (omega arith))));
      rest = λ e. h (passed_over (starts_at p i) (drop i p) (rw (flagged_at p i n, drop-drop) e));
    }

pub seeking_begins : (p : Bytes) {n : ℕ} → n ≡ length (up_to (λ (c : ℕ). eqb c 46) p) → Seeking p n
unfolding starts_at
seeking_begins p {n} e = rw (e, ← (zero-add (length (up_to (λ (c : ℕ). eqb c 46) p)))) (seeks p 0 (omega arith) (λ h. h))

pub seeking_more : (p : Bytes) {at n : ℕ} → Seeking p at → at < length p → starts_at p at ≡ false → n ≡ length (up_to (λ (c : ℕ). eqb c 46) (drop (at + 1) p))
    → Seeking p (at + 1 + n)
unfolding starts_dot starts_at
seeking_more p {at} {n} h l f e =
    rw e
    (seeks p (at + 1) (omega arith) (λ q. h.rest (rw (drop-cons p at 0 l, f) (rw (add-one at) at q))))

pub seeking_done : (p : Bytes) {at : ℕ} → Seeking p at → length p ≤ at → starts_dot true p ≡ false
unfolding starts_dot
seeking_done p {at} h l = h.rest (rw (drop_of_length-le p l))
