-- The bytes that surely belong to the first event, line by line.
use mathlib.Core.Path.{◌≡◌, refl, sym, ap, ◌∙◌}
use mathlib.Core.Bool.{Bool, true, false, ◌&&◌, ◌||◌, false≢true}
use mathlib.Core.List.{[], ◌∷◌, ◌++◌, append_assoc, append-nil}
use Prim.Native.Nat.{ℕ, zero, suc, ◌+◌, ◌-◌, ◌<◌, ◌≤◌, min}
use native.Mathlib.Omega.{arith}
use lib.Dec.{eqb, ltb}
use lib.ListN.{length, take, drop, get_or, length-append, length-drop, drop_of_length-le}
use lib.Seq.{drop-cons, drop-drop, take-add, length-take-le}
use borrow.Author.Tests.{ltb-true, ltb-false, lt-ltb, le-ltb, ne_eqb}
use Rattle.std.specs.Prelude.{Ok, Err}
use Rattle.spec.specs.Bytes.{Bytes, byte, when◌then◌else◌, up_to}
use Rattle.spec.specs.Limits.{most_event_bytes}
use Rattle.spec.specs.PyxCut.{goes_on, may_go_on, Ending, sure, line_end, mid_line, in_front, reach, too_long, ended, in_length, cut}
use Rattle.pyx.specs.First.{Sized, Cuts, in_line, at_line_end}
use Rattle.pyx.specs.declared.FirstError.TheVariants.{Wait, Unended, TooLong}

-- a line's end
abbrev pub is_end : ℕ → Bool
is_end c = eqb c 10

-- several bytes in front
pub fronts : Bytes → Bytes × Ending → Bytes × Ending
fronts u r = (u ++ r.0, r.1)

fronts_fronts : (u v : Bytes) (r : Bytes × Ending) → fronts u (fronts v r) ≡ fronts (u ++ v) r
unfolding fronts
fronts_fronts u v r = rw (append_assoc u v r.0)

-- within a line, as far as it goes
within-line : (c : ℕ) (t : Bytes) (k : ℕ) → k ≤ length (up_to is_end t) → reach c false t ≡ fronts (take k t) (reach c false (drop k t))
unfolding up_to reach fronts in_front when◌then◌else◌ byte
within-line c t zero h = refl
within-line c [] (suc k) h = absurd (omega arith)
within-line c (b ∷ t) (suc k) h = go (eqb b 10) refl (within-line c t k) h
  where
    go : (x : Bool) → eqb b 10 ≡ x → (k ≤ length (up_to is_end t) → reach c false t ≡ fronts (take k t) (reach c false (drop k t)))
        → suc k ≤ length (when x then [] else (b ∷ up_to is_end t)) → in_front b (reach c (eqb b 10) t) ≡ fronts (b ∷ take k t) (reach c false (drop k t))
    go true e f h = absurd (omega arith)
    go false e f h = rw e (ap (in_front b) (f (omega arith)))

-- a line to its end
whole-line : (c : ℕ) (t : Bytes) → length (up_to is_end t) < length t
    → reach c false t ≡ fronts (take (suc (length (up_to is_end t))) t) (reach c true (drop (suc (length (up_to is_end t))) t))
unfolding up_to reach fronts in_front when◌then◌else◌ byte
whole-line c [] h = absurd (omega arith)
whole-line c (b ∷ t) h = go (eqb b 10) refl (whole-line c t) h
  where
    go : (x : Bool) → eqb b 10 ≡ x
        → (length (up_to is_end t) < length t → reach c false t ≡ fronts (take (suc (length (up_to is_end t))) t) (reach c true (drop (suc (length (up_to is_end t))) t)))
        → length (when x then [] else (b ∷ up_to is_end t)) < suc (length t)
        → in_front b (reach c (eqb b 10) t)
        ≡ fronts (take (suc (length (when x then [] else (b ∷ up_to is_end t)))) (b ∷ t)) (reach c true (drop (suc (length (when x then [] else (b ∷ up_to is_end t)))) (b ∷ t)))
    go true e f h = rw e refl
    go false e f h = rw e (ap (in_front b) (f (omega arith)))

-- the bytes before the first of a set, in the first n
pub up_to_first : (p : ℕ → Bool) (n : ℕ) (t : Bytes) → length (up_to p (take n t)) ≡ min n (length (up_to p t))
unfolding up_to when◌then◌else◌
up_to_first p zero t = omega arith
up_to_first p (suc n) [] = omega arith
up_to_first p (suc n) (b ∷ t) = go (p b) (up_to_first p n t)
  where
    go : (x : Bool) → length (up_to p (take n t)) ≡ min n (length (up_to p t))
        → length (when x then [] else (b ∷ up_to p (take n t))) ≡ min (suc n) (length (when x then [] else (b ∷ up_to p t)))
    go true h = omega arith
    go false h = omega arith

-- ---- a line that goes on

pub goes_on_end : (c b : ℕ) → goes_on c b ≡ true → eqb b 10 ≡ false
unfolding goes_on byte
goes_on_end c b h = ne_eqb b 10 λ e. false≢true (sym (go (eqb c 40) (eqb c 45) b e) ∙ h)
  where
    go : (p q : Bool) (b : ℕ) → b ≡ 10 → ((p && eqb b 65) || (q && eqb b 45)) ≡ false
    go true true b e = rw e refl
    go true false b e = rw e refl
    go false true b e = rw e refl
    go false false b e = refl

next_line : (c b : ℕ) (t : Bytes) → goes_on c b ≡ true → reach c true (b ∷ t) ≡ reach c false (b ∷ t)
unfolding reach byte
next_line c b t h = rw (h, reach) (rw (goes_on_end c b h) refl)

no_line : (c b : ℕ) (t : Bytes) → goes_on c b ≡ false → reach c true (b ∷ t) ≡ ([], sure)
unfolding reach
no_line c b t h = rw (h, reach) refl

-- ---- the search for the event's end: its last line so far begins at `at`, and `seen` bytes are looked at

pub record Reaching (c : ℕ) (s : Bytes) (seen at : ℕ) : Type 0 where
  pub first : c ≡ get_or s 0 0
  pub some : at < seen
  pub within : seen ≤ length s
  pub most : seen ≤ 32_769
  pub short : seen ≤ 32_768 → seen ≡ length s
  pub rest : reach c false s ≡ fronts (take at s) (reach c false (drop at s))

pub reaching_begins : {c : ℕ} {s : Bytes} {seen : ℕ} → c ≡ get_or s 0 0 → 0 < seen → seen ≤ length s → seen ≤ 32_769 → (seen ≤ 32_768 → seen ≡ length s) → Reaching c s seen 0
unfolding fronts
reaching_begins e a b d f = record { first = e; some = a; within = b; most = d; short = f; rest = refl }

cut-some : (last : Bool) (c : ℕ) (s : Bytes) → c ≡ get_or s 0 0 → 0 < length s → cut last s ≡ in_length last (reach c false s)
unfolding cut
cut-some last c [] e h = absurd (omega arith)
cut-some last c (a ∷ s) e h = rw e refl

-- event length is judged first
too_long_lem : (last : Bool) (u : Bytes) (r : Bytes × Ending) → 32_768 < length u → in_length last (fronts u r) ≡ too_long
unfolding in_length fronts when◌then◌else◌ most_event_bytes
too_long_lem last u r h = rw (lt-ltb 32_768 (length (u ++ r.0)) (rw (length-append u r.0) (omega arith)))

in_limit_lem : (last : Bool) (u : Bytes) (x : Ending) → length u ≤ 32_768 → in_length last (fronts u ([], x)) ≡ ended last (u, x)
unfolding in_length fronts when◌then◌else◌ most_event_bytes
in_limit_lem last u x h = rw (append-nil u, le-ltb 32_768 (length u) h)

-- a front in two parts
joins : (s : Bytes) (a n : ℕ) → take a s ++ take n (drop a s) ≡ take (a + n) s
joins s a n = sym (take-add a n s)

module _ {c : ℕ} {s : Bytes} {seen at : ℕ} (r : Reaching c s seen at) {line : ℕ} (e : line ≡ length (up_to is_end (take (seen - at) (drop at s)))) where
  counted : line ≡ min (seen - at) (length (up_to is_end (drop at s)))
  counted = e ∙ up_to_first is_end (seen - at) (drop at s)

  pub line-within : line ≤ seen - at
  line-within = omega (arith, counted)

  -- all that is seen is within the line
  in_line_lem : line ≡ seen - at → reach c false s ≡ fronts (take seen s) (reach c false (drop seen s))
  in_line_lem h =
      let q : at + (seen - at) ≡ seen = omega (arith, r.some) in
      let b : seen - at ≤ length (up_to is_end (drop at s)) = omega (arith, counted) in
      r.rest ∙ rw (within-line c (drop at s) (seen - at) b, fronts_fronts, joins s at (seen - at), drop-drop, q)

  -- the line ends
  line-ends : (line ≡ seen - at → ⊥) → (at + line + 1 ≤ seen) × (reach c false s ≡ fronts (take (at + line + 1) s) (reach c true (drop (at + line + 1) s)))
  line-ends h =
      let b : line < seen - at = omega (arith, counted) in
      let q : length (up_to is_end (drop at s)) ≡ line = omega (arith, counted) in
      let l : length (up_to is_end (drop at s)) < length (drop at s) = omega (arith, length-drop at s, r.within) in
      let z : at + suc line ≡ at + line + 1 = omega arith in
      (omega (arith, r.some), r.rest ∙ rw (whole-line c (drop at s) l, q, fronts_fronts, joins s at (suc line), drop-drop, z))

  is_cut : (last : Bool) → cut last s ≡ in_length last (reach c false s)
  is_cut last = cut-some last c s r.first (omega (arith, r.some, r.within))

  -- all that is seen belongs to the event, and x follows
  module _ (x : Bool) (h : reach c false s ≡ fronts (take seen s) (reach c x (drop seen s))) where
    passed : (last : Bool) → 32_768 < seen → too_long ≡ cut last s
    passed last b = sym (is_cut last ∙ (ap (in_length last) h ∙ too_long_lem last (take seen s) (reach c x (drop seen s)) (rw (length-take-le seen s r.within) b)))

    stopped : (last : Bool) (y : Ending) → reach c x [] ≡ ([], y) → seen ≤ 32_768 → ended last (take seen s, y) ≡ cut last s
    stopped last y q b =
        let z : drop seen s ≡ [] = drop_of_length-le s {i = seen} (omega (arith, r.short b)) in
        sym (is_cut last ∙ (ap (in_length last) (h ∙ rw (z, q)) ∙ in_limit_lem last (take seen s) y (rw (length-take-le seen s r.within) b)))

  sized : seen ≤ 32_768 → Sized seen s
  unfolding most_event_bytes
  sized b = record { some = omega (arith, r.some); within = r.within; most = b }

  -- what `first_event` answers
  pub reaching_in_line : (last : Bool) → line ≡ seen - at → Cuts (in_line seen last) last s
  unfolding in_line most_event_bytes when◌then◌else◌ reach ended
  reaching_in_line last h = go (ltb 32_768 seen) last refl
    where
      go : (t l : Bool) → ltb 32_768 seen ≡ t → Cuts (when t then Err TooLong else when l then Err Unended else Err Wait) l s
      go true l q = record { means = passed false (in_line_lem h) l (ltb-true 32_768 seen q); sizes = tt }
      go false true q = record { means = stopped false (in_line_lem h) true mid_line refl (ltb-false 32_768 seen q); sizes = tt }
      go false false q = record { means = stopped false (in_line_lem h) false mid_line refl (ltb-false 32_768 seen q); sizes = tt }

  pub reaching_line_end : (last : Bool) → (line ≡ seen - at → ⊥) → at + line + 1 ≡ seen → Cuts (at_line_end seen last (may_go_on c)) last s
  unfolding at_line_end most_event_bytes when◌then◌else◌ reach ended
  reaching_line_end last h q = go (ltb 32_768 seen) last (may_go_on c) refl refl
    where
      all : reach c false s ≡ fronts (take seen s) (reach c true (drop seen s))
      all = rw q at (line-ends h).1

      go : (t l m : Bool) → ltb 32_768 seen ≡ t → may_go_on c ≡ m → Cuts (when t then Err TooLong else when l then Ok seen else when m then Err Wait else Ok seen) l s
      go true l m e g = record { means = passed true all l (ltb-true 32_768 seen e); sizes = tt }
      go false true true e g = record { means = stopped true all true line_end (rw g) (ltb-false 32_768 seen e); sizes = sized (ltb-false 32_768 seen e) }
      go false true false e g = record { means = stopped true all true sure (rw g) (ltb-false 32_768 seen e); sizes = sized (ltb-false 32_768 seen e) }
      go false false true e g = record { means = stopped true all false line_end (rw g) (ltb-false 32_768 seen e); sizes = tt }
      go false false false e g = record { means = stopped true all false sure (rw g) (ltb-false 32_768 seen e); sizes = sized (ltb-false 32_768 seen e) }

  module _ (h : line ≡ seen - at → ⊥) (q : at + line + 1 ≡ seen → ⊥) where
    pub more : at + line + 1 < seen
    more = omega (arith, (line-ends h).0)

    ahead : drop (at + line + 1) s ≡ get_or s (at + line + 1) 0 ∷ drop (suc (at + line + 1)) s
    ahead = drop-cons s (at + line + 1) 0 (omega (arith, more, r.within))

    pub reaching_stops : (last : Bool) → goes_on c (get_or s (at + line + 1) 0) ≡ false → Cuts (Ok (at + line + 1)) last s
    unfolding most_event_bytes ended
    reaching_stops last g =
        let k : length (take (at + line + 1) s) ≡ at + line + 1 = length-take-le (at + line + 1) s (omega (arith, more, r.within)) in
        record {
          means =
              sym
              (is_cut last
              ∙ (ap (in_length last) ((line-ends h).1 ∙ rw (ahead, no_line c (get_or s (at + line + 1) 0) (drop (suc (at + line + 1)) s) g))
              ∙ in_limit_lem last (take (at + line + 1) s) sure (rw k (omega (arith, more, r.most)))));
          sizes = record { some = omega arith; within = omega (arith, more, r.within); most = omega (arith, more, r.most) };
        }

    pub reaching_more : goes_on c (get_or s (at + line + 1) 0) ≡ true → Reaching c s seen (at + line + 1)
    reaching_more g =
        record {
          first = r.first;
          some = more;
          within = r.within;
          most = r.most;
          short = r.short;
          rest = (line-ends h).1 ∙ rw (ahead) (ap (fronts (take (at + line + 1) s)) (next_line c (get_or s (at + line + 1) 0) (drop (suc (at + line + 1)) s) g));
        }

-- an empty rest
pub cuts_nothing : (last : Bool) (s : Bytes) → length s ≡ 0 → Cuts (Err Wait) last s
unfolding cut
cuts_nothing last [] h = record { means = refl; sizes = tt }
cuts_nothing last (a ∷ s) h = absurd (omega arith)
