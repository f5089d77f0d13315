-- A writer in two passes: it counts always, and stores where it is on. What has no room is counted and not stored.
use Rattle.std.specs.Prelude.{ℕ, ◌+◌, ◌-◌, ◌<◌, ◌≤◌, min, ◌≡◌, refl, Bool, true, false, List, [], ◌++◌, ◌⊎◌, leb, length, take, drop}
use Rattle.std.proofs.Common.{sym, ap, ◌∙◌, append-nil, inl, inr, ⊎_elim, add-zero, arith, length-append, length-take, length-drop, take-append-drop, drop_of_length-le, take_all, drop-drop, leb-true, leb-false}
use Rattle.std.proofs.Math.Seq.{take-nil, take-append-add}
use Rattle.std.proofs.lemmas.List.{take-append-le}
use Rattle.copy.specs.Copy.{stored_at, length_stored, stored_stored, take_before, rest_of, lent_back, rest-within, Wrote, wrote_same}

-- the largest number that a usize counts to
abbrev pub most : ℕ
most = 18446744073709551615

-- `n` more than `at`: a count that has reached `most` stays there
abbrev pub counted : ℕ → ℕ → ℕ
counted at n = min (at + n) most

-- the bytes of `s` that have room in `d` from `at` on
unfoldable pub fitting : List ℕ → ℕ → List ℕ → List ℕ
fitting d at s = take (min (length d) most - at) s

-- `d` behind a writer of `s` at `at`
unfoldable pub behind : Bool → List ℕ → ℕ → List ℕ → List ℕ
behind true d at s = stored_at d at (fitting d at s)
behind false d at s = d

-- What a writer of `s` at `at` does to `d`: `e` is behind it, and `to` is its count.
pub record Put (on : Bool) (d e : List ℕ) (at to : ℕ) (s : List ℕ) : Type 0 where
  pub up : to ≡ counted at (length s)
  pub same : length e ≡ length d
  pub eq : e ≡ behind on d at s

-- ---- counts

-- a row of counts is the count of the row
pub counted-counted : (at n m : ℕ) → counted (counted at n) m ≡ counted at (n + m)
counted-counted at n m = omega arith

-- below `most` it is plain addition
pub counted-below : (at n : ℕ) → counted at n < most → counted at n ≡ at + n
counted-below at n h = omega arith

-- one way or the other
pub compare : (a b : ℕ) → (a ≤ b) ⊎ (b < a)
compare a b = go (leb a b) refl
  where
    go : (t : Bool) → leb a b ≡ t → (a ≤ b) ⊎ (b < a)
    go true h = inl (leb-true a b h)
    go false h = inr (leb-false a b h)

-- ---- what there is room for

fitting_all : (d : List ℕ) (at : ℕ) (s : List ℕ) → at + length s ≤ min (length d) most → fitting d at s ≡ s
unfolding fitting
fitting_all d at s h = take_all (min (length d) most - at) s (omega arith)

fitting_none : (d : List ℕ) (at : ℕ) (s : List ℕ) → min (length d) most ≤ at → fitting d at s ≡ []
unfolding fitting
fitting_none d at s h = let z : min (length d) most - at ≡ 0 = omega arith in rw z

fitting-room : (d : List ℕ) (at : ℕ) (s : List ℕ) → at ≤ length d → at + length (fitting d at s) ≤ length d
unfolding fitting
fitting-room d at s h = simp length-take (omega arith)

-- nothing stored
stored_none : (d : List ℕ) (at : ℕ) → stored_at d at [] ≡ d
unfolding stored_at
stored_none d at = rw add-zero (take-append-drop at d)

-- ---- on or off

pub behind_off : {on : Bool} (d : List ℕ) (at : ℕ) (s : List ℕ) → on ≡ false → behind on d at s ≡ d
unfolding behind
behind_off d at s h = rw h

behind_fits : {on : Bool} (d : List ℕ) (at : ℕ) (s : List ℕ) → on ≡ true → at + length s ≤ min (length d) most → behind on d at s ≡ stored_at d at s
unfolding behind
behind_fits d at s h r = rw (h, fitting_all d at s r)

behind_part : {on : Bool} (d : List ℕ) (at : ℕ) (s : List ℕ) → on ≡ true → length d ≤ most → behind on d at s ≡ stored_at d at (take (length d - at) s)
unfolding behind fitting
behind_part d at s h r = let m : min (length d) most ≡ length d = omega arith in rw (h, m)

behind_full : (on : Bool) (d : List ℕ) (at : ℕ) (s : List ℕ) → min (length d) most ≤ at → behind on d at s ≡ d
unfolding behind
behind_full true d at s h = rw (fitting_none d at s h, stored_none d at)
behind_full false d at s h = refl

behind_none : (on : Bool) (d : List ℕ) (at : ℕ) → behind on d at [] ≡ d
unfolding behind fitting
behind_none true d at = rw (take-nil, stored_none d at)
behind_none false d at = refl

behind_same : (on : Bool) (d : List ℕ) (at : ℕ) (s : List ℕ) → length (behind on d at s) ≡ length d
unfolding behind
behind_same false d at s = refl
behind_same true d at s =
    ⊎_elim
    (λ (h : at ≤ length d). length_stored d at (fitting d at s) (fitting-room d at s h))
    (λ (h : length d < at). rw (fitting_none d at s (omega arith), stored_none d at))
    (compare at (length d))

behind_before : (on : Bool) (d : List ℕ) (at : ℕ) (s : List ℕ) → take at (behind on d at s) ≡ take at d
unfolding behind
behind_before false d at s = refl
behind_before true d at s =
    ⊎_elim
    (λ (h : at ≤ length d). take_before d at (fitting d at s) (fitting-room d at s h) at (omega arith))
    (λ (h : length d < at). rw (fitting_none d at s (omega arith), stored_none d at))
    (compare at (length d))

-- ---- writes in a row

-- where all of the first has room, the second stands right behind it; where not, the second has none
behind_then : (on : Bool) (d : List ℕ) (at : ℕ) (s t : List ℕ) → behind on (behind on d at s) (counted at (length s)) t ≡ behind on d at (s ++ t)
unfolding behind fitting
behind_then false d at s t = refl
behind_then true d at s t = ⊎_elim roomy full (compare (at + length s) (min (length d) most))
  where
    roomy : at + length s ≤ min (length d) most → behind true (behind true d at s) (counted at (length s)) t ≡ behind true d at (s ++ t)
    roomy h =
        let c : counted at (length s) ≡ at + length s = omega arith in
        let l : length (stored_at d at s) ≡ length d = length_stored d at s (omega arith) in
        let m : min (length d) most - at ≡ length s + (min (length d) most - (at + length s)) = omega arith in
        let f : fitting d at (s ++ t) ≡ s ++ fitting (stored_at d at s) (at + length s) t =
        ap (λ (n : ℕ). take n (s ++ t)) m ∙ take-append-add s t (min (length d) most - (at + length s)) ∙ rw l in
        rw (fitting_all d at s h, c, f)
        (stored_stored d at s (fitting (stored_at d at s) (at + length s) t)
        (omega (arith, fitting-room (stored_at d at s) (at + length s) t (omega arith))))

    full : min (length d) most < at + length s → behind true (behind true d at s) (counted at (length s)) t ≡ behind true d at (s ++ t)
    full h =
        let l : length (behind true d at s) ≡ length d = behind_same true d at s in
        let f : fitting d at (s ++ t) ≡ fitting d at s = take-append-le (min (length d) most - at) s t (omega arith) in
        behind_full true (behind true d at s) (counted at (length s)) t (omega arith) ∙ rw f

-- Writers in a row: `puts p (puts q r)` wrote `s ++ (t ++ u)`.
pub puts : {on : Bool} {d e f : List ℕ} {at to up : ℕ} {s t : List ℕ} → Put on d e at to s → Put on e f to up t → Put on d f at up (s ++ t)
puts {on} {d} {e} {f} {at} {to} {up} {s} {t} p q =
    record {
      up = rw length-append (omega (arith, p.up, q.up));
      same = q.same ∙ p.same;
      eq = q.eq ∙ rw (p.eq, p.up) (behind_then on d at s t);
    }

-- the same bytes said otherwise
pub put_as : {on : Bool} {d e : List ℕ} {at to : ℕ} {s t : List ℕ} → Put on d e at to s → s ≡ t → Put on d e at to t
put_as p q = rw (← q) p

pub put_none : {on : Bool} {d : List ℕ} {at : ℕ} → at ≤ most → Put on d d at at []
put_none {on} {d} {at} h = record { up = omega arith; same = refl; eq = sym (behind_none on d at) }

-- ---- what the writers of this crate cite

-- no store: it is off, or nothing has room
pub put_off : {on : Bool} {d s : List ℕ} {at to : ℕ} → on ≡ false → to ≡ counted at (length s) → Put on d d at to s
put_off {on} {d} {s} {at} f u = record { up = u; same = refl; eq = sym (behind_off d at s f) }

pub put_full : {on : Bool} {d s : List ℕ} {at to : ℕ} → length d ≤ at → to ≡ counted at (length s) → Put on d d at to s
put_full {on} {d} {s} {at} h u = record { up = u; same = refl; eq = sym (behind_full on d at s (omega arith)) }

-- all of it, and what there is room for
pub put_all : {on : Bool} {d e s : List ℕ} {at to : ℕ} → on ≡ true → length d ≤ most → Wrote d e at to s → Put on d e at to s
put_all {on} {d} {e} {s} {at} t l w =
    record { up = omega (arith, w.room); same = wrote_same w; eq = w.eq ∙ sym (behind_fits d at s t (omega (arith, w.room))) }

pub put-part : {on : Bool} {d e s : List ℕ} {at to up : ℕ} → on ≡ true → length d ≤ most → to ≡ counted at (length s) → Wrote d e at up (take (length d - at) s) → Put on d e at to s
put-part {on} {d} {e} {s} {at} t l u w =
    record { up = u; same = wrote_same w; eq = w.eq ∙ sym (behind_part d at s t l) }

-- ---- what a caller learns

-- a count below `most` is exact
pub put-counts : {on : Bool} {d e s : List ℕ} {at to : ℕ} → Put on d e at to s → to < most → to ≡ at + length s
put-counts p h = omega (arith, p.up)

-- off, it leaves everything
pub put_measures : {on : Bool} {d e s : List ℕ} {at to : ℕ} → Put on d e at to s → on ≡ false → e ≡ d
put_measures {on} {d} {e} {s} {at} p f = p.eq ∙ behind_off d at s f

-- on, what has room is there
pub put_wrote : {on : Bool} {d e s : List ℕ} {at to : ℕ} → Put on d e at to s → on ≡ true → length d ≤ most → at + length s ≤ length d → Wrote d e at to s
put_wrote {on} {d} {e} {s} {at} p t l h =
    record { room = h; up = omega (arith, p.up); eq = p.eq ∙ behind_fits d at s t (omega arith) }

-- measured, and then stored where it has room
pub put_both : {off on : Bool} {d c e s : List ℕ} {at n to : ℕ} → Put off d c at n s → Put on c e at to s → off ≡ false → on ≡ true → n ≤ length d → length d < most → Wrote d e at to s
put_both {off} {on} {d} {c} {e} {s} {at} {n} {to} p q f t h l =
    put_wrote (rw (put_measures p f) at q) t (omega arith) (omega (arith, p.up))

-- nothing before `at` changes
pub put_before : {on : Bool} {d e s : List ℕ} {at to : ℕ} → Put on d e at to s → take at e ≡ take at d
put_before {on} {d} {e} {s} {at} p = rw p.eq (behind_before on d at s)

-- the contract determines what a writer does
pub put_unique : {on : Bool} {d e f s : List ℕ} {at to up : ℕ} → Put on d e at to s → Put on d f at up s → (e ≡ f) × (to ≡ up)
put_unique p q = (p.eq ∙ sym q.eq, p.up ∙ sym q.up)

-- ---- the tail of a slice, lent on for the next bytes

behind_tail : (on : Bool) (d : List ℕ) (at : ℕ) (s : List ℕ) → at ≤ length d → length d ≤ most → stored_at d at (behind on (drop at d) 0 s) ≡ behind on d at s
unfolding behind fitting
behind_tail false d at s h m =
    let z : drop (at + (length d - at)) d ≡ [] = drop_of_length-le d {i = at + (length d - at)} (omega arith) in
    sym (lent_back d at (length d - at) (drop at d) (length-drop at d)) ∙ rw (drop-drop, z, append-nil) (take-append-drop at d)
behind_tail true d at s h m =
    let l : length (drop at d) ≡ length d - at = length-drop at d in
    let n : min (length (drop at d)) most - 0 ≡ min (length d) most - at = omega arith in
    rw n (rest-within d at 0 (take (min (length d) most - at) s) (simp length-take (omega arith)) ∙ rw add-zero)

-- a write into `&mut d[at..]`, seen from the whole
pub put_tail : {on : Bool} {d y s : List ℕ} {at n to : ℕ} → at ≤ length d → length d ≤ most → Put on (take (length d - at) (drop at d)) y 0 n s
    → to ≡ counted at n → Put on d (take at d ++ (y ++ drop (length d - at) (drop at d))) at to s
put_tail {on} {d} {y} {s} {at} {n} {to} h m p u =
    let q : Put on (drop at d) y 0 n s = rw rest_of at p in
    let l : length y ≡ length d - at = q.same ∙ length-drop at d in
    let b : take at d ++ (y ++ drop (length d - at) (drop at d)) ≡ stored_at d at y = lent_back d at (length d - at) y l in
    let e : stored_at d at y ≡ behind on d at s = rw q.eq (behind_tail on d at s h m) in
    rw b (record { up = omega (arith, q.up); same = ap length e ∙ behind_same on d at s; eq = e })
