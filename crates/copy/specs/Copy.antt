-- Bytes stored into a slice at a place: what stands there then, what stays, and stores in a row.
use Rattle.std.specs.Prelude.{ℕ, ◌+◌, ◌-◌, ◌<◌, ◌≤◌, ◌≡◌, refl, Bool, true, false, List, [], ◌∷◌, ◌++◌, ◌⊎◌, leb, take, set}
use Rattle.std.proofs.Math.Path.{sym, ap}
use Rattle.std.proofs.Common.{◌∙◌, append_assoc, inl, inr, ⊎_elim, add-one, add_assoc, add-zero, arith, drop_of_length-le, length-append, length-take, take-append-drop, take_all, drop_at, take-add, length-take-le, get_or-take, get_or-drop, ext_get_or, le-leb, leb-true, leb-false}
use Rattle.std.proofs.Math.ListN.{length, get_or, drop, length-drop, get_or-append}
use Rattle.std.proofs.Math.Seq.{take-length, take-nil, take_at, take-take, drop-drop, get_or-append-add, drop-append-add}
use Rattle.std.proofs.lemmas.List.{drop-append-le, set_split}
use Rattle.std.proofs.lemmas.Bool.{lt-leb}

-- `d` with `s` in place of what stood from `at` on
unfoldable pub stored_at : {A : Type 0} → List A → ℕ → List A → List A
stored_at d at s = take at d ++ (s ++ drop (at + length s) d)

-- the `n` elements from `at` on
unfoldable pub part : List ℕ → ℕ → ℕ → List ℕ
part w at n = take n (drop at w)

-- What `put` does to `d`: `e` is behind it, `r` its answer.
pub record Put {A : Type 0} (d : List A) (at : ℕ) (s e : List A) (r : Bool) : Type 0 where
  pub answer : r ≡ leb (at + length s) (length d)
  pub wrote : at + length s ≤ length d → e ≡ stored_at d at s
  pub kept : length d < at + length s → e ≡ d
  pub same : length e ≡ length d

-- What a writer does that had room: from `at` it wrote `s`, up to `to`, and left the rest.
pub record Wrote (d e : List ℕ) (at to : ℕ) (s : List ℕ) : Type 0 where
  pub room : at + length s ≤ length d
  pub up : to ≡ at + length s
  pub eq : e ≡ stored_at d at s

-- ---- lengths

pub length_part : (w : List ℕ) (at n : ℕ) → at + n ≤ length w → length (part w at n) ≡ n
unfolding part
length_part w at n h = simp (length-take, length-drop) (omega arith)

pub part_short : (w : List ℕ) (at n : ℕ) → length (part w at n) ≤ length w
unfolding part
part_short w at n = simp (length-take, length-drop) (omega arith)

pub length_stored : {A : Type 0} (d : List A) (at : ℕ) (s : List A) → at + length s ≤ length d → length (stored_at d at s) ≡ length d
unfolding stored_at
length_stored d at s h = simp (length-append, length-take, length-drop) (omega arith)

opened : {A : Type 0} (d : List A) (at : ℕ) (s : List A) → stored_at d at s ≡ take at d ++ (s ++ drop (at + length s) d)
unfolding stored_at
opened d at s = refl

-- ---- `put`

-- no room, and nothing done
pub put_none : {A : Type 0} {d s : List A} {at : ℕ} → length d < at + length s → Put d at s d false
put_none {A} {d} {s} {at} h =
    record { answer = sym (lt-leb (at + length s) (length d) h); wrote = λ l. absurd (omega arith); kept = λ _. refl; same = refl }

-- `&mut w[at..to]`, back from a call that left `y` there: `k` is its length
pub lent_back : {A : Type 0} (w : List A) (at k : ℕ) (y : List A) → length y ≡ k → take at w ++ (y ++ drop k (drop at w)) ≡ stored_at w at y
unfolding stored_at
lent_back w at k y e = rw (← e, drop-drop (length y) at w)

-- all of `s` stored in a part that was lent
pub put_all : {A : Type 0} {d s y : List A} {at k : ℕ} → at + length s ≤ length d → y ≡ s → length s ≡ k → Put d at s (take at d ++ (y ++ drop k (drop at d))) true
put_all {A} {d} {s} {y} {at} {k} h q l =
    let e : take at d ++ (y ++ drop k (drop at d)) ≡ stored_at d at s = rw q (lent_back d at k s l) in
    record {
      answer = sym (le-leb (at + length s) (length d) h);
      wrote = λ _. e;
      kept = λ b. absurd (omega arith);
      same = ap length e ∙ length_stored d at s h;
    }

-- `store_arrays` from the front on: the first `i` elements of `s` stand in what was `d`
pub record Copied {A : Type 0} (d s e : List A) (i : ℕ) : Type 0 where
  pub long : length d ≡ length s
  pub upto : i ≤ length s
  pub eq : e ≡ take i s ++ drop i d

pub copied-begins : {A : Type 0} {d s : List A} → length d ≡ length s → Copied d s d 0
copied-begins h = record { long = h; upto = omega arith; eq = refl }

-- `n` elements more, in a part that was lent
pub copied_more : {A : Type 0} {d s e y : List A} {i n k : ℕ} → Copied d s e i → i + n ≤ length s → k ≡ n → y ≡ take k (drop i s)
    → Copied d s (take i e ++ (y ++ drop k (drop i e))) (i + n)
copied_more {A} {d} {s} {e} {y} {i} {n} {k} h b q w =
    let l : length (take i s) ≡ i = length-take-le i s h.upto in
    let front : take i e ≡ take i s = rw h.eq (take_at (take i s) (drop i d) i l) in
    let back : drop n (drop i e) ≡ drop (i + n) d =
    drop-drop n i e ∙ (rw h.eq (ap (λ (m : ℕ). drop (m + n) (take i s ++ drop i d)) (sym l) ∙ drop-append-add (take i s) (drop i d) n) ∙ drop-drop n i d) in
    record {
      long = h.long;
      upto = b;
      eq = rw (front, w, q, back) (sym (append_assoc (take i s) (take n (drop i s)) (drop (i + n) d)) ∙ ap (λ (t : List A). t ++ drop (i + n) d) (sym (take-add i n s)));
    }

-- all the rest, from a place that is reached
pub copied_done : {A : Type 0} {d s e y : List A} {i at : ℕ} → Copied d s e i → at ≤ i → y ≡ drop at s → take at e ++ y ≡ s
copied_done {A} {d} {s} {e} {y} {i} {at} h b q =
    let l : length (take i s) ≡ i = length-take-le i s h.upto in
    let front : take at e ≡ take at s =
    rw h.eq (sym (take-take at i (take i s ++ drop i d) b) ∙ (ap (take at) (take_at (take i s) (drop i d) i l) ∙ take-take at i s b)) in
    rw (front, q) (take-append-drop at s)

-- ---- what a caller learns from the answer

pub put_true : {d s e : List ℕ} {at : ℕ} {r : Bool} → Put d at s e r → r ≡ true → Wrote d e at (at + length s) s
put_true {d} {s} {e} {at} p y =
    let room : at + length s ≤ length d = leb-true (at + length s) (length d) (sym p.answer ∙ y) in
    record { room = room; up = refl; eq = p.wrote room }

pub put_false : {d s e : List ℕ} {at : ℕ} {r : Bool} → Put d at s e r → r ≡ false → e ≡ d
put_false {d} {s} {e} {at} p n = p.kept (leb-false (at + length s) (length d) (sym p.answer ∙ n))

-- where the caller knows that there is room, or that there is none
pub put-fits : {d s e : List ℕ} {at : ℕ} {r : Bool} → Put d at s e r → at + length s ≤ length d → Wrote d e at (at + length s) s
put-fits p room = record { room = room; up = refl; eq = p.wrote room }

pub put_does : {d s e : List ℕ} {at : ℕ} {r : Bool} → Put d at s e r → at + length s ≤ length d → r ≡ true
put_does {d} {s} {e} {at} p room = p.answer ∙ le-leb (at + length s) (length d) room

pub put_refuses : {d s e : List ℕ} {at : ℕ} {r : Bool} → Put d at s e r → length d < at + length s → r ≡ false
put_refuses {d} {s} {e} {at} p short = p.answer ∙ lt-leb (at + length s) (length d) short

-- ---- stores in a row

module _ (d : List ℕ) (at : ℕ) (a : List ℕ) (h : at + length a ≤ length d) where
  head-length : length (take at d ++ a) ≡ at + length a
  head-length = simp (length-append, length-take) (omega arith)

  -- up to the end of what was stored
  pub take_stored : take (at + length a) (stored_at d at a) ≡ take at d ++ a
  unfolding stored_at
  take_stored =
      ap (take (at + length a)) (sym (append_assoc (take at d) a (drop (at + length a) d)))
      ∙ take_at (take at d ++ a) (drop (at + length a) d) (at + length a) head-length

  -- behind what was stored
  pub drop_stored : (n : ℕ) → drop (at + length a + n) (stored_at d at a) ≡ drop (at + length a + n) d
  unfolding stored_at
  drop_stored n =
      ap (drop (at + length a + n)) (sym (append_assoc (take at d) a (drop (at + length a) d)))
      ∙ ap (λ (m : ℕ). drop (m + n) ((take at d ++ a) ++ drop (at + length a) d)) (sym head-length)
      ∙ drop-append-add (take at d ++ a) (drop (at + length a) d) n
      ∙ drop-drop n (at + length a) d

  -- before what was stored
  pub take_before : (n : ℕ) → n ≤ at → take n (stored_at d at a) ≡ take n d
  unfolding stored_at
  take_before n b =
      sym (take-take n at (take at d ++ (a ++ drop (at + length a) d)) b)
      ∙ ap (take n) (take_at (take at d) (a ++ drop (at + length a) d) at (length-take-le at d (omega arith)))
      ∙ take-take n at d b

  -- an element of what was stored
  pub get_d_stored : (k : ℕ) → k < length a → get_or (stored_at d at a) (at + k) 0 ≡ get_or a k 0
  unfolding stored_at
  get_d_stored k b =
      ap (λ (m : ℕ). get_or (take at d ++ (a ++ drop (at + length a) d)) (m + k) 0) (sym (length-take-le at d (omega arith)))
      ∙ get_or-append-add (take at d) (a ++ drop (at + length a) d) k 0
      ∙ get_or-append a (drop (at + length a) d) 0 k b

-- a second store right after the first is one store of both
pub stored_stored : (d : List ℕ) (at : ℕ) (a b : List ℕ) → at + (length a + length b) ≤ length d
    → stored_at (stored_at d at a) (at + length a) b ≡ stored_at d at (a ++ b)
stored_stored d at a b h =
    opened (stored_at d at a) (at + length a) b
    ∙ rw (take_stored d at a (omega arith), drop_stored d at a (omega arith) (length b))
    (simp (append_assoc) (sym (opened d at (a ++ b) ∙ simp (append_assoc, length-append, add_assoc))))

-- Writes in a row: `then p (then q r)` wrote `s ++ (t ++ u)`.
pub then : {d e f : List ℕ} {at to up : ℕ} {s t : List ℕ} → Wrote d e at to s → Wrote e f to up t → Wrote d f at up (s ++ t)
then {d} {e} {f} {at} {to} {up} {s} {t} p q =
    let same : length e ≡ length d = ap length p.eq ∙ length_stored d at s p.room in
    let room : at + (length s + length t) ≤ length d = omega arith in
    record {
      room = rw length-append room;
      up = rw length-append (omega arith);
      eq = q.eq ∙ rw (p.eq, p.up) (stored_stored d at s t room);
    }

-- nothing, and one element
pub wrote_none : {d : List ℕ} {at : ℕ} → at ≤ length d → Wrote d d at at []
wrote_none {d} {at} h =
    record { room = omega arith; up = omega arith; eq = sym (opened d at [] ∙ rw add-zero (take-append-drop at d)) }

pub wrote_one : {d : List ℕ} {at b : ℕ} → at < length d → Wrote d (set d at b) at (at + 1) (b ∷ [])
wrote_one {d} {at} {b} h = record { room = omega arith; up = refl; eq = set_split d at b h ∙ sym (opened d at (b ∷ []) ∙ rw add-one) }

-- the same bytes said otherwise
pub wrote_as : {d e : List ℕ} {at to : ℕ} {s t : List ℕ} → Wrote d e at to s → s ≡ t → Wrote d e at to t
wrote_as {d} {e} {at} {to} {s} {t} p q = rw (← q) p

pub wrote_same : {d e : List ℕ} {at to : ℕ} {s : List ℕ} → Wrote d e at to s → length e ≡ length d
wrote_same {d} {e} {at} {to} {s} p = ap length p.eq ∙ length_stored d at s p.room

-- ---- parts of slices, as contracts read them

-- `&w[at..at + n]`
pub part_of : (w : List ℕ) (at n : ℕ) → take (at + n - at) (drop at w) ≡ part w at n
unfolding part
part_of w at n = let e : at + n - at ≡ n = omega arith in rw e

-- `&w[at..]`
pub rest_of : (w : List ℕ) (at : ℕ) → take (length w - at) (drop at w) ≡ drop at w
rest_of w at = rw (← length-drop at w) (take-length (drop at w))

-- a piece of a slice: what there is of it
module _ (s : List ℕ) (at n : ℕ) where
  pub piece_none : length s < at → [] ≡ part s at n
  unfolding part
  piece_none h = sym (rw (drop_of_length-le s {i = at} (omega arith)) (take-nil n))

  pub piece_end : length s - at < n → take (length s - at) (drop at s) ≡ part s at n
  unfolding part
  piece_end h = rest_of s at ∙ sym (take_all n (drop at s) (rw length-drop (omega arith)))

-- a store into a part that was lent, seen from the whole
pub stored_within : (d : List ℕ) (at n k : ℕ) (s : List ℕ) → at + n ≤ length d → k + length s ≤ n
    → stored_at d at (stored_at (part d at n) k s) ≡ stored_at d (at + k) s
unfolding part stored_at
stored_within d at n k s h b =
    let l : n ≤ length (drop at d) = rw length-drop (omega arith) in
    let j : k + length s ≤ length (take n (drop at d)) = rw (length-take-le n (drop at d) l) b in
    let size : length (stored_at (part d at n) k s) ≡ n = length_stored (part d at n) k s j ∙ length-take-le n (drop at d) l in
    let front : take k (take n (drop at d)) ≡ take k (drop at d) = take-take k n (drop at d) (omega arith) in
    let tail : drop (k + length s) (take n (drop at d)) ++ drop n (drop at d) ≡ drop (k + length s) (drop at d) =
    sym (drop-append-le (k + length s) (take n (drop at d)) (drop n (drop at d)) j) ∙ ap (drop (k + length s)) (take-append-drop n (drop at d)) in
    rw (size, take-add at k d, ← drop-drop n at d) (simp (append_assoc, front, tail) (simp (drop-drop, add_assoc)))

pub rest-within : (d : List ℕ) (at k : ℕ) (s : List ℕ) → at + k + length s ≤ length d
    → stored_at d at (stored_at (drop at d) k s) ≡ stored_at d (at + k) s
unfolding part
rest-within d at k s h =
    let w : part d at (length d - at) ≡ drop at d = rest_of d at in
    rw (← w) (stored_within d at (length d - at) k s (omega arith) (omega arith))

-- a write into `&mut d[at..]` that was lent, seen from the whole
pub wrote_rest : {d y : List ℕ} {at k to : ℕ} {s : List ℕ} → at ≤ length d → Wrote (drop at d) y k to s
    → Wrote d (take at d ++ (y ++ drop (length d - at) (drop at d))) (at + k) (at + to) s
wrote_rest {d} {y} {at} {k} {to} {s} h w =
    let l : length (drop at d) ≡ length d - at = length-drop at d in
    let room : at + k + length s ≤ length d = omega (arith, w.room) in
    record {
      room = room;
      up = omega (arith, w.up);
      eq = lent_back d at (length d - at) y (wrote_same w ∙ l) ∙ rw w.eq (rest-within d at k s room);
    }

-- ---- parts of a list

pub get_d_part : (w : List ℕ) (at n i : ℕ) → i < n → get_or (part w at n) i 0 ≡ get_or w (at + i) 0
unfolding part
get_d_part w at n i h = rw (get_or-take n (drop at w) i 0 h, get_or-drop at w i 0)

-- the whole, and the end
pub part_all : (w : List ℕ) → part w 0 (length w) ≡ w
unfolding part
part_all w = take-length w

pub part_end : (w : List ℕ) (at : ℕ) → part w at (length w - at) ≡ drop at w
unfolding part
part_end w at = rest_of w at

-- a part in two, and a part of a part
pub part_add : (w : List ℕ) (at n m : ℕ) → part w at (n + m) ≡ part w at n ++ part w (at + n) m
unfolding part
part_add w at n m = take-add n m (drop at w) ∙ rw drop-drop

pub part-part : (w : List ℕ) (at n b m : ℕ) → b + m ≤ n → part (part w at n) b m ≡ part w (at + b) m
unfolding part
part-part w at n b m h =
    ext_get_or 0 (take m (drop b (take n (drop at w)))) (take m (drop (at + b) w)) (simp (length-take, length-drop) (omega arith))
    (λ i v.
    let u : i < m = omega (arith, length-take m (drop b (take n (drop at w)))) in
    rw (get_or-take m (drop b (take n (drop at w))) i 0 u, get_or-drop b (take n (drop at w)) i 0, get_or-take n (drop at w) (b + i) 0 (omega arith), get_or-drop at w (b + i) 0)
    (rw (get_or-take m (drop (at + b) w) i 0 u, get_or-drop (at + b) w i 0, add_assoc)))

-- ---- parts and stores: what was stored is there, and what lies apart stays

pub part_stored : (d : List ℕ) (at : ℕ) (s : List ℕ) → at + length s ≤ length d → part (stored_at d at s) at (length s) ≡ s
unfolding part stored_at
part_stored d at s h =
    ap (take (length s)) (drop_at (take at d) (s ++ drop (at + length s) d) at (length-take-le at d (omega arith)))
    ∙ take_at s (drop (at + length s) d) (length s) refl

-- a part of what was stored
pub part-inside : (d : List ℕ) (at : ℕ) (s : List ℕ) (k n : ℕ) → at + length s ≤ length d → k + n ≤ length s → part (stored_at d at s) (at + k) n ≡ part s k n
part-inside d at s k n h b =
    sym (part-part (stored_at d at s) at (length s) k n b) ∙ ap (λ (l : List ℕ). part l k n) (part_stored d at s h)

-- what stands before the place of a store, and behind it, is what stood there
pub get_d_before : (d : List ℕ) (at : ℕ) (s : List ℕ) (k : ℕ) → at ≤ length d → k < at → get_or (stored_at d at s) k 0 ≡ get_or d k 0
unfolding stored_at
get_d_before d at s k h b =
    let l : k < length (take at d) = rw (length-take-le at d h) b in
    get_or-append (take at d) (s ++ drop (at + length s) d) 0 k l ∙ get_or-take at d k 0 b

pub get_d_behind : (d : List ℕ) (at : ℕ) (s : List ℕ) (k : ℕ) → at + length s ≤ length d → at + length s ≤ k → get_or (stored_at d at s) k 0 ≡ get_or d k 0
get_d_behind d at s k h b =
    let q : k ≡ at + length s + (k - (at + length s)) = omega arith in
    let m : ℕ = k - (at + length s) in
    let e : drop (at + length s) (stored_at d at s) ≡ drop (at + length s) d = rw add-zero at (drop_stored d at s h 0) in
    rw q (sym (get_or-drop (at + length s) (stored_at d at s) m 0) ∙ ap (λ (l : List ℕ). get_or l m 0) e ∙ get_or-drop (at + length s) d m 0)

pub part_apart : (d : List ℕ) (at : ℕ) (s : List ℕ) (b n : ℕ) → at + length s ≤ length d → (b + n ≤ at) ⊎ (at + length s ≤ b)
    → part (stored_at d at s) b n ≡ part d b n
unfolding part
part_apart d at s b n h w =
    let l : length (stored_at d at s) ≡ length d = length_stored d at s h in
    ext_get_or 0 (take n (drop b (stored_at d at s))) (take n (drop b d)) (simp (length-take, length-drop, l))
    (λ i v.
    let u : i < n = omega (arith, length-take n (drop b (stored_at d at s))) in
    rw (get_or-take n (drop b (stored_at d at s)) i 0 u, get_or-drop b (stored_at d at s) i 0, get_or-take n (drop b d) i 0 u, get_or-drop b d i 0)
    (⊎_elim
    (λ (x : b + n ≤ at). get_d_before d at s (b + i) (omega arith) (omega arith))
    (λ (x : at + length s ≤ b). get_d_behind d at s (b + i) h (omega arith))
    w))

-- the same of one element set
pub part-set : (w : List ℕ) (i v b n : ℕ) → i < length w → (b + n ≤ i) ⊎ (i < b) → part (set w i v) b n ≡ part w b n
part-set w i v b n h o =
    rw (wrote_one {d = w} {at = i} {b = v} h).eq (part_apart w i (v ∷ []) b n (omega arith) (⊎_elim (λ (x : b + n ≤ i). inl x) (λ (x : i < b). inr (omega arith)) o))

-- ---- what a reader finds behind a write

module _ {d e : List ℕ} {at to : ℕ} {s : List ℕ} (w : Wrote d e at to s) where
  -- what was written
  pub wrote_part : part e at (length s) ≡ s
  wrote_part = rw w.eq (part_stored d at s w.room)

  -- what lies apart
  pub wrote_apart : (b n : ℕ) → (b + n ≤ at) ⊎ (to ≤ b) → part e b n ≡ part d b n
  wrote_apart b n o = rw w.eq (part_apart d at s b n w.room (rw w.up at o))

  -- up to its end, and from there on
  pub wrote_front : take to e ≡ take at d ++ s
  wrote_front = rw (w.eq, w.up) (take_stored d at s w.room)

  pub wrote_behind : drop to e ≡ drop to d
  wrote_behind = rw (w.eq, w.up) (rw add-zero at (drop_stored d at s w.room 0))

  pub wrote_before : take at e ≡ take at d
  wrote_before = rw w.eq (take_before d at s w.room at (omega arith))
