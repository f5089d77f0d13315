-- A fresh table, and a table with one more ID.
use Prim.Native.Nat.{ℕ, zero, suc, ◌+◌, ◌<◌, ◌≤◌}
use Rattle.std.specs.Prelude.{◌≡◌, Option, Some, None, is_some, Bool, true, false, ◌&&◌, leb, get_or, take, set, replicate}
use Rattle.std.proofs.Math.Path.{refl, ap}
use Rattle.std.proofs.Common.{sym, ◌∙◌, add-one, arith, length-set, get_or-take}
use Rattle.std.proofs.lemmas.Bool.{false≢true}
use mathlib.Core.List.{List, [], ◌∷◌}
use Rattle.std.proofs.Math.Nat.{zero-add}
use Rattle.std.proofs.Math.ListN.{length, length-replicate}
use Rattle.std.proofs.Math.Seq.{get_or-set_same}
use Rattle.std.proofs.lemmas.List.{take-set-le}
use borrow.Author.Tests.{leb-true, eq-eqb, le-leb}
use Rattle.spec.specs.Limits.{id_store_bytes, most_ids, most_id_bytes, most_name_bytes}
use Rattle.spec.proofs.Booleans.{and_left, and_right}
use Rattle.copy.specs.Copy.{stored_at, part, part-part, part_stored, take_before, length_stored, Put, put_false, put_true}
use Rattle.state_ids.specs.declared.IdTable.{IdTable}
use Rattle.state_ids.specs.declared.Filled.{Filled}
use Rattle.state_ids.specs.Ids.{ids_of, room_for, end_to_end, ValidIds, last-ends, others_linked}

-- What `new` makes: no place in use, and each empty.
pub record Fresh (t : IdTable) : Type 0 where
  pub count : t.count ≡ 0
  pub used : t.used ≡ 0
  pub places : t.at ≡ replicate most_ids 0
  pub sizes : t.len ≡ replicate most_ids 0

-- What the lent arrays and the store are behind a call: these lists.
pub record Left (at' len' store' : List ℕ) (at len store : List ℕ) : Type 0 where
  pub places : at' ≡ at
  pub sizes : len' ≡ len
  pub stored : store' ≡ store

-- What `add` does on any arguments. It enters the ID where the limits leave room and the store is long enough, as that of a valid table is:
-- its span in the next place, its bytes behind those in use. Else nothing changes.
pub record Adds (count used : ℕ) (at len store id : List ℕ) (a : Option Filled) (at' len' store' : List ℕ) : Type 0 where
  pub answer : is_some a ≡ (room_for count used (length id) && leb (used + length id) (length store))
  pub filled : (f : Filled) → a ≡ Some f → f ≡ record { count = count + 1; used = used + length id }
  pub entered : is_some a ≡ true → Left at' len' store' (set at count used) (set len count (length id)) (stored_at store used id)
  pub kept : is_some a ≡ false → Left at' len' store' at len store

-- ---- the answers of `add`: no room, no store, entered

module _ {count used : ℕ} {at len store id : List ℕ} where
  not_entered : {store' : List ℕ} → (room_for count used (length id) && leb (used + length id) (length store)) ≡ false → store' ≡ store
      → Adds count used at len store id None at len store'
  not_entered h e =
      record {
        answer = sym h;
        filled = λ f q. cc;
        entered = λ y. absurd (false≢true y);
        kept = λ _. record { places = refl; sizes = refl; stored = e };
      }

  pub no_room : room_for count used (length id) ≡ false → Adds count used at len store id None at len store
  no_room h = not_entered (rw h) refl

  pub not_put : {store' : List ℕ} {r : Bool} → room_for count used (length id) ≡ true → Put store used id store' r → r ≡ false
      → Adds count used at len store id None at len store'
  not_put h p n = not_entered (rw h (sym p.answer ∙ n)) (put_false p n)

  pub put_there : {store' : List ℕ} {r : Bool} → room_for count used (length id) ≡ true → Put store used id store' r → r ≡ true
      → Adds count used at len store id (Some (record { count = count + 1; used = used + length id })) (set at count used) (set len count (length id)) store'
  put_there h p y =
      record {
        answer = sym (rw h (sym p.answer ∙ y));
        filled = λ f q. cc;
        entered = λ _. record { places = refl; sizes = refl; stored = (put_true p y).eq };
        kept = λ n. absurd (false≢true (sym n));
      }

-- ---- a fresh table is valid beside any store of the right length, and means no ID

module _ {t : IdTable} (f : Fresh t) (store : List ℕ) where
  pub fresh_valid : length store ≡ id_store_bytes → ValidIds t.count t.used t.at t.len store
  unfolding end_to_end
  fresh_valid whole =
      record {
        places = ap length f.places ∙ length-replicate most_ids 0;
        sizes = ap length f.sizes ∙ length-replicate most_ids 0;
        whole = whole;
        few = omega (arith, f.count);
        within = omega (arith, f.used);
        linked = rw (f.count, f.used);
      }

  pub fresh_means : ids_of t.at t.len store t.count ≡ []
  unfolding ids_of
  fresh_means = rw f.count

-- ---- what holds nothing: the places that are not in use, and the bytes of the store behind those in use

alike : (l m : List ℕ) (k n : ℕ) → take k l ≡ take k m → n < k → get_or l n 0 ≡ get_or m n 0
alike l m k n e h = sym (get_or-take k l n 0 h) ∙ (ap (λ (x : List ℕ). get_or x n 0) e ∙ get_or-take k m n 0 h)

module _ (at len at' len' : List ℕ) (k : ℕ) (p : take k at ≡ take k at') (q : take k len ≡ take k len') where
  pub ids_places : (store : List ℕ) (n : ℕ) → n ≤ k → ids_of at len store n ≡ ids_of at' len' store n
  unfolding ids_of
  ids_places store zero h = refl
  ids_places store (suc n) h = rw (alike at at' k n p (omega arith), alike len len' k n q (omega arith), ids_places store n (omega arith))

  pub linked_places : (n end : ℕ) → n ≤ k → end_to_end at len n end ≡ end_to_end at' len' n end
  unfolding end_to_end
  linked_places zero end h = refl
  linked_places (suc n) end h = rw (alike at at' k n p (omega arith), alike len len' k n q (omega arith), linked_places n (get_or at' n 0) (omega arith))

module _ (at len store store' : List ℕ) (used : ℕ) (e : take used store ≡ take used store') where
  alike_part : (from n : ℕ) → from + n ≤ used → part store from n ≡ part store' from n
  unfolding part
  alike_part from n h =
      rw zero-add at (sym (part-part store 0 used from n h) ∙ (ap (λ (x : List ℕ). part x from n) e ∙ part-part store' 0 used from n h))

  pub ids_bytes : (n end : ℕ) → end_to_end at len n end ≡ true → end ≤ used → ids_of at len store n ≡ ids_of at len store' n
  unfolding ids_of
  ids_bytes zero end h b = refl
  ids_bytes (suc n) end h b =
      let l = last-ends at len n end h in
      rw (alike_part (get_or at n 0) (get_or len n 0) (omega arith), ids_bytes n (get_or at n 0) (others_linked at len n end h) (omega arith))

-- ---- one more ID

module _ (at len store id : List ℕ) (n end : ℕ) (h : end_to_end at len n end ≡ true) (p : n < length at) (q : n < length len) where
  places : take n (set at n end) ≡ take n at
  places = take-set-le n at n end (omega arith)

  sizes : take n (set len n (length id)) ≡ take n len
  sizes = take-set-le n len n (length id) (omega arith)

  next_linked : length id ≤ most_name_bytes → end_to_end (set at n end) (set len n (length id)) (suc n) (end + length id) ≡ true
  unfolding end_to_end
  next_linked short =
      rw (get_or-set_same at n end 0 p, get_or-set_same len n (length id) 0 q, le-leb _ _ short, eq-eqb (end + length id) _ refl, linked_places (set at n end) (set len n (length id)) at len n places sizes n end (omega arith)) h

  next_ids : end + length id ≤ length store → ids_of (set at n end) (set len n (length id)) (stored_at store end id) (suc n) ≡ id ∷ ids_of at len store n
  unfolding ids_of
  next_ids l =
      let others : ids_of (set at n end) (set len n (length id)) (stored_at store end id) n ≡ ids_of at len store n =
      ids_places (set at n end) (set len n (length id)) at len n places sizes (stored_at store end id) n (omega arith)
      ∙ ids_bytes at len (stored_at store end id) store end (take_before store end id l end (omega arith)) n end h (omega arith) in
      rw (get_or-set_same at n end 0 p, get_or-set_same len n (length id) 0 q, part_stored store end id l, others)

-- the limits that there is room under
pub record Room (count used n : ℕ) : Type 0 where
  pub few : count < most_ids
  pub short : n ≤ most_name_bytes
  pub bytes : used + n ≤ most_id_bytes

pub has_room : {count used n : ℕ} → room_for count used n ≡ true → Room count used n
unfolding room_for
has_room {count} {used} {n} h =
    let rest = and_right (leb (suc count) most_ids) _ h in
    let few = leb-true (suc count) most_ids (and_left _ _ h) in
    record { few = omega arith; short = leb-true _ _ (and_left _ _ rest); bytes = leb-true _ _ (and_right (leb n most_name_bytes) _ rest) }

room_in_store : {count used n : ℕ} {at len store : List ℕ} → ValidIds count used at len store → Room count used n → used + n ≤ length store
unfolding id_store_bytes most_id_bytes
room_in_store v r = omega (arith, v.whole, r.bytes)

module _ {count used : ℕ} {at len store id : List ℕ} {a : Option Filled} {at' len' store' : List ℕ}
    (v : ValidIds count used at len store) (d : Adds count used at len store id a at' len' store') where
  -- a valid table's store is long enough: the limits decide
  pub add_answers : is_some a ≡ room_for count used (length id)
  add_answers = d.answer ∙ go (room_for count used (length id)) refl
    where
      go : (r : Bool) → room_for count used (length id) ≡ r → (r && leb (used + length id) (length store)) ≡ r
      go true e = le-leb _ _ (room_in_store v (has_room e))
      go false e = refl

  module _ (f : Filled) (y : a ≡ Some f) where
    there : is_some a ≡ true
    there = rw y

    -- the table behind it is valid
    pub add_valid : ValidIds f.count f.used at' len' store'
    add_valid =
        let r : Room count used (length id) = has_room (sym add_answers ∙ there) in
        let l : used + length id ≤ length store = room_in_store v r in
        let b = d.entered there in
        let n = d.filled f y in
        let linked : end_to_end (set at count used) (set len count (length id)) (suc count) (used + length id) ≡ true =
        next_linked at len store id count used v.linked (omega (arith, v.places, r.few)) (omega (arith, v.sizes, r.few)) r.short in
        rw (n, b.places, b.sizes, b.stored)
        (record {
          places = length-set at count used ∙ v.places;
          sizes = length-set len count (length id) ∙ v.sizes;
          whole = length_stored store used id l ∙ v.whole;
          few = omega (arith, r.few);
          within = r.bytes;
          linked = rw (add-one count) linked;
        })

    -- and means the ID, and then those from before
    pub add_means : ids_of at' len' store' f.count ≡ id ∷ ids_of at len store count
    add_means =
        let r : Room count used (length id) = has_room (sym add_answers ∙ there) in
        let b = d.entered there in
        rw (d.filled f y, b.places, b.sizes, b.stored, add-one count)
        (next_ids at len store id count used v.linked (omega (arith, v.places, r.few)) (omega (arith, v.sizes, r.few)) (room_in_store v r))
