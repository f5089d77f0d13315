-- What a table of rdf:IDs means, when it is valid, and whether there is room for one more.
use Rattle.std.specs.Prelude.{ℕ, zero, suc, ◌+◌, ◌-◌, ◌<◌, ◌≤◌, ◌≡◌, refl, Bool, true, false, ◌&&◌, List, [], ◌∷◌, eqb, leb, ltb}
use Rattle.std.proofs.Common.{sym, ap, ◌∙◌, arith}
use Rattle.std.proofs.Math.ListN.{length, get_or}
use borrow.Author.Tests.{leb-true, leb-false, ltb-true, ltb-false, eqb-true, eq-eqb, le-leb, lt-leb}
use Rattle.spec.specs.Bytes.{Bytes, member, total}
use Rattle.spec.specs.Limits.{id_store_bytes, most_ids, most_id_bytes, most_name_bytes}
use Rattle.spec.proofs.Booleans.{and_left, and_right}
use Rattle.copy.specs.Copy.{part, length_part}

-- ---- meaning

-- the IDs of the first `n` places, the newest first: place `k` has `len[k]` bytes of the store from `at[k]` on
unfoldable pub ids_of : List ℕ → List ℕ → List ℕ → ℕ → List Bytes
ids_of at len store zero = []
ids_of at len store (suc n) = part store (get_or at n 0) (get_or len n 0) ∷ ids_of at len store n

-- is it the ID of a place in use? A table has no place beyond its last.
unfoldable pub found : ℕ → List ℕ → List ℕ → List ℕ → Bytes → Bool
found count at len store id = leb count most_ids && member id (ids_of at len store count)

-- do the limits leave room for one more ID, of `n` bytes, beside `count` that have `used` bytes?
unfoldable pub room_for : ℕ → ℕ → ℕ → Bool
room_for count used n = leb (suc count) most_ids && (leb n most_name_bytes && leb (used + n) most_id_bytes)

-- ---- validity

-- the spans of the first `n` places lie end to end from 0 to `end`, and none is longer than an IRI may be
unfoldable pub end_to_end : List ℕ → List ℕ → ℕ → ℕ → Bool
end_to_end at len zero end = eqb end 0
end_to_end at len (suc n) end = leb (get_or len n 0) most_name_bytes && (eqb (get_or at n 0 + get_or len n 0) end && end_to_end at len n (get_or at n 0))

-- the test, beside a store of `n` bytes
unfoldable pub valid_ids : ℕ → ℕ → List ℕ → List ℕ → ℕ → Bool
valid_ids count used at len n = eqb n id_store_bytes && (leb count most_ids && (leb used most_id_bytes && end_to_end at len count used))

-- the facts; the lengths of the two arrays are those of their type
pub record ValidIds (count used : ℕ) (at len store : List ℕ) : Type 0 where
  pub places : length at ≡ most_ids
  pub sizes : length len ≡ most_ids
  pub whole : length store ≡ id_store_bytes
  pub few : count ≤ most_ids
  pub within : used ≤ most_id_bytes
  pub linked : end_to_end at len count used ≡ true

-- the spans of the first `count` places lie in the store
pub record SpansIn (count : ℕ) (at len store : List ℕ) : Type 0 where
  pub inside : (i : ℕ) → i < count → get_or at i 0 + get_or len i 0 ≤ length store

module _ {count used : ℕ} {at len store : List ℕ} where
  pub valid_is : length at ≡ most_ids → length len ≡ most_ids → valid_ids count used at len (length store) ≡ true → ValidIds count used at len store
  unfolding valid_ids
  valid_is p q h =
      let a = and_right (eqb (length store) id_store_bytes) _ h in
      let b = and_right (leb count most_ids) _ a in
      record {
        places = p;
        sizes = q;
        whole = eqb-true _ _ (and_left _ _ h);
        few = leb-true _ _ (and_left _ _ a);
        within = leb-true _ _ (and_left _ _ b);
        linked = and_right (leb used most_id_bytes) _ b;
      }

  pub is_valid : ValidIds count used at len store → valid_ids count used at len (length store) ≡ true
  unfolding valid_ids
  is_valid v = rw (eq-eqb _ _ v.whole, le-leb _ _ v.few, le-leb _ _ v.within) v.linked

-- ---- spans end to end

module _ (at len : List ℕ) (n end : ℕ) (h : end_to_end at len (suc n) end ≡ true) where
  pub last_short : get_or len n 0 ≤ most_name_bytes
  unfolding end_to_end
  last_short = leb-true _ _ (and_left _ _ h)

  pub last-ends : get_or at n 0 + get_or len n 0 ≡ end
  unfolding end_to_end
  last-ends = eqb-true _ _ (and_left _ _ (and_right (leb (get_or len n 0) most_name_bytes) _ h))

  pub others_linked : end_to_end at len n (get_or at n 0) ≡ true
  unfolding end_to_end
  others_linked = and_right (eqb (get_or at n 0 + get_or len n 0) end) _ (and_right (leb (get_or len n 0) most_name_bytes) _ h)

-- ---- what validity gives: the two numbers are the IDs' count and their bytes

pub length_ids : (at len store : List ℕ) (n : ℕ) → length (ids_of at len store n) ≡ n
unfolding ids_of
length_ids at len store zero = refl
length_ids at len store (suc n) = ap suc (length_ids at len store n)

total_linked : (at len store : List ℕ) (n end : ℕ) → end_to_end at len n end ≡ true → end ≤ length store → total length (ids_of at len store n) ≡ end
unfolding ids_of total end_to_end
total_linked at len store zero end h b = sym (eqb-true end 0 h)
total_linked at len store (suc n) end h b =
    let e = last-ends at len n end h in
    let rest = total_linked at len store n (get_or at n 0) (others_linked at len n end h) (omega arith) in
    omega (arith, length_part store (get_or at n 0) (get_or len n 0) (omega arith))

linked_inside : (at len : List ℕ) (n end : ℕ) → end_to_end at len n end ≡ true → (i : ℕ) → i < n → get_or at i 0 + get_or len i 0 ≤ end
linked_inside at len zero end h i l = absurd (omega arith)
linked_inside at len (suc n) end h i l = go (ltb i n) refl (linked_inside at len n (get_or at n 0) (others_linked at len n end h) i)
  where
    e : get_or at n 0 + get_or len n 0 ≡ end
    e = last-ends at len n end h

    go : (t : Bool) → ltb i n ≡ t → (i < n → get_or at i 0 + get_or len i 0 ≤ get_or at n 0) → get_or at i 0 + get_or len i 0 ≤ end
    go true k older = omega (arith, older (ltb-true i n k), e)
    go false k older = let q : i ≡ n = omega (arith, ltb-false i n k) in rw q (omega (arith, e))

linked_in : {count used : ℕ} {at len store : List ℕ} → end_to_end at len count used ≡ true → used ≤ length store → SpansIn count at len store
linked_in {count} {used} {at} {len} h b = record { inside = λ i l. omega (arith, linked_inside at len count used h i l, b) }

-- the same by the test
pub valid_spans : (count used : ℕ) (at len store : List ℕ) → valid_ids count used at len (length store) ≡ true → SpansIn count at len store
unfolding valid_ids id_store_bytes most_id_bytes
valid_spans count used at len store h =
    let a = and_right (eqb (length store) id_store_bytes) _ h in
    let b = and_right (leb count most_ids) _ a in
    let whole = eqb-true (length store) id_store_bytes (and_left _ _ h) in
    linked_in (and_right (leb used most_id_bytes) _ b) (omega (arith, whole, leb-true used most_id_bytes (and_left _ _ b)))

module _ {count used : ℕ} {at len store : List ℕ} (v : ValidIds count used at len store) where
  -- `used` bytes lie in the store
  pub used_stored : used ≤ length store
  unfolding id_store_bytes most_id_bytes
  used_stored = omega (arith, v.whole, v.within)

  -- each span lies in the store
  pub spans_in : SpansIn count at len store
  spans_in = linked_in v.linked used_stored

  -- `used` is what the IDs have in bytes, as `count` is how many they are
  pub total_ids : total length (ids_of at len store count) ≡ used
  total_ids = total_linked at len store count used v.linked used_stored

  -- the answer of `find`
  pub found_means : (id : Bytes) → found count at len store id ≡ member id (ids_of at len store count)
  unfolding found
  found_means id = rw (le-leb _ _ v.few)

  -- there is room where the limits hold of the IDs with one more, and it is an IRI
  pub room_means : (id : Bytes)
      → room_for count used (length id)
      ≡ (leb (length (id ∷ ids_of at len store count)) most_ids
      && (leb (length id) most_name_bytes && leb (total length (id ∷ ids_of at len store count)) most_id_bytes))
  unfolding room_for total
  room_means id =
      let bytes : length id + total length (ids_of at len store count) ≡ used + length id = omega (arith, total_ids) in
      rw (length_ids at len store count, bytes)

  -- the same of an ID that is known to keep the limit on IRIs, as `fits` of Document has it
  pub room_fits : (id : Bytes) → length id ≤ most_name_bytes
      → room_for count used (length id) ≡ (leb (length (id ∷ ids_of at len store count)) most_ids && leb (total length (id ∷ ids_of at len store count)) most_id_bytes)
  room_fits id short = room_means id ∙ rw (le-leb (length id) most_name_bytes short)

  -- the IDs of a valid table keep the limits
  pub valid_fits : (leb (length (ids_of at len store count)) most_ids && leb (total length (ids_of at len store count)) most_id_bytes) ≡ true
  valid_fits = rw (length_ids at len store count, total_ids, le-leb _ _ v.few) (le-leb _ _ v.within)

-- ---- the tests of `room`, one after the other

module _ (count used n : ℕ) where
  pub no_place : most_ids ≤ count → false ≡ room_for count used n
  unfolding room_for
  no_place h = rw (lt-leb (suc count) most_ids (omega arith))

  pub too_long_lem : count < most_ids → most_name_bytes < n → false ≡ room_for count used n
  unfolding room_for
  too_long_lem h l = rw (le-leb (suc count) most_ids (omega arith), lt-leb n most_name_bytes l)

  pub no_bytes : count < most_ids → n ≤ most_name_bytes → most_id_bytes < used → false ≡ room_for count used n
  unfolding room_for
  no_bytes h l u = rw (le-leb (suc count) most_ids (omega arith), le-leb n most_name_bytes l, lt-leb (used + n) most_id_bytes (omega arith))

  -- what is left decides
  left_over : used ≤ most_id_bytes → leb n (most_id_bytes - used) ≡ leb (used + n) most_id_bytes
  left_over u = go (leb n (most_id_bytes - used)) refl
    where
      go : (t : Bool) → leb n (most_id_bytes - used) ≡ t → t ≡ leb (used + n) most_id_bytes
      go true e = let l = leb-true n (most_id_bytes - used) e in sym (le-leb (used + n) most_id_bytes (omega arith))
      go false e = let l = leb-false n (most_id_bytes - used) e in sym (lt-leb (used + n) most_id_bytes (omega arith))

  pub bytes_decide : count < most_ids → n ≤ most_name_bytes → used ≤ most_id_bytes → leb n (most_id_bytes - used) ≡ room_for count used n
  unfolding room_for
  bytes_decide h l u = rw (le-leb (suc count) most_ids (omega arith), le-leb n most_name_bytes l) (left_over u)
