-- The loops over the places in use, from the newest to the oldest.
use Rattle.std.specs.Prelude.{ℕ, suc, ◌+◌, ◌-◌, ◌<◌, ◌≤◌, ◌≡◌, refl, Bool, true, false, ◌&&◌, ◌||◌, List, eqb, leb, get_or}
use Rattle.std.proofs.Math.Path.{sym, ap}
use Rattle.std.proofs.Common.{◌∙◌}
use native.Mathlib.Omega.{arith}
use borrow.Author.Tests.{eq-eqb, ne_eqb, le-leb, lt-leb}
use Rattle.spec.specs.Bytes.{Bytes, same, member}
use Rattle.spec.specs.Limits.{id_store_bytes, most_ids, most_id_bytes, most_name_bytes}
use Rattle.copy.specs.Copy.{part}
use Rattle.state_ids.specs.Ids.{ids_of, found, end_to_end, valid_ids}

-- the definitions go by `suc`, the loops down from `i`
before : (i : ℕ) → 0 < i → i ≡ suc (i - 1)
before i h = omega arith

-- ---- the loop of `valid`: the places from `i` on lie end to end from `end` to `used`

pub record Walked (at len : List ℕ) (count used i end : ℕ) : Type 0 where
  pub upto : i ≤ count
  pub rest : end_to_end at len count used ≡ end_to_end at len i end

pub walked_begins : {at len : List ℕ} {count used : ℕ} → Walked at len count used count used
walked_begins = record { upto = omega arith; rest = refl }

module _ {at len : List ℕ} {count used i end : ℕ} (w : Walked at len count used i end) where
  pub walked_done : i ≤ 0 → eqb end 0 ≡ end_to_end at len count used
  unfolding end_to_end
  walked_done h = let e : i ≡ 0 = omega arith in sym (w.rest ∙ ap (λ (k : ℕ). end_to_end at len k end) e)

  -- `start` and `size` are what was read at place `i - 1`
  module _ {start size : ℕ} (h : 0 < i) (p : start ≡ get_or at (i - 1) 0) (q : size ≡ get_or len (i - 1) 0) where
    here : end_to_end at len count used ≡ (leb size most_name_bytes && (eqb (start + size) end && end_to_end at len (i - 1) start))
    unfolding end_to_end
    here = w.rest ∙ ap (λ (k : ℕ). end_to_end at len k end) (before i h) ∙ rw (p, q)

    pub walked_long : most_name_bytes < size → false ≡ end_to_end at len count used
    walked_long l = sym (here ∙ rw (lt-leb _ _ l))

    pub walked_apart : size ≤ most_name_bytes → (start + size ≡ end → ⊥) → false ≡ end_to_end at len count used
    walked_apart l e = sym (here ∙ rw (le-leb _ _ l, ne_eqb _ _ e))

    pub walked_more : size ≤ most_name_bytes → start + size ≡ end → Walked at len count used (i - 1) start
    walked_more l e = record { upto = omega (arith, w.upto); rest = here ∙ rw (le-leb _ _ l, eq-eqb _ _ e) }

-- the tests before it
module _ (count used : ℕ) (at len : List ℕ) (n : ℕ) where
  pub other_store : (n ≡ id_store_bytes → ⊥) → false ≡ valid_ids count used at len n
  unfolding valid_ids
  other_store h = rw (ne_eqb _ _ h)

  pub too_many : n ≡ id_store_bytes → most_ids < count → false ≡ valid_ids count used at len n
  unfolding valid_ids
  too_many h d = rw (eq-eqb _ _ h, lt-leb _ _ d)

  pub too_full : n ≡ id_store_bytes → count ≤ most_ids → most_id_bytes < used → false ≡ valid_ids count used at len n
  unfolding valid_ids
  too_full h d t = rw (eq-eqb _ _ h, le-leb _ _ d, lt-leb _ _ t)

  pub spans_decide : {b : Bool} → n ≡ id_store_bytes → count ≤ most_ids → used ≤ most_id_bytes → b ≡ end_to_end at len count used → b ≡ valid_ids count used at len n
  unfolding valid_ids
  spans_decide h d t q = rw (eq-eqb _ _ h, le-leb _ _ d, le-leb _ _ t) q

-- ---- the loop of `find`: none of the places from `i` on has the ID

pub record Sought (at len store : List ℕ) (id : Bytes) (count i : ℕ) : Type 0 where
  pub upto : i ≤ count
  pub few : count ≤ most_ids
  pub rest : found count at len store id ≡ member id (ids_of at len store i)

pub sought_begins : {at len store : List ℕ} {id : Bytes} {count : ℕ} → count ≤ most_ids → Sought at len store id count count
unfolding found
sought_begins h = record { upto = omega arith; few = h; rest = rw (le-leb _ _ h) }

pub sought_none : (at len store : List ℕ) (id : Bytes) (count : ℕ) → most_ids < count → false ≡ found count at len store id
unfolding found
sought_none at len store id count h = rw (lt-leb _ _ h)

module _ {at len store : List ℕ} {id : Bytes} {count i : ℕ} (w : Sought at len store id count i) where
  pub sought_done : i ≤ 0 → false ≡ found count at len store id
  unfolding ids_of member
  sought_done h = let e : i ≡ 0 = omega arith in sym (w.rest ∙ ap (λ (k : ℕ). member id (ids_of at len store k)) e)

  -- `start` and `size` are what was read at place `i - 1`
  module _ {start size : ℕ} {r : Bool} (h : 0 < i) (p : start ≡ get_or at (i - 1) 0) (q : size ≡ get_or len (i - 1) 0) (e : r ≡ same id (part store start size)) where
    there : found count at len store id ≡ (r || member id (ids_of at len store (i - 1)))
    unfolding ids_of member
    there = w.rest ∙ ap (λ (k : ℕ). member id (ids_of at len store k)) (before i h) ∙ rw (e, p, q)

    pub sought_hit : r ≡ true → r ≡ found count at len store id
    sought_hit y = sym (there ∙ rw y)

    pub sought_more : r ≡ false → Sought at len store id count (i - 1)
    sought_more y = record { upto = omega (arith, w.upto); few = w.few; rest = there ∙ rw y }
