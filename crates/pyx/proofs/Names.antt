-- A name's colon: prefix and local part are what stands before and behind it.
use mathlib.Core.Path.{◌≡◌, refl, sym, ap, ◌∙◌}
use mathlib.Core.Bool.{Bool, true, false}
use mathlib.Core.List.{List, [], ◌∷◌, ◌++◌}
use Prim.Native.Nat.{ℕ, zero, suc, ◌+◌, ◌-◌, ◌<◌, ◌≤◌}
use native.Mathlib.Omega.{arith}
use native.Mathlib.Numerals.{add-one}
use lib.Dec.{ltb}
use lib.ListN.{length, take, drop, get_or, set, length-take, length-drop}
use lib.Seq.{take-take, take_all, take-length, take-suc, get_or-drop, length-take-le}
use borrow.Author.Tests.{ltb-true, ltb-false}
use Rattle.spec.specs.Bytes.{Bytes, when◌then◌else◌}
use Rattle.spec.specs.XmlNames.{no_colon, is_nc_name, prefix_of, local_of, is_q_name}
use Rattle.utils.specs.declared.Name.TheVariants.{Local, Prefixed}
use Rattle.utils.specs.Names.{name_of, starts_nc, goes_on_nc}
use Rattle.utils.specs.Plain.{plain}
use Rattle.utils.proofs.Names.{before, none_colon, some-colon, prefix_is, local_is, by_local, by_parts, no_prefix, has_prefix}
use Rattle.utils.proofs.Plain.{part_none, part_start, part_on, part-name}
use Rattle.copy.specs.Copy.{Put, Wrote, stored_at, part, part-part, put-fits, then as and_then, wrote_one, wrote_same, wrote_before}
use Rattle.std.specs.Prelude.{Option, Some, None}
use Rattle.pyx.specs.Names.{colon_of, Name, Named, Spelled, Around}
use Rattle.pyx.proofs.Lines.{kept_then, kept_wrote}

-- without a colon, and with one
data Colon (s : Bytes) : Type 0 where
  without : no_colon s ≡ true → colon_of s ≡ 0 → Colon s
  with_one : no_colon s ≡ false → before s < length s → colon_of s ≡ suc (before s) → Colon s

colon : (s : Bytes) → Colon s
unfolding colon_of when◌then◌else◌
colon s = go (ltb (before s) (length s)) refl
  where
    go : (t : Bool) → ltb (before s) (length s) ≡ t → Colon s
    go true e = let b = ltb-true (before s) (length s) e in let n = some-colon s refl b in with_one n b (rw n)
    go false e = let n = none_colon s refl (ltb-false (before s) (length s) e) in without n (rw n)

pub colon_within : (s : Bytes) → colon_of s ≤ length s
colon_within s = go (colon s)
  where
    go : Colon s → colon_of s ≤ length s
    go (without n e) = omega arith
    go (with_one n b e) = omega arith

pub prefix_of_lem : (s : Bytes) → prefix_of s ≡ take (colon_of s - 1) s
unfolding prefix_of when◌then◌else◌
prefix_of_lem s = go (colon s)
  where
    go : Colon s → prefix_of s ≡ take (colon_of s - 1) s
    go (without n e) = rw (n, e)
    go (with_one n b e) = let z : suc (before s) - 1 ≡ before s = omega arith in prefix_is s refl b ∙ rw (e, z)

pub local_of_lem : (s : Bytes) → local_of s ≡ drop (colon_of s) s
unfolding local_of when◌then◌else◌
local_of_lem s = go (colon s)
  where
    go : Colon s → local_of s ≡ drop (colon_of s) s
    go (without n e) = rw (n, e)
    go (with_one n b e) = local_is s refl b ∙ rw (add-one (before s), e)

-- both as parts of where the name stands
module _ (w : List ℕ) (at n : ℕ) where
  small : colon_of (part w at n) ≤ n
  unfolding part
  small = omega (arith, colon_within (take n (drop at w)), length-take n (drop at w))

  pub prefix_part : prefix_of (part w at n) ≡ part w at (colon_of (part w at n) - 1)
  unfolding part
  prefix_part = prefix_of_lem (part w at n) ∙ take-take (colon_of (part w at n) - 1) n (drop at w) (omega (arith, small))

  pub local_part : local_of (part w at n) ≡ part w (at + colon_of (part w at n)) (n - colon_of (part w at n))
  unfolding part
  local_part =
      let c : ℕ = colon_of (part w at n) in
      local_of_lem (part w at n)
      ∙ (sym (take_all (n - c) (drop c (part w at n)) (rw (length-drop c (part w at n)) (omega (arith, length-take n (drop at w)))))
      ∙ part-part w at n c (n - c) (omega (arith, small)))

-- ---- what `qname` says

pub local_name : (s : Bytes) → Local ≡ name_of s → (is_q_name s ≡ true) × (0 ≡ colon_of s)
unfolding colon_of when◌then◌else◌
local_name s h = let p = no_prefix s h in (p.name, rw p.colon)

pub prefixed_name : (s : Bytes) {k : ℕ} → Prefixed k ≡ name_of s → (is_q_name s ≡ true) × (k + 1 ≡ colon_of s)
unfolding colon_of prefix_of when◌then◌else◌
prefixed_name s {k} h =
    let p = has_prefix s h in
    let q : before s ≡ k = ap length (rw p.colon at p.prefix) ∙ length-take-le k s (omega (arith, p.within)) in
    (p.name, rw p.colon (omega arith))

-- ---- `put_name`

pub put-name : {c : ℕ} {s : Bytes} {d e : List ℕ} {at : ℕ} {r : Bool} → (is_q_name s ≡ true) × (c ≡ colon_of s) → Put d at s e r → at + length s ≤ length d → Name c s d e at
put-name h p room = record { qname = h.0; colon = h.1; wrote = put-fits p room }

-- over bytes that were changed before
pub named_around : (r : Option ℕ) (s : Bytes) {d e : List ℕ} (f : List ℕ) {at : ℕ} → Around d e at (length s) → Named r s e f at → Named r s d f at
unfolding stored_at
named_around None s f a m = (m.0, kept_then a.kept m.1)
named_around (Some c) s {d} {e} f {at} a m =
    let w = m.wrote in
    record {
      qname = m.qname;
      colon = m.colon;
      wrote = record { room = omega (arith, w.room, a.kept.same); up = w.up; eq = w.eq ∙ rw (a.before, a.kept.beyond) };
    }

-- ---- a name in ASCII, byte by byte

pub spelled_begins : (s : Bytes) → Spelled s 0 0
spelled_begins s = record { begins = omega arith; within = omega arith; part = part_none; prefix = λ l. absurd (omega arith) }

module _ {s : Bytes} {i p : ℕ} (h : Spelled s i p) where
  part-size : length (take (i - p) (drop p s)) ≡ i - p
  part-size = length-take-le (i - p) (drop p s) (omega (arith, length-drop p s, h.begins, h.within))

  part_is_lem : (i ≡ p → ⊥) → is_nc_name (take (i - p) (drop p s)) ≡ true
  part_is_lem n = part-name h.part (omega (arith, part-size, h.begins))

  module _ (l : i < length s) where
    part_grows : take (i + 1 - p) (drop p s) ≡ take (i - p) (drop p s) ++ (get_or s i 0 ∷ [])
    part_grows =
        let z : i + 1 - p ≡ suc (i - p) = omega (arith, h.begins) in
        let y : p + (i - p) ≡ i = omega (arith, h.begins) in
        rw z (take-suc (drop p s) (i - p) 0 (omega (arith, length-drop p s, h.begins)) ∙ rw (get_or-drop p s (i - p) 0, y))

    pub spelled_start : plain starts_nc (get_or s i 0) ≡ true → Spelled s (i + 1) p
    spelled_start e =
        record {
          begins = omega (arith, h.begins);
          within = omega arith;
          part = rw part_grows (part_start (take (i - p) (drop p s)) (get_or s i 0) h.part e);
          prefix = h.prefix;
        }

    module _ (n : i ≡ p → ⊥) where
      pub spelled_on : plain goes_on_nc (get_or s i 0) ≡ true → Spelled s (i + 1) p
      spelled_on e =
          record {
            begins = omega (arith, h.begins);
            within = omega arith;
            part = rw part_grows (part_on (get_or s i 0) h.part (omega (arith, part-size, h.begins)) e);
            prefix = h.prefix;
          }

      pub spelled_colon : get_or s i 0 ≡ 58 → p ≡ 0 → Spelled s (i + 1) (i + 1)
      spelled_colon e q =
          let none : i + 1 - (i + 1) ≡ 0 = omega arith in
          let back : i + 1 - 1 ≡ i = omega arith in
          let whole : i - 0 ≡ i = omega arith in
          record {
            begins = omega arith;
            within = omega arith;
            part = rw none part_none;
            prefix = λ _. rw back (record { name = rw whole at (rw q at (part_is_lem n)); colon = e });
          }

-- where all bytes are seen
pub spelled_name : (s : Bytes) (i p : ℕ) → Spelled s i p → length s ≤ i → (i ≡ p → ⊥) → (is_q_name s ≡ true) × (p ≡ colon_of s)
spelled_name s i zero h l n = let whole : i - 0 ≡ i = omega arith in local_name s (by_local s (rw (whole, take_all i s l) at (part_is_lem h n)))
spelled_name s i (suc k) h l n =
    let b : k < length s = omega (arith, h.begins, h.within) in
    let back : suc k - 1 ≡ k = omega arith in
    let p = rw back at (h.prefix (omega arith)) in
    let t : take (i - suc k) (drop (suc k) s) ≡ drop (k + 1) s = rw add-one (take_all (i - suc k) (drop (suc k) s) (omega (arith, length-drop (suc k) s))) in
    rw add-one at (prefixed_name s (by_parts s k b p.name p.colon (rw t at (part_is_lem h n))))

-- and copied as far
module _ (s : Bytes) {d e : List ℕ} {at i : ℕ} (w : Wrote d e at (at + i) (take i s)) where
  pub copied_more : i < length s → at + length s ≤ length d → Wrote d (set e (at + i) (get_or s i 0)) at (at + (i + 1)) (take (i + 1) s)
  copied_more l room =
      let z : at + (i + 1) ≡ at + i + 1 = omega arith in
      let g : take (i + 1) s ≡ take i s ++ (get_or s i 0 ∷ []) = rw add-one (take-suc s i 0 l) in
      rw (z, g) (and_then w (wrote_one {b = get_or s i 0} (omega (arith, wrote_same w))))

  pub copied-part : i ≤ length s → Around d e at (length s)
  copied-part l = record { before = wrote_before w; kept = kept_wrote w (omega arith) }

  pub copied-name : {p : ℕ} → Spelled s i p → length s ≤ i → (i ≡ p → ⊥) → Name p s d e at
  copied-name {p} h l n =
      let q = spelled_name s i p h l n in
      let z : i ≡ length s = omega (arith, h.within) in
      record { qname = q.0; colon = q.1; wrote = rw (z, take-length s) at w }
