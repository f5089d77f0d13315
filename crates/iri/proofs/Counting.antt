-- The groups of a text counted from its front: c of them passed, each with its ":", and t is left.
use mathlib.Core.Path.{◌≡◌, refl, sym, ap, ◌∙◌}
use mathlib.Core.Bool.{Bool, true, false, ◌&&◌, and-false}
use mathlib.Core.List.{[]}
use Prim.Native.Nat.{ℕ, zero, suc, ◌+◌, ◌-◌, ◌<◌, ◌≤◌}
use native.Mathlib.Omega.{arith}
use lib.Dec.{eqb, leb}
use lib.ListN.{length}
use borrow.Author.Tests.{eq-eqb, ne_eqb, leb-true, leb-false}
use Rattle.spec.specs.Bytes.{Bytes, from}
use Rattle.spec.specs.Rfc3987.{h16, IPv4address}
use Rattle.iri.specs.Parts.{of}
use Rattle.iri.specs.Forms.{Cut}
use Rattle.iri.specs.Addresses.{groups, Counted}
use Rattle.iri.proofs.Languages.{is}
use Rattle.iri.proofs.Addresses.{colon-one, colon_more, last-two, last_more, group_alone, some_bytes}

pub record Counting (v : Bool) (s : Bytes) (c : ℕ) (t : Bytes) : Type 0 where
  pub few : c ≤ 8
  pub rest : (n m : ℕ) → m ≡ c + suc n → m ≤ 8 → of (groups v m) s ≡ of (groups v (suc n)) t
  pub none : (n : ℕ) → n ≤ c → of (groups v n) s ≡ false

pub counting_begins : (v : Bool) (s : Bytes) → 0 < length s → Counting v s 0 s
counting_begins v s l =
    record {
      few = omega arith;
      rest = λ n m e h. let q : m ≡ suc n = omega arith in rw q;
      none = λ n h. let q : n ≡ 0 = omega arith in rw q (some_bytes v s l);
    }

-- how many there are, by how many the rest is
count : {v : Bool} {s t : Bytes} {c : ℕ} (r : ℕ) → Counting v s c t → r ≤ 9 → c < r → ((k : ℕ) → c + suc k ≤ 8 → of (groups v (suc k)) t ≡ eqb (c + suc k) r) → Counted v s r
count {v} {s} {t} {c} r h most l f = record { most = most; each = λ n b. by n b (leb n c) refl }
  where
    by : (n : ℕ) → n ≤ 8 → (t : Bool) → leb n c ≡ t → of (groups v n) s ≡ eqb n r
    by n b true e = let p : n ≤ c = leb-true n c e in h.none n p ∙ sym (ne_eqb n r (λ q. omega arith))
    by n b false e =
        let p : c < n = leb-false n c e in
        let q : n ≡ c + suc (n - c - 1) = omega arith in
        h.rest (n - c - 1) n q b ∙ f (n - c - 1) (omega arith) ∙ ap (λ (x : ℕ). eqb x r) (sym q)

module _ {v : Bool} {s t : Bytes} {c : ℕ} (h : Counting v s c t) where
  -- eight passed, and there is more
  pub counting_many : 8 ≤ c → Counted v s 9
  counting_many l = record { most = omega arith; each = λ n b. h.none n (omega arith) ∙ sym (ne_eqb n 9 (λ e. omega arith)) }

  -- a ":" is left
  module _ {a b : Bytes} (e : Cut 58 t a b) where
    pub counting_more : c < 8 → of h16 a ≡ true → Counting v s (c + 1) b
    counting_more l g =
        record {
          few = omega arith;
          rest = λ n m k u. h.rest (suc n) m (omega arith) u ∙ colon_more t b e.back v n ∙ rw (e.front, g);
          none = λ n u. by n u (leb n c) refl;
        }
      where
        by : (n : ℕ) → n ≤ c + 1 → (t : Bool) → leb n c ≡ t → of (groups v n) s ≡ false
        by n u true k = h.none n (leb-true n c k)
        by n u false k = let p : c < n = leb-false n c k in h.rest 0 n (omega arith) (omega arith) ∙ colon-one t b e.back v

    pub counting_bad : c < 8 → of h16 a ≡ false → Counted v s 9
    counting_bad l g = count 9 h (omega arith) (omega arith) (λ k b. by k ∙ sym (ne_eqb (c + suc k) 9 (λ q. omega arith)))
      where
        by : (k : ℕ) → of (groups v (suc k)) t ≡ false
        by zero = colon-one t b e.back v
        by (suc k) = colon_more t b e.back v k ∙ rw (e.front, g)

  -- none is left
  module _ (l : c < 8) (e : from (is 58) t ≡ []) where
    pub counting_last : of h16 t ≡ true → Counted v s (c + 1)
    unfolding groups
    counting_last g = count (c + 1) h (omega arith) (omega arith) by
      where
        by : (k : ℕ) → c + suc k ≤ 8 → of (groups v (suc k)) t ≡ eqb (c + suc k) (c + 1)
        by zero b = g ∙ sym (eq-eqb (c + 1) (c + 1) refl)
        by (suc zero) b = last-two t e v ∙ rw (group_alone t g) (and-false v) ∙ sym (ne_eqb (c + 2) (c + 1) (λ q. omega arith))
        by (suc (suc k)) b = last_more t e v k ∙ sym (ne_eqb (c + suc (suc (suc k))) (c + 1) (λ q. omega arith))

    -- none, or an IPv4 address, which counts as two
    module _ (n : of h16 t ≡ false) where
      pub counting_address : v ≡ true → of IPv4address t ≡ true → Counted v s (c + 2)
      unfolding groups
      counting_address w g = count (c + 2) h (omega arith) (omega arith) by
        where
          by : (k : ℕ) → c + suc k ≤ 8 → of (groups v (suc k)) t ≡ eqb (c + suc k) (c + 2)
          by zero b = n ∙ sym (ne_eqb (c + 1) (c + 2) (λ q. omega arith))
          by (suc zero) b = last-two t e v ∙ rw (w, g) (sym (eq-eqb (c + 2) (c + 2) refl))
          by (suc (suc k)) b = last_more t e v k ∙ sym (ne_eqb (c + suc (suc (suc k))) (c + 2) (λ q. omega arith))

      pub counting_none : (v && of IPv4address t) ≡ false → Counted v s 9
      unfolding groups
      counting_none g = count 9 h (omega arith) (omega arith) (λ k b. by k ∙ sym (ne_eqb (c + suc k) 9 (λ q. omega arith)))
        where
          by : (k : ℕ) → of (groups v (suc k)) t ≡ false
          by zero = n
          by (suc zero) = last-two t e v ∙ g
          by (suc (suc k)) = last_more t e v k
