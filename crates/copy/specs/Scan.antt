-- The loops that read: what a test of a whole text says from the position that a loop has come to.
use Rattle.std.specs.Prelude.{◌≡◌, refl, Bool, true, false, ◌||◌, List, [], ◌∷◌, fold, ℕ, suc, ◌+◌, ◌<◌, ◌≤◌, eqb, length, take, drop, get_or}
use Rattle.std.proofs.Common.{sym, ap, ◌∙◌, arith, add-one, eq-eqb, ne_eqb, length-take, length-drop, take-append-drop, drop_of_length-le, drop-cons, drop-drop}
use Rattle.spec.specs.Bytes.{when◌then◌else◌, same, up_to, among, every}
use Rattle.copy.specs.Texts.{same-lengths, up_to_past}

-- ---- laws of `||`

pub or_assoc : (a b c : Bool) → ((a || b) || c) ≡ (a || (b || c))
or_assoc true b c = refl
or_assoc false b c = refl

pub or-false : (a : Bool) → (a || false) ≡ a
or-false true = refl
or-false false = refl

-- ---- a search: `i` bytes passed, none of the set among them

pub record Sought (p : ℕ → Bool) (s : List ℕ) (i : ℕ) : Type 0 where
  pub upto : i ≤ length s
  pub rest : length (up_to p s) ≡ i + length (up_to p (drop i s))

pub sought_begins : {p : ℕ → Bool} {s : List ℕ} → Sought p s 0
sought_begins = record { upto = omega arith; rest = omega arith }

pub sought_stop : {p : ℕ → Bool} {s : List ℕ} {i : ℕ} → Sought p s i → i < length s → p (get_or s i 0) ≡ true → i ≡ length (up_to p s)
unfolding up_to when◌then◌else◌
sought_stop {p} {s} {i} h b e =
    let z : length (up_to p (drop i s)) ≡ 0 = rw (drop-cons s i 0 b, e) in
    omega arith

pub sought_more : {p : ℕ → Bool} {s : List ℕ} {i : ℕ} → Sought p s i → i < length s → p (get_or s i 0) ≡ false → Sought p s (i + 1)
unfolding up_to when◌then◌else◌
sought_more {p} {s} {i} h b e =
    let n : length (up_to p (drop i s)) ≡ suc (length (up_to p (drop (suc i) s))) = rw (drop-cons s i 0 b, e) in
    record { upto = omega arith; rest = rw add-one (omega arith) }

pub sought_done : {p : ℕ → Bool} {s : List ℕ} {i : ℕ} → Sought p s i → length s ≤ i → i ≡ length (up_to p s)
unfolding up_to
sought_done {p} {s} {i} h b =
    let z : length (up_to p (drop i s)) ≡ 0 = rw (drop_of_length-le s b) in
    omega arith

-- a block of `n` bytes passed at once
pub sought_block : (b n : ℕ) {s : List ℕ} {i : ℕ} → Sought (λ c. eqb c b) s i → i + n ≤ length s → among (take n (drop i s)) b ≡ false → Sought (λ c. eqb c b) s (i + n)
sought_block b n {s} {i} h l e =
    let w : length (take n (drop i s)) ≡ n = simp (length-take, length-drop) (omega arith) in
    let r : length (up_to (λ c. eqb c b) (drop i s)) ≡ length (take n (drop i s)) + length (up_to (λ c. eqb c b) (drop n (drop i s))) =
    ap (λ (t : List ℕ). length (up_to (λ c. eqb c b) t)) (sym (take-append-drop n (drop i s))) ∙ up_to_past b (take n (drop i s)) (drop n (drop i s)) e in
    record { upto = l; rest = rw (← drop-drop n i s) (omega arith) }

-- ---- a byte looked for with no branch

pub among_fold : (b : ℕ) (s : List ℕ) → fold (λ found x. found || eqb x b) false s ≡ among s b
unfolding among
among_fold b s = go false s
  where
    go : (found : Bool) (s : List ℕ) → fold (λ found x. found || eqb x b) found s ≡ (found || among s b)
    go found [] = sym (or-false found)
    go found (x ∷ s) = go (found || eqb x b) s ∙ or_assoc found (eqb x b) (among s b)

-- the same as a loop: `found` is the answer for the first `j` bytes

pub record Gathered (b : ℕ) (s : List ℕ) (j : ℕ) (found : Bool) : Type 0 where
  pub upto : j ≤ length s
  pub rest : among s b ≡ (found || among (drop j s) b)

pub gathered_begins : {b : ℕ} {s : List ℕ} → Gathered b s 0 false
gathered_begins = record { upto = omega arith; rest = refl }

pub gathered_more : {b : ℕ} {s : List ℕ} {j : ℕ} {found : Bool} → Gathered b s j found → j < length s → Gathered b s (j + 1) (found || eqb (get_or s j 0) b)
unfolding among
gathered_more {b} {s} {j} {found} h l =
    record { upto = omega arith; rest = h.rest ∙ rw (drop-cons s j 0 l, add-one) (sym (or_assoc found (eqb (get_or s j 0) b) (among (drop (suc j) s) b))) }

pub gathered_done : {b : ℕ} {s : List ℕ} {j : ℕ} {found : Bool} → Gathered b s j found → length s ≤ j → found ≡ among s b
unfolding among
gathered_done {b} {s} {j} {found} h l = sym (h.rest ∙ rw (drop_of_length-le s l) (or-false found))

-- ---- a test of every byte: `i` bytes passed it

pub record Passed (p : ℕ → Bool) (s : List ℕ) (i : ℕ) : Type 0 where
  pub upto : i ≤ length s
  pub rest : every p s ≡ every p (drop i s)

pub passed-begins : {p : ℕ → Bool} {s : List ℕ} → Passed p s 0
passed-begins = record { upto = omega arith; rest = refl }

pub passed_stop : {p : ℕ → Bool} {s : List ℕ} {i : ℕ} → Passed p s i → i < length s → p (get_or s i 0) ≡ false → false ≡ every p s
unfolding every
passed_stop {p} {s} {i} h b e = sym (h.rest ∙ rw (drop-cons s i 0 b, e))

pub passed_more : {p : ℕ → Bool} {s : List ℕ} {i : ℕ} → Passed p s i → i < length s → p (get_or s i 0) ≡ true → Passed p s (i + 1)
unfolding every
passed_more {p} {s} {i} h b e = record { upto = omega arith; rest = h.rest ∙ rw (drop-cons s i 0 b, e, add-one) }

pub passed_done : {p : ℕ → Bool} {s : List ℕ} {i : ℕ} → Passed p s i → length s ≤ i → true ≡ every p s
unfolding every
passed_done {p} {s} {i} h b = sym (h.rest ∙ rw (drop_of_length-le s b))

-- ---- a comparison: `i` bytes of both are the same

pub record Alike (a b : List ℕ) (i : ℕ) : Type 0 where
  pub upto : i ≤ length a
  pub equal : length a ≡ length b
  pub rest : same a b ≡ same (drop i a) (drop i b)

pub alike_never : (a b : List ℕ) → (length a ≡ length b → ⊥) → false ≡ same a b
alike_never a b h = sym (same-lengths a b h)

pub alike_begins : {a b : List ℕ} → length a ≡ length b → Alike a b 0
alike_begins h = record { upto = omega arith; equal = h; rest = refl }

pub alike_stop : {a b : List ℕ} {i : ℕ} → Alike a b i → i < length a → (get_or a i 0 ≡ get_or b i 0 → ⊥) → false ≡ same a b
unfolding same
alike_stop {a} {b} {i} h l e =
    let m : i < length b = omega arith in
    sym (h.rest ∙ rw (drop-cons a i 0 l, drop-cons b i 0 m, ne_eqb _ _ e))

pub alike_more : {a b : List ℕ} {i : ℕ} → Alike a b i → i < length a → get_or a i 0 ≡ get_or b i 0 → Alike a b (i + 1)
unfolding same
alike_more {a} {b} {i} h l e =
    let m : i < length b = omega arith in
    record { upto = omega arith; equal = h.equal; rest = h.rest ∙ rw (drop-cons a i 0 l, drop-cons b i 0 m, eq-eqb _ _ e, add-one) }

pub alike_done : {a b : List ℕ} {i : ℕ} → Alike a b i → length a ≤ i → true ≡ same a b
unfolding same
alike_done {a} {b} {i} h l = sym (h.rest ∙ rw (drop_of_length-le a l, drop_of_length-le b {i = i} (omega arith)))
