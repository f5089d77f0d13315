-- Texts of one length, compared in two parts.
use Rattle.std.specs.Prelude.{◌≡◌, ◌≢◌, refl, Bool, true, false, ◌&&◌, ℕ, ◌+◌, ◌-◌, ◌≤◌, eqb, take, Option, None, Some, MatchOption}
use Rattle.std.specs.Array.{IsWholeChunk}
use Rattle.std.specs.Option.{option_eq}
use Rattle.std.specs.Cmp.Lexicographic.{pointwise}
use Rattle.std.proofs.Common.{Bor, sym, ◌∙◌, arith, take-append-drop}
use Rattle.std.proofs.Math.Path.{ap}
use mathlib.Core.List.{[], ◌∷◌, ◌++◌}
use Rattle.std.proofs.Math.ListN.{length, drop, length-take}
use Rattle.spec.specs.Bytes.{Bytes, same}
use Rattle.std.proofs.Math.Seq.{take-add, take-length, take-take}
use Rattle.copy.specs.Copy.{part}
use Rattle.copy.specs.Texts.{same_is, same_true, same_refl}

and_assoc : (a b c : Bool) → (a && (b && c)) ≡ ((a && b) && c)
and_assoc true b c = refl
and_assoc false b c = refl

pub same-append : (x y u v : Bytes) → length x ≡ length y → same (x ++ u) (y ++ v) ≡ (same x y && same u v)
unfolding same
same-append [] [] u v h = refl
same-append [] (b ∷ y) u v h = absurd (omega arith)
same-append (a ∷ x) [] u v h = absurd (omega arith)
same-append (a ∷ x) (b ∷ y) u v h = rw (same-append x y u v (omega arith)) (and_assoc (eqb a b) (same x y) (same u v))

same_parts : (a b : Bytes) (n : ℕ) → length a ≡ length b → same a b ≡ (same (take n a) (take n b) && same (drop n a) (drop n b))
same_parts a b n h =
    let l : length (take n a) ≡ length (take n b) = simp length-take (omega arith) in
    ap (λ (t : Bytes). same t b) (sym (take-append-drop n a))
    ∙ ap (λ (t : Bytes). same (take n a ++ drop n a) t) (sym (take-append-drop n b))
    ∙ same-append (take n a) (take n b) _ _ l

-- the n bytes of two texts as the arrays that their parts are
pub arrays_same : (n : ℕ) (u v : Bytes) (x y : Option (Bor Bytes)) → length u ≡ n → length v ≡ n
    → MatchOption x (length u ≢ n) (λ c. IsWholeChunk u c.now n) → MatchOption y (length v ≢ n) (λ c. IsWholeChunk v c.now n)
    → option_eq (λ u v. pointwise eqb u.now v.now) x y ≡ same u v
arrays_same n u v None y h k p q = absurd (p h)
arrays_same n u v (Some a) None h k p q = absurd (q k)
arrays_same n u v (Some a) (Some b) h k p q = rw (p.same, q.same) (same_is u v)

-- ---- from the end: the bytes from i on are the same

pub record Tails (a b : Bytes) (i : ℕ) : Type 0 where
  pub upto : i ≤ length a
  pub equal : length a ≡ length b
  pub rest : same a b ≡ same (take i a) (take i b)

pub tails_begin : {a b : Bytes} → length a ≡ length b → Tails a b (length a)
tails_begin {a} {b} h =
    let t : take (length a) b ≡ b = rw h (take-length b) in
    record { upto = omega arith; equal = h; rest = rw (take-length a, t) }

-- the n bytes before them are compared
module _ {a b : Bytes} {i : ℕ} (n : ℕ) (h : Tails a b i) (l : n ≤ i) where
  tail_split : same (take i a) (take i b) ≡ (same (take (i - n) a) (take (i - n) b) && same (part a (i - n) n) (part b (i - n) n))
  unfolding part
  tail_split =
      let e : i - n + n ≡ i = omega arith in
      let p : length (take (i - n) a) ≡ length (take (i - n) b) = simp length-take (omega (arith, h.equal, h.upto)) in
      ap (λ (m : ℕ). same (take m a) (take m b)) (sym e)
      ∙ (rw (take-add (i - n) n a, take-add (i - n) n b) (same-append (take (i - n) a) (take (i - n) b) _ _ p))

  pub tails_block : same (part a (i - n) n) (part b (i - n) n) ≡ true → Tails a b (i - n)
  tails_block e = record { upto = omega (arith, h.upto); equal = h.equal; rest = h.rest ∙ (tail_split ∙ rw e (and-true (same (take (i - n) a) (take (i - n) b)))) }
    where
      and-true : (t : Bool) → (t && true) ≡ t
      and-true true = refl
      and-true false = refl

  pub tails_stop : same (part a (i - n) n) (part b (i - n) n) ≡ false → false ≡ same a b
  tails_stop e = sym (h.rest ∙ (tail_split ∙ rw e (and-false (same (take (i - n) a) (take (i - n) b)))))
    where
      and-false : (t : Bool) → (t && false) ≡ false
      and-false true = refl
      and-false false = refl

-- the first n bytes differ
pub heads_differ : (n : ℕ) (a b : Bytes) → length a ≡ length b → same (part a 0 n) (part b 0 n) ≡ false → false ≡ same a b
unfolding part
heads_differ n a b h e = sym (same_parts a b n h ∙ rw e)

-- the first n bytes, those before i among them, are the same, and then all are
pub tails_all : {a b : Bytes} {i : ℕ} (n : ℕ) → Tails a b i → i ≤ n → same (part a 0 n) (part b 0 n) ≡ true → true ≡ same a b
unfolding part
tails_all {a} {b} {i} n h l e =
    let heads : take n a ≡ take n b = same_true (take n a) (take n b) e in
    let upto : take i a ≡ take i b = sym (take-take i n a l) ∙ (ap (take i) heads ∙ take-take i n b l) in
    sym (h.rest ∙ (rw upto (same_refl (take i b))))

-- so they tell
pub heads_tell : {a b : Bytes} {i : ℕ} (n : ℕ) → Tails a b i → i ≤ n → same (part a 0 n) (part b 0 n) ≡ same a b
heads_tell {a} {b} {i} n h l = tell (same (part a 0 n) (part b 0 n)) refl
  where
    tell : (t : Bool) → same (part a 0 n) (part b 0 n) ≡ t → same (part a 0 n) (part b 0 n) ≡ same a b
    tell true e = e ∙ tails_all n h l e
    tell false e = e ∙ heads_differ n a b h.equal e
