-- Rows of bytes of one class: `times` and `_to_` of ABNF say how many, and of which class.
use mathlib.Core.Path.{◌≡◌, refl, ap, ◌∙◌}
use mathlib.Core.Logic.{inl, inr}
use mathlib.Core.Bool.{Bool, true, false, ◌&&◌}
use mathlib.Core.List.{[], ◌∷◌, ◌++◌}
use Prim.Native.Nat.{ℕ, zero, suc, ◌+◌, ◌≤◌}
use native.Mathlib.Omega.{arith}
use lib.ListN.{length, length-append}
use Rattle.spec.specs.Bytes.{Bytes, every}
use Rattle.spec.specs.Grammar.{one, ◌then◌, Describes}
use Rattle.spec.specs.Abnf.{times, at_most}
use Rattle.spec.proofs.Booleans.{and_left, and_right, and_both}

pub every_append : (p : ℕ → Bool) (u v : Bytes) → every p (u ++ v) ≡ (every p u && every p v)
unfolding every
every_append p [] v = refl
every_append p (c ∷ u) v = go (p c) (every_append p u v)
  where
    go : (t : Bool) → every p (u ++ v) ≡ (every p u && every p v) → (t && every p (u ++ v)) ≡ ((t && every p u) && every p v)
    go true e = e
    go false e = refl

-- what one class has, a wider has
pub every_wider : (p q : ℕ → Bool) → ((c : ℕ) → p c ≡ true → q c ≡ true) → (t : Bytes) → every p t ≡ true → every q t ≡ true
unfolding every
every_wider p q f [] h = refl
every_wider p q f (c ∷ t) h =
    and_both (q c) (every q t) (f c (and_left (p c) (every p t) h)) (every_wider p q f t (and_right (p c) (every p t) h))

module _ (p : ℕ → Bool) where
  -- so many bytes, all of the class
  pub record Counted (m n : ℕ) (t : Bytes) : Type 0 where
    pub least : m ≤ length t
    pub most : length t ≤ n
    pub all : every p t ≡ true

  pub times_sound : (n : ℕ) (t : Bytes) → Describes (times n (one p)) t → Counted n n t
  unfolding times every
  times_sound zero t d = record { least = omega arith; most = rw d (omega arith); all = rw d }
  times_sound (suc n) t d =
      let r : Counted n n d.1 = times_sound n d.1 d.4 in
      let l : length t ≡ suc (length d.1) = rw (d.2, d.3.1) in
      record { least = omega arith; most = omega arith; all = rw (d.2, d.3.1) (and_both (p d.3.0) (every p d.1) d.3.2 r.all) }

  pub times_complete : (n : ℕ) (t : Bytes) → Counted n n t → Describes (times n (one p)) t
  unfolding times every
  times_complete zero [] h = refl
  times_complete zero (c ∷ t) h = absurd (omega arith)
  times_complete (suc n) [] h = absurd (omega arith)
  times_complete (suc n) (c ∷ t) h = (
    c ∷ [],
    t,
    refl,
    (c, refl, and_left (p c) (every p t) h.all),
    times_complete n t (record { least = omega arith; most = omega arith; all = and_right (p c) (every p t) h.all }),
  )

  most_sound : (n : ℕ) (t : Bytes) → Describes (at_most n (one p)) t → Counted 0 n t
  unfolding at_most every
  most_sound zero t d = record { least = omega arith; most = rw d (omega arith); all = rw d }
  most_sound (suc n) t (inl d) = record { least = omega arith; most = rw d (omega arith); all = rw d }
  most_sound (suc n) t (inr d) =
      let r : Counted 0 n d.1 = most_sound n d.1 d.4 in
      let l : length t ≡ suc (length d.1) = rw (d.2, d.3.1) in
      record { least = omega arith; most = omega arith; all = rw (d.2, d.3.1) (and_both (p d.3.0) (every p d.1) d.3.2 r.all) }

  most_complete : (n : ℕ) (t : Bytes) → Counted 0 n t → Describes (at_most n (one p)) t
  unfolding at_most every
  most_complete zero [] h = refl
  most_complete zero (c ∷ t) h = absurd (omega arith)
  most_complete (suc n) [] h = inl refl
  most_complete (suc n) (c ∷ t) h =
      inr (
        c ∷ [],
        t,
        refl,
        (c, refl, and_left (p c) (every p t) h.all),
        most_complete n t (record { least = omega arith; most = omega arith; all = and_right (p c) (every p t) h.all }),
      )

  -- m of them and at most k more
  pub to_sound : (m k : ℕ) (t : Bytes) → Describes (times m (one p) then at_most k (one p)) t → Counted m (m + k) t
  to_sound m k t d =
      let a : Counted m m d.0 = times_sound m d.0 d.3 in
      let b : Counted 0 k d.1 = most_sound k d.1 d.4 in
      let l : length t ≡ length d.0 + length d.1 = ap length d.2 ∙ length-append d.0 d.1 in
      record {
        least = omega arith;
        most = omega arith;
        all = rw (d.2, every_append p d.0 d.1) (and_both (every p d.0) (every p d.1) a.all b.all);
      }

  pub to_complete : (m k : ℕ) (t : Bytes) → Counted m (m + k) t → Describes (times m (one p) then at_most k (one p)) t
  unfolding times every
  to_complete zero k t h = ([], t, refl, refl, most_complete k t (record { least = omega arith; most = omega arith; all = h.all }))
  to_complete (suc m) k [] h = absurd (omega arith)
  to_complete (suc m) k (c ∷ t) h =
      let r = to_complete m k t (record { least = omega arith; most = omega arith; all = and_right (p c) (every p t) h.all }) in
      (c ∷ r.0, r.1, ap (c ∷◌) r.2, (c ∷ [], r.0, refl, (c, refl, and_left (p c) (every p t) h.all), r.3), r.4)
