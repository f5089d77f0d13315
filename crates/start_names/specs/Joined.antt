-- Two texts, each in two parts, compared without joining them.
use Rattle.std.specs.Prelude.{◌≡◌, refl, Bool, true, false, ◌&&◌, ℕ, ◌+◌, ◌-◌, ◌<◌, ◌≤◌, eqb, length, take, drop}
use Rattle.std.proofs.Common.{sym, ◌∙◌, arith, length-append, length-drop, eq-eqb, ne_eqb, eqb-true}
use Rattle.std.proofs.lemmas.Bool.{false≢true, eqb-false}
use mathlib.Core.List.{[], ◌∷◌, ◌++◌}
use Rattle.spec.specs.Bytes.{Bytes, same, begins}
use Rattle.copy.specs.Texts.{same_true, same_refl, same-lengths}

-- the order of the two does not matter
pub same_sym : (u v : Bytes) → same u v ≡ same v u
same_sym u v = go (same u v) refl (same v u) refl
  where
    go : (s : Bool) → same u v ≡ s → (t : Bool) → same v u ≡ t → s ≡ t
    go true p true q = refl
    go true p false q = let e : u ≡ v = same_true u v p in absurd (false≢true (sym q ∙ rw e (same_refl v)))
    go false p true q = let e : v ≡ u = same_true v u q in absurd (false≢true (sym p ∙ rw e (same_refl u)))
    go false p false q = refl

and_assoc : (a b c : Bool) → (a && (b && c)) ≡ ((a && b) && c)
and_assoc true b c = refl
and_assoc false b c = refl

eqb_sym : (m n : ℕ) → eqb m n ≡ eqb n m
eqb_sym m n = go (eqb n m) refl
  where
    go : (t : Bool) → eqb n m ≡ t → eqb m n ≡ t
    go true h = eq-eqb m n (sym (eqb-true n m h))
    go false h = ne_eqb m n (λ (e : m ≡ n). eqb-false n m h (sym e))

-- a text against one in two parts
front_split : (c b d : Bytes) → same b (c ++ d) ≡ (begins c b && same (drop (length c) b) d)
unfolding same begins
front_split [] b d = refl
front_split (x ∷ c) [] d = refl
front_split (x ∷ c) (y ∷ b) d = rw (front_split c b d, eqb_sym y x) (and_assoc (eqb x y) (begins c b) (same (drop (length c) b) d))

module _ (b d : Bytes) where
  -- a is no longer than c
  pub joined-split : (a c : Bytes) → length a ≤ length c
      → same (a ++ b) (c ++ d) ≡ (same a (take (length a) c) && (begins (drop (length a) c) b && same (drop (length (drop (length a) c)) b) d))
  unfolding same
  joined-split [] c h = front_split c b d
  joined-split (x ∷ a) [] h = absurd (omega arith)
  joined-split (x ∷ a) (y ∷ c) h = rw (joined-split a c (omega arith)) (and_assoc (eqb x y) (same a (take (length a) c)) _)

module _ (a b c d : Bytes) where
  lengths : (length a + length b ≡ length c + length d → ⊥) → false ≡ same (a ++ b) (c ++ d)
  lengths h = sym (same-lengths (a ++ b) (c ++ d) λ e. h (simp length-append at e))

  module _ (l : length a ≤ length c) where
    pub too_short : length b < length c - length a → false ≡ same (a ++ b) (c ++ d)
    too_short m = lengths (λ (e : length a + length b ≡ length c + length d). omega arith)

    pub other_length : length c - length a ≤ length b → (length b - (length c - length a) ≡ length d → ⊥) → false ≡ same (a ++ b) (c ++ d)
    other_length m h = lengths (λ (e : length a + length b ≡ length c + length d). h (omega arith))

    -- the rows of tests, the last bytes first
    module _ (m : length c - length a ≤ length b) where
      split : same (a ++ b) (c ++ d) ≡ (same a (take (length a - 0) c) && (begins (drop (length a) c) b && same (drop (length c - length a) b) d))
      split = let z : length a - 0 ≡ length a = omega arith in rw (z, ← length-drop (length a) c) (joined-split b d a c l)

      pub backs_differ : same (drop (length c - length a) b) d ≡ false → false ≡ same (a ++ b) (c ++ d)
      backs_differ p = sym (split ∙ rw p (go (same a (take (length a - 0) c)) (begins (drop (length a) c) b)))
        where
          go : (s t : Bool) → (s && (t && false)) ≡ false
          go true true = refl
          go true false = refl
          go false t = refl

      pub middles_differ : begins (drop (length a) c) b ≡ false → false ≡ same (a ++ b) (c ++ d)
      middles_differ p = sym (split ∙ rw p (go (same a (take (length a - 0) c))))
        where
          go : (s : Bool) → (s && false) ≡ false
          go true = refl
          go false = refl

      pub fronts_decide : same (drop (length c - length a) b) d ≡ true → begins (drop (length a) c) b ≡ true → same a (take (length a - 0) c) ≡ same (a ++ b) (c ++ d)
      fronts_decide p q = sym (split ∙ rw (p, q) (go (same a (take (length a - 0) c))))
        where
          go : (s : Bool) → (s && true) ≡ s
          go true = refl
          go false = refl
