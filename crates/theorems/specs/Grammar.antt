-- A grammar's test accepts exactly what the grammar describes.
use Rattle.std.specs.Prelude.{◌≡◌, refl, Bool, true, false}
use Rattle.std.proofs.Common.{sym, ◌∙◌, ap, inl, inr}
use Rattle.std.proofs.lemmas.Bool.{false≢true}
use mathlib.Core.List.{List, [], ◌∷◌, ◌++◌, nil≢cons, cons≢nil, head-eq_of_cons-eq, tail-eq_of_cons-eq}
use Rattle.spec.specs.Grammar.{Grammar, nothing, empty, one, ◌or◌, ◌then◌, many, Many, stop, more, Describes, null, only, or_right, ◌or'◌, ◌then'◌, after, accepts}
use Rattle.spec.proofs.Booleans.{or_cases, or_left, or_right_lem, and_left, and_right, and_both}

module _ {A : Type 0} where
  null_sound : (g : Grammar A) → null g ≡ true → Describes g []
  null_sound nothing h = absurd (false≢true h)
  null_sound empty h = refl
  null_sound (one p) h = absurd (false≢true h)
  null_sound (g or k) h = elim (or_cases (null g) (null k) h) [ inl x ↦ inl (null_sound g x) | inr y ↦ inr (null_sound k y) ]
  null_sound (g then k) h = ([], [], refl, null_sound g (and_left (null g) (null k) h), null_sound k (and_right (null g) (null k) h))
  null_sound (many g) h = stop refl

  left-nil : (u v : List A) → [] ≡ u ++ v → u ≡ []
  left-nil [] v e = refl
  left-nil (a ∷ u) v e = absurd (nil≢cons e)

  right_nil : (u v : List A) → [] ≡ u ++ v → v ≡ []
  right_nil [] v e = sym e
  right_nil (a ∷ u) v e = absurd (nil≢cons e)

  null_complete : (g : Grammar A) → (s : List A) → s ≡ [] → Describes g s → null g ≡ true
  null_complete nothing s e d = absurd d
  null_complete empty s e d = refl
  null_complete (one p) s e d = absurd (nil≢cons (sym e ∙ d.1))
  null_complete (g or k) s e (inl x) = or_left (null g) (null k) (null_complete g s e x)
  null_complete (g or k) s e (inr y) = or_right_lem (null g) (null k) (null_complete k s e y)
  null_complete (g then k) s e d =
      and_both (null g) (null k)
      (null_complete g d.0 (left-nil d.0 d.1 (sym e ∙ d.2)) d.3)
      (null_complete k d.1 (right_nil d.0 d.1 (sym e ∙ d.2)) d.4)
  null_complete (many g) s e d = refl

  only_sound : (b : Bool) (g : Grammar A) (s : List A) → Describes (only b g) s → (b ≡ true) × Describes g s
  only_sound true g s d = (refl, d)
  only_sound false g s d = absurd d

  only_complete : (b : Bool) (g : Grammar A) (s : List A) → b ≡ true → Describes g s → Describes (only b g) s
  only_complete true g s e d = d
  only_complete false g s e d = absurd (false≢true e)

  right_sound : (g h : Grammar A) (s : List A) → Describes (or_right g h) s → Describes (g or h) s
  right_sound g nothing s d = inl d
  right_sound g empty s d = d
  right_sound g (one p) s d = d
  right_sound g (h or k) s d = d
  right_sound g (h then k) s d = d
  right_sound g (many h) s d = d

  right_complete : (g h : Grammar A) (s : List A) → Describes (g or h) s → Describes (or_right g h) s
  right_complete g nothing s (inl d) = d
  right_complete g nothing s (inr d) = absurd d
  right_complete g empty s d = d
  right_complete g (one p) s d = d
  right_complete g (h or k) s d = d
  right_complete g (h then k) s d = d
  right_complete g (many h) s d = d

  or_sound : (g h : Grammar A) (s : List A) → Describes (◌or'◌ g h) s → Describes (g or h) s
  or_sound nothing h s d = inr d
  or_sound empty h s d = right_sound empty h s d
  or_sound (one p) h s d = right_sound (one p) h s d
  or_sound (g or k) h s d = right_sound (g or k) h s d
  or_sound (g then k) h s d = right_sound (g then k) h s d
  or_sound (many g) h s d = right_sound (many g) h s d

  or_complete : (g h : Grammar A) (s : List A) → Describes (g or h) s → Describes (◌or'◌ g h) s
  or_complete nothing h s (inl d) = absurd d
  or_complete nothing h s (inr d) = d
  or_complete empty h s d = right_complete empty h s d
  or_complete (one p) h s d = right_complete (one p) h s d
  or_complete (g or k) h s d = right_complete (g or k) h s d
  or_complete (g then k) h s d = right_complete (g then k) h s d
  or_complete (many g) h s d = right_complete (many g) h s d

  then_sound : (g h : Grammar A) (s : List A) → Describes (◌then'◌ g h) s → Describes (g then h) s
  then_sound nothing h s d = absurd d
  then_sound empty h s d = ([], s, refl, refl, d)
  then_sound (one p) h s d = d
  then_sound (g or k) h s d = d
  then_sound (g then k) h s d = d
  then_sound (many g) h s d = d

  then_complete : (g h : Grammar A) (s : List A) → Describes (g then h) s → Describes (◌then'◌ g h) s
  then_complete nothing h s d = d.3
  then_complete empty h s d = rw (d.2, d.3) d.4
  then_complete (one p) h s d = d
  then_complete (g or k) h s d = d
  then_complete (g then k) h s d = d
  then_complete (many g) h s d = d

  after_sound : (a : A) (g : Grammar A) (s : List A) → Describes (after a g) s → Describes g (a ∷ s)
  after_sound a nothing s d = d
  after_sound a empty s d = absurd d
  after_sound a (one p) s d =
      let o : (p a ≡ true) × (s ≡ []) = only_sound (p a) empty s d in
      (a, ap (λ (t : List A). a ∷ t) o.1, o.0)
  after_sound a (g or k) s d = elim (or_sound (after a g) (after a k) s d) [ inl x ↦ inl (after_sound a g s x) | inr y ↦ inr (after_sound a k s y) ]
  after_sound a (g then k) s d =
      elim (or_sound (◌then'◌ (after a g) k) (only (null g) (after a k)) s d) [
        | inl x ↦
            (let t : Describes (after a g then k) s = then_sound (after a g) k s x in
            (a ∷ t.0, t.1, ap (λ (l : List A). a ∷ l) t.2, after_sound a g t.0 t.3, t.4))
        | inr y ↦
            (let o : (null g ≡ true) × Describes (after a k) s = only_sound (null g) (after a k) s y in
            ([], a ∷ s, refl, null_sound g o.0, after_sound a k s o.1))
      ]
  after_sound a (many g) s d =
      let t : Describes (after a g then many g) s = then_sound (after a g) (many g) s d in
      more (a ∷ t.0) t.1 (ap (λ (l : List A). a ∷ l) t.2) (after_sound a g t.0 t.3) t.4

  after_complete : (a : A) (g : Grammar A) (s : List A) → Describes g (a ∷ s) → Describes (after a g) s
  after_complete a nothing s d = d
  after_complete a empty s d = absurd (cons≢nil d)
  after_complete a (one p) s d =
      only_complete (p a) empty s (rw (head-eq_of_cons-eq d.1) d.2) (tail-eq_of_cons-eq d.1)
  after_complete a (g or k) s (inl d) = or_complete (after a g) (after a k) s (inl (after_complete a g s d))
  after_complete a (g or k) s (inr d) = or_complete (after a g) (after a k) s (inr (after_complete a k s d))
  after_complete a (g then k) s d = go d.0 d.1 d.2 d.3 d.4 (after_complete a g) (after_complete a k)
    where
      go : (u v : List A) → a ∷ s ≡ u ++ v → Describes g u → Describes k v
          → ((t : List A) → Describes g (a ∷ t) → Describes (after a g) t)
          → ((t : List A) → Describes k (a ∷ t) → Describes (after a k) t)
          → Describes (after a (g then k)) s
      go [] v e x y f₁ f₂ =
          or_complete (◌then'◌ (after a g) k) (only (null g) (after a k)) s (inr (only_complete (null g) (after a k) s (null_complete g [] refl x) (f₂ s (rw e y))))
      go (b ∷ u) v e x y f₁ f₂ =
          or_complete (◌then'◌ (after a g) k) (only (null g) (after a k)) s
          (inl (then_complete (after a g) k s (u, v, tail-eq_of_cons-eq e, f₁ u (rw (head-eq_of_cons-eq e) x), y)))
  after_complete a (many g) s d = go (a ∷ s) refl d (after_complete a g)
    where
      go : (r : List A) → r ≡ a ∷ s → Many (Describes g) r
          → ((t : List A) → Describes g (a ∷ t) → Describes (after a g) t)
          → Describes (after a (many g)) s
      go r e (stop x) f₁ = absurd (nil≢cons (sym x ∙ e))
      go r e (more [] v q x y) f₁ = go v (sym q ∙ e) y f₁
      go r e (more (b ∷ u) v q x y) f₁ =
          then_complete (after a g) (many g) s (u, v, tail-eq_of_cons-eq (sym e ∙ q), f₁ u (rw (head-eq_of_cons-eq (sym e ∙ q)) x), y)

  pub accepts_sound : (g : Grammar A) (s : List A) → accepts g s ≡ true → Describes g s
  accepts_sound g [] h = null_sound g h
  accepts_sound g (a ∷ s) h = after_sound a g s (accepts_sound (after a g) s h)

  pub accepts_complete : (g : Grammar A) (s : List A) → Describes g s → accepts g s ≡ true
  accepts_complete g [] d = null_complete g [] refl d
  accepts_complete g (a ∷ s) d = accepts_complete (after a g) s (after_complete a g s d)

  pub accepts-nothing : (s : List A) → accepts nothing s ≡ false
  accepts-nothing [] = refl
  accepts-nothing (a ∷ s) = accepts-nothing s
