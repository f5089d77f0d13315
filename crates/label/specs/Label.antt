-- What a generator of labels answers, and the tests of labels.
use Rattle.std.specs.List.{ends_with}
use Rattle.std.proofs.lemmas.Bool.Decides.{nat_tests}
use Rattle.std.proofs.Math.Seq.{drop-length}
use Rattle.std.specs.Prelude.{suc, ◌&&◌, ◌≡◌, refl, true, false, List, [], ◌∷◌, ◌++◌, ℕ, ◌+◌, ◌-◌, ◌<◌, ◌≤◌, Option, Some, None, IsSome, eqb, length, drop, get_or}
use Rattle.std.proofs.Common.{◌∙◌, append-nil, arith, drop-cons}
use borrow.Author.Tests.{eq-eqb, ne_eqb}
use Rattle.spec.specs.Bytes.{ascii, byte, begins, every, between}
use Rattle.spec.specs.Limits.{most_labels}
use Rattle.spec.specs.NTriples.{digits, label}
use Rattle.spec.specs.StartTag.{is_generated, ends_in_stop}
use Rattle.copy.specs.Texts.{after_drop}
use Rattle.label.specs.Digits.{length_digits}
use Rattle.label.specs.declared.BlankNodeId.{BlankNodeId}

-- What `generate` answers after `n` labels, with `m` behind it: the next one, while fewer than `most_labels` were generated.
pub record Made (n m : ℕ) (made : BlankNodeId) : Type 0 where
  pub below : n < most_labels
  pub goes : m ≡ n + 1
  pub id : made.id ≡ label (n + 1)

abbrev pub Generates : ℕ → ℕ → Option BlankNodeId → Type 0
Generates n m None = (most_labels ≤ n) × (m ≡ n)
Generates n m (Some made) = Made n m made

pub length_label : (n : ℕ) → length (label n) ≡ 12
unfolding label ascii
length_label n = rw (length_digits 8 n)

-- a label is left
pub one_left : (n m : ℕ) (r : Option BlankNodeId) → Generates n m r → n < most_labels → IsSome r
one_left n m None g h = absurd (omega (arith, g.0))
one_left n m (Some made) g h = refl

-- and it is made
pub generated : {n m : ℕ} {r : Option BlankNodeId} {made : BlankNodeId} → Generates n m r → r ≡ Some made → Made n m made
generated g e = rw e at g

-- `y` is what was written behind `riog`
pub generates_next : {n m : ℕ} {made : BlankNodeId} {y : List ℕ} → n < most_labels → m ≡ n + 1 → y ≡ digits 8 m → made.id ≡ ascii "riog" ++ (y ++ []) → Made n m made
unfolding label
generates_next h g w e = record { below = h; goes = g; id = e ∙ rw (append-nil, w, g) }

-- ---- is it a label that could be generated?

module _ (s : List ℕ) where
  pub begins_otherwise : begins (ascii "riog") s ≡ false → false ≡ is_generated s
  unfolding is_generated
  begins_otherwise e = rw e

  pub longer_or_shorter : begins (ascii "riog") s ≡ true → (length s ≡ 12 → ⊥) → false ≡ is_generated s
  unfolding is_generated
  longer_or_shorter e h = rw (e, ne_eqb (length s) 12 h)

  pub digits_decide : begins (ascii "riog") s ≡ true → length s ≡ 12 → every (between (byte "0") (byte "9")) (drop 4 s) ≡ is_generated s
  unfolding is_generated ascii
  digits_decide e h = rw (e, eq-eqb (length s) 12 h, after_drop)

-- ---- does it end in a full stop?

last_of : (c : ℕ) (s : List ℕ) → eqb (get_or (c ∷ s) (length s) 0) 46 ≡ ends_in_stop (c ∷ s)
unfolding ends_in_stop byte
last_of c [] = refl
last_of c (d ∷ s) = last_of d s

turned : (c : ℕ) → (eqb 46 c && true) ≡ eqb c 46
turned c = grind (arith, nat_tests)

pub ends_with_stop : (s : List ℕ) → ends_with eqb s (46 ∷ []) ≡ ends_in_stop s
unfolding ends_in_stop
ends_with_stop [] = refl
ends_with_stop (c ∷ s) =
    let i : suc (length s) - 1 ≡ length s = omega arith in
    rw (i, drop-cons (c ∷ s) (length s) 0 (omega arith), drop-length (c ∷ s)) (turned (get_or (c ∷ s) (length s) 0) ∙ last_of c s)
