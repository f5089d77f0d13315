-- RFC 3986, section 5.2.4: its loop of turns, each of which shortens the input.
use Rattle.std.specs.Prelude.{◌≡◌, refl, Bool, true, false, ◌||◌, [], ◌∷◌, ℕ, zero, suc, ◌+◌, ◌<◌, ◌≤◌, length}
use Rattle.std.proofs.Common.{ap, arith, length-append, length-drop}
use Rattle.spec.specs.Bytes.{Bytes, ascii, when◌then◌else◌, same, begins, up_to, from, among}
use Rattle.spec.specs.Rfc3986.{without_last, first_segment, turn, turns, remove_dot_segments}
use Rattle.copy.specs.Texts.{same_true, from-drop}
use Rattle.resolve.specs.Texts.{cut}
use Rattle.resolve.specs.Last.{without-beginning, beginning-length}

either : {A : Type 0} (P : A → Type 0) (t : Bool) {a b : A} → (t ≡ true → P a) → P b → P (when t then a else b)
unfolding when◌then◌else◌
either P true p q = p refl
either P false p q = q

pub turn_shortens : (c : ℕ) (i o : Bytes) → length (turn (c ∷ i) o).0 ≤ length i
unfolding turn ascii
turn_shortens c i o =
    either Less (begins (ascii "../") (c ∷ i)) (λ e. rw length-drop (omega arith))
    (either Less (begins (ascii "./") (c ∷ i)) (λ e. rw length-drop (omega arith))
    (either Less (begins (ascii "/./") (c ∷ i)) (λ e. rw length-drop (omega arith))
    (either Less (same (ascii "/.") (c ∷ i)) (λ e. omega (arith, ap length (same_true (ascii "/.") (c ∷ i) e)))
    (either Less (begins (ascii "/../") (c ∷ i)) (λ e. rw length-drop (omega arith))
    (either Less (same (ascii "/..") (c ∷ i)) (λ e. omega (arith, ap length (same_true (ascii "/..") (c ∷ i) e)))
    (either Less (same (ascii ".") (c ∷ i) || same (ascii "..") (c ∷ i)) (λ e. omega arith)
    (rw (from-drop (among (ascii "/")) i, length-drop) (omega arith))))))))
  where
    Less : Bytes × Bytes → Type 0
    Less r = length r.0 ≤ length i

-- so any number of turns from the input's length on is enough
pub turns_enough : (n m : ℕ) (i o : Bytes) → length i ≤ n → length i ≤ m → turns n i o ≡ turns m i o
unfolding turns
turns_enough zero zero i o p q = refl
turns_enough zero (suc m) [] o p q = refl
turns_enough zero (suc m) (c ∷ i) o p q = absurd (omega arith)
turns_enough (suc n) zero [] o p q = refl
turns_enough (suc n) zero (c ∷ i) o p q = absurd (omega arith)
turns_enough (suc n) (suc m) [] o p q = refl
turns_enough (suc n) (suc m) (c ∷ i) o p q =
    let s : length (turn (c ∷ i) o).0 ≤ length i = turn_shortens c i o in
    turns_enough n m (turn (c ∷ i) o).0 (turn (c ∷ i) o).1 (omega arith) (omega arith)

-- what the turns that are left make of the two buffers
unfoldable pub left : Bytes → Bytes → Bytes
left i o = turns (length i) i o

pub left-turn : (i o : Bytes) → 0 < length i → left i o ≡ left (turn i o).0 (turn i o).1
unfolding left turns
left-turn [] o z = absurd (omega arith)
left-turn (c ∷ i) o z =
    turns_enough (length i) (length (turn (c ∷ i) o).0) (turn (c ∷ i) o).0 (turn (c ∷ i) o).1 (turn_shortens c i o) (omega arith)

-- no turn makes the two buffers longer
turn-keeps : (c : ℕ) (i o : Bytes) → length (turn (c ∷ i) o).0 + length (turn (c ∷ i) o).1 ≤ suc (length i) + length o
unfolding turn ascii first_segment
turn-keeps c i o =
    let back : length (without_last o) ≤ length o = beginning-length (without-beginning o) in
    either Less (begins (ascii "../") (c ∷ i)) (λ e. rw length-drop (omega arith))
    (either Less (begins (ascii "./") (c ∷ i)) (λ e. rw length-drop (omega arith))
    (either Less (begins (ascii "/./") (c ∷ i)) (λ e. rw length-drop (omega arith))
    (either Less (same (ascii "/.") (c ∷ i)) (λ e. omega (arith, ap length (same_true (ascii "/.") (c ∷ i) e)))
    (either Less (begins (ascii "/../") (c ∷ i)) (λ e. rw length-drop (omega arith))
    (either Less (same (ascii "/..") (c ∷ i)) (λ e. omega (arith, ap length (same_true (ascii "/..") (c ∷ i) e)))
    (either Less (same (ascii ".") (c ∷ i) || same (ascii "..") (c ∷ i)) (λ e. omega arith)
    (omega (arith, length-append o (c ∷ up_to (among (ascii "/")) i), ap length (cut (among (ascii "/")) i), length-append (up_to (among (ascii "/")) i) (from (among (ascii "/")) i)))))))))
  where
    Less : Bytes × Bytes → Type 0
    Less r = length r.0 + length r.1 ≤ suc (length i) + length o

turns_keep : (n : ℕ) (i o : Bytes) → length (turns n i o) ≤ length i + length o
unfolding turns
turns_keep zero i o = omega arith
turns_keep (suc n) [] o = omega arith
turns_keep (suc n) (c ∷ i) o = omega (arith, turns_keep n (turn (c ∷ i) o).0 (turn (c ∷ i) o).1, turn-keeps c i o)

pub removed_length : (p : Bytes) → length (remove_dot_segments p) ≤ length p
unfolding remove_dot_segments
removed_length p = omega (arith, turns_keep (length p) p [])
