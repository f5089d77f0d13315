-- How the program reads: the rest to the front, and a block behind it.
use Rattle.std.specs.Prelude.{ℕ, ◌+◌, ◌-◌, ◌≤◌, ◌≡◌, length, take, drop}
use Rattle.std.proofs.Math.Path.{refl, ap}
use Rattle.std.proofs.Common.{sym, ◌∙◌}
use mathlib.Core.List.{List}
use native.Mathlib.Omega.{arith}
use Rattle.std.proofs.Math.ListN.{length-drop}
use Rattle.std.specs.List.{copy_within}
use Rattle.std.proofs.lemmas.List.Edits.{take-paste}
use Rattle.copy.specs.Copy.{part, rest_of}
use Rattle.streams.specs.declared.Got.{Got}
use Rattle.streams.specs.declared.Got.TheVariants as got
use Rattle.streams.specs.Answers.{Fills}
use Rattle.convert.specs.declared.Outcome.{Outcome}
use Rattle.convert.specs.declared.Place.{Place}
use Rattle.convert.specs.Places.{amount, resumed_with, Moves, Within, Reads}
use Rattle.std.proofs.Common.{ControlFlow}

-- ---- bytes that move to the front

pub moves : {b b' : List ℕ} {from to : ℕ} → from ≤ to → to ≤ length b → length b' ≡ length b → b' ≡ copy_within b from to 0 → Moves b from to b' (to - from)
unfolding part
moves {b} {b'} {from} {to} h k l e =
    let z : 0 + (to - from) ≡ to - from = omega arith in
    record {
      size = refl;
      room = l;
      front = ap (λ (n : ℕ). take n b') (sym z) ∙ rw e (take-paste b 0 (drop from b) (to - from) (omega arith) (omega (arith, length-drop from b)));
    }

-- ---- a block read behind what was moved

-- what a read gives has room
pub amount-fits : {room : ℕ} (g : Got) → Fills room g → amount g ≤ room
unfolding Fills
amount-fits (got.Bytes n) h = h.1
amount-fits got.End h = omega arith
amount-fits got.Failed h = omega arith

pub reads : {p : Place} {x : ControlFlow Outcome Place} {b b' e : List ℕ} {n : ℕ} (g : Got) → Within p b → Moves b p.from p.to b' n → length e ≡ length b → take n e ≡ take n b'
    → Fills (length (take (length b' - n) (drop n b'))) g → x ≡ resumed_with p n g → Reads p b x e
reads {p} {x} {b} {b'} {e} {n} g h v room first k q =
    let fits : amount g ≤ length b - n = rw (rest_of b' n, length-drop, v.room) at (amount-fits g k) in
    record {
      got = g;
      next = rw (← v.size) q;
      fits = omega (arith, v.size, h.within);
      room = room;
      rest = rw (← v.size) (first ∙ v.front);
    }

-- and is counted
pub block-fits : {b b' : List ℕ} {from to n : ℕ} (g : Got) → Moves b from to b' n → to ≤ length b → Fills (length (take (length b' - n) (drop n b'))) g
    → n + amount g ≤ length b
block-fits {b} {b'} {from} {to} {n} g v h k =
    let fits : amount g ≤ length b - n = rw (rest_of b' n, length-drop, v.room) at (amount-fits g k) in
    omega (arith, v.size)
