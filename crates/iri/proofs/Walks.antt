-- The walk over a row: the places before `at` were taken, and the whole is a row if the rest is one.
use mathlib.Core.Path.{◌≡◌, sym, ◌∙◌}
use mathlib.Core.Bool.{true}
use Prim.Native.Nat.{ℕ, ◌+◌, ◌<◌, ◌≤◌}
use native.Mathlib.Nat.{add-zero}
use native.Mathlib.Omega.{arith}
use lib.ListN.{length, drop, get_or, length-drop, drop_of_length-le}
use lib.Seq.{drop-drop, get_or-drop}
use Rattle.spec.specs.Bytes.{Bytes}
use Rattle.iri.specs.declared.Part.{Part}
use Rattle.iri.specs.Parts.{of, row, lettered, slashed, common, Taken, Walked}
use Rattle.iri.proofs.Languages.{of_nil}
use Rattle.iri.proofs.Rows.{taken-common}

module _ {p : Part} {s : Bytes} {at : ℕ} (h : Walked p s at) where
  pub walked_within : {n : ℕ} → Taken p (drop at s) n → at + n ≤ length s
  walked_within t = omega (arith, t.within, length-drop at s, h.upto)

  pub walked_more : {n : ℕ} → Taken p (drop at s) n → 0 < n → Walked p s (at + n)
  walked_more {n} t l = record { upto = walked_within t; rest = h.rest ∙ t.some l ∙ rw (drop-drop n at s) }

  -- b: the next byte
  pub walked_common : {b : ℕ} → at < length s → lettered p ≡ true → b ≡ get_or s at 0 → common (slashed p) b ≡ true → Walked p s (at + 1)
  walked_common l y q z =
      let a : common (slashed p) (get_or (drop at s) 0 0) ≡ true = rw (get_or-drop at s 0 0, add-zero at, ← q) z in
      walked_more (taken-common p (drop at s) y (omega (arith, length-drop at s)) a) (omega arith)

  pub walked_done : length s ≤ at → true ≡ of (row p) s
  unfolding row
  walked_done l = sym (h.rest ∙ rw (drop_of_length-le s l) (of_nil (row p)))
