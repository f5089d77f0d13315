-- `iri::skip_common` meets its contract. The loop's invariant: whatever part has the common characters, the bytes up to `i` are places of it.
use mathlib.Core.Path.{◌≡◌}
use mathlib.Core.Bool.{true}
use Rattle.iri.specs.declared.Part.{Part}
use Rattle.iri.specs.Parts.{lettered, slashed, Walked}
use Rattle.iri.proofs.skip_common.Given as goal

abbrev pub invariant-loop-i : goal.invariant-loop-i
invariant-loop-i l = (p : Part) → lettered p ≡ true → l.slashed ≡ slashed p → Walked p l.s l.i
