-- `start_references::reference::hashed` meets its contract: the value is put behind a "#", which the array is full of.
use Prim.Native.Nat.{◌+◌}
use lib.ListN.{length, length-take, take}
use Rattle.std.proofs.lemmas.List.{take-replicate}
use Rattle.spec.specs.Bytes.{byte}
use Rattle.start_references.specs.Reference.{text_if, hashed, id_resolved}
use native.Mathlib.Omega.{arith}
use Rattle.start_references.proofs.reference.hashed.Goals as goal

pub slice_bounds-resolved-end : goal.slice_bounds-resolved-end
slice_bounds-resolved-end g c = omega (arith, length-take (length c.args.value.now + 1) c.put.new.dst)

pub resolved-requires : goal.resolved-requires
resolved-requires g c = record { room = c.requires.0.room }

pub shape_of-area : goal.shape_of-area
shape_of-area g c = c.area-1.given

pub returns : goal.returns
unfolding byte
returns g c = id_resolved (text_if c.args.base) c.args.value.now (take (length c.args.value.now + 1) c.put.new.dst) (hashed c.put.ensures (omega (arith, c.requires.0.from)) (take-replicate 1 g.row.N 35 (omega arith))) c.resolved.ensures
