-- `convert::read` meets its contract: what was moved stays, and what was read stands behind it.
use Prim.Native.Nat.{◌-◌}
use native.Mathlib.Omega.{arith}
use lib.ListN.{length}
use borrow.Rule.Slice.PartMut.{take_put}
use borrow.Author.Rules.{rules}
use Rattle.convert.specs.Reading.{block-fits, reads}
use Rattle.convert.proofs.read.Goals as goal

pub resumed-requires : goal.resumed-requires
resumed-requires g c = omega (arith, block-fits _ c.to_front-rest.ensures c.requires.rest.within c.read-got.ensures, c.requires.rest.within)

pub returns : goal.returns
returns g c = reads _ c.requires.rest c.to_front-rest.ensures (search rules) (take_put c.to_front-rest.result (length c.to_front-rest.new.buffer - c.to_front-rest.result) c.to_front-rest.new.buffer c.read-got.new.into (omega (arith, c.to_front-rest.ensures.size, c.to_front-rest.ensures.room, c.requires.rest.within))) c.read-got.ensures c.resumed.ensures
