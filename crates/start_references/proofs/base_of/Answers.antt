-- `start_references::base_of` meets its contract.
use Rattle.start_references.specs.Values.{base_own, base_none, base_other}
use Rattle.start_references.proofs.base_of.Goals as goal

pub returns-then-j-k : goal.returns-then-j-k
returns-then-j-k c = base_own _ _ _ _ _ _ c.if-j-k.true c.value_of.ensures

pub returns-in-None : goal.returns-in-None
returns-in-None c = base_none _ _ _ _ _ c.args.f c.if-j-k.false c.in-None.is

pub returns-in-Some : goal.returns-in-Some
returns-in-Some c = base_other _ _ _ _ _ c.args.f c.if-j-k.false c.in-Some.is c.piece.ensures
