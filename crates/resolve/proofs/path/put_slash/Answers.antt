-- `resolve::path::put_slash` meets its contract.
use Rattle.resolve.specs.Output.{slash_none, slash_put, slash_room}
use native.Mathlib.Omega.{arith}
use Rattle.resolve.proofs.path.put_slash.Goals as goal

pub returns-then-not-begun : goal.returns-then-not-begun
returns-then-not-begun c = slash_none c.args.begun c.if-not-begun.true c.requires

pub bounds-area-at : goal.bounds-area-at
bounds-area-at c = omega (arith, slash_room c.args.begun c.if-not-begun.false c.requires)

pub returns : goal.returns
returns c = slash_put c.args.begun c.if-not-begun.false c.requires
