-- `start_commit::main_of` meets its contract. Of a span that ends before it starts, nothing.
use Rattle.start_commit.specs.Told.{span-lent}
use native.Mathlib.Omega.{arith}
use Rattle.start_commit.proofs.main_of.Goals as goal

pub returns-then-to-from : goal.returns-then-to-from
returns-then-to-from c = span-lent _ _ _ c.piece.ensures c.wide-from.ensures.0 (omega (arith, c.wide-from.ensures, c.wide-to.ensures))

pub returns : goal.returns
returns c = span-lent _ _ _ c.piece-2.ensures c.wide-from.ensures.0 (rw (c.wide-from.ensures.0, c.wide-to.ensures.0))
