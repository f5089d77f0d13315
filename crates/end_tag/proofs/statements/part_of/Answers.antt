-- `end_tag::statements::part_of` meets its contract. A piece from one place to the next.
use Rattle.end_tag.specs.Object.{span-lent}
use native.Mathlib.Omega.{arith}
use Rattle.end_tag.proofs.statements.part_of.Goals as goal

pub returns-then-to-from : goal.returns-then-to-from
returns-then-to-from c = span-lent _ _ _ c.piece.ensures c.wide-from.ensures.0 (omega (arith, c.wide-from.ensures, c.wide-to.ensures))

pub returns : goal.returns
returns c = span-lent _ _ _ c.piece-2.ensures c.wide-from.ensures.0 (rw (c.wide-from.ensures.0, c.wide-to.ensures.0))
