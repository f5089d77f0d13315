-- `end_tag::main_size` meets its contract. The difference, where there is one.
use native.Mathlib.Omega.{arith}
use Rattle.end_tag.proofs.main_size.Goals as goal

pub returns-then-to-from : goal.returns-then-to-from
returns-then-to-from c = (omega (arith, c.wide-from.ensures, c.wide-to.ensures), omega arith)

pub returns : goal.returns
returns c = (rw (c.wide-from.ensures.0, c.wide-to.ensures.0), omega (arith, c.wide-to.ensures))
