-- `end_tag::statements::statement_fits` meets its contract. One line, or five.
use borrow.Author.Tests.{leb-true}
use Rattle.end_tag.specs.Room.{fits_one, fits_five}
use native.Mathlib.Omega.{arith}
use Rattle.end_tag.proofs.statements.statement_fits.Goals as goal

pub returns-then-has-eq0 : goal.returns-then-has-eq0
returns-then-has-eq0 c = λ y. fits_one c.if-has-eq0.true (omega (arith, leb-true))

pub returns : goal.returns
returns c = λ y. fits_five c.if-has-eq0.false (omega (arith, leb-true))
