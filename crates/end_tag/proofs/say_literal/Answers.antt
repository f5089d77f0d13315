-- `end_tag::say_literal` meets its contract. Written at once where that is sure to have room, else measured first.
use mathlib.Core.Path.{refl, ◌∙◌}
use Rattle.writer.specs.Said.{says_sure, says_not, says_all}
use native.Mathlib.Omega.{arith}
use Rattle.end_tag.proofs.say_literal.Goals as goal

pub shape_of-out-then-literal_fits : goal.shape_of-out-then-literal_fits
shape_of-out-then-literal_fits c = c.out-1.given

pub returns-then-literal_fits : goal.returns-then-literal_fits
returns-then-literal_fits c = says_sure c.literal_lines-written.ensures refl (omega arith) (c.literal_fits.ensures c.if-literal_fits.true _)

pub shape_of-out-then-out-literal_lines : goal.shape_of-out-then-out-literal_lines
shape_of-out-then-out-literal_lines c = c.out-2-1.given

pub returns-then-out-literal_lines : goal.returns-then-out-literal_lines
returns-then-out-literal_lines c = says_not c.literal_lines.ensures refl (omega arith) (omega arith)

pub shape_of-out : goal.shape_of-out
shape_of-out c = c.out-3-1.given ∙ c.out-2-1.given

pub returns : goal.returns
returns c = says_all c.literal_lines.ensures refl (omega arith) c.literal_lines-written-2.ensures refl (omega arith)
