-- `end_tag::say_property` meets its contract. Written at once where that is sure to have room, else measured first.
use mathlib.Core.Path.{refl, ◌∙◌}
use Rattle.writer.specs.Said.{says_sure, says_not, says_all}
use native.Mathlib.Omega.{arith}
use Rattle.end_tag.proofs.say_property.Goals as goal

pub shape_of-out-then-property_fits : goal.shape_of-out-then-property_fits
shape_of-out-then-property_fits c = c.out-1.given

pub returns-then-property_fits : goal.returns-then-property_fits
returns-then-property_fits c = says_sure c.property_lines-written.ensures refl (omega arith) (c.property_fits.ensures c.if-property_fits.true _)

pub shape_of-out-then-out-property_lines : goal.shape_of-out-then-out-property_lines
shape_of-out-then-out-property_lines c = c.out-2-1.given

pub returns-then-out-property_lines : goal.returns-then-out-property_lines
returns-then-out-property_lines c = says_not c.property_lines.ensures refl (omega arith) (omega arith)

pub shape_of-out : goal.shape_of-out
shape_of-out c = c.out-3-1.given ∙ c.out-2-1.given

pub returns : goal.returns
returns c = says_all c.property_lines.ensures refl (omega arith) c.property_lines-written-2.ensures refl (omega arith)
