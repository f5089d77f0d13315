-- `start_element::parts_size` meets its contract. No sum of lengths is too large.
use Rattle.start_element.specs.Sizes.{few-text, few-tag}
use mathlib.Core.Path.{ap}
use lib.ListN.{length}
use native.Mathlib.Omega.{arith}
use Rattle.start_element.proofs.parts_size.Goals as goal

pub overflow_add-result : goal.overflow_add-result
overflow_add-result c = omega (arith, few-text c.requires _ c.text_size.ensures, few-tag c.requires _ c.tag.ensures)

pub overflow_add-result-2 : goal.overflow_add-result-2
overflow_add-result-2 c = omega (arith, few-text c.requires _ c.text_size.ensures, few-tag c.requires _ c.tag.ensures, few-text c.requires _ c.text_size-2.ensures)

pub overflow_add-result-3 : goal.overflow_add-result-3
overflow_add-result-3 c = omega (arith, few-text c.requires _ c.text_size.ensures, few-tag c.requires _ c.tag.ensures, few-text c.requires _ c.text_size-2.ensures, few-text c.requires _ c.text_size-3.ensures)

pub overflow_add-result-4 : goal.overflow_add-result-4
overflow_add-result-4 c = omega (arith, few-text c.requires _ c.text_size.ensures, few-tag c.requires _ c.tag.ensures, few-text c.requires _ c.text_size-2.ensures, few-text c.requires _ c.text_size-3.ensures, few-text c.requires _ c.text_size-4.ensures)

pub overflow_add-result-5 : goal.overflow_add-result-5
overflow_add-result-5 c = omega (arith, few-text c.requires _ c.text_size.ensures, few-tag c.requires _ c.tag.ensures, few-text c.requires _ c.text_size-2.ensures, few-text c.requires _ c.text_size-3.ensures, few-text c.requires _ c.text_size-4.ensures, few-text c.requires _ c.text_size-5.ensures)

pub returns : goal.returns
returns c = omega (arith, c.text_size.ensures, ap length c.tag.ensures, c.text_size-2.ensures, c.text_size-3.ensures, c.text_size-4.ensures, c.text_size-5.ensures)
