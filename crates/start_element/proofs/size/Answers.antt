-- `start_element::size` meets its contract. The lengths of all parts, which are the bytes of the element.
use mathlib.Core.Path.{ap}
use lib.ListN.{length}
use Rattle.spec.specs.Limits.{most_attributes}
use Rattle.start_element.specs.Sizes.{few_parts, few-declared, measured}
use Rattle.copy.specs.Copy.{part_short}
use native.Mathlib.Omega.{arith}
use Rattle.start_element.proofs.size.Goals as goal

pub overflow_add-result : goal.overflow_add-result
unfolding most_attributes
overflow_add-result c = omega (arith, ap length c.piece-name.ensures, part_short c.args.scratch.now 0 c.args.m, few-declared c.args.scratch.now c.requires.0.event c.args.spans.now 0 c.args.k)

pub overflow_add-result-2 : goal.overflow_add-result-2
unfolding most_attributes
overflow_add-result-2 c = omega (arith, ap length c.piece-name.ensures, part_short c.args.scratch.now 0 c.args.m, few-declared c.args.scratch.now c.requires.0.event c.args.spans.now 0 c.args.k, few_parts c.requires.0 c.args.parts c.parts_size.ensures)

pub returns : goal.returns
returns c = measured _ _ _ _ _ _ c.requires.2 c.piece-name.ensures c.declared_size-bound.ensures c.parts_size.ensures
