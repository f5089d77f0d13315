-- `literal::copy_element` meets its contract: 7, or the start tag is added and its element entered.
use mathlib.Core.Path.{refl, ap}
use Prim.Native.Nat.{◌+◌}
use Rattle.spec.specs.Limits.{most_attributes}
use Rattle.start_element.specs.Sizes.{few-declared}
use Rattle.literal.specs.Added.{xml_in}
use Rattle.literal.specs.Entered.{copy_over, copy-room, copy_done}
use native.Mathlib.Omega.{arith}
use Rattle.std.proofs.Common.{Err, ◌≡◌}
use Rattle.literal.proofs.copy_element.Goals as goal

pub overflow_add-more : goal.overflow_add-more
unfolding most_attributes
overflow_add-more c = record { fits = omega (arith, c.declared_size.ensures, few-declared c.args.scratch.now c.requires.short c.args.spans.now 0 c.args.k, c.requires) }

pub enter-open-requires : goal.enter-open-requires
enter-open-requires c = copy-room c.requires (xml_in c.start_tag-size.ensures refl (omega (arith, c.well_formed))) (ap (◌+◌ _) c.declared_size.ensures) c.add.ensures c.in_ok-added.was

pub returns-in_err-added : goal.returns-in_err-added
returns-in_err-added c =
    let up : c.from_residual.result ≡ Err c.in_err-added.field-0.0 = grind arith in
    rw up (copy_over c.requires (xml_in c.start_tag-size.ensures refl (omega (arith, c.well_formed))) (ap (◌+◌ _) c.declared_size.ensures) c.add.ensures c.in_err-added.was)

pub returns : goal.returns
returns c = copy_done c.requires (xml_in c.start_tag-size.ensures refl (omega (arith, c.well_formed))) (ap (◌+◌ _) c.declared_size.ensures) c.add.ensures c.in_ok-added.was c.enter-open.ensures
