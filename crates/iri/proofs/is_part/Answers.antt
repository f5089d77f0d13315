-- `iri::is_part` meets its contract.
use mathlib.Core.Path.{refl, sym, ap, ◌∙◌}
use mathlib.Core.Bool.{not}
use native.Mathlib.Omega.{arith}
use Rattle.spec.specs.Bytes.{ascii}
use Rattle.copy.specs.Texts.{begins-length}
use Rattle.utils.proofs.Walking.{to_end}
use Rattle.iri.proofs.Checks.{part-network, part_law, and-first, and-second, or-first, or-second}
use Rattle.iri.proofs.is_part.Goals as goal

pub slice_bounds-is_network-count : goal.slice_bounds-is_network-count
slice_bounds-is_network-count c = omega (arith, begins-length _ _ (sym c.begins.ensures ∙ c.if-begins.true))

pub slice_bounds-is_network-start : goal.slice_bounds-is_network-start
slice_bounds-is_network-start c = omega (arith, begins-length _ _ (sym c.begins.ensures ∙ c.if-begins.true))

pub returns-then-begins : goal.returns-then-begins
unfolding ascii
returns-then-begins c = rw to_end at c.is_network.ensures ∙ part-network _ _ (sym c.begins.ensures ∙ c.if-begins.true)

pub returns-then-not-relative : goal.returns-then-not-relative
unfolding ascii
returns-then-not-relative c = and-second _ (part_law _ _ (sym c.begins.ensures ∙ c.if-begins.false)) c.is_row.ensures c.if-is_row.true (or-first _ refl refl (ap not c.if-not-relative.true))

pub returns-else-not-relative : goal.returns-else-not-relative
unfolding ascii
returns-else-not-relative c = and-second _ (part_law _ _ (sym c.begins.ensures ∙ c.if-begins.false)) c.is_row.ensures c.if-is_row.true (or-second _ refl refl (ap not c.if-not-relative.false) c.is_colonless.ensures)

pub returns-else-is_row : goal.returns-else-is_row
unfolding ascii
returns-else-is_row c = and-first _ (part_law _ _ (sym c.begins.ensures ∙ c.if-begins.false)) c.is_row.ensures c.if-is_row.false
