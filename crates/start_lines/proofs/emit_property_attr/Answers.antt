-- `start_lines::emit_property_attr` meets its contract: no line, or that of the attribute by its class.
use Rattle.start_lines.specs.Lines.{no_line, one_line}
use Rattle.spec.specs.Namespaces.{xml_name}
use Rattle.spec.specs.Bytes.{ascii}
use mathlib.Core.Path.{sym, ◌∙◌}
use native.Mathlib.Omega.{arith}
use Rattle.start_lines.proofs.emit_property_attr.Goals as goal

pub returns-then-not-is_property : goal.returns-then-not-is_property
returns-then-not-is_property c = no_line _ _ _ _ _ _ _ _ (sym c.is_property.ensures ∙ c.if-not-is_property.true) (omega arith)

pub shape_of-out : goal.shape_of-out
shape_of-out c = c.out-1.given

pub returns : goal.returns
unfolding xml_name ascii
returns c = one_line _ _ _ _ _ _ _ _ c.property_line.ensures (sym c.is_property.ensures ∙ c.if-not-is_property.false) c.load.ensures c.space_of-space.ensures
