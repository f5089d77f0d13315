-- `start_rules::is_reserved_property` meets its contract, by its term.
use mathlib.Core.Path.{◌∙◌}
use Rattle.start_rules.specs.Names.{property_by_term}
use Rattle.start_rules.proofs.is_reserved_property.Goals as goal

pub returns : goal.returns
returns c = rw c.term_of.ensures at c.reserves_property.ensures ∙ property_by_term _
