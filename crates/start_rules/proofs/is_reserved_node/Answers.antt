-- `start_rules::is_reserved_node` meets its contract, by its term.
use mathlib.Core.Path.{◌∙◌}
use Rattle.start_rules.specs.Names.{node_by_term}
use Rattle.start_rules.proofs.is_reserved_node.Goals as goal

pub returns : goal.returns
returns c = rw c.term_of.ensures at c.reserves_node.ensures ∙ node_by_term _
