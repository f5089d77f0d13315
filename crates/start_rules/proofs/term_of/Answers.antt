-- `start_rules::term_of` meets its contract: the name behind the namespace tells.
use mathlib.Core.Path.{sym, ◌∙◌}
use Rattle.start_rules.specs.Names.{name_term}
use Rattle.start_rules.proofs.term_of.Goals as goal

pub returns : goal.returns
returns c = rw c.rdf_name.ensures at c.local_term.ensures ∙ sym (name_term _)
