-- `start_rules::is_alt` meets its contract: what stands behind the namespace decides.
use Rattle.start_rules.specs.Names.{is_rdf-name}
use Rattle.spec.specs.Bytes.{ascii, is_empty}
use mathlib.Core.Path.{refl, ◌∙◌}
use Rattle.start_rules.proofs.is_alt.Goals as goal

pub returns : goal.returns
unfolding ascii is_empty
returns c = rw c.rdf_name.ensures at c.equal.ensures ∙ is_rdf-name _ "Alt" refl
