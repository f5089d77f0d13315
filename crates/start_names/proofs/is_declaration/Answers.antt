-- `start_names::is_declaration` meets its contract. Test by test.
use mathlib.Core.Path.{sym, ◌∙◌}
use Rattle.spec.specs.Bytes.{ascii}
use Rattle.start_names.specs.Declarations.{plainly, begins_decides}
use Rattle.start_names.proofs.is_declaration.Goals as goal

pub returns-then-equal : goal.returns-then-equal
unfolding ascii
returns-then-equal c = plainly _ (sym c.equal.ensures ∙ c.if-equal.true)

pub returns : goal.returns
unfolding ascii
returns c = c.begins.ensures ∙ begins_decides _ (sym c.equal.ensures ∙ c.if-equal.false)
