-- `reader::is_lawful` meets its contract: the test of the state, and then that of the ID table.
use mathlib.Core.Path.{sym, ◌∙◌}
use Rattle.reader_contract.specs.Meaning.{not_valid, table_decides}
use Rattle.reader.proofs.is_lawful.Goals as goal

pub returns-then-not-valid : goal.returns-then-not-valid
returns-then-not-valid c = not_valid _ _ _ _ _ _ _ _ _ _ (sym c.valid.ensures ∙ c.if-not-valid.true)

pub returns : goal.returns
returns c = table_decides _ _ _ _ _ _ _ _ _ _ (sym c.valid.ensures ∙ c.if-not-valid.false) c.valid-2.ensures
