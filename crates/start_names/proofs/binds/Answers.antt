-- `start_names::binds` meets its contract.
use mathlib.Core.Path.{◌∙◌}
use Rattle.start_names.specs.Declarations.{told, binds_none, binds_declared}
use Rattle.start_names.proofs.binds.Goals as goal

pub returns-then-not-is_declaration : goal.returns-then-not-is_declaration
returns-then-not-is_declaration c = binds_none _ _ _ (told _ _ _ c.name_of-name.ensures c.is_declaration.ensures c.if-not-is_declaration.true) _

pub returns : goal.returns
returns c = c.equal.ensures ∙ binds_declared _ _ _ (told _ _ _ c.name_of-name.ensures c.is_declaration.ensures c.if-not-is_declaration.false) c.name_of-name.ensures c.declared_prefix.ensures _
