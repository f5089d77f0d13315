-- `start_names::declared_at` meets its contract.
use Rattle.start_names.specs.Declarations.{told, no_binding, one_binding}
use Rattle.start_names.proofs.declared_at.Goals as goal

pub returns-then-is_declaration : goal.returns-then-is_declaration
returns-then-is_declaration c = one_binding _ _ _ (told _ _ _ c.name_of.ensures c.is_declaration.ensures c.if-is_declaration.true)

pub returns : goal.returns
returns c = no_binding _ _ _ (told _ _ _ c.name_of.ensures c.is_declaration.ensures c.if-is_declaration.false)
