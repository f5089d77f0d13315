-- `start_names::legal_at` meets its contract.
use mathlib.Core.Path.{◌∙◌}
use Rattle.start_names.specs.Declarations.{told, legal-other, legal-declared}
use Rattle.start_names.proofs.legal_at.Goals as goal

pub returns-then-not-is_declaration : goal.returns-then-not-is_declaration
returns-then-not-is_declaration c = legal-other _ _ _ (told _ _ _ c.name_of-name.ensures c.is_declaration.ensures c.if-not-is_declaration.true)

pub returns : goal.returns
returns c = c.is_legal.ensures ∙ legal-declared _ _ _ (told _ _ _ c.name_of-name.ensures c.is_declaration.ensures c.if-not-is_declaration.false) c.name_of-name.ensures c.declared_prefix.ensures c.value_of.ensures
