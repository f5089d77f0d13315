-- `start_element::bytes_at` meets its contract. None where attribute j is no declaration.
use Rattle.start_names.specs.Declarations.{told}
use Rattle.start_element.specs.Sizes.{no_bytes, these_bytes}
use Rattle.start_element.proofs.bytes_at.Goals as goal

pub returns-then-not-is_declaration : goal.returns-then-not-is_declaration
returns-then-not-is_declaration c = no_bytes _ _ _ (told _ _ _ c.name_of-name.ensures c.is_declaration.ensures c.if-not-is_declaration.true)

pub returns : goal.returns
returns c = these_bytes _ _ _ (told _ _ _ c.name_of-name.ensures c.is_declaration.ensures c.if-not-is_declaration.false) c.name_of-name.ensures c.declared_prefix.ensures c.value_of.ensures
