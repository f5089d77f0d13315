-- `literal::known_at` meets its contract.
use Rattle.literal.specs.Known.{known_declaration, known_other}
use Rattle.start_names.specs.Declarations.{told}
use Rattle.literal.proofs.known_at.Goals as goal

pub returns-then-is_declaration : goal.returns-then-is_declaration
returns-then-is_declaration c = known_declaration _ _ _ _ (told _ _ _ c.name_of.ensures c.is_declaration.ensures c.if-is_declaration.true)

pub returns : goal.returns
returns c = known_other _ _ _ _ (told _ _ _ c.name_of.ensures c.is_declaration.ensures c.if-is_declaration.false) c.prefix_of-prefix.ensures c.known.ensures
