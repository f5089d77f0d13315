-- `start_names::class_of` meets its contract. By what `lookup` answers.
use Rattle.start_names.specs.Declarations.{told}
use Rattle.start_names.specs.Classes.{says_class, says-unprefixed}
use Rattle.start_names.proofs.class_of.Goals as goal

pub returns-then-is_declaration : goal.returns-then-is_declaration
returns-then-is_declaration c = (told _ _ _ c.name_of.ensures c.is_declaration.ensures c.if-is_declaration.true)

pub returns-then-prefix-eq0 : goal.returns-then-prefix-eq0
returns-then-prefix-eq0 c = says-unprefixed _ (told _ _ _ c.name_of.ensures c.is_declaration.ensures c.if-is_declaration.false) c.prefix_of-prefix.ensures c.if-prefix-eq0.true

pub returns : goal.returns
returns c = says_class _ _ _ _ _ (told _ _ _ c.name_of.ensures c.is_declaration.ensures c.if-is_declaration.false) c.prefix_of-prefix.ensures c.if-prefix-eq0.false c.lookup.ensures c.from.ensures
