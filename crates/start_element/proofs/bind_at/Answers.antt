-- `start_element::bind_at` meets its contract. A law of specs/ for each return.
use Rattle.start_element.specs.Rows.{binds_none, binds_one}
use Rattle.start_element.specs.Sizes.{these_bytes}
use Rattle.start_names.specs.Declarations.{told}
use native.Mathlib.Omega.{arith}
use Rattle.start_element.proofs.bind_at.Goals as goal

pub returns-then-not-is_declaration : goal.returns-then-not-is_declaration
returns-then-not-is_declaration c = binds_none _ _ _ (told _ _ _ c.name_of-name.ensures c.is_declaration.ensures c.if-not-is_declaration.true)

pub overflow_add-result-2 : goal.overflow_add-result-2
overflow_add-result-2 c = omega (arith, c.requires.store, c.requires.room, these_bytes _ _ _ (told _ _ _ c.name_of-name.ensures c.is_declaration.ensures c.if-not-is_declaration.false) c.name_of-name.ensures c.declared_prefix-prefix.ensures c.value_of-value.ensures)

pub shape_of-work : goal.shape_of-work
shape_of-work c = c.bind.ensures.same_bytes

pub shape_of-bindings : goal.shape_of-bindings
shape_of-bindings c = c.bind.ensures.same_words

pub returns : goal.returns
returns c = binds_one _ _ _ (told _ _ _ c.name_of-name.ensures c.is_declaration.ensures c.if-not-is_declaration.false) c.name_of-name.ensures c.declared_prefix-prefix.ensures c.value_of-value.ensures c.requires c.bind.ensures
