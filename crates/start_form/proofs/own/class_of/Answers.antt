-- `start_form::own::class_of` meets its contract. By what is found among the rows, then among those of the open elements.
use mathlib.Core.Path.{refl}
use Rattle.start_names.specs.Declarations.{told}
use Rattle.start_names.specs.Found.{found_bytes}
use Rattle.start_names.specs.Classes.{says-unprefixed}
use Rattle.start_form.specs.OwnLaws.{says_own, says-held}
use Rattle.start_form.proofs.own.class_of.Goals as goal

pub returns-then-is_declaration : goal.returns-then-is_declaration
returns-then-is_declaration c = told _ _ _ c.name_of.ensures c.is_declaration.ensures c.if-is_declaration.true

pub returns-then-prefix-eq0 : goal.returns-then-prefix-eq0
returns-then-prefix-eq0 c =
    says-unprefixed _ (told _ _ _ c.name_of.ensures
    c.is_declaration.ensures c.if-is_declaration.false) c.prefix_of-prefix.ensures
    c.if-prefix-eq0.true

pub returns-in-Unknown : goal.returns-in-Unknown
returns-in-Unknown c =
    says-held
    c.requires
    _ _ _ _ (told _ _ _ c.name_of.ensures
    c.is_declaration.ensures
    c.if-is_declaration.false)
    c.prefix_of-prefix.ensures
    c.if-prefix-eq0.false c.lookup-own.ensures _
    c.in-Unknown.is c.lookup.ensures c.from.ensures

pub returns-in-Xml : goal.returns-in-Xml
unfolding found_bytes
returns-in-Xml c =
    says_own
    c.requires
    _ _ _ _ (told _ _ _ c.name_of.ensures
    c.is_declaration.ensures
    c.if-is_declaration.false) c.prefix_of-prefix.ensures
    c.if-prefix-eq0.false c.lookup-own.ensures c.in-Xml.is refl

pub returns-in-Own : goal.returns-in-Own
unfolding found_bytes
returns-in-Own c =
    says_own
    c.requires
    _ _ _ _ (told _ _ _ c.name_of.ensures
    c.is_declaration.ensures
    c.if-is_declaration.false)
    c.prefix_of-prefix.ensures c.if-prefix-eq0.false
    c.lookup-own.ensures c.in-Own.is refl

pub returns-in-Held : goal.returns-in-Held
unfolding found_bytes
returns-in-Held c =
    says_own
    c.requires
    _ _ _ _ (told _ _ _ c.name_of.ensures
    c.is_declaration.ensures
    c.if-is_declaration.false)
    c.prefix_of-prefix.ensures c.if-prefix-eq0.false
    c.lookup-own.ensures c.in-Held.is refl
