-- `start_attributes::roles::role_of` meets its contract, test by test.
use mathlib.Core.Path.{sym, ◌∙◌}
use Rattle.spec.specs.Bytes.{ascii}
use Rattle.start_attributes.specs.Role.{by_expanded, is_lang, is_base, is_nothing}
use Rattle.start_attributes.proofs.roles.role_of.Goals as goal

pub returns-then-not-begins : goal.returns-then-not-begins
unfolding ascii
returns-then-not-begins c = rw (c.attribute_role.ensures, c.rdf_term.ensures) (by_expanded _ _ (sym c.begins.ensures ∙ c.if-not-begins.true))

pub returns-then-equal : goal.returns-then-equal
unfolding ascii
returns-then-equal c = is_lang _ _ (sym c.equal.ensures ∙ c.if-equal.true)

pub returns-then-equal-2 : goal.returns-then-equal-2
unfolding ascii
returns-then-equal-2 c = is_base _ _ (sym c.equal.ensures ∙ c.if-equal.false) (sym c.equal-2.ensures ∙ c.if-equal-2.true)

pub returns : goal.returns
unfolding ascii
returns c = is_nothing _ _ (sym c.equal.ensures ∙ c.if-equal.false) (sym c.equal-2.ensures ∙ c.if-equal-2.false) (sym c.begins.ensures ∙ c.if-not-begins.false)
