-- `start_rules::parse_type_of` meets its contract, test by test.
use Rattle.start_rules.specs.Judged.{parse_absent, parse_collection, parse_resource, parse-literal, parse-other}
use Rattle.spec.specs.Bytes.{ascii}
use mathlib.Core.Path.{sym, ◌∙◌}
use Rattle.start_rules.proofs.parse_type_of.Goals as goal

pub returns-then-not-there : goal.returns-then-not-there
returns-then-not-there c = parse_absent _ c.if-not-there.true

pub returns-then-equal : goal.returns-then-equal
unfolding ascii
returns-then-equal c = parse_collection _ c.if-not-there.false (sym c.equal.ensures ∙ c.if-equal.true)

pub returns-then-equal-2 : goal.returns-then-equal-2
unfolding ascii
returns-then-equal-2 c = parse_resource _ c.if-not-there.false (sym c.equal.ensures ∙ c.if-equal.false) (sym c.equal-2.ensures ∙ c.if-equal-2.true)

pub returns-then-equal-3 : goal.returns-then-equal-3
unfolding ascii
returns-then-equal-3 c = parse-literal _ c.if-not-there.false (sym c.equal.ensures ∙ c.if-equal.false) (sym c.equal-2.ensures ∙ c.if-equal-2.false) (sym c.equal-3.ensures ∙ c.if-equal-3.true)

pub returns : goal.returns
unfolding ascii
returns c = parse-other _ c.if-not-there.false (sym c.equal.ensures ∙ c.if-equal.false) (sym c.equal-2.ensures ∙ c.if-equal-2.false) (sym c.equal-3.ensures ∙ c.if-equal-3.false)
