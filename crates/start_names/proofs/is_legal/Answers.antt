-- `start_names::is_legal` meets its contract. Test by test.
use mathlib.Core.Path.{sym, ◌∙◌}
use Rattle.spec.specs.Bytes.{ascii}
use Rattle.spec.specs.Namespaces.{xml_name, xmlns_name}
use Rattle.start_names.specs.Declarations.{of_xml, of_xmlns, as_xml, as_xmlns, default_any, prefix_some}
use Rattle.start_names.proofs.is_legal.Goals as goal

pub returns-then-equal : goal.returns-then-equal
unfolding ascii xml_name xmlns_name
returns-then-equal c = c.equal-then-equal.ensures ∙ of_xml _ _ (sym c.equal.ensures ∙ c.if-equal.true)

pub returns-then-equal-2 : goal.returns-then-equal-2
unfolding ascii xml_name xmlns_name
returns-then-equal-2 c = of_xmlns _ _ (sym c.equal.ensures ∙ c.if-equal.false) (sym c.equal-2.ensures ∙ c.if-equal-2.true)

pub returns-then-equal-3 : goal.returns-then-equal-3
unfolding ascii xml_name xmlns_name
returns-then-equal-3 c = as_xml _ _ (sym c.equal.ensures ∙ c.if-equal.false) (sym c.equal-2.ensures ∙ c.if-equal-2.false) (sym c.equal-3.ensures ∙ c.if-equal-3.true)

pub returns-then-equal-4 : goal.returns-then-equal-4
unfolding ascii xml_name xmlns_name
returns-then-equal-4 c = as_xmlns _ _ (sym c.equal.ensures ∙ c.if-equal.false) (sym c.equal-2.ensures ∙ c.if-equal-2.false) (sym c.equal-3.ensures ∙ c.if-equal-3.false) (sym c.equal-4.ensures ∙ c.if-equal-4.true)

pub returns-then-prefix-eq0 : goal.returns-then-prefix-eq0
unfolding ascii xml_name xmlns_name
returns-then-prefix-eq0 c = default_any _ _ (sym c.equal.ensures ∙ c.if-equal.false) (sym c.equal-2.ensures ∙ c.if-equal-2.false) (sym c.equal-3.ensures ∙ c.if-equal-3.false) (sym c.equal-4.ensures ∙ c.if-equal-4.false) c.if-prefix-eq0.true

pub returns : goal.returns
unfolding ascii xml_name xmlns_name
returns c = prefix_some _ _ (sym c.equal.ensures ∙ c.if-equal.false) (sym c.equal-2.ensures ∙ c.if-equal-2.false) (sym c.equal-3.ensures ∙ c.if-equal-3.false) (sym c.equal-4.ensures ∙ c.if-equal-4.false) c.if-prefix-eq0.false
