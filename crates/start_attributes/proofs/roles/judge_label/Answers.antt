-- `start_attributes::roles::judge_label` meets its contract, test by test.
use mathlib.Core.Path.{sym, ◌∙◌}
use Rattle.start_attributes.specs.Judgment.{no_name, ends_in_stop_lem, is_generated_lem, is_label}
use Rattle.start_attributes.proofs.roles.judge_label.Goals as goal

pub returns-then-not-is_nc_name : goal.returns-then-not-is_nc_name
returns-then-not-is_nc_name c = no_name _ (sym c.is_nc_name.ensures ∙ c.if-not-is_nc_name.true)

pub returns-then-ends_in_stop : goal.returns-then-ends_in_stop
returns-then-ends_in_stop c = ends_in_stop_lem _ (sym c.is_nc_name.ensures ∙ c.if-not-is_nc_name.false) (sym c.ends_in_stop.ensures ∙ c.if-ends_in_stop.true)

pub returns-then-is_generated : goal.returns-then-is_generated
returns-then-is_generated c = is_generated_lem _ (sym c.is_nc_name.ensures ∙ c.if-not-is_nc_name.false) (sym c.ends_in_stop.ensures ∙ c.if-ends_in_stop.false) (sym c.is_generated.ensures ∙ c.if-is_generated.true)

pub returns : goal.returns
returns c = is_label _ (sym c.is_nc_name.ensures ∙ c.if-not-is_nc_name.false) (sym c.ends_in_stop.ensures ∙ c.if-ends_in_stop.false) (sym c.is_generated.ensures ∙ c.if-is_generated.false)
