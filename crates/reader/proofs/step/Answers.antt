-- `reader::step` meets its contract: 3, 4, and else what `core` answers.
use mathlib.Core.Path.{◌∙◌, refl}
use Rattle.reader.specs.Asked.{roomy}
use Rattle.reader_contract.specs.Meaning.{lawful_facts, lawful_as_parts}
use Rattle.reader.specs.Stepping.{step_unlawful, step-closed, step_stop, step_did}
use Rattle.reader.proofs.step.Goals as goal

pub shape_of-work-then-not-is_lawful : goal.shape_of-work-then-not-is_lawful
shape_of-work-then-not-is_lawful c = refl

pub shape_of-ids-then-not-is_lawful : goal.shape_of-ids-then-not-is_lawful
shape_of-ids-then-not-is_lawful c = refl

pub returns-then-not-is_lawful : goal.returns-then-not-is_lawful
returns-then-not-is_lawful c = step_unlawful (lawful_as_parts c.args.state _ _ c.is_lawful.ensures ∙ c.if-not-is_lawful.true) c.refused.ensures

pub shape_of-work-then-registers : goal.shape_of-work-then-registers
shape_of-work-then-registers c = refl

pub shape_of-ids-then-registers : goal.shape_of-ids-then-registers
shape_of-ids-then-registers c = refl

pub returns-then-registers : goal.returns-then-registers
returns-then-registers c = step-closed (lawful_as_parts c.args.state _ _ c.is_lawful.ensures ∙ c.if-not-is_lawful.false) c.if-registers.true c.refused-then-registers.ensures

pub core-taken-requires : goal.core-taken-requires
core-taken-requires c = (record { lawful = lawful_facts c.args.state _ _ (lawful_as_parts c.args.state _ _ c.is_lawful.ensures ∙ c.if-not-is_lawful.false) c.well_formed.0.1.1.1.1.1.1.0.1.1.1.1.0.1.0.1 c.well_formed.0.1.1.1.1.1.1.0.1.1.1.1.1.0.1.0.1 _; mark = c.if-registers.false }, roomy)

pub shape_of-work-in-Err : goal.shape_of-work-in-Err
shape_of-work-in-Err c = c.work-1.given

pub shape_of-ids-in-Err : goal.shape_of-ids-in-Err
shape_of-ids-in-Err c = c.ids-1.given

pub shape_of-out-in-Err : goal.shape_of-out-in-Err
shape_of-out-in-Err c = c.out-1.given

pub returns-in-Err : goal.returns-in-Err
returns-in-Err c = step_stop c.args.state (lawful_as_parts c.args.state _ _ c.is_lawful.ensures ∙ c.if-not-is_lawful.false) c.if-registers.false c.core-taken.ensures.0 c.in-Err.is c.marked.ensures c.refused-in-Err.ensures

pub shape_of-work-in-Ok : goal.shape_of-work-in-Ok
shape_of-work-in-Ok c = c.work-1.given

pub shape_of-ids-in-Ok : goal.shape_of-ids-in-Ok
shape_of-ids-in-Ok c = c.ids-1.given

pub shape_of-out-in-Ok : goal.shape_of-out-in-Ok
shape_of-out-in-Ok c = c.out-1.given

pub returns-in-Ok : goal.returns-in-Ok
returns-in-Ok c = step_did c.args.state (lawful_as_parts c.args.state _ _ c.is_lawful.ensures ∙ c.if-not-is_lawful.false) c.if-registers.false c.core-taken.ensures.0 c.in-Ok.is c.accepted.ensures
