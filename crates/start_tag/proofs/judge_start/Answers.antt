-- `start_tag::judge_start` meets its contract.
use mathlib.Core.Path.{◌∙◌}
use Rattle.spec.specs.Limits.{most_attributes}
use Rattle.state_ids.specs.Ids.{spans_in}
use Rattle.start_tag.specs.Starting.{form_stops, tag_asks, read_stops, ready_behind, wrapper_starts, start_judged}
use Rattle.std.proofs.Common.{Ok, Err, ap, arith, ◌≡◌}
use Rattle.start_tag.proofs.judge_start.Goals as goal

pub returns-in_err-check_form : goal.returns-in_err-check_form
returns-in_err-check_form c =
    let up : c.from_residual.result ≡ Err c.in_err-check_form.field-0.0 = grind arith in
    rw up (form_stops c.requires.0 c.requires.1 c.check_form.ensures c.in_err-check_form.was)

pub read_tag-requires : goal.read_tag-requires
read_tag-requires c = (tag_asks c.requires.0 c.requires.1 c.check_form.ensures c.in_ok-check_form.was, spans_in c.requires.0.lawful.table)

pub judge_wrapper-requires : goal.judge_wrapper-requires
unfolding most_attributes
judge_wrapper-requires c = (omega (arith, c.requires.0.ready.event), omega (arith, c.requires.0.ready.few))

pub judge_tag-requires : goal.judge_tag-requires
judge_tag-requires c = ready_behind c.requires.0 c.requires.1 c.check_form.ensures c.in_ok-check_form.was c.read_tag.ensures

pub returns-in_err-read : goal.returns-in_err-read
returns-in_err-read c =
    let up : c.from_residual-in_err-read.result ≡ Err c.in_err-read.field-0.0 = grind arith in
    rw up (read_stops c.requires.0 c.requires.1 c.check_form.ensures c.in_ok-check_form.was c.read_tag.ensures c.in_err-read.was)

pub shape_of-classes-in-Wrapper : goal.shape_of-classes-in-Wrapper
shape_of-classes-in-Wrapper c = c.classes-1.given

pub shape_of-roles-in-Wrapper : goal.shape_of-roles-in-Wrapper
shape_of-roles-in-Wrapper c = c.roles-1.given

pub shape_of-area-in-Wrapper : goal.shape_of-area-in-Wrapper
shape_of-area-in-Wrapper c = c.area-1.given

pub returns-in-Wrapper : goal.returns-in-Wrapper
returns-in-Wrapper c = wrapper_starts c.requires.0 c.requires.1 c.check_form.ensures c.in_ok-check_form.was c.read_tag.ensures (c.in_ok-read.was ∙ ap Ok c.in-Wrapper.is) c.judge_wrapper.ensures

pub shape_of-classes-in-Element : goal.shape_of-classes-in-Element
shape_of-classes-in-Element c = c.classes-1.given

pub shape_of-roles-in-Element : goal.shape_of-roles-in-Element
shape_of-roles-in-Element c = c.roles-1.given

pub shape_of-area-in-Element : goal.shape_of-area-in-Element
shape_of-area-in-Element c = c.area-in-Element-1.given ∙ c.area-1.given

pub returns-in-Element : goal.returns-in-Element
returns-in-Element c = start_judged c.requires.0 c.requires.1 c.check_form.ensures c.in_ok-check_form.was c.read_tag.ensures (c.in_ok-read.was ∙ ap Ok c.in-Element.is) c.judge_tag.ensures
