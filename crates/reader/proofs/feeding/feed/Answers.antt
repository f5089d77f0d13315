-- `feeding::feed` meets its contract.
use mathlib.Core.Path.{refl, ◌∙◌}
use native.Mathlib.Omega.{arith}
use Rattle.reader.specs.Goes.{areas_then, still_roomy, going_begins, going_asks, going_further, goes_full, goes_from, goes_stop, back_room, further_counts, further_less}
use Rattle.reader.proofs.feeding.feed.Goals as goal

pub loop-out-init : goal.loop-out-init
loop-out-init c = (going_begins c.none-fed.ensures c.requires.0.lawful c.requires.0.mark, record { scratch = refl; spans = refl; area = refl })

pub overflow_sub-out : goal.overflow_sub-out
overflow_sub-out c = omega arith

pub overflow_add-end : goal.overflow_add-end
overflow_add-end c = omega (arith, c.loop-out-test.true, c.loop-out.invariant.0.went.room, c.well_formed.1.1.1.1.1.1.1.1.1.1.1.1.0.0)

pub core-taken-requires : goal.core-taken-requires
core-taken-requires c = (going_asks _ c.loop-out.invariant.0, still_roomy c.loop-out.invariant.1 c.requires.1)

pub shape_of-frames-in-Err : goal.shape_of-frames-in-Err
shape_of-frames-in-Err c = c.core-taken.ensures.0.frame_words ∙ c.loop-out.invariant.0.went.frame_words

pub shape_of-bindings-in-Err : goal.shape_of-bindings-in-Err
shape_of-bindings-in-Err c = c.core-taken.ensures.0.binding_words ∙ c.loop-out.invariant.0.went.binding_words

pub shape_of-inners-in-Err : goal.shape_of-inners-in-Err
shape_of-inners-in-Err c = c.core-taken.ensures.0.inner_words ∙ c.loop-out.invariant.0.went.inner_words

pub shape_of-work-in-Err : goal.shape_of-work-in-Err
shape_of-work-in-Err c = c.core-taken.ensures.0.store ∙ c.loop-out.invariant.0.went.store

pub shape_of-ids-in-Err : goal.shape_of-ids-in-Err
shape_of-ids-in-Err c = c.core-taken.ensures.0.id_store ∙ c.loop-out.invariant.0.went.id_store

pub shape_of-out-in-Err : goal.shape_of-out-in-Err
shape_of-out-in-Err c = back_room c.loop-out.invariant.0 (omega (arith, c.loop-out-test.true)) c.core-taken.ensures.0

pub shape_of-scratch-in-Err : goal.shape_of-scratch-in-Err
shape_of-scratch-in-Err c = c.core-taken.ensures.1.scratch ∙ c.loop-out.invariant.1.scratch

pub shape_of-spans-in-Err : goal.shape_of-spans-in-Err
shape_of-spans-in-Err c = c.core-taken.ensures.1.spans ∙ c.loop-out.invariant.1.spans

pub shape_of-area-in-Err : goal.shape_of-area-in-Err
shape_of-area-in-Err c = c.core-taken.ensures.1.area ∙ c.loop-out.invariant.1.area

pub returns-in-Err : goal.returns-in-Err
returns-in-Err c = (goes_from c.none-fed.ensures (goes_stop c.loop-out.invariant.0 (omega (arith, c.loop-out-test.true)) c.core-taken.ensures.0 c.in-Err.is c.stopped.ensures), areas_then c.loop-out.invariant.1 c.core-taken.ensures.1)

pub further-fed-requires : goal.further-fed-requires
further-fed-requires c = further_counts c.loop-out.invariant.0 (omega (arith, c.loop-out-test.true)) c.core-taken.ensures.0 c.in-Ok.is c.well_formed.1.1.1.1.1.1.1.1.1.1.0.1 c.well_formed.1.1.1.1.1.1.1.1.1.1.1.1.0.1

pub loop-out-smaller : goal.loop-out-smaller
loop-out-smaller c = further_less c.loop-out.invariant.0 (omega (arith, c.loop-out-test.true)) c.core-taken.ensures.0 c.in-Ok.is c.further-fed.ensures

pub loop-out-preserved : goal.loop-out-preserved
loop-out-preserved c = (going_further c.loop-out.invariant.0 (omega (arith, c.loop-out-test.true)) c.core-taken.ensures.0 c.in-Ok.is c.further-fed.ensures, areas_then c.loop-out.invariant.1 c.core-taken.ensures.1)

pub shape_of-frames : goal.shape_of-frames
shape_of-frames c = c.loop-out.invariant.0.went.frame_words

pub shape_of-bindings : goal.shape_of-bindings
shape_of-bindings c = c.loop-out.invariant.0.went.binding_words

pub shape_of-inners : goal.shape_of-inners
shape_of-inners c = c.loop-out.invariant.0.went.inner_words

pub shape_of-work : goal.shape_of-work
shape_of-work c = c.loop-out.invariant.0.went.store

pub shape_of-ids : goal.shape_of-ids
shape_of-ids c = c.loop-out.invariant.0.went.id_store

pub shape_of-out : goal.shape_of-out
shape_of-out c = c.loop-out.invariant.0.went.room

pub shape_of-scratch : goal.shape_of-scratch
shape_of-scratch c = c.loop-out.invariant.1.scratch

pub shape_of-spans : goal.shape_of-spans
shape_of-spans c = c.loop-out.invariant.1.spans

pub shape_of-area : goal.shape_of-area
shape_of-area c = c.loop-out.invariant.1.area

pub returns : goal.returns
returns c = (goes_from c.none-fed.ensures (goes_full c.loop-out.invariant.0 (omega (arith, c.loop-out-test.false, c.loop-out.invariant.0.went.room))), c.loop-out.invariant.1)
