-- `convert::turn` meets its contract: the events that `feed` did, their lines printed, and what follows.
use Rattle.convert.specs.Turning.{turn-written, turn-printed, turn-counted, turns}
use Rattle.convert.proofs.turn.Goals as goal

pub feed-fed-requires : goal.feed-fed-requires
feed-fed-requires g c = (c.requires.0.asks, c.requires.1)

pub slice_bounds-print-end : goal.slice_bounds-print-end
slice_bounds-print-end g c = turn-written c.requires.0 c.feed-fed.ensures.0

pub slice_bounds-print-end-2 : goal.slice_bounds-print-end-2
slice_bounds-print-end-2 g c = turn-printed c.requires.0 c.feed-fed.ensures.0

pub go_on-requires : goal.go_on-requires
go_on-requires g c = turn-counted c.requires.0 c.feed-fed.ensures.0 c.print-printed.ensures

pub shape_of-frames : goal.shape_of-frames
shape_of-frames g c = c.feed-fed.ensures.0.went.frame_words

pub shape_of-bindings : goal.shape_of-bindings
shape_of-bindings g c = c.feed-fed.ensures.0.went.binding_words

pub shape_of-inners : goal.shape_of-inners
shape_of-inners g c = c.feed-fed.ensures.0.went.inner_words

pub shape_of-work : goal.shape_of-work
shape_of-work g c = c.feed-fed.ensures.0.went.store

pub shape_of-ids : goal.shape_of-ids
shape_of-ids g c = c.feed-fed.ensures.0.went.id_store

pub shape_of-input : goal.shape_of-input
shape_of-input g c = c.go_on.ensures.room

pub shape_of-output : goal.shape_of-output
shape_of-output g c = c.feed-fed.ensures.0.went.room

pub shape_of-scratch : goal.shape_of-scratch
shape_of-scratch g c = c.feed-fed.ensures.1.scratch

pub shape_of-spans : goal.shape_of-spans
shape_of-spans g c = c.feed-fed.ensures.1.spans

pub shape_of-area : goal.shape_of-area
shape_of-area g c = c.feed-fed.ensures.1.area

pub returns : goal.returns
returns g c = (turns c.requires.0 c.feed-fed.ensures.0 c.print-printed.ensures c.go_on.ensures, c.feed-fed.ensures.1)
