-- `start_element::open` meets its contract. Each call has its room from what was judged; one law makes the whole of what they ensure.
use mathlib.Core.Path.{◌∙◌}
use Rattle.spec.specs.Limits.{most_bindings}
use Rattle.start_element.specs.Laws.{name-room, bind_room, lay_room, opens}
use native.Mathlib.Omega.{arith}
use Rattle.start_element.proofs.open.Goals as goal

pub overflow_add-from : goal.overflow_add-from
overflow_add-from c = omega (arith, name-room c.requires c.piece-name.ensures)

pub bind_all-next-requires : goal.bind_all-next-requires
bind_all-next-requires c = bind_room c.requires c.piece-name.ensures c.put.ensures

pub lay-at-requires : goal.lay-at-requires
lay-at-requires c = lay_room c.requires c.piece-name.ensures c.put.ensures c.bind_all-next.ensures

pub marks-has-requires : goal.marks-has-requires
unfolding most_bindings
marks-has-requires c = omega (arith, c.requires.bindings)

pub shape_of-frames : goal.shape_of-frames
shape_of-frames c = c.push.ensures.same

pub shape_of-bindings : goal.shape_of-bindings
shape_of-bindings c = c.bind_all-next.ensures.same_words

pub shape_of-work : goal.shape_of-work
shape_of-work c = c.lay-at.ensures.same ∙ (c.bind_all-next.ensures.same_bytes ∙ c.put.ensures.same)

pub returns : goal.returns
returns c = rw c.unwrap_or.ensures (opens c.requires c.piece-name.ensures c.put.ensures c.bind_all-next.ensures c.lay-at.ensures c.marks-has.ensures c.push.ensures)
