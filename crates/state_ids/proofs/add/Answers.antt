-- `state_ids::add` meets its contract: what room there is bounds the next place and its numbers.
use mathlib.Core.Path.{sym, ◌∙◌}
use Rattle.spec.specs.Limits.{most_ids, most_id_bytes, most_name_bytes}
use Rattle.state_ids.specs.Adding.{no_room, not_put, put_there, has_room}
use native.Mathlib.Omega.{arith}
use Rattle.state_ids.proofs.add.Goals as goal

pub returns-then-not-room : goal.returns-then-not-room
returns-then-not-room c = no_room (sym c.room.ensures ∙ c.if-not-room.true)

pub returns-then-not-put : goal.returns-then-not-put
returns-then-not-put c = not_put (sym c.room.ensures ∙ c.if-not-room.false) c.put.ensures c.if-not-put.true

pub overflow_cast-at : goal.overflow_cast-at
unfolding most_ids most_id_bytes most_name_bytes
overflow_cast-at c = omega (arith, has_room (sym c.room.ensures ∙ c.if-not-room.false))

pub offset_bounds-at-count : goal.offset_bounds-at-count
unfolding most_ids most_id_bytes most_name_bytes
offset_bounds-at-count c = omega (arith, has_room (sym c.room.ensures ∙ c.if-not-room.false))

pub bounds-at-count : goal.bounds-at-count
unfolding most_ids most_id_bytes most_name_bytes
bounds-at-count c = omega (arith, has_room (sym c.room.ensures ∙ c.if-not-room.false))

pub overflow_cast-len : goal.overflow_cast-len
unfolding most_ids most_id_bytes most_name_bytes
overflow_cast-len c = omega (arith, has_room (sym c.room.ensures ∙ c.if-not-room.false))

pub offset_bounds-len-count : goal.offset_bounds-len-count
unfolding most_ids most_id_bytes most_name_bytes
offset_bounds-len-count c = omega (arith, has_room (sym c.room.ensures ∙ c.if-not-room.false))

pub bounds-len-count : goal.bounds-len-count
unfolding most_ids most_id_bytes most_name_bytes
bounds-len-count c = omega (arith, has_room (sym c.room.ensures ∙ c.if-not-room.false))

pub overflow_add-result : goal.overflow_add-result
unfolding most_ids most_id_bytes most_name_bytes
overflow_add-result c = omega (arith, has_room (sym c.room.ensures ∙ c.if-not-room.false))

pub overflow_add-result-2 : goal.overflow_add-result-2
unfolding most_ids most_id_bytes most_name_bytes
overflow_add-result-2 c = omega (arith, has_room (sym c.room.ensures ∙ c.if-not-room.false))

pub returns : goal.returns
returns c = put_there (sym c.room.ensures ∙ c.if-not-room.false) c.put.ensures c.if-not-put.false
