-- `start_element::lay` meets its contract. Each part has the room that those before it leave; the writes in a row are one write.
use Rattle.start_element.specs.Places.{spread_name, spread_bound, spread_from, spread_1, spread_2, spread_3, spread_4, spread_5, spread_6, lays}
use Prim.Native.Nat.{ℕ, ◌≤◌}
use mir.Val.{Fits}
use mir.Syntax.{w32}
use native.Mathlib.Omega.{arith}
use Rattle.start_element.proofs.lay.Goals as goal

-- a place of the store fits a word
word_fits : {n : ℕ} → n ≤ 65_536 → Fits w32 n
word_fits h = omega arith

pub put_text-tag_at-requires : goal.put_text-tag_at-requires
put_text-tag_at-requires c = spread_1 c.requires

pub append-main_at-requires : goal.append-main_at-requires
append-main_at-requires c = rw c.tag.ensures (spread_2 c.requires c.put_text-tag_at.ensures)

pub put_text-id_at-requires : goal.put_text-id_at-requires
put_text-id_at-requires c = spread_3 c.requires c.put_text-tag_at.ensures (rw c.tag.ensures at c.append-main_at.ensures)

pub put_text-datatype_at-requires : goal.put_text-datatype_at-requires
put_text-datatype_at-requires c = spread_4 c.requires c.put_text-tag_at.ensures (rw c.tag.ensures at c.append-main_at.ensures) c.put_text-id_at.ensures

pub put_text-tail_at-requires : goal.put_text-tail_at-requires
put_text-tail_at-requires c = spread_5 c.requires c.put_text-tag_at.ensures (rw c.tag.ensures at c.append-main_at.ensures) c.put_text-id_at.ensures c.put_text-datatype_at.ensures

pub put_text-end-requires : goal.put_text-end-requires
put_text-end-requires c = spread_6 c.requires c.put_text-tag_at.ensures (rw c.tag.ensures at c.append-main_at.ensures) c.put_text-id_at.ensures c.put_text-datatype_at.ensures c.put_text-tail_at.ensures

pub overflow_cast-result : goal.overflow_cast-result
overflow_cast-result c = word_fits (spread_name c.requires)

pub overflow_cast-result-2 : goal.overflow_cast-result-2
overflow_cast-result-2 c = word_fits (spread_bound c.requires)

pub overflow_cast-result-3 : goal.overflow_cast-result-3
overflow_cast-result-3 c = word_fits (spread_from c.requires)

pub overflow_cast-result-4 : goal.overflow_cast-result-4
overflow_cast-result-4 c = word_fits c.put_text-tag_at.ensures.most

pub overflow_cast-result-5 : goal.overflow_cast-result-5
overflow_cast-result-5 c = word_fits c.append-main_at.ensures.most

pub overflow_cast-result-6 : goal.overflow_cast-result-6
overflow_cast-result-6 c = word_fits c.put_text-id_at.ensures.most

pub overflow_cast-result-7 : goal.overflow_cast-result-7
overflow_cast-result-7 c = word_fits c.put_text-datatype_at.ensures.most

pub overflow_cast-result-8 : goal.overflow_cast-result-8
overflow_cast-result-8 c = word_fits c.put_text-tail_at.ensures.most

pub overflow_cast-result-9 : goal.overflow_cast-result-9
overflow_cast-result-9 c = word_fits c.put_text-end.ensures.most

pub shape_of-work : goal.shape_of-work
shape_of-work c = (lays _ _ c.args.parts {x0 = 0} {x1 = 0} c.put_text-tag_at.ensures (rw c.tag.ensures at c.append-main_at.ensures) c.put_text-id_at.ensures c.put_text-datatype_at.ensures c.put_text-tail_at.ensures c.put_text-end.ensures).same

pub returns : goal.returns
returns c = lays _ _ _ c.put_text-tag_at.ensures (rw c.tag.ensures at c.append-main_at.ensures) c.put_text-id_at.ensures c.put_text-datatype_at.ensures c.put_text-tail_at.ensures c.put_text-end.ensures
