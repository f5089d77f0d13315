-- `state_ids::valid` meets its contract.
use Rattle.spec.specs.Limits.{id_store_bytes, most_ids, most_id_bytes, most_name_bytes}
use Rattle.state_ids.specs.Walks.{walked_begins, walked_long, walked_apart, walked_more, walked_done, other_store, too_many, too_full, spans_decide}
use native.Mathlib.Omega.{arith}
use Rattle.state_ids.proofs.valid.Goals as goal

pub returns-then-n-ne-BYTES : goal.returns-then-n-ne-BYTES
unfolding id_store_bytes
returns-then-n-ne-BYTES c = other_store _ _ _ _ _ c.if-n-ne-BYTES.true

pub returns-then-count-gt-MOST : goal.returns-then-count-gt-MOST
unfolding id_store_bytes most_ids
returns-then-count-gt-MOST c = too_many _ _ _ _ _ (omega arith) (omega arith)

pub returns-then-used-gt-BYTES : goal.returns-then-used-gt-BYTES
unfolding id_store_bytes most_ids most_id_bytes
returns-then-used-gt-BYTES c = too_full _ _ _ _ _ (omega arith) (omega arith) (omega arith)

pub loop-i-init : goal.loop-i-init
loop-i-init c = walked_begins

pub returns-then-size-gt-MOST_BYTES : goal.returns-then-size-gt-MOST_BYTES
unfolding id_store_bytes most_ids most_id_bytes most_name_bytes
returns-then-size-gt-MOST_BYTES c = spans_decide _ _ _ _ _ (omega arith) (omega arith) (omega arith) (walked_long c.loop-i.invariant (omega arith) c.wide-start.ensures.0 c.wide-size.ensures.0 (omega arith))

pub returns-then-start-size : goal.returns-then-start-size
unfolding id_store_bytes most_ids most_id_bytes most_name_bytes
returns-then-start-size c = spans_decide _ _ _ _ _ (omega arith) (omega arith) (omega arith) (walked_apart c.loop-i.invariant (omega arith) c.wide-start.ensures.0 c.wide-size.ensures.0 (omega arith) c.if-start-size.true)

pub loop-i-preserved : goal.loop-i-preserved
unfolding most_name_bytes
loop-i-preserved c = walked_more c.loop-i.invariant (omega arith) c.wide-start.ensures.0 c.wide-size.ensures.0 (omega arith) (omega arith)

pub returns : goal.returns
unfolding id_store_bytes most_ids most_id_bytes
returns c = spans_decide _ _ _ _ _ (omega arith) (omega arith) (omega arith) (walked_done c.loop-i.invariant (omega arith))
