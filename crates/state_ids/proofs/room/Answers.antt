-- `state_ids::room` meets its contract. That the constants of `IdTable` are the limits of document 01 is seen where those unfold.
use Rattle.spec.specs.Limits.{most_ids, most_id_bytes, most_name_bytes}
use Rattle.state_ids.specs.Ids.{no_place, too_long_lem, no_bytes, bytes_decide}
use native.Mathlib.Omega.{arith}
use Rattle.state_ids.proofs.room.Goals as goal

pub returns-then-count-ge-MOST : goal.returns-then-count-ge-MOST
unfolding most_ids
returns-then-count-ge-MOST c = no_place _ _ _ (omega arith)

pub returns-then-n-gt-MOST_BYTES : goal.returns-then-n-gt-MOST_BYTES
unfolding most_ids most_name_bytes
returns-then-n-gt-MOST_BYTES c = too_long_lem _ _ _ (omega arith) (omega arith)

pub returns-then-used-gt-BYTES : goal.returns-then-used-gt-BYTES
unfolding most_ids most_name_bytes most_id_bytes
returns-then-used-gt-BYTES c = no_bytes _ _ _ (omega arith) (omega arith) (omega arith)

pub returns : goal.returns
unfolding most_ids most_name_bytes most_id_bytes
returns c = bytes_decide _ _ _ (omega arith) (omega arith) (omega arith)
