-- `identifiers::fill` is safe and ends. The loop's invariant: the store is as long as it was.
use Rattle.std.proofs.Common.{◌≡◌, length}
use Rattle.test_stores.proofs.identifiers.fill.Given as goal

abbrev pub invariant-loop-k : goal.invariant-loop-k
invariant-loop-k l = length l.store ≡ length l.initial.store
