-- `replay::file_buffer` meets its contract: by the law of a repeat, for an array too long to count through.
use Prim.Native.Nat.{ℕ}
use mathlib.Core.Path.{sym}
use lib.ListN.{length-replicate}
use Rattle.test_reader.proofs.replay.file_buffer.Goals as goal

pub returns : goal.returns
returns c = sym (length-replicate {A = ℕ} 1_048_576 0)
