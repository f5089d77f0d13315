-- `write` of `usize` meets the contract of `Little`.
use Rattle.reader_host.specs.Rows.{eight_put}
use native.Mathlib.Omega.{arith}
use Rattle.reader_host.proofs.little.UsizeLittle.write.Goals as goal

pub returns : goal.returns
returns c = record { wrote = eight_put _ (omega arith) c.copy_from_slice.ensures.after c.to_le_bytes.ensures (omega arith); fits = omega arith }
