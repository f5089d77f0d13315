-- `write` of `u32` meets the contract of `Little`.
use Rattle.reader_host.specs.Rows.{four_put}
use native.Mathlib.Omega.{arith}
use Rattle.reader_host.proofs.little.U32Little.write.Goals as goal

pub returns : goal.returns
returns c = record { wrote = four_put _ (omega arith) c.copy_from_slice.ensures.after c.to_le_bytes.ensures (omega arith); fits = omega arith }
