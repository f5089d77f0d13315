-- `streams::errno_text` meets its contract: what is found lies within the text.
use Rattle.std.proofs.Common.{ℕ, Bool, ◌≡◌, ◌≤◌, ◌-◌, List, length, arith}
use Rattle.spec.specs.Bytes.{up_to}
use Rattle.copy.specs.Texts.{length_up_to}
use Rattle.streams.proofs.errno_text.Goals as goal

before : (p : ℕ → Bool) (s : List ℕ) {n : ℕ} → n ≡ length (up_to p s) → n - 1 ≤ length s
before p s e = omega (arith, e, length_up_to p s)

pub returns : goal.returns
returns c = rw c.saturating_sub.ensures (before _ _ c.find-end.ensures)
