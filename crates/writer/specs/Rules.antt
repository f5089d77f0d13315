-- What a byte is written as.
use Rattle.std.specs.Prelude.{◌≤◌, ◌≡◌, length, take}
use Rattle.spec.specs.Bytes.{Bytes}
use Rattle.writer.specs.declared.coded.Word.{Word}

-- the first bytes of a word are these
pub record Spells (w : Word) (s : Bytes) : Type 0 where
  pub within : w.len ≤ length w.bytes
  pub is : take w.len w.bytes ≡ s
