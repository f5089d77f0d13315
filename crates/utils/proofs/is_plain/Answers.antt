-- `is_plain`: as the definition has it.
use Rattle.spec.specs.Bytes.{byte}
use Rattle.utils.specs.Plain.{plain_text}
use mathlib.Core.Path.{refl}
use Rattle.utils.proofs.is_plain.Goals as goal

pub returns : goal.returns
unfolding plain_text byte
returns c = refl
