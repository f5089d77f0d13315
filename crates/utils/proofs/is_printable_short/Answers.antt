-- `is_printable_short`: by halves, or nothing said.
use mathlib.Core.Bool.{false≢true}
use Rattle.utils.proofs.is_printable_short.Goals as goal

pub returns : goal.returns
returns c = λ e. absurd (false≢true e)
