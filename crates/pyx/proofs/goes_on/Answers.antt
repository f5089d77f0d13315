-- `pyx::goes_on` meets its contract. By computation.
use borrow.Author.Rules.{rules}
use Rattle.spec.specs.Bytes.{byte}
use Rattle.spec.specs.PyxCut.{goes_on}
use Rattle.pyx.proofs.goes_on.Goals as goal

pub returns : goal.returns
unfolding goes_on byte
returns c = search rules
