-- `iri::is_iprivate` meets its contract.
use mathlib.Core.Path.{refl, sym, ◌∙◌}
use borrow.Author.Tests.{lt-leb}
use Rattle.iri.specs.Parts as P
use Rattle.utils.specs.Ranges.{ascending_from}
use Rattle.utils.proofs.Ranges.{before_all}
use Rattle.iri.proofs.is_iprivate.Goals as goal

pub returns-else-c-ge57344 : goal.returns-else-c-ge57344
unfolding P.all ascending_from
returns-else-c-ge57344 c = lt-leb 57344 c.args.c c.if-c-ge57344.false ∙ sym (before_all 57344 _ P.iprivates c.if-c-ge57344.false refl)

pub in_pairs-requires : goal.in_pairs-requires
unfolding ascending_from
in_pairs-requires c = refl

pub returns-then-c-ge57344 : goal.returns-then-c-ge57344
unfolding P.all
returns-then-c-ge57344 c = c.in_pairs.ensures
