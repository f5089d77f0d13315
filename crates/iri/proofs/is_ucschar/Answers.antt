-- `iri::is_ucschar` meets its contract.
use mathlib.Core.Path.{refl, sym, ◌∙◌}
use borrow.Author.Tests.{lt-leb}
use Rattle.iri.specs.Parts as P
use Rattle.utils.specs.Ranges.{ascending_from}
use Rattle.utils.proofs.Ranges.{before_all}
use Rattle.iri.proofs.is_ucschar.Goals as goal

pub returns-else-c-ge160 : goal.returns-else-c-ge160
unfolding P.all ascending_from
returns-else-c-ge160 c = lt-leb 160 c.args.c c.if-c-ge160.false ∙ sym (before_all 160 _ P.ucschars c.if-c-ge160.false refl)

pub in_pairs-requires : goal.in_pairs-requires
unfolding ascending_from
in_pairs-requires c = refl

pub returns-then-c-ge160 : goal.returns-then-c-ge160
unfolding P.all
returns-then-c-ge160 c = c.in_pairs.ensures
