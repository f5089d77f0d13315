-- `copy::begins` meets its contract.
use Rattle.std.proofs.Common.{sym, ◌∙◌}
use Rattle.std.proofs.lemmas.Bool.{lt-leb}
use Rattle.copy.specs.Texts.{begins_is, begins_short}
use Rattle.copy.proofs.begins.Goals as goal

pub returns-then-front-s : goal.returns-then-front-s
returns-then-front-s c = c.eq.ensures ∙ begins_is _ _

pub returns-else-front-s : goal.returns-else-front-s
returns-else-front-s c = lt-leb _ _ c.if-front-s.false ∙ sym (begins_short _ _ c.if-front-s.false)
