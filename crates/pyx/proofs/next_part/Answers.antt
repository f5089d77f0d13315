-- `pyx::next_part` meets its contract: by what may stand in a name.
use mathlib.Core.Path.{sym, ◌∙◌}
use Rattle.pyx.proofs.Names.{spelled_start, spelled_on, spelled_colon}
use Rattle.pyx.proofs.next_part.Goals as goal

pub returns-then-is_plain_start : goal.returns-then-is_plain_start
returns-then-is_plain_start c = spelled_start c.requires.spelled c.requires.i_in_bounds (sym c.is_plain_start.ensures ∙ c.if-is_plain_start.true)

pub returns-then-first : goal.returns-then-first
returns-then-first c = spelled_colon c.requires.spelled c.requires.i_in_bounds c.if-i-part.false c.if-b-eq58.true c.if-first.true

pub returns-then-is_plain_name : goal.returns-then-is_plain_name
returns-then-is_plain_name c = spelled_on c.requires.spelled c.requires.i_in_bounds c.if-i-part.false (sym c.is_plain_name.ensures ∙ c.if-is_plain_name.true)
