-- `start_attributes::roles::judge_language` meets its contract, arm by arm.
use Rattle.start_attributes.specs.Judgment.{tag_good, tag_clears, tag_bad}
use Rattle.start_attributes.proofs.roles.judge_language.Goals as goal

pub returns-in-Good : goal.returns-in-Good
returns-in-Good c = tag_good _ c.parse.ensures c.in-Good.is

pub returns-in-Clears : goal.returns-in-Clears
returns-in-Clears c = tag_clears _ c.parse.ensures c.in-Clears.is

pub returns-in-Bad : goal.returns-in-Bad
returns-in-Bad c = tag_bad _ c.parse.ensures c.in-Bad.is
