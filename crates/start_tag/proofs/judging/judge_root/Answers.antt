-- `judging::judge_root` meets its contract: 19, 7, or what is planned.
use Rattle.start_tag.specs.Places.{root_broken, root-long, root_judged}
use borrow.Author.Tests.{not-true, not-false}
use Rattle.start_tag.proofs.judging.judge_root.Goals as goal

pub returns-then-not-kept : goal.returns-then-not-kept
returns-then-not-kept c = root_broken c.requires.1 c.if-not-kept.true

pub returns-then-not-t : goal.returns-then-not-t
returns-then-not-t c = root-long c.requires.1 c.if-not-kept.false (not-true _ c.if-not-t.true)

pub returns : goal.returns
returns c = root_judged c.requires.1 c.if-not-kept.false (not-false _ c.if-not-t.false) c.requires.0 c.rdf_part.ensures c.root-p.ensures c.start_by-x.ensures
