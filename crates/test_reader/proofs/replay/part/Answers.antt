-- `replay::part` meets its contract: each test decides the definition's.
use borrow.Author.Tests.{le-leb, lt-leb}
use Rattle.test_reader.specs.Lines.{part_of}
use Rattle.test_reader.proofs.replay.part.Goals as goal

pub returns-then-from-to : goal.returns-then-from-to
unfolding part_of
returns-then-from-to c = rw (lt-leb _ _ c.if-from-to.true)

pub returns-then-to-s : goal.returns-then-to-s
unfolding part_of
returns-then-to-s c = rw (le-leb _ _ c.if-from-to.false, lt-leb _ _ c.if-to-s.true)

pub returns : goal.returns
unfolding part_of
returns c = rw (le-leb _ _ c.if-from-to.false, le-leb _ _ c.if-to-s.false)
