-- `Place::resumed` meets its contract: a case for each thing that a read can come to.
use Rattle.convert.proofs.Place.resumed.Goals as goal

pub with-requires : goal.with-requires
with-requires c = rw c.in-Bytes.is at c.requires

pub with-requires-in-End : goal.with-requires-in-End
with-requires-in-End c = rw c.in-End.is at c.requires

pub returns-in-Bytes : goal.returns-in-Bytes
returns-in-Bytes c = rw (c.in-Bytes.is, c.with.ensures)

pub returns-in-End : goal.returns-in-End
returns-in-End c = rw (c.in-End.is, c.with-in-End.ensures)

pub returns-in-Failed : goal.returns-in-Failed
returns-in-Failed c = rw c.in-Failed.is c.over.ensures
