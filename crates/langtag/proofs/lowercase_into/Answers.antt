-- `langtag::lowercase_into`.
use Rattle.langtag.proofs.Lower.{lowered}
use Rattle.langtag.proofs.lowercase_into.Goals as goal

pub returns : goal.returns
returns c = rw c.make_ascii_lowercase.ensures.after (lowered c.if-not-put.ensures)
