-- `pyx::unescape` meets its contract: without a backslash by one law, else by `unescape_bytes`.
use Rattle.pyx.proofs.Escapes.{copied}
use Rattle.pyx.proofs.unescape.Goals as goal

pub returns-then-n-s : goal.returns-then-n-s
returns-then-n-s c = copied c.put.ensures c.requires c.find-n.ensures c.if-n-s.true
