-- `pyx::colon_of` meets its contract. What `qname` says of it.
use native.Mathlib.Omega.{arith}
use Rattle.utils.proofs.Names.{not_name}
use Rattle.pyx.proofs.Names.{local_name, prefixed_name, colon_within}
use Rattle.pyx.proofs.colon_of.Goals as goal

pub overflow_add-result : goal.overflow_add-result
overflow_add-result c = omega (arith, (prefixed_name _ c.in-Prefixed.ensures).1, colon_within c.args.name.now)

pub returns-in-NotName : goal.returns-in-NotName
returns-in-NotName c = not_name _ c.in-NotName.ensures

pub returns-in-Local : goal.returns-in-Local
returns-in-Local c = local_name _ c.in-Local.ensures

pub returns-in-Prefixed : goal.returns-in-Prefixed
returns-in-Prefixed c = prefixed_name _ c.in-Prefixed.ensures
