-- `elements::most_bindings` meets its contract.
use Rattle.std.proofs.Common.{arith, rules}
use Rattle.test_stores.proofs.elements.most_bindings.Goals as goal

pub loop-n-init : goal.loop-n-init
loop-n-init c = (omega arith, search rules, search rules)
