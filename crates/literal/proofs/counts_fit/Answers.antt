-- `literal::counts_fit` meets its contract, test by test.
use Prim.Native.Nat.{◌+◌}
use Rattle.literal.specs.Known.{counts_deep, counts-many, counts-bound, counts-rest}
use mathlib.Core.Path.{sym, ap}
use native.Mathlib.Omega.{arith}
use Rattle.literal.proofs.counts_fit.Goals as goal

pub returns-then-r-ge-MOST : goal.returns-then-r-ge-MOST
returns-then-r-ge-MOST c = counts_deep _ _ _ (omega arith)

pub returns-then-r : goal.returns-then-r
returns-then-r c = counts_deep _ _ _ (omega arith)

pub returns-then-k-gt-MOST : goal.returns-then-k-gt-MOST
returns-then-k-gt-MOST c = counts-many _ _ _ (omega arith) (omega arith)

pub returns-then-r-gt-MOST_BINDINGS : goal.returns-then-r-gt-MOST_BINDINGS
returns-then-r-gt-MOST_BINDINGS c = counts-bound _ _ _ (omega arith) (omega arith) (omega arith)

pub returns : goal.returns
returns c = counts-rest _ _ _ (omega arith) (omega arith) _ _ (ap (◌+ c.args.r.counts.bindings) (sym c.count_declared.ensures)) (omega arith)
