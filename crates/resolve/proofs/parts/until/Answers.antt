-- `resolve::parts::until` meets its contract.
use mathlib.Core.Path.{◌≡◌, sym, ◌∙◌}
use lib.ListN.{length}
use Rattle.copy.specs.Scan.{sought_begins, sought_stop, sought_more, sought_done}
use native.Mathlib.Omega.{arith}
use Rattle.resolve.proofs.parts.until.Goals as goal

pub loop-i-init : goal.loop-i-init
loop-i-init c = sought_begins

pub returns-then-among : goal.returns-then-among
returns-then-among c = sought_stop c.loop-i.invariant (omega arith) (sym c.among.ensures ∙ c.if-among.true)

pub loop-i-preserved : goal.loop-i-preserved
loop-i-preserved c = sought_more c.loop-i.invariant (omega arith) (sym c.among.ensures ∙ c.if-among.false)

pub returns : goal.returns
returns c = let e : length c.args.s.now ≡ c.loop-i.i = omega arith in e ∙ sought_done c.loop-i.invariant (omega arith)
