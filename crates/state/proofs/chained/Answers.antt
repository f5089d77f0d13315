-- `state::chained` meets its contract.
use Rattle.state_words.specs.Words.{load_row_lem}
use mathlib.Core.Path.{◌∙◌}
use Rattle.state.specs.Tests.{chain_begins, chain_stop, chain_more, chain_done}
use native.Mathlib.Omega.{arith}
use Rattle.state.proofs.chained.Goals as goal

pub loop-i-init : goal.loop-i-init
loop-i-init c = chain_begins

pub returns-then-at-wide : goal.returns-then-at-wide
returns-then-at-wide c = chain_stop c.loop-i.invariant (omega arith) (c.load-row.ensures ∙ load_row_lem _ _ (omega arith)) (λ e. omega arith)

pub loop-i-preserved : goal.loop-i-preserved
loop-i-preserved c = rw c.wide-at.ensures.0 (chain_more c.loop-i.invariant (omega arith) (c.load-row.ensures ∙ load_row_lem _ _ (omega arith)) (omega arith))

pub returns : goal.returns
returns c = chain_done c.loop-i.invariant (omega arith)
