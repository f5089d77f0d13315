-- `state::inners_ok` meets its contract.
use Rattle.state.specs.Tests.{inner-begins, inner_elsewhere, inner_beyond, inner_stop, inner_more, other_end, inner_done}
use Rattle.state_words.specs.Words.{load_row_lem}
use mathlib.Core.Path.{◌∙◌}
use native.Mathlib.Omega.{arith}
use Rattle.std.proofs.Common.{sym}
use Rattle.state.proofs.inners_ok.Goals as goal

pub loop-i-init : goal.loop-i-init
loop-i-init c = inner-begins

pub returns-then-at-l : goal.returns-then-at-l
returns-then-at-l c = inner_elsewhere c.loop-i.invariant (omega arith) (c.load-row.ensures ∙ load_row_lem _ _ (omega arith)) (λ e. omega arith)

pub returns-then-b-first : goal.returns-then-b-first
returns-then-b-first c = inner_beyond c.loop-i.invariant (omega arith) (c.load-row.ensures ∙ load_row_lem _ _ (omega arith)) (omega arith) (omega arith)

pub returns-then-not-chained : goal.returns-then-not-chained
returns-then-not-chained c = inner_stop c.loop-i.invariant (omega arith) (c.load-row.ensures ∙ load_row_lem _ _ (omega arith)) (omega arith) (omega arith) (rw (c.wide-first.ensures.0, c.wide-at.ensures.0, c.wide.ensures.0, c.ceiling-up.ensures.0) at (sym c.chained.ensures ∙ c.if-not-chained.true))

pub loop-i-preserved : goal.loop-i-preserved
loop-i-preserved c = rw (c.wide-first.ensures.0, c.ceiling-up.ensures.0) (inner_more c.loop-i.invariant (omega arith) (c.load-row.ensures ∙ load_row_lem _ _ (omega arith)) (omega arith) (omega arith) (rw (c.wide-first.ensures.0, c.wide-at.ensures.0, c.wide.ensures.0, c.ceiling-up.ensures.0) at (sym c.chained.ensures ∙ c.if-not-chained.false)))

pub returns-then-l-ne-STORE : goal.returns-then-l-ne-STORE
returns-then-l-ne-STORE c = other_end c.loop-i.invariant (omega arith) c.if-l-ne-STORE.true

pub returns : goal.returns
returns c = inner_done c.loop-i.invariant (omega arith) (omega arith)
