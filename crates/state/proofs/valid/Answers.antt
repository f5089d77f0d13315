-- `state::valid` meets its contract. A law for each return, with the tests that led there.
use Rattle.state.specs.Tests.{wrong_lengths, wrong_counts, sized, wrong_inners, wrong_noted, frames_fit, frames_decide}
use native.Mathlib.Omega.{arith}
use Rattle.std.proofs.Common.{sym}
use Rattle.std.proofs.Common.{◌∙◌}
use Rattle.state.proofs.valid.Goals as goal

pub returns-then-not-lengths_ok : goal.returns-then-not-lengths_ok
returns-then-not-lengths_ok c = wrong_lengths _ _ _ _ _ (sym c.lengths_ok.ensures ∙ c.if-not-lengths_ok.true)

pub returns-then-not-counts_ok : goal.returns-then-not-counts_ok
returns-then-not-counts_ok c = wrong_counts _ _ _ _ _ (sym c.lengths_ok.ensures ∙ c.if-not-lengths_ok.false) (sym c.counts_ok.ensures ∙ c.if-not-counts_ok.true)

pub inners_ok-requires : goal.inners_ok-requires
inners_ok-requires c = let s = sized _ _ _ _ _ (sym c.lengths_ok.ensures ∙ c.if-not-lengths_ok.false) (sym c.counts_ok.ensures ∙ c.if-not-counts_ok.false) in (omega arith, omega arith)

pub returns-then-not-inners_ok : goal.returns-then-not-inners_ok
returns-then-not-inners_ok c = wrong_inners _ _ _ _ _ (sym c.lengths_ok.ensures ∙ c.if-not-lengths_ok.false) (sym c.counts_ok.ensures ∙ c.if-not-counts_ok.false) (sym c.inners_ok.ensures ∙ c.if-not-inners_ok.true)

pub noted_ok-requires : goal.noted_ok-requires
noted_ok-requires c = let s = sized _ _ _ _ _ (sym c.lengths_ok.ensures ∙ c.if-not-lengths_ok.false) (sym c.counts_ok.ensures ∙ c.if-not-counts_ok.false) in (omega arith, omega arith)

pub returns-then-not-noted_ok : goal.returns-then-not-noted_ok
returns-then-not-noted_ok c = wrong_noted _ _ _ _ _ (sym c.lengths_ok.ensures ∙ c.if-not-lengths_ok.false) (sym c.counts_ok.ensures ∙ c.if-not-counts_ok.false) (sym c.inners_ok.ensures ∙ c.if-not-inners_ok.false) (sym c.noted_ok.ensures ∙ c.if-not-noted_ok.true)

pub frames_ok-requires : goal.frames_ok-requires
frames_ok-requires c = frames_fit _ _ _ _ _ (sym c.lengths_ok.ensures ∙ c.if-not-lengths_ok.false) (sym c.counts_ok.ensures ∙ c.if-not-counts_ok.false) (sym c.inners_ok.ensures ∙ c.if-not-inners_ok.false)

pub returns : goal.returns
returns c = frames_decide _ _ _ _ _ (sym c.lengths_ok.ensures ∙ c.if-not-lengths_ok.false) (sym c.counts_ok.ensures ∙ c.if-not-counts_ok.false) (sym c.inners_ok.ensures ∙ c.if-not-inners_ok.false) (sym c.noted_ok.ensures ∙ c.if-not-noted_ok.false) c.frames_ok.ensures
