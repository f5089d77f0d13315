-- `literal::judge` meets its contract: a law of each refusal, with the tests that led there.
use mathlib.Core.Path.{sym, ◌∙◌}
use Rattle.literal.specs.Judged.{judge_illegal, judge-repeats, judge-counts, judge_element, judge-attributes, judge_good}
use Rattle.literal.specs.Known.{counts_as, known_name, known_all}
use Rattle.literal.proofs.judge.Goals as goal

pub returns-then-not-all_legal : goal.returns-then-not-all_legal
returns-then-not-all_legal c = judge_illegal (sym c.all_legal.ensures ∙ c.if-not-all_legal.true)

pub returns-then-repeated_written : goal.returns-then-repeated_written
returns-then-repeated_written c = judge-repeats (sym c.all_legal.ensures ∙ c.if-not-all_legal.false) (sym c.repeated_written.ensures ∙ c.if-repeated_written.true)

pub returns-then-not-counts_fit : goal.returns-then-not-counts_fit
returns-then-not-counts_fit c = judge-counts (sym c.all_legal.ensures ∙ c.if-not-all_legal.false) (sym c.repeated_written.ensures ∙ c.if-repeated_written.false) (counts_as _ _ _ _ _ _ _ c.counts_fit.ensures c.if-not-counts_fit.true)

pub returns-then-not-known : goal.returns-then-not-known
returns-then-not-known c = judge_element (sym c.all_legal.ensures ∙ c.if-not-all_legal.false) (sym c.repeated_written.ensures ∙ c.if-repeated_written.false) (counts_as _ _ _ _ _ _ _ c.counts_fit.ensures c.if-not-counts_fit.false) (known_name _ _ _ _ _ _ c.requires.0 c.front_of-prefix.ensures c.known.ensures c.if-not-known.true)

pub returns-then-not-all_known : goal.returns-then-not-all_known
returns-then-not-all_known c = judge-attributes (sym c.all_legal.ensures ∙ c.if-not-all_legal.false) (sym c.repeated_written.ensures ∙ c.if-repeated_written.false) (counts_as _ _ _ _ _ _ _ c.counts_fit.ensures c.if-not-counts_fit.false) (known_name _ _ _ _ _ _ c.requires.0 c.front_of-prefix.ensures c.known.ensures c.if-not-known.false) (known_all _ _ _ _ _ _ c.all_known.ensures c.if-not-all_known.true)

pub returns : goal.returns
returns c = judge_good (sym c.all_legal.ensures ∙ c.if-not-all_legal.false) (sym c.repeated_written.ensures ∙ c.if-repeated_written.false) (counts_as _ _ _ _ _ _ _ c.counts_fit.ensures c.if-not-counts_fit.false) (known_name _ _ _ _ _ _ c.requires.0 c.front_of-prefix.ensures c.known.ensures c.if-not-known.false) (known_all _ _ _ _ _ _ c.all_known.ensures c.if-not-all_known.false)
