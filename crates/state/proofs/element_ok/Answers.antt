-- `state::element_ok` meets its contract. A law for each return, with the tests that led there.
use Rattle.state.specs.Tests.{ends_elsewhere, falls, part_left, bindings_beyond, not_chained, kind_wrong, around_decides}
use Rattle.state_words.specs.Words.{load_frame_lem}
use mathlib.Core.Path.{◌∙◌}
use native.Mathlib.Omega.{arith}
use Rattle.std.proofs.Common.{sym}
use Rattle.state.proofs.element_ok.Goals as goal

pub returns-then-wide-top : goal.returns-then-wide-top
returns-then-wide-top c = ends_elsewhere _ _ _ _ _ _ (c.load-f.ensures ∙ load_frame_lem _ _ (omega arith)) (λ e. omega arith)

pub returns-then-not-rises : goal.returns-then-not-rises
returns-then-not-rises c = falls _ _ _ _ _ _ (c.load-f.ensures ∙ load_frame_lem _ _ (omega arith)) (omega arith) (sym c.rises.ensures ∙ c.if-not-rises.true)

pub returns-then-not-parts_ok : goal.returns-then-not-parts_ok
returns-then-not-parts_ok c = part_left _ _ _ _ _ _ (c.load-f.ensures ∙ load_frame_lem _ _ (omega arith)) (omega arith) (sym c.rises.ensures ∙ c.if-not-rises.false) (sym c.parts_ok.ensures ∙ c.if-not-parts_ok.true)

pub returns-then-b-first : goal.returns-then-b-first
returns-then-b-first c = bindings_beyond _ _ _ _ _ _ (c.load-f.ensures ∙ load_frame_lem _ _ (omega arith)) (omega arith) (sym c.rises.ensures ∙ c.if-not-rises.false) (sym c.parts_ok.ensures ∙ c.if-not-parts_ok.false) (omega arith)

pub returns-then-not-chained : goal.returns-then-not-chained
returns-then-not-chained c = not_chained _ _ _ _ _ _ (c.load-f.ensures ∙ load_frame_lem _ _ (omega arith)) (omega arith) (sym c.rises.ensures ∙ c.if-not-rises.false) (sym c.parts_ok.ensures ∙ c.if-not-parts_ok.false) (omega arith) (rw (c.wide-first.ensures.0, c.wide-2.ensures.0, c.wide-3.ensures.0) at (sym c.chained.ensures ∙ c.if-not-chained.true))

pub returns-then-not-kind_ok : goal.returns-then-not-kind_ok
returns-then-not-kind_ok c = kind_wrong _ _ _ _ _ _ (c.load-f.ensures ∙ load_frame_lem _ _ (omega arith)) (omega arith) (sym c.rises.ensures ∙ c.if-not-rises.false) (sym c.parts_ok.ensures ∙ c.if-not-parts_ok.false) (omega arith) (rw (c.wide-first.ensures.0, c.wide-2.ensures.0, c.wide-3.ensures.0) at (sym c.chained.ensures ∙ c.if-not-chained.false)) (sym c.kind_ok.ensures ∙ c.if-not-kind_ok.true)

pub returns : goal.returns
returns c = around_decides _ _ _ _ _ _ (c.load-f.ensures ∙ load_frame_lem _ _ (omega arith)) (omega arith) (sym c.rises.ensures ∙ c.if-not-rises.false) (sym c.parts_ok.ensures ∙ c.if-not-parts_ok.false) (omega arith) (rw (c.wide-first.ensures.0, c.wide-2.ensures.0, c.wide-3.ensures.0) at (sym c.chained.ensures ∙ c.if-not-chained.false)) (sym c.kind_ok.ensures ∙ c.if-not-kind_ok.false) c.stands.ensures
