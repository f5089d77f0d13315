-- `reader::finish` meets its contract: 3, 4, 6, and else the mark.
use mathlib.Core.Path.{sym, ◌∙◌}
use Rattle.reader_contract.specs.Meaning.{lawful_as_parts}
use Rattle.reader.specs.Starting.{finish_unlawful, finish-closed, finish_open, finish_done}
use Rattle.reader.proofs.finish.Goals as goal

pub returns-then-not-is_lawful : goal.returns-then-not-is_lawful
returns-then-not-is_lawful c = finish_unlawful (lawful_as_parts c.args.state _ _ c.is_lawful.ensures ∙ c.if-not-is_lawful.true) c.refused.ensures

pub returns-then-registers : goal.returns-then-registers
returns-then-registers c = finish-closed (lawful_as_parts c.args.state _ _ c.is_lawful.ensures ∙ c.if-not-is_lawful.false) c.if-registers.true c.refused-then-registers.ensures

pub returns-then-not-may_finish : goal.returns-then-not-may_finish
returns-then-not-may_finish c = finish_open (lawful_as_parts c.args.state _ _ c.is_lawful.ensures ∙ c.if-not-is_lawful.false) c.if-registers.false (sym c.may_finish.ensures ∙ c.if-not-may_finish.true) (c.refused-then-not-may_finish.ensures ∙ rw c.closed.ensures)

pub returns : goal.returns
returns c = finish_done (lawful_as_parts c.args.state _ _ c.is_lawful.ensures ∙ c.if-not-is_lawful.false) c.if-registers.false (sym c.may_finish.ensures ∙ c.if-not-may_finish.false) (c.done.ensures ∙ rw c.closed-2.ensures)
