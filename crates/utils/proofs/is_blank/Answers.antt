-- `is_blank`. The invariant: the bytes passed are whitespace, so the rest decides.
use Rattle.spec.specs.RdfXml.{is_blank}
use Rattle.utils.proofs.Walking.{walked_begins, bytes_fail, bytes_more, bytes_pass}
use mathlib.Core.Path.{sym, ◌∙◌}
use borrow.Author.Rules.{rules}
use Rattle.utils.proofs.is_blank.Goals as goal

pub loop-b-init : goal.loop-b-init
loop-b-init c = walked_begins _ _

pub returns-then-not-is_whitespace : goal.returns-then-not-is_whitespace
unfolding is_blank
returns-then-not-is_whitespace c = bytes_fail _ c.loop-b.invariant (search rules) (sym c.is_whitespace.ensures ∙ c.if-not-is_whitespace.true)

pub loop-b-preserved : goal.loop-b-preserved
loop-b-preserved c = bytes_more _ c.loop-b.invariant (search rules) (sym c.is_whitespace.ensures ∙ c.if-not-is_whitespace.false)

pub returns : goal.returns
unfolding is_blank
returns c = bytes_pass _ c.loop-b.invariant (search rules)
