-- `pyx::by_first_line` meets its contract. Each arm is one law on the event's first byte.
use native.Mathlib.Omega.{arith}
use Rattle.pyx.proofs.Events.{nothing_first, lines-opening, closing_nameless, closing_good, text_wrong, text_good, instruction_good, other_first}
use Rattle.pyx.proofs.Lines.{positive}
use Rattle.pyx.proofs.by_first_line.Goals as goal

pub returns-then-n-eq0 : goal.returns-then-n-eq0
returns-then-n-eq0 c = nothing_first c.requires _ c.if-n-eq0.true

pub returns-in-40 : goal.returns-in-40
returns-in-40 c = rw (lines-opening c.requires (positive c.if-n-eq0.false) c.in-40.is) c.opening.ensures

pub returns-in-None : goal.returns-in-None
returns-in-None c = closing_nameless c.requires (positive c.if-n-eq0.false) _ c.in-41.is c.in-None.ensures

pub returns-in-Some : goal.returns-in-Some
returns-in-Some c = closing_good c.requires (positive c.if-n-eq0.false) _ c.in-41.is c.in-Some.ensures

pub returns-in-None-put_text : goal.returns-in-None-put_text
returns-in-None-put_text c = text_wrong c.requires (positive c.if-n-eq0.false) _ c.in-45.is c.in-None-put_text.ensures

pub returns-in-Some-put_text : goal.returns-in-Some-put_text
returns-in-Some-put_text c = text_good c.requires (positive c.if-n-eq0.false) _ c.in-45.is c.in-Some-put_text.ensures

pub returns-in-63 : goal.returns-in-63
returns-in-63 c = instruction_good c.requires (positive c.if-n-eq0.false) _ c.in-63.is

pub returns-in_default : goal.returns-in_default
returns-in_default c = other_first c.requires (positive c.if-n-eq0.false) _ (λ e. omega arith) (λ e. omega arith) (λ e. omega arith) (λ e. omega arith)
