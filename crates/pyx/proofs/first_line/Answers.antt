-- `pyx::first_line` meets its contract: a plain line by one law, any other by what each test says.
use mathlib.Core.Path.{sym, ◌∙◌}
use Rattle.copy.specs.Texts.{length_up_to}
use Rattle.pyx.proofs.Events.{read_no_text, read_unended, plain-line}
use Rattle.pyx.proofs.Reach.{is_end}
use native.Mathlib.Omega.{arith}
use Rattle.pyx.proofs.first_line.Goals as goal

pub returns-then-is_plain_line : goal.returns-then-is_plain_line
returns-then-is_plain_line c = plain-line c.args.event.now (c.is_plain_line.ensures c.if-is_plain_line.true)

pub returns-then-not-is_text : goal.returns-then-not-is_text
returns-then-not-is_text c = (sym c.if-has_spaced.false ∙ c.has_spaced.ensures, read_no_text c.args.event.now (sym c.if-not-is_text.true ∙ c.is_text.ensures))

pub returns-then-n-event : goal.returns-then-n-event
returns-then-n-event c = (sym c.if-has_spaced.false ∙ c.has_spaced.ensures, read_unended c.args.event.now (sym c.if-not-is_text.false ∙ c.is_text.ensures) c.find-n.ensures c.if-n-event.true)

pub returns : goal.returns
returns c =
    record {
      clear = sym c.if-has_spaced.false ∙ c.has_spaced.ensures;
      text = sym c.if-not-is_text.false ∙ c.is_text.ensures;
      line = c.find-n.ensures;
      ended = omega (arith, c.find-n.ensures, length_up_to is_end c.args.event.now);
    }
