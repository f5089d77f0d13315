-- `writer::iriref::is_forbidden` meets its contract: low, a mark, one of three marks in a row, or allowed.
use mathlib.Core.Path.{sym}
use mathlib.Core.Logic.{inl, inr}
use Rattle.writer.specs.Words.{forbidden_low, forbidden-mark, forbidden_brace, allowed}
use Rattle.writer.proofs.iriref.is_forbidden.Goals as goal

pub returns-then-b-le32 : goal.returns-then-b-le32
returns-then-b-le32 c = sym (forbidden_low c.if-b-le32.true)

pub returns-in_default : goal.returns-in_default
returns-in_default c = sym (allowed c.if-b-le32.false c.in_default.in_default-own.rest.1 (inl c.in_default.if-b-lt123-own.true))

pub returns-in_default-2 : goal.returns-in_default-2
returns-in_default-2 c = sym (allowed c.if-b-le32.false c.in_default.in_default-own.rest.1 (inr c.in_default.if-b-lt126-own.false))

pub returns-in-60 : goal.returns-in-60
returns-in-60 c = sym (forbidden-mark c.in-60.is)

pub returns-in-60-2 : goal.returns-in-60-2
returns-in-60-2 c = sym (forbidden_brace c.in-60.if-b-lt123-own.false c.in-60.if-b-lt126-own.true)
