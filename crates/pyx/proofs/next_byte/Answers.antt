-- `pyx::next_byte` meets its contract. Each arm is one law.
use mathlib.Core.Path.{refl}
use native.Mathlib.Omega.{arith}
use Rattle.pyx.proofs.Escapes.{stands_plain, wrong_last, stands-line_feed, stands_tab, stands_backslash, wrong_escape}
use Rattle.pyx.proofs.next_byte.Goals as goal

pub returns-then-b-ne92 : goal.returns-then-b-ne92
returns-then-b-ne92 c = stands_plain _ _ _ c.requires refl c.if-b-ne92.true

pub returns-then-s-i-lt2 : goal.returns-then-s-i-lt2
returns-then-s-i-lt2 c = wrong_last _ _ c.requires c.if-b-ne92.false c.if-s-i-lt2.true

pub returns-in-110 : goal.returns-in-110
returns-in-110 c = stands-line_feed c.args.s.now c.args.i (omega arith) c.if-b-ne92.false c.in-110.is

pub returns-in-116 : goal.returns-in-116
returns-in-116 c = stands_tab c.args.s.now c.args.i (omega arith) c.if-b-ne92.false c.in-116.is

pub returns-in-92 : goal.returns-in-92
returns-in-92 c = stands_backslash c.args.s.now c.args.i (omega arith) c.if-b-ne92.false c.in-92.is

pub returns-in_default : goal.returns-in_default
returns-in_default c = wrong_escape c.args.s.now c.args.i (omega arith) c.if-b-ne92.false (λ e. omega arith) (λ e. omega arith) (λ e. omega arith)
