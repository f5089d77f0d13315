-- `langtag::Subtag::kind` is `kind`, length by length.
use mathlib.Core.Path.{sym}
use native.Mathlib.Omega.{arith}
use Rattle.spec.specs.Bytes.{when◌then◌else◌}
use borrow.Author.Tests.{not-true}
use Rattle.langtag.specs.Machine.{kind}
use Rattle.langtag.proofs.Subtags.{kind_none, kind-one, kind-two, kind_three, kind_four, kind_wide, kind_over}
use Rattle.langtag.proofs.Subtag.kind.Goals as goal

pub returns-then-not-self : goal.returns-then-not-self
unfolding kind when◌then◌else◌
returns-then-not-self c = rw (not-true c.args.self.alphanum c.if-not-self.true)

pub returns-in-1 : goal.returns-in-1
unfolding when◌then◌else◌
returns-in-1 c = rw (kind-one c.args.self c.if-not-self.false c.in-1.is, c.if-self.true)

pub returns-in-1-2 : goal.returns-in-1-2
unfolding when◌then◌else◌
returns-in-1-2 c = rw (kind-one c.args.self c.if-not-self.false c.in-1.is, c.if-self.false)

pub returns-in-2 : goal.returns-in-2
unfolding when◌then◌else◌
returns-in-2 c = rw (kind-two c.args.self c.if-not-self.false c.in-2.is, c.if-self-2.true)

pub returns-in-2-2 : goal.returns-in-2-2
unfolding when◌then◌else◌
returns-in-2-2 c = rw (kind-two c.args.self c.if-not-self.false c.in-2.is, c.if-self-2.false)

pub returns-in-3 : goal.returns-in-3
unfolding when◌then◌else◌
returns-in-3 c = rw (kind_three c.args.self c.if-not-self.false c.in-3.is, c.if-self-3.true)

pub returns-in-3-2 : goal.returns-in-3-2
unfolding when◌then◌else◌
returns-in-3-2 c = rw (kind_three c.args.self c.if-not-self.false c.in-3.is, c.if-self-3.false, c.if-self-4.true)

pub returns-in-3-3 : goal.returns-in-3-3
unfolding when◌then◌else◌
returns-in-3-3 c = rw (kind_three c.args.self c.if-not-self.false c.in-3.is, c.if-self-3.false, c.if-self-4.false)

pub returns-in-4 : goal.returns-in-4
unfolding when◌then◌else◌
returns-in-4 c = rw (kind_four c.args.self c.if-not-self.false c.in-4.is, c.if-self-5.true)

pub returns-in-4-2 : goal.returns-in-4-2
unfolding when◌then◌else◌
returns-in-4-2 c = rw (kind_four c.args.self c.if-not-self.false c.in-4.is, c.if-self-5.false, c.if-self-6.true)

pub returns-in-4-3 : goal.returns-in-4-3
unfolding when◌then◌else◌
returns-in-4-3 c = rw (kind_four c.args.self c.if-not-self.false c.in-4.is, c.if-self-5.false, c.if-self-6.false)

pub returns-in-5-to-8 : goal.returns-in-5-to-8
unfolding when◌then◌else◌
returns-in-5-to-8 c = rw (kind_wide c.args.self c.if-not-self.false (omega arith) (omega arith), c.if-self-7.true)

pub returns-in-5-to-8-2 : goal.returns-in-5-to-8-2
unfolding when◌then◌else◌
returns-in-5-to-8-2 c = rw (kind_wide c.args.self c.if-not-self.false (omega arith) (omega arith), c.if-self-7.false)

pub returns-in_default : goal.returns-in_default
returns-in_default c = sym (kind_none c.args.self c.if-not-self.false (omega arith))

pub returns-in_default-2 : goal.returns-in_default-2
returns-in_default-2 c = sym (kind_over c.args.self c.if-not-self.false (omega arith))
