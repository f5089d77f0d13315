-- `Chosen::look` meets its contract: a law for each return.
use mathlib.Core.Path.{sym, ◌∙◌}
use Rattle.spec.specs.Bytes.{ascii}
use Rattle.iceshaft.specs.Arguments.{look_base, look_file, look_late, look_pyx, look_xmp, look_awaits, look_unknown}
use Rattle.iceshaft.proofs.arguments.Chosen.look.Goals as goal

pub returns-then-self : goal.returns-then-self
returns-then-self c = look_base c.args.self c.args.i c.args.word.now c.if-self.true c.with_base.ensures

pub returns-then-not-begins : goal.returns-then-not-begins
unfolding ascii
returns-then-not-begins c = look_file c.args.self c.args.i c.args.word.now c.if-self.false (sym c.begins.ensures ∙ c.if-not-begins.true) c.with_file.ensures

pub returns-then-is_some : goal.returns-then-is_some
unfolding ascii
returns-then-is_some c = look_late c.args.self c.args.i c.args.word.now c.if-self.false (sym c.begins.ensures ∙ c.if-not-begins.false) (sym c.is_some.ensures ∙ c.if-is_some.true)

pub returns-then-equal : goal.returns-then-equal
unfolding ascii
returns-then-equal c = look_pyx c.args.self c.args.i c.args.word.now c.if-self.false (sym c.begins.ensures ∙ c.if-not-begins.false) (sym c.is_some.ensures ∙ c.if-is_some.false) (sym c.equal.ensures ∙ c.if-equal.true) c.with_pyx.ensures

pub returns-then-equal-2 : goal.returns-then-equal-2
unfolding ascii
returns-then-equal-2 c =
    look_xmp c.args.self c.args.i c.args.word.now c.if-self.false (sym c.begins.ensures ∙ c.if-not-begins.false) (sym c.is_some.ensures ∙ c.if-is_some.false)
    (sym c.equal.ensures ∙ c.if-equal.false) (sym c.equal-2.ensures ∙ c.if-equal-2.true) c.with_xmp.ensures

pub returns-then-equal-3 : goal.returns-then-equal-3
unfolding ascii
returns-then-equal-3 c =
    look_awaits c.args.self c.args.i c.args.word.now c.if-self.false (sym c.begins.ensures ∙ c.if-not-begins.false) (sym c.is_some.ensures ∙ c.if-is_some.false)
    (sym c.equal.ensures ∙ c.if-equal.false) (sym c.equal-2.ensures ∙ c.if-equal-2.false) (sym c.equal-3.ensures ∙ c.if-equal-3.true) c.awaiting.ensures

pub returns : goal.returns
unfolding ascii
returns c =
    look_unknown c.args.self c.args.i c.args.word.now c.if-self.false (sym c.begins.ensures ∙ c.if-not-begins.false) (sym c.is_some.ensures ∙ c.if-is_some.false)
    (sym c.equal.ensures ∙ c.if-equal.false) (sym c.equal-2.ensures ∙ c.if-equal-2.false) (sym c.equal-3.ensures ∙ c.if-equal-3.false)
