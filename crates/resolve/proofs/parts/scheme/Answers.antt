-- `resolve::parts::scheme` meets its contract.
use mathlib.Core.Path.{sym, ◌∙◌}
use Rattle.copy.specs.Texts.{length_up_to}
use Rattle.spec.specs.Bytes.{ascii, among}
use Rattle.resolve.specs.Parts.{name_size, scheme_unnamed, scheme_unended, scheme-other, scheme_there}
use native.Mathlib.Omega.{arith}
use Rattle.resolve.proofs.parts.scheme.Goals as goal

pub returns-then-n-eq0 : goal.returns-then-n-eq0
unfolding name_size ascii
returns-then-n-eq0 c = scheme_unnamed c.args.s.now (sym c.if-n-eq0.true ∙ c.until-n.ensures)

pub returns-then-n-s : goal.returns-then-n-s
unfolding name_size ascii
returns-then-n-s c = scheme_unended c.args.s.now (sym c.if-n-s.true ∙ c.until-n.ensures)

pub bounds-s-n : goal.bounds-s-n
unfolding ascii
bounds-s-n c = omega (arith, length_up_to (among (ascii ":/?#")) c.args.s.now)

pub returns-then-s-n-ne58 : goal.returns-then-s-n-ne58
unfolding name_size ascii
returns-then-s-n-ne58 c = scheme-other c.args.s.now _ c.until-n.ensures (omega (arith, length_up_to (among (ascii ":/?#")) c.args.s.now)) c.if-s-n-ne58.true

pub overflow_add-result : goal.overflow_add-result
unfolding ascii
overflow_add-result c = omega (arith, length_up_to (among (ascii ":/?#")) c.args.s.now)

pub returns : goal.returns
unfolding name_size ascii
returns c = scheme_there c.args.s.now _ c.until-n.ensures c.if-n-eq0.false (omega (arith, length_up_to (among (ascii ":/?#")) c.args.s.now)) (omega arith)
