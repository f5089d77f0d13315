-- `start_names::same_from_shorter` meets its contract. Test by test: lengths first, then the last bytes, and the fronts at last.
use mathlib.Core.Path.{sym, ◌∙◌}
use Rattle.copy.specs.Copy.{rest_of}
use Rattle.start_names.specs.Joined.{too_short, other_length, backs_differ, middles_differ, fronts_decide}
use native.Mathlib.Omega.{arith}
use Rattle.start_names.proofs.same_from_shorter.Goals as goal

pub returns-then-b-more : goal.returns-then-b-more
returns-then-b-more c = too_short c.args.a.now c.args.b.now c.args.c.now c.args.d.now c.requires (omega arith)

pub returns-then-b-more-2 : goal.returns-then-b-more-2
returns-then-b-more-2 c = other_length c.args.a.now c.args.b.now c.args.c.now c.args.d.now c.requires (omega arith) c.if-b-more-2.true

pub returns-then-not-equal : goal.returns-then-not-equal
returns-then-not-equal c = backs_differ c.args.a.now c.args.b.now c.args.c.now c.args.d.now c.requires (omega arith) (rw rest_of at (sym c.equal.ensures ∙ c.if-not-equal.true))

pub returns-then-not-begins : goal.returns-then-not-begins
returns-then-not-begins c = middles_differ c.args.a.now c.args.b.now c.args.c.now c.args.d.now c.requires (omega arith) (rw rest_of at (sym c.begins.ensures ∙ c.if-not-begins.true))

pub returns : goal.returns
returns c = c.equal-2.ensures ∙ fronts_decide c.args.a.now c.args.b.now c.args.c.now c.args.d.now c.requires (omega arith) (rw rest_of at (sym c.equal.ensures ∙ c.if-not-equal.false)) (rw rest_of at (sym c.begins.ensures ∙ c.if-not-begins.false))
