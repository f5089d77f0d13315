-- `judging::label_if` meets its contract.
use Rattle.spec.specs.Limits.{most_held_bytes}
use Rattle.start_tag.specs.Properties.{no_label, one_label}
use native.Mathlib.Omega.{arith}
use Rattle.start_tag.proofs.judging.label_if.Goals as goal

pub returns-then-not-takes : goal.returns-then-not-takes
returns-then-not-takes c = no_label c.if-not-takes.true

pub make_label-requires : goal.make_label-requires
unfolding most_held_bytes
make_label-requires c = (c.requires.1 c.if-not-takes.false, omega (arith, c.requires.0))

pub returns : goal.returns
returns c = one_label c.if-not-takes.false c.make_label.ensures
