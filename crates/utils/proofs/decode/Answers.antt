-- `decode`: what the first byte says leads to each answer, by the laws of Decoding.
use Rattle.utils.proofs.Decoding.{begins, front_one, stuck_first}
use mathlib.Core.Path.{sym, ◌∙◌}
use Rattle.spec.specs.Bytes.{when◌then◌else◌}
use Rattle.spec.specs.Utf8.{least}
use native.Mathlib.Omega.{arith}
use Rattle.utils.proofs.decode.Goals as goal

pub returns-then-first-lt128 : goal.returns-then-first-lt128
returns-then-first-lt128 c = front_one _ (omega arith) c.if-first-lt128.true

pub sequence-requires : goal.sequence-requires
unfolding least when◌then◌else◌
sequence-requires c = begins _ _ (omega arith) (omega arith) (omega arith) (sym c.sequence_length-n.ensures ∙ c.if-n-eq2.true) (omega arith)

pub sequence-requires-then-n-eq3 : goal.sequence-requires-then-n-eq3
unfolding least when◌then◌else◌
sequence-requires-then-n-eq3 c = begins _ _ (omega arith) (omega arith) (omega arith) (sym c.sequence_length-n.ensures ∙ c.if-n-eq3.true) (omega arith)

pub sequence-requires-then-n-eq4 : goal.sequence-requires-then-n-eq4
unfolding least when◌then◌else◌
sequence-requires-then-n-eq4 c = begins _ _ (omega arith) (omega arith) (omega arith) (sym c.sequence_length-n.ensures ∙ c.if-n-eq4.true) (omega arith)

pub returns : goal.returns
returns c = let l = c.sequence_length-n.ensures in stuck_first _ (omega arith) (omega (arith, c.if-first-lt128.false)) (λ e. c.if-n-eq2.false (l ∙ e)) (λ e. c.if-n-eq3.false (l ∙ e)) (λ e. c.if-n-eq4.false (l ∙ e))
