-- `end_tag::end_literal` meets its contract. Written where all of it has room: one law of specs/ for each return.
use mathlib.Core.Path.{sym, ◌∙◌}
use Rattle.end_tag.specs.Ends.{tells_over, tells_full, tells_done}
use Rattle.end_tag.specs.Kinds.{literal_tells, literal-empty}
use Rattle.copy.specs.Texts.{empty_is, empty_not}
use Rattle.std.proofs.Common.{Err, arith, ◌≡◌}
use Rattle.end_tag.proofs.end_literal.Goals as goal

pub returns-then-tail_size-eq0 : goal.returns-then-tail_size-eq0
returns-then-tail_size-eq0 c = literal-empty c.top-f.ensures (empty_is _ (sym c.tail_size.ensures ∙ c.if-tail_size-eq0.true))

pub returns-then-not-holds_no_more : goal.returns-then-not-holds_no_more
returns-then-not-holds_no_more c = tells_over (literal_tells c.pop.ensures c.unwrap_or-behind.ensures c.top-f.ensures c.top-n.ensures (empty_not _ (λ z. c.if-tail_size-eq0.false (c.tail_size.ensures ∙ z)))) (sym c.holds_no_more.ensures ∙ c.if-not-holds_no_more.true)

pub returns-in_err-written : goal.returns-in_err-written
returns-in_err-written c =
    let up : c.from_residual.result ≡ Err c.in_err-written.field-0.0 = grind arith in
    rw up (tells_full (literal_tells c.pop.ensures c.unwrap_or-behind.ensures c.top-f.ensures c.top-n.ensures (empty_not _ (λ z. c.if-tail_size-eq0.false (c.tail_size.ensures ∙ z)))) (sym c.holds_no_more.ensures ∙ c.if-not-holds_no_more.false) c.say_literal.ensures c.in_err-written.was)

pub returns : goal.returns
returns c = tells_done (literal_tells c.pop.ensures c.unwrap_or-behind.ensures c.top-f.ensures c.top-n.ensures (empty_not _ (λ z. c.if-tail_size-eq0.false (c.tail_size.ensures ∙ z)))) (sym c.holds_no_more.ensures ∙ c.if-not-holds_no_more.false) c.say_literal.ensures c.in_ok-written.was
