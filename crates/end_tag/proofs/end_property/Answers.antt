-- `end_tag::end_property` meets its contract. Written where all of it has room: one law of specs/ for each return.
use mathlib.Core.Path.{refl}
use Rattle.end_tag.specs.Ends.{tells_over, tells_full, tells_done}
use Rattle.end_tag.specs.Kinds.{property_tells}
use Rattle.std.proofs.Common.{sym}
use Rattle.std.proofs.Common.{◌∙◌}
use Rattle.std.proofs.Common.{Err, arith, ◌≡◌}
use Rattle.end_tag.proofs.end_property.Goals as goal

pub returns-then-not-holds_no_more : goal.returns-then-not-holds_no_more
returns-then-not-holds_no_more c = tells_over (property_tells c.pop.ensures c.unwrap_or-behind.ensures c.top-f.ensures c.top-n.ensures c.language_in_force-language.ensures refl) (sym c.holds_no_more.ensures ∙ c.if-not-holds_no_more.true)

pub returns-in_err-written : goal.returns-in_err-written
returns-in_err-written c =
    let up : c.from_residual.result ≡ Err c.in_err-written.field-0.0 = grind arith in
    rw up (tells_full (property_tells c.pop.ensures c.unwrap_or-behind.ensures c.top-f.ensures c.top-n.ensures c.language_in_force-language.ensures c.bytes_found.ensures) (sym c.holds_no_more.ensures ∙ c.if-not-holds_no_more.false) c.say_property.ensures c.in_err-written.was)

pub returns : goal.returns
returns c = tells_done (property_tells c.pop.ensures c.unwrap_or-behind.ensures c.top-f.ensures c.top-n.ensures c.language_in_force-language.ensures c.bytes_found.ensures) (sym c.holds_no_more.ensures ∙ c.if-not-holds_no_more.false) c.say_property.ensures c.in_ok-written.was
