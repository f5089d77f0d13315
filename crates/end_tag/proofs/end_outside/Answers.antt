-- `end_tag::end_outside` meets its contract. 6, or the end tag matches.
use Rattle.end_tag.specs.Kinds.{whole}
use Rattle.end_tag.specs.Outside.{none_open, other_name, is_closing, matched}
use Rattle.std.proofs.Common.{sym}
use Rattle.std.proofs.Common.{◌∙◌}
use Rattle.end_tag.proofs.end_outside.Goals as goal

pub returns-in_default : goal.returns-in_default
returns-in_default c = none_open c.requires.0 _ c.in_default.ensures

pub returns-then-not-equal : goal.returns-then-not-equal
returns-then-not-equal c = other_name c.requires.0 _ c.in-Some.ensures c.piece.ensures (sym c.equal.ensures ∙ c.if-not-equal.true)

pub end_state-requires : goal.end_state-requires
end_state-requires c = whole (is_closing c.requires.0 c.args.name.now c.in-Some.ensures c.piece.ensures c.requires.1)

pub returns : goal.returns
returns c = matched c.requires.0 _ c.in-Some.ensures c.piece.ensures c.requires.1 (sym c.equal.ensures ∙ c.if-not-equal.false) c.end_state.ensures
