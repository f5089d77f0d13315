-- `start_references::resolve_on` meets its contract: rdf:ID is resolved, not bad and not used, then the others are.
use mathlib.Core.Path.{sym, ◌∙◌}
use Rattle.start_references.specs.References.{five_at, stop_bad, stop_used, stop_others, all_resolved}
use Rattle.start_references.specs.Reference.{text_if}
use Rattle.start_references.proofs.resolve_on.Goals as goal

pub shape_of-area-then-is_bad : goal.shape_of-area-then-is_bad
shape_of-area-then-is_bad c = c.area-1.given

pub returns-then-is_bad : goal.returns-then-is_bad
unfolding five_at
returns-then-is_bad c = stop_bad (text_if c.args.base) (five_at c.args.scratch.now c.args.spans.now c.args.k c.args.roles.now) c.args.count c.args.starts.now c.args.sizes.now c.args.ids.now c.resolve_id-id.ensures (sym c.is_bad.ensures ∙ c.if-is_bad.true)

pub is_used-requires : goal.is_used-requires
is_used-requires c = c.requires.1

pub shape_of-area-then-is_used : goal.shape_of-area-then-is_used
shape_of-area-then-is_used c = c.area-1.given

pub returns-then-is_used : goal.returns-then-is_used
unfolding five_at
returns-then-is_used c = stop_used (text_if c.args.base) (five_at c.args.scratch.now c.args.spans.now c.args.k c.args.roles.now) c.args.count c.args.starts.now c.args.sizes.now c.args.ids.now c.resolve_id-id.ensures (sym c.is_bad.ensures ∙ c.if-is_bad.false) (sym c.is_used.ensures ∙ c.if-is_used.true)

pub shape_of-area-then-is_bad-2 : goal.shape_of-area-then-is_bad-2
shape_of-area-then-is_bad-2 c = c.area-2-1.given ∙ c.area-1.given

pub returns-then-is_bad-2 : goal.returns-then-is_bad-2
unfolding five_at
returns-then-is_bad-2 c = stop_others (text_if c.args.base) (five_at c.args.scratch.now c.args.spans.now c.args.k c.args.roles.now) c.args.count c.args.starts.now c.args.sizes.now c.args.ids.now c.resolve_id-id.ensures (sym c.is_bad.ensures ∙ c.if-is_bad.false) (sym c.is_used.ensures ∙ c.if-is_used.false) c.resolve_others-others.ensures (sym c.is_bad-2.ensures ∙ c.if-is_bad-2.true)

pub shape_of-area : goal.shape_of-area
shape_of-area c = c.area-2-1.given ∙ c.area-1.given

pub returns : goal.returns
unfolding five_at
returns c = all_resolved (text_if c.args.base) (five_at c.args.scratch.now c.args.spans.now c.args.k c.args.roles.now) c.args.count c.args.starts.now c.args.sizes.now c.args.ids.now c.resolve_id-id.ensures (sym c.is_bad.ensures ∙ c.if-is_bad.false) (sym c.is_used.ensures ∙ c.if-is_used.false) c.resolve_others-others.ensures (sym c.is_bad-2.ensures ∙ c.if-is_bad-2.false)
