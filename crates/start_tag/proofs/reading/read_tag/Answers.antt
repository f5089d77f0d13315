-- `start_tag::reading::read_tag` meets its contract, by what stops it first: the name, an attribute, a reference; or nothing; or it is the wrapper's.
use mathlib.Core.Path.{refl, sym, ◌∙◌}
use Rattle.spec.specs.Limits.{most_held_bytes}
use Rattle.start_tag.specs.Tag.{unknown_name, wrong_attribute, wrong_reference, tag_read}
use Rattle.start_tag.specs.Wrapper.{unknown_none, known_so}
use Rattle.std.proofs.Common.{Err, arith, ◌≡◌}
use Rattle.start_tag.proofs.reading.read_tag.Goals as goal

pub returns-then-is_unknown : goal.returns-then-is_unknown
returns-then-is_unknown c = record { reads = unknown_name c.args.r c.args.frames.now c.args.bindings.now c.args.work.now c.args.count c.args.starts.now c.args.sizes.now c.args.ids.now c.requires.0 c.piece-name.ensures c.element-found.ensures (sym c.is_unknown.ensures ∙ c.if-is_unknown.true); wraps = λ is x z. unknown_none _ _ _ _ _ _ _ c.piece-name.ensures c.requires.0.name c.element-found.ensures x z (sym c.is_unknown.ensures ∙ c.if-is_unknown.true) }

pub returns-then-is_wrapper : goal.returns-then-is_wrapper
returns-then-is_wrapper c = record { reads = record { places = refl; same = refl; cases = λ is used x y. tt }; wraps = λ is x z. known_so _ _ _ _ _ _ _ c.piece-name.ensures c.requires.0.name c.element-found.ensures x z (sym c.is_unknown.ensures ∙ c.if-is_unknown.false) c.is_wrapper.ensures ∙ c.if-is_wrapper.true }

pub returns-in_err-read_attributes : goal.returns-in_err-read_attributes
returns-in_err-read_attributes c =
    let up : c.from_residual.result ≡ Err c.in_err-read_attributes.field-0.0 = grind arith in
    rw up (record { reads = wrong_attribute c.args.r c.args.frames.now c.args.bindings.now c.args.work.now c.args.count c.args.starts.now c.args.sizes.now c.args.ids.now c.requires.0 c.piece-name.ensures c.element-found.ensures (sym c.is_unknown.ensures ∙ c.if-is_unknown.false) c.read_attributes.ensures c.in_err-read_attributes.was; wraps = λ is x z. known_so _ _ _ _ _ _ _ c.piece-name.ensures c.requires.0.name c.element-found.ensures x z (sym c.is_unknown.ensures ∙ c.if-is_unknown.false) c.is_wrapper.ensures ∙ c.if-is_wrapper.false })

pub resolve_references-requires : goal.resolve_references-requires
unfolding most_held_bytes
resolve_references-requires c = (record { event = c.requires.0.event; room = omega (arith, c.requires.0.room) }, c.requires.1)

pub tag_of-tag-requires : goal.tag_of-tag-requires
tag_of-tag-requires c = record { event = c.requires.0.event; room = omega (arith, c.requires.0.room, c.resolve_references.ensures.same) }

pub returns-in_err-references : goal.returns-in_err-references
returns-in_err-references c =
    let up : c.from_residual-in_err-references.result ≡ Err c.in_err-references.field-0.0 = grind arith in
    rw up (record { reads = wrong_reference c.args.r c.args.frames.now c.args.bindings.now c.args.work.now c.args.count c.args.starts.now c.args.sizes.now c.args.ids.now c.requires.0 c.piece-name.ensures c.element-found.ensures (sym c.is_unknown.ensures ∙ c.if-is_unknown.false) c.read_attributes.ensures c.in_ok-read_attributes.was c.resolve_references.ensures c.in_err-references.was; wraps = λ is x z. known_so _ _ _ _ _ _ _ c.piece-name.ensures c.requires.0.name c.element-found.ensures x z (sym c.is_unknown.ensures ∙ c.if-is_unknown.false) c.is_wrapper.ensures ∙ c.if-is_wrapper.false })

pub returns : goal.returns
returns c = record { reads = tag_read c.args.r c.args.frames.now c.args.bindings.now c.args.work.now c.args.count c.args.starts.now c.args.sizes.now c.args.ids.now c.requires.0 c.piece-name.ensures c.element-found.ensures (sym c.is_unknown.ensures ∙ c.if-is_unknown.false) c.read_attributes.ensures c.in_ok-read_attributes.was c.resolve_references.ensures c.in_ok-references.was c.tag_of-tag.ensures; wraps = λ is x z. known_so _ _ _ _ _ _ _ c.piece-name.ensures c.requires.0.name c.element-found.ensures x z (sym c.is_unknown.ensures ∙ c.if-is_unknown.false) c.is_wrapper.ensures ∙ c.if-is_wrapper.false }
