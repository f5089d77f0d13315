-- `parser::parse_event` meets its contract: a law of each answer of `decode`.
use mathlib.Core.Path.{refl, sym, ◌∙◌}
use native.Mathlib.Omega.{arith}
use lib.Seq.{length-take-le}
use Rattle.reader.specs.Asked.{handler_asks}
use Rattle.reader.specs.Arms.{never, fits-text, fits_closing, opened, crowds, on_malformed, on_instruction, on_text_lem, on_closing, on_opening_lem, on_crowded}
use borrow.Author.Rules.{rules}
use Rattle.reader.proofs.parser.parse_event.Goals as goal

pub slice_bounds-parse_text_event-end : goal.slice_bounds-parse_text_event-end
slice_bounds-parse_text_event-end c = fits-text _ c.requires.2 c.decode-decoded.ensures c.in-Text.is

pub slice_bounds-parse_text_event-end-in-Text : goal.slice_bounds-parse_text_event-end-in-Text
slice_bounds-parse_text_event-end-in-Text c = sym (length-take-le _ _ (fits-text _ c.requires.2 c.decode-decoded.ensures c.in-Text.is))

pub parse_text_event-outcome-requires : goal.parse_text_event-outcome-requires
parse_text_event-outcome-requires c = (handler_asks c.requires.0, c.requires.1.area)

pub slice_bounds-parse_end_event-end : goal.slice_bounds-parse_end_event-end
slice_bounds-parse_end_event-end c = fits_closing _ c.requires.2 c.decode-decoded.ensures c.in-Closing.is

pub slice_bounds-parse_end_event-end-in-Closing : goal.slice_bounds-parse_end_event-end-in-Closing
slice_bounds-parse_end_event-end-in-Closing c = sym (length-take-le _ _ (fits_closing _ c.requires.2 c.decode-decoded.ensures c.in-Closing.is))

pub parse_end_event-outcome-requires : goal.parse_end_event-outcome-requires
parse_end_event-outcome-requires c = (handler_asks c.requires.0, c.requires.1.area)

pub parse_start_event-requires : goal.parse_start_event-requires
parse_start_event-requires c = (c.requires.0, opened _ c.requires.2 c.decode-decoded.ensures c.requires.1 c.in-Opening.is)

pub refusal-why-requires : goal.refusal-why-requires
refusal-why-requires c = crowds _ c.requires.2 c.decode-decoded.ensures c.requires.1 c.in-Crowded.is

pub shape_of-scratch-in-Malformed : goal.shape_of-scratch-in-Malformed
shape_of-scratch-in-Malformed c = c.scratch-1.given

pub shape_of-spans-in-Malformed : goal.shape_of-spans-in-Malformed
shape_of-spans-in-Malformed c = c.spans-1.given

pub returns-in-Malformed : goal.returns-in-Malformed
returns-in-Malformed c = (on_malformed _ c.requires.2 c.decode-decoded.ensures c.requires.0 c.in-Malformed.is, record { scratch = c.decode-decoded.ensures.kept.same; spans = c.decode-decoded.ensures.words; area = refl })

pub shape_of-scratch-in-NoScratch : goal.shape_of-scratch-in-NoScratch
shape_of-scratch-in-NoScratch c = c.scratch-1.given

pub shape_of-spans-in-NoScratch : goal.shape_of-spans-in-NoScratch
shape_of-spans-in-NoScratch c = c.spans-1.given

pub returns-in-NoScratch : goal.returns-in-NoScratch
returns-in-NoScratch c = never _ c.requires.2 c.decode-decoded.ensures c.in-NoScratch.is

pub shape_of-scratch-in-Instruction : goal.shape_of-scratch-in-Instruction
shape_of-scratch-in-Instruction c = c.scratch-1.given

pub shape_of-spans-in-Instruction : goal.shape_of-spans-in-Instruction
shape_of-spans-in-Instruction c = c.spans-1.given

pub returns-in-Instruction : goal.returns-in-Instruction
returns-in-Instruction c = (on_instruction _ c.requires.2 c.decode-decoded.ensures c.requires.0 c.with_ids.ensures c.in-Instruction.is c.unchanged.ensures, record { scratch = c.decode-decoded.ensures.kept.same; spans = c.decode-decoded.ensures.words; area = refl })

pub shape_of-frames-in-Text : goal.shape_of-frames-in-Text
shape_of-frames-in-Text c = c.frames-1.given

pub shape_of-bindings-in-Text : goal.shape_of-bindings-in-Text
shape_of-bindings-in-Text c = refl

pub shape_of-inners-in-Text : goal.shape_of-inners-in-Text
shape_of-inners-in-Text c = refl

pub shape_of-work-in-Text : goal.shape_of-work-in-Text
shape_of-work-in-Text c = c.work-1.given

pub shape_of-scratch-in-Text : goal.shape_of-scratch-in-Text
shape_of-scratch-in-Text c = c.scratch-1.given

pub shape_of-spans-in-Text : goal.shape_of-spans-in-Text
shape_of-spans-in-Text c = c.spans-1.given

pub shape_of-area-in-Text : goal.shape_of-area-in-Text
shape_of-area-in-Text c = c.area-1.given

pub returns-in-Text : goal.returns-in-Text
returns-in-Text c = (on_text_lem _ c.requires.2 c.decode-decoded.ensures c.requires.0 c.with_ids-in-Text.ensures c.in-Text.is c.parse_text_event-outcome.ensures, record { scratch = c.decode-decoded.ensures.kept.same; spans = c.decode-decoded.ensures.words; area = search rules })

pub shape_of-frames-in-Closing : goal.shape_of-frames-in-Closing
shape_of-frames-in-Closing c = c.frames-in-Closing-1.given

pub shape_of-bindings-in-Closing : goal.shape_of-bindings-in-Closing
shape_of-bindings-in-Closing c = refl

pub shape_of-inners-in-Closing : goal.shape_of-inners-in-Closing
shape_of-inners-in-Closing c = refl

pub shape_of-work-in-Closing : goal.shape_of-work-in-Closing
shape_of-work-in-Closing c = c.work-in-Closing-1.given

pub shape_of-out-in-Closing : goal.shape_of-out-in-Closing
shape_of-out-in-Closing c = c.out-1.given

pub shape_of-scratch-in-Closing : goal.shape_of-scratch-in-Closing
shape_of-scratch-in-Closing c = c.scratch-1.given

pub shape_of-spans-in-Closing : goal.shape_of-spans-in-Closing
shape_of-spans-in-Closing c = c.spans-1.given

pub shape_of-area-in-Closing : goal.shape_of-area-in-Closing
shape_of-area-in-Closing c = c.area-in-Closing-1.given

pub returns-in-Closing : goal.returns-in-Closing
returns-in-Closing c = (on_closing _ c.requires.2 c.decode-decoded.ensures c.requires.0 c.with_ids-in-Closing.ensures c.in-Closing.is c.parse_end_event-outcome.ensures, record { scratch = c.decode-decoded.ensures.kept.same; spans = c.decode-decoded.ensures.words; area = search rules })

pub shape_of-frames-in-Opening : goal.shape_of-frames-in-Opening
shape_of-frames-in-Opening c = c.frames-in-Opening-1.given

pub shape_of-bindings-in-Opening : goal.shape_of-bindings-in-Opening
shape_of-bindings-in-Opening c = c.bindings-1.given

pub shape_of-inners-in-Opening : goal.shape_of-inners-in-Opening
shape_of-inners-in-Opening c = c.inners-1.given

pub shape_of-work-in-Opening : goal.shape_of-work-in-Opening
shape_of-work-in-Opening c = c.work-in-Opening-1.given

pub shape_of-ids : goal.shape_of-ids
shape_of-ids c = c.ids-1.given

pub shape_of-out-in-Opening : goal.shape_of-out-in-Opening
shape_of-out-in-Opening c = c.out-in-Opening-1.given

pub shape_of-scratch-in-Opening : goal.shape_of-scratch-in-Opening
shape_of-scratch-in-Opening c = c.scratch-1.given

pub shape_of-spans-in-Opening : goal.shape_of-spans-in-Opening
shape_of-spans-in-Opening c = c.spans-1.given

pub shape_of-area-in-Opening : goal.shape_of-area-in-Opening
shape_of-area-in-Opening c = c.area-in-Opening-1.given

pub returns-in-Opening : goal.returns-in-Opening
returns-in-Opening c = (on_opening_lem _ c.requires.2 c.decode-decoded.ensures c.requires.0 c.in-Opening.is c.parse_start_event.ensures.0, record { scratch = c.decode-decoded.ensures.kept.same; spans = c.decode-decoded.ensures.words; area = c.parse_start_event.ensures.1 })

pub shape_of-frames-in-Crowded : goal.shape_of-frames-in-Crowded
shape_of-frames-in-Crowded c = refl

pub shape_of-bindings-in-Crowded : goal.shape_of-bindings-in-Crowded
shape_of-bindings-in-Crowded c = refl

pub shape_of-work-in-Crowded : goal.shape_of-work-in-Crowded
shape_of-work-in-Crowded c = refl

pub shape_of-scratch-in-Crowded : goal.shape_of-scratch-in-Crowded
shape_of-scratch-in-Crowded c = c.scratch-in-Crowded-1.given ∙ c.scratch-1.given

pub shape_of-spans-in-Crowded : goal.shape_of-spans-in-Crowded
shape_of-spans-in-Crowded c = c.spans-1.given

pub returns-in-Crowded : goal.returns-in-Crowded
returns-in-Crowded c = (on_crowded _ c.requires.2 c.decode-decoded.ensures c.requires.0 c.requires.1 c.in-Crowded.is c.refusal-why.ensures, record { scratch = omega (arith, c.decode-decoded.ensures.kept.same); spans = c.decode-decoded.ensures.words; area = refl })
