-- `parser::parse_start_event` meets its contract: in Literal content no rdf:ID is entered.
use Rattle.reader.specs.Asked.{handler_asks}
use Rattle.reader.specs.Dispatch.{without_ids}
use Rattle.reader.specs.Tags.{stands-inside, stands-outside, stands_flat, inside-tag}
use borrow.Author.Rules.{rules}
use Rattle.reader.proofs.parser.parse_start_event.Goals as goal

pub start_inside-outcome-requires : goal.start_inside-outcome-requires
start_inside-outcome-requires c = (handler_asks c.requires.0, c.requires.1.area, stands-inside c.requires.0.lawful.valid c.stands_in_literal.ensures c.if-stands_in_literal.true, inside-tag c.requires.1)

pub shape_of-frames-then-stands_in_literal : goal.shape_of-frames-then-stands_in_literal
shape_of-frames-then-stands_in_literal c = c.frames-1.given

pub shape_of-bindings-then-stands_in_literal : goal.shape_of-bindings-then-stands_in_literal
shape_of-bindings-then-stands_in_literal c = c.bindings-1.given

pub shape_of-inners-then-stands_in_literal : goal.shape_of-inners-then-stands_in_literal
shape_of-inners-then-stands_in_literal c = c.inners-1.given

pub shape_of-work-then-stands_in_literal : goal.shape_of-work-then-stands_in_literal
shape_of-work-then-stands_in_literal c = c.work-1.given

pub shape_of-area-then-stands_in_literal : goal.shape_of-area-then-stands_in_literal
shape_of-area-then-stands_in_literal c = c.area-1.given

pub returns-then-stands_in_literal : goal.returns-then-stands_in_literal
returns-then-stands_in_literal c = (without_ids c.requires.0.lawful.table (c.start_inside-outcome.ensures.handles _) c.with_ids.ensures, search rules)

pub start_outside-requires : goal.start_outside-requires
start_outside-requires c = (record { lawful = c.requires.0.lawful; level = stands_flat _ _ c.stands_in_literal.ensures c.if-stands_in_literal.false; outer = stands-outside c.requires.0.lawful.valid c.stands_in_literal.ensures c.if-stands_in_literal.false; tag = c.requires.1.tag; ready = record { event = c.requires.1.texts; words = c.requires.1.words; room = c.requires.1.area; small = c.requires.1.most; few = c.requires.1.tag.few } }, c.requires.0.mark)

pub shape_of-frames : goal.shape_of-frames
shape_of-frames c = c.frames-2-1.given

pub shape_of-bindings : goal.shape_of-bindings
shape_of-bindings c = c.bindings-2-1.given

pub shape_of-work : goal.shape_of-work
shape_of-work c = c.work-2-1.given

pub shape_of-ids : goal.shape_of-ids
shape_of-ids c = c.ids-1.given

pub shape_of-area : goal.shape_of-area
shape_of-area c = c.area-2-1.given

pub shape_of-out : goal.shape_of-out
shape_of-out c = c.out-1.given
