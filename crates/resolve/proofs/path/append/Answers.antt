-- `resolve::path::append` meets its contract.
use mathlib.Core.Path.{sym, ◌∙◌}
use borrow.Author.Tests.{leb-true, leb-false}
use Rattle.resolve.specs.Output.{appended_beyond, appended_over}
use Rattle.resolve.proofs.path.append.Goals as goal

pub returns-then-out-gt0 : goal.returns-then-out-gt0
returns-then-out-gt0 c = λ from o. rw c.pass.ensures (appended_beyond (record { order = o; within = c.requires.0.within }) c.args.segment.now c.requires.1 c.if-out-gt0.true)

pub returns-then-not-room_for : goal.returns-then-not-room_for
returns-then-not-room_for c = λ from o. rw c.pass-then-not-room_for.ensures (appended_over (record { order = o; within = c.requires.0.within }) c.args.segment.now c.requires.1 c.if-out-gt0.false (leb-false _ _ (sym c.room_for.ensures ∙ c.if-not-room_for.true)))

pub store-requires : goal.store-requires
store-requires c = (c.requires.0, c.if-out-gt0.false, leb-true _ _ (sym c.room_for.ensures ∙ c.if-not-room_for.false))

pub shape_of-area : goal.shape_of-area
shape_of-area c = c.area-1.given
