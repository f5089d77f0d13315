-- `resolve::has_room` meets its contract.
use mathlib.Core.Path.{sym}
use borrow.Author.Tests.{le-leb, lt-leb}
use Rattle.resolve.specs.Resolve.{needed, room_or}
use native.Mathlib.Omega.{arith}
use Rattle.resolve.proofs.has_room.Goals as goal

pub returns-then-area-ge-AREA : goal.returns-then-area-ge-AREA
returns-then-area-ge-AREA c = sym (le-leb (needed c.args.base c.args.reference) c.args.area (omega arith))

pub returns-then-area-base : goal.returns-then-area-base
returns-then-area-base c = sym (lt-leb (needed c.args.base c.args.reference) c.args.area (omega arith))

pub returns : goal.returns
returns c = room_or c.args.base c.args.reference c.args.area c.if-area-ge-AREA.false c.if-area-base.false
