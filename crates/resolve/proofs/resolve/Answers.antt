-- `resolve::resolve` meets its contract.
use mathlib.Core.Path.{sym, ◌∙◌}
use Prim.Native.Nat.{◌≤◌}
use lib.ListN.{length}
use borrow.Author.Tests.{leb-true, leb-false}
use Rattle.resolve.specs.Resolve.{need, need_is, result_none, made, result_made}
use native.Mathlib.Omega.{arith}
use Rattle.resolve.proofs.resolve.Goals as goal

pub returns-then-not-has_room : goal.returns-then-not-has_room
returns-then-not-has_room c = result_none (rw (need_is c.args.base.now c.args.reference.now) (leb-false _ _ (sym c.has_room.ensures ∙ c.if-not-has_room.true)))

pub put_front-from-requires : goal.put_front-from-requires
put_front-from-requires c = (c.transform-target.ensures, rw (need_is c.args.base.now c.args.reference.now) (leb-true _ _ (sym c.has_room.ensures ∙ c.if-not-has_room.false)))

pub put_path-out-requires : goal.put_path-out-requires
put_path-out-requires c = (c.transform-target.ensures, omega (arith, c.put_front-from.ensures.within, c.put_front-from.ensures.same))

pub recompose-requires : goal.recompose-requires
recompose-requires c = (c.transform-target.ensures.path, c.put_path-out.ensures.within)

pub shape_of-area : goal.shape_of-area
shape_of-area c = c.area-3-1.given ∙ c.area-2-1.given ∙ c.area-1.given

pub returns : goal.returns
returns c = let room : need c.args.base.now c.args.reference.now ≤ length c.args.area.now = rw (need_is c.args.base.now c.args.reference.now) (leb-true _ _ (sym c.has_room.ensures ∙ c.if-not-has_room.false)) in result_made c.transform-target.ensures room (c.put_path-out.ensures.same ∙ c.put_front-from.ensures.same) (c.recompose.ensures _ _ (made c.transform-target.ensures room c.put_front-from.ensures c.put_path-out.ensures))
