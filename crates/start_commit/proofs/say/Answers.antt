-- `start_commit::say` meets its contract. Nothing, or drafted and then copied or written once more.
use mathlib.Core.Path.{refl, sym}
use lib.Seq.{length-take-le}
use Rattle.writer.specs.Said.{says_nothing, drafted_not, drafted_all, drafted_long}
use Rattle.start_commit.specs.Told.{no_lines}
use native.Mathlib.Omega.{arith}
use Rattle.start_commit.proofs.say.Goals as goal

pub returns-in-Nothing : goal.returns-in-Nothing
returns-in-Nothing c = says_nothing (no_lines _ _ _ _ _ _ _ _ _ _ c.in-Nothing.is)

pub returns-then-out-size : goal.returns-then-out-size
returns-then-out-size c = drafted_not (rw (c.top-around.ensures, c.language_in_force-language.ensures) at c.tell-size.ensures) (omega (arith, c.well_formed)) (omega arith)

pub slice_bounds-put-end : goal.slice_bounds-put-end
slice_bounds-put-end c = sym (length-take-le _ _ (omega (arith, c.tell-size.ensures.same)))

pub shape_of-out-then-size-le-DRAFT : goal.shape_of-out-then-size-le-DRAFT
shape_of-out-then-size-le-DRAFT c = c.out-1.given

pub returns-then-size-le-DRAFT : goal.returns-then-size-le-DRAFT
returns-then-size-le-DRAFT c = drafted_all (rw (c.top-around.ensures, c.language_in_force-language.ensures) at c.tell-size.ensures) (omega (arith, c.well_formed)) (omega arith) refl (omega arith) (omega arith) c.put.ensures

pub shape_of-out : goal.shape_of-out
shape_of-out c = c.out-2-1.given

pub returns : goal.returns
returns c = drafted_long (rw (c.top-around.ensures, c.language_in_force-language.ensures) at c.tell-size.ensures) (omega (arith, c.well_formed)) (omega arith) (rw (c.top-around.ensures, c.language_in_force-language.ensures) at c.tell-written.ensures) refl
