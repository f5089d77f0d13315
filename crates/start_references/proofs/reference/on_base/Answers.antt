-- `start_references::reference::on_base` meets its contract: the part of the area that was lent is back.
use mathlib.Core.Path.{refl}
use Prim.Native.Nat.{◌+◌, ◌-◌}
use lib.ListN.{length-take, length-drop}
use Rattle.start_references.specs.Reference.{based_made, based_formless, based_long, answers}
use native.Mathlib.Omega.{arith}
use Rattle.start_references.proofs.reference.on_base.Goals as goal

pub returns-in-Ok : goal.returns-in-Ok
returns-in-Ok c = based_made c.args.base.now c.args.reference.now c.requires.1 c.resolve.ensures c.args.area.now c.args.at (c.args.at + 1_027 - c.args.at) refl (omega (arith, c.requires.0.room)) c.in-Ok.is

pub returns-in-Err-NoForm : goal.returns-in-Err-NoForm
returns-in-Err-NoForm c = based_formless c.args.base.now c.args.reference.now c.requires.1 c.resolve.ensures c.args.area.now c.args.at (c.args.at + 1_027 - c.args.at) refl (omega (arith, c.requires.0.room)) (rw c.in-Err-NoForm.field-0-is at c.in-Err-NoForm.is)

pub returns-in-Err-TooLong : goal.returns-in-Err-TooLong
returns-in-Err-TooLong c = based_long c.args.base.now c.args.reference.now c.requires.1 c.resolve.ensures c.args.area.now c.args.at (c.args.at + 1_027 - c.args.at) refl (omega (arith, c.requires.0.room)) (rw c.in-Err-TooLong.field-0-is at c.in-Err-TooLong.is)

pub returns-in-Err-NoArea : goal.returns-in-Err-NoArea
returns-in-Err-NoArea c = absurd (answers c.args.base.now c.args.reference.now c.requires.1 c.resolve.ensures (simp (length-take, length-drop) (omega (arith, c.requires.0.room))) (rw c.in-Err-NoArea.field-0-is at c.in-Err-NoArea.is))
