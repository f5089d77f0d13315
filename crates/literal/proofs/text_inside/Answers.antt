-- `literal::text_inside` meets its contract.
use Rattle.literal.specs.Quiet.{holds_self}
use Rattle.literal.specs.Added.{xml_in, adds_quietly}
use Rattle.literal.specs.Events.{text_quiet}
use mathlib.Core.Path.{refl}
use native.Mathlib.Omega.{arith}
use Rattle.literal.proofs.text_inside.Goals as goal

pub shape_of-frames : goal.shape_of-frames
shape_of-frames c = c.frames-1.given

pub shape_of-work : goal.shape_of-work
shape_of-work c = c.work-1.given

pub shape_of-area : goal.shape_of-area
shape_of-area c = c.area-1.given

pub returns : goal.returns
returns c = adds_quietly c.requires.0 c.requires.0.mark (holds_self c.requires.0.valid) (text_quiet _ c.requires.2) c.add.ensures (xml_in c.text-n.ensures refl (omega arith))
