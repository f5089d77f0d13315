-- `literal::end_inside` meets its contract: 6, or the end tag is added to what is left.
use mathlib.Core.Path.{refl, ◌∙◌}
use Rattle.literal.specs.Added.{xml_in, adds_quietly}
use Rattle.literal.specs.Events.{end_differs, end_quiet, closed-holds, closed-mark}
use native.Mathlib.Omega.{arith}
use Rattle.std.proofs.Common.{sym}
use Rattle.literal.proofs.end_inside.Goals as goal

pub shape_of-frames-then-not-equal : goal.shape_of-frames-then-not-equal
shape_of-frames-then-not-equal c = refl

pub shape_of-work-then-not-equal : goal.shape_of-work-then-not-equal
shape_of-work-then-not-equal c = refl

pub returns-then-not-equal : goal.returns-then-not-equal
returns-then-not-equal c = end_differs c.requires.0.valid c.requires.2 c.name-own.ensures c.bytes_found.ensures (sym c.equal.ensures ∙ c.if-not-equal.true)

pub shape_of-frames : goal.shape_of-frames
shape_of-frames c = c.frames-1.given

pub shape_of-work : goal.shape_of-work
shape_of-work c = c.work-1.given

pub shape_of-area : goal.shape_of-area
shape_of-area c = c.area-1.given

pub returns : goal.returns
returns c = adds_quietly c.requires.0 (closed-mark c.requires.0.valid c.requires.2 c.close_inside.ensures c.unwrap_or-behind.ensures ∙ c.requires.0.mark) (closed-holds c.requires.0.valid c.requires.2 c.close_inside.ensures c.unwrap_or-behind.ensures) (end_quiet c.requires.0.valid c.requires.2 c.name-own.ensures c.bytes_found.ensures (sym c.equal.ensures ∙ c.if-not-equal.false)) c.add.ensures (xml_in c.end_tag-n.ensures refl (omega (arith, c.well_formed)))
