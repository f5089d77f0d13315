-- `judging::fits` meets its contract.
use Rattle.start_tag.specs.Limits.{id_full, held_full, held_fits}
use native.Mathlib.Omega.{arith}
use Rattle.start_tag.proofs.judging.fits.Goals as goal

pub returns-then-not-id_fits : goal.returns-then-not-id_fits
returns-then-not-id_fits c = id_full c.size-n.ensures c.id_fits.ensures c.if-not-id_fits.true

pub returns-then-top-gt-MOST_HELD : goal.returns-then-top-gt-MOST_HELD
returns-then-top-gt-MOST_HELD c = held_full c.size-n.ensures c.id_fits.ensures c.if-not-id_fits.false (omega arith)

pub returns : goal.returns
returns c = held_fits c.size-n.ensures c.id_fits.ensures c.if-not-id_fits.false (omega arith)
