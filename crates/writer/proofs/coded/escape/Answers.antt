-- `coded::escape` meets its contract: the word that is spelled is written.
use lib.ListN.{length-take}
use Rattle.writer.specs.Put.{put_as}
use native.Mathlib.Omega.{arith}
use Rattle.writer.proofs.coded.escape.Goals as goal

pub slice_bounds-text-end : goal.slice_bounds-text-end
slice_bounds-text-end g c = c.spell-word.ensures.within

pub slice_bounds-bytes-end : goal.slice_bounds-bytes-end
slice_bounds-bytes-end g c = simp length-take (omega (arith, c.spell-word.ensures.within))

pub returns : goal.returns
returns g c = put_as c.bytes.ensures c.spell-word.ensures.is
