-- `iri::is_colonless` meets its contract. What stands before the first "/" has no ":".
use mathlib.Core.Path.{sym}
use lib.Seq.{length-take-le}
use Rattle.iri.proofs.Finding.{found_within, colonless-found}
use Rattle.iri.proofs.is_colonless.Goals as goal

pub slice_bounds-find-end : goal.slice_bounds-find-end
slice_bounds-find-end c = sym (length-take-le _ _ (found_within 47 _ c.find-n.ensures))

pub returns : goal.returns
returns c = colonless-found _ c.find-n.ensures c.find.ensures
