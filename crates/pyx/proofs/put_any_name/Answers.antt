-- `pyx::put_any_name` meets its contract: by what `colon_of` says.
use Rattle.pyx.proofs.Lines.{kept_all}
use Rattle.pyx.proofs.Names.{put-name}
use Rattle.pyx.proofs.put_any_name.Goals as goal

pub returns-in_err-colon : goal.returns-in_err-colon
returns-in_err-colon c = rw c.from_residual.ensures ((rw c.in_err-colon.was at c.colon_of.ensures, kept_all))

pub shape_of-scratch : goal.shape_of-scratch
shape_of-scratch c = c.put.ensures.same

pub returns : goal.returns
returns c = put-name c.in_ok-colon.ensures c.put.ensures c.requires
