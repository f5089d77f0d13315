-- `text::text_fits` meets its contract: the registers with the text on top.
use Rattle.text.specs.Object.{fits_not, fits_top}
use native.Mathlib.Omega.{arith}
use Rattle.text.proofs.text_fits.Goals as goal

pub returns-then-n-gt-STORE : goal.returns-then-n-gt-STORE
returns-then-n-gt-STORE c = fits_not c.args.r _ _ (omega arith)

pub returns : goal.returns
returns c = fits_top _ _ _ c.top-f.ensures c.wide.ensures.0 c.with_top.ensures c.holds_no_more.ensures
