-- `judging::judge_tag` meets its contract.
use Rattle.start_tag.specs.Places.{fits_asks, tag-refused, tag_full, tag_goes}
use Rattle.std.proofs.Common.{Err, arith, ◌≡◌}
use Rattle.start_tag.proofs.judging.judge_tag.Goals as goal

pub fits-requires : goal.fits-requires
fits-requires c = fits_asks c.draft.ensures c.in_ok-start.was c.requires

pub returns-then-not-fits : goal.returns-then-not-fits
returns-then-not-fits c = tag_full c.draft.ensures c.in_ok-start.was (rw c.saturating_sub.ensures at c.fits.ensures) c.if-not-fits.true

pub returns-in_err-start : goal.returns-in_err-start
returns-in_err-start c =
    let up : c.from_residual.result ≡ Err c.in_err-start.field-0.0 = grind arith in
    rw up (tag-refused c.draft.ensures c.in_err-start.was)

pub returns : goal.returns
returns c = tag_goes c.draft.ensures c.in_ok-start.was (rw c.saturating_sub.ensures at c.fits.ensures) c.if-not-fits.false
