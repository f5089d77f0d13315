-- `pyx::put_text` meets its contract: one line by one law, several by `put_lines`.
use Rattle.pyx.proofs.Events.{title_room, text-one}
use Rattle.pyx.proofs.put_text.Goals as goal

pub unescape-requires : goal.unescape-requires
unescape-requires c = title_room c.requires.fits c.requires.n_nonzero

pub returns-then-n-event : goal.returns-then-n-event
returns-then-n-event c = text-one c.requires.fits c.requires.n_nonzero c.if-n-event.true c.unescape.new.scratch c.unescape.result c.unescape.ensures

pub put_lines-requires : goal.put_lines-requires
put_lines-requires c = c.requires.fits.room
