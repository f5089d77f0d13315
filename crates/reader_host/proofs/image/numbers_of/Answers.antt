-- `image::numbers_of` meets its contract.
use Rattle.reader_host.specs.Image.{numbers_of}
use Rattle.reader_host.specs.Saving.{numbers_are}
use Rattle.reader_host.proofs.image.numbers_of.Goals as goal

pub returns : goal.returns
unfolding numbers_of
returns c = rw (c.from.ensures, c.from-2.ensures, c.from-3.ensures, c.from-4.ensures) (numbers_are _ _ _ _ _)
