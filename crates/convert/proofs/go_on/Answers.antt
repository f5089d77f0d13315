-- `convert::go_on` meets its contract, by whether the print took all of the lines.
use Rattle.convert.specs.Turning.{follows-room, print-cut, print-whole}
use Rattle.convert.proofs.go_on.Goals as goal

pub returns-then-not-whole : goal.returns-then-not-whole
returns-then-not-whole g c = print-cut c.is_whole-whole.ensures c.taken-taken.ensures c.if-not-whole.true

pub behind-requires : goal.behind-requires
behind-requires g c = rw c.taken-taken.ensures c.requires.sums

pub follow-requires : goal.follow-requires
follow-requires g c = rw (c.behind.ensures, c.taken-taken.ensures) c.requires.paused

pub shape_of-input : goal.shape_of-input
shape_of-input g c = follows-room c.follow.ensures

pub returns : goal.returns
returns g c = print-whole c.is_whole-whole.ensures c.taken-taken.ensures c.if-not-whole.false c.behind.ensures c.follow.ensures
