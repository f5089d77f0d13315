-- `pyx::opening` meets its contract. A name, and the attributes behind it.
use native.Mathlib.Omega.{arith}
use Rattle.pyx.proofs.Events.{title_room, behind_title, opening_nameless, opening_wrong, opening_crowded, opening_good}
use Rattle.pyx.proofs.opening.Goals as goal

pub put_name-requires : goal.put_name-requires
put_name-requires c = title_room c.requires.fits c.requires.n_nonzero

pub put_attributes-requires : goal.put_attributes-requires
put_attributes-requires c = behind_title c.requires.fits c.requires.n_nonzero c.in-Some.ensures

pub returns-then-k-spans : goal.returns-then-k-spans
returns-then-k-spans c = let r = c.in-Some-put_attributes.ensures in opening_crowded c.requires.fits c.requires.n_nonzero c.in-Some.ensures _ _ r (omega (arith, r.words))

pub returns-in_default : goal.returns-in_default
returns-in_default c = opening_nameless c.requires.fits c.requires.n_nonzero _ c.in_default.ensures _

pub returns-in_default-put_attributes : goal.returns-in_default-put_attributes
returns-in_default-put_attributes c = opening_wrong c.requires.fits c.requires.n_nonzero c.in-Some.ensures _ _ c.in_default-put_attributes.ensures

pub returns : goal.returns
returns c = let r = c.in-Some-put_attributes.ensures in opening_good c.requires.fits c.requires.n_nonzero c.in-Some.ensures _ _ r (omega (arith, r.words))
