-- `literal::known` meets its contract: a law of each place where the namespace was found.
use Rattle.literal.specs.Known.{known_none, known_not, known_found}
use Rattle.start_names.specs.Found.{found_bytes}
use mathlib.Core.Path.{refl}
use Rattle.literal.proofs.known.Goals as goal

pub returns-then-prefix-eq0 : goal.returns-then-prefix-eq0
returns-then-prefix-eq0 c = known_none _ _ c.if-prefix-eq0.true

pub returns-in-Unknown : goal.returns-in-Unknown
returns-in-Unknown c = known_not _ _ c.if-prefix-eq0.false _ _ c.lookup-found.ensures c.in-Unknown.is

pub returns-in-Xml : goal.returns-in-Xml
unfolding found_bytes
returns-in-Xml c = known_found _ _ c.if-prefix-eq0.false _ _ c.lookup-found.ensures c.in-Xml.is refl

pub returns-in-Own : goal.returns-in-Own
unfolding found_bytes
returns-in-Own c = known_found _ _ c.if-prefix-eq0.false _ _ c.lookup-found.ensures c.in-Own.is refl

pub returns-in-Held : goal.returns-in-Held
unfolding found_bytes
returns-in-Held c = known_found _ _ c.if-prefix-eq0.false _ _ c.lookup-found.ensures c.in-Held.is refl
