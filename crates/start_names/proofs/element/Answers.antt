-- `start_names::element` meets its contract. By what `lookup` answers.
use mathlib.Core.Path.{refl, ap, ◌∙◌}
use Rattle.spec.specs.Bytes.{ascii}
use Rattle.spec.specs.Namespaces.{xml_name, namespace}
use Rattle.start_names.specs.Found.{found_bytes, names_none, names-some, names_full, names-empty}
use Rattle.start_names.proofs.element.Goals as goal

pub returns-then-piece-eq0 : goal.returns-then-piece-eq0
unfolding found_bytes
returns-then-piece-eq0 c = names-empty (c.lookup-found.ensures ∙ ap (namespace _) c.front_of.ensures) c.in-Own.is refl c.piece.ensures c.if-piece-eq0.true

pub returns-then-piece-eq0-2 : goal.returns-then-piece-eq0-2
unfolding found_bytes
returns-then-piece-eq0-2 c = names-empty (c.lookup-found.ensures ∙ ap (namespace _) c.front_of.ensures) c.in-Held.is refl c.piece-in-Held.ensures c.if-piece-eq0-2.true

pub returns-in-Unknown : goal.returns-in-Unknown
returns-in-Unknown c = names_none (c.lookup-found.ensures ∙ ap (namespace _) c.front_of.ensures) c.in-Unknown.is

pub returns-in-Xml : goal.returns-in-Xml
unfolding found_bytes xml_name ascii
returns-in-Xml c = names-some (c.lookup-found.ensures ∙ ap (namespace _) c.front_of.ensures) c.in-Xml.is refl

pub returns-else-piece-eq0 : goal.returns-else-piece-eq0
unfolding found_bytes
returns-else-piece-eq0 c = names_full (c.lookup-found.ensures ∙ ap (namespace _) c.front_of.ensures) c.in-Own.is refl c.piece.ensures c.if-piece-eq0.false

pub returns-else-piece-eq0-2 : goal.returns-else-piece-eq0-2
unfolding found_bytes
returns-else-piece-eq0-2 c = names_full (c.lookup-found.ensures ∙ ap (namespace _) c.front_of.ensures) c.in-Held.is refl c.piece-in-Held.ensures c.if-piece-eq0-2.false
