-- `start_names::is_key` meets its contract. Where the classes are one, the names tell; else the texts do, if the kinds are the same.
use Rattle.spec.specs.Bytes.{ascii}
use Rattle.spec.specs.Namespaces.{xml_name}
use Rattle.start_names.specs.Classes.{key_behind, key_other, key_texts}
use Rattle.start_names.proofs.is_key.Goals as goal

pub returns-then-same : goal.returns-then-same
returns-then-same c = key_behind c.requires _ (c.same.ensures c.if-same.true) c.tail_of.ensures c.equal.ensures

pub returns-then-kind : goal.returns-then-kind
returns-then-kind c = key_other c.requires _ c.load-other.ensures c.kind.ensures c.kind-2.ensures c.if-kind.true

pub returns : goal.returns
unfolding xml_name ascii
returns c = key_texts c.requires _ c.load-other.ensures c.kind.ensures c.kind-2.ensures c.if-kind.false c.space_of-other_space.ensures c.tail_of-2.ensures c.same_joined.ensures
