-- `start_names::key_behind` meets its contract.
use mathlib.Core.Path.{sym, ◌∙◌}
use Rattle.spec.specs.Bytes.{ascii}
use Rattle.spec.specs.Namespaces.{xml_name}
use Rattle.start_names.specs.Pairs.{alone_begins, alone_hit, alone_more, alone_done, none_behind}
use native.Mathlib.Omega.{arith}
use Rattle.start_names.proofs.key_behind.Goals as goal

pub returns-then-k-j : goal.returns-then-k-j
returns-then-k-j c = none_behind _ _ _ (omega arith)

pub returns-then-k-first : goal.returns-then-k-first
returns-then-k-first c = alone_done alone_begins (omega arith)

pub loop-i-init : goal.loop-i-init
loop-i-init c = alone_begins

pub is_key-requires : goal.is_key-requires
unfolding xml_name ascii
is_key-requires c = record { class = c.load-class.ensures; space = c.space_of-space.ensures; name = c.tail_of-name.ensures }

pub returns-then-is_key : goal.returns-then-is_key
returns-then-is_key c = alone_hit c.loop-i.invariant (omega arith) (sym c.is_key.ensures ∙ c.if-is_key.true)

pub loop-i-preserved : goal.loop-i-preserved
loop-i-preserved c = alone_more c.loop-i.invariant (omega arith) (sym c.is_key.ensures ∙ c.if-is_key.false)

pub returns : goal.returns
returns c = alone_done c.loop-i.invariant (omega arith)
