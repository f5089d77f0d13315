-- `start_form::marks::repeated_behind` meets its contract.
use mathlib.Core.Path.{sym, ◌∙◌}
use Rattle.spec.specs.Bytes.{ascii}
use Rattle.spec.specs.Namespaces.{xml_name}
use Rattle.start_names.specs.Pairs.{alone_begins, alone_hit, alone_more, alone_done}
use Rattle.start_form.specs.Marks.{alone_next}
use native.Mathlib.Omega.{arith}
use Rattle.start_form.proofs.marks.repeated_behind.Goals as goal

pub next_alike-i-requires : goal.next_alike-i-requires
next_alike-i-requires c = (c.requires.1, omega (arith, c.requires.1), c.requires.0.room)

pub loop-i-init : goal.loop-i-init
loop-i-init c = alone_next c.requires.0 c.requires.1 alone_begins (omega (arith, c.requires.1)) c.next_alike-i.ensures

pub is_key-requires : goal.is_key-requires
unfolding xml_name ascii
is_key-requires c = record { class = c.load-class.ensures; space = c.space_of-space.ensures; name = c.tail_of-name.ensures }

pub returns-then-is_key : goal.returns-then-is_key
returns-then-is_key c = alone_hit c.loop-i.invariant (omega arith) (sym c.is_key.ensures ∙ c.if-is_key.true)

pub next_alike-i-requires-in-loop-i : goal.next_alike-i-requires-in-loop-i
next_alike-i-requires-in-loop-i c = (c.requires.1, omega arith, c.requires.0.room)

pub loop-i-smaller : goal.loop-i-smaller
loop-i-smaller c = omega (arith, c.next_alike-i-in-loop-i.ensures.over)

pub loop-i-preserved : goal.loop-i-preserved
loop-i-preserved c = alone_next c.requires.0 c.requires.1 (alone_more c.loop-i.invariant (omega arith) (sym c.is_key.ensures ∙ c.if-is_key.false)) (omega arith) c.next_alike-i-in-loop-i.ensures

pub returns : goal.returns
returns c = alone_done c.loop-i.invariant (omega arith)
