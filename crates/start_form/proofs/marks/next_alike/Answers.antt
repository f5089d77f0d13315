-- `start_form::marks::next_alike` meets its contract.
use Rattle.start_form.specs.Marks.{next_begins, next_block, next_more}
use native.Mathlib.Omega.{arith}
use Rattle.start_form.proofs.marks.next_alike.Goals as goal

pub loop-i-init : goal.loop-i-init
loop-i-init c = next_begins c.requires.1

pub bounds-near-j : goal.bounds-near-j
bounds-near-j c = omega (arith, c.requires.0, c.requires.2.near)

pub is_clear-requires : goal.is_clear-requires
is_clear-requires c = (omega (arith, c.loop-i.invariant.upto), c.requires.2.near)

pub overflow_add-i : goal.overflow_add-i
overflow_add-i c = omega (arith, c.is_clear.ensures.fits c.if-is_clear.true)

pub loop-i-preserved-then-is_clear : goal.loop-i-preserved-then-is_clear
loop-i-preserved-then-is_clear c = next_block c.loop-i.invariant c.is_clear.ensures c.if-is_clear.true

pub bounds-near-i : goal.bounds-near-i
bounds-near-i c = omega (arith, c.requires.2.near)

pub bounds-near-j-in-loop-i : goal.bounds-near-j-in-loop-i
bounds-near-j-in-loop-i c = omega (arith, c.requires.0, c.requires.2.near)

pub bounds-far-i : goal.bounds-far-i
bounds-far-i c = omega (arith, c.requires.2.far)

pub bounds-far-j : goal.bounds-far-j
bounds-far-j c = omega (arith, c.requires.0, c.requires.2.far)

pub returns-then-near-i : goal.returns-then-near-i
returns-then-near-i c = c.loop-i.invariant

pub loop-i-preserved : goal.loop-i-preserved
loop-i-preserved c = next_more c.loop-i.invariant (omega arith) c.if-near-i.false

pub returns : goal.returns
returns c = c.loop-i.invariant
