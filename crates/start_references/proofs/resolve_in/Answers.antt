-- `start_references::resolve_in` meets its contract.
use Rattle.start_references.specs.Reference.{text_if}
use Rattle.start_references.specs.Values.{some-value}
use Rattle.start_references.specs.References.{no_value, value_as}
use native.Mathlib.Omega.{arith}
use Rattle.start_references.proofs.resolve_in.Goals as goal

pub returns-then-k-j : goal.returns-then-k-j
returns-then-k-j c = no_value (text_if c.args.base) c.args.scratch.now c.args.spans.now c.args.k c.first_in-j.ensures c.if-k-j.true

pub resolved-requires : goal.resolved-requires
resolved-requires c = record { room = c.requires.room }

pub shape_of-area : goal.shape_of-area
shape_of-area c = c.area-1.given

pub returns : goal.returns
returns c = value_as (text_if c.args.base) (some-value c.args.scratch.now c.args.spans.now c.args.k c.first_in-j.ensures (omega arith) c.value_of-value.ensures) c.resolved.ensures
