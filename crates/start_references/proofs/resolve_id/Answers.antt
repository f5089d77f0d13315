-- `start_references::resolve_id` meets its contract.
use mathlib.Core.Path.{ap}
use lib.ListN.{length}
use Rattle.start_references.specs.Reference.{text_if}
use Rattle.start_references.specs.Values.{value-most, some-value}
use Rattle.start_references.specs.References.{no_own_id, id_as}
use native.Mathlib.Omega.{arith}
use Rattle.start_references.proofs.resolve_id.Goals as goal

pub returns-then-k-j : goal.returns-then-k-j
returns-then-k-j c = no_own_id (text_if c.args.base) c.args.scratch.now c.args.spans.now c.args.k c.first_in-j.ensures c.if-k-j.true

pub resolved_id-requires : goal.resolved_id-requires
resolved_id-requires c = record { from = omega (arith, ap length c.value_of-value.ensures, value-most c.args.scratch.now c.args.spans.now c.first_in-j.result, c.requires.event); room = c.requires.room }

pub returns : goal.returns
returns c = id_as (text_if c.args.base) (some-value c.args.scratch.now c.args.spans.now c.args.k c.first_in-j.ensures (omega arith) c.value_of-value.ensures) c.resolved_id.ensures
