-- `start_attributes::read_attributes` meets its contract.
use Rattle.start_attributes.specs.Reads.{reading_begins, reading_more, reading_stops, reading_done}
use Rattle.std.proofs.Common.{Err, arith, ◌≡◌}
use Rattle.start_attributes.proofs.read_attributes.Goals as goal

pub loop-j-init : goal.loop-j-init
loop-j-init c = reading_begins c.requires

pub read_attribute-requires : goal.read_attribute-requires
read_attribute-requires c = omega arith

pub loop-j-preserved : goal.loop-j-preserved
loop-j-preserved c = reading_more c.loop-j.invariant (omega arith) c.read_attribute.ensures c.in_ok-read_attribute.was

pub returns-in_err-read_attribute : goal.returns-in_err-read_attribute
returns-in_err-read_attribute c =
    let up : c.from_residual.result ≡ Err c.in_err-read_attribute.field-0.0 = grind arith in
    rw up (reading_stops c.loop-j.invariant (omega arith) c.read_attribute.ensures _ c.in_err-read_attribute.was)

pub returns : goal.returns
returns c = reading_done c.loop-j.invariant (omega arith)
