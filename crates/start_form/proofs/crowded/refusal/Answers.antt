-- `start_form::crowded::refusal` meets its contract: what is decoded anew is the start tag, and it has all words.
use mathlib.Core.Bool.{true, false}
use Rattle.start_form.specs.Crowd.{reread, ready, refuses}
use native.Mathlib.Omega.{arith}
use Rattle.start_form.proofs.crowded.refusal.Goals as goal

pub is_well_formed-requires : goal.is_well_formed-requires
is_well_formed-requires c = ready (reread c.requires (omega arith) c.decode-decoded.ensures c.count-k.ensures)

pub returns-then-is_well_formed : goal.returns-then-is_well_formed
returns-then-is_well_formed c = refuses (reread c.requires (omega arith) c.decode-decoded.ensures c.count-k.ensures) c.is_well_formed.ensures true c.if-is_well_formed.true

pub returns : goal.returns
returns c = refuses (reread c.requires (omega arith) c.decode-decoded.ensures c.count-k.ensures) c.is_well_formed.ensures false c.if-is_well_formed.false
