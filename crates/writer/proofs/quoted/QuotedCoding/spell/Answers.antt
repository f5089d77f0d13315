-- `Quoted::spell` meets its contract, key by key.
use mathlib.Core.Path.{sym}
use Rattle.spec.specs.Bytes.{ascii, byte, when◌then◌else◌}
use Rattle.spec.specs.NTriples.{literal_byte}
use Rattle.writer.specs.Words.{literal-same}
use native.Mathlib.Omega.{arith}
use Rattle.writer.proofs.quoted.QuotedCoding.spell.Goals as goal

pub returns-in-34 : goal.returns-in-34
unfolding literal_byte when◌then◌else◌ ascii byte
returns-in-34 c = record { within = omega arith; is = rw c.in-34.is }

pub returns-in-92 : goal.returns-in-92
unfolding literal_byte when◌then◌else◌ ascii byte
returns-in-92 c = record { within = omega arith; is = rw c.in-92.is }

pub returns-in-10 : goal.returns-in-10
unfolding literal_byte when◌then◌else◌ ascii byte
returns-in-10 c = record { within = omega arith; is = rw c.in-10.is }

pub returns-in-13 : goal.returns-in-13
unfolding literal_byte when◌then◌else◌ ascii byte
returns-in-13 c = record { within = omega arith; is = rw c.in-13.is }

pub returns-in_default : goal.returns-in_default
returns-in_default c = let r = c.in_default.in_default-own.rest in record { within = omega arith; is = sym (literal-same r.0.0.0.1 r.0.0.1 r.0.1 r.1) }
