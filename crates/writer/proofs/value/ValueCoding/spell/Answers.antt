-- `Value::spell` meets its contract, key by key.
use mathlib.Core.Path.{sym}
use Rattle.spec.specs.Bytes.{ascii, byte, when◌then◌else◌}
use Rattle.spec.specs.XmlLiteral.{value_byte}
use Rattle.writer.specs.Words.{value_same}
use native.Mathlib.Omega.{arith}
use Rattle.writer.proofs.value.ValueCoding.spell.Goals as goal

pub returns-in-38 : goal.returns-in-38
unfolding value_byte when◌then◌else◌ ascii byte
returns-in-38 c = record { within = omega arith; is = rw c.in-38.is }

pub returns-in-60 : goal.returns-in-60
unfolding value_byte when◌then◌else◌ ascii byte
returns-in-60 c = record { within = omega arith; is = rw c.in-60.is }

pub returns-in-34 : goal.returns-in-34
unfolding value_byte when◌then◌else◌ ascii byte
returns-in-34 c = record { within = omega arith; is = rw c.in-34.is }

pub returns-in-9 : goal.returns-in-9
unfolding value_byte when◌then◌else◌ ascii byte
returns-in-9 c = record { within = omega arith; is = rw c.in-9.is }

pub returns-in-10 : goal.returns-in-10
unfolding value_byte when◌then◌else◌ ascii byte
returns-in-10 c = record { within = omega arith; is = rw c.in-10.is }

pub returns-in-13 : goal.returns-in-13
unfolding value_byte when◌then◌else◌ ascii byte
returns-in-13 c = record { within = omega arith; is = rw c.in-13.is }

pub returns-in_default : goal.returns-in_default
returns-in_default c = let r = c.in_default.in_default-own.rest in record { within = omega arith; is = sym (value_same r.0.0.0.0.0.1 r.0.0.0.0.1 r.0.0.0.1 r.0.0.1 r.0.1 r.1) }
