-- `Content::spell` meets its contract, key by key.
use mathlib.Core.Path.{sym}
use Rattle.spec.specs.Bytes.{ascii, byte, when◌then◌else◌}
use Rattle.spec.specs.XmlLiteral.{text_byte}
use Rattle.writer.specs.Words.{text_same}
use native.Mathlib.Omega.{arith}
use Rattle.writer.proofs.content.ContentCoding.spell.Goals as goal

pub returns-in-38 : goal.returns-in-38
unfolding text_byte when◌then◌else◌ ascii byte
returns-in-38 c = record { within = omega arith; is = rw c.in-38.is }

pub returns-in-60 : goal.returns-in-60
unfolding text_byte when◌then◌else◌ ascii byte
returns-in-60 c = record { within = omega arith; is = rw c.in-60.is }

pub returns-in-62 : goal.returns-in-62
unfolding text_byte when◌then◌else◌ ascii byte
returns-in-62 c = record { within = omega arith; is = rw c.in-62.is }

pub returns-in-34 : goal.returns-in-34
unfolding text_byte when◌then◌else◌ ascii byte
returns-in-34 c = record { within = omega arith; is = rw c.in-34.is }

pub returns-in-39 : goal.returns-in-39
unfolding text_byte when◌then◌else◌ ascii byte
returns-in-39 c = record { within = omega arith; is = rw c.in-39.is }

pub returns-in_default : goal.returns-in_default
returns-in_default c = let r = c.in_default.in_default-own.rest in record { within = omega arith; is = sym (text_same r.0.0.0.0.1 r.0.0.0.1 r.0.0.1 r.0.1 r.1) }
