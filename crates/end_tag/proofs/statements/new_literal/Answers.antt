-- `end_tag::statements::new_literal` meets its contract. Datatype beats language.
use Rattle.end_tag.specs.Object.{literal-typed, literal_tagged, literal-plain}
use native.Mathlib.Omega.{arith}
use Rattle.end_tag.proofs.statements.new_literal.Goals as goal

pub returns-then-datatype-ne0 : goal.returns-then-datatype-ne0
returns-then-datatype-ne0 c = literal-typed _ c.if-datatype-ne0.true

pub returns-then-tag-eq0 : goal.returns-then-tag-eq0
returns-then-tag-eq0 c = literal-plain _ (omega arith) c.if-tag-eq0.true

pub returns : goal.returns
returns c = literal_tagged _ (omega arith) c.if-tag-eq0.false
