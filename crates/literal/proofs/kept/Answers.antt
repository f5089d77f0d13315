-- `literal::kept` meets its contract: the frame on top tells.
use Rattle.state_words.specs.declared.Kind.TheVariants.{ParseTypeLiteralPropertyElt}
use Rattle.state_stack.specs.Calls.{is_kind}
use Rattle.literal.specs.Added.{kept_all, kept_none}
use Rattle.literal.proofs.kept.Goals as goal

pub returns-then-eq : goal.returns-then-eq
returns-then-eq c = kept_all c.args.r _ _ (rw c.top-f.ensures at (is_kind _ ParseTypeLiteralPropertyElt c.eq.ensures c.if-eq.true))

pub returns-else-eq : goal.returns-else-eq
returns-else-eq c = kept_none c.args.r _ _ (rw c.top-f.ensures at (is_kind _ ParseTypeLiteralPropertyElt c.eq.ensures c.if-eq.false))
