-- `resolve::has_form` meets its contract.
use Rattle.spec.specs.Bytes.{ascii}
use Rattle.resolve.specs.Resolve.{formed_authority, formed_slash, formed-other}
use Rattle.resolve.proofs.has_form.Goals as goal

pub returns-then-authority : goal.returns-then-authority
returns-then-authority c = formed_authority c.args.path.now c.args.beyond c.if-authority.true

pub returns-then-beyond-equal : goal.returns-then-beyond-equal
unfolding ascii
returns-then-beyond-equal c = formed_slash c.args.path.now c.args.beyond c.if-authority.false c.equal.ensures c.if-beyond-equal.true

pub returns : goal.returns
unfolding ascii
returns c = formed-other c.args.path.now c.args.beyond c.if-authority.false c.equal.ensures c.if-beyond-equal.false c.begins.ensures
