-- `resolve::target::merge` meets its contract: section 5.2.3, case by case.
use Rattle.resolve.specs.Parts.{ordered_of}
use Rattle.resolve.specs.Target.{leads_path, leads_bare, leads_authority, leads_nothing}
use native.Mathlib.Omega.{arith}
use Rattle.resolve.proofs.target.merge.Goals as goal

pub returns-then-b-authority : goal.returns-then-b-authority
returns-then-b-authority c = rw c.requires (leads_authority c.args.base.now (rw c.requires at c.if-path-authority.true) (rw c.requires at c.if-b-authority.true))

pub returns-then-path-authority : goal.returns-then-path-authority
returns-then-path-authority c = leads_nothing c.args.base.now (rw c.requires at c.if-path-authority.true) (rw c.requires at c.if-b-authority.false)

pub slice_bounds-through_last-end : goal.slice_bounds-through_last-end
slice_bounds-through_last-end c = omega (arith, ordered_of c.requires)

pub returns-then-n-eq0 : goal.returns-then-n-eq0
returns-then-n-eq0 c = leads_bare c.args.base.now (rw c.requires at c.if-path-authority.false) (rw c.requires at c.through_last-n.ensures) c.if-n-eq0.true

pub returns : goal.returns
returns c = rw c.requires (leads_path c.args.base.now (rw c.requires at c.if-path-authority.false) (rw c.requires at c.through_last-n.ensures) c.if-n-eq0.false)
