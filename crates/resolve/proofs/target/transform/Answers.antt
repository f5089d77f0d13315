-- `resolve::target::transform` meets its contract: section 5.2.2, case by case.
use Rattle.resolve.specs.Parts.{ordered, ordered_of, fragment_at}
use Rattle.resolve.specs.Target.{aimed_scheme, aimed_authority, aimed_query, aimed_fragment, aimed_absolute, aimed_merged}
use native.Mathlib.Omega.{arith}
use Rattle.resolve.proofs.target.transform.Goals as goal

pub returns-then-r-gt0 : goal.returns-then-r-gt0
returns-then-r-gt0 c = rw c.parse-r.ensures (aimed_scheme c.args.base.now c.args.reference.now (rw c.parse-r.ensures at c.if-r-gt0.true))

pub returns-then-r-eq0 : goal.returns-then-r-eq0
returns-then-r-eq0 c = rw (fragment_at c.args.base.now _ c.find-front.ensures) (aimed_fragment c.args.base.now c.args.reference.now (omega (arith, rw c.parse-r.ensures at c.if-r-eq0.true, ordered c.args.reference.now)) (omega (arith, rw c.parse-r.ensures at c.if-r-eq0.true)))

pub returns-then-r-gt0-2 : goal.returns-then-r-gt0-2
returns-then-r-gt0-2 c = rw (c.parse-b.ensures, c.parse-r.ensures) (aimed_authority c.args.base.now c.args.reference.now (rw c.parse-r.ensures at c.if-r-gt0.false) (rw c.parse-r.ensures at c.if-r-gt0-2.true))

pub returns-then-r-eq0-2 : goal.returns-then-r-eq0-2
returns-then-r-eq0-2 c = rw c.parse-b.ensures (aimed_query c.args.base.now c.args.reference.now (omega (arith, rw c.parse-r.ensures at c.if-r-eq0-2.true)) (omega (arith, rw c.parse-r.ensures at c.if-r-eq0.false)))

pub bounds-reference-0 : goal.bounds-reference-0
bounds-reference-0 c = omega (arith, ordered_of c.parse-r.ensures)

pub returns-then-reference-eq47 : goal.returns-then-reference-eq47
returns-then-reference-eq47 c = rw (c.parse-b.ensures, c.parse-r.ensures) (aimed_absolute c.args.base.now c.args.reference.now (record { authority = (rw c.parse-r.ensures at c.if-r-gt0-2.false); path = omega (arith, rw c.parse-r.ensures at c.if-r-eq0-2.false) }) c.if-reference-eq47.true)

pub merge-requires : goal.merge-requires
merge-requires c = c.parse-b.ensures

pub returns : goal.returns
returns c = rw (c.parse-b.ensures, c.parse-r.ensures) (aimed_merged c.args.base.now c.args.reference.now (record { authority = (rw c.parse-r.ensures at c.if-r-gt0-2.false); path = omega (arith, rw c.parse-r.ensures at c.if-r-eq0-2.false) }) c.if-reference-eq47.false c.merge.ensures)
