-- `resolve::parts::parse` meets its contract: each end in turn is that of `parts_of`.
use Rattle.spec.specs.Bytes.{ascii}
use Rattle.resolve.specs.Parts.{parts_of, ordered, scheme-ends, authority_ends, path_ends, query-ends, parts_are}
use native.Mathlib.Omega.{arith}
use Rattle.resolve.proofs.parts.parse.Goals as goal

pub slice_bounds-marked-count : goal.slice_bounds-marked-count
slice_bounds-marked-count c = omega (arith, scheme-ends c.args.s.now _ c.scheme-scheme.ensures, ordered c.args.s.now)

pub slice_bounds-marked-start : goal.slice_bounds-marked-start
slice_bounds-marked-start c = omega (arith, scheme-ends c.args.s.now _ c.scheme-scheme.ensures, ordered c.args.s.now)

pub overflow_add-authority : goal.overflow_add-authority
unfolding ascii
overflow_add-authority c = omega (arith, (authority_ends c.args.s.now _ _ (scheme-ends c.args.s.now _ c.scheme-scheme.ensures) c.marked.ensures), ordered c.args.s.now)

pub slice_bounds-until-count : goal.slice_bounds-until-count
unfolding ascii
slice_bounds-until-count c = omega (arith, (authority_ends c.args.s.now _ _ (scheme-ends c.args.s.now _ c.scheme-scheme.ensures) c.marked.ensures), ordered c.args.s.now)

pub slice_bounds-until-start : goal.slice_bounds-until-start
unfolding ascii
slice_bounds-until-start c = omega (arith, (authority_ends c.args.s.now _ _ (scheme-ends c.args.s.now _ c.scheme-scheme.ensures) c.marked.ensures), ordered c.args.s.now)

pub overflow_add-path : goal.overflow_add-path
unfolding ascii
overflow_add-path c = omega (arith, (path_ends c.args.s.now _ _ (authority_ends c.args.s.now _ _ (scheme-ends c.args.s.now _ c.scheme-scheme.ensures) c.marked.ensures) c.until.ensures), ordered c.args.s.now)

pub slice_bounds-marked-count-2 : goal.slice_bounds-marked-count-2
unfolding ascii
slice_bounds-marked-count-2 c = omega (arith, (path_ends c.args.s.now _ _ (authority_ends c.args.s.now _ _ (scheme-ends c.args.s.now _ c.scheme-scheme.ensures) c.marked.ensures) c.until.ensures), ordered c.args.s.now)

pub slice_bounds-marked-start-2 : goal.slice_bounds-marked-start-2
unfolding ascii
slice_bounds-marked-start-2 c = omega (arith, (path_ends c.args.s.now _ _ (authority_ends c.args.s.now _ _ (scheme-ends c.args.s.now _ c.scheme-scheme.ensures) c.marked.ensures) c.until.ensures), ordered c.args.s.now)

pub overflow_add-query : goal.overflow_add-query
unfolding ascii
overflow_add-query c = omega (arith, (query-ends c.args.s.now _ _ (path_ends c.args.s.now _ _ (authority_ends c.args.s.now _ _ (scheme-ends c.args.s.now _ c.scheme-scheme.ensures) c.marked.ensures) c.until.ensures) c.marked-2.ensures), ordered c.args.s.now)

pub returns : goal.returns
unfolding ascii
returns c = parts_are (parts_of c.args.s.now) _ _ _ _ (scheme-ends c.args.s.now _ c.scheme-scheme.ensures) (authority_ends c.args.s.now _ _ (scheme-ends c.args.s.now _ c.scheme-scheme.ensures) c.marked.ensures) (path_ends c.args.s.now _ _ (authority_ends c.args.s.now _ _ (scheme-ends c.args.s.now _ c.scheme-scheme.ensures) c.marked.ensures) c.until.ensures) (query-ends c.args.s.now _ _ (path_ends c.args.s.now _ _ (authority_ends c.args.s.now _ _ (scheme-ends c.args.s.now _ c.scheme-scheme.ensures) c.marked.ensures) c.until.ensures) c.marked-2.ensures)
