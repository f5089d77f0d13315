-- `pyx::put_attribute` meets its contract. A name up to the first space, and a value behind it.
use Prim.Native.Nat.{◌+◌}
use mathlib.Core.Path.{refl}
use native.Mathlib.Omega.{arith}
use lib.ListN.{length-drop}
use Rattle.copy.specs.Copy.{rest_of, part_of}
use Rattle.pyx.proofs.Attributes.{read_empty, read_no_space, read_end, read_name-room, read_nameless, read_valueless, read_both}
use Rattle.pyx.proofs.Lines.{positive, kept_all}
use Rattle.pyx.proofs.put_attribute.Goals as goal

pub returns-then-line-eq0 : goal.returns-then-line-eq0
returns-then-line-eq0 c = (read_empty _ c.if-line-eq0.true, kept_all)

pub overflow_add-end : goal.overflow_add-end
overflow_add-end c = omega (arith, read_end c.args.line.now (positive c.if-line-eq0.false) (rw rest_of at c.find-n.ensures))

pub returns-then-end-line : goal.returns-then-end-line
returns-then-end-line c = (read_no_space c.args.line.now (positive c.if-line-eq0.false) c.requires.line_value (rw rest_of at c.find-n.ensures) (omega arith), kept_all)

pub slice_bounds-put_name-end : goal.slice_bounds-put_name-end
slice_bounds-put_name-end c = omega (arith, read_end c.args.line.now (positive c.if-line-eq0.false) (rw rest_of at c.find-n.ensures))

pub put_name-requires : goal.put_name-requires
put_name-requires c = rw part_of (read_name-room c.args.line.now (positive c.if-line-eq0.false) (rw rest_of at c.find-n.ensures) c.args.at c.args.scratch.now c.requires.line_in_bounds)

pub overflow_add-value : goal.overflow_add-value
overflow_add-value c = omega (arith, read_end c.args.line.now (positive c.if-line-eq0.false) (rw rest_of at c.find-n.ensures))

pub slice_bounds-unescape-count : goal.slice_bounds-unescape-count
slice_bounds-unescape-count c = omega (arith, read_end c.args.line.now (positive c.if-line-eq0.false) (rw rest_of at c.find-n.ensures))

pub slice_bounds-unescape-start : goal.slice_bounds-unescape-start
slice_bounds-unescape-start c = omega (arith, read_end c.args.line.now (positive c.if-line-eq0.false) (rw rest_of at c.find-n.ensures))

pub slice_bounds-unescape-end : goal.slice_bounds-unescape-end
slice_bounds-unescape-end c = omega (arith, read_end c.args.line.now (positive c.if-line-eq0.false) (rw rest_of at c.find-n.ensures))

pub overflow_add-at : goal.overflow_add-at
overflow_add-at c = omega (arith, read_end c.args.line.now (positive c.if-line-eq0.false) (rw rest_of at c.find-n.ensures), c.requires.line_in_bounds)

pub unescape-requires : goal.unescape-requires
unescape-requires c = rw rest_of (omega (arith, length-drop (c.find-n.result + 2) c.args.line.now, read_end c.args.line.now (positive c.if-line-eq0.false) (rw rest_of at c.find-n.ensures), c.requires.line_in_bounds))

pub overflow_add-result : goal.overflow_add-result
overflow_add-result c = omega (arith, read_end c.args.line.now (positive c.if-line-eq0.false) (rw rest_of at c.find-n.ensures), c.requires.line_in_bounds)

pub overflow_sub-result : goal.overflow_sub-result
overflow_sub-result c = let p = (rw rest_of at c.in_ok-to.ensures) in omega (arith, p.wrote.up)

pub returns-in_err-colon : goal.returns-in_err-colon
returns-in_err-colon c = rw c.from_residual.ensures (read_nameless c.args.line.now (positive c.if-line-eq0.false) (rw rest_of at c.find-n.ensures) c.requires.line_value _ _ c.args.at (rw part_of at c.in_err-colon.ensures))

pub returns-in_err-to : goal.returns-in_err-to
returns-in_err-to c = rw c.from_residual-in_err-to.ensures (read_valueless c.args.line.now (positive c.if-line-eq0.false) (rw rest_of at c.find-n.ensures) c.requires.line_value _ _ c.args.at (omega (arith, read_end c.args.line.now (positive c.if-line-eq0.false) (rw rest_of at c.find-n.ensures))) (rw part_of at c.in_ok-colon.ensures) (rw rest_of at c.in_err-to.ensures))

pub returns : goal.returns
returns c = (refl, read_both c.args.line.now (positive c.if-line-eq0.false) (rw rest_of at c.find-n.ensures) c.requires.line_value _ _ c.args.at (omega (arith, read_end c.args.line.now (positive c.if-line-eq0.false) (rw rest_of at c.find-n.ensures))) (rw part_of at c.in_ok-colon.ensures) (rw rest_of at c.in_ok-to.ensures))
