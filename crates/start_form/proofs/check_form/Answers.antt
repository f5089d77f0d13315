-- `start_form::check_form` meets its contract.
use Rattle.start_form.specs.Form.{form_second, form_fault, form_deep, form_bound, form_good}
use native.Mathlib.Omega.{arith}
use Rattle.start_form.proofs.check_form.Goals as goal

pub returns-then-is_second_root : goal.returns-then-is_second_root
returns-then-is_second_root c =
    form_second c.requires
    c.is_second_root.ensures c.if-is_second_root.true

pub has_fault-requires : goal.has_fault-requires
has_fault-requires c = (
  c.requires.tag.few,
  c.requires.words,
)

pub returns-then-has_fault : goal.returns-then-has_fault
returns-then-has_fault c =
    form_fault
    c.requires
    c.is_second_root.ensures
    c.if-is_second_root.false c.has_fault.ensures
    c.if-has_fault.true

pub returns-then-r-ge-MOST : goal.returns-then-r-ge-MOST
returns-then-r-ge-MOST c =
    form_deep
    c.requires
    c.is_second_root.ensures
    c.if-is_second_root.false
    c.has_fault.ensures c.if-has_fault.false (omega arith)

pub returns-then-r-gt-MOST_BINDINGS : goal.returns-then-r-gt-MOST_BINDINGS
returns-then-r-gt-MOST_BINDINGS c =
    form_bound
    c.requires
    c.is_second_root.ensures
    c.if-is_second_root.false
    c.has_fault.ensures
    c.if-has_fault.false (omega arith) c.count_declared-n.ensures
    (omega arith)

pub returns-then-n-r : goal.returns-then-n-r
returns-then-n-r c =
    form_bound
    c.requires
    c.is_second_root.ensures
    c.if-is_second_root.false
    c.has_fault.ensures
    c.if-has_fault.false (omega arith)
    c.count_declared-n.ensures (omega arith)

pub returns : goal.returns
returns c =
    form_good
    c.requires
    c.is_second_root.ensures
    c.if-is_second_root.false
    c.has_fault.ensures
    c.if-has_fault.false (omega arith)
    c.count_declared-n.ensures (omega arith)
