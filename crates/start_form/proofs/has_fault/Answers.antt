-- `start_form::has_fault` meets its contract.
use Rattle.start_form.specs.Form.{fault_none, fault_illegal, fault_alone, fault_twice}
use Rattle.start_form.proofs.has_fault.Goals as goal

pub returns-then-k-eq0 : goal.returns-then-k-eq0
returns-then-k-eq0 c = fault_none c.if-k-eq0.true

pub returns-then-not-all_legal : goal.returns-then-not-all_legal
returns-then-not-all_legal c = fault_illegal c.all_legal.ensures c.if-not-all_legal.true

pub returns-then-k-eq1 : goal.returns-then-k-eq1
returns-then-k-eq1 c =
    fault_alone c.all_legal.ensures
    c.if-not-all_legal.false c.classify.ensures
    c.requires.0
    c.requires.1
    c.if-k-eq1.true

pub returns : goal.returns
returns c =
    fault_twice c.all_legal.ensures
    c.if-not-all_legal.false
    c.classify.ensures
    c.requires.0
    c.requires.1
    c.repeated_expanded.ensures
