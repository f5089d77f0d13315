-- `start_form::crowded::is_well_formed` meets its contract: a law for each return.
use Rattle.start_form.specs.CrowdedForm.{forms_second, forms_illegal, forms_repeats}
use Rattle.start_form.proofs.crowded.is_well_formed.Goals as goal

pub returns-then-is_second_root : goal.returns-then-is_second_root
returns-then-is_second_root c = forms_second _ _ _ c.is_second_root.ensures c.if-is_second_root.true

pub returns-then-not-all_legal : goal.returns-then-not-all_legal
returns-then-not-all_legal c = forms_illegal _ _ _ c.is_second_root.ensures c.if-is_second_root.false c.all_legal.ensures c.if-not-all_legal.true

pub returns : goal.returns
returns c = forms_repeats _ _ _ c.is_second_root.ensures c.if-is_second_root.false c.all_legal.ensures c.if-not-all_legal.false c.repeats.ensures
