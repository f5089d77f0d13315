-- `start_form::crowded::repeats_written` meets its contract. Among many, classes of zeros have the names compared as written.
use mathlib.Core.Path.{◌∙◌}
use Rattle.start_names.specs.Repeats.{written_means}
use Rattle.start_form.specs.Marks.{zero_pairs}
use native.Mathlib.Omega.{arith}
use Rattle.start_form.proofs.crowded.repeats_written.Goals as goal

pub returns : goal.returns
returns c = c.repeated.ensures ∙ (zero_pairs c.args.scratch.now c.args.spans.now _ 24_576 c.args.k (omega (arith, c.requires)) 0 c.args.k (omega arith) ∙ written_means c.args.scratch.now c.args.spans.now c.args.k)
