-- `start_names::prefix_at` meets its contract.
use Rattle.start_names.specs.Found.{prefix_read, row_start}
use mathlib.Core.Path.{◌∙◌}
use Rattle.start_names.proofs.prefix_at.Goals as goal

pub returns-then-i-bindings : goal.returns-then-i-bindings
returns-then-i-bindings c = c.stretch.ensures ∙ prefix_read _ _ (row_start c.args.bindings.now c.args.i c.wide.ensures.0) c.wide-then-i-bindings.ensures.0 _

pub returns : goal.returns
returns c = c.piece.ensures ∙ prefix_read _ _ c.row_word.ensures.is c.row_word-2.ensures.is _
