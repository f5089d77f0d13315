-- `start_tag::reading::make_language` meets its contract: nothing is said, none is in force, or a tag is made.
use Rattle.start_tag.specs.Made.{language-unsaid, language_cleared, language_lowered}
use Rattle.start_tag.proofs.reading.make_language.Goals as goal

pub returns-then-k-j : goal.returns-then-k-j
returns-then-k-j c = language-unsaid c.args.scratch.now c.args.spans.now c.if-k-j.true

pub returns-then-value-eq0 : goal.returns-then-value-eq0
returns-then-value-eq0 c = language_cleared c.args.scratch.now c.args.spans.now c.if-k-j.false c.value_of-value.ensures c.if-value-eq0.true

pub shape_of-area : goal.shape_of-area
shape_of-area c = c.area-1.given

pub returns : goal.returns
returns c = language_lowered c.args.scratch.now c.args.spans.now c.requires c.if-k-j.false c.value_of-value.ensures c.if-value-eq0.false c.lowercase_into.ensures
