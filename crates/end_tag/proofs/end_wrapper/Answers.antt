-- `end_tag::end_wrapper` meets its contract. Whether it has had its rdf:RDF decides.
use mathlib.Core.Path.{ap, ◌∙◌}
use Rattle.state_words.specs.declared.Kind.TheVariants.{Wrapper}
use Rattle.state.specs.Meaning.{count}
use Rattle.end_tag.specs.Kinds.{wrapper-empty, wrapper_silent}
use Rattle.end_tag.proofs.end_wrapper.Goals as goal

pub returns-then-has-eq0 : goal.returns-then-has-eq0
returns-then-has-eq0 c = λ w out. wrapper-empty c.top-f.ensures c.if-has-eq0.true

pub returns : goal.returns
returns c = λ w out. c.end_silent.ensures Wrapper w out (wrapper_silent _ (λ z. c.if-has-eq0.false (ap count c.top-f.ensures ∙ z)))
