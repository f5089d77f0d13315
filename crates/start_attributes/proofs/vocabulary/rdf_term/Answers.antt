-- `vocabulary::rdf_term` meets its contract: by where the expanded name is split, before the namespace's end or behind it.
use mathlib.Core.Path.{refl, sym, ◌∙◌}
use Rattle.spec.specs.Rdf.{rdf}
use Rattle.spec.specs.Bytes.{ascii}
use Rattle.copy.specs.Copy.{rest_of}
use Rattle.start_attributes.specs.Vocabulary.{rdf_space, whole-outside, whole-inside}
use native.Mathlib.Omega.{arith}
use Rattle.start_attributes.proofs.vocabulary.rdf_term.Goals as goal

pub term_across-requires : goal.term_across-requires
unfolding rdf_space rdf ascii
term_across-requires c = (refl, omega arith)

pub returns-then-not-equal : goal.returns-then-not-equal
unfolding rdf_space rdf ascii
returns-then-not-equal c = whole-outside c.args.space.now c.args.local.now rdf_space refl (omega arith) (sym c.equal.ensures ∙ c.if-not-equal.true)

pub returns : goal.returns
unfolding rdf_space rdf ascii
returns c = rw rest_of at c.local_term.ensures ∙ whole-inside c.args.space.now c.args.local.now rdf_space refl (omega arith) (sym c.equal.ensures ∙ c.if-not-equal.false)
