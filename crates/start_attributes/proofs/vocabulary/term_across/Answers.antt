-- `vocabulary::term_across` meets its contract, test by test.
use mathlib.Core.Path.{sym, ◌∙◌}
use Rattle.copy.specs.Copy.{rest_of}
use Rattle.start_attributes.specs.Vocabulary.{cut-outside, cut-other, cut_inside, cut-room}
use native.Mathlib.Omega.{arith}
use Rattle.start_attributes.proofs.vocabulary.term_across.Goals as goal

pub returns-then-not-begins : goal.returns-then-not-begins
returns-then-not-begins c = cut-outside c.args.space.now c.args.local.now c.args.rdf.now c.requires.0 c.requires.1 (sym (rw rest_of at c.begins.ensures) ∙ c.if-not-begins.true)

pub returns-then-not-equal : goal.returns-then-not-equal
returns-then-not-equal c = cut-other _ _ _ c.requires.0 c.requires.1 (sym c.equal.ensures ∙ c.if-not-equal.true)

pub slice_bounds-local_term-count : goal.slice_bounds-local_term-count
slice_bounds-local_term-count c = omega (arith, cut-room c.args.space.now c.args.local.now c.args.rdf.now (sym (rw rest_of at c.begins.ensures) ∙ c.if-not-begins.false))

pub slice_bounds-local_term-start : goal.slice_bounds-local_term-start
slice_bounds-local_term-start c = omega (arith, cut-room c.args.space.now c.args.local.now c.args.rdf.now (sym (rw rest_of at c.begins.ensures) ∙ c.if-not-begins.false))

pub returns : goal.returns
returns c = rw rest_of at c.local_term.ensures ∙ cut_inside _ _ _ c.requires.0 c.requires.1 (sym (rw rest_of at c.begins.ensures) ∙ c.if-not-begins.false) (sym c.equal.ensures ∙ c.if-not-equal.false)
