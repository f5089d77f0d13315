-- `vocabulary::local_term` meets its contract, by the length.
use mathlib.Core.Path.{refl, ◌∙◌}
use native.Mathlib.Omega.{arith}
use Rattle.spec.specs.Bytes.{ascii, when◌then◌else◌}
use Rattle.start_attributes.specs.Vocabulary.{vocabulary, term_among, of_length, by_length, no_length}
use Rattle.start_attributes.proofs.vocabulary.local_term.Goals as goal

pub overflow_add-front : goal.overflow_add-front
overflow_add-front c = omega (arith, c.well_formed)

pub returns-in-2 : goal.returns-in-2
unfolding term_among of_length vocabulary when◌then◌else◌ ascii
returns-in-2 c = c.either.ensures ∙ by_length 2 c.args.front.now c.args.back.now c.in-2.is

pub returns-in-3 : goal.returns-in-3
unfolding term_among of_length vocabulary when◌then◌else◌ ascii
returns-in-3 c = c.only.ensures ∙ by_length 3 c.args.front.now c.args.back.now c.in-3.is

pub returns-in-4 : goal.returns-in-4
unfolding term_among of_length vocabulary when◌then◌else◌ ascii
returns-in-4 c = c.only-in-4.ensures ∙ by_length 4 c.args.front.now c.args.back.now c.in-4.is

pub returns-in-5 : goal.returns-in-5
unfolding term_among of_length vocabulary when◌then◌else◌ ascii
returns-in-5 c = c.either-in-5.ensures ∙ by_length 5 c.args.front.now c.args.back.now c.in-5.is

pub returns-in-6 : goal.returns-in-6
unfolding term_among of_length vocabulary when◌then◌else◌ ascii
returns-in-6 c = c.only-in-6.ensures ∙ by_length 6 c.args.front.now c.args.back.now c.in-6.is

pub returns-in-8 : goal.returns-in-8
unfolding term_among of_length vocabulary when◌then◌else◌ ascii
returns-in-8 c = c.either-in-8.ensures ∙ by_length 8 c.args.front.now c.args.back.now c.in-8.is

pub returns-in-9 : goal.returns-in-9
unfolding term_among of_length vocabulary when◌then◌else◌ ascii
returns-in-9 c = c.either-in-9.ensures ∙ by_length 9 c.args.front.now c.args.back.now c.in-9.is

pub returns-in-11 : goal.returns-in-11
unfolding term_among of_length vocabulary when◌then◌else◌ ascii
returns-in-11 c = c.only-in-11.ensures ∙ by_length 11 c.args.front.now c.args.back.now c.in-11.is

pub returns-in-15 : goal.returns-in-15
unfolding term_among of_length vocabulary when◌then◌else◌ ascii
returns-in-15 c = c.only-in-15.ensures ∙ by_length 15 c.args.front.now c.args.back.now c.in-15.is

pub returns-in_default : goal.returns-in_default
returns-in_default c = no_length _ c.args.front.now c.args.back.now refl c.in_default.in_default-own.rest.0.0.0.0.0.0.0.0.1 c.in_default.in_default-own.rest.0.0.0.0.0.0.0.1 c.in_default.in_default-own.rest.0.0.0.0.0.0.1 c.in_default.in_default-own.rest.0.0.0.0.0.1 c.in_default.in_default-own.rest.0.0.0.0.1 c.in_default.in_default-own.rest.0.0.0.1 c.in_default.in_default-own.rest.0.0.1 c.in_default.in_default-own.rest.0.1 c.in_default.in_default-own.rest.1
