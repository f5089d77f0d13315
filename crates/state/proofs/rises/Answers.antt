-- `state::rises` meets its contract.
use Rattle.state.specs.Tests.{rises_sorted}
use Rattle.std.proofs.lemmas.List.Sorted.{non_decreasing_from_is_sorted}
use borrow.Author.Rules.{rules}
use Rattle.state.proofs.rises.Goals as goal

pub returns : goal.returns
returns c = rises_sorted _ (search rules) _ (non_decreasing_from_is_sorted _ _ c.is_sorted.ensures.cases)
