-- `start_tag::wrapper::is_wrapper` meets its contract: not in the profile, not the root, or by its name.
use Rattle.start_tag.specs.Wrapper.{no_profile, inside, by_name}
use borrow.Author.Tests.{not-true, not-false}
use Rattle.start_tag.proofs.wrapper.is_wrapper.Goals as goal

pub returns-then-not-mode : goal.returns-then-not-mode
returns-then-not-mode c = no_profile (not-true _ c.if-not-mode.true)

pub returns-then-depth-ne0 : goal.returns-then-depth-ne0
returns-then-depth-ne0 c = inside (not-false _ c.if-not-mode.false) c.if-depth-ne0.true

pub returns : goal.returns
returns c = by_name (not-false _ c.if-not-mode.false) c.if-depth-ne0.false c.names_wrapper.ensures
