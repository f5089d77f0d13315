-- `identifiers::seek` meets what `find` asks: a table that is valid has its spans in the store.
use Rattle.std.proofs.Common.{sym, ◌∙◌}
use Rattle.state_ids.specs.Ids.{valid_spans}
use Rattle.test_stores.proofs.identifiers.seek.Goals as goal

pub find-requires : goal.find-requires
find-requires c = valid_spans _ _ _ _ _ (sym c.valid.ensures ∙ c.if-not-valid.false)
