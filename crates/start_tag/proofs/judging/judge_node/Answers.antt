-- `judging::judge_node` meets its contract: 14, 19, 15 or 18, 7, or what is planned.
use mathlib.Core.Path.{refl}
use Rattle.spec.specs.Limits.{most_labels}
use Rattle.start_tag.specs.Nodes.{node_reserved_here, node_broken, node-left, node-refused, node-long, node_judged}
use borrow.Author.Tests.{not-true, not-false}
use Rattle.std.proofs.Common.{Err, arith, ◌≡◌}
use Rattle.start_tag.proofs.judging.judge_node.Goals as goal

pub returns-then-reserved : goal.returns-then-reserved
returns-then-reserved c = node_reserved_here c.iri_text-name.ensures c.is_reserved_node-reserved.ensures c.if-reserved.true

pub returns-then-not-kept : goal.returns-then-not-kept
returns-then-not-kept c = node_broken c.iri_text-name.ensures c.is_reserved_node-reserved.ensures c.if-reserved.false c.requires.2 c.if-not-kept.true

pub returns-then-not-t : goal.returns-then-not-t
returns-then-not-t c = node-long c.iri_text-name.ensures c.is_reserved_node-reserved.ensures c.if-reserved.false c.requires.2 c.if-not-kept.false c.node_part-part.ensures c.is_description-described.ensures c.is_missing-named.ensures c.is_missing-told.ensures c.judge_node.ensures c.in_ok-judge_node.was (not-true _ c.if-not-t.true)

pub make_node-start-requires : goal.make_node-start-requires
unfolding most_labels
make_node-start-requires c = (c.requires.0, c.requires.1, node-left c.judge_node.ensures c.in_ok-judge_node.was)

pub returns-in_err-judge_node : goal.returns-in_err-judge_node
returns-in_err-judge_node c =
    let up : c.from_residual.result ≡ Err c.in_err-judge_node.field-0.0 = grind arith in
    rw up (node-refused c.iri_text-name.ensures c.is_reserved_node-reserved.ensures c.if-reserved.false c.requires.2 c.if-not-kept.false c.node_part-part.ensures c.is_description-described.ensures c.is_missing-named.ensures c.is_missing-told.ensures c.judge_node.ensures c.in_err-judge_node.was)

pub returns : goal.returns
returns c = node_judged c.iri_text-name.ensures c.is_reserved_node-reserved.ensures c.if-reserved.false c.requires.2 c.if-not-kept.false c.node_part-part.ensures c.is_description-described.ensures c.is_missing-named.ensures c.is_missing-told.ensures c.judge_node.ensures c.in_ok-judge_node.was (not-false _ c.if-not-t.false) c.requires.0 c.make_node-start.ensures
