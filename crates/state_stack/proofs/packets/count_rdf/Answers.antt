-- `packets::count_rdf` meets its contract. By whether the wrapper is on top.
use Rattle.state_words.specs.declared.Kind.TheVariants.{Wrapper}
use Rattle.state_stack.specs.Calls.{not_kind}
use Rattle.state_stack.specs.Packets.{no_wrapper, wrapper_had}
use Rattle.state_stack.proofs.packets.count_rdf.Goals as goal

pub returns-then-ne : goal.returns-then-ne
returns-then-ne c = no_wrapper c.top-f.ensures (not_kind _ Wrapper c.ne.ensures c.if-ne.true)

pub returns : goal.returns
returns c = wrapper_had c.top-f.ensures (not_kind _ Wrapper c.ne.ensures c.if-ne.false) c.mark.ensures
