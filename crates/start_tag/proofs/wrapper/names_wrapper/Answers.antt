-- `start_tag::wrapper::names_wrapper` meets its contract: namespace and local part, joined, are compared.
use Rattle.spec.specs.Bytes.{ascii}
use Rattle.spec.specs.Namespaces.{xml_name}
use Rattle.spec.specs.Xmp.{wrapper_name}
use Rattle.start_tag.specs.Wrapper.{joined_so}
use Rattle.start_tag.proofs.wrapper.names_wrapper.Goals as goal

pub returns : goal.returns
unfolding xml_name wrapper_name ascii
returns c = joined_so _ _ c.args.found _ _ c.from.ensures c.space_of.ensures c.back_of.ensures c.same_joined.ensures
