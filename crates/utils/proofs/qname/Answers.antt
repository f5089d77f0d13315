-- `qname`: by the first colon, and whether the parts before and behind it are NCNames.
use lib.Seq.{length-take-le}
use Rattle.utils.proofs.Walking.{to_end}
use Rattle.utils.proofs.Names.{name_local, name_none, name_prefixed, name_no_prefix, name_no_local}
use mathlib.Core.Path.{sym, ◌∙◌}
use borrow.Author.Rules.{rules}
use Rattle.utils.proofs.qname.Goals as goal

pub slice_bounds-is_nc_name-end : goal.slice_bounds-is_nc_name-end
slice_bounds-is_nc_name-end c = sym (length-take-le _ _ (search rules))

pub returns-then-not-is_nc_name : goal.returns-then-not-is_nc_name
returns-then-not-is_nc_name c = name_no_prefix _ c.up_to_colon-k.ensures (search rules) (sym (sym c.is_nc_name.ensures ∙ c.if-not-is_nc_name.true))

pub returns-then-is_nc_name : goal.returns-then-is_nc_name
returns-then-is_nc_name c = name_prefixed _ c.up_to_colon-k.ensures (search rules) (sym (sym c.is_nc_name.ensures ∙ c.if-not-is_nc_name.false)) (rw to_end at (sym (sym c.is_nc_name-then-k-s.ensures ∙ c.if-is_nc_name.true)))

pub returns-then-k-s : goal.returns-then-k-s
returns-then-k-s c = name_no_local _ c.up_to_colon-k.ensures (search rules) (sym (sym c.is_nc_name.ensures ∙ c.if-not-is_nc_name.false)) (rw to_end at (sym (sym c.is_nc_name-then-k-s.ensures ∙ c.if-is_nc_name.false)))

pub returns-then-is_nc_name-2 : goal.returns-then-is_nc_name-2
returns-then-is_nc_name-2 c = name_local _ c.up_to_colon-k.ensures (search rules) (sym (sym c.is_nc_name-2.ensures ∙ c.if-is_nc_name-2.true))

pub returns : goal.returns
returns c = name_none _ c.up_to_colon-k.ensures (search rules) (sym (sym c.is_nc_name-2.ensures ∙ c.if-is_nc_name-2.false))
