-- `iri::is_server` meets its contract. "[" in front, or a name and what its first ":" begins.
use mathlib.Core.Path.{refl, sym, ◌∙◌}
use native.Mathlib.Omega.{arith}
use Rattle.spec.specs.Bytes.{ascii, between}
use Rattle.copy.specs.Texts.{begins-length}
use Rattle.utils.proofs.Walking.{to_end}
use Rattle.iri.specs.Forms.{is_mark}
use Rattle.iri.proofs.Finding.{found_within}
use Rattle.iri.proofs.Checks.{server_bracket, server_law, and-first, and-second}
use Rattle.iri.proofs.is_server.Goals as goal

pub slice_bounds-is_bracketed-count : goal.slice_bounds-is_bracketed-count
slice_bounds-is_bracketed-count c = omega (arith, begins-length _ _ (sym c.begins.ensures ∙ c.if-begins.true))

pub slice_bounds-is_bracketed-start : goal.slice_bounds-is_bracketed-start
slice_bounds-is_bracketed-start c = omega (arith, begins-length _ _ (sym c.begins.ensures ∙ c.if-begins.true))

pub returns-then-begins : goal.returns-then-begins
unfolding ascii
returns-then-begins c = rw to_end at c.is_bracketed.ensures ∙ server_bracket _ (sym c.begins.ensures ∙ c.if-begins.true)

pub split_at-requires : goal.split_at-requires
split_at-requires c = found_within _ _ c.find.ensures

pub is_optional-requires : goal.is_optional-requires
unfolding is_mark between
is_optional-requires c = refl

pub returns-then-is_row : goal.returns-then-is_row
unfolding ascii
returns-then-is_row c = and-second _ (server_law _ (sym c.begins.ensures ∙ c.if-begins.false) c.find.ensures c.split_at.ensures.front c.split_at.ensures.back) c.is_row.ensures c.if-is_row.true c.is_optional.ensures

pub returns-else-is_row : goal.returns-else-is_row
unfolding ascii
returns-else-is_row c = and-first _ (server_law _ (sym c.begins.ensures ∙ c.if-begins.false) c.find.ensures c.split_at.ensures.front c.split_at.ensures.back) c.is_row.ensures c.if-is_row.false
