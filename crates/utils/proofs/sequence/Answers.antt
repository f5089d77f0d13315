-- `sequence`: too short, broken, overlong, no scalar value, or a character.
use mathlib.Core.Bool.{true}
use Rattle.spec.specs.Bytes.{every}
use Rattle.spec.specs.Utf8.{goes_on, joined}
use Rattle.utils.proofs.Decoding.{behind, joins_broken, joins-value, stuck_short, stuck_broken, stuck_overlong, stuck_surrogate, front_several}
use mathlib.Core.Path.{◌≡◌, sym, ◌∙◌}
use lib.ListN.{length-take, length-drop}
use native.Mathlib.Omega.{arith}
use borrow.Author.Rules.{rules}
use Rattle.utils.proofs.sequence.Goals.{In-Some}
use Rattle.utils.proofs.sequence.Goals as goal

-- what the bytes behind the first join to
value : (c : In-Some) → (every goes_on (behind c.args.s.now c.args.n) ≡ true) × (c.in-Some.c ≡ joined c.args.bits (behind c.args.s.now c.args.n))
value c = joins-value _ _ c.in-Some.ensures

pub returns-then-s-n : goal.returns-then-s-n
returns-then-s-n c = stuck_short c.requires c.if-s-n.true

pub join-requires : goal.join-requires
join-requires c = record { bits_bound = c.requires.small; s_len_bound = simp (length-take, length-drop) (omega (arith, c.requires.few)) }

pub returns-then-c-low : goal.returns-then-c-low
returns-then-c-low c = stuck_overlong c.requires (search rules) (value (goal.at.returns-then-c-low c).In-Some).1 c.if-c-low.true

pub returns-in-None : goal.returns-in-None
returns-in-None c = stuck_broken c.requires (joins_broken _ _ (sym c.in-None.is ∙ c.join.ensures))

pub returns-then-is_scalar : goal.returns-then-is_scalar
returns-then-is_scalar c = let v = value (goal.at.returns-then-is_scalar c).In-Some in front_several c.requires (search rules) v.1 v.0 c.if-c-low.false (sym c.is_scalar.ensures ∙ c.if-is_scalar.true)

pub returns-else-is_scalar : goal.returns-else-is_scalar
returns-else-is_scalar c = stuck_surrogate c.requires (search rules) (value (goal.at.returns-else-is_scalar c).In-Some).1 (sym c.is_scalar.ensures ∙ c.if-is_scalar.false)
