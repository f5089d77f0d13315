-- `copy::same_array` meets its contract.
use Rattle.std.proofs.Common.{◌≡◌, ◌+◌, ◌-◌, ◌∙◌, length-take, length-drop}
use native.Mathlib.Omega.{arith}
use Rattle.copy.specs.Copy.{part}
use Rattle.copy.specs.Blocks.{arrays_same}
use Rattle.copy.proofs.same_array.Goals as goal

pub returns : goal.returns
unfolding part
returns g c =
    let e : c.args.at + g.row.N - c.args.at ≡ g.row.N = omega arith in
    c.eq.ensures
    ∙ (arrays_same g.row.N _ _ _ _ (simp (length-take, length-drop) (omega (arith, c.requires.of_a))) (simp (length-take, length-drop) (omega (arith, c.requires.of_b)))
    c.as_array.ensures.cases c.as_array-2.ensures.cases ∙ rw e)
