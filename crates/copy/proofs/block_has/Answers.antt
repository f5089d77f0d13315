-- `copy::block_has` meets its contract: gathering over all bytes finds what is among them.
use Rattle.std.proofs.Common.{arith, ◌≡◌, false, eqb, ◌||◌, ◌∙◌}
use Rattle.std.proofs.lemmas.Grind.{common_steps}
use Rattle.std.specs.Prelude.{fold}
use Rattle.copy.specs.Scan.{among_fold}
use Rattle.copy.proofs.block_has.Goals as goal

pub returns : goal.returns
returns c =
    let gathered : c.fold.result ≡ fold (λ found x. found || eqb x c.args.b) false c.args.block.now = grind (arith, common_steps) in
    gathered ∙ among_fold _ _
