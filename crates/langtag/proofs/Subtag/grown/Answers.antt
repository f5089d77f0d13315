-- `langtag::Subtag::grown` is `grown`: each field as the calls ensure it.
use mathlib.Core.Path.{◌≡◌, ◌∙◌}
use borrow.Author.Tests.{eq-eqb, ne_eqb}
use Rattle.spec.specs.Bytes.{when◌then◌else◌}
use Rattle.langtag.specs.Machine.{first, grown}
use Rattle.langtag.proofs.Letters.{alphabetic-letter, digit-digit, same-x}
use Rattle.langtag.proofs.Subtag.grown.Goals as goal
use Rattle.langtag.proofs.Subtag.grown.Goals.{Joined-self-eq0, then-self-eq0, else-self-eq0}

numbered : (c : Joined-self-eq0) → c.if-self-eq0.result ≡ first c.args.self.length c.is_ascii_digit-digit.result c.args.self.numbered
unfolding first when◌then◌else◌
numbered c =
    elim c.if-self-eq0.branch [
      | then-self-eq0 w ↦ rw (w.result-is, eq-eqb _ _ w.if-self-eq0.true)
      | else-self-eq0 w ↦ rw (w.result-is, ne_eqb _ _ w.if-self-eq0.false)
    ]

pub returns : goal.returns
unfolding grown
returns c =
    rw (
      numbered c,
      c.longer.ensures,
      c.eq_ignore_ascii_case-x.ensures ∙ same-x c.args.b,
      c.is_ascii_digit-digit.ensures.value ∙ digit-digit c.args.b,
      c.is_ascii_alphabetic-letter.ensures.value ∙ alphabetic-letter c.args.b,
    )
