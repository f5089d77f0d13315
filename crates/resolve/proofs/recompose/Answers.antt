-- `resolve::recompose` meets its contract.
use lib.ListN.{drop, length-drop}
use Rattle.spec.specs.Limits.{most_name_bytes}
use Rattle.copy.specs.Copy.{part, rest_of}
use Rattle.resolve.specs.Resolve.{recomposed_formless, recomposed_beyond, recomposed_long, recomposed_whole}
use Rattle.resolve.proofs.recompose.Goals as goal

pub returns-then-not-has_form : goal.returns-then-not-has_form
unfolding part
returns-then-not-has_form c = λ front path m. recomposed_formless m c.args.target.authority (drop c.args.target.path c.args.reference.now) (length-drop c.args.target.path c.args.reference.now) c.has_form.ensures c.if-not-has_form.true

pub returns-then-out-gt0 : goal.returns-then-out-gt0
unfolding part
returns-then-out-gt0 c = λ front path m. recomposed_beyond m c.args.target.authority (drop c.args.target.path c.args.reference.now) (length-drop c.args.target.path c.args.reference.now) c.has_form.ensures c.if-not-has_form.false c.if-out-gt0.true

pub returns-then-end-rest-gt-MOST_BYTES : goal.returns-then-end-rest-gt-MOST_BYTES
unfolding part most_name_bytes
returns-then-end-rest-gt-MOST_BYTES c = λ front path m. recomposed_long m c.args.target.authority (drop c.args.target.path c.args.reference.now) (length-drop c.args.target.path c.args.reference.now) c.has_form.ensures c.if-not-has_form.false c.if-out-gt0.false c.if-end-rest-gt-MOST_BYTES.true

pub returns : goal.returns
unfolding part most_name_bytes
returns c = λ front path m. recomposed_whole m c.args.target.authority (drop c.args.target.path c.args.reference.now) (length-drop c.args.target.path c.args.reference.now) c.has_form.ensures c.if-not-has_form.false c.if-out-gt0.false c.if-end-rest-gt-MOST_BYTES.false (rw (rest_of c.args.reference.now _) at c.put.ensures)
