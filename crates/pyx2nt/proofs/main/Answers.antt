-- `pyx2nt::main` is safe: without a base the document was started.
use Rattle.spec.specs.Modes.{base_mode}
use Rattle.convert.specs.Running.{without-base}
use Rattle.pyx2nt.proofs.main.Goals as goal

pub end-requires : goal.end-requires
end-requires c = (without-base base_mode c.document-outcome.result (rw c.base.ensures at c.document-outcome.ensures.0), c.document-outcome.ensures.1)
