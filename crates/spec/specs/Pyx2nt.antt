-- Document 01, "One list in full": the program pyx2nt, from all of its input to all of its output.
use Rattle.std.specs.Prelude.{true, [], ◌∷◌, ◌++◌, ℕ, zero, suc, length, drop}
use Rattle.std.proofs.Math.Option.{none}
use Rattle.spec.specs.Bytes.{Bytes, ascii}
use Rattle.spec.specs.Limits.{program_room}
use Rattle.spec.specs.NTriples.{decimal}
use Rattle.spec.specs.Modes.{base_mode}
use Rattle.spec.specs.Calls.{State, no_document, call_start, call_step, call_finish}
use Rattle.spec.specs.Calls as C

-- after a refusal one last line, K counted from 1, finish as one more
unfoldable pub last_line : ℕ → ℕ → Bytes
last_line zero k = []
last_line (suc n) k = ascii "# refused " ++ (decimal (suc n) ++ (ascii " at event " ++ (decimal k ++ ascii "\n")))

-- what is printed from event k on; there are no more events than bytes
unfoldable pub print : ℕ → ℕ → Bytes → State → Bytes
print zero k rest s = []
print (suc f) k [] s = last_line (call_finish s).answer k
print (suc f) k (b ∷ rest) s =
    let r = call_step true (b ∷ rest) program_room s in
    elim r.answer [
      | zero ↦ r.output ++ print f (suc k) (drop r.consumed (b ∷ rest)) r.behind
      | suc n ↦ last_line (suc n) k
    ]

-- document 01: no base
unfoldable pub pyx2nt : Bytes → Bytes
pyx2nt s = print (suc (length s)) 1 s (call_start true base_mode none no_document).behind

unfoldable pub all : Unit {0}
unfolding C.all last_line print pyx2nt
all = tt
