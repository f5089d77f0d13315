-- What is asked of all that is lent for an event.
use Rattle.std.specs.Prelude.{ℕ, ◌*◌, ◌≤◌, ◌≡◌, false, List, length, replicate}
use Rattle.std.proofs.Common.{arith}
use Rattle.std.proofs.lemmas.List.{length-replicate}
use Rattle.spec.specs.Limits.{most_held_bytes}
use Rattle.state.specs.declared.Registers.{Registers}
use Rattle.event.specs.Result as handler
use Rattle.event.specs.Progress.{Lent, Lawful}
use Rattle.start_form.specs.Form.{Decoded}

-- the state of an open document
pub record Asks (r : Registers) (count used : ℕ) (l : Lent) : Type 0 where
  pub lawful : Lawful r count used l
  pub mark : r.flags.closed ≡ false

-- what the handlers of events that enter no rdf:ID ask
pub handler_asks : {r : Registers} {count used : ℕ} {l : Lent} → Asks r count used l → handler.Asks r l.frames l.bindings l.inners l.work
handler_asks a = record { valid = a.lawful.valid; mark = a.mark }

-- scratch enough for an event: its texts, the spans of its attributes, and room to resolve in
pub record Roomy (texts words room : List ℕ) : Type 0 where
  pub scratch : length texts ≡ 32_768
  pub spans : length words ≡ 256
  pub area : most_held_bytes ≤ length room
  pub most : length room ≤ 65_536

-- arrays of their own
pub roomy : Roomy (replicate 32_768 0) (replicate 256 0) (replicate 49_152 0)
unfolding most_held_bytes
roomy =
    record {
      scratch = length-replicate {A = ℕ} 32_768 0;
      spans = length-replicate {A = ℕ} 256 0;
      area = omega (arith, length-replicate {A = ℕ} 49_152 0);
      most = omega (arith, length-replicate {A = ℕ} 49_152 0);
    }

-- it stays as long as it was
pub record Areas (texts words room texts' words' room' : List ℕ) : Type 0 where
  pub scratch : length texts' ≡ length texts
  pub spans : length words' ≡ length words
  pub area : length room' ≡ length room

-- a start tag as decoded: its name is the first m bytes of e, with colon word c, and its k attributes are where the words v say
pub record Tagged (e v : List ℕ) (m c k : ℕ) (room : List ℕ) : Type 0 where
  pub tag : Decoded e v m c k
  pub texts : length e ≤ 32_768
  pub words : k * 4 ≤ length v
  pub area : most_held_bytes ≤ length room
  pub most : length room ≤ 65_536
