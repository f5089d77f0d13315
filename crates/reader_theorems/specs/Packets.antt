-- Document 02, request 1, of documents that are run through the calls in the XMP profile.
use Rattle.std.specs.Prelude.{ℕ, ◌≡◌, Bool, List}
use Rattle.std.proofs.Math.Option.{some}
use Rattle.std.proofs.Common.{arith}
use Rattle.spec.specs.Bytes.{Bytes}
use Rattle.spec.specs.Numbers.{good}
use Rattle.spec.specs.Modes.{xmp_mode}
use Rattle.spec.specs.Pyx.{Attribute, opening}
use Rattle.spec.specs.NTriples.{Triple, write}
use Rattle.spec.specs.Document.{rdf_rdf}
use Rattle.spec.specs.Packets.{Packet, TopStart, Describes}
use Rattle.spec.specs.Inside.{innermost}
use Rattle.theorems.specs.Packets.{packets}
use Rattle.theorems.specs.ModeRefusals.{packets_never_12, packets_never_17}
use Rattle.theorems.specs.OneSubject.{one_described, one-subject}
use Rattle.reader_contract.specs.declared.State.{State}
use Rattle.reader_contract.specs.declared.Report.{Report}
use Rattle.reader_contract.specs.Meaning.{base_of}
use Rattle.reader_contract.specs.Meets.{number_of, Steps}
use Rattle.reader_theorems.specs.Runs.{Ran, stepped, Later, step_never}
use Rattle.reader_theorems.specs.Events.{first_of}
use Rattle.reader_theorems.specs.Whole.{run-lines, more_lines, run_further}
use Rattle.reader_theorems.specs.Lists.{took}
use Rattle.std.specs.Prelude.{Ok}

module _ {based : Bool} {base : Bytes} {s : State} {w i : List ℕ} {o : Bytes} (h : Ran xmp_mode based base s w i o) where
  -- All that was written are the lines that the base gives for the packet's rdf:RDF, with the same base and the
  -- wrapper's namespace bindings.
  pub run_packet : (ts : List Triple) × Packet (base_of based base) (run-lines h).doc ts × (o ≡ write ts)
  run_packet = ((run-lines h).lines, packets (base_of based base) (run-lines h).after, (run-lines h).bytes)

  -- ---- a step of it

  module _ {last : Bool} {input : Bytes} {out : List ℕ} {r : Report} {w' i' out' : List ℕ}
      (x : Steps last input s w i out r w' i' out') where
    -- No step answers 12: rdf:ID is out.
    pub step_never_twelve : number_of r.answer ≡ 12 → ⊥
    step_never_twelve = step_never (packets_never_12 (base_of based base)) (omega arith) h x

    -- No step answers 17: every parseType but Resource is out.
    pub step_never_seventeen : number_of r.answer ≡ 17 → ⊥
    step_never_seventeen = step_never (packets_never_17 (base_of based base)) (omega arith) h x

    -- it begins a top-level element: it takes a start tag, directly in rdf:RDF
    pub record BeginsTop : Type 0 where
      pub done : r.answer ≡ Ok tt
      pub name : Bytes
      pub attributes : List Attribute
      pub takes : first_of last input ≡ good (opening name attributes)
      pub in_rdf : innermost (run-lines h).doc.frames ≡ some rdf_rdf

    -- in the definitions' words
    pub top_start : BeginsTop → TopStart (run-lines h).doc (run-lines (stepped h x)).doc
    top_start z =
        let e = opening z.name z.attributes in
        let m = more_lines (run-lines h) (run-lines (stepped h x)) e (took h x e z.done z.takes) in
        record { name = z.name; attributes = z.attributes; lines = m.0; starts = m.1; in_rdf = z.in_rdf }

    -- A top-level element is rdf:Description with an rdf:about, and opens a node with it as its subject.
    pub run_described : (z : BeginsTop) → (a : Bytes) × Describes a (top_start z)
    run_described z = one_described (base_of based base) (run-lines h).after (top_start z)

-- Any two top-level elements of a run have one subject, which is the rdf:about of both.
pub run-one-subject : {based : Bool} {base : Bytes} {s : State} {w i : List ℕ} {o : Bytes}
    (h : Ran xmp_mode based base s w i o)
    {last : Bool} {input : Bytes} {out : List ℕ} {r : Report} {w₁ i₁ out₁ : List ℕ}
    (x : Steps last input s w i out r w₁ i₁ out₁)
    {s' : State} {w' i' : List ℕ} {o' : Bytes} (k : Ran xmp_mode based base s' w' i' o')
    {last' : Bool} {input' : Bytes} {out' : List ℕ} {r' : Report} {w₂ i₂ out₂ : List ℕ}
    (y : Steps last' input' s' w' i' out' r' w₂ i₂ out₂)
    → Later (stepped h x) k → (z : BeginsTop h x) (z' : BeginsTop k y)
    → (a : Bytes) × Describes a (top_start h x z) × Describes a (top_start k y z')
run-one-subject {based} {base} h x k y l z z' =
    one-subject (base_of based base) (run-lines h).after (top_start h x z) (run_further l).1 (top_start k y z')
