-- Demand 3 for documents that are run through the calls: lists can be read back.
use Rattle.std.specs.Prelude.{ℕ, ◌≡◌, Bool, List, [], ◌∷◌, ◌++◌, take}
use Rattle.std.proofs.Math.Path.{refl}
use Rattle.std.proofs.Common.{sym, ap, ◌∙◌, append_assoc}
use Rattle.std.proofs.Math.Option.{some}
use Rattle.spec.specs.Bytes.{Bytes}
use Rattle.spec.specs.Numbers.{good}
use Rattle.spec.specs.Pyx.{Event, closing}
use Rattle.spec.specs.NTriples.{Subject, node, Triple, triple, write}
use Rattle.spec.specs.declared.Mode.{Mode}
use Rattle.spec.specs.Document.{collection, Property, property_element}
use Rattle.spec.specs.Productions.{reification, statement}
use Rattle.spec.specs.RdfXml.{next}
use Rattle.spec.specs.Lists.{Cell, Reads}
use Rattle.spec.specs.ReadingBack.{CellOf}
use Rattle.spec.specs.Inside.{innermost, children}
use Rattle.theorems.specs.Cells.{no_cell_shared}
use Rattle.theorems.specs.Children.{collections_read_back, no_cell_in_two_collections}
use Rattle.reader_contract.specs.declared.State.{State}
use Rattle.reader_contract.specs.declared.Report.{Report}
use Rattle.reader_contract.specs.Meaning.{base_of}
use Rattle.reader_contract.specs.Meets.{Steps}
use Rattle.reader_theorems.specs.Runs.{Ran, stepped, now, and_stepped, Later, later_still}
use Rattle.reader_theorems.specs.Events.{first_of, taken, run_events, last-same}
use Rattle.reader_theorems.specs.Whole.{run-lines, more_lines, more_bytes, run_further}
use Rattle.reader_theorems.specs.Elements.{Closed, closed}
use Rattle.reader_theorems.specs.Collections.{InCollection, began, stayed}
use Rattle.std.specs.Prelude.{Ok}

-- an element of a run's own events, which the last of them closed
abbrev pub ClosedIn : {mode : Mode} {based : Bool} {base : Bytes} {s : State} {w i : List ℕ} {o : Bytes} → Ran mode based base s w i o → Type 0
ClosedIn {mode} {based} {base} h = Closed mode (base_of based base) (run-lines h).doc (run_events h) (run-lines h).lines

-- ---- a step of a run

module _ {mode : Mode} {based : Bool} {base : Bytes} {s : State} {w i : List ℕ} {o : Bytes}
    (h : Ran mode based base s w i o)
    {last : Bool} {input : Bytes} {out : List ℕ} {r : Report} {w' i' out' : List ℕ} (x : Steps last input s w i out r w' i' out') where
  -- an event that it takes is one more of the run
  pub took : (e : Event) → r.answer ≡ Ok tt → first_of last input ≡ good e
      → run_events (stepped h x) ≡ run_events h ++ (e ∷ [])
  unfolding run_events taken
  took e a f = rw (a, f) refl

  -- An end tag that it takes closes an element of the run's own events, and what it writes are the lines of that end tag.
  pub run_element : {n : Bytes} → r.answer ≡ Ok tt → first_of last input ≡ good (closing n)
      → (c : ClosedIn (stepped h x)) × (c.element.last ≡ (run-lines h).doc) × (take r.written out' ≡ write c.element.end_lines)
  run_element {n} a f = go (more_lines (run-lines h) (run-lines (stepped h x)) (closing n) (took (closing n) a f))
    where
      go : (us : List Triple) × (next (closing n) (run-lines h).doc ≡ good (us, (run-lines (stepped h x)).doc)) × ((run-lines (stepped h x)).lines ≡ (run-lines h).lines ++ us)
          → (c : ClosedIn (stepped h x)) × (c.element.last ≡ (run-lines h).doc) × (take r.written out' ≡ write c.element.end_lines)
      go (us, does, lines) =
          let k : (c : ClosedIn (stepped h x)) × (c.element.last ≡ (run-lines h).doc) × (c.element.end_lines ≡ us) =
          rw (took (closing n) a f ∙ ap (◌++ (closing n ∷ [])) (sym (run-lines h).events), lines) (closed (run-lines h).after n us (run-lines (stepped h x)).doc does) in
          (k.0, k.1, more_bytes (run-lines h) (run-lines (stepped h x)) us (take r.written out') refl lines ∙ ap write (sym k.2))

  -- it closes a Collection of this property: it takes an end tag, and the innermost open element is one
  pub record ClosesCollection (p : Property) : Type 0 where
    pub done : r.answer ≡ Ok tt
    pub name : Bytes
    pub takes : first_of last input ≡ good (closing name)
    pub inner : InCollection p (run-lines h).doc.frames

  -- What can be read back of it. `closes` is the Collection, of the run's own events from its start tag to this end tag. The step wrote its
  -- statement last, whose object is a list; the cells of the list are labels that the step generated. Here and at every later state of the
  -- run, that list reads back from all lines as the children of the Collection, in order.
  pub record ReadsBack (p : Property) : Type 0 where
    pub closes : ClosedIn (stepped h x)
    pub begins : innermost closes.element.begun.first.frames ≡ some (property_element p (collection []))
    pub wrote : take r.written out' ≡ write closes.element.end_lines
    pub list : Subject
    pub others : List Triple
    pub ends : closes.element.end_lines ≡ others ++ statement p (node list)
    pub reads : {s'' : State} {w'' i'' : List ℕ} {o'' : Bytes} (k : Ran mode based base s'' w'' i'' o'') → Later (stepped h x) k
        → Reads (run-lines h).doc.labels (run-lines (stepped h x)).doc.labels (run-lines k).lines list (children closes.element.begun)

  -- where the element that it closes was opened as a Collection, it closes a Collection
  pub run-closes : {n : Bytes} (a : r.answer ≡ Ok tt) (f : first_of last input ≡ good (closing n)) (p : Property)
      → InCollection p (run_element a f).0.element.begun.first.frames → ClosesCollection p
  run-closes {n} a f p is = let c = run_element a f in record { done = a; name = n; takes = f; inner = rw c.1 at (stayed c.0.element p is) }

-- ---- the lists

-- a statement has one object
one-object : (p : Property) (y z : Subject) (us vs : List Triple) → us ++ statement p (node y) ≡ vs ++ statement p (node z) → y ≡ z
unfolding statement
one-object p y z us vs e = go (last-same (us ++ fourOf y) (vs ++ fourOf z) _ _ (append_assoc us (fourOf y) _ ∙ (e ∙ sym (append_assoc vs (fourOf z) _)))).1
  where
    fourOf : Subject → List Triple
    fourOf x = reification p.id p.subject p.iri (node x)

    go : triple p.subject p.iri (node y) ≡ triple p.subject p.iri (node z) → y ≡ z
    go q = cc

module _ {mode : Mode} {based : Bool} {base : Bytes} {s : State} {w i : List ℕ} {o : Bytes}
    {h : Ran mode based base s w i o}
    {last : Bool} {input : Bytes} {out : List ℕ} {r : Report} {w' i' out' : List ℕ} {x : Steps last input s w i out r w' i' out'} {p : Property} where
  -- in the lines of one later state
  reads_at : (c : ClosedIn (stepped h x)) → innermost c.element.begun.first.frames ≡ some (property_element p (collection []))
      → {s'' : State} {w'' i'' : List ℕ} {o'' : Bytes} (k : Ran mode based base s'' w'' i'' o'') → Later (stepped h x) k
      → (y : Subject) × (us : List Triple) × (c.element.end_lines ≡ us ++ statement p (node y))
      × Reads c.element.last.labels (run-lines (stepped h x)).doc.labels (run-lines k).lines y (children c.element.begun)
  reads_at c is k l =
      let f = run_further l in
      rw (f.2, c.lines, append_assoc)
      (collections_read_back mode (base_of based base) c.before (run-lines (stepped h x)).doc (run-lines k).doc c.earlier f.0 p [] c.element c.prior is f.1)

  -- Every Collection that a step of a run closes can be read back, from there on.
  pub run-reads_back : ClosesCollection h x p → ReadsBack h x p
  run-reads_back z = go (run_element h x z.done z.takes)
    where
      go : (c : ClosedIn (stepped h x)) × (c.element.last ≡ (run-lines h).doc) × (take r.written out' ≡ write c.element.end_lines) → ReadsBack h x p
      go (c, same, bytes) =
          let is = began c.element p (rw same z.inner) in
          let y = reads_at c is (stepped h x) now in
          record {
            closes = c;
            begins = is;
            wrote = bytes;
            list = y.0;
            others = y.1;
            ends = y.2;
            reads = λ k l. let y' = reads_at c is k l in rw (← same, one-object p y.0 y'.0 y.1 y'.1 (sym y.2 ∙ y'.2)) y'.3;
          }

  -- The labels that can be cells of one Collection that a step of a run closes can't be of another.
  pub run_no_cell_shared : ClosesCollection h x p
      → {s'' : State} {w'' i'' : List ℕ} {o'' : Bytes} {k : Ran mode based base s'' w'' i'' o''} {last' : Bool} {input' : Bytes} {out'' : List ℕ} {r' : Report} {w''' i''' out''' : List ℕ}
      {y : Steps last' input' s'' w'' i'' out'' r' w''' i''' out'''} {q : Property} → ClosesCollection k y q → Later (stepped h x) k
      → (c : Subject) → Cell (run-lines h).doc.labels (run-lines (stepped h x)).doc.labels c → Cell (run-lines k).doc.labels (run-lines (stepped k y)).doc.labels c → ⊥
  run_no_cell_shared z {k = k} {y = y} z' l c =
      let e = run_element h x z.done z.takes in
      let e' = run_element k y z'.done z'.takes in
      let f = run_further l in
      rw (← e.1, ← e'.1)
      (no_cell_in_two_collections mode (base_of based base) e.0.before (run-lines (stepped h x)).doc e'.0.before (run-lines (stepped k y)).doc e.0.earlier f.0
      e.0.element e'.0.element c e.0.prior (rw e'.1 f.1))

module _ {mode : Mode} {based : Bool} {base : Bytes} {s : State} {w i : List ℕ} {o : Bytes}
    {h : Ran mode based base s w i o}
    {last : Bool} {input : Bytes} {out : List ℕ} {r : Report} {w₁ i₁ out₁ : List ℕ} {x : Steps last input s w i out r w₁ i₁ out₁} {p : Property}
    {s' : State} {w' i' : List ℕ} {o' : Bytes} {k : Ran mode based base s' w' i' o'}
    {last' : Bool} {input' : Bytes} {out' : List ℕ} {r' : Report} {w₂ i₂ out₂ : List ℕ} {y : Steps last' input' s' w' i' out' r' w₂ i₂ out₂} {q : Property} where
  -- No cell is in two lists: those of two Collections that steps of one run closed, in all lines then or at any later state of the run.
  pub run_no_cell_in_two-lists : (z : ClosesCollection h x p) (z' : ClosesCollection k y q) → Later (stepped h x) k
      → {s'' : State} {w'' i'' : List ℕ} {o'' : Bytes} (m : Ran mode based base s'' w'' i'' o'') → Later (stepped k y) m
      → (c : Subject) → CellOf (run-lines m).lines (run-reads_back z).list c → CellOf (run-lines m).lines (run-reads_back z').list c → ⊥
  run_no_cell_in_two-lists z z' l m j c =
      no_cell_shared _ _ _ _ (run-lines m).lines _ _ (children (run-reads_back z).closes.element.begun) (children (run-reads_back z').closes.element.begun)
      ((run-reads_back z).reads m (later_still (later_still l (and_stepped now y)) j)) ((run-reads_back z').reads m j) (run_no_cell_shared z z' l) c
