-- Documents that are run through the calls for a host are documents that are run through crate `reader`'s: what is proved of those holds.
use Rattle.std.specs.Prelude.{ℕ, ◌≡◌, refl, Bool, true, false, List, [], ◌++◌, take}
use Rattle.std.proofs.Common.{sym, arith}
use Rattle.std.proofs.Math.Option.{some}
use Rattle.spec.specs.Bytes.{Bytes}
use Rattle.spec.specs.NTriplesGrammar.{is_n_triples}
use Rattle.reader_contract.specs.declared.State.{State}
use Rattle.reader_contract.specs.Unique.{number_tells}
use Rattle.reader_theorems.specs.Runs.{Ran, step_never_three, finish_never_three}
use Rattle.reader_theorems.specs.Runs as reader
use Rattle.reader_theorems.specs.Whole.{run_n_triples}
use Rattle.reader_host.specs.Image.{mode_of, decode}
use Rattle.reader_host.specs.Meets.{StartsIn, StepsIn, FinishesIn}
use Rattle.reader_host.specs.Use.{fitting, start_fits, start_unfit, start_leaves}
use Rattle.std.specs.Prelude.{Ok}

-- the calls from an accepted start on, in the mode of a number: state, work store and ID store as they are left, and all bytes that the steps wrote
pub data RanIn (mode : ℕ) (based : Bool) (base : Bytes) : Bytes → List ℕ → List ℕ → Bytes → Type 0 where
  started : {b w i b' w' : Bytes} → StartsIn mode based base b w i 0 b' w' → RanIn mode based base b' w' i []
  stepped : {b w i o : Bytes} {last : Bool} {input out : Bytes} {n c k : ℕ} {b' w' i' out' : Bytes}
      → RanIn mode based base b w i o → StepsIn last input b w i out n c k b' w' i' out'
      → RanIn mode based base b' w' i' (o ++ take k out')
  ended : {b w i o : Bytes} {n : ℕ} {b' : Bytes} → RanIn mode based base b w i o → FinishesIn b w i n b' → RanIn mode based base b' w i o
  -- a start that is refused changes nothing
  declined : {b w i o : Bytes} {m : ℕ} {a : Bool} {e : Bytes} {n : ℕ} {b' w' : Bytes}
      → RanIn mode based base b w i o → StartsIn m a e b w i n b' w' → (n ≡ 0 → ⊥) → RanIn mode based base b' w' i o

-- the state that the bytes stand for was left by calls of `reader`
pub record Runs (mode : ℕ) (based : Bool) (base : Bytes) (b w i o : Bytes) : Type 0 where
  pub state : State
  pub read : decode b ≡ some state
  pub ran : Ran (mode_of mode) based base state w i o

begun : {mode : ℕ} {based : Bool} {base b w i b' w' : Bytes} → StartsIn mode based base b w i 0 b' w'
    → Runs mode based base b' w' i []
begun {mode} {based} {base} {b} {w} {i} {b'} {w'} x = go (fitting mode b) refl
  where
    go : (l : Bool) → fitting mode b ≡ l → Runs mode based base b' w' i []
    go false e = let z = (start_unfit x e).0 in absurd (omega arith)
    go true e =
        let h = start_fits x e in
        let q = number_tells h.report.answer (Ok tt) (sym h.answer) in
        record { state = h.report.state; read = (h.done q).read; ran = reader.started h.call q }

module _ {mode : ℕ} {based : Bool} {base b w i o : Bytes} (f : Runs mode based base b w i o) where
  one_more_lem : {last : Bool} {input out : Bytes} {n c k : ℕ} {b' w' i' out' : Bytes} → StepsIn last input b w i out n c k b' w' i' out' → Runs mode based base b' w' i' (o ++ take k out')
  one_more_lem x =
      let g = x.good f.state f.read in
      record { state = g.report.state; read = g.behind.read; ran = rw g.call.2 (reader.stepped f.ran g.call.0) }

  closed : {n : ℕ} {b' : Bytes} → FinishesIn b w i n b' → Runs mode based base b' w i o
  closed x =
      let g = x.good f.state f.read in
      record { state = g.report.state; read = g.behind.read; ran = reader.ended f.ran g.call }

  unmoved : {b' w' : Bytes} → (b' ≡ b) × (w' ≡ w) → Runs mode based base b' w' i o
  unmoved l = record { state = f.state; read = rw l.0 f.read; ran = rw l.1 f.ran }

pub runs : {mode : ℕ} {based : Bool} {base b w i o : Bytes} → RanIn mode based base b w i o
    → Runs mode based base b w i o
runs (started x) = begun x
runs (stepped h x) = one_more_lem (runs h) x
runs (ended h x) = closed (runs h) x
runs (declined h x z) = unmoved (runs h) (start_leaves x z)

module _ {mode : ℕ} {based : Bool} {base b w i o : Bytes} (h : RanIn mode based base b w i o) where
  -- no call of a document gets 3
  pub step_never_bad : {last : Bool} {input out : Bytes} {c k : ℕ} {b' w' i' out' : Bytes} → StepsIn last input b w i out 3 c k b' w' i' out' → ⊥
  step_never_bad x =
      let f = runs h in
      let g = x.good f.state f.read in
      step_never_three f.ran g.call.0 (sym g.answer)

  pub finish_never_bad : {b' : Bytes} → FinishesIn b w i 3 b' → ⊥
  finish_never_bad x =
      let f = runs h in
      let g = x.good f.state f.read in
      finish_never_three f.ran g.call (sym g.answer)

  -- all that was written is a document of the N-Triples grammar
  pub all_n_triples : is_n_triples o ≡ true
  all_n_triples = run_n_triples (runs h).ran
