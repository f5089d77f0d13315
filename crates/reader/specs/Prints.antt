-- A program that reads its input in pieces and goes on with `feed` prints what document 01's program prints.
use Rattle.std.specs.Prelude.{ℕ, zero, suc, ◌+◌, ◌<◌, ◌≡◌, refl, ◌⊎◌, Bool, true, false, List, [], ◌∷◌, ◌++◌, eqb, length, take, drop}
use Rattle.std.proofs.Common.{sym, ap, ◌∙◌, inl, inr, append_assoc, add-zero, add-suc, arith, length-drop, drop-drop, ne_eqb, eqb-true}
use Rattle.std.proofs.Math.Option as option
use Rattle.std.proofs.lemmas.Bool.{eqb-false}
use Rattle.spec.specs.Limits.{program_room}
use Rattle.spec.specs.Bytes.{Bytes, when◌then◌else◌, is_empty, concat}
use Rattle.spec.specs.Numbers.{number, Answer, refuse, good}
use Rattle.spec.specs.declared.Refusal.{Refusal}
use Rattle.spec.specs.declared.Refusal.TheVariants.{Incomplete}
use Rattle.spec.specs.Modes.{base_mode}
use Rattle.spec.specs.Document.{Doc, fresh}
use Rattle.spec.specs.Calls.{is_open, Report, refused_in, Accepted, stepped, call_step, call_finish}
use Rattle.spec.specs.Calls as calls
use Rattle.spec.specs.Pyx2nt.{last_line, pyx2nt}
use Rattle.spec.specs.Feeding.{Run, ending, in_front, host_step, Feeds, gets, does, ends, printed}
use Rattle.theorems.specs.Calls.{number_positive, number_injective, Takes, step_takes}
use Rattle.theorems.specs.Division.{print_all, program_in_pieces, pyx2nt_in_pieces}
use Rattle.copy.specs.Copy.{wrote_front}
use Rattle.state.specs.declared.Registers.{Registers}
use Rattle.event.specs.Progress.{Lent, doc_in}
use Rattle.reader.specs.Core.{first_accepted}
use Rattle.reader_contract.specs.declared.fed.Fed.{Fed}
use Rattle.reader.specs.Goes.{Does, none, one, Goes}
use Rattle.std.specs.Prelude.{Some}

-- a program's way from event k on, over a rest at hand and pieces to come; the last is all that it prints
pub data Prints : ℕ → Bytes → List Bytes → Doc → Bytes → Type 0 where
  feeds : {k : ℕ} {rest : Bytes} {ps : List Bytes} {d : Doc} {w : Bytes} {j n : ℕ} {o : Bytes} {d' : Doc}
      → Does (is_empty ps) rest d j n o d' → Prints (k + j) (drop n rest) ps d' w → Prints k rest ps d (o ++ w)
  reads : {k : ℕ} {rest p : Bytes} {ps : List Bytes} {d : Doc} {w : Bytes} → Prints k (rest ++ p) ps d w → Prints k rest (p ∷ ps) d w
  -- an event is refused: 1 is for the end of the input
  refused : {k : ℕ} {rest : Bytes} {ps : List Bytes} {d : Doc} {n : Refusal} → first_accepted (is_empty ps) rest program_room d ≡ refuse n → (n ≡ Incomplete → ⊥)
      → Prints k rest ps d (last_line (number n) k)
  -- the input is at its end
  over : {k : ℕ} {rest : Bytes} {d : Doc} → first_accepted true rest program_room d ≡ refuse Incomplete → Prints k rest [] d (last_line (call_finish (is_open d)).answer k)

-- ---- a call of `feed` is a part of the way

module _ {ps : List Bytes} {rest : Bytes} {r : Registers} {count : ℕ} {f : Fed} {l l' : Lent} (g : Goes (is_empty ps) rest r count f l l') {k : ℕ} where
  -- what it wrote to the front of the output is to be printed
  pub goes_on_lem : {w : Bytes} → Prints (k + f.events) (drop f.consumed rest) ps (doc_in f.registers f.count l') w
      → Prints k rest ps (doc_in r count l) (take f.written l'.out ++ w)
  goes_on_lem p = rw (wrote_front g.went.wrote) (feeds g.went.does p)

  pub goes_refused : {n : Refusal} → f.refusal ≡ Some n → (n ≡ Incomplete → ⊥) → Prints k (drop f.consumed rest) ps (doc_in f.registers f.count l') (last_line (number n) k)
  goes_refused q h = refused (rw q at g.ends) h

-- ---- what a program prints is what a host's run gives

module _ (last : Bool) (s : Bytes) (d : Doc) where
  step_good : {a : Accepted} → first_accepted last s program_room d ≡ good a
      → call_step last s program_room (is_open d) ≡ record { answer = 0; consumed = a.size; output = a.lines; behind = is_open a.behind }
  unfolding call_step first_accepted stepped
  step_good e = rw e

  step-refused : {n : Refusal} → first_accepted last s program_room d ≡ refuse n → call_step last s program_room (is_open d) ≡ refused_in (is_open d) n
  unfolding call_step first_accepted stepped
  step-refused e = rw e

-- a run from event k on, and all that is printed of it
record Runs (k : ℕ) (rest : Bytes) (ps : List Bytes) (d : Doc) (w : Bytes) : Type 0 where
  run : Run
  feeds : Feeds (λ i. program_room) k rest ps (is_open d) run
  prints : w ≡ printed k run

printed_on : (k : ℕ) (r : Report) (n : Run) → printed k (in_front r n) ≡ r.output ++ printed (suc k) n
unfolding printed in_front
printed_on k r n =
    let e : k + suc n.events ≡ suc k + n.events = omega arith in
    rw e (append_assoc r.output n.output _)

runs_on : {k : ℕ} {rest : Bytes} {ps : List Bytes} {d : Doc} {w : Bytes} (a : Accepted) → first_accepted (is_empty ps) rest program_room d ≡ good a
    → Runs (suc k) (drop a.size rest) ps a.behind w → Runs k rest ps d (a.lines ++ w)
runs_on {k} {rest} {ps} {d} a e r =
    let q : host_step ps rest program_room (is_open d) ≡ record { answer = 0; consumed = a.size; output = a.lines; behind = is_open a.behind } = step_good (is_empty ps) rest d e in
    record {
      run = in_front (host_step ps rest program_room (is_open d)) r.run;
      feeds = does {k = k} {rest = rest} {ps = ps} {q = is_open d} {n = r.run} program_room (omega arith) (rw q) (rw q r.feeds);
      prints = rw (printed_on k (host_step ps rest program_room (is_open d)) r.run, q, r.prints);
    }

does_runs : {k : ℕ} {rest : Bytes} {ps : List Bytes} {d : Doc} {w : Bytes} {j n : ℕ} {o : Bytes} {d' : Doc}
    → Does (is_empty ps) rest d j n o d' → Runs (k + j) (drop n rest) ps d' w → Runs k rest ps d (o ++ w)
does_runs {k} none r = rw (add-zero k) at r
does_runs {k} {rest} {ps} {w = w} (one {k = j} {n = n} {o = o} {d' = e} h a q) r =
    rw append_assoc (does_runs {w = a.lines ++ w} h (runs_on a q (rw (drop-drop, ← add-suc k j) r)))

refused_runs : {k : ℕ} {rest : Bytes} {ps : List Bytes} {d : Doc} {n : Refusal} → first_accepted (is_empty ps) rest program_room d ≡ refuse n → (n ≡ Incomplete → ⊥)
    → Runs k rest ps d (last_line (number n) k)
unfolding calls.refused refused_in printed ending when◌then◌else◌
refused_runs {k} {rest} {ps} {d} {n} e h =
    let q : host_step ps rest program_room (is_open d) ≡ refused_in (is_open d) n = step-refused (is_empty ps) rest d e in
    let no : number n ≡ 1 → ⊥ = λ z. h (number_injective n Incomplete z) in
    let z : k + 0 ≡ k = omega arith in
    record {
      run = ending (host_step ps rest program_room (is_open d));
      feeds = ends {rest = rest} {ps = ps} {q = is_open d} program_room (omega arith) (rw q (number_positive n)) (λ y. absurd (no (rw q at y))) (λ y. refl);
      prints = rw (q, ne_eqb (number n) 1 no, z);
    }

over_runs : {k : ℕ} {rest : Bytes} {d : Doc} → first_accepted true rest program_room d ≡ refuse Incomplete → Runs k rest [] d (last_line (call_finish (is_open d)).answer k)
unfolding calls.refused refused_in calls.marked_by printed ending when◌then◌else◌ is_empty
over_runs {k} {rest} {d} e =
    let q : call_step true rest program_room (is_open d) ≡ refused_in (is_open d) Incomplete = step-refused true rest d e in
    let z : k + 0 ≡ k = omega arith in
    record {
      run = ending (call_step true rest program_room (is_open d));
      feeds = ends {rest = rest} {ps = []} {q = is_open d} program_room (omega arith) (rw q (number_positive Incomplete)) (λ y. refl) (λ y. refl);
      prints = rw (q, z);
    }

prints_runs : {k : ℕ} {rest : Bytes} {ps : List Bytes} {d : Doc} {w : Bytes} → Prints k rest ps d w → Runs k rest ps d w
prints_runs (feeds h p) = does_runs h (prints_runs p)
prints_runs (reads p) = let r = prints_runs p in record { run = r.run; feeds = gets r.feeds; prints = r.prints }
prints_runs (refused e h) = refused_runs e h
prints_runs (over e) = over_runs e

-- However its input comes in pieces, a program that goes this way prints what document 01's program prints of all of it: in
-- any mode, with a start base or without.
pub prints_all : {ps : List Bytes} {d : Doc} {w : Bytes} → Prints 1 [] ps d w → w ≡ print_all (concat ps) d
prints_all {ps} {d} p = let r = prints_runs p in r.prints ∙ sym (program_in_pieces d ps r.run r.feeds)

pub prints_pyx2nt : {ps : List Bytes} {w : Bytes} → Prints 1 [] ps (fresh base_mode option.none) w → w ≡ pyx2nt (concat ps)
prints_pyx2nt {ps} p = let r = prints_runs p in r.prints ∙ sym (pyx2nt_in_pieces ps r.run r.feeds)

-- ---- and there is such a way, however the input comes

abbrev Way : ℕ → Bytes → List Bytes → Doc → Type 0
Way k rest ps d = (w : Bytes) × Prints k rest ps d w

way_on : {k : ℕ} {rest : Bytes} {ps : List Bytes} {d : Doc} (a : Accepted) → first_accepted (is_empty ps) rest program_room d ≡ good a
    → Way (suc k) (drop a.size rest) ps a.behind → Way k rest ps d
way_on {k} {rest} {ps} {d} a e (w, p) =
    let q : k + 1 ≡ suc k = omega arith in
    let z : 0 + a.size ≡ a.size = omega arith in
    (([] ++ a.lines) ++ w, feeds {k = k} {rest = rest} {w = w} {j = 1} {n = 0 + a.size} (one none a e) (rw (q, z) p))

-- what an accepted event takes of the input
good_takes : (last : Bool) (s : Bytes) (d : Doc) {a : Accepted} → first_accepted last s program_room d ≡ good a → length (drop a.size s) < length s
good_takes last s d {a} e =
    let q : call_step last s program_room (is_open d) ≡ record { answer = 0; consumed = a.size; output = a.lines; behind = is_open a.behind } = step_good last s d e in
    let t : Takes last s a.size = rw q at (step_takes last s program_room (is_open d) (rw q)) in
    simp length-drop (omega (arith, t.some, t.at_most))

-- by what the next event comes to
one_event : (k : ℕ) (rest : Bytes) (ps : List Bytes) (d : Doc) → ((ps ≡ []) ⊎ Way k rest ps d)
    → ((a : Accepted) → first_accepted (is_empty ps) rest program_room d ≡ good a → Way (suc k) (drop a.size rest) ps a.behind) → Way k rest ps d
unfolding is_empty
one_event k rest ps d wait on = go (first_accepted (is_empty ps) rest program_room d) refl
  where
    unfinished : first_accepted (is_empty ps) rest program_room d ≡ refuse Incomplete → (ps ≡ []) ⊎ Way k rest ps d → Way k rest ps d
    unfinished e (inl z) = rw z (_, over (rw z at e))
    unfinished e (inr w) = w

    stops : (n : Refusal) → first_accepted (is_empty ps) rest program_room d ≡ refuse n → (b : Bool) → eqb (number n) 1 ≡ b → Way k rest ps d
    stops n e true q = unfinished (e ∙ ap refuse (number_injective n Incomplete (eqb-true _ _ q))) wait
    stops n e false q = (_, refused e (λ z. absurd (eqb-false (number n) 1 q (ap number z))))

    go : (x : Answer Accepted) → first_accepted (is_empty ps) rest program_room d ≡ x → Way k rest ps d
    go (good a) e = way_on a e (on a e)
    go (refuse n) e = stops n e (eqb (number n) 1) refl

at_hand : (ps : List Bytes) → ((k : ℕ) (rest : Bytes) (d : Doc) → (ps ≡ []) ⊎ Way k rest ps d) → (f k : ℕ) (rest : Bytes) (d : Doc) → length rest < f → Way k rest ps d
at_hand ps wait zero k rest d h = absurd (omega arith)
at_hand ps wait (suc f) k rest d h =
    one_event k rest ps d (wait k rest d) (λ a e. at_hand ps wait f (suc k) (drop a.size rest) a.behind (omega (arith, good_takes (is_empty ps) rest d e)))

way : (ps : List Bytes) (k : ℕ) (rest : Bytes) (d : Doc) → Way k rest ps d
way [] k rest d = at_hand [] (λ k rest d. inl refl) (suc (length rest)) k rest d (omega arith)
way (p ∷ ps) k rest d =
    at_hand (p ∷ ps) (λ k rest d. inr (let w = way ps k (rest ++ p) d in (w.0, reads w.1))) (suc (length rest)) k rest d (omega arith)

-- Wherever a program stands, its way can go on to the end; from the start, to all that document 01's program prints.
pub every_division_prints : (ps : List Bytes) → Prints 1 [] ps (fresh base_mode option.none) (pyx2nt (concat ps))
every_division_prints ps = let w = way ps 1 [] (fresh base_mode option.none) in rw (← prints_pyx2nt w.1) w.1
