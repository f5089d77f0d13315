-- How the input is cut into calls does not matter: the lines, the last answer and the state behind are the same for every division.
use Rattle.std.specs.Prelude.{◌≡◌, refl, ◌⊎◌, Bool, true, ℕ, zero, suc, ◌+◌, ◌≤◌, ◌<◌, length, drop}
use Rattle.std.proofs.Common.{sym, ◌∙◌, ap, subst, inl, inr, arith, length-drop, ne_eqb}
use Rattle.std.proofs.Math.Option.{Option, none}
use mathlib.Core.List.{List, [], ◌∷◌, ◌++◌, append_assoc, append-nil, cons≢nil}
use Rattle.std.proofs.lemmas.List.{drop-append-le}
use Rattle.spec.specs.Bytes.{Bytes, when◌then◌else◌, is_empty, concat, require◌or◌}
use Rattle.spec.specs.declared.Refusal.TheVariants.{Incomplete}
use Rattle.spec.specs.Calls.{State, is_open, may_start, started, call_start, Report, marked_by, refused, refused_in, call_step}
use Rattle.spec.specs.PyxCut.{cut}
use Rattle.spec.specs.Feeding.{Run, ending, in_front, onward, at_most, run, host_step, Feeds, gets, again, does, ends, printed}
use Rattle.spec.specs.Limits.{program_room}
use Rattle.spec.specs.Pyx2nt.{last_line, print, pyx2nt}
use Rattle.spec.specs.declared.Mode.{Mode}
use Rattle.spec.specs.Modes.{base_mode}
use Rattle.spec.specs.Document.{Doc, fresh}
use Rattle.theorems.specs.Refusals.{no_event, given_when, only-empty, more_room}
use Rattle.theorems.specs.Calls.{Reported, did, gave, reported, number_positive, step_by_table, same_state, Takes, zero_counts, step_takes, step_room, step-final, Steps, at_start, and_step, Written, written}

-- ---- a run is a step, and the run behind it

onward_on : (r : Report) (n : Run) → r.answer ≡ 0 → onward r n ≡ in_front r n
unfolding onward
onward_on r n h = rw h

onward_end : (r : Report) (n : Run) → (r.answer ≡ 0 → ⊥) → onward r n ≡ ending r
unfolding onward
onward_end r n h = go r.answer refl
  where
    go : (a : ℕ) → r.answer ≡ a → onward r n ≡ ending r
    go zero e = absurd (h e)
    go (suc a) e = rw e

onward-same : (r : Report) (n m : Run) → (r.answer ≡ 0 → n ≡ m) → onward r n ≡ onward r m
unfolding onward
onward-same r n m h = go r.answer refl
  where
    go : (a : ℕ) → r.answer ≡ a → onward r n ≡ onward r m
    go zero e = ap (onward r) (h e)
    go (suc a) e = rw e

-- nothing is done with an empty rest
nothing_done : (last : Bool) (room : ℕ) (q : State) → (call_step last [] room q).answer ≡ 0 → ⊥
nothing_done last room q h =
    let t : Takes last [] (call_step last [] room q).consumed = step_takes last [] room q h in
    let a : 1 ≤ (call_step last [] room q).consumed = t.some in
    let b : (call_step last [] room q).consumed ≤ 0 = t.at_most in
    omega arith

-- a step that does an event leaves less of the rest
less : (last : Bool) (s : Bytes) (room : ℕ) (q : State) → (call_step last s room q).answer ≡ 0 → length (drop (call_step last s room q).consumed s) < length s
less last s room q h =
    let t : Takes last s (call_step last s room q).consumed = step_takes last s room q h in
    let a : 1 ≤ (call_step last s room q).consumed = t.some in
    let b : (call_step last s room q).consumed ≤ length s = t.at_most in
    simp length-drop (omega arith)

-- the number of events allowed does not matter, if it is no less than the number of bytes
enough : (f g : ℕ) (room : ℕ → ℕ) (k : ℕ) (s : Bytes) (q : State) → length s ≤ f → length s ≤ g → at_most f room k s q ≡ at_most g room k s q
unfolding at_most
enough zero zero room k s q p p' = refl
enough zero (suc g) room k (b ∷ s) q p p' = absurd (omega arith)
enough (suc f) zero room k (b ∷ s) q p p' = absurd (omega arith)
enough zero (suc g) room k [] q p p' = sym (onward_end (call_step true [] (room k) q) _ (nothing_done true (room k) q))
enough (suc f) zero room k [] q p p' = onward_end (call_step true [] (room k) q) _ (nothing_done true (room k) q)
enough (suc f) (suc g) room k s q p p' =
    let r : Report = call_step true s (room k) q in
    onward-same r _ _ λ e. enough f g room (suc k) (drop r.consumed s) r.behind (omega (arith, less true s (room k) q e)) (omega (arith, less true s (room k) q e))

-- a run is a step and, where that does an event, the run behind it
pub run-onward : (room : ℕ → ℕ) (k : ℕ) (s : Bytes) (q : State)
    → run room k s q ≡ onward (call_step true s (room k) q) (run room (suc k) (drop (call_step true s (room k) q).consumed s) (call_step true s (room k) q).behind)
unfolding run at_most
run-onward room k s q =
    let r : Report = call_step true s (room k) q in
    enough (length s) (suc (length s)) room k s q (omega arith) (omega arith) ∙
    onward-same r _ _ λ e. enough (length s) (length (drop r.consumed s)) room (suc k) (drop r.consumed s) r.behind (omega (arith, less true s (room k) q e)) (omega arith)

-- ---- more input behind the rest

-- what a step answers, but 1 with pieces to come, it would answer with all of them at hand
with_pieces : (rest : Bytes) (ps : List Bytes) (room : ℕ) (q : State) → ((host_step ps rest room q).answer ≡ 1 → ps ≡ [])
    → call_step true (rest ++ concat ps) room q ≡ host_step ps rest room q
unfolding is_empty concat
with_pieces rest [] room q h = rw append-nil
with_pieces rest (p ∷ ps) room q h = step-final true rest (p ++ concat ps) room q λ e. cons≢nil (h e)

-- and but 2 with more room to give, it would answer with the most room
with_room : (last : Bool) (s : Bytes) (free room : ℕ) (q : State) → free ≤ room → ((call_step last s free q).answer ≡ 2 → free ≡ room) → call_step last s room q ≡ call_step last s free q
with_room last s free room q le h = go (call_step last s free q).answer refl
  where
    go : (a : ℕ) → (call_step last s free q).answer ≡ a → call_step last s room q ≡ call_step last s free q
    go zero e = more_room last s free room q le λ z. omega (arith, e, z)
    go (suc zero) e = more_room last s free room q le λ z. omega (arith, e, z)
    go (suc (suc zero)) e = ap (λ (n : ℕ). call_step last s n q) (sym (h e))
    go (suc (suc (suc a))) e = more_room last s free room q le λ z. omega (arith, e, z)

whole-step : (rest : Bytes) (ps : List Bytes) (free room : ℕ) (q : State) → free ≤ room → ((host_step ps rest free q).answer ≡ 1 → ps ≡ [])
    → ((host_step ps rest free q).answer ≡ 2 → free ≡ room) → call_step true (rest ++ concat ps) room q ≡ host_step ps rest free q
whole-step rest ps free room q le h g =
    let e : call_step true (rest ++ concat ps) free q ≡ host_step ps rest free q = with_pieces rest ps free q h in
    with_room true (rest ++ concat ps) free room q le (λ z. g (sym (ap (λ (r : Report). r.answer) e) ∙ z)) ∙ e

-- an event done is done in the run over all of the input
pub run_does : (room : ℕ → ℕ) (k : ℕ) (rest : Bytes) (ps : List Bytes) (q : State) (free : ℕ) → free ≤ room k → (host_step ps rest free q).answer ≡ 0
    → run room k (rest ++ concat ps) q
    ≡ in_front (host_step ps rest free q) (run room (suc k) (drop (host_step ps rest free q).consumed rest ++ concat ps) (host_step ps rest free q).behind)
run_does room k rest ps q free le h =
    let r : Report = host_step ps rest free q in
    let t : Takes (is_empty ps) rest r.consumed = step_takes (is_empty ps) rest free q h in
    let e : call_step true (rest ++ concat ps) (room k) q ≡ r = whole-step rest ps free (room k) q le (λ z. absurd (omega (arith, h, z))) (λ z. absurd (omega (arith, h, z))) in
    let behind : Report → Run = λ x. onward x (run room (suc k) (drop x.consumed (rest ++ concat ps)) x.behind) in
    run-onward room k (rest ++ concat ps) q ∙ (ap behind e ∙ (onward_on r _ h
    ∙ ap (λ (s : Bytes). in_front r (run room (suc k) s r.behind)) (drop-append-le r.consumed rest (concat ps) t.at_most)))

-- a refusal ends the run over all of the input
pub run_ends : (room : ℕ → ℕ) (k : ℕ) (rest : Bytes) (ps : List Bytes) (q : State) (free : ℕ) → free ≤ room k → ((host_step ps rest free q).answer ≡ 0 → ⊥)
    → ((host_step ps rest free q).answer ≡ 1 → ps ≡ []) → ((host_step ps rest free q).answer ≡ 2 → free ≡ room k)
    → run room k (rest ++ concat ps) q ≡ ending (host_step ps rest free q)
run_ends room k rest ps q free le h g f =
    let r : Report = host_step ps rest free q in
    let e : call_step true (rest ++ concat ps) (room k) q ≡ r = whole-step rest ps free (room k) q le g f in
    let behind : Report → Run = λ x. onward x (run room (suc k) (drop x.consumed (rest ++ concat ps)) x.behind) in
    run-onward room k (rest ++ concat ps) q ∙ (ap behind e ∙ onward_end r _ h)

-- ---- every host's run is the run over all of its input

-- A host's run, in whatever pieces its input comes, is the run over all of the input at once.
pub as_one_piece : {room : ℕ → ℕ} {k : ℕ} {rest : Bytes} {ps : List Bytes} {q : State} {n : Run} → Feeds room k rest ps q n → n ≡ run room k (rest ++ concat ps) q
unfolding concat
as_one_piece {room} {k} {rest} {q = q} (gets {p = p} {ps = ps} h) = as_one_piece h ∙ ap (λ (s : Bytes). run room k s q) (append_assoc rest p (concat ps))
as_one_piece {room} {k} {rest} {ps} {q} (again free a h) = as_one_piece h ∙ ap (run room k (rest ++ concat ps)) (same_state (is_empty ps) rest free q a)
as_one_piece {room} {k} {rest} {ps} {q} (does free le a h) = ap (in_front (host_step ps rest free q)) (as_one_piece h) ∙ sym (run_does room k rest ps q free le a)
as_one_piece {room} {k} {rest} {ps} {q} (ends free le a b c) = sym (run_ends room k rest ps q free le a b c)

-- ---- the room

on_answer : (r : Report) (n : Run) → r.answer ≡ 0 → (onward r n).answer ≡ n.answer
unfolding in_front
on_answer r n e = ap (λ (x : Run). x.answer) (onward_on r n e)

end_answer : (r : Report) (n : Run) → r.answer ≡ 2 → (onward r n).answer ≡ 2
unfolding ending
end_answer r n e = ap (λ (x : Run). x.answer) (onward_end r n λ z. omega (arith, z, e)) ∙ e

same_rooms : (f : ℕ) (room room' : ℕ → ℕ) (k : ℕ) (s : Bytes) (q : State) → ((at_most f room k s q).answer ≡ 2 → ⊥) → ((at_most f room' k s q).answer ≡ 2 → ⊥)
    → at_most f room k s q ≡ at_most f room' k s q
unfolding at_most ending
same_rooms zero room room' k s q h g = ap ending (step_room true s (room k) (room' k) q h g)
same_rooms (suc f) room room' k s q h g =
    let r : Report = call_step true s (room k) q in
    let r' : Report = call_step true s (room' k) q in
    let behind : (ℕ → ℕ) → Report → Run = λ ρ x. at_most f ρ (suc k) (drop x.consumed s) x.behind in
    let e : r ≡ r' = step_room true s (room k) (room' k) q (λ z. h (end_answer r (behind room r) z)) (λ z. g (end_answer r' (behind room' r') z)) in
    let g' : (onward r (behind room' r)).answer ≡ 2 → ⊥ = λ z. g (sym (ap (λ (x : Report). (onward x (behind room' x)).answer) e) ∙ z) in
    onward-same r (behind room r) (behind room' r) (λ z. same_rooms f room room' (suc k) (drop r.consumed s) r.behind
    (λ y. h (on_answer r (behind room r) z ∙ y)) (λ y. g' (on_answer r (behind room' r) z ∙ y)))
    ∙ ap (λ (x : Report). onward x (behind room' x)) e

-- ---- every division has a run: that of a host that waits for the next piece only on 1

abbrev Fed : (ℕ → ℕ) → ℕ → Bytes → List Bytes → State → Type 0
Fed room k rest ps q = (n : Run) × Feeds room k rest ps q n

one-step : (room : ℕ → ℕ) (k : ℕ) (rest : Bytes) (ps : List Bytes) (q : State)
    → ((host_step ps rest (room k) q).answer ≡ 0 → Fed room (suc k) (drop (host_step ps rest (room k) q).consumed rest) ps (host_step ps rest (room k) q).behind)
    → ((host_step ps rest (room k) q).answer ≡ 1 → (ps ≡ []) ⊎ Fed room k rest ps (host_step ps rest (room k) q).behind)
    → Fed room k rest ps q
one-step room k rest ps q on-0 on-1 = go (host_step ps rest (room k) q).answer refl
  where
    all-of-it : room k ≤ room k
    all-of-it = omega arith

    stopped : ((host_step ps rest (room k) q).answer ≡ 0 → ⊥) → ((host_step ps rest (room k) q).answer ≡ 1 → ps ≡ []) → Fed room k rest ps q
    stopped h g = (ending (host_step ps rest (room k) q), ends (room k) all-of-it h g (λ z. refl))

    waited : (host_step ps rest (room k) q).answer ≡ 1 → (ps ≡ []) ⊎ Fed room k rest ps (host_step ps rest (room k) q).behind → Fed room k rest ps q
    waited e (inl z) = stopped (λ a. omega (arith, a, e)) (λ a. z)
    waited e (inr w) = (w.0, again (room k) (inl e) w.1)

    go : (a : ℕ) → (host_step ps rest (room k) q).answer ≡ a → Fed room k rest ps q
    go zero e = let w = on-0 e in (in_front (host_step ps rest (room k) q) w.0, does (room k) all-of-it e w.1)
    go (suc zero) e = waited e (on-1 e)
    go (suc (suc a)) e = stopped (λ z. omega (arith, z, e)) (λ z. absurd (omega (arith, z, e)))

-- the events at hand, then what is done on 1
at_hand : (room : ℕ → ℕ) (ps : List Bytes) → ((k : ℕ) (rest : Bytes) (q : State) → (ps ≡ []) ⊎ Fed room k rest ps q)
    → (f k : ℕ) (rest : Bytes) (q : State) → length rest < f → Fed room k rest ps q
at_hand room ps on-1 zero k rest q h = absurd (omega arith)
at_hand room ps on-1 (suc f) k rest q h =
    one-step room k rest ps q (λ e. at_hand room ps on-1 f (suc k) _ _ (omega (arith, less (is_empty ps) rest (room k) q e))) (λ e. on-1 k rest _)

patient : (ps : List Bytes) (room : ℕ → ℕ) (k : ℕ) (rest : Bytes) (q : State) → Fed room k rest ps q
patient [] room k rest q = at_hand room [] (λ k rest q. inl refl) (suc (length rest)) k rest q (omega arith)
patient (p ∷ ps) room k rest q =
    at_hand room (p ∷ ps) (λ k rest q. inr (let w = patient ps room k (rest ++ p) q in (w.0, gets w.1))) (suc (length rest)) k rest q (omega arith)

-- However the input comes in pieces, and wherever a host stands in it, its run can go on to the end.
pub every_division_runs : (room : ℕ → ℕ) (k : ℕ) (rest : Bytes) (ps : List Bytes) (q : State) → Feeds room k rest ps q (run room k (rest ++ concat ps) q)
every_division_runs room k rest ps q =
    let w : Fed room k rest ps q = patient ps room k rest q in
    subst (λ (n : Run). Feeds room k rest ps q n) (as_one_piece w.1) w.1

-- ---- a run is steps of a document

feeds_steps : (m : Mode) (b : Option Bytes) {room : ℕ → ℕ} {k : ℕ} {rest : Bytes} {ps : List Bytes} {q : State} {n : Run} (w : Bytes) → Feeds room k rest ps q n → Steps m b q w → Steps m b n.behind (w ++ n.output)
unfolding in_front ending
feeds_steps m b w (gets h) s = feeds_steps m b w h s
feeds_steps m b {rest = rest} {ps = ps} {q = q} w (again free a h) s = feeds_steps m b w h (subst (λ (x : State). Steps m b x w) (sym (same_state (is_empty ps) rest free q a)) s)
feeds_steps m b {rest = rest} {ps = ps} {q = q} w (does {n = n} free le a h) s =
    let r : Report = host_step ps rest free q in
    subst (λ (x : Bytes). Steps m b n.behind x) (append_assoc w r.output n.output) (feeds_steps m b (w ++ r.output) h (and_step s (is_empty ps) rest free))
feeds_steps m b {rest = rest} {ps = ps} {q = q} w (ends free le a c g) s =
    let r : Report = host_step ps rest free q in
    let e : r.output ≡ [] = (zero_counts q r (step_by_table (is_empty ps) rest free q) a).1 in
    subst (λ (x : Bytes). Steps m b r.behind (w ++ x)) e (and_step s (is_empty ps) rest free)

-- What a host's run from a fresh document writes is the lines of its accepted events, which lead to the document behind it.
pub run_writes : (m : Mode) (b : Option Bytes) (room : ℕ → ℕ) (k : ℕ) (ps : List Bytes) (n : Run) → Feeds room k [] ps (is_open (fresh m b)) n → Written m b n.behind n.output
run_writes m b room k ps n h = written m b n.behind n.output (feeds_steps m b [] h at_start)

-- ---- the program pyx2nt

printed_on : (k : ℕ) (r : Report) (n : Run) → printed k (in_front r n) ≡ r.output ++ printed (suc k) n
unfolding printed in_front
printed_on k r n =
    let e : k + suc n.events ≡ suc k + n.events = omega arith in
    rw e (append_assoc r.output n.output _)

printed_end : (k : ℕ) (r : Report) → (r.answer ≡ 1 → ⊥) → printed k (ending r) ≡ last_line r.answer k
unfolding printed ending when◌then◌else◌
printed_end k r h = let e : k + 0 ≡ k = omega arith in rw (ne_eqb r.answer 1 h, e) refl

print_on : (f k : ℕ) (b : ℕ) (rest : Bytes) (s : State) → (call_step true (b ∷ rest) program_room s).answer ≡ 0
    → print (suc f) k (b ∷ rest) s ≡ (call_step true (b ∷ rest) program_room s).output ++ print f (suc k) (drop (call_step true (b ∷ rest) program_room s).consumed (b ∷ rest)) (call_step true (b ∷ rest) program_room s).behind
unfolding print
print_on f k b rest s h = rw (h, print) refl

print_end : (f k : ℕ) (b : ℕ) (rest : Bytes) (s : State) → ((call_step true (b ∷ rest) program_room s).answer ≡ 0 → ⊥)
    → print (suc f) k (b ∷ rest) s ≡ last_line (call_step true (b ∷ rest) program_room s).answer k
unfolding print
print_end f k b rest s h = go (call_step true (b ∷ rest) program_room s).answer refl
  where
    go : (a : ℕ) → (call_step true (b ∷ rest) program_room s).answer ≡ a → print (suc f) k (b ∷ rest) s ≡ last_line (call_step true (b ∷ rest) program_room s).answer k
    go zero e = absurd (h e)
    go (suc a) e = rw (e, print) refl

-- a document that goes on is open
goes_on_open : (d : Doc) (r : Report) → Reported d r → r.answer ≡ 0 → (d' : Doc) × (r.behind ≡ is_open d')
unfolding refused_in refused
goes_on_open d r (did bytes e us d' c p q) h = (d', refl)
goes_on_open d r (gave x) h = absurd (number_positive x h)

abbrev pub program_run : ℕ → Bytes → State → Run
program_run k s q = run (λ i. program_room) k s q

print-empty : (f k : ℕ) (d : Doc) → print (suc f) k [] (is_open d) ≡ printed k (program_run k [] (is_open d))
unfolding print printed run at_most ending when◌then◌else◌ refused_in refused marked_by cut
print-empty f k d =
    let e : call_step true [] program_room (is_open d) ≡ refused_in (is_open d) Incomplete = given_when true [] program_room (is_open d) Incomplete (no_event d refl) in
    let z : k + 0 ≡ k = omega arith in
    rw (e, z) refl

print-step : (f k : ℕ) (b : ℕ) (rest : Bytes) (d : Doc) → length (b ∷ rest) < suc f
    → ((s : Bytes) (d' : Doc) → length s < f → print f (suc k) s (is_open d') ≡ printed (suc k) (program_run (suc k) s (is_open d')))
    → print (suc f) k (b ∷ rest) (is_open d) ≡ printed k (program_run k (b ∷ rest) (is_open d))
print-step f k b rest d h ih = go (call_step true (b ∷ rest) program_room (is_open d)).answer refl
  where
    go : (a : ℕ) → (call_step true (b ∷ rest) program_room (is_open d)).answer ≡ a → print (suc f) k (b ∷ rest) (is_open d) ≡ printed k (program_run k (b ∷ rest) (is_open d))
    go zero e =
        let r : Report = call_step true (b ∷ rest) program_room (is_open d) in
        let s : Bytes = drop r.consumed (b ∷ rest) in
        let o : (d' : Doc) × (r.behind ≡ is_open d') = goes_on_open d r (reported true (b ∷ rest) program_room d) e in
        let same : print f (suc k) s r.behind ≡ printed (suc k) (program_run (suc k) s r.behind) =
        rw o.1 (ih s o.0 (omega (arith, less true (b ∷ rest) program_room (is_open d) e))) in
        let whole : program_run k (b ∷ rest) (is_open d) ≡ in_front r (program_run (suc k) s r.behind) =
        run-onward (λ i. program_room) k (b ∷ rest) (is_open d) ∙ onward_on r (program_run (suc k) s r.behind) e in
        print_on f k b rest (is_open d) e ∙ (ap (λ (x : Bytes). r.output ++ x) same ∙ sym (ap (printed k) whole ∙ printed_on k r (program_run (suc k) s r.behind)))
    go (suc a) e =
        let r : Report = call_step true (b ∷ rest) program_room (is_open d) in
        let no : r.answer ≡ 0 → ⊥ = λ z. omega (arith, z, e) in
        let whole : program_run k (b ∷ rest) (is_open d) ≡ ending r =
        run-onward (λ i. program_room) k (b ∷ rest) (is_open d) ∙ onward_end r _ no in
        print_end f k b rest (is_open d) no ∙ sym (ap (printed k) whole ∙ printed_end k r λ z. cons≢nil (only-empty (b ∷ rest) program_room (is_open d) z))

print-run : (f k : ℕ) (rest : Bytes) (d : Doc) → length rest < f → print f k rest (is_open d) ≡ printed k (program_run k rest (is_open d))
print-run zero k rest d h = absurd (omega arith)
print-run (suc f) k [] d h = print-empty f k d
print-run (suc f) k (b ∷ rest) d h = print-step f k b rest d h λ s d'. print-run f (suc k) s d'

-- all that a program prints of its input, from a document that begins
abbrev pub print_all : Bytes → Doc → Bytes
print_all s d = print (suc (length s)) 1 s (is_open d)

-- it is the output of the run over all of the input, then the refusal if any
pub program_run_lem : (s : Bytes) (d : Doc) → print_all s d ≡ printed 1 (program_run 1 s (is_open d))
program_run_lem s d = print-run (suc (length s)) 1 s d (omega arith)

-- pyx2nt begins without a base
pub pyx2nt-run : (s : Bytes) → pyx2nt s ≡ printed 1 (program_run 1 s (is_open (fresh base_mode none)))
unfolding pyx2nt call_start started may_start require◌or◌
pyx2nt-run s = program_run_lem s (fresh base_mode none)

-- ---- the theorems

-- For every division of the same bytes: the same output, the same last answer, as many events, the same state behind.
pub division_does_not_matter : (room : ℕ → ℕ) (k : ℕ) (ps ps' : List Bytes) (q : State) (n n' : Run) → concat ps ≡ concat ps'
    → Feeds room k [] ps q n → Feeds room k [] ps' q n' → n ≡ n'
division_does_not_matter room k ps ps' q n n' e h g = as_one_piece h ∙ (ap (λ (s : Bytes). run room k s q) e ∙ sym (as_one_piece g))

-- Nor does it matter what room each event is given, unless a run ends for want of it (2).
pub room_does_not_matter : (room room' : ℕ → ℕ) (k : ℕ) (ps ps' : List Bytes) (q : State) (n n' : Run) → concat ps ≡ concat ps'
    → Feeds room k [] ps q n → Feeds room' k [] ps' q n' → (n.answer ≡ 2 → ⊥) → (n'.answer ≡ 2 → ⊥) → n ≡ n'
unfolding run
room_does_not_matter room room' k ps ps' q n n' e h g a b =
    let u : n ≡ run room k (concat ps) q = as_one_piece h in
    let v : n' ≡ run room' k (concat ps) q = as_one_piece g ∙ ap (λ (s : Bytes). run room' k s q) (sym e) in
    u ∙ (same_rooms (length (concat ps)) room room' k (concat ps) q (λ z. a (ap (λ (x : Run). x.answer) u ∙ z)) (λ z. b (ap (λ (x : Run). x.answer) v ∙ z)) ∙ sym v)

-- So a program may print as it reads: in whatever pieces its input comes, it is to print what its steps give, then the refusal if any.
pub program_in_pieces : (d : Doc) (ps : List Bytes) (n : Run) → Feeds (λ i. program_room) 1 [] ps (is_open d) n → print_all (concat ps) d ≡ printed 1 n
program_in_pieces d ps n h = program_run_lem (concat ps) d ∙ ap (printed 1) (sym (as_one_piece h))

pub pyx2nt_in_pieces : (ps : List Bytes) (n : Run) → Feeds (λ i. program_room) 1 [] ps (is_open (fresh base_mode none)) n → pyx2nt (concat ps) ≡ printed 1 n
pyx2nt_in_pieces ps n h = pyx2nt-run (concat ps) ∙ ap (printed 1) (sym (as_one_piece h))
