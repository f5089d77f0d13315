-- Document 01, "The strength of the contracts": a step that meets its contract is none of the five that are to be shut out.
-- Four fall at a small input, the first of a document or the second: whatever meets `Steps` does otherwise there.
use Rattle.std.specs.Prelude.{ℕ, zero, suc, ◌+◌, ◌≡◌, ◌⊎◌, Bool, false, leb, length, take, replicate}
use Rattle.std.proofs.Math.Path.{refl, ap}
use Rattle.std.proofs.Common.{sym, ◌∙◌, inl, inr, arith}
use Rattle.std.proofs.Math.Bool.{true}
use Rattle.std.proofs.Math.Option.{none}
use mathlib.Core.List.{List, [], ◌∷◌, nil≢cons, head-eq_of_cons-eq}
use Rattle.std.proofs.lemmas.List.{length-replicate}
use Rattle.spec.specs.Limits.{most_ids}
use Rattle.spec.specs.Bytes.{Bytes, ascii, every, ◌>>=◌, ◌>>◌, require◌or◌}
use Rattle.spec.specs.Numbers.{good}
use Rattle.spec.specs.declared.Refusal.{Refusal}
use Rattle.spec.specs.Pyx.{Event, read_event}
use Rattle.spec.specs.PyxCut.{whole, cut}
use Rattle.spec.specs.Modes.{base_mode}
use Rattle.spec.specs.NTriples.{Triple, write}
use Rattle.spec.specs.Document.{Doc, fresh}
use Rattle.spec.specs.RdfXml.{next}
use Rattle.spec.specs.Calls.{is_open, call_step}
use Rattle.spec.specs.Calls as calls
use Rattle.theorems.specs.Calls.{number_positive, step_by_table, zero_counts}
use Rattle.copy.specs.Copy.{wrote_front}
use Rattle.state.specs.Live.{started_with}
use Rattle.reader_contract.specs.declared.State.{State}
use Rattle.reader_contract.specs.declared.Report.{Report}
use Rattle.reader_contract.specs.Meaning.{meaning_of, Fresh, fresh_means}
use Rattle.reader_contract.specs.Meets.{number_of, Steps}
use Rattle.state_words.specs.Parts.{TABLE}
use Rattle.std.specs.Prelude.{Result, Ok, Err}

-- ---- a step as a function

-- all that it is handed, and all that it hands back
pub record Handed : Type 0 where
  pub last : Bool
  pub input : Bytes
  pub state : State
  pub work : List ℕ
  pub ids : List ℕ
  pub out : List ℕ

pub record Back : Type 0 where
  pub report : Report
  pub work : List ℕ
  pub ids : List ℕ
  pub out : List ℕ

abbrev pub Call : Type 0
Call = Handed → Back

-- the next call: the state and the stores as this one left them
abbrev pub again : Back → Bool → Bytes → List ℕ → Handed
again b last input out =
    record { last = last; input = input; state = b.report.state; work = b.work; ids = b.ids; out = out }

-- It meets the contract at every call of a set D. That can be all calls, or those that the types of a program let it make.
abbrev pub Obeys : (Handed → Type 0) → Call → Type 0
Obeys D f = (a : Handed) → D a
    → Steps a.last a.input a.state a.work a.ids a.out (f a).report (f a).work (f a).ids (f a).out

-- ---- the five

-- "refusing always"
abbrev pub RefusesAlways : (Handed → Type 0) → Call → Type 0
RefusesAlways D f = (a : Handed) → D a → (f a).report.answer ≡ Ok tt → ⊥

-- "one fixed answer"
abbrev pub OneAnswer : (Handed → Type 0) → Call → Type 0
OneAnswer D f = (n : Result Unit Refusal) × ((a : Handed) → D a → (f a).report.answer ≡ n)

-- a call wrote nothing, by its count or in fact
abbrev pub Silent : Handed → Back → Type 0
Silent a b = (b.report.written ≡ 0) ⊎ (b.out ≡ a.out)

-- "consuming events but writing nothing"
abbrev pub WritesNothing : (Handed → Type 0) → Call → Type 0
WritesNothing D f = (a : Handed) → D a → Silent a (f a)

-- "working on the first event and then only advancing": behind a call that is done, the next writes nothing
abbrev pub OnlyAdvances : (Handed → Type 0) → Call → Type 0
OnlyAdvances D f = (a : Handed) → D a → (f a).report.answer ≡ Ok tt → (last : Bool) (input : Bytes) (out : List ℕ)
    → D (again (f a) last input out) → Silent (again (f a) last input out) (f (again (f a) last input out))

-- of an accepted event the counts are not its bytes and the bytes of its lines, or of a refusal they are not 0
pub data Invents (a : Handed) (b : Back) : Type 0 where
  of_event : (d : Doc) (bytes : Bytes) (e : Event) (us : List Triple) (d' : Doc)
      → meaning_of a.state a.work a.ids ≡ is_open d → cut a.last a.input ≡ whole bytes
      → read_event bytes ≡ good e → next e d ≡ good (us, d') → leb (length (write us)) (length a.out) ≡ true
      → ((b.report.consumed ≡ length bytes) × (b.report.written ≡ length (write us)) → ⊥) → Invents a b
  of_refusal : (n : Refusal) → b.report.answer ≡ Err n
      → ((b.report.consumed ≡ 0) × (b.report.written ≡ 0) → ⊥) → Invents a b

-- "inventing counts"
abbrev pub InventsCounts : (Handed → Type 0) → Call → Type 0
InventsCounts D f = (a : Handed) × D a × Invents a (f a)

-- ---- a document that begins

pub zeros : ℕ → List ℕ
zeros n = replicate n 0

zeros_length : (n : ℕ) → length (zeros n) ≡ n
unfolding zeros
zeros_length n = length-replicate {A = ℕ} n 0

pub begun : State
begun =
    record {
      registers = started_with base_mode false 0;
      frames = zeros TABLE;
      bindings = zeros 384;
      inners = zeros 192;
      ids = record { count = 0; used = 0; at = zeros most_ids; len = zeros most_ids };
    }

begun_fresh : Fresh base_mode false 0 begun
unfolding begun zeros
begun_fresh =
    record {
      registers = refl;
      frames = zeros_length TABLE;
      bindings = zeros_length 384;
      inners = zeros_length 192;
      ids = record { count = refl; used = refl; places = refl; sizes = refl };
    }

begun_means : meaning_of begun (zeros 65_536) (zeros 32_768) ≡ is_open (fresh base_mode none)
begun_means = fresh_means (zeros 65_536) (zeros 32_768) begun_fresh (zeros_length 65_536) (zeros_length 32_768) (omega arith) refl

-- its first call, with this input, and room for a line or two
abbrev pub first : Bytes → Handed
first input = record { last = true; input = input; state = begun; work = zeros 65_536; ids = zeros 32_768; out = zeros 128 }

-- of bytes
abbrev pub AreBytes : List ℕ → Type 0
AreBytes s = every (λ b. leb b 255) s ≡ true

-- The set has the first calls of that document, and behind a call that is done the next.
pub record Made (D : Handed → Type 0) (f : Call) : Type 0 where
  pub firsts : (input : Bytes) → AreBytes input → D (first input)
  pub nexts : (a : Handed) → D a → (f a).report.answer ≡ Ok tt → (input : Bytes) → AreBytes input → D (again (f a) true input (zeros 128))

-- what the definitions report of it
abbrev told : Bytes → calls.Report
told input = call_step true input 128 (is_open (fresh base_mode none))

told_first : (input : Bytes) → call_step true input (length (zeros 128)) (meaning_of begun (zeros 65_536) (zeros 32_768)) ≡ told input
told_first input = rw (zeros_length 128, begun_means) refl

-- ---- three inputs

-- an instruction, which is accepted
abbrev instruction : Bytes
instruction = ascii "?\n"

-- a node element, which writes its type
abbrev node : Bytes
node = ascii "(a:b\nAxmlns:a c\n"

-- a property with an attribute, which writes that
abbrev property : Bytes
property = ascii "(a:d\nAa:e f\n"

instruction_done : (told instruction).answer ≡ 0
unfolding calls.all
instruction_done = refl

nothing_waits : (told []).answer ≡ 1
unfolding calls.all
nothing_waits = refl

node_done : (told node).answer ≡ 0
unfolding calls.all
node_done = refl

node_writes : (told node).output ≡ ascii "_:riog00000001 <http://www.w3.org/1999/02/22-rdf-syntax-ns#type> <cb> .\n"
unfolding calls.all
node_writes = refl

property_writes : (call_step true property 128 (told node).behind).output ≡ ascii "_:riog00000002 <ce> \"f\" .\n"
unfolding calls.all
property_writes = refl

-- ---- what a call does that meets the contract

done : (a : Result Unit Refusal) → number_of a ≡ 0 → a ≡ Ok tt
done (Ok _) e = refl
done (Err n) e = absurd (number_positive n e)

take_zeros : (k n c : ℕ) (s : Bytes) → take k (zeros n) ≡ c ∷ s → c ≡ 0
unfolding zeros
take_zeros zero n c s e = absurd (nil≢cons e)
take_zeros (suc k) zero c s e = absurd (nil≢cons e)
take_zeros (suc k) (suc n) c s e = sym (head-eq_of_cons-eq e)

-- into an output of zeros it writes lines, so it is not silent
module _ (n : ℕ) {last : Bool} {input : Bytes} {s : State} {w i : List ℕ} {r : Report} {w' i' out' : List ℕ} (x : Steps last input s w i (zeros n) r w' i' out') where
  speaks : (c : ℕ) (t : Bytes) → (c ≡ 0 → ⊥) → (call_step last input (length (zeros n)) (meaning_of s w i)).output ≡ c ∷ t → (r.written ≡ 0) ⊎ (out' ≡ zeros n) → ⊥
  speaks c t not-zero e (inl z) = let k : r.written ≡ 0 + length (c ∷ t) = x.meets.wrote.up ∙ ap (λ (u : Bytes). 0 + length u) e in omega (arith, k, z)
  speaks c t not-zero e (inr z) = not-zero (take_zeros r.written n c t (ap (take r.written) (sym z) ∙ (wrote_front x.meets.wrote ∙ e)))

-- ---- the theorems

module _ (D : Handed → Type 0) (f : Call) (made : Made D f) (obeys : Obeys D f) where
  module _ (input : Bytes) (are : AreBytes input) where
    first_obeys : Steps true input begun (zeros 65_536) (zeros 32_768) (zeros 128)
        (f (first input)).report (f (first input)).work (f (first input)).ids (f (first input)).out
    first_obeys = obeys (first input) (made.firsts input are)

    first_answer : (n : ℕ) → (told input).answer ≡ n → number_of (f (first input)).report.answer ≡ n
    first_answer n e = first_obeys.meets.answer ∙ (ap (λ (q : calls.Report). q.answer) (told_first input) ∙ e)

    first_done : (told input).answer ≡ 0 → (f (first input)).report.answer ≡ Ok tt
    first_done e = done _ (first_answer 0 e)

  -- an instruction is accepted
  pub not_refusing_always : RefusesAlways D f → ⊥
  unfolding ascii every
  not_refusing_always h = h (first instruction) (made.firsts instruction refl) (first_done instruction refl instruction_done)

  -- an instruction is accepted, and without any input there is no event yet
  pub not_one-answer : OneAnswer D f → ⊥
  unfolding ascii every
  not_one-answer (n, h) =
      let zero' : number_of n ≡ 0 = ap number_of (sym (h (first instruction) (made.firsts instruction refl))) ∙ first_answer instruction refl 0 instruction_done in
      let one : number_of n ≡ 1 = ap number_of (sym (h (first []) (made.firsts [] refl))) ∙ first_answer [] refl 1 nothing_waits in
      omega (arith, zero', one)

  -- a node element writes its type
  pub not_writing_nothing : WritesNothing D f → ⊥
  unfolding ascii every
  not_writing_nothing h =
      speaks 128 (first_obeys node refl) _ _ (λ e. omega (arith, e)) (ap (λ (q : calls.Report). q.output) (told_first node) ∙ node_writes)
      (h (first node) (made.firsts node refl))

  -- behind a node element, which is done, a property writes its attribute
  pub not_only_advancing : OnlyAdvances D f → ⊥
  unfolding ascii every
  not_only_advancing h =
      let b : Back = f (first node) in
      let in-set : D (first node) = made.firsts node refl in
      let is-done : b.report.answer ≡ Ok tt = first_done node refl node_done in
      let second : D (again b true property (zeros 128)) = made.nexts (first node) in-set is-done property refl in
      let means : meaning_of b.report.state b.work b.ids ≡ (told node).behind =
      (first_obeys node refl).meets.behind ∙ ap (λ (q : calls.Report). q.behind) (told_first node) in
      let lines : (call_step true property (length (zeros 128)) (meaning_of b.report.state b.work b.ids)).output ≡ ascii "_:riog00000002 <ce> \"f\" .\n" =
      rw (zeros_length 128, means) property_writes in
      speaks 128 (obeys (again b true property (zeros 128)) second) _ _ (λ e. omega (arith, e)) lines
      (h (first node) in-set is-done true property (zeros 128) second)

  -- the counts are the definitions'
  counts : (a : Handed) → D a → (c : ℕ) (o : Bytes)
      → (call_step a.last a.input (length a.out) (meaning_of a.state a.work a.ids)).consumed ≡ c
      → (call_step a.last a.input (length a.out) (meaning_of a.state a.work a.ids)).output ≡ o
      → ((f a).report.consumed ≡ c) × ((f a).report.written ≡ length o)
  counts a in-set c o p q =
      let up : (f a).report.written ≡ 0 + length o = (obeys a in-set).meets.wrote.up ∙ ap (λ (u : Bytes). 0 + length u) q in
      ((obeys a in-set).meets.consumed ∙ p, omega (arith, up))

  refused_none : (a : Handed) → D a → (n : Refusal) → (f a).report.answer ≡ Err n → ((f a).report.consumed ≡ 0) × ((f a).report.written ≡ 0)
  refused_none a in-set n is =
      let t : calls.State = meaning_of a.state a.work a.ids in
      let z : ((call_step a.last a.input (length a.out) t).consumed ≡ 0) × ((call_step a.last a.input (length a.out) t).output ≡ []) =
      zero_counts t (call_step a.last a.input (length a.out) t) (step_by_table a.last a.input (length a.out) t)
      (λ e. number_positive n (ap number_of (sym is) ∙ ((obeys a in-set).meets.answer ∙ e))) in
      counts a in-set 0 [] z.0 z.1

  -- of an accepted event they are its bytes and the bytes of its lines, of a refusal 0
  pub not_inventing_counts : InventsCounts D f → ⊥
  unfolding call_step calls.first_event calls.accept calls.stepped ◌>>=◌ ◌>>◌ require◌or◌
  not_inventing_counts (a, in-set, of_event d bytes e us d' means cuts reads does fits n) =
      n (counts a in-set (length bytes) (write us) (rw (means, cuts, reads, does, fits) refl) (rw (means, cuts, reads, does, fits) refl))
  not_inventing_counts (a, in-set, of_refusal r is n) = n (refused_none a in-set r is)
