-- The first event of the input, over what is lent: what `core` does, and how a step comes of it.
use Rattle.std.specs.Prelude.{ℕ, ◌≤◌, ◌<◌, ◌≡◌, refl, Bool, false, List, length, take}
use Rattle.std.proofs.Common.{sym, ◌∙◌, arith, length-take-le}
use Rattle.spec.specs.Limits.{most_event_bytes}
use Rattle.spec.specs.Bytes.{Bytes, ◌>>=◌}
use Rattle.spec.specs.Numbers.{Answer, refuse, good}
use Rattle.spec.specs.declared.Refusal.{Refusal}
use Rattle.spec.specs.declared.Refusal.TheVariants.{Incomplete, NotPyx, OverLimit}
use Rattle.spec.specs.NTriples.{write}
use Rattle.spec.specs.PyxCut.{cut}
use Rattle.spec.specs.Document.{Doc}
use Rattle.spec.specs.Opening.{Step}
use Rattle.spec.specs.Calls.{first_event, Accepted, accept}
use Rattle.copy.specs.Copy.{Wrote}
use Rattle.pyx.specs.declared.FirstError.{FirstError}
use Rattle.pyx.specs.declared.FirstError.TheVariants.{Wait, Unended, TooLong}
use Rattle.pyx.specs.First.{Cuts}
use Rattle.pyx.specs.Decode.{unread}
use Rattle.pyx.proofs.Clear.{first_read}
use Rattle.state.specs.declared.Registers.{Registers}
use Rattle.event.specs.declared.Advance.{Advance}
use Rattle.event.specs.Result.{parsed, accepted_as, accept-parsed}
use Rattle.event.specs.Progress.{Lent, Lawful, doc_in, Advanced, Progresses}
use Rattle.reader.specs.declared.stream.Taken.{Taken}
use Rattle.std.specs.Prelude.{Result, Ok, Err}

-- ---- what is done

-- what the definitions answer of the first event
unfoldable pub first_accepted : Bool → Bytes → ℕ → Doc → Answer Accepted
first_accepted last s room d = first_event (cut last s) >>= λ bytes. accept bytes room d

-- done: n bytes were consumed, the lines are written, and all is lawful and means the document behind the event
pub record Accepts (a : Answer Accepted) (s : Bytes) (n : ℕ) (d : Advance) (l l' : Lent) : Type 0 where
  pub what : Accepted
  pub answer : a ≡ good what
  pub consumed : n ≡ what.size
  pub some : 0 < n
  pub within : n ≤ length s
  pub wrote : Wrote l.out l'.out 0 d.written what.lines
  pub lawful : Lawful d.registers d.count d.used l'
  pub mark : d.registers.flags.closed ≡ false
  pub doc : doc_in d.registers d.count l' ≡ what.behind

abbrev pub Cases : Answer Accepted → Bytes → Result Taken Refusal → Lent → Lent → Type 0
Cases a s (Err n) l l' = (a ≡ refuse n) × (l' ≡ l)
Cases a s (Ok t) l l' = Accepts a s t.consumed t.behind l l'

-- in a document that registers and tables mean, with `count` rdf:IDs
pub record Takes (last : Bool) (s : Bytes) (r : Registers) (count : ℕ) (o : Result Taken Refusal) (l l' : Lent) : Type 0 where
  pub frame_words : length l'.frames ≡ length l.frames
  pub binding_words : length l'.bindings ≡ length l.bindings
  pub inner_words : length l'.inners ≡ length l.inners
  pub store : length l'.work ≡ length l.work
  pub place_words : length l'.places ≡ length l.places
  pub size_words : length l'.sizes ≡ length l.sizes
  pub id_store : length l'.ids ≡ length l.ids
  pub room : length l'.out ≡ length l.out
  pub cases : Cases (first_accepted last s (length l.out) (doc_in r count l)) s o l l'

-- by what an event of n bytes has done
abbrev pub taken_as : ℕ → Result Advance Refusal → Result Taken Refusal
taken_as n (Err k) = Err k
taken_as n (Ok a) = Ok (record { consumed = n; behind = a })

pub taken_stop : {o : Result Advance Refusal} {k : Refusal} (n : ℕ) → o ≡ Err k → Err k ≡ taken_as n o
taken_stop n e = rw e

pub taken_did : {o : Result Advance Refusal} {a : Advance} (n : ℕ) → o ≡ Ok a → Ok (record { consumed = n; behind = a }) ≡ taken_as n o
taken_did n e = rw e

-- ---- no event

module _ {last : Bool} {s : Bytes} {r : Registers} {count : ℕ} {l : Lent} where
  stays : {n : Refusal} → first_accepted last s (length l.out) (doc_in r count l) ≡ refuse n → Takes last s r count (Err n) l l
  stays e =
      record {
        frame_words = refl;
        binding_words = refl;
        inner_words = refl;
        store = refl;
        place_words = refl;
        size_words = refl;
        id_store = refl;
        room = refl;
        cases = (e, refl);
      }

  module _ {f : Result ℕ FirstError} (c : Cuts f last s) where
    pub take_wait : f ≡ Err Wait → Takes last s r count (Err Incomplete) l l
    unfolding first_accepted first_event ◌>>=◌
    take_wait q = stays (rw (← c.means, q))

    pub take_unended : f ≡ Err Unended → Takes last s r count (Err NotPyx) l l
    unfolding first_accepted first_event ◌>>=◌
    take_unended q = stays (rw (← c.means, q))

    pub take_long : f ≡ Err TooLong → Takes last s r count (Err OverLimit) l l
    unfolding first_accepted first_event ◌>>=◌
    take_long q = stays (rw (← c.means, q))

-- ---- an event

module _ {last : Bool} {s : Bytes} {f : Result ℕ FirstError} {n : ℕ} (c : Cuts f last s) (q : f ≡ Ok n) where
  whole_cuts : Cuts (Ok n) last s
  whole_cuts = rw q at c

  pub take-size : length (take n s) ≡ n
  take-size = length-take-le n s whole_cuts.sizes.within

  pub take_read : (scratch : List ℕ) → length scratch ≡ 32_768 → unread (take n s) scratch ≡ false
  unfolding most_event_bytes
  take_read scratch h = let m : n ≤ 32_768 = whole_cuts.sizes.most in first_read scratch whole_cuts (omega arith)

  module _ (room : ℕ) (d : Doc) where
    whole-accepted : first_accepted last s room d ≡ (parsed (take n s) room d >>= accepted_as n)
    unfolding first_accepted first_event ◌>>=◌
    whole-accepted = rw (← whole_cuts.means) (sym (accept-parsed (take n s) room d) ∙ rw take-size)

    pub take-refused : {k : Refusal} → parsed (take n s) room d ≡ refuse k → first_accepted last s room d ≡ refuse k
    unfolding ◌>>=◌
    take-refused e = whole-accepted ∙ rw e

    pub take_good : {t : Step} → parsed (take n s) room d ≡ good t
        → first_accepted last s room d ≡ good (record { size = n; lines = write t.0; behind = t.1 })
    unfolding ◌>>=◌ accepted_as
    take_good e = whole-accepted ∙ rw e

  module _ {r : Registers} {count : ℕ} {o : Result Advance Refusal} {l l' : Lent} (p : Progresses (parsed (take n s) (length l.out) (doc_in r count l)) o l l') where
    taken : {t : Result Taken Refusal} → Cases (first_accepted last s (length l.out) (doc_in r count l)) s t l l' → Takes last s r count t l l'
    taken h =
        record {
          frame_words = p.frame_words;
          binding_words = p.binding_words;
          inner_words = p.inner_words;
          store = p.store;
          place_words = p.place_words;
          size_words = p.size_words;
          id_store = p.id_store;
          room = p.room;
          cases = h;
        }

    take_stop : {k : Refusal} → o ≡ Err k → Takes last s r count (Err k) l l'
    take_stop {k} e =
        let x : (parsed (take n s) (length l.out) (doc_in r count l) ≡ refuse k) × (l' ≡ l) = rw e at p.cases in
        taken {t = Err k} (take-refused (length l.out) (doc_in r count l) x.0, x.1)

    take_did : {a : Advance} → o ≡ Ok a → Takes last s r count (Ok (record { consumed = n; behind = a })) l l'
    take_did {a} e =
        let x : Advanced (parsed (take n s) (length l.out) (doc_in r count l)) a l l' = rw e at p.cases in
        taken {t = Ok (record { consumed = n; behind = a })}
        (record {
          what = record { size = n; lines = write x.step.0; behind = x.step.1 };
          answer = take_good (length l.out) (doc_in r count l) x.answer;
          consumed = refl;
          some = whole_cuts.sizes.some;
          within = whole_cuts.sizes.within;
          wrote = x.wrote;
          lawful = x.lawful;
          mark = x.mark;
          doc = x.doc;
        })

  by_progress : {r : Registers} {count : ℕ} {l l' : Lent} (o : Result Advance Refusal) → Progresses (parsed (take n s) (length l.out) (doc_in r count l)) o l l' → Takes last s r count (taken_as n o) l l'
  by_progress (Err k) p = take_stop p refl
  by_progress (Ok a) p = take_did p refl

  pub take-parsed : {r : Registers} {count : ℕ} {l l' : Lent} {o : Result Advance Refusal} {t : Result Taken Refusal} → Progresses (parsed (take n s) (length l.out) (doc_in r count l)) o l l'
      → t ≡ taken_as n o → Takes last s r count t l l'
  take-parsed {o = o} p e = rw e (by_progress o p)
