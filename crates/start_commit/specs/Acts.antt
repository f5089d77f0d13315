-- A start tag that was judged good is carried out: the document behind it keeps the limits, and is what the state means.
use Rattle.std.specs.Prelude.{ℕ, ◌≡◌, refl, false, List, length, take, Result, Ok, Err, is_ok}
use Rattle.std.proofs.Math.Path.{sym, ap}
use Rattle.std.proofs.Common.{◌∙◌, ap, arith, le-leb}
use Rattle.std.proofs.Math.Bool.{true}
use Rattle.std.proofs.Math.Dec.{leb}
use Rattle.spec.specs.Bytes.{total}
use Rattle.spec.specs.Numbers.{good}
use Rattle.spec.specs.declared.Refusal.{Refusal}
use Rattle.spec.specs.declared.Refusal.TheVariants.{NoRoom}
use Rattle.spec.specs.Limits as L
use Rattle.spec.specs.NTriples.{write}
use Rattle.spec.specs.Pyx.{opening}
use Rattle.spec.specs.Document.{held_bytes, fits}
use Rattle.spec.specs.Opening.{Step, enter}
use Rattle.spec.specs.RdfXml.{on_event}
use Rattle.state_ids.specs.declared.Filled.{Filled}
use Rattle.state_ids.specs.Ids.{ids_of, room_for, ValidIds, length_ids, total_ids}
use Rattle.state_ids.specs.Adding.{has_room}
use Rattle.state.specs.declared.Registers.{Registers}
use Rattle.state.specs.Meaning.{subject_below, doc_of}
use Rattle.state_stack.specs.Calls.{top_frame}
use Rattle.state_stack.specs.Change.{holds-doc}
use Rattle.state_inner.specs.Calls.{language_in}
use Rattle.start_names.specs.Tag.{attributes_of}
use Rattle.event.specs.Result.{IdsFit, fits-held, handled, handled_by, concluded, all_fits, no_room}
use Rattle.event.specs.Progress.{lent, doc_in, Lawful, HandlesAll, stopped}
use Rattle.start_element.specs.declared.Source.{Source}
use Rattle.start_element.specs.declared.Source.TheVariants.{Missing, Own, Made}
use Rattle.start_element.specs.Element.{text_of, maybe, new_element}
use Rattle.start_element.specs.Laws.{held_with_lem, Commits}
use Rattle.start_plan.specs.declared.Start.{Start}
use Rattle.start_plan.specs.Plan.{is_there}
use Rattle.start_plan.specs.Goes.{lines_by, behind_by, Goes}
use Rattle.writer.specs.Said.{Says}
use Rattle.start_commit.specs.Told.{lines_of, lines_are}
use Rattle.start_commit.specs.Entered.{Enters}

-- the rdf:IDs behind it keep their limits
ids_fit : {count used : ℕ} {ia il st : List ℕ} → ValidIds count used ia il st → (s : Source) (e a : List ℕ)
    → (is_there s ≡ true → room_for count used (length (text_of s e a)) ≡ true) → IdsFit (enter (maybe s e a) (ids_of ia il st count))
unfolding enter maybe text_of total L.all
ids_fit {count} {used} {ia} {il} {st} v Missing e a h =
    record { few = omega (arith, length_ids ia il st count, v.few); small = omega (arith, total_ids v, v.within) }
ids_fit {count} {used} {ia} {il} {st} v (Own i n) e a h =
    let r = has_room (h refl) in
    record { few = omega (arith, length_ids ia il st count, r.few); small = omega (arith, total_ids v, r.bytes) }
ids_fit {count} {used} {ia} {il} {st} v (Made i n) e a h =
    let r = has_room (h refl) in
    record { few = omega (arith, length_ids ia il st count, r.few); small = omega (arith, total_ids v, r.bytes) }

module _ {x : Start} {r : Registers} {count used : ℕ} {fs bs is w ia il st out e v : List ℕ} {m k : ℕ} {a cs rs : List ℕ} (y : Lawful r count used (lent fs bs is w ia il st out))
    (z : r.counts.inner ≡ 0) (g : Goes x (doc_in r count (lent fs bs is w ia il st out)) r fs bs w e v m k a cs rs count used) where
  -- the lines and the document behind it
  abbrev pub step : Step
  step = (
    lines_by x (doc_in r count (lent fs bs is w ia il st out)) (subject_below fs w r.counts.depth) w e v k a cs rs,
    behind_by x (doc_in r count (lent fs bs is w ia il st out)) g.iri g.notes (subject_below fs w r.counts.depth) e v m k a,
  )

  pub behind_fits : fits step.1 ≡ true
  unfolding held_bytes L.all doc_in doc_of
  behind_fits =
      rw (fits-held step.1 (ids_fit y.table x.id e a g.room))
      (le-leb (held_bytes step.1) 49_152
      (omega (arith, held_with_lem y.valid z g.iri g.notes (new_element e v m k a x.plan.parts (subject_below fs w r.counts.depth)), g.granted.ready.room (subject_below fs w r.counts.depth))))

  handled_is : handled (opening (take m e) (attributes_of e v k)) (length out) (doc_in r count (lent fs bs is w ia il st out)) ≡ concluded (length out) (good step)
  unfolding on_event
  handled_is = handled_by (opening (take m e) (attributes_of e v k)) (length out) (doc_in r count (lent fs bs is w ia il st out)) g.steps

  lines_step : write (lines_of x (top_frame r fs) (language_in r fs) w e v k a cs rs) ≡ write step.0
  unfolding doc_in doc_of
  lines_step = ap write (lines_are x (doc_in r count (lent fs bs is w ia il st out)) e v k a cs rs y.valid refl)

  module _ {out' : List ℕ} {s : Result ℕ Refusal} (p : Says out out' (write (lines_of x (top_frame r fs) (language_in r fs) w e v k a cs rs)) s) where
    -- 2
    pub act_full : {why : Refusal} → s ≡ Err why
        → HandlesAll (opening (take m e) (attributes_of e v k)) r count (Err why) (lent fs bs is w ia il st out) (lent fs bs is w ia il st out')
    act_full {why} n =
        let t : leb (length (write step.0)) (length out) ≡ false = rw (← lines_step) (sym p.answer ∙ ap is_ok n) in
        let full : (why ≡ NoRoom) × (out' ≡ out) = rw n at p.cases in
        rw (full.0, full.1) (stopped (handled_is ∙ no_room (length out) step behind_fits t))

    -- done
    pub act_done : {q : Registers} {t : Filled} {fs' bs' w' ia' il' st' : List ℕ} → r.flags.closed ≡ false → {n : ℕ} → s ≡ Ok n
        → Commits r fs bs w e v m k a x.plan.parts x.li x.plan.labels q fs' bs' w' → Enters (maybe x.id e a) count ia il st t ia' il' st'
        → HandlesAll (opening (take m e) (attributes_of e v k)) r count (Ok (record { written = n; registers = q; count = t.count; used = t.used }))
        (lent fs bs is w ia il st out) (lent fs' bs' is w' ia' il' st' out')
    unfolding doc_in doc_of
    act_done {q} {t} {fs'} {bs'} {w'} {ia'} {il'} {st'} c f o i =
        let room : leb (length (write step.0)) (length out) ≡ true = rw (← lines_step) (sym p.answer ∙ ap is_ok f) in
        let h = o.holds is y.valid g.iri g.counted g.notes g.noted in
        record {
          frame_words = o.frames;
          binding_words = o.bindings;
          inner_words = refl;
          store = o.work;
          place_words = i.valid.places ∙ sym y.table.places;
          size_words = i.valid.sizes ∙ sym y.table.sizes;
          id_store = i.valid.whole ∙ sym y.table.whole;
          room = p.same;
          cases = record {
            step = step;
            answer = handled_is ∙ all_fits (length out) step behind_fits room;
            wrote = rw lines_step at (rw f at p.cases);
            lawful = record { valid = h.valid; table = i.valid };
            mark = o.closed ∙ c;
            doc = holds-doc h (ids_of ia' il' st' t.count) ∙ rw i.means;
          };
        }
