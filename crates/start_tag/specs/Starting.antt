-- A start tag outside Literal content: what is asked of it, what is judged, and what is done.
use Rattle.std.specs.Prelude.{ℕ, ◌≤◌, ◌≡◌, refl, false, List, [], length, take}
use Rattle.std.proofs.Common.{◌∙◌, arith}
use Rattle.std.proofs.Math.Path.{ap}
use Rattle.std.proofs.Math.Bool.{true}
use Rattle.spec.specs.Bytes.{Bytes}
use Rattle.spec.specs.Numbers.{refuse}
use Rattle.spec.specs.declared.Refusal.{Refusal}
use Rattle.spec.specs.Pyx as P
use Rattle.spec.specs.Document.{place_in}
use Rattle.spec.specs.StartTag.{read_tag}
use Rattle.spec.specs.Xmp.{starts_wrapper}
use Rattle.spec.specs.Opening.{is_xml, on_opening}
use Rattle.spec.specs.RdfXml.{on_event}
use Rattle.state_ids.specs.Ids.{ids_of}
use Rattle.state.specs.declared.Registers.{Registers}
use Rattle.state.specs.Meaning.{elements_of, doc_of}
use Rattle.start_names.specs.Tag.{attributes_of}
use Rattle.event.specs.Result.{handled, handled_by, refused_on}
use Rattle.event.specs.Progress.{Lent, lent, doc_in, Lawful, HandlesAll, stopped}
use Rattle.start_form.specs.Order.{unread}
use Rattle.start_form.specs.Form.{Decoded, Asked, Formed, Checks}
use Rattle.start_tag.specs.declared.reading.Tag.{Tag}
use Rattle.start_tag.specs.declared.reading.Read.{Read}
use Rattle.start_tag.specs.declared.reading.Read.TheVariants.{Wrapper, Element}
use Rattle.start_tag.specs.Tag as T
use Rattle.start_tag.specs.Tag.{Tells}
use Rattle.start_tag.specs.Reading.{is_wrapping, ReadsTag}
use Rattle.start_tag.specs.Wrapper.{Wrapping, JudgesWrapper}
use Rattle.start_plan.specs.declared.Start.{Start}
use Rattle.start_plan.specs.Goes.{Goes}
use Rattle.start_tag.specs.Judges.{Known, Rules, Judges}
use Rattle.start_tag.specs.Nodes.{Ready}
use Rattle.std.specs.Prelude.{Result, Ok, Err}

-- a lawful state, and a decoded start tag that stands outside Literal content
pub record Asks (r : Registers) (count used : ℕ) (l : Lent) (e v : List ℕ) (m c k : ℕ) (a : List ℕ) : Type 0 where
  pub lawful : Lawful r count used l
  pub level : r.counts.inner ≡ 0
  pub outer : is_xml (place_in (elements_of r l.frames l.bindings l.inners l.work)) ≡ false
  pub tag : Decoded e v m c k
  pub ready : Ready e v k a

pub record Roomy (cs rs : List ℕ) : Type 0 where
  pub classes : 192 ≤ length cs
  pub roles : 64 ≤ length rs

-- ---- judged

pub record JudgesStart (q : Result Start Refusal) (r : Registers) (count used : ℕ) (l : Lent) (e v : List ℕ) (m k : ℕ) (cs rs a cs' rs' a' : List ℕ) : Type 0 where
  pub rules : Rules q r count used l.frames l.bindings l.inners l.work l.places l.sizes l.ids e v m k cs' rs' a'
  pub classes : length cs' ≡ length cs
  pub roles : length rs' ≡ length rs
  pub area : length a' ≡ length a

module _ {r : Registers} {count used : ℕ} {fs bs is w ia il st e v : List ℕ} {m c k : ℕ} {cs rs a : List ℕ} (x : Asks r count used (lent fs bs is w ia il st []) e v m c k a) (ro : Roomy cs rs) where
  pub form_asks : Asked r fs bs is w e v m c k cs
  form_asks = record { valid = x.lawful.valid; outer = x.outer; flat = x.level; tag = x.tag; words = ro.classes }

  stops : {n : Refusal} → on_opening (take m e) (attributes_of e v k) (doc_of r fs bs is w (ids_of ia il st count)) ≡ refuse n
      → (room : ℕ) → handled (P.opening (take m e) (attributes_of e v k)) room (doc_of r fs bs is w (ids_of ia il st count)) ≡ refuse n
  unfolding on_event
  stops {n} h room = handled_by (P.opening (take m e) (attributes_of e v k)) room (doc_of r fs bs is w (ids_of ia il st count)) h ∙ refused_on room n

  module _ {f : Result Unit Refusal} {ds : List ℕ} (ch : Checks f r fs bs is w e v m k cs ds) where
    pub form_stops : {n : Refusal} → f ≡ Err n → JudgesStart (Err n) r count used (lent fs bs is w ia il st []) e v m k cs rs a ds rs a
    form_stops {n} h =
        let z : (i : List Bytes) → on_opening (take m e) (attributes_of e v k) (doc_of r fs bs is w i) ≡ refuse n = rw h at ch.cases in
        record { rules = stops (z (ids_of ia il st count)); classes = ch.same; roles = refl; area = refl }

    module _ (h : f ≡ Ok tt) where
      formed : Formed r fs bs is w e v m k ds
      formed = rw h at ch.cases

      pub tag_asks : T.Asks e v m c k w bs r.counts.bindings ds rs a
      tag_asks =
          record {
            event = x.ready.event;
            store = omega (arith, x.lawful.valid.store);
            places = omega (arith, ro.roles, x.tag.few);
            room = x.ready.room;
            name = x.tag.colon;
            splits = x.tag.splits;
            classified = formed.classes;
          }

      module _ {t : Result Read Refusal} {rs' b : List ℕ} (rd : ReadsTag r fs bs w count ia il st e v m k ds rs a rs' b t) where
        wrapping : starts_wrapper r.mode.xmp (take m e) (attributes_of e v k) (elements_of r fs bs is w) ≡ is_wrapping t
        wrapping = rd.wraps is x.lawful.valid x.level

        pub read_stops : {n : Refusal} → t ≡ Err n → JudgesStart (Err n) r count used (lent fs bs is w ia il st []) e v m k cs rs a ds rs' b
        unfolding doc_of
        read_stops {n} q =
            let z : read_tag (take m e) (attributes_of e v k) (doc_of r fs bs is w (ids_of ia il st count)) ≡ refuse n = rw q at (rd.reads.cases is used x.lawful.valid x.lawful.table) in
            record { rules = stops (unread (formed.form (ids_of ia il st count)) counts (wrapping ∙ ap is_wrapping q) z); classes = ch.same; roles = rd.reads.places; area = rd.reads.same }
          where
            counts : Rattle.spec.specs.Opening.counts_fit (attributes_of e v k) (doc_of r fs bs is w (ids_of ia il st count)).frames ≡ true
            counts = formed.counts

        -- the wrapper's
        pub wrapper_starts : {q : Result Start Refusal} → t ≡ Ok Wrapper → JudgesWrapper q r e v m k w ds → JudgesStart q r count used (lent fs bs is w ia il st []) e v m k cs rs a ds rs' b
        wrapper_starts {q} h j =
            let y : Wrapping r count used fs bs is w ia il st e v m k ds = record { lawful = x.lawful; level = x.level; formed = formed; splits = x.tag.splits; wraps = wrapping ∙ ap is_wrapping h } in
            record { rules = j.cases count used fs bs is ia il st rs' b y; classes = ch.same; roles = rd.reads.places; area = rd.reads.same }

        pub ready_behind : Ready e v k b
        ready_behind =
            record {
              event = x.ready.event;
              words = x.ready.words;
              room = omega (arith, x.ready.room, rd.reads.same);
              small = omega (arith, x.ready.small, rd.reads.same);
              few = x.ready.few;
            }

        pub start_judged : {y : Tag} {q : Result Start Refusal} {a' : List ℕ} → t ≡ Ok (Element y) → Judges q y r count used fs w e v m k b a' → JudgesStart q r count used (lent fs bs is w ia il st []) e v m k cs rs a ds rs' a'
        start_judged {y} {q} g j =
            let z : Tells y e v m k w ds rs' b (doc_of r fs bs is w (ids_of ia il st count)) = rw g at (rd.reads.cases is used x.lawful.valid x.lawful.table) in
            let kn : Known y r count used fs bs is w ia il st e v m k ds rs' b = record { lawful = x.lawful; level = x.level; formed = formed; other = wrapping ∙ ap is_wrapping g; tells = z } in
            record { rules = j.cases bs is ia il st ds rs' kn; classes = ch.same; roles = rd.reads.places; area = j.same ∙ rd.reads.same }

-- ---- done

module _ {r : Registers} {count used : ℕ} {fs bs is w ia il st e v : List ℕ} {m k : ℕ} {cs rs a cs' rs' a' : List ℕ} {q : Result Start Refusal} (out : List ℕ)
    (j : JudgesStart q r count used (lent fs bs is w ia il st []) e v m k cs rs a cs' rs' a') where
  pub start_stops : {n : Refusal} → q ≡ Err n
      → HandlesAll (P.opening (take m e) (attributes_of e v k)) r count (Err n) (lent fs bs is w ia il st out) (lent fs bs is w ia il st out) × (length a' ≡ length a)
  unfolding doc_in
  start_stops {n} h =
      let z : (room : ℕ) → handled (P.opening (take m e) (attributes_of e v k)) room (doc_of r fs bs is w (ids_of ia il st count)) ≡ refuse n = rw h at j.rules in
      (stopped (z (length out)), j.area)

  pub start_goes : {x : Start} → q ≡ Ok x → Goes x (doc_in r count (lent fs bs is w ia il st out)) r fs bs w e v m k a' cs' rs' count used
  unfolding doc_in
  start_goes h = rw h at j.rules

pub judge_asks : {r : Registers} {count used : ℕ} {fs bs is w ia il st out e v : List ℕ} {m c k : ℕ} {a : List ℕ} → Asks r count used (lent fs bs is w ia il st out) e v m c k a
    → Asks r count used (lent fs bs is w ia il st []) e v m c k a
judge_asks x = record { lawful = record { valid = x.lawful.valid; table = x.lawful.table }; level = x.level; outer = x.outer; tag = x.tag; ready = x.ready }
