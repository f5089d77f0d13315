-- One more element inside Literal content: its name and bindings are put below what is held at the far end of the work store.
use Rattle.std.specs.Prelude.{◌≡◌, refl, Bool, true, List, ◌∷◌, ℕ, ◌+◌, ◌-◌, ◌*◌, ◌<◌, ◌≤◌, length}
use Rattle.std.proofs.Common.{ap, ◌∙◌, arith, le-leb, lt-ltb}
use Rattle.std.proofs.Math.Option.{Option, none}
use Rattle.spec.specs.Limits as L
use Rattle.spec.specs.Limits.{most_attributes, most_held_bytes}
use Rattle.spec.specs.Bytes.{Bytes, total, size_of}
use Rattle.spec.specs.declared.Refusal.{Refusal}
use Rattle.spec.specs.Pyx.{Attribute, opening}
use Rattle.spec.specs.Namespaces.{Binding, declared}
use Rattle.spec.specs.Document.{Frame as Element, ordinary, xml_element, binding_bytes, kind_bytes, frame_bytes, place_in, xml}
use Rattle.spec.specs.XmlLiteral.{start_tag_xml}
use Rattle.copy.specs.Copy.{part, Put, Wrote, put-fits, wrote_part, wrote_same}
use Rattle.state_words.specs.Kept.{kept_then, kept_less, kept_before, kept_behind}
use Rattle.spec.specs.XmlLang.{unsaid}
use Rattle.spec.specs.XmlLang as X
use Rattle.state.specs.declared.Registers.{Registers}
use Rattle.state.specs.Meaning.{start_of, elements_of}
use Rattle.state.specs.Valid.{Valid}
use Rattle.state.specs.Held.{room}
use Rattle.state_stack.specs.Change.{Holds, topped_to}
use Rattle.state_inner.specs.Calls.{Opens, may_open, held_is}
use Rattle.state_inner.specs.Laws.{Written, open_holds}
use Rattle.start_names.specs.Tag.{attributes_of}
use Rattle.start_element.specs.declared.Next.{Next}
use Rattle.copy.specs.Copy.{part_short}
use Rattle.start_element.specs.Rows.{Fits, Entered}
use Rattle.event.specs.declared.Done.{Done}
use Rattle.event.specs.Result.{Asks}
use Rattle.literal.specs.Quiet.{Quietly, Quiet, held_with, held_with_lem, holds_as, quiet_over, quiet_done}
use Rattle.literal.specs.Added.{XmlIn, with_xml, Adds, Over, Grown, Grows}
use Rattle.literal.specs.Judged.{Tag, copied, Judges, judged_quiet, Counted, judged_counts}
use Rattle.std.specs.declared.option.Option as std
use Rattle.std.specs.Prelude.{unwrap_or, Result, Ok, Err}

-- bytes of its name and of its bindings
abbrev pub own_bytes : Bytes → List Binding → ℕ
own_bytes n all = length n + total binding_bytes all

-- there is room for an element of this name and these bindings, which has so many bytes
pub record Room (r : Registers) (bs w : List ℕ) (n : Bytes) (all : List Binding) (more : ℕ) : Type 0 where
  pub store : length w ≡ 65_536
  pub words : length bs ≡ 384
  pub size : more ≡ own_bytes n all
  pub low : r.store.low ≤ 65_536
  pub fits : more ≤ r.store.low
  pub rows : length all + r.counts.bindings ≤ 128

-- what `enter` does to a valid state: q, cs, js and v are behind it
pub record Enters (r : Registers) (bs is w : List ℕ) (n : Bytes) (all : List Binding) (more : ℕ) (q : Registers) (cs js v : List ℕ) : Type 0 where
  pub holds : {fs : List ℕ} → Valid r fs bs is w → r.store.top + more ≤ r.store.low → r.counts.depth + r.counts.inner < 64
      → Holds q fs cs js v r.mode (start_of r w) (record { name = n; bindings = all; own_base = none; own_tag = unsaid; kind = xml_element; part = ordinary } ∷ elements_of r fs bs is w) r.flags.rooted r.counts.labels
  pub mark : {fs : List ℕ} → Valid r fs bs is w → r.counts.depth + r.counts.inner < 64 → q.flags.closed ≡ r.flags.closed

-- ---- how `enter` comes to its answer

may_open_lem : {r : Registers} {fs bs is w : List ℕ} → Valid r fs bs is w → r.counts.depth + r.counts.inner < 64 → (a n : ℕ) → a ≤ 65_536 → n ≤ 65_536 → may_open r is a n ≡ true
unfolding may_open L.all
may_open_lem {r} {fs} {bs} {is} {w} x d a n l m =
    rw (
      lt-ltb (r.counts.depth + r.counts.inner) 64 d,
      le-leb a 65_536 l,
      le-leb n 65_536 m,
      le-leb r.counts.bindings 128 x.bound,
      le-leb (r.counts.inner * 3 + 3) (length is) (omega (arith, x.inner_words)),
    )

module _ {r : Registers} {bs w : List ℕ} {n : Bytes} {all : List Binding} {more : ℕ} (o : Room r bs w n all more) where
  -- the bindings have room behind the name
  pub rows_fit : {u : List ℕ} {b : Bool} → Put w (r.store.low - more) n u b → Fits u bs (record { at = r.store.low - more + length n; row = r.counts.bindings }) (total binding_bytes all) (length all)
  rows_fit p =
      record {
        store = omega (arith, p.same, o.store);
        room = omega (arith, p.same, o.store, o.size, o.low, o.fits);
        words = omega (arith, o.words, o.rows);
      }

  module _ {is u v cs js : List ℕ} {b : Bool} {q : Next} {c : std.Option Registers} (p : Put w (r.store.low - more) n u b)
      (e : Entered u bs v cs (record { at = r.store.low - more + length n; row = r.counts.bindings }) q all) (h : Opens r is (r.store.low - more) (length n) q.row c js) where
    written : r.store.top + more ≤ r.store.low → Written r bs w cs v (r.store.low - more) (length n) q.row n all
    written l =
        let g : Wrote w u (r.store.low - more) (r.store.low - more + length n) n = put-fits p (omega (arith, o.store, o.size, o.low, o.fits)) in
        let x : q.row - r.counts.bindings ≡ length all = omega (arith, e.rows) in
        let y : q.at ≡ r.store.low = omega (arith, e.ends, o.size, o.fits) in
        record {
          words = e.words;
          below = kept_less (kept_then (kept_before g) (kept_less e.before (omega arith) (omega arith))) (omega arith) (omega arith);
          above = kept_then (kept_less (kept_behind 65_536 g) (omega (arith, o.size, o.fits)) (omega arith)) (kept_less (e.behind 65_536) (omega (arith, y)) (omega arith));
          same_words = e.same_words;
          same_bytes = e.same_bytes ∙ wrote_same g;
          clear = omega arith;
          least = omega (arith, e.rows);
          most = omega (arith, e.rows, o.rows);
          named = e.before.parts (r.store.low - more) (length n) (omega arith) (omega arith) ∙ wrote_part g;
          bindings = rw x (rw y at e.bound);
        }

    pub entered : Enters r bs is w n all more (unwrap_or c r) cs js v
    entered =
        let m = o.size in
        let f = o.fits in
        let l = o.low in
        record {
          holds = λ x t d. open_holds x h (h.answer ∙ may_open_lem x d (r.store.low - more) (length n) (omega arith) (omega arith)) (written t);
          mark = λ x d. ap (λ (s : Registers). s.flags.closed) (h.moved (may_open_lem x d (r.store.low - more) (length n) (omega arith) (omega arith)));
        }

-- ---- how `copy_element` comes to its answer

-- a start tag that was judged good
pub record Ready (r : Registers) (fs bs is w e sp : List ℕ) (n : Bytes) (k : ℕ) (area : List ℕ) : Type 0 where
  pub asks : Asks r fs bs is w
  pub wide : most_held_bytes ≤ length area
  pub short : length e ≤ 65_536
  pub named : length n ≤ 65_536
  pub few : k ≤ most_attributes
  pub counts : Counted r (attributes_of e sp k)
  pub quiet : Quiet (opening n (attributes_of e sp k)) r fs bs is w (copied n (attributes_of e sp k) ∷ with_xml r fs bs is w (start_tag_xml n (attributes_of e sp k)))

pub ready : {r : Registers} {fs bs is w e sp : List ℕ} {n : Bytes} {m c k : ℕ} {area : List ℕ} {j : Result Unit Refusal} → Asks r fs bs is w → most_held_bytes ≤ length area → place_in (elements_of r fs bs is w) ≡ xml
    → Tag e sp m c k → n ≡ part e 0 m → Judges r bs w n (attributes_of e sp k) j → j ≡ Ok tt → Ready r fs bs is w e sp n k area
ready {e = e} {m = m} a l p t q h g =
    record {
      asks = a;
      wide = l;
      short = t.short;
      named = omega (arith, ap length q, part_short e 0 m, t.short);
      few = t.few;
      counts = judged_counts h g;
      quiet = judged_quiet a.valid p h g;
    }

-- held bytes with it
held-copied : (start : Option Bytes) (n : Bytes) (as' : List Attribute) (es : List Element) → held_with start (copied n as' ∷ es) ≡ held_with start es + own_bytes n (declared as')
unfolding held_with total frame_bytes kind_bytes size_of X.own_bytes
held-copied start n as' es = omega arith

module _ {r : Registers} {fs bs is w e sp : List ℕ} {n : Bytes} {k : ℕ} {area made fs' w' : List ℕ} {size more : ℕ} {o : Result Done Refusal} (y : Ready r fs bs is w e sp n k area)
    (i : XmlIn made size (start_tag_xml n (attributes_of e sp k))) (m : more ≡ own_bytes n (declared (attributes_of e sp k))) (a : Adds r fs w made size more o fs' w') where
  grows : Grows o r fs bs is w (start_tag_xml n (attributes_of e sp k)) more fs' w'
  grows = a.grows bs is (start_tag_xml n (attributes_of e sp k)) y.asks.valid i

  pub copy_over : {x : Refusal} → o ≡ Err x → Quietly (opening n (attributes_of e sp k)) r (Err x) fs bs is w fs' bs is w'
  copy_over {x} q =
      let g : Over r fs bs is w (start_tag_xml n (attributes_of e sp k)) more x fs' w' = rw q at grows in
      let h = held-copied (start_of r w) n (attributes_of e sp k) (with_xml r fs bs is w (start_tag_xml n (attributes_of e sp k))) in
      rw (g.number, g.frames, g.work) (quiet_over y.quiet (omega (arith, g.over)))

  module _ {d : Done} (q : o ≡ Ok d) where
    grown : Grown r fs bs is w (start_tag_xml n (attributes_of e sp k)) more d fs' w'
    grown = rw q at grows

    registers : d.registers ≡ topped_to r grown.top
    registers = ap (λ (x : Done). x.registers) grown.moved

    below : grown.top + more ≤ r.store.low
    below =
        let h = grown.holds in
        let v = h.valid in
        let s = held_is (topped_to r grown.top) (room v).low v.apart in
        omega (arith, held_with_lem h, grown.fits, (room v).low, v.apart)

    pub copy-room : Room d.registers bs w' n (declared (attributes_of e sp k)) more
    copy-room =
        let v = grown.holds.valid in
        rw registers (record { store = v.store; words = v.binding_words; size = m; low = (room v).low; fits = omega (arith, below); rows = y.counts.few })

    pub copy_done : {q' : Registers} {cs js u : List ℕ} → Enters d.registers bs is w' n (declared (attributes_of e sp k)) more q' cs js u
        → Quietly (opening n (attributes_of e sp k)) r (Ok (record { written = 0; registers = q' })) fs bs is w fs' cs js u
    copy_done {q'} {cs} {js} {u} z =
        let g = grown in
        let t : Enters (topped_to r g.top) bs is w' n (declared (attributes_of e sp k)) more q' cs js u = rw registers at z in
        let h = t.holds g.holds.valid below y.counts.deep in
        let l = held-copied (start_of r w) n (attributes_of e sp k) (with_xml r fs bs is w (start_tag_xml n (attributes_of e sp k))) in
        quiet_done y.quiet y.asks (omega (arith, g.fits))
        (holds_as h g.holds.chosen g.holds.base (ap (copied n (attributes_of e sp k) ∷◌) g.holds.elements) refl refl)
        (t.mark g.holds.valid y.counts.deep ∙ y.asks.mark)
