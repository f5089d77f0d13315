-- What changes at the top of the stack do to a valid state: it stays valid, and what it means is said.
use Prim.Native.Nat.{ℕ, suc, ◌+◌, ◌-◌, ◌*◌, ◌<◌, ◌≤◌}
use Rattle.std.specs.Prelude.{◌≡◌, Bool, List, ◌∷◌, ◌++◌, eqb, length}
use Rattle.std.proofs.Math.Path.{refl, sym}
use Rattle.std.proofs.Common.{ap, ◌∙◌, eqb-true, eq-eqb}
use Rattle.std.proofs.Math.Bool.{true}
use Rattle.std.proofs.Math.Option.{Option}
use native.Mathlib.Omega.{arith}
use Rattle.spec.specs.Bytes.{Bytes}
use Rattle.spec.specs.Limits.{work_store_bytes}
use Rattle.spec.specs.Document.{Frame as Element, Doc}
use Rattle.spec.specs.declared.Mode.{Mode}
use Rattle.spec.proofs.Booleans.{and_left, and_right}
use Rattle.state_words.specs.Parts.{NAME, FRAME}
use Rattle.state_words.specs.declared.Frame.{Frame}
use Rattle.state_words.specs.declared.Row.{Row}
use Rattle.state_words.specs.Kept.{Kept, kept_all, kept_less}
use Rattle.state_words.specs.Words.{frame_at, row_at}
use Rattle.state.specs.declared.Registers.{Registers}
use Rattle.state.specs.Meaning.{at, first, bindings_of, element_of, subject_below, frames_of, inner_of, inners_of, start_of, elements_of, doc_of}
use Rattle.state.specs.Valid.{noted_of, noted_in, frames_ok, inners_ok, ceiling, Sound, Inside, Valid, rising, top_sound, rest_ok, frames_on, top_inside, inners_rest, inners_on}
use Rattle.state.specs.Stay.{noted_kept, frames_ok_kept, frames_kept, inners_ok_kept, inners_kept, chained_up}
use Rattle.state.specs.Held.{room, frames_base}

-- a valid state, and what it means but for the rdf:IDs
pub record Holds (r : Registers) (fs bs is w : List ℕ) (mode : Mode) (start : Option Bytes) (es : List Element) (rooted : Bool) (labels : ℕ) : Type 0 where
  pub valid : Valid r fs bs is w
  pub chosen : r.mode ≡ mode
  pub base : start_of r w ≡ start
  pub elements : elements_of r fs bs is w ≡ es
  pub root : r.flags.rooted ≡ rooted
  pub count : r.counts.labels ≡ labels

pub holds-doc : {r : Registers} {fs bs is w : List ℕ} {mode : Mode} {start : Option Bytes} {es : List Element} {rooted : Bool} {labels : ℕ} → Holds r fs bs is w mode start es rooted labels
    → (ids : List Bytes) → doc_of r fs bs is w ids ≡ record { mode = mode; start_base = start; frames = es; rooted = rooted; labels = labels; ids = ids }
unfolding doc_of
holds-doc h ids = go h.chosen h.base h.elements h.root h.count
  where
    go : {c e : Mode} {s t : Option Bytes} {x y : List Element} {a b : Bool} {m n : ℕ} → c ≡ e → s ≡ t → x ≡ y → a ≡ b → m ≡ n
        → ◌≡◌ {A = Doc} (record { mode = c; start_base = s; frames = x; rooted = a; labels = m; ids = ids }) (record { mode = e; start_base = t; frames = y; rooted = b; labels = n; ids = ids })
    go o p q u v = rw (o, p, q, u, v)

-- ---- a frame on top of others

-- frame f stands as number n on elements that are valid up to t, with bindings up to b; they and their bytes are kept
pub record On (fs gs bs cs w v : List ℕ) (f : Frame) (base n t b top c : ℕ) : Type 0 where
  pub rest : frames_ok fs bs w base n t b ≡ true
  pub frames : Kept fs gs 0 (n * FRAME)
  pub there : frame_at gs n ≡ f
  pub bindings : Kept bs cs 0 (b * 3)
  pub bytes : Kept w v 0 t
  pub starts : at f NAME ≡ t
  pub firsts : first f ≡ b
  pub sound : Sound gs cs v f n top c

module _ {fs gs bs cs w v : List ℕ} {f : Frame} {base n t b top c : ℕ} (o : On fs gs bs cs w v f base n t b top c) where
  pub on_ok : frames_ok gs cs v base (suc n) top c ≡ true
  on_ok =
      frames_on gs cs v n top c base (rw o.there o.sound)
      (rw (o.there, o.starts, o.firsts) (frames_ok_kept base n t b o.frames o.bindings o.bytes o.rest))

  pub on_frames : frames_of gs cs v (suc n) c ≡ element_of f (bindings_of cs v b (c - b)) v (subject_below gs v n) ∷ frames_of fs bs w n b
  unfolding frames_of
  on_frames = rw (o.there, o.firsts, frames_kept base n t b o.frames o.bindings o.bytes o.rest)

  -- what is noted below it
  pub on_noted : noted_in gs n ≡ noted_in fs n
  on_noted = noted_kept n o.frames

  pub on_base : base ≤ t
  on_base = frames_base fs bs w base n t b o.rest

start_kept : {w v : List ℕ} {hi : ℕ} (r r' : Registers) → Kept w v 0 hi → r.store.base ≤ hi → r'.flags.based ≡ r.flags.based → r'.store.base ≡ r.store.base → start_of r' v ≡ start_of r w
unfolding start_of
start_kept r r' k h p q = rw (p, q, k.parts 0 r.store.base (omega arith) (omega arith))

-- ---- registers with other numbers

-- one element more, whose parts end at `top`, with bindings up to b
abbrev pub pushed_to : Registers → ℕ → ℕ → Registers
pushed_to r top b =
    record {
      mode = r.mode;
      flags = record { closed = r.flags.closed; rooted = true; based = r.flags.based };
      store = record { base = r.store.base; top = top; low = r.store.low; noted = r.store.noted };
      counts = record { depth = r.counts.depth + 1; inner = r.counts.inner; outer = b; bindings = b; labels = r.counts.labels };
    }

-- without the element of frame f, which is on top, and what it has noted
abbrev pub popped_to : Registers → Frame → Registers
popped_to r f =
    record {
      mode = r.mode;
      flags = r.flags;
      store = record { base = r.store.base; top = at f NAME; low = r.store.low; noted = r.store.noted - noted_of f };
      counts = record { depth = r.counts.depth - 1; inner = r.counts.inner; outer = first f; bindings = first f; labels = r.counts.labels };
    }

-- the parts of the element on top end at `top`, and so many bytes are noted
abbrev pub noting_to : Registers → ℕ → ℕ → Registers
noting_to r top noted =
    record { mode = r.mode; flags = r.flags; store = record { base = r.store.base; top = top; low = r.store.low; noted = noted }; counts = r.counts }

-- as many as before
abbrev pub topped_to : Registers → ℕ → Registers
topped_to r top = noting_to r top r.store.noted

-- with so many elements inside Literal content, which lie from `low` on
abbrev pub inside_to : Registers → ℕ → ℕ → ℕ → Registers
inside_to r inner low b =
    record {
      mode = r.mode;
      flags = r.flags;
      store = record { base = r.store.base; top = r.store.top; low = low; noted = r.store.noted };
      counts = record { depth = r.counts.depth; inner = inner; outer = r.counts.outer; bindings = b; labels = r.counts.labels };
    }

-- with another number of labels generated
abbrev pub labelled_to : Registers → ℕ → Registers
labelled_to r n =
    record {
      mode = r.mode;
      flags = r.flags;
      store = r.store;
      counts = record { depth = r.counts.depth; inner = r.counts.inner; outer = r.counts.outer; bindings = r.counts.bindings; labels = n };
    }

module _ {r : Registers} {fs bs is w : List ℕ} where
  labelled_valid : (n : ℕ) → n ≤ 99_999_999 → Valid r fs bs is w → Valid (labelled_to r n) fs bs is w
  labelled_valid n h x =
      record {
        frame_words = x.frame_words;
        binding_words = x.binding_words;
        inner_words = x.inner_words;
        store = x.store;
        deep = x.deep;
        bound = x.bound;
        apart = x.apart;
        based = x.based;
        labels = h;
        frames = x.frames;
        inners = x.inners;
        few = x.few;
        noted = x.noted;
      }

  module _ {mode : Mode} {start : Option Bytes} {es : List Element} {rooted : Bool} {labels : ℕ} (h : Holds r fs bs is w mode start es rooted labels) where
    -- only the label count changes
    pub labelled-holds : {n : ℕ} → n ≤ 99_999_999 → Holds (labelled_to r n) fs bs is w mode start es rooted n
    unfolding start_of elements_of
    labelled-holds {n} l = record { valid = labelled_valid n l h.valid; chosen = h.chosen; base = h.base; elements = h.elements; root = h.root; count = refl }

-- with no element inside Literal content, nothing is held at the store's end
pub record Flat (r : Registers) : Type 0 where
  pub low : r.store.low ≡ 65_536
  pub bindings : r.counts.bindings ≡ r.counts.outer

pub flat : {r : Registers} {fs bs is w : List ℕ} → Valid r fs bs is w → r.counts.inner ≡ 0 → Flat r
unfolding inners_ok work_store_bytes
flat {r} {fs} {bs} {is} {w} v z =
    let h : inners_ok is bs r.counts.outer 0 r.store.low r.counts.bindings ≡ true = rw z at v.inners in
    record {
      low = eqb-true _ _ (and_left (eqb r.store.low 65_536) _ h);
      bindings = eqb-true _ _ (and_right (eqb r.store.low 65_536) _ h);
    }

flat_elements : (r : Registers) (fs bs is w : List ℕ) → r.counts.inner ≡ 0 → elements_of r fs bs is w ≡ frames_of fs bs w r.counts.depth r.counts.outer
unfolding elements_of inners_of
flat_elements r fs bs is w z = rw z

empty_inners : (is bs : List ℕ) (inner b low : ℕ) → inner ≡ 0 → low ≡ 65_536 → inners_ok is bs b inner low b ≡ true
unfolding inners_ok work_store_bytes
empty_inners is bs inner b low z l = rw (z, eq-eqb low 65_536 l, eq-eqb b b refl)

-- ---- a push

module _ {r : Registers} {fs bs is w gs cs v : List ℕ} {f : Frame} {top b : ℕ} where
  pub pushed : Valid r fs bs is w → r.counts.inner ≡ 0 → On fs gs bs cs w v f r.store.base r.counts.depth r.store.top r.counts.outer top b
      → length gs ≡ length fs → length cs ≡ length bs → length v ≡ length w → r.counts.depth < 64 → b ≤ 128 → top ≤ r.store.low → noted_of f ≡ 0
      → Holds (pushed_to r top b) gs cs is v r.mode (start_of r w) (element_of f (bindings_of cs v r.counts.outer (b - r.counts.outer)) v (subject_below gs v r.counts.depth) ∷ elements_of r fs bs is w) true r.counts.labels
  unfolding noted_in
  pushed x z o lg lc lv d lb lt nt =
      let e = flat x z in
      let s : suc r.counts.depth ≡ r.counts.depth + 1 = omega arith in
      let ok : frames_ok gs cs v r.store.base (r.counts.depth + 1) top b ≡ true = rw (← s) (on_ok o) in
      record {
        valid =
            record {
              frame_words = lg ∙ x.frame_words;
              binding_words = lc ∙ x.binding_words;
              inner_words = x.inner_words;
              store = lv ∙ x.store;
              deep = omega (arith, z);
              bound = lb;
              apart = lt;
              based = x.based;
              labels = x.labels;
              frames = ok;
              inners = empty_inners is cs r.counts.inner b r.store.low z e.low;
              few = x.few;
              noted = x.noted ∙ sym (rw (← s, o.there, nt) (omega (arith, on_noted o)));
            };
        chosen = refl;
        base = start_kept r (pushed_to r top b) o.bytes (on_base o) refl refl;
        elements =
            flat_elements (pushed_to r top b) gs cs is v z
            ∙ (ap (λ (n : ℕ). frames_of gs cs v n b) (sym s) ∙ (on_frames o ∙ rw (flat_elements r fs bs is w z)));
        root = refl;
        count = refl;
      }

-- ---- a pop

module _ {r : Registers} {fs bs is w : List ℕ} (x : Valid r fs bs is w) (n : ℕ) (d : r.counts.depth ≡ suc n) where
  framed : frames_ok fs bs w r.store.base (suc n) r.store.top r.counts.outer ≡ true
  framed = rw d at x.frames

  -- the frame on top, and what it stands on
  pub top_frame_lem : Sound fs bs w (frame_at fs n) n r.store.top r.counts.outer
  top_frame_lem = top_sound fs bs w n r.store.top r.counts.outer r.store.base framed

  pub under : frames_ok fs bs w r.store.base n (at (frame_at fs n) NAME) (first (frame_at fs n)) ≡ true
  under = rest_ok fs bs w n r.store.top r.counts.outer r.store.base framed

  pub top_element : frames_of fs bs w r.counts.depth r.counts.outer
      ≡ element_of (frame_at fs n) (bindings_of bs w (first (frame_at fs n)) (r.counts.outer - first (frame_at fs n))) w (subject_below fs w n) ∷ frames_of fs bs w n (first (frame_at fs n))
  unfolding frames_of
  top_element = rw d

  pub popped : r.counts.inner ≡ 0
      → Holds (popped_to r (frame_at fs n)) fs bs is w r.mode (start_of r w) (frames_of fs bs w n (first (frame_at fs n))) r.flags.rooted r.counts.labels
  unfolding noted_in
  popped z =
      let e = flat x z in
      let k : r.store.noted ≡ noted_in fs n + noted_of (frame_at fs n) = rw d at x.noted in
      let t = top_frame_lem in
      let u = rising (frame_at fs n) t.up in
      let a = t.ends in
      let l = t.least in
      let m : r.counts.depth - 1 ≡ n = omega arith in
      record {
        valid =
            record {
              frame_words = x.frame_words;
              binding_words = x.binding_words;
              inner_words = x.inner_words;
              store = x.store;
              deep = omega (arith, x.deep);
              bound = omega (arith, x.bound);
              apart = omega (arith, x.apart);
              based = x.based;
              labels = x.labels;
              frames = rw m under;
              inners = empty_inners is bs r.counts.inner (first (frame_at fs n)) r.store.low z e.low;
              few = omega (arith, x.few);
              noted = rw m (omega arith);
            };
        chosen = refl;
        base = start_kept {w = w} {v = w} {hi = r.store.base} r (popped_to r (frame_at fs n)) kept_all (omega arith) refl refl;
        elements = flat_elements (popped_to r (frame_at fs n)) fs bs is w z ∙ rw m;
        root = refl;
        count = refl;
      }

  -- ---- a change to the frame on top, while elements inside Literal content may stand open

  pub changed : {gs v : List ℕ} {f : Frame} {top : ℕ} → On fs gs bs bs w v f r.store.base n (at (frame_at fs n) NAME) (first (frame_at fs n)) top r.counts.outer
      → Kept w v r.store.low 65_536 → length gs ≡ length fs → length v ≡ length w → top ≤ r.store.low
      → (noted : ℕ) → noted ≤ 1_024 → noted + noted_of (frame_at fs n) ≡ r.store.noted + noted_of f
      → Holds (noting_to r top noted) gs bs is v r.mode (start_of r w)
      (inners_of is bs w r.counts.inner r.counts.bindings
      ++ (element_of f (bindings_of bs v (first (frame_at fs n)) (r.counts.outer - first (frame_at fs n))) v (subject_below gs v n) ∷ frames_of fs bs w n (first (frame_at fs n))))
      r.flags.rooted r.counts.labels
  unfolding elements_of noted_in
  changed {gs} {v} {f} {top} o k lg lv lt noted nf ns =
      let m : r.store.noted ≡ noted_in fs n + noted_of (frame_at fs n) = rw d at x.noted in
      let ok : frames_ok gs bs v r.store.base r.counts.depth top r.counts.outer ≡ true = rw d (on_ok o) in
      record {
        valid =
            record {
              frame_words = lg ∙ x.frame_words;
              binding_words = x.binding_words;
              inner_words = x.inner_words;
              store = lv ∙ x.store;
              deep = x.deep;
              bound = x.bound;
              apart = lt;
              based = x.based;
              labels = x.labels;
              frames = ok;
              inners = x.inners;
              few = nf;
              noted = rw (d, o.there, on_noted o) (omega arith);
            };
        chosen = refl;
        base = start_kept r (noting_to r top noted) o.bytes (on_base o) refl refl;
        elements =
            rw (
              inners_kept r.counts.outer {w = w} {v = v} r.counts.inner r.store.low r.counts.bindings (kept_all {w = is}) (kept_all {w = bs}) k x.inners,
              d,
              on_frames o,
            );
        root = refl;
        count = refl;
      }

-- ---- elements inside Literal content

module _ {r : Registers} {fs bs is w : List ℕ} (x : Valid r fs bs is w) where
  pub inside-opened : {cs js v : List ℕ} {q : Row} {b : ℕ} → Kept is js 0 (r.counts.inner * 3) → row_at js r.counts.inner ≡ q → Kept bs cs 0 (r.counts.bindings * 3) → Kept w v 0 r.store.top → Kept w v r.store.low 65_536
      → Inside js cs q r.counts.inner q.at b → q.more ≡ r.counts.bindings → ceiling js r.counts.inner ≡ r.store.low
      → length cs ≡ length bs → length js ≡ length is → length v ≡ length w → r.counts.depth + r.counts.inner < 64 → b ≤ 128 → r.store.top ≤ q.at
      → Holds (inside_to r (r.counts.inner + 1) q.at b) fs cs js v r.mode (start_of r w) (inner_of q (bindings_of cs v r.counts.bindings (b - r.counts.bindings)) v ∷ elements_of r fs bs is w) r.flags.rooted r.counts.labels
  unfolding elements_of inners_of
  inside-opened {cs} {js} {v} {q} {b} ki e kb kw kl ins m ce lc lj lv d lb lt =
      let ro = room x in
      let rest : inners_ok js cs r.counts.outer r.counts.inner r.store.low r.counts.bindings ≡ true =
      inners_ok_kept r.counts.outer r.counts.inner r.store.low r.counts.bindings ki (kept_less kb (omega arith) (omega arith)) x.inners in
      let s : r.counts.inner + 1 ≡ suc r.counts.inner = omega arith in
      let all : inners_ok js cs r.counts.outer (suc r.counts.inner) q.at b ≡ true =
      inners_on js cs r.counts.outer r.counts.inner q.at b (rw e ins) (rw (e, m, ce) rest) in
      record {
        valid =
            record {
              frame_words = x.frame_words;
              binding_words = lc ∙ x.binding_words;
              inner_words = lj ∙ x.inner_words;
              store = lv ∙ x.store;
              deep = omega arith;
              bound = lb;
              apart = lt;
              based = x.based;
              labels = x.labels;
              frames = frames_ok_kept r.store.base r.counts.depth r.store.top r.counts.outer (kept_all {w = fs}) (kept_less kb (omega arith) (omega (arith, ro.outer))) kw x.frames;
              inners = rw s all;
              few = x.few;
              noted = x.noted;
            };
        chosen = refl;
        base = start_kept r (inside_to r (r.counts.inner + 1) q.at b) kw ro.base refl refl;
        elements =
            rw (
              s,
              e,
              m,
              inners_kept r.counts.outer {w = w} {v = v} r.counts.inner r.store.low r.counts.bindings ki (kept_less kb (omega arith) (omega arith)) kl x.inners,
              frames_kept r.store.base r.counts.depth r.store.top r.counts.outer (kept_all {w = fs}) (kept_less kb (omega arith) (omega (arith, ro.outer))) kw x.frames,
            );
        root = refl;
        count = refl;
      }

  module _ (n : ℕ) (d : r.counts.inner ≡ suc n) where
    inward : inners_ok is bs r.counts.outer (suc n) r.store.low r.counts.bindings ≡ true
    inward = rw d at x.inners

    pub inside-closed : Holds (inside_to r n (ceiling is n) (row_at is n).more) fs bs is w r.mode (start_of r w)
        (inners_of is bs w n (row_at is n).more ++ frames_of fs bs w r.counts.depth r.counts.outer) r.flags.rooted r.counts.labels
    unfolding elements_of
    inside-closed =
        let t = top_inside is bs r.counts.outer n r.store.low r.counts.bindings inward in
        let u = chained_up bs (row_at is n).more (r.counts.bindings - (row_at is n).more) ((row_at is n).at + (row_at is n).name) (ceiling is n) t.bound in
        let a = t.starts in
        let l = t.least in
        record {
          valid =
              record {
                frame_words = x.frame_words;
                binding_words = x.binding_words;
                inner_words = x.inner_words;
                store = x.store;
                deep = omega (arith, x.deep);
                bound = omega (arith, x.bound);
                apart = omega (arith, x.apart);
                based = x.based;
                labels = x.labels;
                frames = x.frames;
                inners = inners_rest is bs r.counts.outer n r.store.low r.counts.bindings inward;
                few = x.few;
                noted = x.noted;
              };
          chosen = refl;
          base = start_kept {w = w} {v = w} {hi = r.store.base} r (inside_to r n (ceiling is n) (row_at is n).more) kept_all (omega arith) refl refl;
          elements = refl;
          root = refl;
          count = refl;
        }

    pub inside_element : elements_of r fs bs is w
        ≡ inner_of (row_at is n) (bindings_of bs w (row_at is n).more (r.counts.bindings - (row_at is n).more)) w
        ∷ (inners_of is bs w n (row_at is n).more ++ frames_of fs bs w r.counts.depth r.counts.outer)
    unfolding elements_of inners_of
    inside_element = rw d
