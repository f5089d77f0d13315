-- What a read of a valid state needs: live places are within, and the bindings in scope are the rows of their table, last to first.
use Rattle.std.specs.Prelude.{ℕ, zero, suc, ◌+◌, ◌-◌, ◌<◌, ◌≤◌, ◌≡◌, refl, Bool, true, false, ◌⊎◌, List, [], ◌++◌, eqb, length}
use Rattle.std.proofs.Common.{sym, ap, ◌∙◌, inl, inr, ⊎_elim, zero-add, add-zero, add-suc, not-suc-le-zero, eq-or-lt_of_le, le_of_suc-le-suc, arith, eqb-true, eq-eqb}
use Rattle.std.proofs.Math.Option.{none, some}
use Rattle.std.proofs.Math.Decide.{dec_lt}
use Rattle.spec.specs.Limits.{work_store_bytes}
use Rattle.spec.specs.declared.Mode.{Mode}
use Rattle.spec.specs.Document.{Frame as Element, fresh, in_scope}
use Rattle.spec.proofs.Booleans.{and_right}
use Rattle.copy.specs.Copy.{part}
use Rattle.state_words.specs.Parts.{NAME, BINDINGS, BASE, END, TABLE}
use Rattle.state_words.specs.declared.Frame.{Frame}
use Rattle.state_words.specs.Words.{pick, frame_at, row_at}
use Rattle.state.specs.declared.Registers.{Registers}
use Rattle.state.specs.Meaning.{at, first, bindings_of, element_of, frames_of, inner_of, inners_of, start_of, elements_of, doc_of}
use Rattle.state.specs.Valid.{noted_in, chained, frames_ok, inners_ok, ceiling, Rising, Valid, rising, top_sound, rest_ok, top_inside, inners_rest}
use Rattle.state.specs.Stay.{last-bound, inners_up}
use Rattle.state.specs.Held.{room}

split : (k n : ℕ) → k < suc n → (k < n) ⊎ (k ≡ n)
split k n h = ⊎_elim (λ (e : k ≡ n). inr e) (λ (l : k < n). inl l) (eq-or-lt_of_le (le_of_suc-le-suc h))

below : (j k : ℕ) → (j < k) ⊎ (k ≤ j)
below j k = elim (dec_lt j k) [ yes p ↦ inl p | no q ↦ inr (omega arith) ]

-- ---- frames

-- the places of a frame go up to `top` at most
pub record Within (f : Frame) (top : ℕ) : Type 0 where
  pub up : Rising f
  pub ends : at f END ≤ top

pub within_frames : (fs bs w : List ℕ) (base n top b : ℕ) → frames_ok fs bs w base n top b ≡ true → (i : ℕ) → i < n → Within (frame_at fs i) top
within_frames fs bs w base zero top b h i l = absurd (not-suc-le-zero l)
within_frames fs bs w base (suc n) top b h i l =
    let s = top_sound fs bs w n top b base h in
    let r = rising (frame_at fs n) s.up in
    let z = s.ends in
    ⊎_elim
    (λ (k : i < n).
    let j = within_frames fs bs w base n (at (frame_at fs n) NAME) (first (frame_at fs n)) (rest_ok fs bs w n top b base h) i k in
    record { up = j.up; ends = omega (arith, j.ends) })
    (λ (e : i ≡ n). rw e (record { up = r; ends = omega arith }))
    (split i n l)

-- the one citation at a read: a live frame's places lie in the work store
pub live : {r : Registers} {fs bs is w : List ℕ} → Valid r fs bs is w → (i : ℕ) → i < r.counts.depth → Within (frame_at fs i) r.store.top
live {r} {fs} {bs} {is} {w} v i l = within_frames fs bs w r.store.base r.counts.depth r.store.top r.counts.outer v.frames i l

-- ---- bindings

within_chain : (bs : List ℕ) (b n from to : ℕ) → chained bs b n from to ≡ true → (j : ℕ) → b ≤ j → j < b + n → (row_at bs j).at + (row_at bs j).name + (row_at bs j).more ≤ to
within_chain bs b zero from to h j l u = absurd (omega arith)
within_chain bs b (suc n) from to h j l u =
    let p = last-bound bs b n from to h in
    let e = p.ends in
    ⊎_elim
    (λ (k : j < b + n). omega (arith, within_chain bs b n from (row_at bs (b + n)).at p.rest j l k))
    (λ (q : j ≡ b + n). rw q (omega arith))
    (split j (b + n) (omega arith))

within_outer : (fs bs w : List ℕ) (base n top b : ℕ) → frames_ok fs bs w base n top b ≡ true → (j : ℕ) → j < b → (row_at bs j).at + (row_at bs j).name + (row_at bs j).more ≤ top
unfolding frames_ok
within_outer fs bs w base zero top b h j l = absurd (omega (arith, eqb-true b 0 (and_right (eqb base top) _ h)))
within_outer fs bs w base (suc n) top b h j l =
    let s = top_sound fs bs w n top b base h in
    let r = rising (frame_at fs n) s.up in
    let z = s.ends in
    let m = s.least in
    ⊎_elim
    (λ (k : j < first (frame_at fs n)). omega (arith, within_outer fs bs w base n (at (frame_at fs n) NAME) (first (frame_at fs n)) (rest_ok fs bs w n top b base h) j k))
    (λ (k : first (frame_at fs n) ≤ j). omega (arith, within_chain bs (first (frame_at fs n)) (b - first (frame_at fs n)) (at (frame_at fs n) BINDINGS) (at (frame_at fs n) BASE) s.bound j k (omega arith)))
    (below j (first (frame_at fs n)))

within-inner : (is bs : List ℕ) (outer n low b : ℕ) → inners_ok is bs outer n low b ≡ true → (j : ℕ) → outer ≤ j → j < b → (row_at bs j).at + (row_at bs j).name + (row_at bs j).more ≤ 65_536
unfolding inners_ok work_store_bytes
within-inner is bs outer zero low b h j u l = absurd (omega (arith, eqb-true b outer (and_right (eqb low 65_536) _ h)))
within-inner is bs outer (suc n) low b h j u l =
    let s = top_inside is bs outer n low b h in
    let m = s.least in
    let rest = inners_rest is bs outer n low b h in
    let i = inners_up is bs outer n (ceiling is n) (row_at is n).more rest in
    ⊎_elim
    (λ (k : j < (row_at is n).more). within-inner is bs outer n (ceiling is n) (row_at is n).more rest j u k)
    (λ (k : (row_at is n).more ≤ j). omega (arith, i.0, within_chain bs (row_at is n).more (b - (row_at is n).more) ((row_at is n).at + (row_at is n).name) (ceiling is n) s.bound j k (omega arith)))
    (below j (row_at is n).more)

-- a live binding's bytes lie in the work store
pub live_binding : {r : Registers} {fs bs is w : List ℕ} → Valid r fs bs is w → (j : ℕ) → j < r.counts.bindings → (row_at bs j).at + (row_at bs j).name + (row_at bs j).more ≤ 65_536
live_binding {r} {fs} {bs} {is} {w} v j l =
    let o = room v in
    ⊎_elim
    (λ (k : j < r.counts.outer). omega (arith, o.low, v.apart, within_outer fs bs w r.store.base r.counts.depth r.store.top r.counts.outer v.frames j k))
    (λ (k : r.counts.outer ≤ j). within-inner is bs r.counts.outer r.counts.inner r.store.low r.counts.bindings v.inners j k l)
    (below j r.counts.outer)

-- ---- the bindings in scope

-- the first c rows, and those from c up to b
bindings_join : (bs w : List ℕ) (c n : ℕ) → bindings_of bs w 0 (c + n) ≡ bindings_of bs w c n ++ bindings_of bs w 0 c
unfolding bindings_of
bindings_join bs w c zero = rw add-zero
bindings_join bs w c (suc n) = rw (add-suc, zero-add, bindings_join bs w c n)

scope_frames : (fs bs w : List ℕ) (base n top b : ℕ) → frames_ok fs bs w base n top b ≡ true → in_scope (frames_of fs bs w n b) ≡ bindings_of bs w 0 b
unfolding in_scope frames_of element_of frames_ok bindings_of
scope_frames fs bs w base zero top b h = let e : b ≡ 0 = eqb-true b 0 (and_right (eqb base top) _ h) in rw e
scope_frames fs bs w base (suc n) top b h =
    let s = top_sound fs bs w n top b base h in
    let m = s.least in
    let e : first (frame_at fs n) + (b - first (frame_at fs n)) ≡ b = omega arith in
    rw (scope_frames fs bs w base n (at (frame_at fs n) NAME) (first (frame_at fs n)) (rest_ok fs bs w n top b base h))
    (sym (bindings_join bs w (first (frame_at fs n)) (b - first (frame_at fs n))) ∙ ap (bindings_of bs w 0) e)

scope_inners : (is bs w : List ℕ) (outer n low b : ℕ) (es : List Element) → inners_ok is bs outer n low b ≡ true → in_scope es ≡ bindings_of bs w 0 outer
    → in_scope (inners_of is bs w n b ++ es) ≡ bindings_of bs w 0 b
unfolding in_scope inners_of inner_of inners_ok work_store_bytes
scope_inners is bs w outer zero low b es h q = let e : b ≡ outer = eqb-true b outer (and_right (eqb low 65_536) _ h) in q ∙ ap (bindings_of bs w 0) (sym e)
scope_inners is bs w outer (suc n) low b es h q =
    let s = top_inside is bs outer n low b h in
    let m = s.least in
    let e : (row_at is n).more + (b - (row_at is n).more) ≡ b = omega arith in
    rw (scope_inners is bs w outer n (ceiling is n) (row_at is n).more es (inners_rest is bs outer n low b h) q)
    (sym (bindings_join bs w (row_at is n).more (b - (row_at is n).more)) ∙ ap (bindings_of bs w 0) e)

-- the rows of the table, from the last to the first, are the bindings in scope
pub in_scope_lem : {r : Registers} {fs bs is w : List ℕ} → Valid r fs bs is w → in_scope (elements_of r fs bs is w) ≡ bindings_of bs w 0 r.counts.bindings
unfolding elements_of
in_scope_lem {r} {fs} {bs} {is} {w} v =
    scope_inners is bs w r.counts.outer r.counts.inner r.store.low r.counts.bindings (frames_of fs bs w r.counts.depth r.counts.outer) v.inners (scope_frames fs bs w r.store.base r.counts.depth r.store.top r.counts.outer v.frames)

-- ---- a document that begins

-- the registers of a fresh document with a start base of n bytes, if there is one
abbrev pub started_with : Mode → Bool → ℕ → Registers
started_with m b n =
    record {
      mode = m;
      flags = record { closed = false; rooted = false; based = b };
      store = record { base = n; top = n; low = 65_536; noted = 0 };
      counts = record { depth = 0; inner = 0; outer = 0; bindings = 0; labels = 0 };
    }

-- whatever tables and store hold behind the start base
pub started : (m : Mode) (b : Bool) (n : ℕ) (fs bs is w : List ℕ) → length fs ≡ TABLE → length bs ≡ 384 → length is ≡ 192 → length w ≡ 65_536 → n ≤ 65_536 → pick b true (eqb n 0) ≡ true
    → Valid (started_with m b n) fs bs is w
unfolding frames_ok inners_ok noted_in work_store_bytes
started m b n fs bs is w lf lb li lw l e =
    record {
      frame_words = lf;
      binding_words = lb;
      inner_words = li;
      store = lw;
      deep = omega arith;
      bound = omega arith;
      apart = l;
      based = e;
      labels = omega arith;
      frames = rw (eq-eqb n n refl);
      inners = refl;
      few = omega arith;
      noted = refl;
    }

pub started_means : (m : Mode) (b : Bool) (n : ℕ) (fs bs is w : List ℕ) → doc_of (started_with m b n) fs bs is w [] ≡ fresh m (pick b (some (part w 0 n)) none)
unfolding doc_of elements_of frames_of inners_of start_of fresh
started_means m b n fs bs is w = refl
