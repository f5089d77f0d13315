-- What a write elsewhere leaves as it was: bindings, children, elements. Every law is of a stretch that is kept.
use Prim.Native.Nat.{ℕ, zero, suc, ◌+◌, ◌-◌, ◌*◌, ◌≤◌}
use Rattle.std.specs.Prelude.{◌≡◌, Bool, List, eqb, leb}
use Rattle.std.proofs.Math.Path.{refl}
use Rattle.std.proofs.Common.{ap, ◌∙◌, arith, eqb-true, leb-true, eq-eqb, le-leb}
use Rattle.std.proofs.Math.Bool.{true}
use Rattle.spec.specs.NTriples.{Subject}
use Rattle.spec.specs.Limits.{work_store_bytes}
use Rattle.spec.proofs.Booleans.{and_left, and_right}
use Rattle.spec.specs.Namespaces.{Binding}
use Rattle.copy.specs.Copy.{part}
use Rattle.state_words.specs.Parts.{NAME, BINDINGS, BASE, TAG, MAIN, ID, DATATYPE, TAIL, END, FRAME}
use Rattle.state_words.specs.declared.Kind.{Kind}
use Rattle.state_words.specs.declared.Kind.TheVariants.{Rdf, NodeElt, PropertyElt, ParseTypeCollectionPropertyElt, ParseTypeLiteralPropertyElt, ParseTypeOtherPropertyElt, Wrapper}
use Rattle.state_words.specs.declared.Frame.{Frame}
use Rattle.state_words.specs.declared.Row.{Row}
use Rattle.state_words.specs.Kept.{Kept, kept_less}
use Rattle.state_words.specs.Words.{frame_at, row_at, frame_kept, row_kept}
use Rattle.state.specs.Meaning.{at, count, first, span, child_size, child_from, child_of, children_of, binding_of, bindings_of, subject_of, property_of, what_of, part_of, element_of, subject_below, frames_of, inner_of, inners_of}
use Rattle.state.specs.Valid.{noted_in, chained, children_ok, kind_ok, node_below, is_root_in, stands, frames_ok, inners_ok, ceiling, Rising, Sound, rising, top_sound, rest_ok, frames_on, top_inside, inners_rest, inners_on}

pub span_kept : {w v : List ℕ} {lo hi : ℕ} → Kept w v lo hi → (a b : ℕ) → lo ≤ a → a ≤ b → b ≤ hi → span v a b ≡ span w a b
unfolding span
span_kept k a b l m h = k.parts a (b - a) l (omega arith)

-- ---- bindings

-- the last of n + 1 bindings, and the others
pub record Last (bs : List ℕ) (b n from to : ℕ) : Type 0 where
  pub ends : (row_at bs (b + n)).at + (row_at bs (b + n)).name + (row_at bs (b + n)).more ≡ to
  pub rest : chained bs b n from (row_at bs (b + n)).at ≡ true

pub last-bound : (bs : List ℕ) (b n from to : ℕ) → chained bs b (suc n) from to ≡ true → Last bs b n from to
unfolding chained
last-bound bs b n from to h =
    let t : Bool = eqb ((row_at bs (b + n)).at + (row_at bs (b + n)).name + (row_at bs (b + n)).more) to in
    record { ends = eqb-true _ _ (and_left t _ h); rest = and_right t _ h }

pub chained_on : (bs : List ℕ) (b n from to : ℕ) → Last bs b n from to → chained bs b (suc n) from to ≡ true
unfolding chained
chained_on bs b n from to l = rw (eq-eqb ((row_at bs (b + n)).at + (row_at bs (b + n)).name + (row_at bs (b + n)).more) to l.ends, l.rest)

pub chained_up : (bs : List ℕ) (b n from to : ℕ) → chained bs b n from to ≡ true → from ≤ to
unfolding chained
chained_up bs b zero from to h = omega (arith, eqb-true from to h)
chained_up bs b (suc n) from to h =
    let l = last-bound bs b n from to h in
    omega (arith, chained_up bs b n from (row_at bs (b + n)).at l.rest)

module _ {bs cs : List ℕ} {lo hi : ℕ} (k : Kept bs cs lo hi) where
  pub chained_kept : (b n from to : ℕ) → lo ≤ b * 3 → (b + n) * 3 ≤ hi → chained bs b n from to ≡ true → chained cs b n from to ≡ true
  unfolding chained
  chained_kept b zero from to l h c = c
  chained_kept b (suc n) from to l h c =
      let p = last-bound bs b n from to c in
      let e : row_at cs (b + n) ≡ row_at bs (b + n) = row_kept k (b + n) (omega arith) (omega arith) in
      let i : chained cs b n from (row_at bs (b + n)).at ≡ true = chained_kept b n from (row_at bs (b + n)).at l (omega arith) p.rest in
      chained_on cs b n from to (record { ends = rw e p.ends; rest = rw e i })

  pub bindings_kept : {w v : List ℕ} {low high : ℕ} → Kept w v low high → (b n from to : ℕ) → lo ≤ b * 3 → (b + n) * 3 ≤ hi → low ≤ from → to ≤ high
      → chained bs b n from to ≡ true → bindings_of cs v b n ≡ bindings_of bs w b n
  unfolding bindings_of binding_of
  bindings_kept m b zero from to l h l' h' c = refl
  bindings_kept {w} {v} m b (suc n) from to l h l' h' c =
      let p = last-bound bs b n from to c in
      let e : row_at cs (b + n) ≡ row_at bs (b + n) = row_kept k (b + n) (omega arith) (omega arith) in
      let u = chained_up bs b n from (row_at bs (b + n)).at p.rest in
      let i : bindings_of cs v b n ≡ bindings_of bs w b n =
      bindings_kept m b n from (row_at bs (b + n)).at l (omega arith) l' (omega arith) p.rest in
      rw (
        e,
        i,
        m.parts (row_at bs (b + n)).at (row_at bs (b + n)).name (omega arith) (omega arith),
        m.parts ((row_at bs (b + n)).at + (row_at bs (b + n)).name) (row_at bs (b + n)).more (omega arith) (omega arith),
      )

-- ---- children

pub record LastChild (w : List ℕ) (from n e : ℕ) : Type 0 where
  pub fits : from + 4 + child_size w e ≤ e
  pub rest : children_ok w from n (child_from w e) ≡ true

pub last-child : (w : List ℕ) (from n e : ℕ) → children_ok w from (suc n) e ≡ true → LastChild w from n e
unfolding children_ok
last-child w from n e h =
    record { fits = leb-true _ _ (and_left (leb (from + 4 + child_size w e) e) _ h); rest = and_right (leb (from + 4 + child_size w e) e) _ h }

pub children_on : (w : List ℕ) (from n e : ℕ) → LastChild w from n e → children_ok w from (suc n) e ≡ true
unfolding children_ok
children_on w from n e l = rw (le-leb (from + 4 + child_size w e) e l.fits, l.rest)

module _ {w v : List ℕ} {lo hi : ℕ} (k : Kept w v lo hi) where
  size_kept : (from e : ℕ) → from + 4 ≤ e → lo ≤ from → e ≤ hi → part v (e - 4) 4 ≡ part w (e - 4) 4
  size_kept from e f l h = k.parts (e - 4) 4 (omega arith) (omega arith)

  pub child-size_kept : (from e : ℕ) → from + 4 ≤ e → lo ≤ from → e ≤ hi → child_size v e ≡ child_size w e
  unfolding child_size
  child-size_kept from e f l h = rw (size_kept from e f l h)

  child_kept : (from e : ℕ) → from + 4 + child_size w e ≤ e → lo ≤ from → e ≤ hi → child_of v e ≡ child_of w e
  unfolding child_of
  child_kept from e f l h =
      rw (
        child-size_kept from e (omega arith) l h,
        size_kept from e (omega arith) l h,
        k.parts (child_from w e) (child_size w e) (omega arith) (omega arith),
      )

  pub children_ok_kept : (from n e : ℕ) → lo ≤ from → e ≤ hi → children_ok w from n e ≡ true → children_ok v from n e ≡ true
  unfolding children_ok
  children_ok_kept from zero e l h c = c
  children_ok_kept from (suc n) e l h c =
      let p = last-child w from n e c in
      let f = p.fits in
      let s : child_size v e ≡ child_size w e = child-size_kept from e (omega arith) l h in
      let i : children_ok v from n (child_from w e) ≡ true = children_ok_kept from n (child_from w e) l (omega arith) p.rest in
      children_on v from n e (record { fits = rw s f; rest = rw s i })

  pub children_kept : (from n e : ℕ) → lo ≤ from → e ≤ hi → children_ok w from n e ≡ true → children_of v n e ≡ children_of w n e
  unfolding children_of
  children_kept from zero e l h c = refl
  children_kept from (suc n) e l h c =
      let p = last-child w from n e c in
      let f = p.fits in
      let i : children_of v n (child_from w e) ≡ children_of w n (child_from w e) = children_kept from n (child_from w e) l (omega arith) p.rest in
      rw (child_kept from e f l h, child-size_kept from e (omega arith) l h, i)

-- ---- an element

pub record Collected (f : Frame) (w : List ℕ) : Type 0 where
  pub typed : at f DATATYPE ≡ at f TAIL
  pub children : children_ok w (at f TAIL) (count f) (at f END) ≡ true

pub collected : (f : Frame) (w : List ℕ) → kind_ok ParseTypeCollectionPropertyElt f w ≡ true → Collected f w
unfolding kind_ok
collected f w h = record { typed = eqb-true _ _ (and_left (eqb (at f DATATYPE) (at f TAIL)) _ h); children = and_right (eqb (at f DATATYPE) (at f TAIL)) _ h }

pub collected_ok : (f : Frame) (w : List ℕ) → Collected f w → kind_ok ParseTypeCollectionPropertyElt f w ≡ true
unfolding kind_ok
collected_ok f w c = rw (eq-eqb (at f DATATYPE) (at f TAIL) c.typed, c.children)

module _ {w v : List ℕ} {hi : ℕ} (k : Kept w v 0 hi) (f : Frame) (r : Rising f) (b : at f END ≤ hi) where
  pub kind_kept : (q : Kind) → kind_ok q f w ≡ true → kind_ok q f v ≡ true
  unfolding kind_ok
  kind_kept Rdf h = h
  kind_kept NodeElt h = h
  kind_kept PropertyElt h = h
  kind_kept ParseTypeCollectionPropertyElt h =
      let c = collected f w h in
      collected_ok f v (record { typed = c.typed; children = children_ok_kept k (at f TAIL) (count f) (at f END) (omega arith) b c.children })
  kind_kept ParseTypeLiteralPropertyElt h = h
  kind_kept ParseTypeOtherPropertyElt h = h
  kind_kept Wrapper h = h

  pub subject_kept : subject_of f v ≡ subject_of f w
  unfolding subject_of
  subject_kept = rw (span_kept k (at f MAIN) (at f ID) (omega arith) (omega arith) (omega arith))

  property_kept : (s : Subject) → property_of f v s ≡ property_of f w s
  unfolding property_of
  property_kept s =
      rw (span_kept k (at f MAIN) (at f ID) (omega arith) (omega arith) (omega arith), span_kept k (at f ID) (at f DATATYPE) (omega arith) (omega arith) (omega arith))

  what_kept : (q : Kind) (s : Subject) → kind_ok q f w ≡ true → what_of q f v s ≡ what_of q f w s
  unfolding what_of
  what_kept Rdf s h = refl
  what_kept NodeElt s h = rw subject_kept
  what_kept PropertyElt s h =
      rw (
        property_kept s,
        span_kept k (at f DATATYPE) (at f TAIL) (omega arith) (omega arith) (omega arith),
        span_kept k (at f TAIL) (at f END) (omega arith) (omega arith) (omega arith),
      )
  what_kept ParseTypeCollectionPropertyElt s h =
      rw (property_kept s, children_kept k (at f TAIL) (count f) (at f END) (omega arith) b (collected f w h).children)
  what_kept ParseTypeLiteralPropertyElt s h = rw (property_kept s, span_kept k (at f TAIL) (at f END) (omega arith) (omega arith) (omega arith))
  what_kept ParseTypeOtherPropertyElt s h = rw (property_kept s)
  what_kept Wrapper s h = refl

  part_kept : (q : Kind) → part_of q f v ≡ part_of q f w
  unfolding part_of
  part_kept Rdf = rw (span_kept k (at f TAIL) (at f END) (omega arith) (omega arith) (omega arith))
  part_kept NodeElt = refl
  part_kept PropertyElt = refl
  part_kept ParseTypeCollectionPropertyElt = refl
  part_kept ParseTypeLiteralPropertyElt = refl
  part_kept ParseTypeOtherPropertyElt = refl
  part_kept Wrapper = refl

  pub element_kept : (bound : List Binding) (s : Subject) → kind_ok f.kind f w ≡ true → element_of f bound v s ≡ element_of f bound w s
  unfolding element_of
  element_kept bound s h =
      rw (
        what_kept f.kind s h,
        part_kept f.kind,
        span_kept k (at f NAME) (at f BINDINGS) (omega arith) (omega arith) (omega arith),
        span_kept k (at f BASE) (at f TAG) (omega arith) (omega arith) (omega arith),
        span_kept k (at f TAG) (at f MAIN) (omega arith) (omega arith) (omega arith),
      )

-- ---- elements outside Literal content

pub stands_kept : {fs gs : List ℕ} (n : ℕ) → Kept fs gs 0 (n * FRAME) → (q : Kind) → stands q gs n ≡ stands q fs n
unfolding stands node_below is_root_in
stands_kept {fs} {gs} n k q = go q
  where
    below : (n : ℕ) → Kept fs gs 0 (n * FRAME) → node_below gs n ≡ node_below fs n
    below zero k = refl
    below (suc n) k = rw (frame_kept k n (omega arith) (omega arith))

    root : (n : ℕ) → Kept fs gs 0 (n * FRAME) → is_root_in gs n ≡ is_root_in fs n
    root zero k = refl
    root (suc n) k = rw (frame_kept k n (omega arith) (omega arith))

    go : (q : Kind) → stands q gs n ≡ stands q fs n
    go Rdf = root n k
    go NodeElt = refl
    go PropertyElt = below n k
    go ParseTypeCollectionPropertyElt = below n k
    go ParseTypeLiteralPropertyElt = below n k
    go ParseTypeOtherPropertyElt = below n k
    go Wrapper = refl

-- the subject of the element around
pub below_kept : {fs gs w v : List ℕ} (bs : List ℕ) (base n top b : ℕ) → Kept fs gs 0 (n * FRAME) → Kept w v 0 top → frames_ok fs bs w base n top b ≡ true → subject_below gs v n ≡ subject_below fs w n
unfolding subject_below
below_kept bs base zero top b k m h = refl
below_kept {fs} {gs} {w} {v} bs base (suc n) top b k m h =
    let s = top_sound fs bs w n top b base h in
    let r = rising (frame_at fs n) s.up in
    rw (frame_kept k n (omega arith) (omega arith)) (subject_kept m (frame_at fs n) r (omega (arith, s.ends)))

module _ {fs gs bs cs w v : List ℕ} (base : ℕ) where
  pub sound_kept : (f : Frame) (n top b : ℕ) → Kept fs gs 0 (n * FRAME) → Kept bs cs 0 (b * 3) → Kept w v 0 top → Sound fs bs w f n top b → Sound gs cs v f n top b
  sound_kept f n top b k j m s =
      let l = s.least in
      record {
        ends = s.ends;
        up = s.up;
        parts = s.parts;
        least = l;
        bound = chained_kept j (first f) (b - first f) (at f BINDINGS) (at f BASE) (omega arith) (omega arith) s.bound;
        kind = kind_kept m f (rising f s.up) (omega (arith, s.ends)) f.kind s.kind;
        stood = stands_kept n k f.kind ∙ s.stood;
      }

  pub frames_ok_kept : (n top b : ℕ) → Kept fs gs 0 (n * FRAME) → Kept bs cs 0 (b * 3) → Kept w v 0 top → frames_ok fs bs w base n top b ≡ true
      → frames_ok gs cs v base n top b ≡ true
  unfolding frames_ok
  frames_ok_kept zero top b k j m h = h
  frames_ok_kept (suc n) top b k j m h =
      let s = top_sound fs bs w n top b base h in
      let r = rising (frame_at fs n) s.up in
      let l = s.least in
      let e : frame_at gs n ≡ frame_at fs n = frame_kept k n (omega arith) (omega arith) in
      let t : Sound gs cs v (frame_at fs n) n top b = sound_kept (frame_at fs n) n top b (kept_less k (omega arith) (omega arith)) j m s in
      let i : frames_ok gs cs v base n (at (frame_at fs n) NAME) (first (frame_at fs n)) ≡ true =
      frames_ok_kept n (at (frame_at fs n) NAME) (first (frame_at fs n)) (kept_less k (omega arith) (omega arith)) (kept_less j (omega arith) (omega arith)) (kept_less m (omega arith) (omega (arith, s.ends))) (rest_ok fs bs w n top b base h) in
      frames_on gs cs v n top b base (rw e t) (rw e i)

  pub frames_kept : (n top b : ℕ) → Kept fs gs 0 (n * FRAME) → Kept bs cs 0 (b * 3) → Kept w v 0 top → frames_ok fs bs w base n top b ≡ true
      → frames_of gs cs v n b ≡ frames_of fs bs w n b
  unfolding frames_of
  frames_kept zero top b k j m h = refl
  frames_kept (suc n) top b k j m h =
      let s = top_sound fs bs w n top b base h in
      let r = rising (frame_at fs n) s.up in
      let l = s.least in
      let z = s.ends in
      let rest = rest_ok fs bs w n top b base h in
      let m' : Kept w v 0 (at (frame_at fs n) NAME) = kept_less m (omega arith) (omega arith) in
      let k' : Kept fs gs 0 (n * FRAME) = kept_less k (omega arith) (omega arith) in
      rw (
        frame_kept k n (omega arith) (omega arith),
        below_kept bs base n (at (frame_at fs n) NAME) (first (frame_at fs n)) k' m' rest,
        bindings_kept j m (first (frame_at fs n)) (b - first (frame_at fs n)) (at (frame_at fs n) BINDINGS) (at (frame_at fs n) BASE) (omega arith) (omega arith) (omega arith) (omega arith) s.bound,
        element_kept m (frame_at fs n) r (omega arith) (bindings_of bs w (first (frame_at fs n)) (b - first (frame_at fs n))) (subject_below fs w n) s.kind,
        frames_kept n (at (frame_at fs n) NAME) (first (frame_at fs n)) k' (kept_less j (omega arith) (omega arith)) m' rest,
      )

-- what they have noted
pub noted_kept : {fs gs : List ℕ} (n : ℕ) → Kept fs gs 0 (n * FRAME) → noted_in gs n ≡ noted_in fs n
unfolding noted_in
noted_kept zero k = refl
noted_kept (suc n) k = rw (noted_kept n (kept_less k (omega arith) (omega arith)), frame_kept k n (omega arith) (omega arith))

-- ---- elements inside Literal content

ceiling_kept : {is js : List ℕ} (n : ℕ) → Kept is js 0 (n * 3) → ceiling js n ≡ ceiling is n
unfolding ceiling
ceiling_kept zero k = refl
ceiling_kept (suc n) k = ap (λ (r : Row). r.at) (row_kept k n (omega arith) (omega arith))

-- they start at low or above, and their bindings begin at outer or above
pub inners_up : (is bs : List ℕ) (outer n low b : ℕ) → inners_ok is bs outer n low b ≡ true → (low ≤ 65_536) × (outer ≤ b)
unfolding inners_ok work_store_bytes
inners_up is bs outer zero low b h =
    (omega (arith, eqb-true low 65_536 (and_left (eqb low 65_536) _ h)), omega (arith, eqb-true b outer (and_right (eqb low 65_536) _ h)))
inners_up is bs outer (suc n) low b h =
    let s = top_inside is bs outer n low b h in
    let i = inners_up is bs outer n (ceiling is n) (row_at is n).more (inners_rest is bs outer n low b h) in
    let u = chained_up bs (row_at is n).more (b - (row_at is n).more) ((row_at is n).at + (row_at is n).name) (ceiling is n) s.bound in
    (omega (arith, i.0, s.starts), omega (arith, i.1, s.least))

module _ {is js bs cs : List ℕ} (outer : ℕ) where
  pub inners_ok_kept : (n low b : ℕ) → Kept is js 0 (n * 3) → Kept bs cs (outer * 3) (b * 3) → inners_ok is bs outer n low b ≡ true → inners_ok js cs outer n low b ≡ true
  unfolding inners_ok
  inners_ok_kept zero low b k j h = h
  inners_ok_kept (suc n) low b k j h =
      let s = top_inside is bs outer n low b h in
      let l = s.least in
      let rest = inners_rest is bs outer n low b h in
      let i = inners_up is bs outer n (ceiling is n) (row_at is n).more rest in
      let e : row_at js n ≡ row_at is n = row_kept k n (omega arith) (omega arith) in
      let k' : Kept is js 0 (n * 3) = kept_less k (omega arith) (omega arith) in
      let c : ceiling js n ≡ ceiling is n = ceiling_kept n k' in
      let x : chained cs (row_at is n).more (b - (row_at is n).more) ((row_at is n).at + (row_at is n).name) (ceiling is n) ≡ true =
      chained_kept j (row_at is n).more (b - (row_at is n).more) ((row_at is n).at + (row_at is n).name) (ceiling is n) (omega (arith, i.1)) (omega arith) s.bound in
      let y : inners_ok js cs outer n (ceiling is n) (row_at is n).more ≡ true =
      inners_ok_kept n (ceiling is n) (row_at is n).more k' (kept_less j (omega arith) (omega arith)) rest in
      inners_on js cs outer n low b (record { starts = rw e s.starts; least = rw e l; bound = rw (e, c) x }) (rw (e, c) y)

  pub inners_kept : {w v : List ℕ} (n low b : ℕ) → Kept is js 0 (n * 3) → Kept bs cs (outer * 3) (b * 3) → Kept w v low 65_536 → inners_ok is bs outer n low b ≡ true
      → inners_of js cs v n b ≡ inners_of is bs w n b
  unfolding inners_of inner_of
  inners_kept zero low b k j m h = refl
  inners_kept {w} {v} (suc n) low b k j m h =
      let s = top_inside is bs outer n low b h in
      let l = s.least in
      let z = s.starts in
      let rest = inners_rest is bs outer n low b h in
      let i = inners_up is bs outer n (ceiling is n) (row_at is n).more rest in
      let u = chained_up bs (row_at is n).more (b - (row_at is n).more) ((row_at is n).at + (row_at is n).name) (ceiling is n) s.bound in
      let k' : Kept is js 0 (n * 3) = kept_less k (omega arith) (omega arith) in
      rw (
        row_kept k n (omega arith) (omega arith),
        m.parts (row_at is n).at (row_at is n).name (omega arith) (omega (arith, i.0)),
        bindings_kept j m (row_at is n).more (b - (row_at is n).more) ((row_at is n).at + (row_at is n).name) (ceiling is n) (omega (arith, i.1)) (omega arith) (omega arith) i.0 s.bound,
        inners_kept n (ceiling is n) (row_at is n).more k' (kept_less j (omega arith) (omega arith)) (kept_less m (omega arith) (omega arith)) rest,
      )
