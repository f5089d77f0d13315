-- The tests of validity, as the code makes them: each loop goes from the last element to the first, and what is left to test is what was to test.
use Rattle.std.specs.Prelude.{ℕ, zero, suc, ◌+◌, ◌-◌, ◌*◌, ◌<◌, ◌≤◌, ◌≡◌, refl, Bool, true, false, ◌&&◌, List, eqb, leb, ltb, length, get_or}
use Rattle.std.proofs.Math.Path.{sym}
use Rattle.std.proofs.Common.{ap, ◌∙◌, add-one}
use Rattle.std.proofs.Math.Bool.{and-false}
use native.Mathlib.Omega.{arith}
use borrow.Author.Tests.{eqb-true, leb-true, eq-eqb, ne_eqb, le-leb, lt-leb, ltb-true, ltb-false}
use Rattle.spec.proofs.Booleans.{and_left, and_right}
use Rattle.spec.specs.Limits.{most_open_elements, most_bindings, work_store_bytes}
use Rattle.copy.specs.Copy.{get_d_part}
use Rattle.state_words.specs.Parts.{NAME, BINDINGS, BASE, END, FRAME, TABLE}
use denote.Enum.Bare.{sameb}
use Rattle.std.specs.Prelude.{MatchBool}
use Rattle.std.specs.List.Sorted.{IsNonDecreasing}
use Rattle.state_words.specs.contracts.Kind.{the_type}
use Rattle.state_words.specs.declared.Kind.{Kind}
use Rattle.state_words.specs.declared.Kind.TheVariants.{Rdf, NodeElt, PropertyElt, ParseTypeCollectionPropertyElt, ParseTypeLiteralPropertyElt, ParseTypeOtherPropertyElt, Wrapper}
use Rattle.state_words.specs.declared.Frame.{Frame}
use Rattle.state_words.specs.declared.Row.{Row}
use Rattle.state_words.specs.Words.{frame_at, row_at, load_frame, load_row, load_frame_lem, load_row_lem}
use Rattle.state.specs.declared.Registers.{Registers}
use Rattle.state.specs.Meaning.{at, first, child_size, child_from}
use Rattle.state.specs.Valid.{noted_of, noted_in, noted_ok, rises, is_node, node_below, is_wrapper, is_root_in, chained, children_ok, kind_ok, stands, parts_ok, element_ok, frames_ok, ceiling, inners_ok, counts_ok, lengths_ok, valid_state, element_sound, rising}
use Rattle.state.specs.Stay.{inners_up}

-- a test that is left to be made with i of n elements passed
before : {A : Type 0} (f : ℕ → A) (i : ℕ) → 0 < i → f i ≡ f (suc (i - 1))
before f i h = let e : i ≡ suc (i - 1) = omega arith in ap f e

pub positive : (n : ℕ) → (n ≡ 0 → ⊥) → 0 < n
positive zero z = absurd (z refl)
positive (suc n) z = omega arith

-- ---- places that go up

rises_all : (l : List ℕ) (n : ℕ) → ((k : ℕ) → k < n → get_or l k 0 ≤ get_or l (suc k) 0) → true ≡ rises l n
unfolding rises
rises_all l zero h = refl
rises_all l (suc n) h = rw (le-leb (get_or l n 0) (get_or l (suc n) 0) (h n (omega arith))) (rises_all l n (λ k b. h k (omega arith)))

rises_not : (l : List ℕ) (n k : ℕ) → k < n → get_or l (suc k) 0 < get_or l k 0 → false ≡ rises l n
unfolding rises
rises_not l zero k b h = absurd (omega arith)
rises_not l (suc n) k b h = go (ltb k n) refl (λ m. rises_not l n k m h)
  where
    go : (t : Bool) → ltb k n ≡ t → (k < n → false ≡ rises l n) → false ≡ rises l (suc n)
    go true e below = rw (← below (ltb-true k n e), and-false)
    go false e below = let q : k ≡ n = omega (arith, ltb-false k n e) in rw (lt-leb (get_or l n 0) (get_or l (suc n) 0) (rw q at h))

-- by what `is_sorted` answers
pub rises_sorted : (l : List ℕ) → length l ≡ 9 → (r : Bool) → MatchBool r (IsNonDecreasing l) ((k : ℕ) × (k + 1 < length l) × ((d : ℕ) → get_or l (k + 1) d < get_or l k d))
    → r ≡ rises l END
rises_sorted l n true h = rises_all l END (λ k b. h k (suc k) 0 (omega arith) (omega arith))
rises_sorted l n false h = rises_not l END h.0 (omega (arith, h.1)) (rw add-one at (h.2 0))

-- ---- bindings

pub record ChainWalk (bs : List ℕ) (b n from to i t : ℕ) : Type 0 where
  pub upto : i ≤ n
  pub rest : chained bs b n from to ≡ chained bs b i from t

pub chain_begins : {bs : List ℕ} {b n from to : ℕ} → ChainWalk bs b n from to n to
chain_begins = record { upto = omega arith; rest = refl }

module _ {bs : List ℕ} {b n from to i t : ℕ} (c : ChainWalk bs b n from to i t) where
  pub chain_stop : 0 < i → {r : Row} → r ≡ row_at bs (b + (i - 1)) → (r.at + r.name + r.more ≡ t → ⊥) → false ≡ chained bs b n from to
  unfolding chained
  chain_stop h e x = sym (c.rest ∙ (before (λ (k : ℕ). chained bs b k from t) i h ∙ rw (ne_eqb _ _ (rw e at x))))

  pub chain_more : 0 < i → {r : Row} → r ≡ row_at bs (b + (i - 1)) → r.at + r.name + r.more ≡ t → ChainWalk bs b n from to (i - 1) r.at
  unfolding chained
  chain_more h e x =
      record { upto = omega (arith, c.upto); rest = c.rest ∙ (before (λ (k : ℕ). chained bs b k from t) i h ∙ rw (e, eq-eqb _ _ (rw e at x))) }

  pub chain_done : i ≤ 0 → eqb from t ≡ chained bs b n from to
  unfolding chained
  chain_done h = let e : i ≡ 0 = omega arith in sym (c.rest ∙ rw e)

-- ---- children

pub child-size_is : (w : List ℕ) (e : ℕ) → 4 ≤ e → get_or w (e - 4) 0 + 256 * get_or w (e - 3) 0 ≡ child_size w e
unfolding child_size
child-size_is w e h =
    let a : e - 4 + 0 ≡ e - 4 = omega arith in
    let b : e - 4 + 1 ≡ e - 3 = omega arith in
    rw (get_d_part w (e - 4) 4 0 (omega arith), get_d_part w (e - 4) 4 1 (omega arith), a, b)

pub record ChildWalk (w : List ℕ) (from n to i e : ℕ) : Type 0 where
  pub upto : i ≤ n
  pub below : e ≤ to
  pub rest : children_ok w from n to ≡ children_ok w from i e

pub child-begins : {w : List ℕ} {from n to : ℕ} → ChildWalk w from n to n to
child-begins = record { upto = omega arith; below = omega arith; rest = refl }

module _ {w : List ℕ} {from n to i e : ℕ} (c : ChildWalk w from n to i e) where
  pub child_stop : 0 < i → e < from + 4 + child_size w e → false ≡ children_ok w from n to
  unfolding children_ok
  child_stop h x = sym (c.rest ∙ (before (λ (k : ℕ). children_ok w from k e) i h ∙ rw (lt-leb (from + 4 + child_size w e) e x)))

  pub child_more : 0 < i → from + 4 + child_size w e ≤ e → ChildWalk w from n to (i - 1) (child_from w e)
  unfolding children_ok
  child_more h x =
      record {
        upto = omega (arith, c.upto);
        below = omega (arith, c.below);
        rest = c.rest ∙ (before (λ (k : ℕ). children_ok w from k e) i h ∙ rw (le-leb (from + 4 + child_size w e) e x));
      }

  pub child_done : i ≤ 0 → eqb from e ≡ children_ok w from n to
  unfolding children_ok
  child_done h = let z : i ≡ 0 = omega arith in sym (c.rest ∙ rw z)

-- ---- what is noted

-- what the first i elements have noted is summed up
pub record NoteWalk (fs : List ℕ) (n noted i : ℕ) : Type 0 where
  pub upto : i ≤ n
  pub sum : noted ≡ noted_in fs i
  pub below : noted ≤ i * 4_294_967_296

pub note_begins : {fs : List ℕ} {n : ℕ} → NoteWalk fs n 0 0
unfolding noted_in
note_begins = record { upto = omega arith; sum = refl; below = omega arith }

pub note_more : {fs : List ℕ} {n noted i : ℕ} → NoteWalk fs n noted i → i < n → {f : Frame} → f ≡ frame_at fs i → {more : ℕ} → more ≡ noted_of f → more < 4_294_967_296 → NoteWalk fs n (noted + more) (i + 1)
unfolding noted_in
note_more {fs} {n} {noted} {i} k h {f} e {more} m l =
    let next : noted_in fs (i + 1) ≡ noted_in fs i + noted_of (frame_at fs i) = one_more_lem i in
    record { upto = omega arith; sum = rw (next, ← e, ← m, k.sum); below = omega (arith, k.below) }
  where
    one_more_lem : (i : ℕ) → noted_in fs (i + 1) ≡ noted_in fs i + noted_of (frame_at fs i)
    one_more_lem i = let e : i + 1 ≡ suc i = omega arith in rw e

pub note_done : {fs : List ℕ} {n noted i : ℕ} → NoteWalk fs n noted i → n ≤ i → noted ≡ noted_in fs n
note_done {fs} {n} {noted} {i} k h = let e : i ≡ n = omega (arith, k.upto) in rw e at k.sum

-- ---- the element around, and where an inner element ends

pub ceiling_first : (is : List ℕ) (i : ℕ) → i ≡ 0 → 65_536 ≡ ceiling is i
unfolding ceiling work_store_bytes
ceiling_first is i e = rw e

pub ceiling-other : (is : List ℕ) (i : ℕ) {r : Row} → (i ≡ 0 → ⊥) → i * 3 ≤ length is → r ≡ load_row is (i - 1) → r.at ≡ ceiling is i
unfolding ceiling
ceiling-other is i {r} z h e =
    let p : 0 < i = omega (arith, positive i z) in
    sym (before (ceiling is) i p ∙ ap (λ (x : Row). x.at) (sym (e ∙ load_row_lem is (i - 1) (omega arith))))

pub node_kind : (k : Kind) → sameb the_type k NodeElt ≡ is_node k
unfolding is_node
node_kind Rdf = refl
node_kind NodeElt = refl
node_kind PropertyElt = refl
node_kind ParseTypeCollectionPropertyElt = refl
node_kind ParseTypeLiteralPropertyElt = refl
node_kind ParseTypeOtherPropertyElt = refl
node_kind Wrapper = refl

pub wrapper_kind : (k : Kind) → sameb the_type k Wrapper ≡ is_wrapper k
unfolding is_wrapper
wrapper_kind Rdf = refl
wrapper_kind NodeElt = refl
wrapper_kind PropertyElt = refl
wrapper_kind ParseTypeCollectionPropertyElt = refl
wrapper_kind ParseTypeLiteralPropertyElt = refl
wrapper_kind ParseTypeOtherPropertyElt = refl
wrapper_kind Wrapper = refl

pub no_node : (fs : List ℕ) (n : ℕ) → n ≡ 0 → false ≡ node_below fs n
unfolding node_below
no_node fs n e = rw e

pub node-around : (fs : List ℕ) (n : ℕ) {f : Frame} → (n ≡ 0 → ⊥) → n * FRAME ≤ length fs → f ≡ load_frame fs (n - 1) → is_node f.kind ≡ node_below fs n
unfolding node_below
node-around fs n {f} z h e =
    let p : 0 < n = positive n z in
    sym (before (node_below fs) n p ∙ ap (λ (x : Frame). is_node x.kind) (sym (e ∙ load_frame_lem fs (n - 1) (omega arith))))

pub is_root : (fs : List ℕ) (n : ℕ) → n ≡ 0 → true ≡ is_root_in fs n
unfolding is_root_in
is_root fs n e = rw e

pub in_wrapper_lem : (fs : List ℕ) (n : ℕ) {f : Frame} → (n ≡ 0 → ⊥) → n * FRAME ≤ length fs → f ≡ load_frame fs (n - 1) → is_wrapper f.kind ≡ is_root_in fs n
unfolding is_root_in
in_wrapper_lem fs n {f} z h e =
    let p : 0 < n = positive n z in
    sym (before (is_root_in fs) n p ∙ ap (λ (x : Frame). is_wrapper x.kind) (sym (e ∙ load_frame_lem fs (n - 1) (omega arith))))

-- ---- one element, test by test

module _ (fs bs w : List ℕ) (n top b : ℕ) {f : Frame} (e : f ≡ frame_at fs n) where
  tested : element_ok fs bs w n top b
      ≡ (eqb (at f END) top
      && (rises f.at END
      && (parts_ok f
      && (leb (first f) b && (chained bs (first f) (b - first f) (at f BINDINGS) (at f BASE) && (kind_ok f.kind f w && stands f.kind fs n))))))
  unfolding element_ok
  tested = rw e

  pub ends_elsewhere : (at f END ≡ top → ⊥) → false ≡ element_ok fs bs w n top b
  ends_elsewhere h = sym (tested ∙ rw (ne_eqb (at f END) top h))

  module _ (t : at f END ≡ top) where
    pub falls : rises f.at END ≡ false → false ≡ element_ok fs bs w n top b
    falls h = sym (tested ∙ rw (eq-eqb (at f END) top t, h))

    module _ (u : rises f.at END ≡ true) where
      pub part_left : parts_ok f ≡ false → false ≡ element_ok fs bs w n top b
      part_left h = sym (tested ∙ rw (eq-eqb (at f END) top t, u, h))

      module _ (p : parts_ok f ≡ true) where
        pub bindings_beyond : b < first f → false ≡ element_ok fs bs w n top b
        bindings_beyond h = sym (tested ∙ rw (eq-eqb (at f END) top t, u, p, lt-leb (first f) b h))

        module _ (l : first f ≤ b) where
          pub not_chained : chained bs (first f) (b - first f) (at f BINDINGS) (at f BASE) ≡ false → false ≡ element_ok fs bs w n top b
          not_chained h = sym (tested ∙ rw (eq-eqb (at f END) top t, u, p, le-leb (first f) b l, h))

          module _ (c : chained bs (first f) (b - first f) (at f BINDINGS) (at f BASE) ≡ true) where
            pub kind_wrong : kind_ok f.kind f w ≡ false → false ≡ element_ok fs bs w n top b
            kind_wrong h = sym (tested ∙ rw (eq-eqb (at f END) top t, u, p, le-leb (first f) b l, c, h))

            pub around_decides : kind_ok f.kind f w ≡ true → {r : Bool} → r ≡ stands f.kind fs n → r ≡ element_ok fs bs w n top b
            around_decides h q = sym (tested ∙ (rw (eq-eqb (at f END) top t, u, p, le-leb (first f) b l, c, h) (sym q)))

-- ---- elements outside Literal content

pub record FrameWalk (fs bs w : List ℕ) (base n top b i t c : ℕ) : Type 0 where
  pub upto : i ≤ n
  pub below : t ≤ top
  pub fewer : c ≤ b
  pub rest : frames_ok fs bs w base n top b ≡ frames_ok fs bs w base i t c

pub frame-begins : {fs bs w : List ℕ} {base n top b : ℕ} → FrameWalk fs bs w base n top b n top b
frame-begins = record { upto = omega arith; below = omega arith; fewer = omega arith; rest = refl }

module _ {fs bs w : List ℕ} {base n top b i t c : ℕ} (k : FrameWalk fs bs w base n top b i t c) where
  pub frame_stop : 0 < i → element_ok fs bs w (i - 1) t c ≡ false → false ≡ frames_ok fs bs w base n top b
  unfolding frames_ok
  frame_stop h x = sym (k.rest ∙ (before (λ (j : ℕ). frames_ok fs bs w base j t c) i h ∙ rw x))

  pub frame_more : 0 < i → element_ok fs bs w (i - 1) t c ≡ true → {f : Frame} → f ≡ frame_at fs (i - 1) → FrameWalk fs bs w base n top b (i - 1) (at f NAME) (first f)
  unfolding frames_ok
  frame_more h x {f} e =
      let s = element_sound fs bs w (i - 1) t c x in
      let u = rising (frame_at fs (i - 1)) s.up in
      let z = s.ends in
      let l = s.least in
      record {
        upto = omega (arith, k.upto);
        below = rw e (omega (arith, k.below));
        fewer = rw e (omega (arith, k.fewer));
        rest = k.rest ∙ (before (λ (j : ℕ). frames_ok fs bs w base j t c) i h ∙ rw (e, x));
      }

  pub other_start : i ≤ 0 → (base ≡ t → ⊥) → false ≡ frames_ok fs bs w base n top b
  unfolding frames_ok
  other_start h x = let e : i ≡ 0 = omega arith in sym (k.rest ∙ rw (e, ne_eqb base t x))

  pub frame_done : i ≤ 0 → base ≡ t → eqb c 0 ≡ frames_ok fs bs w base n top b
  unfolding frames_ok
  frame_done h x = let e : i ≡ 0 = omega arith in sym (k.rest ∙ rw (e, eq-eqb base t x))

-- ---- elements inside

pub record InnerWalk (is bs : List ℕ) (outer n low b i l c : ℕ) : Type 0 where
  pub upto : i ≤ n
  pub fewer : c ≤ b
  pub rest : inners_ok is bs outer n low b ≡ inners_ok is bs outer i l c

pub inner-begins : {is bs : List ℕ} {outer n low b : ℕ} → InnerWalk is bs outer n low b n low b
inner-begins = record { upto = omega arith; fewer = omega arith; rest = refl }

module _ {is bs : List ℕ} {outer n low b i l c : ℕ} (k : InnerWalk is bs outer n low b i l c) where
  module _ (h : 0 < i) {r : Row} (e : r ≡ row_at is (i - 1)) where
    opened : inners_ok is bs outer n low b
        ≡ (eqb r.at l
        && (leb r.more c
        && (chained bs r.more (c - r.more) (r.at + r.name) (ceiling is (i - 1)) && inners_ok is bs outer (i - 1) (ceiling is (i - 1)) r.more)))
    unfolding inners_ok
    opened = k.rest ∙ (before (λ (j : ℕ). inners_ok is bs outer j l c) i h ∙ rw e)

    pub inner_elsewhere : (r.at ≡ l → ⊥) → false ≡ inners_ok is bs outer n low b
    inner_elsewhere x = sym (opened ∙ rw (ne_eqb r.at l x))

    pub inner_beyond : r.at ≡ l → c < r.more → false ≡ inners_ok is bs outer n low b
    inner_beyond x y = sym (opened ∙ rw (eq-eqb r.at l x, lt-leb r.more c y))

    pub inner_stop : r.at ≡ l → r.more ≤ c → chained bs r.more (c - r.more) (r.at + r.name) (ceiling is (i - 1)) ≡ false → false ≡ inners_ok is bs outer n low b
    inner_stop x y z = sym (opened ∙ rw (eq-eqb r.at l x, le-leb r.more c y, z))

    pub inner_more : r.at ≡ l → r.more ≤ c → chained bs r.more (c - r.more) (r.at + r.name) (ceiling is (i - 1)) ≡ true
        → InnerWalk is bs outer n low b (i - 1) (ceiling is (i - 1)) r.more
    inner_more x y z =
        record {
          upto = omega (arith, k.upto);
          fewer = omega (arith, k.fewer);
          rest = opened ∙ rw (eq-eqb r.at l x, le-leb r.more c y, z);
        }

  pub other_end : i ≤ 0 → (l ≡ 65_536 → ⊥) → false ≡ inners_ok is bs outer n low b
  unfolding inners_ok work_store_bytes
  other_end h x = let e : i ≡ 0 = omega arith in sym (k.rest ∙ rw (e, ne_eqb l 65_536 x))

  pub inner_done : i ≤ 0 → l ≡ 65_536 → eqb c outer ≡ inners_ok is bs outer n low b
  unfolding inners_ok work_store_bytes
  inner_done h x = let e : i ≡ 0 = omega arith in sym (k.rest ∙ rw (e, eq-eqb l 65_536 x))

-- ---- a state, test by test

-- what lengths and counts say of what is looked at next
pub record Sized (r : Registers) (fs bs is w : List ℕ) : Type 0 where
  pub frames : length fs ≡ TABLE
  pub bindings : length bs ≡ 384
  pub inners : length is ≡ 192
  pub store : length w ≡ 65_536
  pub deep : r.counts.depth + r.counts.inner ≤ 64
  pub bound : r.counts.bindings ≤ 128
  pub apart : r.store.top ≤ r.store.low

module _ (r : Registers) (fs bs is w : List ℕ) where
  pub wrong_lengths : lengths_ok fs bs is w ≡ false → false ≡ valid_state r fs bs is w
  unfolding valid_state
  wrong_lengths h = rw h

  module _ (l : lengths_ok fs bs is w ≡ true) where
    pub wrong_counts : counts_ok r ≡ false → false ≡ valid_state r fs bs is w
    unfolding valid_state
    wrong_counts h = rw (l, h)

    module _ (c : counts_ok r ≡ true) where
      pub sized : Sized r fs bs is w
      unfolding lengths_ok counts_ok most_open_elements most_bindings work_store_bytes
      sized =
          let l1 = and_right (eqb (length fs) TABLE) _ l in
          let l2 = and_right (eqb (length bs) 384) _ l1 in
          let c1 = and_right (leb (r.counts.depth + r.counts.inner) 64) _ c in
          let c2 = and_right (leb r.counts.bindings 128) _ c1 in
          record {
            frames = eqb-true _ _ (and_left _ _ l);
            bindings = eqb-true _ _ (and_left _ _ l1);
            inners = eqb-true _ _ (and_left _ _ l2);
            store = eqb-true _ _ (and_right (eqb (length is) 192) _ l2);
            deep = leb-true _ _ (and_left _ _ c);
            bound = leb-true _ _ (and_left _ _ c1);
            apart = leb-true _ _ (and_left _ _ c2);
          }

      pub wrong_inners : inners_ok is bs r.counts.outer r.counts.inner r.store.low r.counts.bindings ≡ false → false ≡ valid_state r fs bs is w
      unfolding valid_state
      wrong_inners h = rw (l, c, h)

      module _ (i : inners_ok is bs r.counts.outer r.counts.inner r.store.low r.counts.bindings ≡ true) where
        pub wrong_noted : noted_ok r fs ≡ false → false ≡ valid_state r fs bs is w
        unfolding valid_state
        wrong_noted h = rw (l, c, i, h)

        pub frames_decide : noted_ok r fs ≡ true → {q : Bool} → q ≡ frames_ok fs bs w r.store.base r.counts.depth r.store.top r.counts.outer → q ≡ valid_state r fs bs is w
        unfolding valid_state
        frames_decide k e = rw (l, c, i, k) e

        pub frames_fit : (r.counts.depth * FRAME ≤ length fs) × (r.counts.outer * 3 ≤ length bs) × (r.store.top ≤ length w)
        frames_fit =
            let s = sized in
            let u = inners_up is bs r.counts.outer r.counts.inner r.store.low r.counts.bindings i in
            (omega arith, omega (arith, u.1), omega (arith, u.0))
