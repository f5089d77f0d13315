-- When registers, tables and work store mean a document, and a write at the top changes no other element: docs/STATE.md, rule by rule.
use Rattle.std.specs.Prelude.{ℕ, zero, suc, ◌+◌, ◌-◌, ◌*◌, ◌≤◌, ◌≡◌, Bool, false, ◌&&◌, List, eqb, leb, length, get_or}
use Rattle.std.proofs.Math.Bool.{true}
use borrow.Author.Tests.{eqb-true, leb-true, eq-eqb, le-leb}
use Rattle.spec.specs.Limits.{most_name_bytes, most_labels, most_open_elements, most_bindings, work_store_bytes}
use Rattle.spec.proofs.Booleans.{and_left, and_right}
use Rattle.state_words.specs.Parts.{NAME, BINDINGS, BASE, TAG, MAIN, ID, DATATYPE, TAIL, END, BASED, TAGGED, IDENTIFIED, TYPED, PENDING, FRAME, TABLE}
use Rattle.state_words.specs.declared.Kind.{Kind}
use Rattle.state_words.specs.declared.Kind.TheVariants.{Rdf, NodeElt, PropertyElt, ParseTypeCollectionPropertyElt, ParseTypeLiteralPropertyElt, ParseTypeOtherPropertyElt, Wrapper}
use Rattle.state_words.specs.declared.Frame.{Frame}
use Rattle.state_words.specs.declared.Row.{Row}
use Rattle.state_words.specs.Words.{pick, frame_at, row_at}
use Rattle.state.specs.declared.Registers.{Registers}
use Rattle.state.specs.Meaning.{at, has, count, first, child_size, child_from}

-- ---- one element

-- the first k steps of a list go up
unfoldable pub rises : List ℕ → ℕ → Bool
rises l zero = true
rises l (suc k) = leb (get_or l k 0) (get_or l (suc k) 0) && rises l k

-- a part that is missing is empty
unfoldable pub empty_or : ℕ → ℕ → ℕ → Bool
empty_or h a b = pick (eqb h 0) (eqb a b) true

-- base, tag, rdf:ID, datatype
unfoldable pub parts_ok : Frame → Bool
parts_ok f =
    empty_or (has f BASED) (at f BASE) (at f TAG)
    && (empty_or (has f TAGGED) (at f TAG) (at f MAIN) && (empty_or (has f IDENTIFIED) (at f ID) (at f DATATYPE) && empty_or (has f TYPED) (at f DATATYPE) (at f TAIL)))

-- n bindings from b on lie end to end from `from` up to `to`
unfoldable pub chained : List ℕ → ℕ → ℕ → ℕ → ℕ → Bool
chained bs b zero from to = eqb from to
chained bs b (suc n) from to = eqb ((row_at bs (b + n)).at + (row_at bs (b + n)).name + (row_at bs (b + n)).more) to && chained bs b n from (row_at bs (b + n)).at

-- n children lie end to end from `from` up to e
unfoldable pub children_ok : List ℕ → ℕ → ℕ → ℕ → Bool
children_ok w from zero e = eqb from e
children_ok w from (suc n) e = leb (from + 4 + child_size w e) e && children_ok w from n (child_from w e)

-- what its kind does not have is empty
unfoldable pub kind_ok : Kind → Frame → List ℕ → Bool
kind_ok Rdf f w = eqb (at f MAIN) (at f TAIL)
kind_ok NodeElt f w = eqb (at f ID) (at f END) && leb (count f) most_labels
kind_ok PropertyElt f w = empty_or (has f PENDING) (at f TAIL) (at f END)
kind_ok ParseTypeCollectionPropertyElt f w = eqb (at f DATATYPE) (at f TAIL) && children_ok w (at f TAIL) (count f) (at f END)
kind_ok ParseTypeLiteralPropertyElt f w = eqb (at f DATATYPE) (at f TAIL)
kind_ok ParseTypeOtherPropertyElt f w = eqb (at f DATATYPE) (at f END)
kind_ok Wrapper f w = eqb (at f MAIN) (at f END)

unfoldable pub is_node : Kind → Bool
is_node Rdf = false
is_node NodeElt = true
is_node PropertyElt = false
is_node ParseTypeCollectionPropertyElt = false
is_node ParseTypeLiteralPropertyElt = false
is_node ParseTypeOtherPropertyElt = false
is_node Wrapper = false

unfoldable pub is_wrapper : Kind → Bool
is_wrapper Rdf = false
is_wrapper NodeElt = false
is_wrapper PropertyElt = false
is_wrapper ParseTypeCollectionPropertyElt = false
is_wrapper ParseTypeLiteralPropertyElt = false
is_wrapper ParseTypeOtherPropertyElt = false
is_wrapper Wrapper = true

-- is the element around element n a node?
unfoldable pub node_below : List ℕ → ℕ → Bool
node_below fs zero = false
node_below fs (suc n) = is_node (frame_at fs n).kind

-- is element n the root, or is the element around it the wrapper?
unfoldable pub is_root_in : List ℕ → ℕ → Bool
is_root_in fs zero = true
is_root_in fs (suc n) = is_wrapper (frame_at fs n).kind

-- a property stands in a node, rdf:RDF as the root or in the wrapper, and the wrapper as the root
unfoldable pub stands : Kind → List ℕ → ℕ → Bool
stands Rdf fs n = is_root_in fs n
stands NodeElt fs n = true
stands PropertyElt fs n = node_below fs n
stands ParseTypeCollectionPropertyElt fs n = node_below fs n
stands ParseTypeLiteralPropertyElt fs n = node_below fs n
stands ParseTypeOtherPropertyElt fs n = node_below fs n
stands Wrapper fs n = eqb n 0

-- element n, which ends at top, with bindings up to b
unfoldable pub element_ok : List ℕ → List ℕ → List ℕ → ℕ → ℕ → ℕ → Bool
element_ok fs bs w n top b =
    eqb (at (frame_at fs n) END) top
    && (rises (frame_at fs n).at END
    && (parts_ok (frame_at fs n)
    && (leb (first (frame_at fs n)) b
    && (chained bs (first (frame_at fs n)) (b - first (frame_at fs n)) (at (frame_at fs n) BINDINGS) (at (frame_at fs n) BASE)
    && (kind_ok (frame_at fs n).kind (frame_at fs n) w && stands (frame_at fs n).kind fs n)))))

-- ---- all elements

-- n elements outside Literal content, end to end from the start base up to top, with bindings up to b
unfoldable pub frames_ok : List ℕ → List ℕ → List ℕ → ℕ → ℕ → ℕ → ℕ → Bool
frames_ok fs bs w base zero top b = eqb base top && eqb b 0
frames_ok fs bs w base (suc n) top b = element_ok fs bs w n top b && frames_ok fs bs w base n (at (frame_at fs n) NAME) (first (frame_at fs n))

-- where inner element n ends
unfoldable pub ceiling : List ℕ → ℕ → ℕ
ceiling is zero = work_store_bytes
ceiling is (suc n) = (row_at is n).at

-- n elements inside Literal content, end to end from low up to the store's end, with bindings from `outer` up to b
unfoldable pub inners_ok : List ℕ → List ℕ → ℕ → ℕ → ℕ → ℕ → Bool
inners_ok is bs outer zero low b = eqb low work_store_bytes && eqb b outer
inners_ok is bs outer (suc n) low b =
    eqb (row_at is n).at low
    && (leb (row_at is n).more b
    && (chained bs (row_at is n).more (b - (row_at is n).more) ((row_at is n).at + (row_at is n).name) (ceiling is n)
    && inners_ok is bs outer n (ceiling is n) (row_at is n).more))

-- ---- what is noted

-- by the kind, the bytes that an element has noted: the tail of rdf:RDF
unfoldable pub noted_by : Kind → Frame → ℕ
noted_by Rdf f = at f END - at f TAIL
noted_by NodeElt f = 0
noted_by PropertyElt f = 0
noted_by ParseTypeCollectionPropertyElt f = 0
noted_by ParseTypeLiteralPropertyElt f = 0
noted_by ParseTypeOtherPropertyElt f = 0
noted_by Wrapper f = 0

abbrev pub noted_of : Frame → ℕ
noted_of f = noted_by f.kind f

-- those of n elements
unfoldable pub noted_in : List ℕ → ℕ → ℕ
noted_in fs zero = 0
noted_in fs (suc n) = noted_in fs n + noted_of (frame_at fs n)

-- they are counted, and are few
unfoldable pub noted_ok : Registers → List ℕ → Bool
noted_ok r fs = leb r.store.noted most_name_bytes && eqb r.store.noted (noted_in fs r.counts.depth)

-- ---- a state

unfoldable pub counts_ok : Registers → Bool
counts_ok r =
    leb (r.counts.depth + r.counts.inner) most_open_elements
    && (leb r.counts.bindings most_bindings && (leb r.store.top r.store.low && (pick r.flags.based true (eqb r.store.base 0) && leb r.counts.labels most_labels)))

unfoldable pub lengths_ok : List ℕ → List ℕ → List ℕ → List ℕ → Bool
lengths_ok fs bs is w =
    eqb (length fs) (most_open_elements * FRAME) && (eqb (length bs) (most_bindings * 3) && (eqb (length is) (most_open_elements * 3) && eqb (length w) work_store_bytes))

unfoldable pub valid_state : Registers → List ℕ → List ℕ → List ℕ → List ℕ → Bool
valid_state r fs bs is w =
    lengths_ok fs bs is w
    && (counts_ok r
    && (inners_ok is bs r.counts.outer r.counts.inner r.store.low r.counts.bindings
    && (noted_ok r fs && frames_ok fs bs w r.store.base r.counts.depth r.store.top r.counts.outer)))

-- ---- the same as facts

pub record Rising (f : Frame) : Type 0 where
  pub name : at f NAME ≤ at f BINDINGS
  pub bindings : at f BINDINGS ≤ at f BASE
  pub base : at f BASE ≤ at f TAG
  pub tag : at f TAG ≤ at f MAIN
  pub main : at f MAIN ≤ at f ID
  pub id : at f ID ≤ at f DATATYPE
  pub type : at f DATATYPE ≤ at f TAIL
  pub tail : at f TAIL ≤ at f END

-- element f is number n, ends at top, and has bindings up to b
pub record Sound (fs bs w : List ℕ) (f : Frame) (n top b : ℕ) : Type 0 where
  pub ends : at f END ≡ top
  pub up : rises f.at END ≡ true
  pub parts : parts_ok f ≡ true
  pub least : first f ≤ b
  pub bound : chained bs (first f) (b - first f) (at f BINDINGS) (at f BASE) ≡ true
  pub kind : kind_ok f.kind f w ≡ true
  pub stood : stands f.kind fs n ≡ true

-- inner element r is number n, starts at low, and has bindings up to b
pub record Inside (is bs : List ℕ) (r : Row) (n low b : ℕ) : Type 0 where
  pub starts : r.at ≡ low
  pub least : r.more ≤ b
  pub bound : chained bs r.more (b - r.more) (r.at + r.name) (ceiling is n) ≡ true

pub record Valid (r : Registers) (fs bs is w : List ℕ) : Type 0 where
  pub frame_words : length fs ≡ TABLE
  pub binding_words : length bs ≡ 384
  pub inner_words : length is ≡ 192
  pub store : length w ≡ 65_536
  pub deep : r.counts.depth + r.counts.inner ≤ 64
  pub bound : r.counts.bindings ≤ 128
  pub apart : r.store.top ≤ r.store.low
  pub based : pick r.flags.based true (eqb r.store.base 0) ≡ true
  pub labels : r.counts.labels ≤ 99_999_999
  pub frames : frames_ok fs bs w r.store.base r.counts.depth r.store.top r.counts.outer ≡ true
  pub inners : inners_ok is bs r.counts.outer r.counts.inner r.store.low r.counts.bindings ≡ true
  pub few : r.store.noted ≤ 1_024
  pub noted : r.store.noted ≡ noted_in fs r.counts.depth

pub rising : (f : Frame) → rises f.at END ≡ true → Rising f
unfolding rises
rising f h0 =
    let h1 = and_right (leb (at f TAIL) (at f END)) _ h0 in
    let h2 = and_right (leb (at f DATATYPE) (at f TAIL)) _ h1 in
    let h3 = and_right (leb (at f ID) (at f DATATYPE)) _ h2 in
    let h4 = and_right (leb (at f MAIN) (at f ID)) _ h3 in
    let h5 = and_right (leb (at f TAG) (at f MAIN)) _ h4 in
    let h6 = and_right (leb (at f BASE) (at f TAG)) _ h5 in
    let h7 = and_right (leb (at f BINDINGS) (at f BASE)) _ h6 in
    record {
      name = leb-true _ _ (and_left _ _ h7);
      bindings = leb-true _ _ (and_left _ _ h6);
      base = leb-true _ _ (and_left _ _ h5);
      tag = leb-true _ _ (and_left _ _ h4);
      main = leb-true _ _ (and_left _ _ h3);
      id = leb-true _ _ (and_left _ _ h2);
      type = leb-true _ _ (and_left _ _ h1);
      tail = leb-true _ _ (and_left _ _ h0);
    }

pub rises_up : (f : Frame) → Rising f → rises f.at END ≡ true
unfolding rises
rises_up f h =
    rw (
      le-leb (at f TAIL) (at f END) h.tail,
      le-leb (at f DATATYPE) (at f TAIL) h.type,
      le-leb (at f ID) (at f DATATYPE) h.id,
      le-leb (at f MAIN) (at f ID) h.main,
      le-leb (at f TAG) (at f MAIN) h.tag,
      le-leb (at f BASE) (at f TAG) h.base,
      le-leb (at f BINDINGS) (at f BASE) h.bindings,
      le-leb (at f NAME) (at f BINDINGS) h.name,
    )

module _ (fs bs w : List ℕ) (n top b : ℕ) where
  pub element_sound : element_ok fs bs w n top b ≡ true → Sound fs bs w (frame_at fs n) n top b
  unfolding element_ok
  element_sound h0 =
      let h1 = and_right (eqb (at (frame_at fs n) END) top) _ h0 in
      let h2 = and_right (rises (frame_at fs n).at END) _ h1 in
      let h3 = and_right (parts_ok (frame_at fs n)) _ h2 in
      let h4 = and_right (leb (first (frame_at fs n)) b) _ h3 in
      let h5 = and_right (chained bs (first (frame_at fs n)) (b - first (frame_at fs n)) (at (frame_at fs n) BINDINGS) (at (frame_at fs n) BASE)) _ h4 in
      record {
        ends = eqb-true _ _ (and_left _ _ h0);
        up = and_left _ _ h1;
        parts = and_left _ _ h2;
        least = leb-true _ _ (and_left _ _ h3);
        bound = and_left _ _ h4;
        kind = and_left _ _ h5;
        stood = and_right (kind_ok (frame_at fs n).kind (frame_at fs n) w) _ h5;
      }

  pub sound_element : Sound fs bs w (frame_at fs n) n top b → element_ok fs bs w n top b ≡ true
  unfolding element_ok
  sound_element s =
      rw (
        eq-eqb (at (frame_at fs n) END) top s.ends,
        s.up,
        s.parts,
        le-leb (first (frame_at fs n)) b s.least,
        s.bound,
        s.kind,
        s.stood,
      )

  module _ (base : ℕ) (h : frames_ok fs bs w base (suc n) top b ≡ true) where
    pub top_sound : Sound fs bs w (frame_at fs n) n top b
    unfolding frames_ok
    top_sound = element_sound (and_left (element_ok fs bs w n top b) _ h)

    pub rest_ok : frames_ok fs bs w base n (at (frame_at fs n) NAME) (first (frame_at fs n)) ≡ true
    unfolding frames_ok
    rest_ok = and_right (element_ok fs bs w n top b) _ h

  pub frames_on : (base : ℕ) → Sound fs bs w (frame_at fs n) n top b → frames_ok fs bs w base n (at (frame_at fs n) NAME) (first (frame_at fs n)) ≡ true
      → frames_ok fs bs w base (suc n) top b ≡ true
  unfolding frames_ok
  frames_on base s h = rw (sound_element s, h)

module _ (is bs : List ℕ) (outer n low b : ℕ) where
  module _ (h : inners_ok is bs outer (suc n) low b ≡ true) where
    pub top_inside : Inside is bs (row_at is n) n low b
    unfolding inners_ok
    top_inside =
        let h1 = and_right (eqb (row_at is n).at low) _ h in
        let h2 = and_right (leb (row_at is n).more b) _ h1 in
        record { starts = eqb-true _ _ (and_left _ _ h); least = leb-true _ _ (and_left _ _ h1); bound = and_left _ _ h2 }

    pub inners_rest : inners_ok is bs outer n (ceiling is n) (row_at is n).more ≡ true
    unfolding inners_ok
    inners_rest =
        let h1 = and_right (eqb (row_at is n).at low) _ h in
        let h2 = and_right (leb (row_at is n).more b) _ h1 in
        and_right (chained bs (row_at is n).more (b - (row_at is n).more) ((row_at is n).at + (row_at is n).name) (ceiling is n)) _ h2

  pub inners_on : Inside is bs (row_at is n) n low b → inners_ok is bs outer n (ceiling is n) (row_at is n).more ≡ true → inners_ok is bs outer (suc n) low b ≡ true
  unfolding inners_ok
  inners_on s h = rw (eq-eqb (row_at is n).at low s.starts, le-leb (row_at is n).more b s.least, s.bound, h)

-- ---- a state is valid exactly where the test passes

module _ (r : Registers) (fs bs is w : List ℕ) where
  pub valid_is : valid_state r fs bs is w ≡ true → Valid r fs bs is w
  unfolding valid_state counts_ok lengths_ok noted_ok most_open_elements most_bindings work_store_bytes most_labels most_name_bytes
  valid_is h =
      let l = and_left (lengths_ok fs bs is w) _ h in
      let l1 = and_right (eqb (length fs) TABLE) _ l in
      let l2 = and_right (eqb (length bs) 384) _ l1 in
      let h1 = and_right (lengths_ok fs bs is w) _ h in
      let c = and_left (counts_ok r) _ h1 in
      let c1 = and_right (leb (r.counts.depth + r.counts.inner) 64) _ c in
      let c2 = and_right (leb r.counts.bindings 128) _ c1 in
      let c3 = and_right (leb r.store.top r.store.low) _ c2 in
      let h2 = and_right (counts_ok r) _ h1 in
      let h3 = and_right (inners_ok is bs r.counts.outer r.counts.inner r.store.low r.counts.bindings) _ h2 in
      let k = and_left (noted_ok r fs) _ h3 in
      record {
        frame_words = eqb-true _ _ (and_left _ _ l);
        binding_words = eqb-true _ _ (and_left _ _ l1);
        inner_words = eqb-true _ _ (and_left _ _ l2);
        store = eqb-true _ _ (and_right (eqb (length is) 192) _ l2);
        deep = leb-true _ _ (and_left _ _ c);
        bound = leb-true _ _ (and_left _ _ c1);
        apart = leb-true _ _ (and_left _ _ c2);
        based = and_left _ _ c3;
        labels = leb-true _ _ (and_right (pick r.flags.based true (eqb r.store.base 0)) _ c3);
        frames = and_right (noted_ok r fs) _ h3;
        inners = and_left _ _ h2;
        few = leb-true _ _ (and_left _ _ k);
        noted = eqb-true _ _ (and_right (leb r.store.noted 1_024) _ k);
      }

  pub is_valid : Valid r fs bs is w → valid_state r fs bs is w ≡ true
  unfolding valid_state counts_ok lengths_ok noted_ok most_open_elements most_bindings work_store_bytes most_labels most_name_bytes
  is_valid v =
      rw (
        eq-eqb (length fs) TABLE v.frame_words,
        eq-eqb (length bs) 384 v.binding_words,
        eq-eqb (length is) 192 v.inner_words,
        eq-eqb (length w) 65_536 v.store,
        le-leb (r.counts.depth + r.counts.inner) 64 v.deep,
        le-leb r.counts.bindings 128 v.bound,
        le-leb r.store.top r.store.low v.apart,
        v.based,
        le-leb r.counts.labels 99_999_999 v.labels,
        v.inners,
        le-leb r.store.noted 1_024 v.few,
        eq-eqb r.store.noted (noted_in fs r.counts.depth) v.noted,
        v.frames,
      )
