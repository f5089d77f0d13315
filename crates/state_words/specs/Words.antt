-- Frames and rows in lent words: what is loaded, what a store changes.
use Rattle.std.specs.Prelude.{ℕ, ◌+◌, ◌-◌, ◌*◌, ◌/◌, ◌<◌, ◌≤◌, ◌≡◌, refl, Bool, true, false, List, [], ◌∷◌, ◌++◌, eqb, leb, length, get_or, take, drop, set}
use Rattle.std.proofs.Common.{sym, ◌∙◌, append-nil, add-zero, zero-add, arith, length-set, length-append, drop_of_length-le, take_at, drop_at, le-leb}
use Rattle.std.proofs.Math.Path.{ap}
use Rattle.std.proofs.Math.Seq.{take-length}
use Rattle.std.proofs.lemmas.Bool.{lt-leb}
use denote.Enum.Bare.{sameb}
use denote.Enum.Declared.{tag_of}
use Rattle.copy.specs.Copy.{part, stored_at, Put, Wrote, then, wrote_one, wrote_part, wrote_same, put-fits, get_d_part, part-part, length_part}
use Rattle.state_words.specs.Parts.{PLACES, MARKS, HEAD, FRAME}
use Rattle.state_words.specs.Kept.{Kept}
use Rattle.state_words.specs.declared.Kind.{Kind}
use Rattle.state_words.specs.contracts.Kind.{the_type}
use Rattle.state_words.specs.declared.Kind.TheVariants.{Rdf, NodeElt, PropertyElt, ParseTypeCollectionPropertyElt, ParseTypeLiteralPropertyElt, ParseTypeOtherPropertyElt, Wrapper}
use Rattle.state_words.specs.declared.Frame.{Frame}
use Rattle.state_words.specs.declared.Row.{Row}

abbrev pub pick : {A : Type 0} → Bool → A → A → A
pick true a b = a
pick false a b = b

-- ---- kinds; a word beyond them is the last

unfoldable pub kind_of : ℕ → Kind
kind_of n =
    pick (eqb n 0) Rdf (pick (eqb n 1) NodeElt (pick (eqb n 2) PropertyElt
    (pick (eqb n 3) ParseTypeCollectionPropertyElt (pick (eqb n 4) ParseTypeLiteralPropertyElt (pick (eqb n 5) ParseTypeOtherPropertyElt Wrapper)))))

abbrev pub kind_number : Kind → ℕ
kind_number Rdf = 0
kind_number NodeElt = 1
kind_number PropertyElt = 2
kind_number ParseTypeCollectionPropertyElt = 3
kind_number ParseTypeLiteralPropertyElt = 4
kind_number ParseTypeOtherPropertyElt = 5
kind_number Wrapper = 6

pub kind_back : (k : Kind) → kind_of (kind_number k) ≡ k
unfolding kind_of
kind_back Rdf = refl
kind_back NodeElt = refl
kind_back PropertyElt = refl
kind_back ParseTypeCollectionPropertyElt = refl
kind_back ParseTypeLiteralPropertyElt = refl
kind_back ParseTypeOtherPropertyElt = refl
kind_back Wrapper = refl

-- `==` of kinds is that of their words
kind_tag : (k : Kind) → tag_of the_type k ≡ kind_number k
kind_tag Rdf = refl
kind_tag NodeElt = refl
kind_tag PropertyElt = refl
kind_tag ParseTypeCollectionPropertyElt = refl
kind_tag ParseTypeLiteralPropertyElt = refl
kind_tag ParseTypeOtherPropertyElt = refl
kind_tag Wrapper = refl

pub kind_eq : (a b : Kind) → sameb the_type a b ≡ eqb (kind_number a) (kind_number b)
kind_eq a b = ap (λ (n : ℕ). eqb n (tag_of the_type b)) (kind_tag a) ∙ ap (eqb (kind_number a)) (kind_tag b)

-- ---- frames

abbrev pub no_frame : Frame
no_frame = record { kind = Rdf; at = 0 ∷ 0 ∷ 0 ∷ 0 ∷ 0 ∷ 0 ∷ 0 ∷ 0 ∷ 0 ∷ []; has = 0 ∷ 0 ∷ 0 ∷ 0 ∷ 0 ∷ 0 ∷ 0 ∷ 0 ∷ [] }

-- 18 words: the kind, `at`, `has`
unfoldable pub frame_of : List ℕ → Frame
frame_of w = record { kind = kind_of (get_or w 0 0); at = part w 1 PLACES; has = part w HEAD MARKS }

unfoldable pub words_of : Frame → List ℕ
words_of f = kind_number f.kind ∷ (f.at ++ f.has)

-- frame i of a table
unfoldable pub frame_at : List ℕ → ℕ → Frame
frame_at fs i = frame_of (part fs (i * FRAME) FRAME)

-- the same, where the table may be too short
unfoldable pub load_frame : List ℕ → ℕ → Frame
load_frame fs i = pick (leb (i * FRAME + FRAME) (length fs)) (frame_at fs i) no_frame

-- what `store` does to `fs`: `gs` is behind it, `r` its answer
pub record StoredFrame (fs : List ℕ) (i : ℕ) (f : Frame) (gs : List ℕ) (r : Bool) : Type 0 where
  pub answer : r ≡ leb (i * FRAME + FRAME) (length fs)
  pub wrote : i * FRAME + FRAME ≤ length fs → gs ≡ stored_at fs (i * FRAME) (words_of f)
  pub kept : length fs < i * FRAME + FRAME → gs ≡ fs
  pub same : length gs ≡ length fs

-- ---- rows

abbrev pub no_row : Row
no_row = record { at = 0; name = 0; more = 0 }

unfoldable pub row_of : List ℕ → Row
row_of w = record { at = get_or w 0 0; name = get_or w 1 0; more = get_or w 2 0 }

-- row i of a table
unfoldable pub row_at : List ℕ → ℕ → Row
row_at ws i = row_of (part ws (i * 3) 3)

-- the same, where the table may be too short

unfoldable pub load_row : List ℕ → ℕ → Row
load_row ws i = pick (leb (i * 3 + 3) (length ws)) (row_at ws i) no_row

abbrev pub row_words : Row → List ℕ
row_words r = r.at ∷ r.name ∷ r.more ∷ []

pub record StoredRow (ws : List ℕ) (i : ℕ) (r : Row) (vs : List ℕ) (b : Bool) : Type 0 where
  pub answer : b ≡ leb (i * 3 + 3) (length ws)
  pub wrote : i * 3 + 3 ≤ length ws → vs ≡ stored_at ws (i * 3) (row_words r)
  pub kept : length ws < i * 3 + 3 → vs ≡ ws
  pub same : length vs ≡ length ws

-- ---- what the calls do

pub row_none : (ws : List ℕ) (i : ℕ) → length ws / 3 ≤ i → no_row ≡ load_row ws i
unfolding load_row
row_none ws i h = rw (lt-leb (i * 3 + 3) (length ws) (omega arith))

pub row_loaded : (ws : List ℕ) (i : ℕ) → i < length ws / 3
    → record { at = get_or ws (i * 3) 0; name = get_or ws (i * 3 + 1) 0; more = get_or ws (i * 3 + 2) 0 } ≡ load_row ws i
unfolding load_row row_at row_of
row_loaded ws i h =
    let z : get_or (part ws (i * 3) 3) 0 0 ≡ get_or ws (i * 3) 0 = get_d_part ws (i * 3) 3 0 (omega arith) ∙ rw add-zero in
    rw (le-leb (i * 3 + 3) (length ws) (omega arith), z, get_d_part ws (i * 3) 3 1 (omega arith), get_d_part ws (i * 3) 3 2 (omega arith))

pub row-refused : {ws : List ℕ} {i : ℕ} {r : Row} → length ws / 3 ≤ i → StoredRow ws i r ws false
row-refused {ws} {i} {r} h =
    record {
      answer = sym (lt-leb (i * 3 + 3) (length ws) (omega arith));
      wrote = λ l. absurd (omega arith);
      kept = λ _. refl;
      same = refl;
    }

three_set : (ws : List ℕ) (k a b c : ℕ) → k + 3 ≤ length ws → Wrote ws (set (set (set ws k a) (k + 1) b) (k + 2) c) k (k + 3) (a ∷ b ∷ c ∷ [])
three_set ws k a b c h =
    let p : Wrote ws (set ws k a) k (k + 1) (a ∷ []) = wrote_one (omega arith) in
    let l : length (set ws k a) ≡ length ws = length-set ws k a in
    let q : Wrote (set ws k a) (set (set ws k a) (k + 1) b) (k + 1) (k + 1 + 1) (b ∷ []) = wrote_one (omega arith) in
    let m : length (set (set ws k a) (k + 1) b) ≡ length ws = simp length-set in
    let two : k + 1 + 1 ≡ k + 2 = omega arith in
    let q' : Wrote (set ws k a) (set (set ws k a) (k + 1) b) (k + 1) (k + 2) (b ∷ []) = rw two at q in
    let t : Wrote (set (set ws k a) (k + 1) b) (set (set (set ws k a) (k + 1) b) (k + 2) c) (k + 2) (k + 2 + 1) (c ∷ []) = wrote_one (omega arith) in
    let three : k + 2 + 1 ≡ k + 3 = omega arith in
    then p (then q' (rw three at t))

pub row_stored : {ws : List ℕ} {i : ℕ} {r : Row} → i < length ws / 3
    → StoredRow ws i r (set (set (set ws (i * 3) r.at) (i * 3 + 1) r.name) (i * 3 + 2) r.more) true
row_stored {ws} {i} {r} h =
    record {
      answer = sym (le-leb (i * 3 + 3) (length ws) (omega arith));
      wrote = λ l. (three_set ws (i * 3) r.at r.name r.more l).eq;
      kept = λ l. absurd (omega arith);
      same = simp length-set;
    }

pub frame_none : (fs : List ℕ) (i : ℕ) → length fs / FRAME ≤ i → no_frame ≡ load_frame fs i
unfolding load_frame
frame_none fs i h = rw (lt-leb (i * FRAME + FRAME) (length fs) (omega arith))

-- a store over the whole
put_whole : {d s e : List ℕ} {r : Bool} → Put d 0 s e r → length s ≡ length d → e ≡ s
unfolding stored_at
put_whole {d} {s} {e} p h = p.wrote (omega arith) ∙ rw (zero-add, drop_of_length-le d {i = length s} (omega arith), append-nil)

-- frame i, from its parts as they were lent
pub frame_loaded : (fs : List ℕ) (i : ℕ) (x y : List ℕ) {r q : Bool} → i < length fs / FRAME
    → Put (0 ∷ 0 ∷ 0 ∷ 0 ∷ 0 ∷ 0 ∷ 0 ∷ 0 ∷ 0 ∷ []) 0 (take (i * FRAME + HEAD - (i * FRAME + 1)) (drop (i * FRAME + 1) fs)) x r
    → Put (0 ∷ 0 ∷ 0 ∷ 0 ∷ 0 ∷ 0 ∷ 0 ∷ 0 ∷ []) 0 (take (i * FRAME + FRAME - (i * FRAME + HEAD)) (drop (i * FRAME + HEAD) fs)) y q
    → record { kind = kind_of (get_or fs (i * FRAME) 0); at = x; has = y } ≡ load_frame fs i
unfolding load_frame frame_at frame_of part
frame_loaded fs i x y h p q =
    let n : i * FRAME + HEAD - (i * FRAME + 1) ≡ PLACES = omega arith in
    let m : i * FRAME + FRAME - (i * FRAME + HEAD) ≡ MARKS = omega arith in
    let a : x ≡ part fs (i * FRAME + 1) PLACES = put_whole p (rw n (length_part fs (i * FRAME + 1) PLACES (omega arith))) ∙ rw n in
    let b : y ≡ part fs (i * FRAME + HEAD) MARKS = put_whole q (rw m (length_part fs (i * FRAME + HEAD) MARKS (omega arith))) ∙ rw m in
    let k : get_or (part fs (i * FRAME) FRAME) 0 0 ≡ get_or fs (i * FRAME) 0 = get_d_part fs (i * FRAME) FRAME 0 (omega arith) ∙ rw add-zero in
    rw (le-leb (i * FRAME + FRAME) (length fs) (omega arith), a, b, k, part-part fs (i * FRAME) FRAME 1 PLACES (omega arith), part-part fs (i * FRAME) FRAME HEAD MARKS (omega arith))

pub frame_refused : {fs : List ℕ} {i : ℕ} {f : Frame} → length fs / FRAME ≤ i → StoredFrame fs i f fs false
frame_refused {fs} {i} {f} h =
    record {
      answer = sym (lt-leb (i * FRAME + FRAME) (length fs) (omega arith));
      wrote = λ l. absurd (omega arith);
      kept = λ _. refl;
      same = refl;
    }

pub frame_stored : {fs : List ℕ} {i : ℕ} {f : Frame} {gs hs : List ℕ} {q r : Bool} → i < length fs / FRAME → length f.at ≡ PLACES → length f.has ≡ MARKS
    → Put (set fs (i * FRAME) (kind_number f.kind)) (i * FRAME + 1) f.at gs q → Put gs (i * FRAME + HEAD) f.has hs r → StoredFrame fs i f hs r
unfolding words_of
frame_stored {fs} {i} {f} {gs} {hs} {q} {r} h a b p p' =
    let l : length (set fs (i * FRAME) (kind_number f.kind)) ≡ length fs = length-set fs (i * FRAME) (kind_number f.kind) in
    let one : Wrote fs (set fs (i * FRAME) (kind_number f.kind)) (i * FRAME) (i * FRAME + 1) (kind_number f.kind ∷ []) = wrote_one (omega arith) in
    let two : Wrote (set fs (i * FRAME) (kind_number f.kind)) gs (i * FRAME + 1) (i * FRAME + 1 + length f.at) f.at = put-fits p (omega arith) in
    let e : i * FRAME + 1 + length f.at ≡ i * FRAME + HEAD = omega arith in
    let three : Wrote gs hs (i * FRAME + HEAD) (i * FRAME + HEAD + length f.has) f.has = put-fits p' (omega (arith, wrote_same two)) in
    let all : Wrote fs hs (i * FRAME) (i * FRAME + HEAD + length f.has) (kind_number f.kind ∷ (f.at ++ f.has)) = then one (then (rw e at two) three) in
    record {
      answer = p'.answer ∙ (le-leb (i * FRAME + HEAD + length f.has) (length gs) (omega (arith, wrote_same two)) ∙ sym (le-leb (i * FRAME + FRAME) (length fs) (omega arith)));
      wrote = λ _. all.eq;
      kept = λ l. absurd (omega arith);
      same = wrote_same all;
    }

-- ---- what is loaded from a table that is long enough

pub load_frame_lem : (fs : List ℕ) (i : ℕ) → i * FRAME + FRAME ≤ length fs → load_frame fs i ≡ frame_at fs i
unfolding load_frame
load_frame_lem fs i h = rw (le-leb (i * FRAME + FRAME) (length fs) h)

pub load_row_lem : (ws : List ℕ) (i : ℕ) → i * 3 + 3 ≤ length ws → load_row ws i ≡ row_at ws i
unfolding load_row
load_row_lem ws i h = rw (le-leb (i * 3 + 3) (length ws) h)

-- ---- load and store: what was stored is loaded, and what is kept is loaded as before

frame_back : (f : Frame) → length f.at ≡ PLACES → length f.has ≡ MARKS → frame_of (words_of f) ≡ f
unfolding frame_of words_of part
frame_back f a b =
    let all : take MARKS f.has ≡ f.has = ap (λ (n : ℕ). take n f.has) (sym b) ∙ take-length f.has in
    rw (kind_back f.kind, take_at f.at f.has PLACES a, drop_at f.at f.has PLACES a, all)

pub length-words : (f : Frame) → length f.at ≡ PLACES → length f.has ≡ MARKS → length (words_of f) ≡ FRAME
unfolding words_of
length-words f a b = omega (arith, length-append f.at f.has)

module _ {fs gs : List ℕ} {i : ℕ} {f : Frame} {r : Bool} (s : StoredFrame fs i f gs r) (h : i * FRAME + FRAME ≤ length fs) (a : length f.at ≡ PLACES) (b : length f.has ≡ MARKS) where
  pub frame_wrote : Wrote fs gs (i * FRAME) (i * FRAME + FRAME) (words_of f)
  frame_wrote = let l = length-words f a b in record { room = omega arith; up = omega arith; eq = s.wrote h }

  pub load_store : frame_at gs i ≡ f
  unfolding frame_at
  load_store =
      let e : part gs (i * FRAME) FRAME ≡ words_of f = ap (part gs (i * FRAME)) (sym (length-words f a b)) ∙ wrote_part frame_wrote in
      rw e (frame_back f a b)

pub frame_kept : {fs gs : List ℕ} {lo hi : ℕ} → Kept fs gs lo hi → (i : ℕ) → lo ≤ i * FRAME → i * FRAME + FRAME ≤ hi → frame_at gs i ≡ frame_at fs i
unfolding frame_at
frame_kept k i l h = rw (k.parts (i * FRAME) FRAME l h)

pub row_there : {ws vs : List ℕ} {r : Row} (i : ℕ) → Wrote ws vs (i * 3) (i * 3 + 3) (row_words r) → row_at vs i ≡ r
unfolding row_at row_of
row_there i p = rw (wrote_part p)

module _ {ws vs : List ℕ} {i : ℕ} {r : Row} {b : Bool} (s : StoredRow ws i r vs b) (h : i * 3 + 3 ≤ length ws) where
  pub row_wrote : Wrote ws vs (i * 3) (i * 3 + 3) (row_words r)
  row_wrote = record { room = h; up = refl; eq = s.wrote h }

  pub row_load_store : row_at vs i ≡ r
  row_load_store = row_there i row_wrote

pub row_kept : {ws vs : List ℕ} {lo hi : ℕ} → Kept ws vs lo hi → (i : ℕ) → lo ≤ i * 3 → i * 3 + 3 ≤ hi → row_at vs i ≡ row_at ws i
unfolding row_at
row_kept k i l h = rw (k.parts (i * 3) 3 l h)
