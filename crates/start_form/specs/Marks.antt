-- Marks of names: their last bytes as numbers, and which pairs of names they tell apart.
use Rattle.std.specs.Prelude.{◌≡◌, Bool, ◌&&◌, ◌||◌, not, List, [], ◌∷◌, ◌++◌, eqb, leb, ltb, get_or, set, replicate}
use Rattle.std.proofs.Math.Path.{refl}
use Rattle.std.proofs.Common.{sym, ap, ◌∙◌, add-zero, add-one, length-append, length-set, get_or-append-add, get_or-set_same, get_or-set_other, below_more, eq-eqb, le-leb, leb-true, leb-false, lt-ltb, le-ltb}
use Rattle.std.proofs.Math.Bool.{true, false}
use Rattle.std.proofs.lemmas.Bool.{false≢true}
use Prim.Native.Nat.{ℕ, zero, suc, ◌+◌, ◌-◌, ◌*◌, ◌%◌, ◌<◌, ◌≤◌}
use native.Mathlib.Omega.{arith}
use Rattle.std.proofs.Math.ListN.{length, get_or-append}
use Rattle.std.proofs.lemmas.List.{length-replicate, get_or-replicate}
use Rattle.spec.specs.Bytes.{Bytes, same, among}
use Rattle.spec.specs.Namespaces.{xml_name}
use Rattle.copy.specs.Texts.{same_true}
use Rattle.copy.specs.Copy.{part, get_d_part}
use Rattle.state_words.specs.Words.{pick}
use Rattle.start_names.specs.declared.Class.{Class}
use Rattle.start_names.specs.Pairs.{behind, pairs, Alone, alone_more}
use Rattle.start_names.specs.declared.Class.TheVariants.{Declaration}
use Rattle.start_names.specs.Repeats.{same_key, same_written}
use Rattle.start_names.specs.Classes.{class_of, class_at, text_by, text_at, key_at, same_keys, kind_of, space_by, tail_at, two_parts}

-- the byte that i bytes follow, 0 where there is none
unfoldable pub byte_from_end : Bytes → ℕ → ℕ
byte_from_end s i = pick (ltb i (length s)) (get_or s (length s - 1 - i) 0) 0

-- n of the bytes that `skip` bytes follow, as a number
unfoldable pub mark_up : Bytes → ℕ → ℕ → ℕ
mark_up s skip zero = 0
mark_up s skip (suc n) = mark_up s skip n % 72_057_594_037_927_936 * 256 + byte_from_end s (skip + n)

-- eight of them
abbrev pub mark_of : Bytes → ℕ → ℕ
mark_of s skip = mark_up s skip 8

-- what attribute j is compared by, but for its kind
abbrev pub text_in : List ℕ → List ℕ → List ℕ → List ℕ → ℕ → Bytes
text_in e w v cs j = text_at e w v (class_at cs j) j

-- there is room for the marks of k attributes
pub record Room (k : ℕ) (ns fs : List ℕ) : Type 0 where
  pub near : k ≤ length ns
  pub far : k ≤ length fs

-- the first m attributes are marked
pub record Marked (e w v cs ns fs : List ℕ) (m : ℕ) : Type 0 where
  pub room : Room m ns fs
  pub near : (j : ℕ) → j < m → get_or ns j 0 ≡ mark_of (text_in e w v cs j) 0
  pub far : (j : ℕ) → j < m → get_or fs j 0 ≡ mark_of (text_in e w v cs j) 8

-- what `mark_all` does: the marks are ns and fs before it, ms and gs behind it
pub record Marks (e w v cs : List ℕ) (k : ℕ) (ns fs ms gs : List ℕ) : Type 0 where
  pub near_same : length ms ≡ length ns
  pub far_same : length gs ≡ length fs
  pub marked : Marked e w v cs ms gs k

-- a block from i on is clear of a mark
pub record Clear (ms : List ℕ) (i to m : ℕ) (r : Bool) : Type 0 where
  pub fits : r ≡ true → i + 8 ≤ to
  pub none : r ≡ true → (l : ℕ) → i ≤ l → l < i + 8 → get_or ms l 0 ≡ m → ⊥

-- r is the first from `from` on, up to `to`, that has the marks of j
pub record Next (near far : List ℕ) (j from to r : ℕ) : Type 0 where
  pub over : from ≤ r
  pub upto : r ≤ to
  pub others : (i : ℕ) → from ≤ i → i < r → get_or near i 0 ≡ get_or near j 0 → get_or far i 0 ≡ get_or far j 0 → ⊥

-- ---- a byte of a text in two parts

module _ (f b : Bytes) (i : ℕ) where
  total : length (f ++ b) ≡ length f + length b
  total = simp length-append

  pub byte_back : i < length b → get_or b (length b - 1 - i) 0 ≡ byte_from_end (f ++ b) i
  unfolding byte_from_end
  byte_back l =
      let t = total in
      let e : length (f ++ b) - 1 - i ≡ length f + (length b - 1 - i) = omega arith in
      rw (lt-ltb i (length (f ++ b)) (omega arith), e) (sym (get_or-append-add f b (length b - 1 - i) 0))

  pub byte_front : length b ≤ i → i - length b < length f → get_or f (length f - 1 - (i - length b)) 0 ≡ byte_from_end (f ++ b) i
  unfolding byte_from_end
  byte_front l m =
      let t = total in
      let e : length (f ++ b) - 1 - i ≡ length f - 1 - (i - length b) = omega arith in
      rw (lt-ltb i (length (f ++ b)) (omega arith), e) (sym (get_or-append f b 0 (length f - 1 - (i - length b)) (omega arith)))

  pub byte_none : length b ≤ i → length f ≤ i - length b → 0 ≡ byte_from_end (f ++ b) i
  unfolding byte_from_end
  byte_none l m = let t = total in rw (le-ltb i (length (f ++ b)) (omega arith))

-- ---- the loop of `mark`: i bytes are in it

pub record Marking (s : Bytes) (skip i m : ℕ) : Type 0 where
  pub upto : i ≤ 8
  pub is : m ≡ mark_up s skip i

pub marking_begins : {s : Bytes} {skip : ℕ} → Marking s skip 0 0
unfolding mark_up
marking_begins = record { upto = omega arith; is = refl }

pub marking_more : {s : Bytes} {skip i m b : ℕ} → Marking s skip i m → i < 8 → b ≡ byte_from_end s (skip + i)
    → Marking s skip (i + 1) (m % 72_057_594_037_927_936 * 256 + b)
unfolding mark_up
marking_more {i = i} h l e = record { upto = omega arith; is = rw (add-one i, ← h.is, e) }

pub marking_done : {s : Bytes} {skip i m : ℕ} → Marking s skip i m → 8 ≤ i → m ≡ mark_of s skip
marking_done {i = i} h l = let z : i ≡ 8 = omega (arith, h.upto) in rw z at h.is

-- ---- a block of marks

among_none : (s : List ℕ) (b k : ℕ) → among s b ≡ false → k < length s → get_or s k 0 ≡ b → ⊥
unfolding among
among_none [] b k h l e = omega arith
among_none (x ∷ s) b zero h l e = false≢true (sym h ∙ rw (eq-eqb x b e))
among_none (x ∷ s) b (suc k) h l e = among_none s b k (go (eqb x b) h) (omega arith) e
  where
    go : (t : Bool) → (t || among s b) ≡ false → among s b ≡ false
    go true q = absurd (false≢true (sym q))
    go false q = q

pub clear_short : {ms : List ℕ} {i to m : ℕ} → Clear ms i to m false
clear_short = record { fits = λ h. absurd (false≢true h); none = λ h l a b. absurd (false≢true h) }

pub clear_block : {ms : List ℕ} {i to m : ℕ} {r : Bool} → to ≤ length ms → i + 8 ≤ to → length (part ms i 8) ≡ 8 → r ≡ among (part ms i 8) m → Clear ms i to m (not r)
clear_block {ms} {i} {to} {m} {r} l f n h = record { fits = λ _. f; none = λ q k a b e. go r h q k a b e }
  where
    go : (t : Bool) → t ≡ among (part ms i 8) m → not t ≡ true → (k : ℕ) → i ≤ k → k < i + 8 → get_or ms k 0 ≡ m → ⊥
    go true p q k a b e = false≢true q
    go false p q k a b e =
        let x : get_or (part ms i 8) (k - i) 0 ≡ get_or ms (i + (k - i)) 0 = get_d_part ms i 8 (k - i) (omega arith) in
        let y : i + (k - i) ≡ k = omega arith in
        among_none (part ms i 8) m (k - i) (sym p) (omega (arith, n)) (x ∙ (ap (λ (z : ℕ). get_or ms z 0) y ∙ e))

-- ---- the loop of `next_alike`: none of those before i

pub next_begins : {near far : List ℕ} {j from to : ℕ} → from ≤ to → Next near far j from to from
next_begins l = record { over = omega arith; upto = l; others = λ i a b. absurd (omega arith) }

module _ {near far : List ℕ} {j from to i : ℕ} (h : Next near far j from to i) where
  -- those before i, and some behind it
  pub next_by : {r : ℕ} → i ≤ r → r ≤ to → ((k : ℕ) → i ≤ k → k < r → get_or near k 0 ≡ get_or near j 0 → get_or far k 0 ≡ get_or far j 0 → ⊥) → Next near far j from to r
  next_by {r} a b f = record { over = omega (arith, h.over); upto = b; others = λ k x y p q. go k x y p q (leb i k) refl }
    where
      go : (k : ℕ) → from ≤ k → k < r → get_or near k 0 ≡ get_or near j 0 → get_or far k 0 ≡ get_or far j 0 → (t : Bool) → leb i k ≡ t → ⊥
      go k x y p q true c = f k (leb-true i k c) y p q
      go k x y p q false c = h.others k x (leb-false i k c) p q

  pub next_block : {r : Bool} → Clear near i to (get_or near j 0) r → r ≡ true → Next near far j from to (i + 8)
  next_block c q = next_by (omega arith) (c.fits q) (λ k a b x y. c.none q k a b x)

  pub next_more : i < to → (eqb (get_or near i 0) (get_or near j 0) && eqb (get_or far i 0) (get_or far j 0)) ≡ false → Next near far j from to (i + 1)
  next_more l q = next_by (omega arith) (omega arith) here
    where
      here : (k : ℕ) → i ≤ k → k < i + 1 → get_or near k 0 ≡ get_or near j 0 → get_or far k 0 ≡ get_or far j 0 → ⊥
      here k m b x y =
          let e : k ≡ i = omega arith in
          let s : get_or near i 0 ≡ get_or near j 0 = rw e at x in
          let t : get_or far i 0 ≡ get_or far j 0 = rw e at y in
          false≢true (sym q ∙ rw (eq-eqb (get_or near i 0) (get_or near j 0) s, eq-eqb (get_or far i 0) (get_or far j 0) t))

-- ---- names with other marks are other names

module _ {e w v cs near far : List ℕ} {m : ℕ} (h : Marked e w v cs near far m) {j i : ℕ} (a : j < m) (b : i < m) where
  same-texts : same_keys e w v cs j i ≡ true → text_in e w v cs j ≡ text_in e w v cs i
  unfolding same_keys same_key key_at
  same-texts q = same_true (text_in e w v cs j) (text_in e w v cs i) (go (eqb (kind_of (class_at cs j)) (kind_of (class_at cs i))) q)
    where
      go : (t : Bool) → (t && same (text_in e w v cs j) (text_in e w v cs i)) ≡ true → same (text_in e w v cs j) (text_in e w v cs i) ≡ true
      go true x = x
      go false x = absurd (false≢true x)

  pub marks_tell : (get_or near i 0 ≡ get_or near j 0 → get_or far i 0 ≡ get_or far j 0 → ⊥) → same_keys e w v cs j i ≡ false
  marks_tell f = go (same_keys e w v cs j i) refl
    where
      go : (t : Bool) → same_keys e w v cs j i ≡ t → t ≡ false
      go false q = refl
      go true q =
          let x : text_in e w v cs i ≡ text_in e w v cs j = sym (same-texts q) in
          absurd (f (h.near i b ∙ (ap (λ (s : Bytes). mark_of s 0) x ∙ sym (h.near j a))) (h.far i b ∙ (ap (λ (s : Bytes). mark_of s 8) x ∙ sym (h.far j a))))

-- ---- the loop of `repeated_behind`: none of those between j and i repeats j

alone_by : {t : ℕ → ℕ → Bool} {j k i : ℕ} (n : ℕ) → Alone t j k i → i + n ≤ k → ((l : ℕ) → i ≤ l → l < i + n → t j l ≡ false) → Alone t j k (i + n)
alone_by {i = i} zero h l f = rw (add-zero i) h
alone_by {t} {j} {k} {i} (suc n) h l f =
    let x : Alone t j k (i + n) = alone_by n h (omega arith) (λ m a b. f m a (omega arith)) in
    let y : Alone t j k (i + n + 1) = alone_more x (omega arith) (f (i + n) (omega arith) (omega arith)) in
    let z : i + n + 1 ≡ i + suc n = omega arith in
    rw z at y

module _ {e w v cs near far : List ℕ} {k j i r : ℕ} (m : Marked e w v cs near far k) (a : j < k) where
  pub alone_next : Alone (same_keys e w v cs) j k i → i ≤ k → Next near far j i k r → Alone (same_keys e w v cs) j k r
  alone_next h l n =
      let z : i + (r - i) ≡ r = omega (arith, n.over) in
      rw z at (alone_by (r - i) h (omega (arith, n.over, n.upto)) (λ l x y. marks_tell m a (omega (arith, n.over, n.upto)) (n.others l x (omega (arith, n.over)))))

-- ---- the loop of `mark_all`

pub marked-begins : {e w v cs near far : List ℕ} → Marked e w v cs near far 0
marked-begins = record { room = record { near = omega arith; far = omega arith }; near = λ j l. absurd (omega arith); far = λ j l. absurd (omega arith) }

-- one more attribute is marked: its class is c, its text s and n joined
pub marked_more : {e w v cs near far : List ℕ} {j : ℕ} (c : Class) {s n : Bytes} {a b : ℕ} → Marked e w v cs near far j → j < length near → j < length far
    → c ≡ class_at cs j → s ≡ space_by e v xml_name c → n ≡ tail_at e w c j → a ≡ mark_of (s ++ n) 0 → b ≡ mark_of (s ++ n) 8
    → Marked e w v cs (set near j a) (set far j b) (j + 1)
marked_more {e} {w} {v} {cs} {near} {far} {j} c {s} {n} {a} {b} h l m p q r x y =
    let t : s ++ n ≡ text_in e w v cs j = rw (q, r) (sym (two_parts e w v c j) ∙ rw p) in
    record {
      room = record { near = rw length-set (omega arith); far = rw length-set (omega arith) };
      near = below_more _ j (λ i d. get_or-set_other near j i a 0 (λ z. omega arith) ∙ h.near i d) (get_or-set_same near j a 0 l ∙ (x ∙ ap (λ (u : Bytes). mark_of u 0) t));
      far = below_more _ j (λ i d. get_or-set_other far j i b 0 (λ z. omega arith) ∙ h.far i d) (get_or-set_same far j b 0 m ∙ (y ∙ ap (λ (u : Bytes). mark_of u 8) t));
    }

-- the first j of k attributes are marked; the marks were ns and fs before it
pub record MarkingAll (e w v cs : List ℕ) (k : ℕ) (ns fs ms gs : List ℕ) (j : ℕ) : Type 0 where
  pub upto : j ≤ k
  pub near_same : length ms ≡ length ns
  pub far_same : length gs ≡ length fs
  pub room : Room k ns fs
  pub done : Marked e w v cs ms gs j

module _ {e w v cs : List ℕ} {k : ℕ} {ns fs : List ℕ} where
  pub all_begins : Room k ns fs → MarkingAll e w v cs k ns fs ns fs 0
  all_begins r = record { upto = omega arith; near_same = refl; far_same = refl; room = r; done = marked-begins }

  module _ {ms gs : List ℕ} {j : ℕ} (h : MarkingAll e w v cs k ns fs ms gs j) where
    pub all_more : {c : Class} {s n : Bytes} {a b : ℕ} → j < k → c ≡ class_at cs j → s ≡ space_by e v xml_name c → n ≡ tail_at e w c j → a ≡ mark_of (s ++ n) 0 → b ≡ mark_of (s ++ n) 8
        → MarkingAll e w v cs k ns fs (set ms j a) (set gs j b) (j + 1)
    all_more {c} {a = a} {b = b} l p q r x y =
        record {
          upto = omega arith;
          near_same = length-set ms j a ∙ h.near_same;
          far_same = length-set gs j b ∙ h.far_same;
          room = h.room;
          done = marked_more c h.done (omega (arith, h.near_same, h.room.near)) (omega (arith, h.far_same, h.room.far)) p q r x y;
        }

    pub all_done : k ≤ j → Marks e w v cs k ns fs ms gs
    all_done l = let z : j ≡ k = omega (arith, h.upto) in record { near_same = h.near_same; far_same = h.far_same; marked = rw z at h.done }

-- ---- as written: classes of zeros alone are those of declarations, which are compared so

zero_class : (n j : ℕ) → j * 3 + 3 ≤ n → class_at (replicate n 0) j ≡ Declaration
unfolding class_at class_of
zero_class n j l =
    let x : get_or (part (replicate n 0) (j * 3) 3) 0 0 ≡ 0 = get_d_part (replicate n 0) (j * 3) 3 0 (omega arith) ∙ get_or-replicate n (j * 3 + 0) 0 0 (omega arith) in
    rw (length-replicate, le-leb (j * 3 + 3) n l, x)

module _ (e w v : List ℕ) (n k : ℕ) (l : k * 3 ≤ n) where
  zero_same : (j i : ℕ) → j < k → i < k → same_keys e w v (replicate n 0) j i ≡ same_written e w j i
  unfolding same_keys same_key key_at text_at text_by same_written
  zero_same j i a b = rw (zero_class n j (omega arith), zero_class n i (omega arith))

  zero_behind : (j i m : ℕ) → j < k → i + m ≤ k → behind (same_keys e w v (replicate n 0)) j i m ≡ behind (same_written e w) j i m
  unfolding behind
  zero_behind j i zero a b = refl
  zero_behind j i (suc m) a b = rw (zero_same j i a (omega arith), zero_behind j (suc i) m a (omega arith))

  pub zero_pairs : (j m : ℕ) → j + m ≤ k → pairs (same_keys e w v (replicate n 0)) j m ≡ pairs (same_written e w) j m
  unfolding pairs
  zero_pairs j zero b = refl
  zero_pairs j (suc m) b = rw (zero_behind j (suc j) m (omega arith) (omega arith), zero_pairs (suc j) m (omega arith))
