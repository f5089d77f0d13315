-- The bindings of a start tag entered: the last one first, so that their rows from the last to the first have them as written.
use Rattle.std.specs.Prelude.{◌≡◌, refl, Bool, false, List, [], ◌∷◌, map, ℕ, zero, suc, ◌+◌, ◌-◌, ◌*◌, ◌<◌, ◌≤◌}
use Rattle.std.proofs.Common.{sym, ap, ◌∙◌, add-one, arith, le-leb}
use Rattle.std.proofs.Math.Bool.{true}
use Rattle.std.proofs.lemmas.Bool.{false≢true}
use Rattle.std.proofs.Math.ListN.{length}
use Rattle.spec.specs.Limits as L
use Rattle.spec.specs.Bytes.{Bytes, ascii, when◌then◌else◌, those, after, total}
use Rattle.spec.specs.Pyx.{Attribute}
use Rattle.spec.specs.Namespaces.{Binding, is_declaration, declares, declared}
use Rattle.spec.specs.Document.{binding_bytes}
use Rattle.copy.specs.Copy.{wrote_same}
use Rattle.state_words.specs.Kept.{Kept, kept_all, kept_then, kept_less, kept_before, kept_behind}
use Rattle.start_names.specs.Tag.{name_at, value_at, attribute_at, attributes_from, attributes_of, attributes_all, attributes_more, attributes_end}
use Rattle.start_names.specs.Declarations.{bindings_in, one_binding, declared_more, binding}
use Rattle.state_stack.specs.Calls.{Binds, may_bind}
use Rattle.state_stack.specs.Laws.{Bound, RowPut, bound_none, bind_put, bound_more}
use Rattle.start_element.specs.declared.Next.{Next}
use Rattle.start_element.specs.Sizes.{bytes_in, these_bytes, declared_bytes}

-- there is room for so many bytes and rows
pub record Fits (w bs : List ℕ) (p : Next) (bytes rows : ℕ) : Type 0 where
  pub store : length w ≤ 65_536
  pub room : p.at + bytes ≤ length w
  pub words : (p.row + rows) * 3 ≤ length bs

-- ---- one attribute: `q` is where the next binding goes then

pub record BindsAt (w bs v cs : List ℕ) (a : Attribute) (p q : Next) : Type 0 where
  pub other : is_declaration a ≡ false → (q ≡ p) × (v ≡ w) × (cs ≡ bs)
  pub put : is_declaration a ≡ true → RowPut w bs v cs p.at p.row (declares a).0 (declares a).1
  pub moved : is_declaration a ≡ true → q ≡ record { at = p.at + binding_bytes (declares a); row = p.row + 1 }
  pub same_bytes : length v ≡ length w
  pub same_words : length cs ≡ length bs

-- ---- all attributes

-- from p to q these bindings were entered
pub record Entered (w bs v cs : List ℕ) (p q : Next) (all : List Binding) : Type 0 where
  pub ends : q.at ≡ p.at + total binding_bytes all
  pub rows : q.row ≡ p.row + length all
  pub bound : Bound cs v p.row (length all) p.at q.at all
  pub words : Kept bs cs 0 (p.row * 3)
  pub before : Kept w v 0 p.at
  pub behind : (hi : ℕ) → Kept w v q.at hi
  pub same_bytes : length v ≡ length w
  pub same_words : length cs ≡ length bs

pub entered_none : {w bs : List ℕ} {p : Next} → Entered w bs w bs p p []
unfolding total
entered_none {w} {bs} {p} =
    record {
      ends = omega arith;
      rows = omega arith;
      bound = bound_none;
      words = kept_all;
      before = kept_all;
      behind = λ hi. kept_all;
      same_bytes = refl;
      same_words = refl;
    }

module _ {w bs v cs : List ℕ} {p q : Next} {bound : List Binding} (h : Entered w bs v cs p q bound) where
  entered-one : {x ds : List ℕ} {b : Binding} → RowPut v cs x ds q.at q.row b.0 b.1
      → Entered w bs x ds p (record { at = q.at + binding_bytes b; row = q.row + 1 }) (b ∷ bound)
  unfolding total binding_bytes
  entered-one {x} {ds} {b} r =
      let s : RowPut v cs x ds q.at (p.row + length bound) b.0 b.1 = rw h.rows at r in
      record {
        ends = omega (arith, h.ends);
        rows = omega (arith, h.rows);
        bound = bound_more h.bound s;
        words = kept_then h.words (kept_less (kept_before r.words) (omega arith) (omega (arith, h.rows)));
        before = kept_then h.before (kept_less (kept_before r.bytes) (omega arith) (omega (arith, h.ends)));
        behind = λ hi. kept_then (kept_less (h.behind hi) (omega arith) (omega arith)) (kept_behind hi r.bytes);
        same_bytes = wrote_same r.bytes ∙ h.same_bytes;
        same_words = wrote_same r.words ∙ h.same_words;
      }

-- one attribute more in front
entered_more : {w bs v cs x ds : List ℕ} {p q u : Next} (a : Attribute) (as' : List Attribute) → Entered w bs v cs p q (declared as') → BindsAt v cs x ds a q u → Entered w bs x ds p u (declared (a ∷ as'))
unfolding declared those when◌then◌else◌
entered_more {w} {bs} {v} {cs} {x} {ds} {p} {q} {u} a as' h b = go (is_declaration a) refl
  where
    go : (t : Bool) → is_declaration a ≡ t → Entered w bs x ds p u (map declares (when t then (a ∷ those is_declaration as') else those is_declaration as'))
    go true d = rw (b.moved d) (entered-one h (b.put d))
    go false d = let o = b.other d in rw (o.0, o.1, o.2) h

-- ---- the attributes from j on have no more bindings than all

module _ (e w : List ℕ) (k : ℕ) where
  few_bytes_from : (j : ℕ) → j ≤ k → total binding_bytes (declared (attributes_from e w j (k - j))) ≤ total binding_bytes (declared (attributes_of e w k))
  few_bytes_from zero h = omega (arith, ap (λ (x : List Attribute). total binding_bytes (declared x)) (attributes_all e w k))
  few_bytes_from (suc j) h =
      let t : attributes_from e w j (k - j) ≡ attribute_at e w j ∷ attributes_from e w (suc j) (k - suc j) = attributes_more e w k j (omega arith) ∙ rw (add-one j) in
      let s = declared_bytes (attribute_at e w j) (attributes_from e w (suc j) (k - suc j)) in
      omega (arith, few_bytes_from j (omega arith), ap (λ (x : List Attribute). total binding_bytes (declared x)) t)

  few-rows-from : (j : ℕ) → j ≤ k → length (declared (attributes_from e w j (k - j))) ≤ length (declared (attributes_of e w k))
  few-rows-from zero h = omega (arith, ap (λ (x : List Attribute). length (declared x)) (attributes_all e w k))
  few-rows-from (suc j) h =
      let t : attributes_from e w j (k - j) ≡ attribute_at e w j ∷ attributes_from e w (suc j) (k - suc j) = attributes_more e w k j (omega arith) ∙ rw (add-one j) in
      let s = declared_more (attribute_at e w j) (attributes_from e w (suc j) (k - suc j)) in
      omega (arith, few-rows-from j (omega arith), ap (λ (x : List Attribute). length (declared x)) t)

-- ---- the loop of `bind_all`: the attributes from j on have their bindings

pub record Entering (e s : List ℕ) (k : ℕ) (w bs v cs : List ℕ) (p q : Next) (j : ℕ) : Type 0 where
  pub upto : j ≤ k
  pub entered : Entered w bs v cs p q (declared (attributes_from e s j (k - j)))

pub entering_begins : {e s w bs : List ℕ} {k : ℕ} {p : Next} → Entering e s k w bs w bs p p k
unfolding declared those
entering_begins {e} {s} {w} {bs} {k} {p} = record { upto = omega arith; entered = rw (attributes_end e s k k (omega arith)) entered_none }

module _ {e s w bs v cs : List ℕ} {k j : ℕ} {p q : Next} (h : Entering e s k w bs v cs p q j) where
  module _ (l : 0 < j) where
    again : j - 1 + 1 ≡ j
    again = omega arith

    split : attributes_from e s (j - 1) (k - (j - 1)) ≡ attribute_at e s (j - 1) ∷ attributes_from e s j (k - j)
    split = attributes_more e s k (j - 1) (omega arith) ∙ rw again

    pub entering_fits : Fits w bs p (total binding_bytes (declared (attributes_of e s k))) (length (declared (attributes_of e s k)))
        → Fits v cs q (bytes_in (attribute_at e s (j - 1))) (bindings_in (attribute_at e s (j - 1)))
    entering_fits f =
        let n = h.entered in
        let a = attribute_at e s (j - 1) in
        let x = declared_bytes (attribute_at e s (j - 1)) (attributes_from e s j (k - j)) in
        let y = declared_more (attribute_at e s (j - 1)) (attributes_from e s j (k - j)) in
        record {
          store = omega (arith, n.same_bytes, f.store);
          room = omega (arith, n.same_bytes, n.ends, f.room, few_bytes_from e s k (j - 1) (omega arith), ap (λ (z : List Attribute). total binding_bytes (declared z)) split);
          words = omega (arith, n.same_words, n.rows, f.words, few-rows-from e s k (j - 1) (omega arith), ap (λ (z : List Attribute). length (declared z)) split);
        }

    pub entering_more : {x ds : List ℕ} {u : Next} → BindsAt v cs x ds (attribute_at e s (j - 1)) q u → Entering e s k w bs x ds p u (j - 1)
    entering_more {x} {ds} {u} b =
        record { upto = omega arith; entered = rw split (entered_more (attribute_at e s (j - 1)) (attributes_from e s j (k - j)) h.entered b) }

  pub entering_done : j ≤ 0 → Entered w bs v cs p q (declared (attributes_of e s k))
  entering_done l = let z : j ≡ 0 = omega arith in rw (attributes_all e s k) (rw z at h.entered)

-- ---- how `bind_at` comes to its answer

may_bind_lem : (w bs p s : List ℕ) (a n : ℕ) → length w ≤ 65_536 → a + (length p + length s) ≤ length w → n * 3 + 3 ≤ length bs → may_bind w bs a n p s ≡ true
unfolding L.all may_bind
may_bind_lem w bs p s a n x y z = rw (le-leb (length w) 65_536 x, le-leb (a + (length p + length s)) (length w) y, le-leb (n * 3 + 3) (length bs) z)

module _ (e s : List ℕ) (j : ℕ) {w bs : List ℕ} {p : Next} where
  pub binds_none : is_declaration (attribute_at e s j) ≡ false → BindsAt w bs w bs (attribute_at e s j) p p
  binds_none d =
      record {
        other = λ _. (refl, refl, refl);
        put = λ y. absurd (false≢true (sym d ∙ y));
        moved = λ y. absurd (false≢true (sym d ∙ y));
        same_bytes = refl;
        same_words = refl;
      }

  pub binds_one : {n x y v cs : Bytes} {r : Bool} → is_declaration (attribute_at e s j) ≡ true → n ≡ name_at e s j → x ≡ after (ascii "xmlns:") n → y ≡ value_at e s j
      → Fits w bs p (bytes_in (attribute_at e s j)) (bindings_in (attribute_at e s j))
      → Binds w bs p.at p.row x y v cs r → BindsAt w bs v cs (attribute_at e s j) p (record { at = p.at + (length x + length y); row = p.row + 1 })
  unfolding binding_bytes
  binds_one {n} {x} {y} {v} {cs} {r} d nm px vl f b =
      let z : (x, y) ≡ declares (attribute_at e s j) = binding e s j d nm px vl in
      let l : length x + length y ≡ bytes_in (attribute_at e s j) = these_bytes e s j d nm px vl in
      let t : r ≡ true = b.answer ∙ may_bind_lem w bs x y p.at p.row (omega (arith, f.store)) (omega (arith, f.room)) (omega (arith, f.words, one_binding e s j d)) in
      record {
        other = λ o. absurd (false≢true (sym o ∙ d));
        put = λ _. rw (← z) (bind_put b t);
        moved = λ _. rw (← z);
        same_bytes = b.same_bytes;
        same_words = b.same_words;
      }
