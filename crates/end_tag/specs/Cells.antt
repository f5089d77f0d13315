-- The cells of a Collection, written one after the other.
use Prim.Native.Nat.{ℕ, zero, suc, ◌+◌, ◌-◌, ◌<◌, ◌≤◌}
use Rattle.std.specs.Prelude.{◌≡◌, Option, Some, IsSome, refl, Bool, true, eqb, length}
use Rattle.std.proofs.Common.{sym, ◌∙◌, add-zero, eq-eqb, ne_eqb}
use Rattle.std.proofs.Math.Path.{ap}
use mathlib.Core.List.{List, [], ◌∷◌, ◌++◌, append-nil, append_assoc}
use Rattle.std.proofs.Math.Numerals.{add-one}
use native.Mathlib.Omega.{arith}
use Rattle.spec.specs.Bytes.{Bytes}
use Rattle.spec.specs.Limits.{most_labels}
use Rattle.spec.specs.Rdf.{rdf}
use Rattle.spec.specs.NTriples.{Subject, named, blank, node, Triple, label, line, write}
use Rattle.spec.specs.NTriples as N
use Rattle.spec.specs.Document.{Property}
use Rattle.spec.specs.Productions.{statement}
use Rattle.spec.specs.EndTag.{cells, head_cell}
use Rattle.copy.specs.Copy.{part}
use Rattle.state_words.specs.Parts.{TAIL, END}
use Rattle.state_words.specs.declared.Kind.TheVariants.{ParseTypeCollectionPropertyElt}
use Rattle.state_words.specs.declared.Frame.{Frame}
use Rattle.state_words.specs.Words.{pick}
use Rattle.state.specs.Meaning.{at, count, child_from, child_of, children_of}
use Rattle.state.specs.Valid.{children_ok, kind_ok}
use Rattle.state.specs.Stay.{last-child, collected}
use Rattle.label.specs.Label.{Generates, one_left, generated}
use Rattle.label.specs.declared.BlankNodeId.{BlankNodeId}
use Rattle.state_stack.specs.declared.nodes.Child.{Child}
use Rattle.state_stack.specs.Take.{child_in}
use Rattle.state_stack.specs.NodeLaws.{child_node, child_read}
use Rattle.writer.specs.Put.{Put, puts, put_as, put_none}
use Rattle.ntriples.specs.declared.Node.{Node}
use Rattle.ntriples.specs.Terms.{cell_of}
use Rattle.ntriples.specs.Terms as T
use Rattle.ntriples.specs.Lines.{cells_more}
use Rattle.end_tag.specs.Object.{node_is_lem}

-- the list with no members
abbrev pub nil : Subject
nil = named (rdf "nil")

-- the list whose first cell has label m, where the labels of its cells follow `first`
unfoldable pub list_at : ℕ → ℕ → Subject
list_at first m = pick (eqb m first) nil (blank (label m))

pub list_none : (first m : ℕ) → m ≡ first → nil ≡ list_at first m
unfolding list_at
list_none first m e = rw (eq-eqb m first e)

pub list_some : (first m : ℕ) → (m ≡ first → ⊥) → blank (label m) ≡ list_at first m
unfolding list_at
list_some first m e = rw (ne_eqb m first e)

-- a Collection whose cells can all have a label
pub record Listed (f : Frame) (w : List ℕ) (n : ℕ) : Type 0 where
  pub children : kind_ok ParseTypeCollectionPropertyElt f w ≡ true
  pub ends : at f END ≤ length w
  pub few : n + count f ≤ 99_999_999

-- ---- the next label

pub next_left : (n m : ℕ) (r : Option BlankNodeId) → Generates (n - 1) m r → 0 < n → n ≤ 99_999_999 → IsSome r
unfolding most_labels
next_left n m r g l h = one_left (n - 1) m r g (omega arith)

pub next_label : {r : Option BlankNodeId} {made : BlankNodeId} (n m : ℕ) → Generates (n - 1) m r → r ≡ Some made → 0 < n → made.id ≡ label n
next_label n m g q l =
    let e : n - 1 + 1 ≡ n = omega arith in
    (generated g q).id ∙ ap label e

-- ---- one cell

pub celled : {own s : List ℕ} {m : Node} {others : Subject} (c : Child) (w : List ℕ) (first n : ℕ) → own ≡ label (n + 1) → m ≡ T.node_for c.blank → s ≡ part w c.at c.len
    → others ≡ list_at first n → write (cell_of own (T.subject_of m s) others) ≡ write (cell_of (label (n + 1)) (child_node c w) (list_at first n))
unfolding child_node
celled {s = s} c w first n o m p l = rw (o, node_is_lem c.blank m s, p, l)

-- ---- the loop of `cells`: of k children up to z, i are left, the last of which ends at e, and n labels were generated

pub record Celled (w : List ℕ) (first : ℕ) (on : Bool) (d d' : List ℕ) (z k to e i n : ℕ) : Type 0 where
  pub counts : n + i ≡ first + k
  pub few : first + k ≤ 99_999_999
  pub from : first ≤ n
  pub floor : ℕ
  pub children : children_ok w floor i e ≡ true
  pub ends : e ≤ length w
  pub done : Bytes
  pub put : Put on d d' 0 to done
  pub rest : done ++ write (cells n (list_at first n) (children_of w i e)) ≡ write (cells first nil (children_of w k z))

pub celled_begins : {f : Frame} {w : List ℕ} {first : ℕ} {on : Bool} {d : List ℕ} {e i : ℕ} → Listed f w first → e ≡ at f END → i ≡ count f → Celled w first on d d e i 0 e i first
celled_begins {f} {w} {first} {on} {d} {e} {i} l p q =
    record {
      counts = refl;
      few = rw q l.few;
      from = omega arith;
      floor = at f TAIL;
      children = rw (p, q) (collected f w l.children).children;
      ends = rw p l.ends;
      done = [];
      put = put_none (omega arith);
      rest = rw (← list_none first first refl);
    }

module _ {w : List ℕ} {first : ℕ} {on : Bool} {d d' : List ℕ} {z k to e i n : ℕ} (h : Celled w first on d d' z k to e i n) where
  last-ends : 0 < i → 4 ≤ e
  last-ends l =
      let q : i ≡ suc (i - 1) = omega arith in
      omega (arith, (last-child w h.floor (i - 1) e (rw q at h.children)).fits)

  pub celled_more : {d'' : List ℕ} {up : ℕ} {c : Child} → 0 < i → c ≡ child_in w e → Put on d' d'' to up (write (cell_of (label (n + 1)) (child_node c w) (list_at first n)))
      → Celled w first on d d'' z k up c.at (i - 1) (n + 1)
  unfolding children_of
  celled_more {d''} {up} {c} l q p =
      let s : i ≡ suc (i - 1) = omega arith in
      let last = last-child w h.floor (i - 1) e (rw s at h.children) in
      let r = child_read w e q (last-ends l) h.ends in
      let p' : Put on d' d'' to up (write (cell_of (label (suc n)) (child_of w e) (list_at first n))) = rw (r.node, add-one n) at p in
      let cs : List Subject = children_of w (i - 1) (child_from w e) in
      let more : write (cell_of (label (suc n)) (child_of w e) (list_at first n)) ++ write (cells (suc n) (list_at first (suc n)) cs) ≡ write (cells n (list_at first n) (children_of w (suc (i - 1)) e)) =
      rw (← list_some first (suc n) (λ y. omega (arith, h.from))) (cells_more n (list_at first n) (child_of w e) cs) in
      let before : h.done ++ write (cells n (list_at first n) (children_of w (suc (i - 1)) e)) ≡ write (cells first nil (children_of w k z)) =
      ap (λ (m : ℕ). h.done ++ write (cells n (list_at first n) (children_of w m e))) (sym s) ∙ h.rest in
      record {
        counts = omega (arith, h.counts);
        few = h.few;
        from = omega (arith, h.from);
        floor = h.floor;
        children = rw r.starts last.rest;
        ends = rw r.starts (omega (arith, last.fits, h.ends));
        done = h.done ++ write (cell_of (label (suc n)) (child_of w e) (list_at first n));
        put = puts h.put p';
        rest = rw (r.starts, add-one n, append_assoc, more) before;
      }

  pub celled_done : i ≤ 0 → (f : Frame) → z ≡ at f END → k ≡ count f → Put on d d' 0 to (write (cells first nil (children_of w (count f) (at f END))))
  unfolding children_of cells write
  celled_done l f p q =
      let y : i ≡ 0 = omega arith in
      rw (← p, ← q) (put_as h.put (sym (append-nil h.done) ∙ (rw y at h.rest)))

-- ---- the head of the list

pub length-children : (w : List ℕ) (n e : ℕ) → length (children_of w n e) ≡ n
unfolding children_of
length-children w zero e = refl
length-children w (suc n) e = ap suc (length-children w n (child_from w e))

head_list : (first m : ℕ) (cs : List Subject) → first ≤ m → head_cell m (list_at first m) cs ≡ list_at first (m + length cs)
unfolding head_cell
head_list first m [] l = rw add-zero
head_list first m (c ∷ cs) l =
    let e : suc m + length cs ≡ m + suc (length cs) = omega arith in
    rw (list_some first (suc m) (λ z. omega arith)) (head_list first (suc m) cs (omega arith) ∙ ap (list_at first) e)

pub head_is : (f : Frame) (w : List ℕ) (first : ℕ) → list_at first (first + count f) ≡ head_cell first nil (children_of w (count f) (at f END))
head_is f w first =
    sym (rw (list_none first first refl) (head_list first first (children_of w (count f) (at f END)) (omega arith) ∙ rw (length-children w (count f) (at f END))))

-- cells, and then the statement
pub write_both : (ts us : List Triple) → write ts ++ write us ≡ write (ts ++ us)
unfolding write
write_both [] us = refl
write_both (t ∷ ts) us = append_assoc (line t) (write ts) (write us) ∙ ap (λ (x : Bytes). line t ++ x) (write_both ts us)

pub listed : (f : Frame) (w : List ℕ) (first : ℕ) (p : Property) {o : N.Term} → o ≡ node (list_at first (first + count f))
    → write (cells first nil (children_of w (count f) (at f END))) ++ write (statement p o)
    ≡ write (cells first nil (children_of w (count f) (at f END)) ++ statement p (node (head_cell first nil (children_of w (count f) (at f END)))))
listed f w first p q = rw (q, head_is f w first) (write_both (cells first nil (children_of w (count f) (at f END))) _)
