-- Demand 3: no cell is in two lists.
use Rattle.std.specs.Prelude.{◌≡◌, ◌⊎◌, Bool, true, false, ℕ}
use Rattle.std.proofs.Common.{sym, ◌∙◌, ap, inl, inr, true≢false}
use mathlib.Core.List.{List, [], ◌∷◌, cons≢nil, head-eq_of_cons-eq, tail-eq_of_cons-eq}
use Rattle.spec.specs.Bytes.{Bytes, when◌then◌else◌, same}
use Rattle.spec.specs.NTriples.{Subject, named, blank, node, Triple, triple}
use Rattle.spec.specs.Rdf.{rdf}
use Rattle.spec.specs.Rdf as F
use Rattle.spec.specs.Lists.{same_subject, lines_of, Cell, Reads}
use Rattle.spec.specs.ReadingBack.{Among, first, later, CellOf, this, behind}
use Rattle.spec.proofs.Bytes.{same_refl}

same-subject : (x : Subject) → same_subject x x ≡ true
unfolding same_subject
same-subject (named i) = same_refl i
same-subject (blank l) = same_refl l

-- a line with a subject is one of the lines of that subject
among-lines : (x : Subject) (p : Bytes) (y : Subject) (ts : List Triple) → Among (triple x p (node y)) ts → Among (triple x p (node y)) (lines_of x ts)
unfolding lines_of when◌then◌else◌
among-lines x p y [] a = elim a [ ]
among-lines x p y (t ∷ ts) first = rw (same-subject x) first
among-lines x p y (triple s q o ∷ ts) (later a) = go (same_subject x s) (among-lines x p y ts a)
  where
    go : (b : Bool) → Among (triple x p (node y)) (lines_of x ts) → Among (triple x p (node y)) (when b then (triple s q o ∷ lines_of x ts) else lines_of x ts)
    go true h = later h
    go false h = h

rest_not_first : rdf "rest" ≡ rdf "first" → ⊥
unfolding F.all
rest_not_first e = true≢false (sym (same_refl (rdf "rest")) ∙ ap (same (rdf "rest")) e)

among_two : (t u v : Triple) (ts : List Triple) → ts ≡ u ∷ v ∷ [] → Among t ts → (t ≡ u) ⊎ (t ≡ v)
among_two t u v [] e a = elim a [ ]
among_two t u v (t' ∷ ts) e first = inl (head-eq_of_cons-eq e)
among_two t u v (t' ∷ ts) e (later a) = inr (go ts (tail-eq_of_cons-eq e) a)
  where
    go : (ts : List Triple) → ts ≡ v ∷ [] → Among t ts → t ≡ v
    go [] e a = elim a [ ]
    go (w ∷ ts) e first = head-eq_of_cons-eq e
    go (w ∷ ts) e (later a) = absurd (none ts (tail-eq_of_cons-eq e) a)
      where
        none : (ts : List Triple) → ts ≡ [] → Among t ts → ⊥
        none [] e a = elim a [ ]
        none (w ∷ ts) e a = cons≢nil e

-- of a cell's two lines the second has its rdf:rest
one-rest : (x c y z : Subject) → (triple x (rdf "rest") (node z) ≡ triple x (rdf "first") (node c)) ⊎ (triple x (rdf "rest") (node z) ≡ triple x (rdf "rest") (node y)) → z ≡ y
one-rest x c y z (inl e) = let q : rdf "rest" ≡ rdf "first" = cc in absurd (rest_not_first q)
one-rest x c y z (inr e) = cc

-- a cell of a list that reads back, found in the lines along rdf:rest, is one of the labels that are its cells
pub cells_read : (lo hi : ℕ) (ts : List Triple) (x : Subject) (cs : List Subject) (c : Subject) → Reads lo hi ts x cs → CellOf ts x c → Cell lo hi c
cells_read lo hi ts x [] c r (this n) = absurd (n r)
cells_read lo hi ts x [] c r (behind n a k) = absurd (n r)
cells_read lo hi ts x (d ∷ cs) c (y, i, e, r) (this n) = i
cells_read lo hi ts x (d ∷ cs) c (y, i, e, r) (behind {y = z} n a k) =
    cells_read lo hi ts z cs c (rw (one-rest x d y z (among_two _ _ _ (lines_of x ts) e (among-lines x (rdf "rest") z ts a))) r) k

-- Lists whose cells are different labels have no cell in common.
pub no_cell_shared : (lo hi lo' hi' : ℕ) (ts : List Triple) (x x' : Subject) (cs cs' : List Subject) → Reads lo hi ts x cs → Reads lo' hi' ts x' cs'
    → ((c : Subject) → Cell lo hi c → Cell lo' hi' c → ⊥) → (c : Subject) → CellOf ts x c → CellOf ts x' c → ⊥
no_cell_shared lo hi lo' hi' ts x x' cs cs' r r' apart c k k' = apart c (cells_read lo hi ts x cs c r k) (cells_read lo' hi' ts x' cs' c r' k')
