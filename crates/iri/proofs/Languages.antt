-- A grammar of characters as a language of bytes, and the law by which a text is cut at its first delimiter.
use mathlib.Core.Path.{◌≡◌, refl, sym, ap, ◌∙◌}
use mathlib.Core.Logic.{◌⊎◌, inl, inr}
use mathlib.Core.Bool.{Bool, true, false, ◌&&◌, ◌||◌, not, false≢true}
use mathlib.Core.Option.{Option, none, some as got}
use mathlib.Core.List.{List, [], ◌∷◌, ◌++◌, append_assoc, head-eq_of_cons-eq, tail-eq_of_cons-eq, nil≢cons}
use Prim.Native.Nat.{ℕ, suc, ◌+◌, ◌<◌, ◌≤◌}
use native.Mathlib.Omega.{arith}
use lib.Dec.{eqb, ltb, leb}
use lib.ListN.{length, take, drop, get_or, drop_of_length-le}
use lib.Seq.{drop-cons}
use Rattle.copy.specs.Texts.{up_to_take, from-drop, up_to_stop}
use borrow.Author.Tests.{ne_eqb, eq-eqb, eqb-true, ltb-true, leb-true, le-leb, lt-ltb, not-true}
use Rattle.spec.specs.Bytes.{Bytes, when◌then◌else◌, up_to, from, every, between, byte, is_empty}
use Rattle.spec.specs.Grammar.{Grammar, nothing, empty, one, ◌or◌, ◌then◌, many, Many, stop, more, Describes, accepts, null, after}
use Rattle.spec.specs.Abnf.{lower, letters, optional, some}
use Rattle.spec.specs.Utf8.{characters, in_front, holds_of, as_characters}
use Rattle.spec.proofs.Booleans.{and_left, and_right, and_both, or_cases, or_left, or_right_lem}
use Rattle.theorems.specs.Grammar.{accepts_sound, accepts_complete}
use Rattle.utils.specs.Decoding.{Front}
use Rattle.utils.proofs.Utf8.{no_bytes}
use Rattle.utils.proofs.Front.{front_characters}
use Rattle.utils.proofs.Decoding.{front_one}
use Rattle.iri.specs.Parts.{of}
use Rattle.iri.specs.Forms.{other, is_mark}
use Rattle.iri.proofs.Characters.{up_to_from_lem, Reads, done, reads-characters, characters-reads, reads-append, reads-split, reads-every, reads_low, reads_front, front_reads}

-- the bytes are, in UTF-8, what the grammar describes
pub record In (g : Grammar ℕ) (s : Bytes) : Type 0 where
  pub text : List ℕ
  pub reads : Reads s text
  pub describes : Describes g text

pub same_test : (a b : Bool) → (a ≡ true → b ≡ true) → (b ≡ true → a ≡ true) → a ≡ b
same_test true b f g = sym (f refl)
same_test false true f g = g refl
same_test false false f g = refl

pub of_in : (g : Grammar ℕ) (s : Bytes) → of g s ≡ true → In g s
unfolding as_characters holds_of
of_in g s h = by (characters s) refl h
  where
    by : (o : Option (List ℕ)) → characters s ≡ o → holds_of (accepts g) o ≡ true → In g s
    by none e h = absurd (false≢true h)
    by (got cs) e h = record { text = cs; reads = characters-reads cs s e; describes = accepts_sound g cs h }

pub in_of : {g : Grammar ℕ} {s : Bytes} → In g s → of g s ≡ true
unfolding as_characters holds_of
in_of {g} i = rw (reads-characters i.reads) (accepts_complete g i.text i.describes)

pub of_same : {g h : Grammar ℕ} {s t : Bytes} → (In g s → In h t) → (In h t → In g s) → of g s ≡ of h t
of_same {g} {h} {s} {t} f k = same_test (of g s) (of h t) (λ e. in_of (f (of_in g s e))) (λ e. in_of (k (of_in h t e)))

-- ---- the language of each form

pub in_then : {g h : Grammar ℕ} {s : Bytes} → In (g then h) s → (u : Bytes) × (v : Bytes) × (s ≡ u ++ v) × In g u × In h v
in_then {s = s} i =
    let d = i.describes in
    let p = reads-split d.0 d.1 s (rw d.2 at i.reads) in
    (p.0, p.1, p.2, record { text = d.0; reads = p.3; describes = d.3 }, record { text = d.1; reads = p.4; describes = d.4 })

pub then_in : {g h : Grammar ℕ} {u v : Bytes} → In g u → In h v → In (g then h) (u ++ v)
then_in i j = record { text = i.text ++ j.text; reads = reads-append i.reads j.reads; describes = (i.text, j.text, refl, i.describes, j.describes) }

-- another language behind
pub then_map : {g h k : Grammar ℕ} {s : Bytes} → ((t : Bytes) → In h t → In k t) → In (g then h) s → In (g then k) s
then_map f i = let p = in_then i in rw p.2 (then_in p.3 (f p.1 p.4))

pub in_or : {g h : Grammar ℕ} {s : Bytes} → In (g or h) s → In g s ⊎ In h s
in_or i = elim i.describes [ inl x ↦ inl (record { text = i.text; reads = i.reads; describes = x }) | inr y ↦ inr (record { text = i.text; reads = i.reads; describes = y }) ]

pub left_in_lem : {g h : Grammar ℕ} {s : Bytes} → In g s → In (g or h) s
left_in_lem i = record { text = i.text; reads = i.reads; describes = inl i.describes }

pub right_in : {g h : Grammar ℕ} {s : Bytes} → In h s → In (g or h) s
right_in i = record { text = i.text; reads = i.reads; describes = inr i.describes }

pub reads_none : {s : Bytes} {cs : List ℕ} → Reads s cs → cs ≡ [] → s ≡ []
unfolding every
reads_none r e = reads_low r (rw e) ∙ e

pub in_empty : {s : Bytes} → In empty s → s ≡ []
in_empty i = reads_none i.reads i.describes

pub empty_in : In empty []
empty_in = record { text = []; reads = done; describes = refl }

pub of_or : (g h : Grammar ℕ) (s : Bytes) → of (g or h) s ≡ (of g s || of h s)
of_or g h s =
    same_test (of (g or h) s) (of g s || of h s)
    (λ e. elim (in_or (of_in (g or h) s e)) [ inl x ↦ or_left (of g s) (of h s) (in_of x) | inr y ↦ or_right_lem (of g s) (of h s) (in_of y) ])
    (λ e. elim (or_cases (of g s) (of h s) e) [ inl x ↦ in_of (left_in_lem (of_in g s x)) | inr y ↦ in_of (right_in (of_in h s y)) ])

pub of_nothing : (s : Bytes) → of nothing s ≡ false
of_nothing s = same_test (of nothing s) false (λ e. absurd (of_in nothing s e).describes) (λ e. absurd (false≢true e))

pub of_assoc : (g h k : Grammar ℕ) (s : Bytes) → of (g then (h then k)) s ≡ of ((g then h) then k) s
of_assoc g h k s =
    of_same
    (λ i.
    let p = in_then i in
    let q = in_then p.4 in
    let j : In ((g then h) then k) ((p.0 ++ q.0) ++ q.1) = then_in (then_in p.3 q.3) q.4 in
    rw (p.2, q.2, ← append_assoc p.0 q.0 q.1) j)
    (λ i.
    let p = in_then i in
    let q = in_then p.3 in
    let j : In (g then (h then k)) (q.0 ++ (q.1 ++ p.1)) = then_in q.3 (then_in q.4 p.4) in
    rw (p.2, q.2, append_assoc q.0 q.1 p.1) j)

pub in_assoc : {g h k : Grammar ℕ} {s : Bytes} → In ((g then h) then k) s → In (g then (h then k)) s
in_assoc {g} {h} {k} {s} i = of_in (g then (h then k)) s (of_assoc g h k s ∙ in_of i)

pub assoc_in : {g h k : Grammar ℕ} {s : Bytes} → In (g then (h then k)) s → In ((g then h) then k) s
assoc_in {g} {h} {k} {s} i = of_in ((g then h) then k) s (sym (of_assoc g h k s) ∙ in_of i)

pub in_skip : {h : Grammar ℕ} {s : Bytes} → In (empty then h) s → In h s
in_skip i = let p = in_then i in rw (p.2, in_empty p.3) p.4

pub of_skip : (h : Grammar ℕ) (s : Bytes) → of (empty then h) s ≡ of h s
of_skip h s =
    of_same {g = empty then h} {h = h} {s = s} {t = s}
    (λ i. in_skip i)
    (λ i. then_in empty_in i)

-- [ g ] h
pub of_optional_then : (g h : Grammar ℕ) (s : Bytes) → of (optional g then h) s ≡ (of h s || of (g then h) s)
unfolding optional
of_optional_then g h s =
    same_test (of ((empty or g) then h) s) (of h s || of (g then h) s)
    (λ e.
    let p = in_then (of_in ((empty or g) then h) s e) in
    elim (in_or p.3) [
      | inl x ↦ or_left (of h s) (of (g then h) s) (rw (p.2, in_empty x) (in_of p.4))
      | inr y ↦ or_right_lem (of h s) (of (g then h) s) (rw p.2 (in_of (then_in y p.4)))
    ])
    (λ e.
    elim (or_cases (of h s) (of (g then h) s) e) [
      | inl x ↦ in_of (then_in (left_in_lem {h = g} empty_in) (of_in h s x))
      | inr y ↦
          (let p = in_then (of_in (g then h) s y) in
          rw p.2 (in_of (then_in (right_in {g = empty} p.3) p.4)))
    ])

-- ---- from the front

pub of_nil : (g : Grammar ℕ) → of g [] ≡ null g
unfolding as_characters holds_of
of_nil g = rw no_bytes

-- behind the first character: what the grammar asks of the rest
pub of_front : {c n : ℕ} {s : Bytes} (g : Grammar ℕ) → Front c n s → of g s ≡ of (after c g) (drop n s)
unfolding as_characters holds_of in_front
of_front {c} {n} {s} g f = rw (front_characters f) (by (characters (drop n s)))
  where
    by : (o : Option (List ℕ)) → holds_of (accepts g) (in_front (got c) o) ≡ holds_of (accepts (after c g)) o
    by none = refl
    by (got cs) = refl

pub of_after : (g : Grammar ℕ) (c : ℕ) (s : Bytes) → c < 128 → of g (c ∷ s) ≡ of (after c g) s
of_after g c s l = of_front g (front_one (c ∷ s) (omega arith) l)

-- one character of ASCII, and then h
module _ (p : ℕ → Bool) (low : (c : ℕ) → p c ≡ true → c < 128) where
  pub in_one : {h : Grammar ℕ} {s : Bytes} → In (one p then h) s → (c : ℕ) × (t : Bytes) × (s ≡ c ∷ t) × (p c ≡ true) × In h t
  unfolding every
  in_one i =
      let q = in_then i in
      let x = q.3.describes in
      let e : q.0 ≡ x.0 ∷ [] = reads_low q.3.reads (rw (x.1, lt-ltb x.0 128 (low x.0 x.2))) ∙ x.1 in
      (x.0, q.1, q.2 ∙ rw e, x.2, q.4)

  pub one_in : {h : Grammar ℕ} {s : Bytes} (c : ℕ) → p c ≡ true → In h s → In (one p then h) (c ∷ s)
  one_in c e i = then_in (record { text = c ∷ []; reads = front_reads c (low c e) done; describes = (c, refl, e) }) i

  pub of_one : (h : Grammar ℕ) (c : ℕ) (s : Bytes) → of (one p then h) (c ∷ s) ≡ (p c && of h s)
  of_one h c s =
      same_test (of (one p then h) (c ∷ s)) (p c && of h s)
      (λ e.
      let q = in_one (of_in (one p then h) (c ∷ s) e) in
      and_both (p c) (of h s) (rw (head-eq_of_cons-eq q.2) q.3) (rw (tail-eq_of_cons-eq q.2) (in_of q.4)))
      (λ e. in_of (one_in c (and_left (p c) (of h s) e) (of_in h s (and_right (p c) (of h s) e))))

-- ---- rows

-- at least one
pub of_some : (g : Grammar ℕ) (s : Bytes) → null g ≡ false → of (some g) s ≡ (not (is_empty s) && of (many g) s)
unfolding some is_empty
of_some g s n =
    same_test (of (g then many g) s) (not (is_empty s) && of (many g) s)
    (λ e. let i = of_in (g then many g) s e in
    and_both (not (is_empty s)) (of (many g) s) (filled s i) (in_of (record { text = i.text; reads = i.reads; describes = more i.describes.0 i.describes.1 i.describes.2 i.describes.3 i.describes.4 })))
    (λ e. let i = of_in (many g) s (and_right (not (is_empty s)) (of (many g) s) e) in
    in_of (record { text = i.text; reads = i.reads; describes = first i.text i.reads (and_left (not (is_empty s)) (of (many g) s) e) i.describes }))
  where
    filled : (s : Bytes) → In (g then many g) s → not (is_empty s) ≡ true
    filled [] i = absurd (false≢true (sym n ∙ and_left (null g) true (sym (of_nil (g then many g)) ∙ in_of i)))
    filled (a ∷ s) i = refl

    first : (cs : List ℕ) → Reads s cs → not (is_empty s) ≡ true → Many (Describes g) cs → Describes (g then many g) cs
    first cs r k (stop e) = absurd (false≢true (rw (reads_none r e) at k))
    first cs r k (more u v e x y) = (u, v, e, x, y)

-- a row of single characters
pub every-many : (q : ℕ → Bool) (g : Grammar ℕ) → ((c : ℕ) → q c ≡ true → Describes g (c ∷ [])) → (s : List ℕ) → every q s ≡ true → Describes (many g) s
unfolding every
every-many q g f [] h = stop refl
every-many q g f (c ∷ s) h = more (c ∷ []) s refl (f c (and_left (q c) (every q s) h)) (every-many q g f s (and_right (q c) (every q s) h))

-- ---- the characters that can stand in a language

-- every character passes a test
abbrev pub Within : (ℕ → Bool) → Grammar ℕ → Type 0
Within q nothing = Unit {0}
Within q empty = Unit {0}
Within q (one p) = (c : ℕ) → p c ≡ true → q c ≡ true
Within q (g or h) = Within q g × Within q h
Within q (g then h) = Within q g × Within q h
Within q (many g) = Within q g

pub every_append : (p : ℕ → Bool) (s t : Bytes) → every p s ≡ true → every p t ≡ true → every p (s ++ t) ≡ true
unfolding every
every_append p [] t h k = k
every_append p (a ∷ s) t h k = and_both (p a) (every p (s ++ t)) (and_left (p a) (every p s) h) (every_append p s t (and_right (p a) (every p s) h) k)

pub every-left : (p : ℕ → Bool) (s t : Bytes) → every p (s ++ t) ≡ true → every p s ≡ true
unfolding every
every-left p [] t h = refl
every-left p (a ∷ s) t h = and_both (p a) (every p s) (and_left (p a) (every p (s ++ t)) h) (every-left p s t (and_right (p a) (every p (s ++ t)) h))

pub every_right : (p : ℕ → Bool) (s t : Bytes) → every p (s ++ t) ≡ true → every p t ≡ true
unfolding every
every_right p [] t h = h
every_right p (a ∷ s) t h = every_right p s t (and_right (p a) (every p (s ++ t)) h)

module _ (q : ℕ → Bool) where
  pub within-every : (g : Grammar ℕ) (s : List ℕ) → Within q g → Describes g s → every q s ≡ true
  unfolding every
  within-every nothing s w x = absurd x
  within-every empty s w x = rw x
  within-every (one p) s w x = rw (x.1, w x.0 x.2)
  within-every (g or k) s w (inl x) = within-every g s w.0 x
  within-every (g or k) s w (inr y) = within-every k s w.1 y
  within-every (g then k) s w x = rw x.2 (every_append q x.0 x.1 (within-every g x.0 w.0 x.3) (within-every k x.1 w.1 x.4))
  within-every (many g) s w x = rows (λ u. within-every g u w) x
    where
      rows : ((u : List ℕ) → Describes g u → every q u ≡ true) → {s : List ℕ} → Many (Describes g) s → every q s ≡ true
      rows f (stop e) = rw e
      rows f (more u v e y z) = rw e (every_append q u v (f u y) (rows f z))

-- a character that stands nowhere in it: this computes
unfoldable pub shuns : ℕ → Grammar ℕ → Bool
shuns d nothing = true
shuns d empty = true
shuns d (one p) = not (p d)
shuns d (g or h) = shuns d g && shuns d h
shuns d (g then h) = shuns d g && shuns d h
shuns d (many g) = shuns d g

module _ (d : ℕ) where
  shuns-within : (g : Grammar ℕ) → shuns d g ≡ true → Within (other d) g
  unfolding shuns
  shuns-within nothing h = tt
  shuns-within empty h = tt
  shuns-within (one p) h = λ c e. rw (ne_eqb c d (λ k. false≢true (sym (not-true (p d) h) ∙ ap p (sym k) ∙ e)))
  shuns-within (g or k) h = (shuns-within g (and_left (shuns d g) (shuns d k) h), shuns-within k (and_right (shuns d g) (shuns d k) h))
  shuns-within (g then k) h = (shuns-within g (and_left (shuns d g) (shuns d k) h), shuns-within k (and_right (shuns d g) (shuns d k) h))
  shuns-within (many g) h = shuns-within g h

  pub in_shuns : {g : Grammar ℕ} {s : Bytes} → d < 128 → shuns d g ≡ true → In g s → every (other d) s ≡ true
  in_shuns {g} {s} l h i =
      reads-every (other d) (λ x m. rw (ne_eqb x d (λ e. omega arith))) i.reads ∙ within-every (other d) g i.text (shuns-within g h) i.describes

-- ---- the cut

-- nothing, or a text that begins with the mark
pub data Marked (d : ℕ) : Bytes → Type 0 where
  end : Marked d []
  mark : (t : Bytes) → Marked d (d ∷ t)

pub marked-head : {d c : ℕ} {s : Bytes} → Marked d (c ∷ s) → c ≡ d
marked-head {d} {c} {s} m = by m refl
  where
    by : {t : Bytes} → Marked d t → t ≡ c ∷ s → c ≡ d
    by end e = absurd (nil≢cons e)
    by (mark t) e = sym (head-eq_of_cons-eq e)

abbrev pub is : ℕ → ℕ → Bool
is d c = eqb c d

module _ (d : ℕ) where
  -- a text is cut at its first mark
  pub up_to_cut : (u v : Bytes) → every (other d) u ≡ true → Marked d v → up_to (is d) (u ++ v) ≡ u
  unfolding up_to when◌then◌else◌ every
  up_to_cut [] [] h m = refl
  up_to_cut [] (a ∷ v) h (mark t) = rw (eq-eqb d d refl)
  up_to_cut (a ∷ u) v h m = rw (not-true (eqb a d) (and_left (other d a) (every (other d) u) h), up_to_cut u v (and_right (other d a) (every (other d) u) h) m)

  pub from_cut : (u v : Bytes) → every (other d) u ≡ true → Marked d v → from (is d) (u ++ v) ≡ v
  unfolding from when◌then◌else◌ every
  from_cut [] [] h m = refl
  from_cut [] (a ∷ v) h (mark t) = rw (eq-eqb d d refl)
  from_cut (a ∷ u) v h m = rw (not-true (eqb a d) (and_left (other d a) (every (other d) u) h)) (from_cut u v (and_right (other d a) (every (other d) u) h) m)

  -- by a count of the bytes before the mark
  pub cut-mark : (s : Bytes) {n : ℕ} → n ≡ length (up_to (is d) s) → n < length s → from (is d) s ≡ d ∷ drop (suc n) s
  cut-mark s {n} e l =
      from-drop (is d) s ∙ rw (← e) (drop-cons s n 0 l ∙ ap (λ (x : ℕ). x ∷ drop (suc n) s) (eqb-true (get_or s n 0) d (rw (← e) at (up_to_stop (is d) s (rw (← e) l)))))

  pub cut_end : (s : Bytes) {n : ℕ} → n ≡ length (up_to (is d) s) → length s ≤ n → from (is d) s ≡ []
  cut_end s {n} e l = from-drop (is d) s ∙ rw (← e) (drop_of_length-le s l)

  pub cut-take : (s : Bytes) {n : ℕ} → n ≡ length (up_to (is d) s) → up_to (is d) s ≡ take n s
  cut-take s e = rw e (up_to_take (is d) s)

  pub cut-drop : (s : Bytes) {n : ℕ} → n ≡ length (up_to (is d) s) → from (is d) s ≡ drop n s
  cut-drop s e = rw e (from-drop (is d) s)

  -- no mark in it: it is not cut
  pub from_none : (s : Bytes) → every (other d) s ≡ true → from (is d) s ≡ []
  unfolding from when◌then◌else◌ every
  from_none [] h = refl
  from_none (a ∷ s) h = rw (not-true (eqb a d) (and_left (other d a) (every (other d) s) h)) (from_none s (and_right (other d a) (every (other d) s) h))

  pub of_shuns : (g : Grammar ℕ) (s : Bytes) {t : Bytes} → d < 128 → shuns d g ≡ true → from (is d) s ≡ d ∷ t → of g s ≡ false
  of_shuns g s l q e = same_test (of g s) false (λ h. absurd (nil≢cons (sym (from_none s (in_shuns d l q (of_in g s h))) ∙ e))) (λ h. absurd (false≢true h))

  -- what no mark stands in, and then what begins with one
  pub of_cut : (g h : Grammar ℕ) → d < 128 → shuns d g ≡ true → ((t : Bytes) → In h t → Marked d t)
      → (s : Bytes) → of (g then h) s ≡ (of g (up_to (is d) s) && of h (from (is d) s))
  of_cut g h l q m s =
      same_test (of (g then h) s) (of g (up_to (is d) s) && of h (from (is d) s))
      (λ e.
      let p = in_then (of_in (g then h) s e) in
      let n = in_shuns d l q p.3 in
      rw (p.2, up_to_cut p.0 p.1 n (m p.1 p.4), from_cut p.0 p.1 n (m p.1 p.4)) (and_both (of g p.0) (of h p.1) (in_of p.3) (in_of p.4)))
      (λ e.
      let j : In (g then h) (up_to (is d) s ++ from (is d) s) = then_in (of_in g _ (and_left (of g (up_to (is d) s)) (of h (from (is d) s)) e)) (of_in h _ (and_right (of g (up_to (is d) s)) (of h (from (is d) s)) e)) in
      in_of (rw (up_to_from_lem (is d) s) at j))

-- ---- a mark: a word of one character, which is no letter

module _ (d : ℕ) (ok : is_mark d ≡ true) where
  pub mark_low : d < 128
  unfolding is_mark
  mark_low = ltb-true d 128 (and_left (ltb d 128) _ ok)

  pub mark-lower : eqb (lower d) d ≡ true
  unfolding is_mark lower when◌then◌else◌ between byte
  mark-lower = rw (not-true (between 65 90 d) (and_left _ _ (and_right (ltb d 128) _ ok))) (eq-eqb d d refl)

  pub lower-mark : (c : ℕ) → eqb (lower c) d ≡ true → c ≡ d
  unfolding is_mark lower when◌then◌else◌ between byte
  lower-mark c h = by (between 65 90 c) refl h
    where
      by : (t : Bool) → between 65 90 c ≡ t → eqb (when t then 32 + c else c) d ≡ true → c ≡ d
      by false e h = eqb-true c d h
      by true e h = absurd (
          let k : 32 + c ≡ d = eqb-true (32 + c) d h in
          let lo : 65 ≤ c = leb-true 65 c (and_left (leb 65 c) (leb c 90) e) in
          let hi : c ≤ 90 = leb-true c 90 (and_right (leb 65 c) (leb c 90) e) in
          let no : between 97 122 d ≡ false = not-true (between 97 122 d) (and_right (not (between 65 90 d)) (not (between 97 122 d)) (and_right (ltb d 128) _ ok)) in
          let yes : between 97 122 d ≡ true = and_both (leb 97 d) (leb d 122) (le-leb 97 d (omega arith)) (le-leb d 122 (omega arith)) in
          false≢true (sym no ∙ yes))

  pub letters-mark : (cs : List ℕ) → Describes (letters (d ∷ [])) cs → cs ≡ d ∷ []
  unfolding letters
  letters-mark cs x = x.2 ∙ rw (x.3.1, lower-mark x.3.0 x.3.2, x.4)

  pub mark-letters : In (letters (d ∷ [])) (d ∷ [])
  unfolding letters
  mark-letters = record { text = d ∷ []; reads = front_reads d mark_low done; describes = (d ∷ [], [], refl, (d, refl, mark-lower), refl) }

  pub in_letters : {s : Bytes} → In (letters (d ∷ [])) s → s ≡ d ∷ []
  unfolding every
  in_letters i = let e = letters-mark i.text i.describes in reads_low i.reads (rw (e, lt-ltb d 128 mark_low)) ∙ e

  pub in_mark : {h : Grammar ℕ} {s : Bytes} → In (letters (d ∷ []) then h) s → (t : Bytes) × (s ≡ d ∷ t) × In h t
  in_mark i = let p = in_then i in (p.1, p.2 ∙ rw (in_letters p.3), p.4)

  pub mark_in : {h : Grammar ℕ} {s : Bytes} → In h s → In (letters (d ∷ []) then h) (d ∷ s)
  mark_in i = then_in mark-letters i

  -- what begins with a mark
  pub mark-marked : {h : Grammar ℕ} (s : Bytes) → In (letters (d ∷ []) then h) s → Marked d s
  mark-marked s i = let p = in_mark i in rw p.1 (mark p.0)

  pub optional-marked : (h : Grammar ℕ) (s : Bytes) → In (optional (letters (d ∷ []) then h)) s → Marked d s
  unfolding optional
  optional-marked h s i = elim (in_or i) [ inl x ↦ rw (in_empty x) end | inr y ↦ mark-marked s y ]

  pub many-marked : {h : Grammar ℕ} (s : Bytes) → In (many (letters (d ∷ []) then h)) s → Marked d s
  many-marked {h} s i = by i.text i.reads i.describes
    where
      by : (cs : List ℕ) → Reads s cs → Many (Describes (letters (d ∷ []) then h)) cs → Marked d s
      by cs r (stop e) = rw (reads_none r e) end
      by cs r (more u v e x y) =
          let q : cs ≡ d ∷ (x.1 ++ v) = e ∙ ap (λ (z : List ℕ). z ++ v) x.2 ∙ rw (letters-mark x.0 x.3) in
          let p = reads_front mark_low (rw q at r) in
          rw p.1 (mark p.0)

  -- a part that a mark begins, or nothing
  pub of_optional_none : (h : Grammar ℕ) → of (optional (letters (d ∷ []) then h)) [] ≡ true
  unfolding optional
  of_optional_none h = of_nil _

  pub of_mark : (h : Grammar ℕ) (s : Bytes) → of (letters (d ∷ []) then h) (d ∷ s) ≡ of h s
  of_mark h s = of_same (λ i. let p = in_mark i in rw (← tail-eq_of_cons-eq p.1) at p.2) mark_in

  pub of_optional-some : (h : Grammar ℕ) (s : Bytes) → of (optional (letters (d ∷ []) then h)) (d ∷ s) ≡ of h s
  unfolding optional
  of_optional-some h s = of_or empty _ (d ∷ s) ∙ rw (of_after empty d s mark_low, of_nothing s) (of_mark h s)

-- two marks in front
module _ (c d : ℕ) (okc : is_mark c ≡ true) (okd : is_mark d ≡ true) where
  pub in_marks : {h : Grammar ℕ} {s : Bytes} → In (letters (c ∷ d ∷ []) then h) s → (t : Bytes) × (s ≡ c ∷ d ∷ t) × In h t
  unfolding letters
  in_marks i =
      let p = in_one (λ x. eqb (lower x) c) (λ x e. rw (lower-mark c okc x e) (mark_low c okc)) (in_assoc i) in
      let q = in_mark d okd p.4 in
      (q.0, p.2 ∙ ap (λ (x : ℕ). x ∷ p.1) (lower-mark c okc p.0 p.3) ∙ ap (◌∷◌ c) q.1, q.2)

  pub marks_in : {h : Grammar ℕ} {s : Bytes} → In h s → In (letters (c ∷ d ∷ []) then h) (c ∷ d ∷ s)
  unfolding letters
  marks_in i = assoc_in (one_in (λ x. eqb (lower x) c) (λ x e. rw (lower-mark c okc x e) (mark_low c okc)) c (mark-lower c okc) (mark_in d okd i))
