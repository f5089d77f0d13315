-- The paths of RFC 3987 are rows of characters of segments and "/", told apart by how they begin.
use mathlib.Core.Path.{◌≡◌, refl, sym, ap, ◌∙◌}
use mathlib.Core.Logic.{inl, inr}
use mathlib.Core.Bool.{true, false, ◌&&◌, ◌||◌, false≢true, or-false}
use mathlib.Core.List.{List, [], ◌∷◌, ◌++◌, append_assoc, nil≢cons, cons≢nil, head-eq_of_cons-eq}
use Prim.Native.Nat.{ℕ}
use native.Mathlib.Omega.{arith}
use lib.Dec.{eqb}
use borrow.Author.Tests.{eq-eqb, ne_eqb, eqb-true}
use Rattle.spec.specs.Bytes.{Bytes, up_to, from, every}
use Rattle.spec.specs.Bytes as B
use Rattle.spec.specs.Grammar.{Grammar, empty, ◌or◌, ◌then◌, many, Many, stop, more, Describes}
use Rattle.spec.specs.Abnf.{optional, word, letters}
use Rattle.spec.specs.Rfc3987.{ihier_part, irelative_part, iauthority, ipchar, isegment, isegment_nz, isegment_nz_nc, ipath_abempty, ipath_absolute, ipath_noscheme, iunreserved, pct_encoded, sub_delims}
use Rattle.spec.specs.Rfc3987 as R
use Rattle.spec.proofs.Booleans.{and_left, and_right, and_both, or_cases}
use Rattle.iri.specs.Parts.{of}
use Rattle.iri.proofs.Characters.{up_to_from_lem, Reads, reads_front, reads-every}
use Rattle.iri.specs.Forms.{is_mark, pathchar, other, colonless}
use Rattle.iri.proofs.Languages.{In, same_test, of_in, in_of, of_same, in_then, then_in, in_or, left_in_lem, right_in, in_empty, of_nil, of_after, reads_none, shuns, in_shuns, is, every-left, every_right, of_or, in_mark, in_marks, letters-mark, up_to_cut, from_cut, Marked, marked-head, many-marked}

-- ---- rows

many-append : {P : List ℕ → Type 0} {u : List ℕ} (v : List ℕ) → Many P u → Many P v → Many P (u ++ v)
many-append v (stop e) y = rw e y
many-append v (more a b e x z) y = more a (b ++ v) (ap (λ (w : List ℕ). w ++ v) e ∙ append_assoc a b v) x (many-append v z y)

many-map : {P Q : List ℕ → Type 0} {u : List ℕ} → ((v : List ℕ) → P v → Q v) → Many P u → Many Q u
many-map f (stop e) = stop e
many-map f (more a b e x z) = more a b e (f a x) (many-map f z)

module _ where
  segment_row : {cs : List ℕ} → Describes (many ipchar) cs → Describes (many pathchar) cs
  segment_row x = many-map (λ v y. inl y) x

  abempty_row : {cs : List ℕ} → Many (Describes (word "/" then isegment)) cs → Describes (many pathchar) cs
  unfolding isegment
  abempty_row (stop e) = stop e
  abempty_row (more u v e x y) = rw e (many-append v (more x.0 x.1 x.2 (inr x.3) (segment_row x.4)) (abempty_row y))

  segments_row : (cs : List ℕ) → Describes (isegment_nz then ipath_abempty) cs → Describes (many pathchar) cs
  unfolding R.all
  segments_row cs x =
      rw x.2 (many-append x.1 (more x.3.0 x.3.1 x.3.2 (inl x.3.3) (segment_row x.3.4)) (abempty_row x.4))

  -- a row is a segment, and then segments behind "/"
  row_segments : {cs : List ℕ} → Many (Describes pathchar) cs → Describes (isegment then ipath_abempty) cs
  unfolding R.all
  row_segments (stop e) = ([], [], e, stop refl, stop refl)
  row_segments (more u v e (inl x) y) =
      let p = row_segments y in
      (u ++ p.0, p.1, e ∙ ap (◌++◌ u) p.2 ∙ sym (append_assoc u p.0 p.1), more u p.0 refl x p.3, p.4)
  row_segments (more u v e (inr x) y) =
      let p = row_segments y in
      ([], u ++ v, e, stop refl, more (u ++ p.0) p.1 (ap (◌++◌ u) p.2 ∙ sym (append_assoc u p.0 p.1)) (u, p.0, refl, x, p.3) p.4)

  -- and where it does not begin with "/", the segment is not empty
  row_first : (c : ℕ) (cs : List ℕ) → (c ≡ 47 → ⊥) → Describes (many pathchar) (c ∷ cs) → Describes (isegment_nz then ipath_abempty) (c ∷ cs)
  unfolding is_mark R.all
  row_first c cs n x = by (c ∷ cs) refl x
    where
      by : (ds : List ℕ) → ds ≡ c ∷ cs → Many (Describes pathchar) ds → Describes (isegment_nz then ipath_abempty) ds
      by ds q (stop e) = absurd (nil≢cons (sym e ∙ q))
      by ds q (more u v e (inl x) y) =
          let p = row_segments y in
          (u ++ p.0, p.1, e ∙ ap (◌++◌ u) p.2 ∙ sym (append_assoc u p.0 p.1), (u, p.0, refl, x, p.3), p.4)
      by ds q (more u v e (inr x) y) =
          absurd (n (head-eq_of_cons-eq (sym q ∙ e ∙ ap (λ (w : List ℕ). w ++ v) (letters-mark 47 refl u x))))

-- ---- the same of bytes

row_slash : (s : Bytes) → of (many pathchar) (47 ∷ s) ≡ of (many pathchar) s
unfolding R.all
row_slash s = of_after (many pathchar) 47 s (omega arith)

in_first : {c : ℕ} {s : Bytes} → (c ≡ 47 → ⊥) → In (many pathchar) (c ∷ s) → In (isegment_nz then ipath_abempty) (c ∷ s)
in_first {c} {s} n i = by i.text i.reads i.describes
  where
    by : (cs : List ℕ) → Reads (c ∷ s) cs → Describes (many pathchar) cs → In (isegment_nz then ipath_abempty) (c ∷ s)
    by [] r x = absurd (cons≢nil (reads_none r refl))
    by (d ∷ cs) r x = record { text = d ∷ cs; reads = r; describes = row_first d cs (λ e. n (head-eq_of_cons-eq (reads_front (omega arith) (rw e at r)).1)) x }

first_in_lem : {s : Bytes} → In (isegment_nz then ipath_abempty) s → In (many pathchar) s
first_in_lem i = record { text = i.text; reads = i.reads; describes = segments_row i.text i.describes }

segments_in : {s : Bytes} → In (many pathchar) s → In (isegment then ipath_abempty) s
segments_in i = record { text = i.text; reads = i.reads; describes = row_segments i.describes }

-- ---- behind an authority

pub abempty_path : (s : Bytes) → Marked 47 s → of ipath_abempty s ≡ of (many pathchar) s
unfolding shuns every R.all
abempty_path s m =
    of_same {g = ipath_abempty} {h = many pathchar} {s = s} {t = s}
    (λ i. record { text = i.text; reads = i.reads; describes = abempty_row i.describes })
    (λ i. let p = in_then (segments_in i) in by p.0 p.2 (in_shuns 47 (omega arith) refl p.3) p.4)
  where
    by : (u : Bytes) {v : Bytes} → s ≡ u ++ v → every (other 47) u ≡ true → In ipath_abempty v → In ipath_abempty s
    by [] e h j = rw e j
    by (a ∷ u) {v} e h j =
        let q : a ≡ 47 = marked-head (rw e at m) in
        absurd (false≢true (sym (rw (eq-eqb a 47 q)) ∙ and_left (other 47 a) (every (other 47) u) h))

-- ---- without an authority

-- a text does not begin with "/"
abbrev pub Unslashed : Bytes → Type 0
Unslashed s = (t : Bytes) → s ≡ 47 ∷ t → ⊥

no_slash : (h : Grammar ℕ) (s : Bytes) → Unslashed s → of (letters (47 ∷ []) then h) s ≡ false
unfolding is_mark B.between
no_slash h s n = same_test (of (letters (47 ∷ []) then h) s) false (λ e. let p = in_mark 47 refl (of_in _ s e) in absurd (n p.0 p.1)) (λ e. absurd (false≢true e))

optional_path : (s : Bytes) → Unslashed s → of (optional (isegment_nz then ipath_abempty)) s ≡ of (many pathchar) s
unfolding optional
optional_path [] n = of_nil (empty or (isegment_nz then ipath_abempty)) ∙ sym (of_nil (many pathchar))
optional_path (c ∷ s) n =
    of_same {g = empty or (isegment_nz then ipath_abempty)} {h = many pathchar} {s = c ∷ s} {t = c ∷ s}
    (λ i. elim (in_or i) [ inl x ↦ absurd (cons≢nil (in_empty x)) | inr y ↦ first_in_lem y ])
    (λ i. right_in {g = empty} (in_first (λ e. n s (rw e)) i))

pub hier_slash : (s : Bytes) → Unslashed s → of ihier_part (47 ∷ s) ≡ of (many pathchar) (47 ∷ s)
unfolding R.all
hier_slash s n =
    of_after ihier_part 47 s (omega arith) ∙ of_or (letters (47 ∷ []) then (iauthority then ipath_abempty)) (optional (isegment_nz then ipath_abempty)) s
    ∙ rw (no_slash (iauthority then ipath_abempty) s n) (optional_path s n ∙ sym (row_slash s))

pub relative_slash : (s : Bytes) → Unslashed s → of irelative_part (47 ∷ s) ≡ of (many pathchar) (47 ∷ s)
unfolding R.all
relative_slash s n =
    of_after irelative_part 47 s (omega arith) ∙ of_or (letters (47 ∷ []) then (iauthority then ipath_abempty)) (optional (isegment_nz then ipath_abempty)) s
    ∙ rw (no_slash (iauthority then ipath_abempty) s n) (optional_path s n ∙ sym (row_slash s))

slash_head : {h : Grammar ℕ} {c : ℕ} {s : Bytes} → In (letters (47 ∷ 47 ∷ []) then h) (c ∷ s) → c ≡ 47
unfolding is_mark B.between
slash_head i = head-eq_of_cons-eq (in_marks 47 47 refl refl i).1

pub hier_plain : (c : ℕ) (s : Bytes) → (c ≡ 47 → ⊥) → of ihier_part (c ∷ s) ≡ of (many pathchar) (c ∷ s)
unfolding is_mark R.all
hier_plain c s n =
    of_same {g = ihier_part} {h = many pathchar} {s = c ∷ s} {t = c ∷ s}
    (λ i. elim (in_or i) [
      | inl x ↦ absurd (n (slash_head x))
      | inr y ↦ (elim (in_or y) [
        | inl x ↦ absurd (n (head-eq_of_cons-eq (in_mark 47 refl x).1))
        | inr z ↦ (elim (in_or z) [ inl x ↦ first_in_lem x | inr w ↦ absurd (cons≢nil (in_empty w)) ])
      ])
    ])
    (λ i. right_in {g = word "//" then (iauthority then ipath_abempty)} (right_in {g = ipath_absolute} (left_in_lem {h = empty} (in_first n i))))

pub hier_nil : of ihier_part [] ≡ of (many pathchar) []
unfolding R.all
hier_nil = of_nil ihier_part ∙ sym (of_nil (many pathchar))

pub relative_nil : of irelative_part [] ≡ of (many pathchar) []
unfolding R.all
relative_nil = of_nil irelative_part ∙ sym (of_nil (many pathchar))

-- ---- a first segment without ":"

-- a character of such a segment
abbrev no_colon : Grammar ℕ
no_colon = iunreserved or (pct_encoded or (sub_delims or word "@"))

colonless_char : (u : List ℕ) → Describes no_colon u → Describes ipchar u
unfolding is_mark R.all
colonless_char u (inl x) = inl x
colonless_char u (inr (inl x)) = inr (inl x)
colonless_char u (inr (inr (inl x))) = inr (inr (inl x))
colonless_char u (inr (inr (inr x))) = inr (inr (inr (64, letters-mark 64 refl u x, refl)))

char_colonless : (u : List ℕ) → every (other 58) u ≡ true → Describes ipchar u → Describes no_colon u
unfolding every is_mark R.all
char_colonless u h (inl x) = inl x
char_colonless u h (inr (inl x)) = inr (inl x)
char_colonless u h (inr (inr (inl x))) = inr (inr (inl x))
char_colonless u h (inr (inr (inr x))) =
    elim (or_cases (eqb 58 x.0) (eqb 64 x.0 || false) x.2) [
      | inl e ↦
          (let k : every (other 58) (x.0 ∷ []) ≡ true = rw x.1 at h in
          absurd (false≢true (rw (← eqb-true 58 x.0 e) at k)))
      | inr e ↦
          (let k : 64 ≡ x.0 = eqb-true 64 x.0 (sym (or-false (eqb 64 x.0)) ∙ e) in
          inr (inr (inr (64 ∷ [], [], x.1 ∙ rw (← k), (64, refl, refl), refl))))
    ]

row-colonless : {u : List ℕ} → every (other 58) u ≡ true → Many (Describes ipchar) u → Many (Describes no_colon) u
row-colonless h (stop e) = stop e
row-colonless h (more a b e x y) =
    let k = rw e at h in
    more a b e (char_colonless a (every-left (other 58) a b k) x) (row-colonless (every_right (other 58) a b k) y)

segment_colonless : {s : Bytes} → every (other 58) s ≡ true → In isegment_nz s → In isegment_nz_nc s
unfolding R.all
segment_colonless {s} h i =
    let x = i.describes in
    let k : every (other 58) (x.0 ++ x.1) ≡ true = rw x.2 at (sym (reads-every (other 58) (λ y m. rw (ne_eqb y 58 (λ e. omega arith))) i.reads) ∙ h) in
    record { text = i.text; reads = i.reads; describes = (x.0, x.1, x.2, char_colonless x.0 (every-left (other 58) x.0 x.1 k) x.3, row-colonless (every_right (other 58) x.0 x.1 k) x.4) }

colonless_segment : {s : Bytes} → In isegment_nz_nc s → In isegment_nz s
unfolding R.all
colonless_segment i =
    let x = i.describes in
    record { text = i.text; reads = i.reads; describes = (x.0, x.1, x.2, colonless_char x.0 x.3, many-map colonless_char x.4) }

-- the first segment is what stands before the first "/"
first_segment_lem : (g : Grammar ℕ) (s : Bytes) → shuns 47 g ≡ true → In (g then ipath_abempty) s → In g (up_to (is 47) s) × In ipath_abempty (from (is 47) s)
unfolding is_mark R.all
first_segment_lem g s q i =
    let p = in_then i in
    let n = in_shuns 47 (omega arith) q p.3 in
    let m = many-marked 47 refl p.1 p.4 in
    (rw (p.2, up_to_cut 47 p.0 p.1 n m) p.3, rw (p.2, from_cut 47 p.0 p.1 n m) p.4)

pub relative_plain : (c : ℕ) (s : Bytes) → (c ≡ 47 → ⊥) → of irelative_part (c ∷ s) ≡ (of (many pathchar) (c ∷ s) && colonless (c ∷ s))
unfolding shuns is_mark colonless R.all
relative_plain c s n =
    same_test (of irelative_part (c ∷ s)) (of (many pathchar) (c ∷ s) && colonless (c ∷ s))
    (λ e. elim (in_or (of_in irelative_part (c ∷ s) e)) [
      | inl x ↦ absurd (n (slash_head x))
      | inr y ↦ (elim (in_or y) [
        | inl x ↦ absurd (n (head-eq_of_cons-eq (in_mark 47 refl x).1))
        | inr z ↦ (elim (in_or z) [ inl x ↦ to x | inr w ↦ absurd (cons≢nil (in_empty w)) ])
      ])
    ])
    (λ e. back (and_left (of (many pathchar) (c ∷ s)) (colonless (c ∷ s)) e) (and_right (of (many pathchar) (c ∷ s)) (colonless (c ∷ s)) e))
  where
    to : In ipath_noscheme (c ∷ s) → (of (many pathchar) (c ∷ s) && colonless (c ∷ s)) ≡ true
    to i =
        let p = first_segment_lem isegment_nz_nc (c ∷ s) refl i in
        let j = then_in (colonless_segment p.0) p.1 in
        and_both (of (many pathchar) (c ∷ s)) (colonless (c ∷ s)) (in_of (first_in_lem (rw up_to_from_lem at j))) (in_shuns 58 (omega arith) refl p.0)

    back : of (many pathchar) (c ∷ s) ≡ true → colonless (c ∷ s) ≡ true → of irelative_part (c ∷ s) ≡ true
    back e h =
        let p = first_segment_lem isegment_nz (c ∷ s) refl (in_first n (of_in (many pathchar) (c ∷ s) e)) in
        let j = then_in (segment_colonless h p.0) p.1 in
        let k : In ipath_noscheme (c ∷ s) = rw up_to_from_lem at j in
        in_of (right_in {g = word "//" then (iauthority then ipath_abempty)} (right_in {g = ipath_absolute} (left_in_lem {h = empty} k)))
