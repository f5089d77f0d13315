-- Demand 3: lists can be read back.
use Rattle.std.specs.Prelude.{◌≡◌, ◌⊎◌, Bool, true, false, ℕ, suc, ◌+◌, ◌≤◌, ◌<◌}
use Rattle.std.proofs.Math.Path.{refl, subst}
use Rattle.std.proofs.Common.{sym, ◌∙◌, ap, inl, inr, true≢false, arith}
use Rattle.std.proofs.Math.Option.{Option}
use mathlib.Core.List.{List, [], ◌∷◌, ◌++◌, reverse_aux, reverse, append_assoc}
use Rattle.std.proofs.Math.ListN.{length}
use borrow.Author.Tests.{leb-true}
use Rattle.spec.specs.Bytes.{Bytes, when◌then◌else◌}
use Rattle.spec.specs.XmlLang.{written, Language, Own, unsaid, cleared, given}
use Rattle.spec.specs.Numbers.{Answer, good}
use Rattle.spec.specs.Pyx.{Event, closing}
use Rattle.spec.specs.NTriples.{Subject, named, blank, Term, node, Triple, triple, label}
use Rattle.spec.specs.Rdf.{rdf}
use Rattle.spec.specs.Limits.{most_labels}
use Rattle.spec.specs.declared.Mode.{Mode}
use Rattle.spec.specs.Document.{Object, no_object, node_object, text_object, Value, default, collection, literal, other, Property, Kind, rdf_rdf, wrapper, node_element, property_element, xml_element, Frame, Doc, fresh, with_frames, with_labels}
use Rattle.spec.specs.StartTag.{is_generated}
use Rattle.spec.specs.Productions.{statement}
use Rattle.spec.specs.Opening.{Step}
use Rattle.spec.specs.EndTag.{cells, head_cell}
use Rattle.spec.specs.EndTag as C
use Rattle.spec.specs.RdfXml.{next}
use Rattle.spec.specs.RdfXml as X
use Rattle.theorems.specs.Always.{Always, always_bind, always_require}
use Rattle.spec.specs.Lists.{same_subject, lines_of, After, here, event, Cell, Reads}
use Rattle.spec.proofs.Bytes.{same_refl, same_false}
use Rattle.theorems.specs.Labels.{label_inj, label_generated}
use Rattle.theorems.specs.Subjects.{Rule, OfOwn, OfChildren, OfObject, OfValue, OfKind, OfFrames, OfLines, no_line, with_line, lines-append, Outcome, step, statement-lines, cell-lines}

-- ---- subjects that are not a given label

abbrev pub Not : ℕ → Subject → Type 0
Not k s = same_subject (blank (label k)) s ≡ false

not_named : (k : ℕ) (i : Bytes) → Not k (named i)
unfolding same_subject
not_named k i = refl

not_other : (k : ℕ) (l : Bytes) → is_generated l ≡ false → Not k (blank l)
unfolding same_subject
not_other k l h = same_false (label k) l λ e. true≢false (sym (label_generated k) ∙ (ap is_generated e ∙ h))

not_label : (k m : ℕ) → k < 100_000_000 → m < 100_000_000 → (k ≡ m → ⊥) → Not k (blank (label m))
unfolding same_subject
not_label k m p q f = same_false (label k) (label m) λ e. f (label_inj k m p q e)

-- ---- subjects known when n labels have been generated

abbrev pub Known : ℕ → Subject → Type 0
Known n (named i) = Unit {0}
Known n (blank l) = (is_generated l ≡ false) ⊎ ((k : ℕ) × (k ≤ n) × (l ≡ label k))

pub known_not : (n k : ℕ) (s : Subject) → n < k → k < 100_000_000 → Known n s → Not k s
known_not n k (named i) p q h = not_named k i
known_not n k (blank l) p q (inl g) = not_other k l g
known_not n k (blank l) p q (inr h) =
    let le : h.0 ≤ n = h.1 in
    rw h.2 (not_label k h.0 q (omega arith) λ z. omega arith)

pub known_more : (n n' : ℕ) (s : Subject) → n ≤ n' → Known n s → Known n' s
known_more n n' (named i) p h = tt
known_more n n' (blank l) p (inl g) = inl g
known_more n n' (blank l) p (inr h) = let le : h.0 ≤ n = h.1 in inr (h.0, omega arith, h.2)

-- ---- rules for subjects alone

abbrev only : (P : Subject → Type 0) → ((i : Bytes) → P (named i)) → ((l : Bytes) → is_generated l ≡ false → P (blank l)) → Rule
only P name' other' = record {
  subj = P;
  obj = λ o. Unit {0};
  lang = λ l. Unit {0};
  name = name';
  other_label = λ l h g k. other' l g;
  node_of = λ s h. tt;
  plain_of = λ v. tt;
  typed_of = λ v d. tt;
  tagged_of = λ v l h. tt;
  tag_of_lem = λ v h. tt;
}

abbrev NotRule : ℕ → Rule
NotRule k = only (Not k) (not_named k) (not_other k)

abbrev KnownRule : ℕ → Rule
KnownRule n = only (Known n) (λ i. tt) (λ l g. inl g)

abbrev AnyRule : Rule
AnyRule = only (λ s. Unit {0}) (λ i. tt) (λ l g. tt)

-- ---- from one rule to another

module _ (R S : Rule) (f : (s : Subject) → R.subj s → S.subj s) (g : (o : Term) → R.obj o → S.obj o) (h : (l : Bytes) → R.lang l → S.lang l) where
  children-map : (cs : List Subject) → OfChildren R cs → OfChildren S cs
  children-map [] c = tt
  children-map (x ∷ cs) c = (g (node x) c.0, children-map cs c.1)

  object-map : (o : Object) → OfObject R o → OfObject S o
  object-map no_object c = tt
  object-map (node_object s) c = g (node s) c
  object-map (text_object t) c = tt

  value-map : (v : Value) → OfValue R v → OfValue S v
  value-map (default d o) c = object-map o c
  value-map (collection cs) c = children-map cs c
  value-map (literal x) c = tt
  value-map other c = tt

  language-map : (o : Own) → OfOwn R.lang o → OfOwn S.lang o
  language-map unsaid c = tt
  language-map cleared c = tt
  language-map (given t) c = h (written t) c

  kind-map : (k : Kind) → OfKind R k → OfKind S k
  kind-map rdf_rdf c = tt
  kind-map (wrapper b) c = tt
  kind-map (node_element s li) c = f s c
  kind-map (property_element p v) c = (f p.subject c.0, value-map v c.1)
  kind-map xml_element c = tt

  frames_map : (fs : List Frame) → OfFrames R fs → OfFrames S fs
  frames_map [] c = tt
  frames_map (x ∷ fs) c = (kind-map x.kind c.0, language-map x.own_tag c.1, frames_map fs c.2)

  lines-map : {ts : List Triple} → OfLines R ts → OfLines S ts
  lines-map no_line = no_line
  lines-map (with_line {s = s} {o = o} a b t) = with_line (f s a) (g o b) (lines-map t)

-- ---- what is kept by accepted events

trivial_children : (cs : List Subject) → OfChildren AnyRule cs
trivial_children [] = tt
trivial_children (c ∷ cs) = (tt, trivial_children cs)

trivial_own : (o : Own) → OfOwn (λ t. Unit {0}) o
trivial_own unsaid = tt
trivial_own cleared = tt
trivial_own (given t) = tt

trivial_object : (o : Object) → OfObject AnyRule o
trivial_object no_object = tt
trivial_object (node_object s) = tt
trivial_object (text_object t) = tt

trivial_value : (v : Value) → OfValue AnyRule v
trivial_value (default d o) = trivial_object o
trivial_value (collection cs) = trivial_children cs
trivial_value (literal x) = tt
trivial_value other = tt

trivial_kind : (k : Kind) → OfKind AnyRule k
trivial_kind rdf_rdf = tt
trivial_kind (wrapper b) = tt
trivial_kind (node_element s li) = tt
trivial_kind (property_element p v) = (tt, trivial_value v)
trivial_kind xml_element = tt

trivial_frames : (fs : List Frame) → OfFrames AnyRule fs
trivial_frames [] = tt
trivial_frames (f ∷ fs) = (trivial_kind f.kind, trivial_own f.own_tag, trivial_frames fs)

-- a rule for each number of labels from lo on, which goes up with it, and which new labels obey
pub record Family : Type 1 where
  pub lo : ℕ
  pub at : ℕ → Rule
  pub up_subj : (n n' : ℕ) → n ≤ n' → (s : Subject) → (at n).subj s → (at n').subj s
  pub up_obj : (n n' : ℕ) → n ≤ n' → (o : Term) → (at n).obj o → (at n').obj o
  pub up_lang : (n n' : ℕ) → n ≤ n' → (l : Bytes) → (at n).lang l → (at n').lang l
  pub fresh : (n n' : ℕ) → lo ≤ n → n' < 100_000_000 → (k : ℕ) → n < k → k ≤ n' → (at n').subj (blank (label k))

module _ (F : Family) where
  pub record Kept (d₀ d : Doc) (ts : List Triple) : Type 0 where
    pub grows : d₀.labels ≤ d.labels
    pub bound : d.labels < 100_000_000
    pub frames : OfFrames (F.at d.labels) d.frames
    pub lines : OfLines (F.at d.labels) ts

  kept_step : (d₀ d d' : Doc) (ts us : List Triple) (e : Event) → F.lo ≤ d₀.labels → Kept d₀ d ts → next e d ≡ good (us, d') → Kept d₀ d' (ts ++ us)
  kept_step d₀ d d' ts us e lo h q =
      let n : ℕ = d.labels in
      let n' : ℕ = d'.labels in
      let out : (R : Rule) → OfFrames R d.frames → Outcome R n (us, d') =
      λ R g. subst (λ (a : Answer Step). Always (Outcome R n) a) q (step R e d g h.bound) in
      let up : n ≤ n' = (out AnyRule (trivial_frames d.frames)).0 in
      let le : n' < 100_000_000 = (out AnyRule (trivial_frames d.frames)).1 in
      let first : d₀.labels ≤ n = h.grows in
      let o : OfFrames (F.at n') d'.frames × OfLines (F.at n') us =
      (out (F.at n') (frames_map (F.at n) (F.at n') (F.up_subj n n' up) (F.up_obj n n' up) (F.up_lang n n' up) d.frames h.frames)).2
      (F.fresh n n' (omega arith) le) in
      record {
        grows = omega arith;
        bound = le;
        frames = o.0;
        lines = lines-append (F.at n') (lines-map (F.at n) (F.at n') (F.up_subj n n' up) (F.up_obj n n' up) (F.up_lang n n' up) h.lines) o.1;
      }

  pub kept : (d₀ d : Doc) (ts : List Triple) → F.lo ≤ d₀.labels → d₀.labels < 100_000_000 → OfFrames (F.at d₀.labels) d₀.frames → After d₀ d ts → Kept d₀ d ts
  kept d₀ d ts lo le h here = record { grows = omega arith; bound = le; frames = h; lines = no_line }
  kept d₀ d ts lo le h (event {d = d₁} {ts = ts₁} before e d' us q) = kept_step d₀ d₁ d' ts₁ us e lo (kept d₀ d₁ ts₁ lo le h before) q

-- every subject is known
known : Family
known = record {
  lo = 0;
  at = KnownRule;
  up_subj = λ n n' up s h. known_more n n' s up h;
  up_obj = λ n n' up o h. tt;
  up_lang = λ n n' up l h. tt;
  fresh = λ n n' lo le k p q. inr (k, q, refl);
}

-- a label that is no open element's subject is never a subject again
never : ℕ → Family
never k = record {
  lo = k;
  at = λ n. NotRule k;
  up_subj = λ n n' up s h. h;
  up_obj = λ n n' up o h. h;
  up_lang = λ n n' up l h. h;
  fresh = λ n n' lo le m p q. not_label k m (omega arith) (omega arith) λ z. omega arith;
}

-- ---- the lines of a subject

lines_none : (k : ℕ) {ts : List Triple} → OfLines (NotRule k) ts → lines_of (blank (label k)) ts ≡ []
unfolding lines_of when◌then◌else◌
lines_none k no_line = refl
lines_none k (with_line h g t) = rw h (lines_none k t)

lines_split : (x : Subject) (ts us : List Triple) → lines_of x (ts ++ us) ≡ lines_of x ts ++ lines_of x us
unfolding lines_of when◌then◌else◌
lines_split x [] us = refl
lines_split x (triple s p o ∷ ts) us = go (same_subject x s) (lines_split x ts us)
  where
    go : (b : Bool) → lines_of x (ts ++ us) ≡ lines_of x ts ++ lines_of x us
        → (when b then (triple s p o ∷ lines_of x (ts ++ us)) else lines_of x (ts ++ us)) ≡ (when b then (triple s p o ∷ lines_of x ts) else lines_of x ts) ++ lines_of x us
    go true e = rw e
    go false e = e

-- ---- the cells of a list

pub same_self : (k : ℕ) → same_subject (blank (label k)) (blank (label k)) ≡ true
unfolding same_subject
same_self k = same_refl (label k)

two-lines : (k : ℕ) (p₁ p₂ : Bytes) (o₁ o₂ : Term) (ts : List Triple) → OfLines (NotRule k) ts
    → lines_of (blank (label k)) (triple (blank (label k)) p₁ o₁ ∷ triple (blank (label k)) p₂ o₂ ∷ ts)
    ≡ triple (blank (label k)) p₁ o₁ ∷ triple (blank (label k)) p₂ o₂ ∷ []
unfolding lines_of when◌then◌else◌
two-lines k p₁ p₂ o₁ o₂ ts h = simp (same_self k, lines_none k h)

abbrev Clear : ℕ → ℕ → List Triple → Type 0
Clear lo hi ts = (k : ℕ) → lo < k → k ≤ hi → OfLines (NotRule k) ts

reads-cells : (lo hi n : ℕ) (rest : Subject) (cs rs : List Subject) (A B : List Triple) → lo ≤ n → n + length cs ≤ hi → n + length cs < 100_000_000
    → Clear n (n + length cs) A → Clear n (n + length cs) B
    → Reads lo hi (A ++ (cells n rest cs ++ B)) rest rs → Reads lo hi (A ++ (cells n rest cs ++ B)) (head_cell n rest cs) (reverse_aux cs rs)
unfolding cells head_cell
reads-cells lo hi n rest [] rs A B low high le a b h = h
reads-cells lo hi n rest (c ∷ cs) rs A B low high le a b h =
    let x : Subject = blank (label (suc n)) in
    let t₁ : Triple = triple x (rdf "first") (node c) in
    let t₂ : Triple = triple x (rdf "rest") (node rest) in
    let more : List Triple = cells (suc n) x cs in
    let clear : OfLines (NotRule (suc n)) (more ++ B) =
    lines-append (NotRule (suc n))
    (cell-lines (NotRule (suc n)) (suc n) x cs (λ k p q. not_label (suc n) k (omega arith) (omega arith) λ z. omega arith) tt (trivial_children cs))
    (b (suc n) (omega arith) (omega arith)) in
    let lines : lines_of x (A ++ (t₁ ∷ t₂ ∷ (more ++ B))) ≡ t₁ ∷ t₂ ∷ [] =
    lines_split x A (t₁ ∷ t₂ ∷ (more ++ B)) ∙ (rw (lines_none (suc n) (a (suc n) (omega arith) (omega arith)))
    (two-lines (suc n) (rdf "first") (rdf "rest") (node c) (node rest) (more ++ B) clear)) in
    let again : (A ++ (t₁ ∷ t₂ ∷ [])) ++ (more ++ B) ≡ A ++ (t₁ ∷ t₂ ∷ (more ++ B)) = append_assoc A (t₁ ∷ t₂ ∷ []) (more ++ B) in
    subst (λ (ts : List Triple). Reads lo hi ts (head_cell (suc n) x cs) (reverse_aux cs (c ∷ rs))) again
    (reads-cells lo hi (suc n) x cs (c ∷ rs) (A ++ (t₁ ∷ t₂ ∷ [])) B (omega arith) (omega arith) (omega arith)
    (λ k p q. lines-append (NotRule k) (a k (omega arith) (omega arith))
    (let d : Not k x = not_label k (suc n) (omega arith) (omega arith) (λ z. omega arith) in with_line d tt (with_line d tt no_line)))
    (λ k p q. b k (omega arith) (omega arith))
    (subst (λ (ts : List Triple). Reads lo hi ts x (c ∷ rs)) (sym again) (rest, (suc n, omega arith, omega arith, refl), lines, h)))

-- ---- the theorem

-- a document whose innermost open element f is a Collection with these children
module _ (f : Frame) (p : Property) (cs : List Subject) (is : f.kind ≡ property_element p (collection cs))
    (fs : List Frame) (m : Mode) (b : Option Bytes) (r : Bool) (n : ℕ) (ids : List Bytes) where
  abbrev pub in_collection : Doc
  in_collection = record { mode = m; start_base = b; frames = f ∷ fs; rooted = r; labels = n; ids = ids }

  abbrev pub behind : Doc
  behind = record { mode = m; start_base = b; frames = fs; rooted = r; labels = n + length cs; ids = ids }

  abbrev nil : Subject
  nil = named (rdf "nil")

  abbrev pub Closed : Step → Type 0
  Closed o = (o.0 ≡ cells n nil cs ++ statement p (node (head_cell n nil cs))) × (o.1 ≡ behind) × (n + length cs < 100_000_000)

  ends : (k : Kind) (w : Bytes) (l : Language) → k ≡ property_element p (collection cs) → Always Closed (C.end_kind k w l (with_frames fs in_collection))
  unfolding C.end_kind C.end_value with_labels with_frames most_labels
  ends k w l e = rw e (always_require Closed _ _ _ λ g.
      (refl, refl, (let le : n + length cs ≤ 99_999_999 = leb-true (n + length cs) 99_999_999 g in omega arith)))

  pub closes : (w : Bytes) → Always Closed (next (closing w) in_collection)
  unfolding next X.on_event C.close_element X.within
  closes w =
      always_bind Closed Closed _ _ (always_require Closed _ _ _ λ e. ends f.kind w _ is) λ s k. always_require Closed _ _ _ λ g. k

  pub lists_read_back : (m₀ : Mode) (b₀ : Option Bytes) (ts us vs : List Triple) (w : Bytes) (d₂ d₃ : Doc)
      → After (fresh m₀ b₀) in_collection ts
      → next (closing w) in_collection ≡ good (us, d₂)
      → After d₂ d₃ vs
      → (x : Subject) × (us ≡ cells n nil cs ++ statement p (node x)) × Reads n (n + length cs) (ts ++ (us ++ vs)) x (reverse cs)
  unfolding fresh known never
  lists_read_back m₀ b₀ ts us vs w d₂ d₃ before q after =
      let c : Closed (us, d₂) = subst (λ (a : Answer Step). Always Closed a) q (closes w) in
      let x : Subject = head_cell n nil cs in
      let st : List Triple = statement p (node x) in
      let le : n + length cs < 100_000_000 = c.2 in
      let h : Kept known (fresh m₀ b₀) in_collection ts = kept known (fresh m₀ b₀) in_collection ts (omega arith) (omega arith) tt before in
      let open_frames : OfFrames (KnownRule n) (f ∷ fs) = h.frames in
      let kind : OfKind (KnownRule n) (property_element p (collection cs)) = rw is at open_frames.0 in
      let known-lines : OfLines (KnownRule n) ts = h.lines in
      let later : (k : ℕ) → n < k → k ≤ n + length cs → OfLines (NotRule k) vs =
      λ k lo hi. (kept (never k) behind d₃ vs hi le
      (frames_map (KnownRule n) (NotRule k) (λ u g. known_not n k u lo (omega arith) g) (λ o g. tt) (λ l g. tt) fs open_frames.2)
      (subst (λ (d : Doc). After d d₃ vs) c.1 after)).lines in
      let all : ts ++ (us ++ vs) ≡ ts ++ (cells n nil cs ++ (st ++ vs)) = simp (c.0, append_assoc) in (
        x,
        c.0,
        subst (λ (l : List Triple). Reads n (n + length cs) l x (reverse cs)) (sym all)
            (reads-cells n (n + length cs) n nil cs [] ts (st ++ vs) (omega arith) (omega arith) le
            (λ k lo hi. lines-map (KnownRule n) (NotRule k) (λ u g. known_not n k u lo (omega arith) g) (λ o g. tt) (λ l g. tt) known-lines)
            (λ k lo hi. lines-append (NotRule k) (statement-lines (NotRule k) p (node x) (known_not n k p.subject lo (omega arith) kind.0) tt) (later k lo hi))
            refl),
      )

blank_inj : {l m : Bytes} → blank l ≡ blank m → l ≡ m
blank_inj e = cc

any-label : Family
any-label = record {
  lo = 0;
  at = λ n. AnyRule;
  up_subj = λ n n' up s h. h;
  up_obj = λ n n' up o h. h;
  up_lang = λ n n' up l h. h;
  fresh = λ n n' lo le k p q. tt;
}

pub grows_after : (d d' : Doc) (ts : List Triple) → d.labels < 100_000_000 → After d d' ts → d.labels ≤ d'.labels
unfolding any-label
grows_after d d' ts le h = (kept any-label d d' ts (omega arith) le (trivial_frames d.frames) h).grows

-- no document generates a 100,000,000th label
pub bound_after : (d d' : Doc) (ts : List Triple) → d.labels < 100_000_000 → After d d' ts → d'.labels < 100_000_000
unfolding any-label
bound_after d d' ts le h = (kept any-label d d' ts (omega arith) le (trivial_frames d.frames) h).bound

-- labels only ever go up, so the cells of a list that closes later are others
pub no_cell_in_two-lists : (d₂ d₃ : Doc) (vs : List Triple) (lo len : ℕ) (x : Subject) → d₂.labels < 100_000_000 → After d₂ d₃ vs
    → d₃.labels + len < 100_000_000 → Cell lo d₂.labels x → Cell d₃.labels (d₃.labels + len) x → ⊥
no_cell_in_two-lists d₂ d₃ vs lo len x le after le' c c' =
    let up : d₂.labels ≤ d₃.labels = grows_after d₂ d₃ vs le after in
    let k : ℕ = c.0 in
    let k' : ℕ = c'.0 in
    let h : k ≤ d₂.labels = c.2 in
    let h₁ : d₃.labels < k' = c'.1 in
    let h₂ : k' ≤ d₃.labels + len = c'.2 in
    let e : k ≡ k' = label_inj k k' (omega arith) (omega arith) (blank_inj (sym c.3 ∙ c'.3)) in
    omega arith
