-- What a packet remembers: of a new element, and of a child in the element around it.
use Prim.Native.Nat.{ℕ, zero, suc, ◌+◌, ◌-◌, ◌*◌, ◌≤◌}
use Rattle.std.proofs.Math.Path.{◌≡◌, refl, sym, ap}
use Rattle.std.proofs.Common.{◌∙◌}
use Rattle.std.specs.Prelude.{Bool, not, eqb}
use Rattle.std.proofs.Math.Bool.{true, false}
use Rattle.std.proofs.lemmas.Bool.{false≢true}
use Rattle.std.proofs.Math.Option.{Option, none, some}
use mathlib.Core.List.{List, [], ◌∷◌}
use native.Mathlib.Omega.{arith}
use Rattle.std.proofs.Math.ListN.{length}
use borrow.Author.Tests.{leb-true, ne_eqb}
use Rattle.spec.specs.Bytes.{Bytes, when◌then◌else◌, same, is_some}
use Rattle.spec.proofs.Booleans.{and_left, and_right}
use Rattle.spec.specs.Limits.{most_name_bytes}
use Rattle.spec.specs.Rdf.{rdf, may_be_node}
use Rattle.spec.specs.NTriples.{Subject}
use Rattle.spec.specs.Document.{default, collection, literal, other, Kind as What, rdf_rdf, wrapper, node_element, property_element, xml_element, Part, ordinary, top_level, alternatives, Frame as Element, Place, outside, nodes, properties, nodes_or_text, xml, in_value, in_kind, place_in}
use Rattle.spec.specs.StartTag as S
use Rattle.spec.specs.Productions.{is_li}
use Rattle.spec.specs.Xmp as X
use Rattle.spec.specs.Xmp.{new_part, noted}
use Rattle.spec.specs.Opening.{is_xml}
use Rattle.copy.specs.Copy.{part}
use Rattle.state_words.specs.Parts.{FRAME}
use Rattle.state_words.specs.declared.Kind.{Kind}
use Rattle.state_words.specs.declared.Kind.TheVariants.{Rdf, NodeElt, PropertyElt, ParseTypeCollectionPropertyElt, ParseTypeLiteralPropertyElt, ParseTypeOtherPropertyElt, Wrapper}
use Rattle.state_words.specs.declared.Frame.{Frame}
use Rattle.state_words.specs.Words.{pick, frame_at, load_frame_lem}
use Rattle.state_words.specs.Parts.{PART}
use Rattle.spec.specs.XmlLang.{carries}
use Rattle.state.specs.declared.language.Own.TheVariants.{Unsaid}
use Rattle.state.specs.declared.Registers.{Registers}
use Rattle.state.specs.Meaning.{has, what_of, part_of, element_of, frames_of, inners_of, elements_of}
use Rattle.state.specs.Valid.{Valid}
use Rattle.state_stack.specs.Calls.{top_frame, same_kind}
use Rattle.state_stack.specs.Packets.{note_li, note_about}
use Rattle.start_element.specs.declared.Pending.TheVariants as pending
use Rattle.start_element.specs.declared.Source.{Source}
use Rattle.start_element.specs.declared.Source.TheVariants.{Missing, Own, Made}
use Rattle.start_element.specs.Element.{text_of, maybe, part_is}
use Rattle.start_element.specs.Laws.{CountedBy, NotedBy, noting}
use Rattle.start_plan.specs.declared.Given.{Given}
use Rattle.start_plan.specs.Plan.{subject_in, root_plan, node_plan}
use Rattle.start_plan.specs.Says.{Says}
use Rattle.start_tag.specs.Made.{short_if}
use Rattle.start_tag.specs.Packets.{rdf_part, node_part}
use Rattle.start_tag.specs.Rules.{node_not_rdf}

-- ---- of a new element

pub root-part : (p : Bool) (g : Given) (n : ℕ) (e a : List ℕ) (i : Bytes) → part_is Rdf (root_plan g (rdf_part p) n).parts e a ≡ new_part p outside i
unfolding part_is rdf_part new_part
root-part false g n e a i = refl
root-part true g n e a i = refl

-- does it stand in a node?
unfoldable pub in_node : Place → Bool
in_node outside = false
in_node nodes = false
in_node nodes_or_text = false
in_node xml = false
in_node (properties s li) = true

-- the root of a packet, and what stands in the wrapper, is rdf:RDF
outside-rdf : (es : List Element) (t : S.Tag) → place_in es ≡ outside → X.keeps_around es t ≡ true → same t.iri (rdf "RDF") ≡ true
unfolding place_in in_kind in_value X.keeps_around X.keeps_kind X.is_its_rdf
outside-rdf [] t h k = and_left (same t.iri (rdf "RDF")) _ k
outside-rdf (f ∷ es) t h k = go f.kind h k
  where
    go : (q : What) → in_kind q ≡ outside → X.keeps_kind q f.part t ≡ true → same t.iri (rdf "RDF") ≡ true
    go rdf_rdf h k = absurd (let z : ◌≡◌ {A = ℕ} 0 1 = cc in omega arith)
    go (wrapper had) h k = and_left (same t.iri (rdf "RDF")) _ k
    go (node_element s li) h k = absurd (let z : ◌≡◌ {A = ℕ} 0 1 = cc in omega arith)
    go (property_element p (default d o)) h k = absurd (let z : ◌≡◌ {A = ℕ} 0 1 = cc in omega arith)
    go (property_element p (collection l)) h k = absurd (let z : ◌≡◌ {A = ℕ} 0 1 = cc in omega arith)
    go (property_element p (literal l)) h k = absurd (let z : ◌≡◌ {A = ℕ} 0 1 = cc in omega arith)
    go (property_element p other) h k = absurd (let z : ◌≡◌ {A = ℕ} 0 1 = cc in omega arith)
    go xml_element h k = absurd (let z : ◌≡◌ {A = ℕ} 0 1 = cc in omega arith)

-- an rdf:Alt awaits its first rdf:li
alt-part : (b : Bool) (g : Given) (n : ℕ) (e a : List ℕ) → part_is NodeElt (node_plan g (pick b pending.Awaited pending.Absent) n).parts e a ≡ (when b then alternatives none else ordinary)
unfolding part_is when◌then◌else◌
alt-part true g n e a = refl
alt-part false g n e a = refl

plain-part : (g : Given) (n : ℕ) (e a : List ℕ) → part_is NodeElt (node_plan g pending.Absent n).parts e a ≡ ordinary
unfolding part_is
plain-part g n e a = refl

-- i: its name as it was read
pub node-part : (p : Bool) (g : Given) (n : ℕ) (e a : List ℕ) (es : List Element) (t : S.Tag) (i : Bytes) → X.keeps p es t ≡ true → may_be_node t.iri ≡ true → is_xml (place_in es) ≡ false → in_node (place_in es) ≡ false
    → same i (rdf "Alt") ≡ same t.iri (rdf "Alt") → part_is NodeElt (node_plan g (node_part p i) n).parts e a ≡ new_part p (place_in es) t.iri
unfolding node_part new_part X.keeps in_node is_xml
node-part false g n e a es t i kp mb ix np al = plain-part g n e a
node-part true g n e a es t i kp mb ix np al = go (place_in es) refl
  where
    go : (q : Place) → place_in es ≡ q → part_is NodeElt (node_plan g (pick (same i (rdf "Alt")) pending.Awaited pending.Absent) n).parts e a ≡ new_part true q t.iri
    go outside h = absurd (false≢true (sym (node_not_rdf t.iri mb) ∙ outside-rdf es t h (and_left (X.keeps_around es t) _ kp)))
    go nodes h = rw al (alt-part (same t.iri (rdf "Alt")) g n e a)
    go nodes_or_text h = rw al (alt-part (same t.iri (rdf "Alt")) g n e a)
    go xml h = absurd (false≢true (sym ix ∙ ap is_xml h))
    go (properties s li) h = absurd (false≢true (sym np ∙ ap in_node h))

-- ---- of a child

abbrev head_part : List Element → Part
head_part [] = ordinary
head_part (f ∷ es) = f.part

-- the frame on top
pub top_is_frame : (r : Registers) (fs : List ℕ) (d : ℕ) → r.counts.depth ≡ suc d → d * FRAME + FRAME ≤ length fs → top_frame r fs ≡ frame_at fs d
unfolding top_frame
top_is_frame r fs d e h = let j : r.counts.depth - 1 ≡ d = omega (arith, e) in rw (ne_eqb r.counts.depth 0 (λ z. omega (arith, e)), j) (load_frame_lem fs d h)

pick_same : (x : Part) (b : Bool) → pick b x x ≡ x
pick_same x true = refl
pick_same x false = refl

-- what the element of frame f, of this kind, notes: a is the text of the child's main part, c whether it has xml:lang
module _ (t : S.Tag) (li : Bool) (a : Bytes) {c : Bool} (cp : c ≡ carries t.own_tag) where
  note_about_lem : (p : Option Bytes) → X.is_top_level p t ≡ true → ((b : Bytes) → t.about ≡ some b → a ≡ b) → X.with_child t (top_level p) ≡ note_about a (top_level p)
  unfolding X.with_child note_about X.is_top_level X.same_about
  note_about_lem (some s) k h = refl
  note_about_lem none k h = go t.about refl (and_right (same t.iri (rdf "Description")) _ k)
    where
      go : (o : Option Bytes) → t.about ≡ o → X.same_about none o ≡ true → top_level t.about ≡ top_level (some a)
      go none e q = absurd (false≢true q)
      go (some b) e q = rw (e, h b e)

  note_li_lem : is_li t.iri ≡ li → (p : Option Bool) → X.with_child t (alternatives p) ≡ pick li (note_li c (alternatives p)) (alternatives p)
  unfolding X.with_child note_li is_li when◌then◌else◌
  note_li_lem h none = rw (h, cp) (go _ _ li)
    where
      go : (x y : Part) (b : Bool) → (when b then x else y) ≡ pick b x y
      go x y true = refl
      go x y false = refl
  note_li_lem h (some s) = sym (pick_same _ li)

  on_ordinary : X.with_child t ordinary ≡ note_about a (pick li (note_li c ordinary) ordinary)
  unfolding X.with_child note_li note_about
  on_ordinary = rw (pick_same ordinary li)

  on_top : (p : Option Bytes) → X.is_top_level p t ≡ true → ((b : Bytes) → t.about ≡ some b → a ≡ b) → X.with_child t (top_level p) ≡ note_about a (pick li (note_li c (top_level p)) (top_level p))
  unfolding note_li
  on_top p k h = rw (pick_same (top_level p) li) (note_about_lem p k h)

  on_alternatives : is_li t.iri ≡ li → (p : Option Bool) → X.with_child t (alternatives p) ≡ note_about a (pick li (note_li c (alternatives p)) (alternatives p))
  unfolding note_about note_li
  on_alternatives h p = note_li_lem h p ∙ sym (stays li p)
    where
      stays : (b : Bool) (p : Option Bool) → note_about a (pick b (note_li c (alternatives p)) (alternatives p)) ≡ pick b (note_li c (alternatives p)) (alternatives p)
      stays true none = refl
      stays true (some s) = refl
      stays false p = refl

  -- by its kind
  note_kind : (q : Kind) (f : Frame) (w : List ℕ) (u : Subject) → X.keeps_kind (what_of q f w u) (part_of q f w) t ≡ true → (same_kind q NodeElt ≡ true → is_li t.iri ≡ li)
      → (same_kind q Rdf ≡ true → (b : Bytes) → t.about ≡ some b → a ≡ b) → X.with_child t (part_of q f w) ≡ note_about a (pick li (note_li c (part_of q f w)) (part_of q f w))
  unfolding part_of what_of X.keeps_kind X.keeps_part
  note_kind Rdf f w u k h g = go _ (eqb (has f PART) 0) k
    where
      go : (p : Option Bytes) (b : Bool) → X.keeps_part (pick b ordinary (top_level p)) t ≡ true
          → X.with_child t (pick b ordinary (top_level p)) ≡ note_about a (pick li (note_li c (pick b ordinary (top_level p))) (pick b ordinary (top_level p)))
      go p true k = on_ordinary
      go p false k = on_top p k (g refl)
  note_kind NodeElt f w u k h g = go _ (eqb (has f PART) 0)
    where
      go : (p : Option Bool) (b : Bool) → X.with_child t (pick b ordinary (alternatives p)) ≡ note_about a (pick li (note_li c (pick b ordinary (alternatives p))) (pick b ordinary (alternatives p)))
      go p true = on_ordinary
      go p false = on_alternatives (h refl) p
  note_kind PropertyElt f w u k h g = on_ordinary
  note_kind ParseTypeCollectionPropertyElt f w u k h g = on_ordinary
  note_kind ParseTypeLiteralPropertyElt f w u k h g = on_ordinary
  note_kind ParseTypeOtherPropertyElt f w u k h g = on_ordinary
  note_kind Wrapper f w u k h g = on_ordinary

  module _ {r : Registers} {fs bs is w : List ℕ} (v : Valid r fs bs is w) (z : r.counts.inner ≡ 0) (cb : CountedBy r fs t.iri li)
      (ab : (n : ℕ) → r.counts.depth ≡ suc n → same_kind (frame_at fs n).kind Rdf ≡ true → (b : Bytes) → t.about ≡ some b → a ≡ b) where
    -- the innermost element is that of the frame on top
    on_frame : (n : ℕ) → r.counts.depth ≡ suc n → top_frame r fs ≡ frame_at fs n → X.keeps_around (elements_of r fs bs is w) t ≡ true → (f : Element) (es : List Element) → elements_of r fs bs is w ≡ f ∷ es
        → X.with_child t f.part ≡ note_about a (pick li (note_li c f.part) f.part)
    unfolding elements_of inners_of frames_of element_of X.keeps_around
    on_frame n d tp k f es e =
        let e' : _ ∷ _ ≡ f ∷ es = rw (z, d) at e in
        let k' : X.keeps_kind (what_of (frame_at fs n).kind (frame_at fs n) w _) (part_of (frame_at fs n).kind (frame_at fs n) w) t ≡ true = rw (z, d) at k in
        let p : part_of (frame_at fs n).kind (frame_at fs n) w ≡ f.part = ap (λ (l : List Element). head_part l) e' in
        rw (← p) (note_kind (frame_at fs n).kind (frame_at fs n) w _ k' (λ h. cb.node (rw tp h)) (ab n d))

    none_open : r.counts.depth ≡ 0 → {f : Element} {es : List Element} → elements_of r fs bs is w ≡ f ∷ es → ⊥
    unfolding elements_of inners_of frames_of
    none_open d q = let e : ◌≡◌ {A = List Element} [] (_ ∷ _) = rw (z, d) at q in let z : ◌≡◌ {A = ℕ} 0 1 = cc in omega arith

    pub noted_so : (p : Bool) → X.keeps p (elements_of r fs bs is w) t ≡ true → NotedBy (noted p t) (noting p li a c) (elements_of r fs bs is w)
    unfolding noted noting X.keeps
    noted_so false k = λ f es q. refl
    noted_so true k = go r.counts.depth refl
      where
        go : (d : ℕ) → r.counts.depth ≡ d → (f : Element) (es : List Element) → elements_of r fs bs is w ≡ f ∷ es → X.with_child t f.part ≡ note_about a (pick li (note_li c f.part) f.part)
        go zero d f es q = absurd (none_open d q)
        go (suc n) d f es q = on_frame n d (top_is_frame r fs n d (omega (arith, v.frame_words, v.deep, d))) (and_left (X.keeps_around (elements_of r fs bs is w) t) _ k) f es q

-- out of a packet nothing is noted
pub noted-base : (t : S.Tag) (es : List Element) {p : Bool} (li : Bool) (a : Bytes) (c : Bool) → p ≡ false → NotedBy (noted p t) (noting p li a c) es
unfolding noted noting
noted-base t es li a c h f es' q = rw h

-- ---- the text that is noted of a node: its rdf:about, or the label made for it

unfoldable text_or : Option Bytes → Bytes → Bytes
text_or none l = l
text_or (some x) l = x

module _ (e b : List ℕ) where
  subject-text : (i a n : Source) (o : Option Bytes) → maybe i e b ≡ none → maybe n e b ≡ none → maybe a e b ≡ o
      → text_of (subject_in (record { base = Missing; tag = Unsaid; node = n; id = i; about = a; resource = Missing; datatype = Missing })).source e b ≡ text_or o (part b 6144 12)
  unfolding subject_in text_of maybe text_or
  subject-text (Own x y) a n o h q p = absurd (let z : ◌≡◌ {A = ℕ} 0 1 = cc in omega arith)
  subject-text (Made x y) a n o h q p = absurd (let z : ◌≡◌ {A = ℕ} 0 1 = cc in omega arith)
  subject-text Missing (Own x y) n o h q p = rw (← p)
  subject-text Missing (Made x y) n o h q p = rw (← p)
  subject-text Missing Missing (Own x y) o h q p = absurd (let z : ◌≡◌ {A = ℕ} 0 1 = cc in omega arith)
  subject-text Missing Missing (Made x y) o h q p = absurd (let z : ◌≡◌ {A = ℕ} 0 1 = cc in omega arith)
  subject-text Missing Missing Missing o h q p = rw (← p)

  module _ (g : Given) {t : S.Tag} (y : Says g e b t) (i : t.id ≡ none) (n : t.node_id ≡ none) where
    main_text : text_of (subject_in g).source e b ≡ text_or t.about (part b 6144 12)
    unfolding subject_in
    main_text = subject-text g.id g.about g.node t.about (y.id ∙ i) (y.node ∙ n) y.about

    pub main_about : (x : Bytes) → t.about ≡ some x → text_of (subject_in g).source e b ≡ x
    unfolding text_or
    main_about x h = main_text ∙ rw h

    pub main_short : short_if t.about ≡ true → length (part b 6144 12) ≤ 1_024 → length (text_of (subject_in g).source e b) ≤ 1_024
    unfolding text_or short_if most_name_bytes
    main_short s l = rw main_text (go t.about s)
      where
        go : (o : Option Bytes) → short_if o ≡ true → length (text_or o (part b 6144 12)) ≤ 1_024
        go none s = l
        go (some x) s = leb-true (length x) 1_024 s

-- a tag that keeps the rules has neither rdf:ID nor rdf:nodeID
no_some : (o : Option Bytes) → not (is_some o) ≡ true → o ≡ none
unfolding is_some
no_some none h = refl
no_some (some x) h = absurd (false≢true h)

pub record Unnamed (t : S.Tag) : Type 0 where
  pub id : t.id ≡ none
  pub node_id : t.node_id ≡ none

pub unnamed : (es : List Element) (t : S.Tag) → X.keeps true es t ≡ true → Unnamed t
unfolding X.keeps X.has_none_out
unnamed es t k =
    let h = and_right (X.keeps_around es t) _ k in
    record { id = no_some t.id (and_left (not (is_some t.id)) _ h); node_id = no_some t.node_id (and_left (not (is_some t.node_id)) _ (and_right (not (is_some t.id)) _ h)) }
