-- By what a start tag stands in: the root, a node element, a property element.
use Prim.Native.Nat.{ℕ, zero, suc, ◌-◌, ◌<◌, ◌≤◌}
use Rattle.std.specs.Prelude.{◌≡◌, Bool, false, eqb, ltb, length}
use Rattle.std.proofs.Math.Path.{refl, sym, ap}
use Rattle.std.proofs.Common.{◌∙◌, arith, eq-eqb, ne_eqb, ltb-true, lt-ltb}
use Rattle.std.proofs.Math.Bool.{true, not, false≢true}
use mathlib.Core.List.{List, []}
use Rattle.std.proofs.Math.Logic.{inr}
use Rattle.spec.specs.Limits.{most_attributes}
use Rattle.spec.specs.Bytes.{Bytes, same}
use Rattle.spec.specs.Numbers.{good}
use Rattle.spec.specs.declared.Refusal.{Refusal}
use Rattle.spec.specs.declared.Refusal.TheVariants.{OverLimit, ProfileBroken}
use Rattle.spec.specs.Rdf.{rdf}
use Rattle.spec.specs.Rdf as F
use Rattle.spec.specs.NTriples.{Subject}
use Rattle.spec.specs.Document as D
use Rattle.spec.specs.Xmp as X
use Rattle.spec.specs.Xmp.{new_part}
use Rattle.spec.specs.StartTag as S
use Rattle.spec.specs.Productions.{open_node, open_root}
use Rattle.spec.proofs.Bytes.{same_true}
use Rattle.state_words.specs.Parts.{TABLE}
use Rattle.state_words.specs.declared.Kind.{Kind}
use Rattle.state_words.specs.declared.Kind.TheVariants.{Rdf, NodeElt, PropertyElt, ParseTypeCollectionPropertyElt, ParseTypeLiteralPropertyElt, ParseTypeOtherPropertyElt, Wrapper}
use Rattle.state_words.specs.Kept.{kept_all}
use Rattle.state_words.specs.Words.{pick, frame_at, load_frame, load_frame_lem}
use Rattle.spec.specs.XmlLang.{carries}
use Rattle.state.specs.Language.{carries_by_lem}
use Rattle.state.specs.declared.Registers.{Registers}
use Rattle.state.specs.Meaning.{subject_below, subject_of, elements_of, count}
use Rattle.state.specs.Valid.{Valid, is_wrapper, is_root_in, stands}
use Rattle.state_stack.specs.Calls.{top_frame, same_kind}
use Rattle.state_stack.specs.Laws.{top_deep}
use Rattle.state_stack.specs.Packets.{is_node_lem, is_wrapper_lem}
use Rattle.event.specs.declared.Place.{Place}
use Rattle.event.specs.declared.Place.TheVariants.{Outside, Nodes, Properties, NodesOrText, Xml}
use Rattle.event.specs.Place.{place_of, place_at, place_is, place_read}
use Rattle.start_element.specs.declared.Pending.{Pending}
use Rattle.start_rules.specs.Judged.{root-rdf, root-node}
use Rattle.start_element.specs.declared.Source.TheVariants.{Missing}
use Rattle.start_element.specs.Element.{text_of, Fitting}
use Rattle.start_element.specs.Sizes.{Short}
use Rattle.start_plan.specs.declared.Given.{Given}
use Rattle.start_plan.specs.declared.Plan.{Plan}
use Rattle.start_plan.specs.declared.Start.{Start}
use Rattle.start_plan.specs.Plan.{root_plan}
use Rattle.start_plan.specs.Does.{does_root}
use Rattle.start_plan.specs.Goes.{told}
use Rattle.start_tag.specs.declared.reading.Tag.{Tag}
use Rattle.start_tag.specs.Giving.{Gives, Keeps, given-says}
use Rattle.start_tag.specs.Rules.{is_reserved, root-free}
use Rattle.start_tag.specs.Packets as K
use Rattle.start_tag.specs.Packets.{rdf_part}
use Rattle.start_tag.specs.Remembered.{in_node, root-part, top_is_frame, noted_so}
use Rattle.state_ids.specs.Ids.{ids_of}
use Rattle.start_form.specs.Order.{production_in}
use Rattle.start_tag.specs.declared.judging.Opens.{Opens}
use Rattle.start_tag.specs.declared.judging.Opens.TheVariants as what
use Rattle.start_tag.specs.Names.{iri_text, rdf-name}
use Rattle.start_tag.specs.Limits.{Fits}
use Rattle.start_tag.specs.Judges.{Known, Judges, Waits, Drafted, Measurable, Drafts, start_by, broken_stops, long_stops, waits}
use Rattle.start_tag.specs.Nodes.{Ready, Wraps, JudgesNode}
use Rattle.start_tag.specs.Properties.{JudgesProperty}
use Rattle.std.specs.Prelude.{Result, Ok, Err}

-- ---- the root

pub record JudgesRoot (q : Result Start Refusal) (t : Tag) (r : Registers) (wrapped : Bool) (fs w e v : List ℕ) (k : ℕ) (a : List ℕ) : Type 0 where
  pub cases : (ids used m : ℕ) (bs is ia il st cs rs : List ℕ) → Ready e v k a → (y : Known t r ids used fs bs is w ia il st e v m k cs rs a)
      → D.place_in (elements_of r fs bs is w) ≡ D.outside → same y.tells.is.iri (rdf "RDF") ≡ true
      → Wraps r fs y.tells.is.iri wrapped → is_root_in fs r.counts.depth ≡ true
      → Drafted q r ids used fs bs is w ia il st e v m k cs rs a
  pub measurable : Measurable q

-- rdf:RDF is no rdf:Description
rdf_no_description : (i : Bytes) → same i (rdf "RDF") ≡ true → same i (rdf "Description") ≡ false
unfolding F.all
rdf_no_description i h = ap (λ (x : Bytes). same x (rdf "Description")) (same_true i (rdf "RDF") h)

-- nothing is open, or the wrapper
root_no_rdf : (fs : List ℕ) (d n : ℕ) → is_root_in fs d ≡ true → d ≡ suc n → same_kind (frame_at fs n).kind Rdf ≡ true → ⊥
unfolding is_root_in is_wrapper
root_no_rdf fs d n h e q = go (frame_at fs n).kind (sym (ap (is_root_in fs) e) ∙ h) q
  where
    go : (g : Kind) → is_wrapper g ≡ true → same_kind g Rdf ≡ true → ⊥
    go Rdf h q = false≢true h
    go NodeElt h q = false≢true h
    go PropertyElt h q = false≢true h
    go ParseTypeCollectionPropertyElt h q = false≢true h
    go ParseTypeLiteralPropertyElt h q = false≢true h
    go ParseTypeOtherPropertyElt h q = false≢true h
    go Wrapper h q = false≢true q

module _ {t : Tag} {r : Registers} {fs w e v : List ℕ} {k : ℕ} {a : List ℕ} {u : Bool} (kb : K.Keeps u t r fs w e v k a) where
  produced : {ids used m : ℕ} {bs is ia il st cs rs : List ℕ} (y : Known t r ids used fs bs is w ia il st e v m k cs rs a) → D.place_in (elements_of r fs bs is w) ≡ D.outside
      → production_in (D.place_in (elements_of r fs bs is w)) y.tells.is r.counts.labels ≡ open_root y.tells.is r.counts.labels
  unfolding production_in
  produced y at = rw at

  kept_is : {ids used m : ℕ} {bs is ia il st cs rs : List ℕ} (y : Known t r ids used fs bs is w ia il st e v m k cs rs a) → u ≡ X.keeps r.mode.xmp (elements_of r fs bs is w) y.tells.is
  kept_is {ids = ids} {ia = ia} {il} {st} y = kb.is (ids_of ia il st ids) y.lawful.valid y.level y.tells

  -- 19
  pub root_broken : {wrapped : Bool} → u ≡ false → JudgesRoot (Err ProfileBroken) t r wrapped fs w e v k a
  root_broken h =
      record {
        cases = λ ids used m bs is ia il st cs rs rd y at z ws ro. broken_stops y (sym (kept_is y) ∙ h) (ap is_reserved (produced y at) ∙ root-free y.tells.is r.counts.labels z);
        measurable = tt;
      }

  module _ (kt : u ≡ true) where
    kept : {ids used m : ℕ} {bs is ia il st cs rs : List ℕ} (y : Known t r ids used fs bs is w ia il st e v m k cs rs a) → X.keeps r.mode.xmp (elements_of r fs bs is w) y.tells.is ≡ true
    kept y = sym (kept_is y) ∙ kt

    opens : {ids used m : ℕ} {bs is ia il st cs rs : List ℕ} (y : Known t r ids used fs bs is w ia il st e v m k cs rs a) → D.place_in (elements_of r fs bs is w) ≡ D.outside → same y.tells.is.iri (rdf "RDF") ≡ true
        → production_in (D.place_in (elements_of r fs bs is w)) y.tells.is r.counts.labels ≡ good (record { lines = []; kind = D.rdf_rdf; labels = r.counts.labels })
    opens y at z = produced y at ∙ root-rdf y.tells.is r.counts.labels z

    pub root-long : {wrapped : Bool} → t.short ≡ false → JudgesRoot (Err OverLimit) t r wrapped fs w e v k a
    root-long s = record { cases = λ ids used m bs is ia il st cs rs rd y at z ws ro. long_stops y (kept y) (opens y at z) s; measurable = tt }

    module _ {wrapped : Bool} {g : Given} {n : Pending} {p : Plan} {x : Start} (s : t.short ≡ true) (gv : Gives t v k g) (pt : n ≡ rdf_part r.mode.xmp) (pl : p ≡ root_plan g n r.counts.labels) (is_so : x ≡ start_by p t wrapped true Missing) where
      made : x ≡ start_by (root_plan g (rdf_part r.mode.xmp) r.counts.labels) t wrapped true Missing
      made = is_so ∙ ap (λ (y : Plan). start_by y t wrapped true Missing) (pl ∙ ap (λ (m : Pending). root_plan g m r.counts.labels) pt)

      drafted : {ids used m : ℕ} {bs is ia il st cs rs : List ℕ} → Ready e v k a → (y : Known t r ids used fs bs is w ia il st e v m k cs rs a)
          → D.place_in (elements_of r fs bs is w) ≡ D.outside → same y.tells.is.iri (rdf "RDF") ≡ true
          → Wraps r fs y.tells.is.iri wrapped → is_root_in fs r.counts.depth ≡ true
          → Waits x r ids used fs bs is w ia il st e v m k cs rs a
      unfolding stands told text_of
      drafted {bs = bs} {is} rd y at z ws ro =
          rw made
          (waits y (kept y) (opens y at z) s all_kept rd.event gv refl refl
          (does_root g e a (subject_below fs w r.counts.depth) (rdf_part r.mode.xmp) r.counts.labels (root-part r.mode.xmp g r.counts.labels e a y.tells.is.iri ∙ ap (λ (o : D.Place). new_part r.mode.xmp o y.tells.is.iri) (sym at)))
          wrapped true Missing
          (record {
            typed = sym (ap not (rdf_no_description y.tells.is.iri z));
            counted = ws.counted;
            noted =
                noted_so y.tells.is wrapped [] (sym (carries_by_lem g.tag a) ∙ (ap carries (given-says y.tells s all_kept rd.event gv).tag)) y.lawful.valid y.level ws.counted
                (λ n d h b q. absurd (root_no_rdf fs r.counts.depth n ro d h)) r.mode.xmp (kept y);
            brief = λ o. omega arith;
            numbered = ws.counts;
            few = y.lawful.valid.labels;
            stood = ro;
            lines = refl;
          }))
        where
          all_kept : Keeps a a
          all_kept = record { before = kept_all; behind = kept_all; same = refl; room = rd.room }

      pub root_judged : JudgesRoot (Ok x) t r wrapped fs w e v k a
      root_judged = record { cases = λ ids used m bs is ia il st cs rs rd y at z ws ro. drafted rd y at z ws ro; measurable = rw made (record { lacks = (refl, refl, refl, refl) }) }

-- ---- by place

in_node_lem : (q : Kind) → place_of q ≡ Properties → q ≡ NodeElt
in_node_lem Rdf h = absurd (let z : ◌≡◌ {A = ℕ} 0 1 = cc in omega arith)
in_node_lem NodeElt h = refl
in_node_lem PropertyElt h = absurd (let z : ◌≡◌ {A = ℕ} 0 1 = cc in omega arith)
in_node_lem ParseTypeCollectionPropertyElt h = absurd (let z : ◌≡◌ {A = ℕ} 0 1 = cc in omega arith)
in_node_lem ParseTypeLiteralPropertyElt h = absurd (let z : ◌≡◌ {A = ℕ} 0 1 = cc in omega arith)
in_node_lem ParseTypeOtherPropertyElt h = absurd (let z : ◌≡◌ {A = ℕ} 0 1 = cc in omega arith)
in_node_lem Wrapper h = absurd (let z : ◌≡◌ {A = ℕ} 0 1 = cc in omega arith)

-- where properties stand, a node is on top
record OnNode (r : Registers) (fs w : List ℕ) : Type 0 where
  kind : (top_frame r fs).kind ≡ NodeElt
  subject : subject_of (frame_at fs (r.counts.depth - 1)) w ≡ subject_below fs w r.counts.depth
  counted : count (frame_at fs (r.counts.depth - 1)) ≡ count (top_frame r fs)

below_top : (fs w : List ℕ) (n d : ℕ) → n ≡ suc d → subject_of (frame_at fs (n - 1)) w ≡ subject_below fs w n
unfolding subject_below
below_top fs w n d q = let e : n - 1 ≡ d = omega arith in ap (λ (x : ℕ). subject_of (frame_at fs x) w) e ∙ sym (ap (subject_below fs w) q)

on_node : {r : Registers} {fs bs is w : List ℕ} → Valid r fs bs is w → place_at r fs ≡ Properties → OnNode r fs w
unfolding place_at top_frame subject_below
on_node {r} {fs} {bs} {is} {w} v h = go r.counts.inner refl r.counts.depth refl
  where
    go : (i : ℕ) → r.counts.inner ≡ i → (d : ℕ) → r.counts.depth ≡ d → OnNode r fs w
    go (suc i) p d q = absurd (let f : ◌≡◌ {A = Place} Xml Properties = sym (rw (ne_eqb r.counts.inner 0 (λ z. omega arith))) ∙ h in let z : ◌≡◌ {A = ℕ} 0 1 = cc in omega arith)
    go zero p zero q = absurd (let f : ◌≡◌ {A = Place} Outside Properties = sym (rw (eq-eqb r.counts.inner 0 p, eq-eqb r.counts.depth 0 q)) ∙ h in let z : ◌≡◌ {A = ℕ} 0 1 = cc in omega arith)
    go zero p (suc d) q =
        let n : eqb r.counts.depth 0 ≡ false = ne_eqb r.counts.depth 0 (λ z. omega arith) in
        let l : load_frame fs (r.counts.depth - 1) ≡ frame_at fs (r.counts.depth - 1) = load_frame_lem fs (r.counts.depth - 1) (omega (arith, v.frame_words, v.deep)) in
        let f : place_of (load_frame fs (r.counts.depth - 1)).kind ≡ Properties = sym (rw (eq-eqb r.counts.inner 0 p, n)) ∙ h in
        record {
          kind = rw n (in_node_lem (load_frame fs (r.counts.depth - 1)).kind f);
          subject = below_top fs w r.counts.depth d q;
          counted = rw (n, l);
        }

standing : {p : Place} {t : Tag} {r : Registers} {ids used : ℕ} {fs e v : List ℕ} {m k : ℕ} {a bs is w ia il st cs rs : List ℕ} → p ≡ place_at r fs → Known t r ids used fs bs is w ia il st e v m k cs rs a
    → D.place_in (elements_of r fs bs is w) ≡ place_is p (subject_of (frame_at fs (r.counts.depth - 1)) w) (count (frame_at fs (r.counts.depth - 1)))
standing {r = r} {fs = fs} {w = w} at y = place_read y.lawful.valid ∙ ap (λ (q : Place). place_is q (subject_of (frame_at fs (r.counts.depth - 1)) w) (count (frame_at fs (r.counts.depth - 1)))) (sym at)

-- what a start tag opens, by its place and its name
unfoldable pub opens_at : Place → Bytes → Opens
opens_at Outside i = pick (same i (rdf "RDF")) what.Rdf what.Node
opens_at Nodes i = what.Node
opens_at Properties i = what.Property
opens_at NodesOrText i = what.Node
opens_at Xml i = what.Node

rdf_at : (p : Place) (i : Bytes) → opens_at p i ≡ what.Rdf → (p ≡ Outside) × (same i (rdf "RDF") ≡ true)
unfolding opens_at
rdf_at Outside i h = (refl, go (same i (rdf "RDF")) h)
  where
    go : (t : Bool) → pick t what.Rdf what.Node ≡ what.Rdf → t ≡ true
    go true h = refl
    go false h = absurd (let z : ◌≡◌ {A = ℕ} 0 1 = cc in omega arith)
rdf_at Nodes i h = absurd (let z : ◌≡◌ {A = ℕ} 0 1 = cc in omega arith)
rdf_at Properties i h = absurd (let z : ◌≡◌ {A = ℕ} 0 1 = cc in omega arith)
rdf_at NodesOrText i h = absurd (let z : ◌≡◌ {A = ℕ} 0 1 = cc in omega arith)
rdf_at Xml i h = absurd (let z : ◌≡◌ {A = ℕ} 0 1 = cc in omega arith)

property_at : (p : Place) (i : Bytes) → opens_at p i ≡ what.Property → p ≡ Properties
unfolding opens_at
property_at Outside i h = absurd (go (same i (rdf "RDF")) h)
  where
    go : (t : Bool) → pick t what.Rdf what.Node ≡ what.Property → ⊥
    go true h = let z : ◌≡◌ {A = ℕ} 0 1 = cc in omega arith
    go false h = let z : ◌≡◌ {A = ℕ} 0 1 = cc in omega arith
property_at Nodes i h = absurd (let z : ◌≡◌ {A = ℕ} 0 1 = cc in omega arith)
property_at Properties i h = refl
property_at NodesOrText i h = absurd (let z : ◌≡◌ {A = ℕ} 0 1 = cc in omega arith)
property_at Xml i h = absurd (let z : ◌≡◌ {A = ℕ} 0 1 = cc in omega arith)

-- where a node element is opened, its production is that of a node
node_at : (p : Place) (i : Bytes) (t : S.Tag) (s : Subject) (c n : ℕ) → opens_at p i ≡ what.Node → same i (rdf "RDF") ≡ same t.iri (rdf "RDF") → production_in (place_is p s c) t n ≡ open_node t n
unfolding opens_at place_is production_in
node_at Outside i t s c n h q = root-node t n (sym q ∙ go (same i (rdf "RDF")) h)
  where
    go : (u : Bool) → pick u what.Rdf what.Node ≡ what.Node → u ≡ false
    go true h = absurd (let z : ◌≡◌ {A = ℕ} 0 1 = cc in omega arith)
    go false h = refl
node_at Nodes i t s c n h q = refl
node_at Properties i t s c n h q = absurd (let z : ◌≡◌ {A = ℕ} 0 1 = cc in omega arith)
node_at NodesOrText i t s c n h q = refl
node_at Xml i t s c n h q = refl

-- does it stand in the wrapper, where its children are counted?
unfoldable pub is_wrapped : Place → ℕ → Bool
is_wrapped Outside d = ltb 0 d
is_wrapped Nodes d = false
is_wrapped Properties d = false
is_wrapped NodesOrText d = false
is_wrapped Xml d = false

-- where nothing stands inside Literal content, the frame on top says the place
place_top : (r : Registers) (fs : List ℕ) → r.counts.inner ≡ 0 → 0 < r.counts.depth → place_at r fs ≡ place_of (top_frame r fs).kind
unfolding place_at top_frame
place_top r fs z d = rw (eq-eqb r.counts.inner 0 z, ne_eqb r.counts.depth 0 (λ e. omega arith))

outside_wraps : (k : Kind) → place_of k ≡ Outside → k ≡ Wrapper
outside_wraps Rdf h = absurd (let z : ◌≡◌ {A = ℕ} 0 1 = cc in omega arith)
outside_wraps NodeElt h = absurd (let z : ◌≡◌ {A = ℕ} 0 1 = cc in omega arith)
outside_wraps PropertyElt h = absurd (let z : ◌≡◌ {A = ℕ} 0 1 = cc in omega arith)
outside_wraps ParseTypeCollectionPropertyElt h = absurd (let z : ◌≡◌ {A = ℕ} 0 1 = cc in omega arith)
outside_wraps ParseTypeLiteralPropertyElt h = absurd (let z : ◌≡◌ {A = ℕ} 0 1 = cc in omega arith)
outside_wraps ParseTypeOtherPropertyElt h = absurd (let z : ◌≡◌ {A = ℕ} 0 1 = cc in omega arith)
outside_wraps Wrapper h = refl

wrapped-outside : (p : Place) (d : ℕ) → is_wrapped p d ≡ true → (p ≡ Outside) × (0 < d)
unfolding is_wrapped
wrapped-outside Outside d h = (refl, ltb-true 0 d h)
wrapped-outside Nodes d h = absurd (false≢true h)
wrapped-outside Properties d h = absurd (false≢true h)
wrapped-outside NodesOrText d h = absurd (false≢true h)
wrapped-outside Xml d h = absurd (false≢true h)

module _ (r : Registers) (fs : List ℕ) (z : r.counts.inner ≡ 0) {p : Place} (at : p ≡ place_at r fs) where
  -- in a place that is not a node's
  wraps_at : (i : Bytes) → (p ≡ Properties → ⊥) → Wraps r fs i (is_wrapped p r.counts.depth)
  unfolding is_wrapped
  wraps_at i n =
      record {
        counted = record {
          node = λ k.
              let d : 0 < r.counts.depth = top_deep r fs (λ q. false≢true (ap (λ (g : Kind). same_kind g NodeElt) (sym q) ∙ k)) in
              absurd (n (at ∙ (place_top r fs z d ∙ ap place_of (is_node_lem (top_frame r fs).kind k))));
          wraps = λ k.
              let d : 0 < r.counts.depth = top_deep r fs (λ q. false≢true (ap (λ (g : Kind). same_kind g Wrapper) (sym q) ∙ k)) in
              let o : p ≡ Outside = at ∙ (place_top r fs z d ∙ ap place_of (is_wrapper_lem (top_frame r fs).kind k)) in
              rw o (lt-ltb 0 r.counts.depth d);
        };
        counts = λ h.
            let o = wrapped-outside p r.counts.depth h in
            inr (ap (λ (g : Kind). same_kind g Wrapper) (outside_wraps (top_frame r fs).kind (sym (place_top r fs z o.1) ∙ (sym at ∙ o.0))));
      }

  -- rdf:RDF is the root, or stands in the wrapper
  root_at : r.counts.depth ≤ 64 → length fs ≡ TABLE → p ≡ Outside → is_root_in fs r.counts.depth ≡ true
  unfolding is_root_in is_wrapper
  root_at deep lf o = go r.counts.depth refl
    where
      go : (d : ℕ) → r.counts.depth ≡ d → is_root_in fs d ≡ true
      go zero e = refl
      go (suc d) e =
          let h : 0 < r.counts.depth = omega (arith, e) in
          let f : top_frame r fs ≡ frame_at fs d = top_at e in
          rw (← f, outside_wraps (top_frame r fs).kind (sym (place_top r fs z h) ∙ (sym at ∙ o)))
        where
          top_at : r.counts.depth ≡ suc d → top_frame r fs ≡ frame_at fs d
          top_at e = top_is_frame r fs d e (omega (arith, e))

outside-node : ◌≡◌ {A = Place} Outside Properties → ⊥
outside-node h = let z : ◌≡◌ {A = ℕ} 0 1 = cc in omega arith

-- among properties no node is opened
node_elsewhere : (p : Place) (i : Bytes) → opens_at p i ≡ what.Node → p ≡ Properties → ⊥
unfolding opens_at
node_elsewhere p i h e = let q : ◌≡◌ {A = Opens} what.Property what.Node = rw e at h in let z : ◌≡◌ {A = ℕ} 0 1 = cc in omega arith

-- i: the name as it was read
named_rdf : {t : Tag} {r : Registers} {ids used : ℕ} {fs e v : List ℕ} {m k : ℕ} {a bs is w ia il st cs rs : List ℕ} {i : Bytes} → i ≡ iri_text t.iri a → (y : Known t r ids used fs bs is w ia il st e v m k cs rs a)
    → same i (rdf "RDF") ≡ same y.tells.is.iri (rdf "RDF")
named_rdf {t = t} {a = a} ip y = ap (λ (x : Bytes). same x (rdf "RDF")) ip ∙ rdf-name a y.tells.is.iri t.iri y.tells.iri

-- a place that is not a node's
not_in_node : (p : Place) (s : Subject) (n : ℕ) → (p ≡ Properties → ⊥) → in_node (place_is p s n) ≡ false
unfolding place_is in_node
not_in_node Outside s n h = refl
not_in_node Nodes s n h = refl
not_in_node Properties s n h = absurd (h refl)
not_in_node NodesOrText s n h = refl
not_in_node Xml s n h = refl

-- the arms of `draft`: o is what is opened
module _ {q : Result Start Refusal} {t : Tag} {r : Registers} {fs w e v : List ℕ} {k : ℕ} {a : List ℕ} {p : Place} {i : Bytes} {o : Opens} (at : p ≡ place_at r fs) (ip : i ≡ iri_text t.iri a) (op : o ≡ opens_at p i) where
  pub as_rdf : o ≡ what.Rdf → Ready e v k a → JudgesRoot q t r (is_wrapped p r.counts.depth) fs w e v k a → Drafts q t r fs w e v k a a
  unfolding place_is
  as_rdf h rd j =
      let f = rdf_at p i (sym op ∙ h) in
      record {
        cases = λ ids used m bs is ia il st cs rs y.
            j.cases ids used m bs is ia il st cs rs rd y (standing at y ∙ rw f.0) (sym (named_rdf ip y) ∙ f.1) (wraps_at r fs y.level at y.tells.is.iri (λ q. outside-node (sym f.0 ∙ q)))
            (root_at r fs y.level at (omega (arith, y.lawful.valid.deep)) y.lawful.valid.frame_words f.0);
        measurable = j.measurable;
        same = refl;
      }

  pub as_node : {b : List ℕ} → o ≡ what.Node → JudgesNode q t r (is_wrapped p r.counts.depth) fs w e v k a b → Drafts q t r fs w e v k a b
  as_node h j =
      record {
        cases = λ ids used m bs is ia il st cs rs y.
            j.cases ids used m bs is ia il st cs rs y (rw (standing at y) (node_at p i y.tells.is _ _ r.counts.labels (sym op ∙ h) (named_rdf ip y)))
            (rw (standing at y) (not_in_node p _ _ (node_elsewhere p i (sym op ∙ h))))
            (wraps_at r fs y.level at y.tells.is.iri (node_elsewhere p i (sym op ∙ h)));
        measurable = j.measurable;
        same = j.same;
      }

  pub as_property : {b : List ℕ} → o ≡ what.Property → JudgesProperty q t r fs w e v k a b → Drafts q t r fs w e v k a b
  unfolding place_is
  as_property h j =
      let f = property_at p i (sym op ∙ h) in
      record {
        cases = λ ids used m bs is ia il st cs rs y.
            let n : OnNode r fs w = on_node y.lawful.valid (sym at ∙ f) in
            j.cases ids used m bs is ia il st cs rs y n.kind (omega (arith, y.lawful.valid.deep)) y.lawful.valid.frame_words (standing at y ∙ rw (f, n.subject, n.counted));
        measurable = j.measurable;
        same = j.same;
      }

-- ---- the limits

module _ {q : Result Start Refusal} {t : Tag} {r : Registers} {fs w e v : List ℕ} {k : ℕ} {a b : List ℕ} (d : Drafts q t r fs w e v k a b) where
  pub tag-refused : {ids used m : ℕ} {n : Refusal} → q ≡ Err n → Judges (Err n) t r ids used fs w e v m k a b
  tag-refused {ids} {used} {m} h = record { cases = λ bs is ia il st cs rs y. rw h at (d.cases ids used m bs is ia il st cs rs y); same = d.same }

  module _ {x : Start} (h : q ≡ Ok x) where
    pub fits_asks : Ready e v k a → (Short e b) × (k ≤ most_attributes) × (Fitting x.plan.parts)
    unfolding most_attributes
    fits_asks rd = (record { event = omega (arith, rd.event); area = omega (arith, rd.small, d.same) }, omega (arith, rd.few), rw h at d.measurable)

    module _ {u : Bool} {ids used m : ℕ} (f : Fits u x.plan.parts x.id (r.store.top - r.store.noted) ids used e v m k b) where
      waiting : {bs is ia il st cs rs : List ℕ} → Known t r ids used fs bs is w ia il st e v m k cs rs a → Waits x r ids used fs bs is w ia il st e v m k cs rs b
      waiting {bs} {is} {ia} {il} {st} {cs} {rs} y = rw h at (d.cases ids used m bs is ia il st cs rs y)

      pub tag_full : u ≡ false → Judges (Err OverLimit) t r ids used fs w e v m k a b
      tag_full z = record { cases = λ bs is ia il st cs rs y. (waiting y).full f.measures (sym f.is ∙ z); same = d.same }

      pub tag_goes : u ≡ true → Judges (Ok x) t r ids used fs w e v m k a b
      tag_goes z = record { cases = λ bs is ia il st cs rs y. (waiting y).fits f.measures (sym f.is ∙ z); same = d.same }
