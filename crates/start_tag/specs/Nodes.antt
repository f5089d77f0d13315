-- Node elements: judged, and what is made of one.
use Rattle.std.specs.Prelude.{ℕ, suc, ◌+◌, ◌*◌, ◌<◌, ◌≤◌, ◌≡◌, Bool, true, false, List, [], ltb, length}
use Rattle.std.proofs.Math.Path.{refl, ap}
use Rattle.std.proofs.Common.{sym, ◌∙◌, arith, add-one}
use Rattle.std.proofs.Math.Bool.{not}
use Rattle.std.proofs.lemmas.Bool.{not-false}
use Rattle.spec.specs.Bytes.{Bytes, same, is_some}
use Rattle.label.specs.Label.{length_label}
use Rattle.spec.specs.Numbers.{Answer, refuse, good}
use Rattle.spec.specs.declared.Refusal.{Refusal}
use Rattle.spec.specs.declared.Refusal.TheVariants.{OverLimit, Reserved, ProfileBroken}
use Rattle.spec.specs.Limits.{most_labels, most_held_bytes}
use Rattle.spec.specs.Rdf.{rdf, may_be_node}
use Rattle.spec.specs.NTriples.{label}
use Rattle.spec.specs.Document.{place_in}
use Rattle.spec.specs.Xmp as X
use Rattle.spec.specs.Xmp.{new_part, noted}
use Rattle.spec.specs.Opening.{is_xml}
use Rattle.state_words.specs.declared.Kind.TheVariants.{NodeElt}
use Rattle.state_ids.specs.Ids.{ids_of}
use Rattle.spec.specs.Productions.{tag_lines, element_type, open_node}
use Rattle.copy.specs.Copy.{part, Wrote, wrote_part, wrote_same}
use Rattle.state_words.specs.Kept.{kept_before, kept_behind, kept_less}
use Rattle.spec.specs.XmlLang.{carries}
use Rattle.state.specs.Language.{is_said, carries_by_lem}
use Rattle.state.specs.declared.Registers.{Registers}
use Rattle.state.specs.Meaning.{subject_below, elements_of}
use Rattle.state.specs.Valid.{stands}
use Rattle.start_element.specs.declared.Pending.{Pending}
use Rattle.start_attributes.specs.Judgment.{said}
use Rattle.start_rules.specs.Judged.{NodeTag, NodeJudged, node_subject, node_opened, node_reserved}
use Rattle.start_element.specs.declared.Source.TheVariants.{Missing}
use Rattle.start_element.specs.Element.{text_of, part_is}
use Rattle.start_element.specs.Laws.{Counts, CountedBy, NotedBy, noting}
use Rattle.start_plan.specs.declared.Plan.{Plan}
use Rattle.start_plan.specs.declared.Given.{Given}
use Rattle.start_plan.specs.declared.Start.{Start}
use Rattle.start_plan.specs.Plan.{subject_in, node_plan}
use Rattle.start_plan.specs.Says.{Says, node-subject}
use Rattle.start_plan.specs.Does.{Does, does_node}
use Rattle.start_plan.specs.Goes.{told, main_of, object_of, property_of}
use Rattle.start_tag.specs.declared.reading.Tag.{Tag}
use Rattle.start_tag.specs.Giving.{is_missing, made_there, value-given, Gives, shorts, Keeps, given-says}
use Rattle.start_form.specs.Order.{production_in}
use Rattle.start_tag.specs.Names.{iri_text, node-name, description-name, alt-name}
use Rattle.start_tag.specs.Rules.{is_reserved, node-free}
use Rattle.start_tag.specs.Packets as P
use Rattle.start_tag.specs.Packets.{node_part}
use Rattle.start_tag.specs.Remembered.{in_node, node-part, noted-base, noted_so, main_about, main_short, Unnamed, unnamed}
use Rattle.start_tag.specs.Judges.{Known, Waits, Drafted, Measurable, start_by, reserved_stops, broken_stops, production_stops, long_stops, waits}
use Rattle.std.specs.Prelude.{Result, Ok, Err}

-- what is asked of the scratch, the words and the area
pub record Ready (e v : List ℕ) (k : ℕ) (a : List ℕ) : Type 0 where
  pub event : length e ≤ 32_768
  pub words : k * 4 ≤ length v
  pub room : most_held_bytes ≤ length a
  pub small : length a ≤ 65_536
  pub few : k ≤ 64

-- ---- what is made of a node

-- its label, in b; kind: what it is in a packet
pub record MakesNode (x : Start) (t : Tag) (kind : Pending) (named wrapped : Bool) (labels : ℕ) (e v : List ℕ) (k : ℕ) (a b : List ℕ) : Type 0 where
  pub parts : Given
  pub gives : Gives t v k parts
  pub is : x ≡ start_by (node_plan parts kind (labels + 1)) t wrapped named Missing
  pub wrote : Wrote a b 6144 6156 (label (labels + 1))

-- all that was made before stays
pub label-keeps : {a b : List ℕ} {n : ℕ} {l : Bytes} → most_held_bytes ≤ length a → n ≤ 6224 → Wrote a b 6144 n l → Keeps a b
label-keeps {a} {b} h u w = record { before = kept_before w; behind = kept_less (kept_behind (length a) w) u (omega arith); same = wrote_same w; room = h }

pub label-made : {a b : List ℕ} (n : ℕ) → Wrote a b 6144 6156 (label (n + 1)) → part b 6144 12 ≡ label (suc n)
label-made {a} {b} n w =
    let l : length (label (n + 1)) ≡ 12 = length_label (n + 1) in
    rw (← l) (wrote_part w) ∙ ap label (add-one n)

-- ---- judged

-- a child of this name is counted in the element on top where it is wrapped
pub record Wraps (r : Registers) (fs : List ℕ) (i : Bytes) (wrapped : Bool) : Type 0 where
  pub counted : CountedBy r fs i wrapped
  pub counts : wrapped ≡ true → Counts r fs

pub record JudgesNode (q : Result Start Refusal) (t : Tag) (r : Registers) (wrapped : Bool) (fs w e v : List ℕ) (k : ℕ) (a b : List ℕ) : Type 0 where
  pub cases : (count used m : ℕ) (bs is ia il st cs rs : List ℕ) (y : Known t r count used fs bs is w ia il st e v m k cs rs a)
      → production_in (place_in (elements_of r fs bs is w)) y.tells.is r.counts.labels ≡ open_node y.tells.is r.counts.labels → in_node (place_in (elements_of r fs bs is w)) ≡ false → Wraps r fs y.tells.is.iri wrapped
      → Drafted q r count used fs bs is w ia il st e v m k cs rs b
  pub measurable : Measurable q
  pub same : length b ≡ length a

pub refused_good : {A : Type 0} (n : Refusal) (o : A) → ◌≡◌ {A = Answer A} (refuse n) (good o) → ⊥
refused_good n o h = let z : ◌≡◌ {A = ℕ} 0 1 = cc in omega arith

-- what the calls tell `judge_node`
module _ {t : Tag} {r : Registers} {count used : ℕ} {fs bs is w ia il st e v : List ℕ} {m k : ℕ} {cs rs a : List ℕ} (y : Known t r count used fs bs is w ia il st e v m k cs rs a) where
  pub node-tag : {i : Bytes} {reserved : Bool} → i ≡ iri_text t.iri a → reserved ≡ not (may_be_node i)
      → NodeTag y.tells.is reserved (not (is_missing t.id)) (ltb t.node k) (not (is_missing t.about))
  node-tag p q =
      record {
        name = q ∙ ap (λ (i : Bytes). not (may_be_node i)) p ∙ ap not (node-name a y.tells.is.iri t.iri y.tells.iri);
        has_id = sym (made_there a 0 y.tells.is.id t.id y.tells.id);
        has_node_id = sym (ap is_some y.tells.node_id ∙ value-given e v k t.node);
        has_about = sym (made_there a 1024 y.tells.is.about t.about y.tells.about);
      }

-- ---- how `judge_node` comes to its answer

-- a label is left
pub node-left : {reserved id node about : Bool} {n : ℕ} {j : Result Unit Refusal} → NodeJudged reserved id node about n j → j ≡ Ok tt → n < 99_999_999
unfolding most_labels
node-left jd h = jd.left h

-- i: the element's name as it was read
module _ {t : Tag} {r : Registers} {fs w e v : List ℕ} {k : ℕ} {a : List ℕ} {i : Bytes} {reserved : Bool} (p : i ≡ iri_text t.iri a) (q : reserved ≡ not (may_be_node i)) where
  -- 14
  pub node_reserved_here : {wrapped : Bool} → reserved ≡ true → JudgesNode (Err Reserved) t r wrapped fs w e v k a a
  node_reserved_here h =
      record {
        cases = λ count used m bs is ia il st cs rs y as_node out ws. reserved_stops y (as_node ∙ (node_reserved h).is y.tells.is (node-tag y p q));
        measurable = tt;
        same = refl;
      }

  module _ (rf : reserved ≡ false) where
    allowed : {count used m : ℕ} {bs is ia il st cs rs : List ℕ} (y : Known t r count used fs bs is w ia il st e v m k cs rs a) → may_be_node y.tells.is.iri ≡ true
    allowed y = not-false (may_be_node y.tells.is.iri) (sym (node-tag y p q).name ∙ rf)

    module _ {u : Bool} (kb : P.Keeps u t r fs w e v k a) where
      kept_is : {count used m : ℕ} {bs is ia il st cs rs : List ℕ} (y : Known t r count used fs bs is w ia il st e v m k cs rs a) → u ≡ X.keeps r.mode.xmp (elements_of r fs bs is w) y.tells.is
      kept_is {count = count} {ia = ia} {il} {st} y = kb.is (ids_of ia il st count) y.lawful.valid y.level y.tells

      -- 19
      pub node_broken : {wrapped : Bool} → u ≡ false → JudgesNode (Err ProfileBroken) t r wrapped fs w e v k a a
      node_broken h =
          record {
            cases = λ count used m bs is ia il st cs rs y as_node out ws. broken_stops y (sym (kept_is y) ∙ h) (ap is_reserved as_node ∙ node-free y.tells.is r.counts.labels (allowed y));
            measurable = tt;
            same = refl;
          }

      -- f and g: are its rdf:ID and its rdf:about missing? n: what it is in a packet
      module _ (kt : u ≡ true) {named f g : Bool} {n : Pending} {j : Result Unit Refusal} (pt : n ≡ node_part r.mode.xmp i) (nm : named ≡ same i (rdf "Description")) (fm : f ≡ is_missing t.id) (gm : g ≡ is_missing t.about)
          (jg : NodeJudged reserved (not f) (ltb t.node k) (not g) r.counts.labels j) where
        tagged : {count used m : ℕ} {bs is ia il st cs rs : List ℕ} (y : Known t r count used fs bs is w ia il st e v m k cs rs a) → NodeTag y.tells.is reserved (not f) (ltb t.node k) (not g)
        tagged y =
            let n = node-tag y p q in
            record { name = n.name; has_id = ap not fm ∙ n.has_id; has_node_id = n.has_node_id; has_about = ap not gm ∙ n.has_about }

        kept : {count used m : ℕ} {bs is ia il st cs rs : List ℕ} (y : Known t r count used fs bs is w ia il st e v m k cs rs a) → X.keeps r.mode.xmp (elements_of r fs bs is w) y.tells.is ≡ true
        kept y = sym (kept_is y) ∙ kt

        -- 15, 18
        pub node-refused : {wrapped : Bool} {x : Refusal} → j ≡ Err x → JudgesNode (Err x) t r wrapped fs w e v k a a
        node-refused h =
            record {
              cases = λ count used m bs is ia il st cs rs y as_node out ws. production_stops y (kept y) (as_node ∙ (jg.is y.tells.is (tagged y) ∙ ap (λ (x : Result Unit Refusal). said x (node_opened y.tells.is r.counts.labels)) h));
              measurable = tt;
              same = refl;
            }

        module _ (h : j ≡ Ok tt) where
          opens : {count used m : ℕ} {bs is ia il st cs rs : List ℕ} (y : Known t r count used fs bs is w ia il st e v m k cs rs a)
              → production_in (place_in (elements_of r fs bs is w)) y.tells.is r.counts.labels ≡ open_node y.tells.is r.counts.labels
              → production_in (place_in (elements_of r fs bs is w)) y.tells.is r.counts.labels ≡ good (node_opened y.tells.is r.counts.labels)
          opens y as_node = as_node ∙ (jg.is y.tells.is (tagged y) ∙ ap (λ (x : Result Unit Refusal). said x (node_opened y.tells.is r.counts.labels)) h)

          pub node-long : {wrapped : Bool} → t.short ≡ false → JudgesNode (Err OverLimit) t r wrapped fs w e v k a a
          node-long s = record { cases = λ count used m bs is ia il st cs rs y as_node out ws. long_stops y (kept y) (opens y as_node) s; measurable = tt; same = refl }

          module _ {wrapped : Bool} {b : List ℕ} {x : Start} (s : t.short ≡ true) (rd : Ready e v k a) (mk : MakesNode x t n (not named) wrapped r.counts.labels e v k a b) where
            module _ {count used m : ℕ} {bs is ia il st cs rs : List ℕ} (y : Known t r count used fs bs is w ia il st e v m k cs rs a)
                (as_node : production_in (place_in (elements_of r fs bs is w)) y.tells.is r.counts.labels ≡ open_node y.tells.is r.counts.labels)
                (out : in_node (place_in (elements_of r fs bs is w)) ≡ false) (ws : Wraps r fs y.tells.is.iri wrapped) where
              keeps : Keeps a b
              keeps = label-keeps rd.room (omega arith) mk.wrote

              made : part b 6144 12 ≡ label (suc r.counts.labels)
              made = label-made r.counts.labels mk.wrote

              one : r.counts.labels + 1 ≡ suc r.counts.labels
              one = add-one r.counts.labels

              says : Says mk.parts e b y.tells.is
              says = given-says y.tells s keeps rd.event mk.gives

              -- what it is in a packet
              in_packet : part_is NodeElt (node_plan mk.parts n (suc r.counts.labels)).parts e b ≡ new_part r.mode.xmp (place_in (elements_of r fs bs is w)) y.tells.is.iri
              in_packet =
                  rw pt
                  (node-part r.mode.xmp mk.parts (suc r.counts.labels) e b (elements_of r fs bs is w) y.tells.is i (kept y) (allowed y) outer out
                  (ap (λ (o : Bytes). same o (rdf "Alt")) p ∙ alt-name a y.tells.is.iri t.iri y.tells.iri))
                where
                  outer : is_xml (place_in (elements_of r fs bs is w)) ≡ false
                  outer = (y.formed.form []).starts.outer

              does : Does (node_plan mk.parts n (r.counts.labels + 1)) e b (subject_below fs w r.counts.depth) (node_opened y.tells.is r.counts.labels) (new_part r.mode.xmp (place_in (elements_of r fs bs is w)) y.tells.is.iri)
              does = rw one (does_node mk.parts e b (subject_below fs w r.counts.depth) says r.counts.labels made n in_packet)

              told-lines : (node_opened y.tells.is r.counts.labels).lines
                  ≡ told (node_plan mk.parts n (r.counts.labels + 1)).lines (main_of (start_by (node_plan mk.parts n (r.counts.labels + 1)) t wrapped (not named) Missing) e b) (object_of (start_by (node_plan mk.parts n (r.counts.labels + 1)) t wrapped (not named) Missing) e b) y.tells.is.language y.tells.is.attributes y.tells.is.type (element_type y.tells.is.iri) (property_of (start_by (node_plan mk.parts n (r.counts.labels + 1)) t wrapped (not named) Missing) e b (subject_below fs w r.counts.depth))
              unfolding told node_opened node_subject tag_lines
              told-lines = rw (node-subject e b (label (suc r.counts.labels)) made mk.parts says)

              -- neither rdf:ID nor rdf:nodeID, in the profile
              nameless : r.mode.xmp ≡ true → Unnamed y.tells.is
              nameless z = unnamed (elements_of r fs bs is w) y.tells.is (sym (ap (λ (o : Bool). X.keeps o (elements_of r fs bs is w) y.tells.is) z) ∙ kept y)

              noted_is : NotedBy (noted r.mode.xmp y.tells.is) (noting r.mode.xmp wrapped (text_of (subject_in mk.parts).source e b) (is_said mk.parts.tag)) (elements_of r fs bs is w)
              noted_is = by_profile r.mode.xmp refl
                where
                  by_profile : (o : Bool) → r.mode.xmp ≡ o → NotedBy (noted r.mode.xmp y.tells.is) (noting r.mode.xmp wrapped (text_of (subject_in mk.parts).source e b) (is_said mk.parts.tag)) (elements_of r fs bs is w)
                  by_profile false z = noted-base y.tells.is (elements_of r fs bs is w) wrapped (text_of (subject_in mk.parts).source e b) (is_said mk.parts.tag) z
                  by_profile true z =
                      let u = nameless z in
                      noted_so y.tells.is wrapped (text_of (subject_in mk.parts).source e b) (sym (carries_by_lem mk.parts.tag b) ∙ ap carries says.tag) y.lawful.valid y.level ws.counted
                      (λ n d h x q. main_about e b mk.parts says u.id u.node_id x q) r.mode.xmp (kept y)

              brief : r.mode.xmp ≡ true → length (text_of (subject_in mk.parts).source e b) ≤ 1_024
              brief z =
                  let u = nameless z in
                  main_short e b mk.parts says u.id u.node_id (shorts y.tells.is (sym y.tells.short ∙ s)).about (omega (arith, ap length made, length_label (suc r.counts.labels)))

              drafted : Waits x r count used fs bs is w ia il st e v m k cs rs b
              unfolding stands
              drafted =
                  rw mk.is
                  (waits y (kept y) (opens y as_node) s keeps rd.event mk.gives refl refl does wrapped (not named) Missing
                  (record {
                    typed = ap not (nm ∙ (ap (λ (o : Bytes). same o (rdf "Description")) p ∙ description-name a y.tells.is.iri t.iri y.tells.iri));
                    counted = ws.counted;
                    noted = noted_is;
                    brief = brief;
                    numbered = ws.counts;
                    few = omega (arith, node-left jg h);
                    stood = refl;
                    lines = told-lines;
                  }))

            pub node_judged : JudgesNode (Ok x) t r wrapped fs w e v k a b
            node_judged = record { cases = λ count used m bs is ia il st cs rs y as_node out ws. drafted y as_node out ws; measurable = rw mk.is (record { lacks = (refl, refl, refl) }); same = wrote_same mk.wrote }

-- ---- what the calls ask, and what they tell

pub label_asks : {e v : List ℕ} {k : ℕ} {a : List ℕ} {n : ℕ} → Ready e v k a → n < most_labels → (n < most_labels) × (6144 + 12 ≤ length a)
unfolding most_held_bytes
label_asks rd l = (l, omega (arith, rd.room))

pub node_made : {x : Start} {t : Tag} {kind : Pending} {named wrapped : Bool} {labels n : ℕ} {e v : List ℕ} {k : ℕ} {a b : List ℕ} {g : Given} {p : Plan} → Gives t v k g → p ≡ node_plan g kind n → (n ≡ labels + 1) × Wrote a b 6144 (6144 + 12) (label (labels + 1))
    → x ≡ start_by p t wrapped named Missing → MakesNode x t kind named wrapped labels e v k a b
node_made {t = t} {named = named} {wrapped = wrapped} gv q w h =
    record { parts = _; gives = gv; is = h ∙ ap (λ (y : Plan). start_by y t wrapped named Missing) (q ∙ ap (node_plan _ _) w.0); wrote = w.1 }
