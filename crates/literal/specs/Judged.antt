-- A start tag inside Literal content: refusals 6, counts (7) and 8, in order.
use Rattle.std.specs.Prelude.{◌≡◌, refl, Bool, true, false, ◌&&◌, ◌||◌, not, List, [], ◌∷◌, ◌++◌, ℕ, zero, suc, ◌+◌, ◌<◌, ◌≤◌, leb, length, take}
use Rattle.std.proofs.Common.{sym, ap, ◌∙◌, arith, length-append, leb-true}
use Rattle.std.proofs.lemmas.Bool.{false≢true}
use Rattle.std.proofs.Math.Option.{none}
use Rattle.spec.specs.Limits as L
use Rattle.spec.specs.Limits.{most_open_elements, most_attributes, most_bindings}
use Rattle.spec.specs.Bytes.{Bytes, is_empty, when◌then◌else◌, ◌>>=◌, ◌>>◌, require◌or◌, each}
use Rattle.spec.specs.Numbers.{Answer, refuse, good}
use Rattle.spec.specs.declared.Refusal.{Refusal}
use Rattle.spec.specs.declared.Refusal.TheVariants.{NotWellFormed, OverLimit, NoNamespace}
use Rattle.spec.specs.Pyx.{Attribute, opening}
use Rattle.spec.specs.Namespaces.{Binding, declared, is_declaration, name_of, all_legal, is_known, repeats_written, known_attribute}
use Rattle.spec.specs.Document.{Frame as Element, ordinary, xml_element, Doc, with_frames, change_value, in_scope, place_in, xml}
use Rattle.spec.specs.XmlLiteral.{start_tag_xml, takes_xml, add_xml}
use Rattle.spec.specs.Opening.{Step, is_second_root, counts_fit, copy_element, open_in, is_xml, repeated, on_opening}
use Rattle.spec.specs.RdfXml.{on_event}
use Rattle.spec.proofs.Booleans.{and_left, and_right}
use Rattle.spec.specs.XmlLang.{unsaid}
use Rattle.state.specs.declared.Registers.{Registers}
use Rattle.state.specs.Meaning.{bindings_of, elements_of, doc_of}
use Rattle.state.specs.Valid.{Valid}
use Rattle.state.specs.Held.{depth}
use Rattle.state.specs.Live.{in_scope_lem}
use Rattle.start_names.specs.Tag.{attributes_from, Split, Splits}
use Rattle.literal.specs.Quiet.{Quietly, Quiet, quiet_refused}
use Rattle.std.specs.Prelude.{Result, Ok, Err}

-- what is known of a decoded start tag: its name is the first m bytes, with the colon's place plus 1, or 0, in c, and it has k attributes
pub record Tag (e w : List ℕ) (m c k : ℕ) : Type 0 where
  pub short : length e ≤ 65_536
  pub few : k ≤ most_attributes
  pub name : Split c (take m e)
  pub names : Splits e w k

abbrev pub decided : Result Unit Refusal → Answer (Unit {0})
decided (Err n) = refuse n
decided (Ok _) = good tt

-- counts (7): open elements, this one apart, attributes, bindings
unfoldable pub counts : ℕ → ℕ → ℕ → Bool
counts d a b = leb (suc d) most_open_elements && (leb a most_attributes && leb b most_bindings)

-- 8 for no attribute
unfoldable pub all_known : List Binding → List Attribute → Bool
all_known bs [] = true
all_known bs (a ∷ as') = (is_declaration a || is_known bs (name_of a)) && all_known bs as'

-- the tests of a start tag with d elements open around it, whose bindings are bs
unfoldable pub judgement : Bytes → List Attribute → ℕ → List Binding → Answer (Unit {0})
judgement n as' d bs =
    (require all_legal (declared as') && not (repeats_written as') or NotWellFormed)
    >> ((require counts d (length as') (length (declared as' ++ bs)) or OverLimit)
    >> ((require is_known (declared as' ++ bs) n or NoNamespace) >> (each (known_attribute (declared as' ++ bs)) as' >> good tt)))

-- the element that it opens
abbrev pub copied : Bytes → List Attribute → Element
copied n as' = record { name = n; bindings = declared as'; own_base = none; own_tag = unsaid; kind = xml_element; part = ordinary }

-- ---- the definitions' answer

in_order : (a b c : Bool) (x : Answer (List (Unit {0}))) (s : Step)
    → ((require a or NotWellFormed) >> ((require b or OverLimit) >> ((require c or NoNamespace) >> (x >> good s))))
    ≡ (((require a or NotWellFormed) >> ((require b or OverLimit) >> ((require c or NoNamespace) >> (x >> good (tt {0}))))) >> good s)
unfolding ◌>>◌ require◌or◌
in_order false b c x s = refl
in_order true false c x s = refl
in_order true true false x s = refl
in_order true true true (refuse n) s = refl
in_order true true true (good l) s = refl

-- elements are open in Literal content
not_second : (d : Doc) → place_in d.frames ≡ xml → is_second_root d ≡ false
unfolding is_second_root is_empty place_in is_xml
not_second d p = go d.rooted d.frames p
  where
    go : (b : Bool) (es : List Element) → place_in es ≡ xml → (b && is_empty es) ≡ false
    go false es q = refl
    go true [] q = absurd (false≢true (ap is_xml q))
    go true (e ∷ es) q = refl

pub opening_judged : (n : Bytes) (as' : List Attribute) (d : Doc) → place_in d.frames ≡ xml
    → on_opening n as' d ≡ (judgement n as' (length d.frames) (in_scope d.frames) >> good ([], with_frames (copied n as' ∷ change_value (takes_xml (start_tag_xml n as')) d.frames) d))
unfolding on_opening judgement counts repeated counts_fit open_in is_xml copy_element add_xml with_frames when◌then◌else◌
opening_judged n as' d p = rw (not_second d p, p) (in_order _ _ _ _ _)

-- ---- of a state

-- so many are open, and these bindings are in scope
pub length_bindings : (bs w : List ℕ) (b n : ℕ) → length (bindings_of bs w b n) ≡ n
unfolding bindings_of
length_bindings bs w b zero = refl
length_bindings bs w b (suc n) = ap suc (length_bindings bs w b n)

pub length-attributes : (e w : List ℕ) (j m : ℕ) → length (attributes_from e w j m) ≡ m
unfolding attributes_from
length-attributes e w j zero = refl
length-attributes e w j (suc m) = ap suc (length-attributes e w (suc j) m)

-- the tests with the elements of a state open around it
abbrev judged_in : Registers → List ℕ → List ℕ → Bytes → List Attribute → Answer (Unit {0})
judged_in r bs w n as' = judgement n as' (r.counts.depth + r.counts.inner) (bindings_of bs w 0 r.counts.bindings)

-- what `judge` answers
pub record Judges (r : Registers) (bs w : List ℕ) (n : Bytes) (as' : List Attribute) (j : Result Unit Refusal) : Type 0 where
  pub is : decided j ≡ judged_in r bs w n as'

module _ {r : Registers} {fs bs is w : List ℕ} (v : Valid r fs bs is w) (p : place_in (elements_of r fs bs is w) ≡ xml) where
  answered : (n : Bytes) (as' : List Attribute) (ids : List Bytes) → on_event (opening n as') (doc_of r fs bs is w ids)
      ≡ (judged_in r bs w n as' >> good ([], with_frames (copied n as' ∷ change_value (takes_xml (start_tag_xml n as')) (elements_of r fs bs is w)) (doc_of r fs bs is w ids)))
  unfolding on_event doc_of
  answered n as' ids = opening_judged n as' (doc_of r fs bs is w ids) p ∙ rw (depth r fs bs is w, in_scope_lem v)

  module _ {n : Bytes} {as' : List Attribute} {j : Result Unit Refusal} (h : Judges r bs w n as' j) where
    pub judged_refused : {x : Refusal} → j ≡ Err x → Quietly (opening n as') r (Err x) fs bs is w fs bs is w
    unfolding ◌>>◌
    judged_refused e = quiet_refused (λ ids. answered n as' ids ∙ rw (← h.is, e))

    pub judged_quiet : j ≡ Ok tt → Quiet (opening n as') r fs bs is w (copied n as' ∷ change_value (takes_xml (start_tag_xml n as')) (elements_of r fs bs is w))
    unfolding ◌>>◌
    judged_quiet e = record { step = λ ids. answered n as' ids ∙ rw (← h.is, e) }

-- what is known of the counts where it goes on
pub record Counted (r : Registers) (as' : List Attribute) : Type 0 where
  pub deep : r.counts.depth + r.counts.inner < 64
  pub few : length (declared as') + r.counts.bindings ≤ 128

abbrev is_good : Answer (Unit {0}) → Bool
is_good (refuse n) = false
is_good (good x) = true

counted : (n : Bytes) (as' : List Attribute) (d : ℕ) (bs : List Binding) → judgement n as' d bs ≡ good tt → counts d (length as') (length (declared as' ++ bs)) ≡ true
unfolding judgement ◌>>◌ require◌or◌
counted n as' d bs h = go (all_legal (declared as') && not (repeats_written as')) (counts d (length as') (length (declared as' ++ bs))) _ h
  where
    go : (a b : Bool) (x : Answer (Unit {0})) → ((require a or NotWellFormed) >> ((require b or OverLimit) >> x)) ≡ good tt → b ≡ true
    go false b x q = absurd (false≢true (ap is_good q))
    go true false x q = absurd (false≢true (ap is_good q))
    go true true x q = refl

pub judged_counts : {r : Registers} {bs w : List ℕ} {n : Bytes} {as' : List Attribute} {j : Result Unit Refusal} → Judges r bs w n as' j → j ≡ Ok tt → Counted r as'
unfolding counts L.all
judged_counts {r} {bs} {w} {n} {as'} h e =
    let g : judged_in r bs w n as' ≡ good tt = sym h.is ∙ ap decided e in
    let c = counted n as' (r.counts.depth + r.counts.inner) (bindings_of bs w 0 r.counts.bindings) g in
    let b = and_right (leb (length as') 64) _ (and_right (leb (suc (r.counts.depth + r.counts.inner)) 64) _ c) in
    let l = length-append (declared as') (bindings_of bs w 0 r.counts.bindings) in
    record {
      deep = leb-true (suc (r.counts.depth + r.counts.inner)) 64 (and_left (leb (suc (r.counts.depth + r.counts.inner)) 64) _ c);
      few = omega (arith, leb-true (length (declared as' ++ bindings_of bs w 0 r.counts.bindings)) 128 b, length_bindings bs w 0 r.counts.bindings);
    }

-- ---- the tests of `judge`

each_known : (bs : List Binding) (as' : List Attribute) → (each (known_attribute bs) as' >> good (tt {0})) ≡ (require all_known bs as' or NoNamespace)
unfolding each known_attribute all_known ◌>>=◌ ◌>>◌ require◌or◌
each_known bs [] = refl
each_known bs (a ∷ as') = go (is_declaration a || is_known bs (name_of a)) (each (known_attribute bs) as') (each_known bs as')
  where
    go : (t : Bool) (x : Answer (List (Unit {0}))) → (x >> good (tt {0})) ≡ (require all_known bs as' or NoNamespace)
        → (((require t or NoNamespace) >>= λ u. x >>= λ us. good (u ∷ us)) >> good (tt {0})) ≡ (require t && all_known bs as' or NoNamespace)
    go false x q = refl
    go true (refuse m) q = q
    go true (good us) q = q

module _ {r : Registers} {bs w : List ℕ} {n : Bytes} {as' : List Attribute} where
  pub judge_illegal : all_legal (declared as') ≡ false → Judges r bs w n as' (Err NotWellFormed)
  unfolding judgement ◌>>◌ require◌or◌
  judge_illegal h = record { is = rw h }

  module _ (l : all_legal (declared as') ≡ true) where
    pub judge-repeats : repeats_written as' ≡ true → Judges r bs w n as' (Err NotWellFormed)
    unfolding judgement ◌>>◌ require◌or◌
    judge-repeats h = record { is = rw (l, h) }

    module _ (u : repeats_written as' ≡ false) where
      pub judge-counts : counts (r.counts.depth + r.counts.inner) (length as') (length (declared as' ++ bindings_of bs w 0 r.counts.bindings)) ≡ false → Judges r bs w n as' (Err OverLimit)
      unfolding judgement ◌>>◌ require◌or◌
      judge-counts h = record { is = rw (l, u, h) }

      module _ (c : counts (r.counts.depth + r.counts.inner) (length as') (length (declared as' ++ bindings_of bs w 0 r.counts.bindings)) ≡ true) where
        pub judge_element : is_known (declared as' ++ bindings_of bs w 0 r.counts.bindings) n ≡ false → Judges r bs w n as' (Err NoNamespace)
        unfolding judgement ◌>>◌ require◌or◌
        judge_element h = record { is = rw (l, u, c, h) }

        module _ (k : is_known (declared as' ++ bindings_of bs w 0 r.counts.bindings) n ≡ true) where
          pub judge-attributes : all_known (declared as' ++ bindings_of bs w 0 r.counts.bindings) as' ≡ false → Judges r bs w n as' (Err NoNamespace)
          unfolding judgement ◌>>◌ require◌or◌
          judge-attributes h = record { is = rw (l, u, c, k, each_known (declared as' ++ bindings_of bs w 0 r.counts.bindings) as', h) }

          pub judge_good : all_known (declared as' ++ bindings_of bs w 0 r.counts.bindings) as' ≡ true → Judges r bs w n as' (Ok tt)
          unfolding judgement ◌>>◌ require◌or◌
          judge_good h = record { is = rw (l, u, c, k, each_known (declared as' ++ bindings_of bs w 0 r.counts.bindings) as', h) }
