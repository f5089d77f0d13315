-- The order of refusals of a start tag outside Literal content, requirement by requirement.
use Rattle.std.specs.Prelude.{ℕ, ◌≡◌, refl, Bool, true, false, List, [], ◌∷◌, ◌++◌}
use Rattle.std.proofs.Common.{sym, ◌∙◌}
use Rattle.std.proofs.lemmas.Bool.{false≢true}
use Rattle.spec.specs.Bytes.{Bytes, when◌then◌else◌, is_empty, ◌>>=◌, ◌>>◌, require◌or◌}
use Rattle.spec.specs.Numbers.{Answer, refuse, good}
use Rattle.spec.specs.declared.Refusal.{Refusal}
use Rattle.spec.specs.declared.Refusal.TheVariants.{NotWellFormed, OverLimit}
use Rattle.spec.specs.Pyx.{Attribute}
use Rattle.spec.specs.Namespaces.{declared, all_legal, repeats_expanded}
use Rattle.spec.specs.Document.{Frame, Doc, in_scope, Place, outside, nodes, nodes_or_text, xml, properties, place_in}
use Rattle.spec.specs.StartTag.{Tag, read_tag, is_short}
use Rattle.spec.specs.Productions.{Opened, open_node, open_property, open_root}
use Rattle.spec.specs.Xmp.{starts_wrapper, open_wrapper}
use Rattle.spec.specs.Opening.{is_second_root, counts_fit, opened, mode_rules, under_rules, open_element, open_in, is_xml, repeated, on_opening}

-- the production of a place outside Literal content; the last line is for a place that `by_production` leaves out
unfoldable pub production_in : Place → Tag → ℕ → Answer Opened
production_in outside t n = open_root t n
production_in nodes t n = open_node t n
production_in nodes_or_text t n = open_node t n
production_in (properties s li) t n = open_property t s li n
production_in xml t n = open_node t n

-- a start tag that does not open the wrapper
by_production : (p : Place) → is_xml p ≡ false → (n : Bytes) (as' : List Attribute) (d : Doc) → starts_wrapper d.mode.xmp n as' d.frames ≡ false
    → open_in p n as' d ≡ open_element (production_in p) n as' d
unfolding open_in is_xml production_in open_element when◌then◌else◌
by_production outside h n as' d o = rw o
by_production nodes h n as' d o = refl
by_production nodes_or_text h n as' d o = refl
by_production (properties s li) h n as' d o = refl
by_production xml h n as' d o = absurd (false≢true (sym h))

-- what the production of place p makes of a tag, under the rules of the document's mode
unfoldable pub produced_in : Place → Tag → Doc → Answer Opened
produced_in p t d = under_rules (mode_rules d.mode d.frames t) (production_in p t d.labels)

-- the wrapper stands in nothing
wrapper-outside : (p : Bool) (n : Bytes) (as' : List Attribute) (fs : List Frame) → starts_wrapper p n as' fs ≡ true → place_in fs ≡ outside
unfolding starts_wrapper place_in is_empty
wrapper-outside false n as' fs h = absurd (false≢true h)
wrapper-outside true n as' [] h = refl
wrapper-outside true n as' (f ∷ fs) h = absurd (false≢true h)

-- a start tag, with the place that it stands in
pub record Starts (p : Place) (n : Bytes) (as' : List Attribute) (d : Doc) : Type 0 where
  pub at : place_in d.frames ≡ p
  pub outer : is_xml p ≡ false

-- one that is well-formed there
pub record WellFormed (p : Place) (n : Bytes) (as' : List Attribute) (d : Doc) : Type 0 where
  pub starts : Starts p n as' d
  pub first : is_second_root d ≡ false
  pub legal : all_legal (declared as') ≡ true
  pub once : repeats_expanded (declared as' ++ in_scope d.frames) as' ≡ false

not_repeated : {p : Place} {n : Bytes} {as' : List Attribute} {d : Doc} {t : Bool} → Starts p n as' d → repeats_expanded (declared as' ++ in_scope d.frames) as' ≡ t
    → repeated (place_in d.frames) as' d ≡ t
unfolding repeated when◌then◌else◌
not_repeated s h = rw (s.at, s.outer) h

module _ {p : Place} {n : Bytes} {as' : List Attribute} {d : Doc} (s : Starts p n as' d) where
  -- 6
  pub second_root : is_second_root d ≡ true → on_opening n as' d ≡ refuse NotWellFormed
  unfolding on_opening ◌>>◌ require◌or◌
  second_root h = rw h

  pub illegal : is_second_root d ≡ false → all_legal (declared as') ≡ false → on_opening n as' d ≡ refuse NotWellFormed
  unfolding on_opening ◌>>◌ require◌or◌
  illegal h q = rw (h, q)

  pub repeats : is_second_root d ≡ false → all_legal (declared as') ≡ true → repeats_expanded (declared as' ++ in_scope d.frames) as' ≡ true → on_opening n as' d ≡ refuse NotWellFormed
  unfolding on_opening ◌>>◌ require◌or◌
  repeats h q r = rw (h, q, not_repeated s r)

module _ {p : Place} {n : Bytes} {as' : List Attribute} {d : Doc} (w : WellFormed p n as' d) where
  -- counts (7)
  pub too_many : counts_fit as' d.frames ≡ false → on_opening n as' d ≡ refuse OverLimit
  unfolding on_opening ◌>>◌ require◌or◌
  too_many h = rw (w.first, w.legal, not_repeated w.starts w.once, h)

  -- the wrapper of a packet
  pub opens_wrapper : counts_fit as' d.frames ≡ true → starts_wrapper d.mode.xmp n as' d.frames ≡ true → on_opening n as' d ≡ open_wrapper n as' d
  unfolding on_opening open_in ◌>>◌ require◌or◌ when◌then◌else◌
  opens_wrapper c h = rw (w.first, w.legal, not_repeated w.starts w.once, c, wrapper-outside d.mode.xmp n as' d.frames h, h)

  module _ (c : counts_fit as' d.frames ≡ true) (other : starts_wrapper d.mode.xmp n as' d.frames ≡ false) where
    opens : on_opening n as' d ≡ open_element (production_in p) n as' d
    unfolding on_opening ◌>>◌ require◌or◌
    opens = rw (w.first, w.legal, not_repeated w.starts w.once, c, w.starts.at) (by_production p w.starts.outer n as' d other)

    -- 8 to 14, as the tag is read
    pub unread : {x : Refusal} → read_tag n as' d ≡ refuse x → on_opening n as' d ≡ refuse x
    unfolding open_element ◌>>=◌
    unread h = opens ∙ rw h

    module _ {t : Tag} (r : read_tag n as' d ≡ good t) where
      -- 14, 15, 18, 19
      pub no_production : {x : Refusal} → produced_in p t d ≡ refuse x → on_opening n as' d ≡ refuse x
      unfolding open_element produced_in ◌>>=◌
      no_production h = opens ∙ rw (r, h)

      module _ {o : Opened} (q : produced_in p t d ≡ good o) where
        -- other limits (7): names and IRIs
        pub too_long_lem : is_short t ≡ false → on_opening n as' d ≡ refuse OverLimit
        unfolding open_element produced_in ◌>>=◌ ◌>>◌ require◌or◌
        too_long_lem h = opens ∙ rw (r, q, h)

        pub opens_good : is_short t ≡ true → on_opening n as' d ≡ good (opened t d o)
        unfolding open_element produced_in ◌>>=◌ ◌>>◌ require◌or◌
        opens_good h = opens ∙ rw (r, q, h)
