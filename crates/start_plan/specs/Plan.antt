-- The plan of a start tag, by its production.
use Rattle.std.specs.Prelude.{ℕ, ◌≡◌, Bool, true, false}
use Rattle.state_words.specs.declared.Kind.{Kind}
use Rattle.state_words.specs.declared.Kind.TheVariants.{Rdf, NodeElt, PropertyElt, Wrapper}
use Rattle.state_words.specs.Words.{pick}
use Rattle.state.specs.declared.language.Own.TheVariants.{Unsaid}
use Rattle.start_element.specs.declared.Pending.{Pending}
use Rattle.start_element.specs.declared.Pending.TheVariants as pending
use Rattle.start_element.specs.Element.{is_absent, is_blank}
use Rattle.start_element.specs.declared.Source.{Source}
use Rattle.start_element.specs.declared.Source.TheVariants.{Missing, Own, Made}
use Rattle.start_plan.specs.declared.Given.{Given}
use Rattle.start_plan.specs.declared.Lines.TheVariants.{Nothing, Node, Object, Resource}
use Rattle.start_plan.specs.declared.Plan.{Plan}
use Rattle.start_plan.specs.declared.Named.{Named}

abbrev pub is_there : Source → Bool
is_there Missing = false
is_there (Own i n) = true
is_there (Made i n) = true

-- a generated label, where it is made
abbrev pub made_label : Source
made_label = Made 6144 12

abbrev pub labelled : Named
labelled = record { source = made_label; what = pending.Blank }

-- named by rdf:ID or rdf:about, by rdf:nodeID, or by the label made for it
unfoldable pub subject_in : Given → Named
subject_in g =
    pick (is_there g.id) (record { source = g.id; what = pending.Named })
    (pick (is_there g.about) (record { source = g.about; what = pending.Named }) (pick (is_there g.node) (record { source = g.node; what = pending.Blank }) labelled))

-- rdf:resource, rdf:nodeID, the label made for property attributes, or none
unfoldable pub object_in : Given → Bool → Named
object_in g attributes =
    pick (is_there g.resource) (record { source = g.resource; what = pending.Named })
    (pick (is_there g.node) (record { source = g.node; what = pending.Blank }) (pick attributes labelled (record { source = Missing; what = pending.Absent })))

-- n: what it is in a packet
abbrev pub root_plan : Given → Pending → ℕ → Plan
root_plan g n labels =
    record {
      parts = record { kind = Rdf; blank = false; base = g.base; tag = g.tag; main = Missing; id = Missing; datatype = Missing; what = n; object = Missing };
      lines = Nothing;
      labels = labels;
    }

abbrev pub wrapper_plan : ℕ → Plan
wrapper_plan labels =
    record {
      parts = record { kind = Wrapper; blank = false; base = Missing; tag = Unsaid; main = Missing; id = Missing; datatype = Missing; what = pending.Absent; object = Missing };
      lines = Nothing;
      labels = labels;
    }

-- n: what it is in a packet
abbrev pub node_plan : Given → Pending → ℕ → Plan
node_plan g n labels =
    record {
      parts = record { kind = NodeElt; blank = is_blank (subject_in g).what; base = g.base; tag = g.tag; main = (subject_in g).source; id = Missing; datatype = Missing; what = n; object = Missing };
      lines = Node;
      labels = labels;
    }

abbrev pub default_plan : Given → Source → Bool → ℕ → Plan
default_plan g property attributes labels =
    record {
      parts = record {
        kind = PropertyElt;
        blank = false;
        base = g.base;
        tag = g.tag;
        main = property;
        id = g.id;
        datatype = g.datatype;
        what = (object_in g attributes).what;
        object = (object_in g attributes).source;
      };
      lines = pick (is_absent (object_in g attributes).what) Nothing Object;
      labels = labels;
    }

abbrev pub held_plan : Kind → Given → Source → ℕ → Plan
held_plan kind g property labels =
    record {
      parts = record { kind = kind; blank = false; base = g.base; tag = g.tag; main = property; id = g.id; datatype = Missing; what = pending.Absent; object = Missing };
      lines = Nothing;
      labels = labels;
    }

abbrev pub resource_plan : Given → ℕ → Plan
resource_plan g labels =
    record {
      parts = record { kind = NodeElt; blank = true; base = g.base; tag = g.tag; main = made_label; id = Missing; datatype = Missing; what = pending.Absent; object = Missing };
      lines = Resource;
      labels = labels;
    }

-- ---- how the calls come to them

module _ (g : Given) where
  pub by_id : is_there g.id ≡ true → record { source = g.id; what = pending.Named } ≡ subject_in g
  unfolding subject_in
  by_id h = rw h

  module _ (i : is_there g.id ≡ false) where
    pub by_about : is_there g.about ≡ true → record { source = g.about; what = pending.Named } ≡ subject_in g
    unfolding subject_in
    by_about h = rw (i, h)

    module _ (a : is_there g.about ≡ false) where
      pub by_node : is_there g.node ≡ true → record { source = g.node; what = pending.Blank } ≡ subject_in g
      unfolding subject_in
      by_node h = rw (i, a, h)

      pub by_label : {s : Source} → is_there g.node ≡ false → s ≡ made_label → record { source = s; what = pending.Blank } ≡ subject_in g
      unfolding subject_in
      by_label h e = rw (i, a, h, e)

  pub as_resource_lem : (t : Bool) → is_there g.resource ≡ true → record { source = g.resource; what = pending.Named } ≡ object_in g t
  unfolding object_in
  as_resource_lem t h = rw h

  module _ (r : is_there g.resource ≡ false) where
    pub as_node : (t : Bool) → is_there g.node ≡ true → record { source = g.node; what = pending.Blank } ≡ object_in g t
    unfolding object_in
    as_node t h = rw (r, h)

    module _ (n : is_there g.node ≡ false) where
      pub as_label : {t : Bool} {s : Source} → t ≡ true → s ≡ made_label → record { source = s; what = pending.Blank } ≡ object_in g t
      unfolding object_in
      as_label h e = rw (r, n, h, e)

      pub as_nothing : {t : Bool} → t ≡ false → record { source = Missing; what = pending.Absent } ≡ object_in g t
      unfolding object_in
      as_nothing h = rw (r, n, h)

-- a plan from what was found

module _ (g : Given) (property : Source) (t : Bool) (labels : ℕ) {n : Named} (e : n ≡ object_in g t) where
  pub default_none : is_absent n.what ≡ true
      → record {
        parts = record { kind = PropertyElt; blank = false; base = g.base; tag = g.tag; main = property; id = g.id; datatype = g.datatype; what = n.what; object = n.source };
        lines = Nothing;
        labels = labels;
      } ≡ default_plan g property t labels
  default_none h = rw (← e, h)

  pub default_some : is_absent n.what ≡ false
      → record {
        parts = record { kind = PropertyElt; blank = false; base = g.base; tag = g.tag; main = property; id = g.id; datatype = g.datatype; what = n.what; object = n.source };
        lines = Object;
        labels = labels;
      } ≡ default_plan g property t labels
  default_some h = rw (← e, h)

pub node_made : (g : Given) (part : Pending) (labels : ℕ) {n : Named} {b : Bool} → n ≡ subject_in g → b ≡ is_blank n.what
    → record {
      parts = record { kind = NodeElt; blank = b; base = g.base; tag = g.tag; main = n.source; id = Missing; datatype = Missing; what = part; object = Missing };
      lines = Node;
      labels = labels;
    } ≡ node_plan g part labels
node_made g part labels e q = rw (q, e)
