-- `text::parse_text_event` meets its contract: a law of each place.
use mathlib.Core.Path.{sym, ◌∙◌, refl}
use Rattle.text.specs.Blank.{stands-outside, stands-nodes, stands_properties, stands_xml}
use Rattle.text.proofs.parse_text_event.Goals as goal

pub text_inside-requires : goal.text_inside-requires
text_inside-requires c = (c.requires.0, c.requires.1, stands_xml c.requires.0.valid c.place_at-place.ensures c.in-Xml.is)

pub shape_of-frames-in-Outside : goal.shape_of-frames-in-Outside
shape_of-frames-in-Outside c = refl

pub returns-in-Outside : goal.returns-in-Outside
returns-in-Outside c = c.blank_only.ensures.quietly c.requires.0 (stands-outside c.requires.0.valid c.place_at-place.ensures c.in-Outside.is)

pub shape_of-frames-in-Nodes : goal.shape_of-frames-in-Nodes
shape_of-frames-in-Nodes c = refl

pub returns-in-Nodes : goal.returns-in-Nodes
returns-in-Nodes c = c.blank_only-in-Nodes.ensures.quietly c.requires.0 (stands-nodes c.requires.0.valid c.place_at-place.ensures c.in-Nodes.is)

pub shape_of-frames-in-Properties : goal.shape_of-frames-in-Properties
shape_of-frames-in-Properties c = refl

pub returns-in-Properties : goal.returns-in-Properties
returns-in-Properties c = c.blank_only-in-Properties.ensures.quietly c.requires.0 (stands_properties c.requires.0.valid c.place_at-place.ensures c.in-Properties.is)

pub shape_of-frames-in-NodesOrText : goal.shape_of-frames-in-NodesOrText
shape_of-frames-in-NodesOrText c = c.frames-1.given

pub shape_of-work-in-NodesOrText : goal.shape_of-work-in-NodesOrText
shape_of-work-in-NodesOrText c = c.work-1.given

pub returns-in-NodesOrText : goal.returns-in-NodesOrText
returns-in-NodesOrText c = c.take_text.ensures.quietly c.requires.0 (sym c.place_at-place.ensures ∙ c.in-NodesOrText.is)

pub shape_of-frames-in-Xml : goal.shape_of-frames-in-Xml
shape_of-frames-in-Xml c = c.frames-in-Xml-1.given

pub shape_of-work-in-Xml : goal.shape_of-work-in-Xml
shape_of-work-in-Xml c = c.work-in-Xml-1.given

pub shape_of-area : goal.shape_of-area
shape_of-area c = c.area-1.given

pub returns-in-Xml : goal.returns-in-Xml
returns-in-Xml c = c.text_inside.ensures
