-- Document 01, "Order in step" and "From events to triples": what an event does to a document.
use Rattle.std.specs.Prelude.{Bool, ◌&&◌, []}
use Rattle.spec.specs.Bytes.{Bytes, ascii, when◌then◌else◌, among, is_empty, every, ◌>>=◌, ◌>>◌, require◌or◌}
use Rattle.spec.specs.Numbers.{Answer, good}
use Rattle.spec.specs.declared.Refusal.TheVariants.{NotWellFormed, OverLimit, StrayText}
use Rattle.spec.specs.Pyx.{Event, opening, closing, text, instruction}
use Rattle.spec.specs.Document.{text_object, Value, default, collection, literal, other, Doc, with_frames, Place, outside, nodes, nodes_or_text, xml, properties, place_in, fits, change_value}
use Rattle.spec.specs.XmlLiteral.{text_xml, add_xml}
use Rattle.spec.specs.Opening.{Step, on_opening}
use Rattle.spec.specs.EndTag.{close_element}
use Rattle.spec.specs.EndTag as C

-- ---- text (16)

-- only space, tab, LF, CR
unfoldable pub is_blank : Bytes → Bool
is_blank s = every (among (ascii " \t\n\r")) s

-- non-blank text replaces the object so far
unfoldable pub takes_text : Bytes → Value → Value
takes_text s (default d o) = default d (text_object s)
takes_text s (collection cs) = collection cs
takes_text s (literal x) = literal x
takes_text s other = other

-- by what the text stands in
unfoldable pub on_text : Place → Bytes → Doc → Answer Step
on_text outside s d = (require is_blank s or StrayText) >> good ([], d)
on_text nodes s d = (require is_blank s or StrayText) >> good ([], d)
on_text (properties u li) s d = (require is_blank s or StrayText) >> good ([], d)
on_text nodes_or_text s d = good ([], (when is_blank s then d else with_frames (change_value (takes_text s) d.frames) d))
on_text xml s d = good ([], add_xml (text_xml s) d)

-- ---- events

-- an instruction has no effect
unfoldable pub on_event : Event → Doc → Answer Step
on_event (opening n as') d = on_opening n as' d
on_event (closing n) d = close_element n d.frames d
on_event (text s) d = on_text (place_in d.frames) s d
on_event instruction d = good ([], d)

-- other limits (7): what is kept behind the event
unfoldable pub within : Step → Answer Step
within s = (require fits s.1 or OverLimit) >> good s

-- all that an event itself can be refused for, but the output room (2)
unfoldable pub next : Event → Doc → Answer Step
next e d = on_event e d >>= within

-- 6 at finish: an open element, or no root
unfoldable pub finish : Doc → Answer (Unit {0})
finish d = require is_empty d.frames && d.rooted or NotWellFormed

unfoldable pub all : Unit {0}
unfolding C.all is_blank takes_text on_text on_event within next finish
all = tt
