-- Demand 3: the language of literals.
use Rattle.std.specs.Prelude.{◌≡◌, Bool, true, false, List, [], ◌∷◌}
use Rattle.std.proofs.Math.Option.{Option, none, some}
use Rattle.spec.specs.Bytes.{Bytes, ascii, when◌then◌else◌, same}
use Rattle.spec.specs.Pyx.{Attribute, attribute, Event, opening, closing, text, instruction}
use Rattle.spec.specs.NTriples.{Term, node, plain, tagged, typed, Triple, triple}
use Rattle.spec.specs.Document.{Frame, Doc, Place, outside, nodes, nodes_or_text, xml, properties, language_in_force}
use Rattle.spec.specs.Xmp.{starts_wrapper}
use Rattle.spec.specs.XmlLang.{own_of, Language, in_force, spoken}

-- is it a literal without datatype, then it has the tag of this language, or none where there is none
abbrev pub InLanguage : Language → Term → Type 0
InLanguage l (node s) = Unit {0}
InLanguage l (plain v) = spoken l ≡ none
InLanguage l (tagged v m) = spoken l ≡ some m
InLanguage l (typed v t) = Unit {0}

-- of every line
abbrev pub AllInLanguage : Language → List Triple → Type 0
AllInLanguage l [] = Unit {0}
AllInLanguage l (triple s p o ∷ ts) = InLanguage l o × AllInLanguage l ts

-- the open elements, with the one that an event opens or closes still or already among them
abbrev pub open_at : Event → Doc → Doc → List Frame
open_at (opening n as') d d' = d'.frames
open_at (closing n) d d' = d.frames
open_at (text s) d d' = d.frames
open_at instruction d d' = d.frames

-- the value of the first attribute with this name, as written
unfoldable pub value_named : Bytes → List Attribute → Option Bytes
value_named m [] = none
value_named m (attribute n v ∷ as') = when same n m then some v else value_named m as'

-- does xml:lang mean nothing in a start tag? So it is in Literal content, and in the wrapper
unfoldable pub is_mute : Place → Bytes → List Attribute → Doc → Bool
is_mute outside n as' d = starts_wrapper d.mode.xmp n as' d.frames
is_mute nodes n as' d = false
is_mute nodes_or_text n as' d = false
is_mute (properties s li) n as' d = false
is_mute xml n as' d = true

-- the language in force behind a start tag, where xml:lang means nothing or not: its own xml:lang, lowercased, none where it clears,
-- or else the one around
abbrev pub language_behind : Bool → List Attribute → List Frame → Language
language_behind true as' fs = language_in_force fs
language_behind false as' fs = in_force (own_of (value_named (ascii "xml:lang") as')) (language_in_force fs)
