-- A start tag is written in pieces: how it opens, its attributes, how it closes.
use Rattle.std.specs.Prelude.{◌≡◌, List, [], ◌∷◌, ◌++◌}
use Rattle.std.proofs.Common.{sym, ◌∙◌, append_assoc, append-nil}
use Rattle.spec.specs.Bytes.{Bytes, ascii}
use Rattle.spec.specs.Pyx.{Attribute}
use Rattle.spec.specs.XmlLiteral.{attribute_xml, attributes_xml, start_tag_xml}

-- `<` and the name
unfoldable pub open_xml : Bytes → Bytes
open_xml n = ascii "<" ++ n

-- `>`
unfoldable pub close_xml : Bytes
close_xml = ascii ">"

-- the pieces in a row are the start tag
pub start_tag : (n : Bytes) (l : List Attribute) → open_xml n ++ (attributes_xml l ++ close_xml) ≡ start_tag_xml n l
unfolding open_xml close_xml start_tag_xml
start_tag n l = append_assoc (ascii "<") n (attributes_xml l ++ ascii ">")

-- one attribute more
pub attributes_more : (l : List Attribute) (a : Attribute) → attributes_xml l ++ attribute_xml a ≡ attributes_xml (l ++ (a ∷ []))
unfolding attributes_xml
attributes_more [] a = sym (append-nil (attribute_xml a))
attributes_more (b ∷ l) a = append_assoc (attribute_xml b) (attributes_xml l) (attribute_xml a) ∙ rw (attributes_more l a)
