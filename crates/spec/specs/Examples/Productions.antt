-- Worked examples by hand: parseType Literal and other values, reification, what is inherited.
use Rattle.std.specs.Prelude.{◌≡◌, refl, List, [], ◌∷◌}
use Rattle.spec.specs.Examples.{Example, prints, failing}
use Rattle.spec.specs.Examples as E

unfoldable pub table : List Example
table =
    -- Literal: elements and text are copied, typed rdf:XMLLiteral; attribute values and text escaped
    prints (
    "(e:P" ∷
    "Axmlns:rdf http://www.w3.org/1999/02/22-rdf-syntax-ns#" ∷
    "Axmlns:e http://e/" ∷
    "Ardf:about http://e/p" ∷
    "(e:q" ∷
    "Ardf:parseType Literal" ∷
    "-a & \"b\"" ∷
    "(b" ∷
    "Axmlns http://e/x?a&b" ∷
    "Arel \\t\"<>'\\n" ∷
    "-1<2>'" ∷
    "?pi" ∷
    ")b" ∷
    ")e:q" ∷
    ")e:P" ∷ []) (
    "<http://e/p> <Rtype> <http://e/P> ." ∷
    "<http://e/p> <http://e/q> \"a &amp; &quot;b&quot;<b xmlns=\\\"http://e/x?a&amp;b\\\" rel=\\\"&#x9;&quot;&lt;>'&#xA;\\\">1&lt;2&gt;&apos;</b>\"^^<RXMLLiteral> ." ∷ []) ∷
    -- inside it rdf names, xml:lang and xml:base mean nothing, and blank text is kept
    prints (
    "(e:P" ∷
    "Axmlns:rdf http://www.w3.org/1999/02/22-rdf-syntax-ns#" ∷
    "Axmlns:e http://e/" ∷
    "Ardf:about http://e/p" ∷
    "(e:q" ∷
    "Axml:base http://e/d" ∷
    "Ardf:parseType Literal" ∷
    "Ardf:ID s" ∷
    "- " ∷
    "(rdf:li" ∷
    "Ardf:ID 1" ∷
    "Axml:lang -" ∷
    "Axml:base x" ∷
    ")rdf:li" ∷
    ")e:q" ∷
    ")e:P" ∷ []) (
    "<http://e/p> <Rtype> <http://e/P> ." ∷
    "<http://e/d#s> <Rtype> <RStatement> ." ∷
    "<http://e/d#s> <Rsubject> <http://e/p> ." ∷
    "<http://e/d#s> <Rpredicate> <http://e/q> ." ∷
    "<http://e/d#s> <Robject> \" <rdf:li rdf:ID=\\\"1\\\" xml:lang=\\\"-\\\" xml:base=\\\"x\\\"></rdf:li>\"^^<RXMLLiteral> ." ∷
    "<http://e/p> <http://e/q> \" <rdf:li rdf:ID=\\\"1\\\" xml:lang=\\\"-\\\" xml:base=\\\"x\\\"></rdf:li>\"^^<RXMLLiteral> ." ∷ []) ∷
    -- other parseType values write nothing
    prints (
    "(e:P" ∷
    "Axmlns:rdf http://www.w3.org/1999/02/22-rdf-syntax-ns#" ∷
    "Axmlns:e http://e/" ∷
    "Ardf:about http://e/p" ∷
    "(e:q" ∷
    "Ardf:parseType literal" ∷
    "-a" ∷
    "(b" ∷
    ")b" ∷
    ")e:q" ∷
    ")e:P" ∷ []) (
    "<http://e/p> <Rtype> <http://e/P> ." ∷ []) ∷
    -- parseType Resource: the statement stands at the start tag, and its node has its own rdf:li
    prints (
    "(e:P" ∷
    "Axmlns:rdf http://www.w3.org/1999/02/22-rdf-syntax-ns#" ∷
    "Axmlns:e http://e/" ∷
    "Ardf:about http://e/p" ∷
    "(rdf:li" ∷
    "Ardf:parseType Resource" ∷
    "(rdf:li" ∷
    "-a" ∷
    ")rdf:li" ∷
    ")rdf:li" ∷
    "(rdf:li" ∷
    "-b" ∷
    ")rdf:li" ∷
    ")e:P" ∷ []) (
    "<http://e/p> <Rtype> <http://e/P> ." ∷
    "<http://e/p> <R_1> _:riog00000002 ." ∷
    "_:riog00000002 <R_1> \"a\" ." ∷
    "<http://e/p> <R_2> \"b\" ." ∷ []) ∷
    -- reified: parseType Resource at its start tag, text at its end tag
    prints (
    "(e:P" ∷
    "Axmlns:rdf http://www.w3.org/1999/02/22-rdf-syntax-ns#" ∷
    "Axmlns:e http://e/" ∷
    "Ardf:about http://e/p" ∷
    "Axml:base http://e/d" ∷
    "(e:q" ∷
    "Ardf:ID s" ∷
    "Ardf:parseType Resource" ∷
    "(e:r" ∷
    "Ardf:ID t" ∷
    "-v" ∷
    ")e:r" ∷
    ")e:q" ∷
    ")e:P" ∷ []) (
    "<http://e/p> <Rtype> <http://e/P> ." ∷
    "<http://e/d#s> <Rtype> <RStatement> ." ∷
    "<http://e/d#s> <Rsubject> <http://e/p> ." ∷
    "<http://e/d#s> <Rpredicate> <http://e/q> ." ∷
    "<http://e/d#s> <Robject> _:riog00000002 ." ∷
    "<http://e/p> <http://e/q> _:riog00000002 ." ∷
    "<http://e/d#t> <Rtype> <RStatement> ." ∷
    "<http://e/d#t> <Rsubject> _:riog00000002 ." ∷
    "<http://e/d#t> <Rpredicate> <http://e/r> ." ∷
    "<http://e/d#t> <Robject> \"v\" ." ∷
    "_:riog00000002 <http://e/r> \"v\" ." ∷ []) ∷
    -- a node's lines: property attributes in order, its rdf:type attribute, then its element type
    prints (
    "(e:P" ∷
    "Ardf:type http://e/T" ∷
    "Ae:b w" ∷
    "Ae:a v" ∷
    "Axmlns:rdf http://www.w3.org/1999/02/22-rdf-syntax-ns#" ∷
    "Axmlns:e http://e/" ∷
    "Ardf:about http://e/p" ∷
    ")e:P" ∷ []) (
    "<http://e/p> <http://e/b> \"w\" ." ∷
    "<http://e/p> <http://e/a> \"v\" ." ∷
    "<http://e/p> <Rtype> <http://e/T> ." ∷
    "<http://e/p> <Rtype> <http://e/P> ." ∷ []) ∷
    -- a default property with property attributes: its node's lines, rdf:type last, then at the end tag the reified statement
    prints (
    "(e:P" ∷
    "Axmlns:rdf http://www.w3.org/1999/02/22-rdf-syntax-ns#" ∷
    "Axmlns:e http://e/" ∷
    "Ardf:about http://e/p" ∷
    "Axml:base http://e/d" ∷
    "(e:q" ∷
    "Ardf:ID s" ∷
    "Ardf:type #T" ∷
    "Ae:a v" ∷
    ")e:q" ∷
    ")e:P" ∷ []) (
    "<http://e/p> <Rtype> <http://e/P> ." ∷
    "_:riog00000002 <http://e/a> \"v\" ." ∷
    "_:riog00000002 <Rtype> <http://e/d#T> ." ∷
    "<http://e/d#s> <Rtype> <RStatement> ." ∷
    "<http://e/d#s> <Rsubject> <http://e/p> ." ∷
    "<http://e/d#s> <Rpredicate> <http://e/q> ." ∷
    "<http://e/d#s> <Robject> _:riog00000002 ." ∷
    "<http://e/p> <http://e/q> _:riog00000002 ." ∷ []) ∷
    -- in a default property a later child node or non-blank text replaces the object so far; datatype beats language
    prints (
    "(e:P" ∷
    "Axmlns:rdf http://www.w3.org/1999/02/22-rdf-syntax-ns#" ∷
    "Axmlns:e http://e/" ∷
    "Ardf:about http://e/p" ∷
    "(e:q" ∷
    "Ardf:datatype http://e/t" ∷
    "Axml:lang en" ∷
    "-a" ∷
    "(rdf:Description" ∷
    ")rdf:Description" ∷
    "-b" ∷
    ")e:q" ∷
    "(e:q" ∷
    "-a" ∷
    "(rdf:Description" ∷
    "Ardf:nodeID n" ∷
    ")rdf:Description" ∷
    "- " ∷
    ")e:q" ∷
    ")e:P" ∷ []) (
    "<http://e/p> <Rtype> <http://e/P> ." ∷
    "<http://e/p> <http://e/q> \"b\"^^<http://e/t> ." ∷
    "<http://e/p> <http://e/q> _:n ." ∷ []) ∷
    -- xml:lang is lowercased; xml:lang and xml:base are inherited, hold for their whole start tag, and end with their element
    prints (
    "(e:P" ∷
    "Axmlns:rdf http://www.w3.org/1999/02/22-rdf-syntax-ns#" ∷
    "Axmlns:e http://e/" ∷
    "Ae:a v" ∷
    "Ardf:about ../p" ∷
    "Axml:base http://e/a/d" ∷
    "Axml:lang EN" ∷
    "(e:q" ∷
    "-x" ∷
    ")e:q" ∷
    "(e:q" ∷
    "Axml:lang fr" ∷
    "Axml:base http://f/" ∷
    "(rdf:Description" ∷
    "Ardf:about z" ∷
    "Ae:a w" ∷
    ")rdf:Description" ∷
    ")e:q" ∷
    "(e:q" ∷
    "-y" ∷
    ")e:q" ∷
    ")e:P" ∷ []) (
    "<http://e/p> <http://e/a> \"v\"@en ." ∷
    "<http://e/p> <Rtype> <http://e/P> ." ∷
    "<http://e/p> <http://e/q> \"x\"@en ." ∷
    "<http://f/z> <http://e/a> \"w\"@fr ." ∷
    "<http://e/p> <http://e/q> <http://f/z> ." ∷
    "<http://e/p> <http://e/q> \"y\"@en ." ∷ []) ∷
    []

pub worked_examples : failing 1 table ≡ []
unfolding E.all table
worked_examples = refl
