-- The parts of a frame by their names: the constants of `Frame`. A part more is one name here and one there.
use Rattle.std.specs.Prelude.{ℕ, ◌+◌, ◌*◌}

-- ---- places: where each part starts in the work store

-- as written
abbrev pub NAME : ℕ
NAME = 0

-- those that the element declares
abbrev pub BINDINGS : ℕ
BINDINGS = NAME + 1

-- its own xml:base
abbrev pub BASE : ℕ
BASE = BINDINGS + 1

-- its own xml:lang
abbrev pub TAG : ℕ
TAG = BASE + 1

-- the subject of a node, the IRI of a property
abbrev pub MAIN : ℕ
MAIN = TAG + 1

-- the resolved rdf:ID
abbrev pub ID : ℕ
ID = MAIN + 1

abbrev pub DATATYPE : ℕ
DATATYPE = ID + 1

-- the pending object, the children of a Collection, the text of a Literal
abbrev pub TAIL : ℕ
TAIL = DATATYPE + 1

-- where the tail ends
abbrev pub END : ℕ
END = TAIL + 1

-- how many they are
abbrev pub PLACES : ℕ
PLACES = END + 1

-- ---- marks: what the parts are

-- 0: no own xml:base
abbrev pub BASED : ℕ
BASED = 0

-- 0: no own xml:lang
abbrev pub TAGGED : ℕ
TAGGED = BASED + 1

-- 0: the subject is a named node
abbrev pub BLANK : ℕ
BLANK = TAGGED + 1

-- 0: no rdf:ID
abbrev pub IDENTIFIED : ℕ
IDENTIFIED = BLANK + 1

-- 0: no datatype
abbrev pub TYPED : ℕ
TYPED = IDENTIFIED + 1

-- what the object so far is
abbrev pub PENDING : ℕ
PENDING = TYPED + 1

-- what rdf:RDF or a node is in a packet: only properties have an object, so one word serves for both
abbrev pub PART : ℕ
PART = PENDING

-- rdf:li of a node, children of a Collection, rdf:RDF of the wrapper
abbrev pub COUNT : ℕ
COUNT = PENDING + 1

-- the first of its bindings in their table
abbrev pub FIRST : ℕ
FIRST = COUNT + 1

-- how many they are
abbrev pub MARKS : ℕ
MARKS = FIRST + 1

-- ---- sizes in words

-- a frame's kind and its places
abbrev pub HEAD : ℕ
HEAD = 1 + PLACES

-- a frame
abbrev pub FRAME : ℕ
FRAME = HEAD + MARKS

-- the table of frames
abbrev pub TABLE : ℕ
TABLE = 64 * FRAME
