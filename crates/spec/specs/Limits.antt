-- Document 01, "Sizes", and refusal 18: each limit has one name and one value.
use Rattle.std.specs.Prelude.{ℕ}

-- the work store, exactly, in bytes
unfoldable pub work_store_bytes : ℕ
work_store_bytes = 65_536

-- the ID store, exactly, in bytes
unfoldable pub id_store_bytes : ℕ
id_store_bytes = 32_768

-- an event, in bytes
unfoldable pub most_event_bytes : ℕ
most_event_bytes = 32_768

unfoldable pub most_open_elements : ℕ
most_open_elements = 64

-- attributes on one element, xmlns included
unfoldable pub most_attributes : ℕ
most_attributes = 64

-- namespace bindings declared by open elements
unfoldable pub most_bindings : ℕ
most_bindings = 128

-- any expanded name, IRI or base, in bytes
unfoldable pub most_name_bytes : ℕ
most_name_bytes = 1_024

-- rdf:IDs in a document: the places of the ID store's table
unfoldable pub most_ids : ℕ
most_ids = 512

-- all rdf:IDs together, in bytes
unfoldable pub most_id_bytes : ℕ
most_id_bytes = 32_768

-- held bytes, as an event leaves them
unfoldable pub most_held_bytes : ℕ
most_held_bytes = 49_152

-- generated labels in a document, and rdf:li in one node
unfoldable pub most_labels : ℕ
most_labels = 99_999_999

-- the output room that pyx2nt gives an event
unfoldable pub program_room : ℕ
program_room = 65_536

unfoldable pub all : Unit {0}
unfolding work_store_bytes id_store_bytes most_event_bytes most_open_elements most_attributes most_bindings most_name_bytes most_ids most_id_bytes most_held_bytes most_labels program_room
all = tt
