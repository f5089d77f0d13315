-- Document 01, "Numbers returned" and "Order in step", on inputs as long as a limit: what is asked, and the answer. They take long to compute, so
-- they stand behind the definitions, and the other tables with them.
use Rattle.std.specs.Prelude.{◌≡◌, refl, true, List, [], ◌∷◌, ◌++◌, ℕ, zero, suc, ◌+◌, ◌/◌, ◌%◌}
use Rattle.std.proofs.Math.Option.{none, some}
use Rattle.spec.specs.Bytes.{Bytes, ascii, byte}
use Rattle.spec.specs.Limits.{most_event_bytes}
use Rattle.spec.specs.Modes.{base_mode, xmp_mode}
use Rattle.spec.specs.Document.{fresh}
use Rattle.spec.specs.Calls.{is_open, call_start, call_step}
use Rattle.spec.specs.Examples.{agree}
use Rattle.spec.specs.Examples.Calls.{new, spent, many_of, whole, part}
use Rattle.spec.specs.Examples.Calls as C
use Rattle.spec.specs.Examples.Order.{in_rdf}

-- the length of a base at start, and of an event
unfoldable pub lengths : List (ℕ × ℕ)
lengths =
    -- a base of 1,024 bytes, and of one more
    ((call_start true base_mode (some (ascii "a:" ++ many_of 1_022 (byte "b"))) new).answer, 0) ∷
    ((call_start true base_mode (some (ascii "a:" ++ many_of 1_023 (byte "b"))) new).answer, 7) ∷
    -- event length (7), then 1
    (part (many_of most_event_bytes (byte "?")) new, 1) ∷ (part (many_of (suc most_event_bytes) (byte "?")) new, 7) ∷
    []

-- n attributes without a prefix, all different, each without a value: `aa`, `ab` and so on
unfoldable pub unprefixed : ℕ → Bytes
unprefixed zero = []
unprefixed (suc n) = ascii "A" ++ ((byte "a" + n / 26) ∷ ((byte "a" + n % 26) ∷ (ascii " \n" ++ unprefixed n)))

-- well-formed, and the counts
unfoldable pub counts : List (ℕ × ℕ)
counts =
    -- 6, then counts (7): a repeated attribute among 66
    (whole (ascii "(a\n" ++ (unprefixed 65 ++ ascii "Aaa \n")) in_rdf, 6) ∷
    -- counts (7), then 8 for the element
    (whole (ascii "(a\n" ++ unprefixed 65) in_rdf, 7) ∷ (whole (ascii "(a\n" ++ unprefixed 64) in_rdf, 8) ∷
    []

-- names
unfoldable pub names : List (ℕ × ℕ)
names =
    -- 18, then other limits (7): an expanded name of 1,025 bytes
    (whole (ascii "(l:P\nAxmlns:l " ++ (many_of 1_024 (byte "n") ++ ascii "\n")) spent, 18) ∷
    -- other limits (7), then 2: the same name, and no room
    ((call_step true (ascii "(l:P\nAxmlns:l " ++ (many_of 1_024 (byte "n") ++ ascii "\n")) 0 new).answer, 7) ∷
    ((call_step true (ascii "(l:P\nAxmlns:l " ++ (many_of 1_023 (byte "n") ++ ascii "\n")) 0 new).answer, 2) ∷
    []

-- the wrapper of document 02: 8 is not given for attributes without prefix, 7 is for their number and their expanded names, and none for the
-- length of xml:base
unfoldable pub wrapper : Bytes → ℕ
wrapper as' = whole (ascii "(x:xmpmeta\nAxmlns:x adobe:ns:meta/\n" ++ as') (is_open (fresh xmp_mode none))

unfoldable pub wrappers : List (ℕ × ℕ)
wrappers =
    (wrapper (unprefixed 63), 0) ∷ (wrapper (unprefixed 64), 7) ∷
    (wrapper (ascii "Ax:" ++ (many_of 1_010 (byte "n") ++ ascii " \n")), 0) ∷ (wrapper (ascii "Ax:" ++ (many_of 1_011 (byte "n") ++ ascii " \n")), 7) ∷
    (wrapper (ascii "Axml:base " ++ (many_of 1_025 (byte "n") ++ ascii "\n")), 0) ∷
    []

pub at_wrappers : agree wrappers ≡ true
unfolding C.all unprefixed wrapper wrappers
at_wrappers = refl

pub at_lengths : agree lengths ≡ true
unfolding C.all lengths
at_lengths = refl

pub at_counts : agree counts ≡ true
unfolding C.all unprefixed in_rdf counts
at_counts = refl

pub at_names : agree names ≡ true
unfolding C.all names
at_names = refl
