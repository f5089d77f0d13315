-- What a call on standard input or output came to, by what it answered.
use Rattle.std.specs.Prelude.{ℕ, zero, suc, ◌+◌, ◌≤◌, ◌<◌, min, ◌≡◌, Bool, true, false, not, ◌&&◌, ◌||◌, eqb, ltb, ℤ, pos, negsuc}
use Rattle.streams.specs.declared.Stream.{Stream}
use Rattle.streams.specs.declared.Moved.{Moved}
use Rattle.streams.specs.declared.Moved.TheVariants as moved
use Rattle.streams.specs.declared.Got.{Got}
use Rattle.streams.specs.declared.Got.TheVariants as got
use Rattle.streams.specs.declared.Printed.{Printed}
use Rattle.streams.specs.declared.Printing.{Printing}

-- a reader or a writer before any call on it
abbrev pub over : {T : Type 0} → T → Stream T
over end = record { end = end; errno = pos 0 }

-- the errors of a call that may do better when it is tried again: it was interrupted, or would have had to wait
abbrev pub eintr : ℕ
eintr = 4

abbrev pub eagain : ℕ
eagain = 11

abbrev pub passing : ℤ → Bool
passing (pos n) = eqb n eintr || eqb n eagain
passing (negsuc n) = false

-- nothing was moved: not yet, or the call failed
abbrev pub unmoved : Bool → Moved
unmoved true = moved.Later
unmoved false = moved.Failed

-- by the answer, by errno, and by how many bytes were lent
unfoldable pub moved_of : ℤ → ℤ → ℕ → Moved
moved_of (pos n) error most = moved.Bytes (min n most)
moved_of (negsuc n) error most = unmoved (passing error)

-- no more than were lent
unfoldable pub AtMost : ℕ → Moved → Type 0
AtMost most (moved.Bytes n) = n ≤ most
AtMost most moved.Later = Unit
AtMost most moved.Failed = Unit

-- it is to be tried again, and there are tries left
unfoldable pub waits_for : Moved → ℕ → Bool
waits_for (moved.Bytes n) tries = false
waits_for moved.Later tries = ltb 0 tries
waits_for moved.Failed tries = false

-- ---- writing

-- how many bytes a write took: none is a failure, whatever the call answered
abbrev pub bytes_of : Moved → ℕ
bytes_of (moved.Bytes n) = n
bytes_of moved.Later = 0
bytes_of moved.Failed = 0

-- a text of so many bytes before the first write, and behind a write that took so many of them
unfoldable pub begun : ℕ → Printing
begun most = record { taken = 0; most = most; failed = false }

unfoldable pub after_write : Printing → ℕ → Printing
after_write p n = record { taken = p.taken + n; most = p.most; failed = eqb n 0 }

-- is there more to write? Not behind a write that failed
unfoldable pub goes_on : Printing → Bool
goes_on p = not p.failed && ltb p.taken p.most

-- what the writes of a text come to, one after the other: none is made where there is no more to write, and none takes
-- more than is left
pub data Written (most : ℕ) : Printing → Type 0 where
  first : Written most (begun most)
  next : {p : Printing} → Written most p → goes_on p ≡ true → (n : ℕ) → p.taken + n ≤ most → Written most (after_write p n)

-- so many bytes of a text, which may be all
abbrev pub printed_of : Printing → Printed
printed_of p = record { whole = eqb p.taken p.most; bytes = p.taken }

-- a text of so many bytes was written as far as it went
pub record Prints (most : ℕ) (r : Printed) : Type 0 where
  pub last : Printing
  pub written : Written most last
  pub over : goes_on last ≡ false
  pub is : r ≡ printed_of last
  pub fewer : r.bytes ≤ most
  pub whole : r.whole ≡ eqb r.bytes most

-- ---- reading

-- no byte is the end of the input; none in all the tries is a failure
unfoldable pub got_of : Moved → Got
got_of (moved.Bytes zero) = got.End
got_of (moved.Bytes (suc n)) = got.Bytes (suc n)
got_of moved.Later = got.Failed
got_of moved.Failed = got.Failed

-- at least one byte, and no more than there is room for
unfoldable pub Fills : ℕ → Got → Type 0
Fills room (got.Bytes n) = (0 < n) × (n ≤ room)
Fills room got.End = Unit
Fills room got.Failed = Unit
