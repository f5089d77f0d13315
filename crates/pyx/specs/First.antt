-- What an answer of `first_event` stands for.
use Rattle.std.specs.Prelude.{◌≡◌, Bool, ℕ, ◌<◌, ◌≤◌, Result, Ok, Err, ltb, length, take}
use Rattle.spec.specs.Bytes.{Bytes, when◌then◌else◌}
use Rattle.spec.specs.Limits.{most_event_bytes}
use Rattle.spec.specs.PyxCut.{Cut, wait, unended, too_long, whole, cut}
use Rattle.pyx.specs.declared.FirstError.{FirstError}
use Rattle.pyx.specs.declared.FirstError.TheVariants.{Wait, Unended, TooLong}

abbrev pub cut_of : Result ℕ FirstError → Bytes → Cut
cut_of (Err Wait) s = wait
cut_of (Err Unended) s = unended
cut_of (Err TooLong) s = too_long
cut_of (Ok n) s = whole (take n s)

-- an event has bytes, they are there, and they are not too many
pub record Sized (n : ℕ) (s : Bytes) : Type 0 where
  pub some : 0 < n
  pub within : n ≤ length s
  pub most : n ≤ most_event_bytes

abbrev pub Sizes : Result ℕ FirstError → Bytes → Type 0
Sizes (Err Wait) s = Unit {0}
Sizes (Err Unended) s = Unit {0}
Sizes (Err TooLong) s = Unit {0}
Sizes (Ok n) s = Sized n s

-- `first_event`
pub record Cuts (r : Result ℕ FirstError) (last : Bool) (s : Bytes) : Type 0 where
  pub means : cut_of r s ≡ cut last s
  pub sizes : Sizes r s

-- ---- where all that is seen belongs to the event

-- within a line
unfoldable pub in_line : ℕ → Bool → Result ℕ FirstError
in_line seen last = when ltb most_event_bytes seen then Err TooLong else when last then Err Unended else Err Wait

-- where a line has ended: may another line go on with the event?
unfoldable pub at_line_end : ℕ → Bool → Bool → Result ℕ FirstError
at_line_end seen last more = when ltb most_event_bytes seen then Err TooLong else when last then Ok seen else when more then Err Wait else Ok seen
