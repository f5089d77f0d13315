-- How far a row of events came.
use Rattle.std.specs.Prelude.{ℕ, ◌+◌, ◌<◌}
use Rattle.spec.specs.declared.Refusal.{Refusal}
use Rattle.state.specs.declared.Registers.{Registers}
use Rattle.event.specs.declared.Advance.{Advance}
use Rattle.reader_contract.specs.declared.fed.Fed.{Fed}
use Rattle.std.specs.Prelude.{None, Some}

-- no event yet, one event more, and none further
abbrev pub nothing : Registers → ℕ → ℕ → Fed
nothing r count used = record { registers = r; count = count; used = used; events = 0; consumed = 0; written = 0; refusal = None }

abbrev pub further : Fed → ℕ → Advance → Fed
further f n a =
    record {
      registers = a.registers;
      count = a.count;
      used = a.used;
      events = f.events + 1;
      consumed = f.consumed + n;
      written = f.written + a.written;
      refusal = None;
    }

-- its counts fit a word, since they are those of bytes at hand
pub record Sums (f : Fed) (n : ℕ) (a : Advance) : Type 0 where
  pub events : f.events < 9_223_372_036_854_775_808
  pub consumed : f.consumed < 9_223_372_036_854_775_808
  pub written : f.written < 9_223_372_036_854_775_808
  pub size : n < 9_223_372_036_854_775_808
  pub lines : a.written < 9_223_372_036_854_775_808

abbrev pub stopped : Fed → Refusal → Fed
stopped f n =
    record {
      registers = f.registers;
      count = f.count;
      used = f.used;
      events = f.events;
      consumed = f.consumed;
      written = f.written;
      refusal = Some n;
    }
