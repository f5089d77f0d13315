-- `streams::keep_to_line` meets its contract. The loop's invariant: so many bytes are made fit, and those behind them are as they were.
use Rattle.streams.specs.Telling.{Kept}
use Rattle.streams.proofs.keep_to_line.Given as goal

abbrev pub invariant-loop-b : goal.invariant-loop-b
invariant-loop-b l = Kept l.initial.word l.word l.b-index
