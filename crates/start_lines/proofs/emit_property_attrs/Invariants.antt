-- `start_lines::emit_property_attrs` meets its contract. The loop's invariant: the lines of the first `j` attributes are written.
use Rattle.start_lines.specs.Lines.{Emitting}
use Rattle.ntriples.specs.Terms.{subject_of}
use Rattle.state.specs.Language.{language_of}
use Rattle.start_lines.proofs.emit_property_attrs.Given as goal

abbrev pub invariant-loop-j : goal.invariant-loop-j
invariant-loop-j l = Emitting l.on l.initial.out l.out l.at l.to (subject_of l.node l.subject) (language_of l.language) l.scratch l.spans l.work l.classes l.roles l.k l.j
