-- Document 02: what is chosen of a document at its start.
use Rattle.std.specs.Prelude.{true, false}
use Rattle.spec.specs.declared.Mode.{Mode}

-- document 01
abbrev pub base_mode : Mode
base_mode = record { xmp = false }

-- request 1
abbrev pub xmp_mode : Mode
xmp_mode = record { xmp = true }
