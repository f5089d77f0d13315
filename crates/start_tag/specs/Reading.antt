-- A start tag that is read, or that is found to be the wrapper's of a packet.
use Rattle.std.specs.Prelude.{ℕ, ◌≡◌, Bool, true, false, List, take, Result, Ok, Err}
use Rattle.spec.specs.declared.Refusal.{Refusal}
use Rattle.spec.specs.Xmp.{starts_wrapper}
use Rattle.state.specs.declared.Registers.{Registers}
use Rattle.state.specs.Meaning.{elements_of}
use Rattle.state.specs.Valid.{Valid}
use Rattle.start_names.specs.Tag.{attributes_of}
use Rattle.start_tag.specs.declared.reading.Read.{Read}
use Rattle.start_tag.specs.declared.reading.Read.TheVariants.{Wrapper, Element}
use Rattle.start_tag.specs.Tag.{Reads}

abbrev pub is_wrapping : Result Read Refusal → Bool
is_wrapping (Err n) = false
is_wrapping (Ok Wrapper) = true
is_wrapping (Ok (Element t)) = false

-- what `read_tag` does: outside the wrapper, what `Reads` says
pub record ReadsTag (r : Registers) (fs bs w : List ℕ) (count : ℕ) (at len store e v : List ℕ) (m k : ℕ) (cs rs₀ area rs after : List ℕ) (t : Result Read Refusal) : Type 0 where
  pub reads : Reads r fs bs w count at len store e v m k cs rs₀ area rs after t
  pub wraps : (is : List ℕ) → Valid r fs bs is w → r.counts.inner ≡ 0 → starts_wrapper r.mode.xmp (take m e) (attributes_of e v k) (elements_of r fs bs is w) ≡ is_wrapping t
