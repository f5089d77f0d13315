-- The classes of many attributes' names: the tag's own declarations as rows, and what is found by them.
use Rattle.std.specs.Prelude.{◌≡◌, Bool, List, ℕ, ◌+◌, ◌-◌, ◌<◌, ◌≤◌, min, length}
use Rattle.spec.specs.Namespaces.{declared}
use Rattle.state_words.specs.declared.Row.{Row}
use Rattle.state.specs.Meaning.{bindings_of}
use Rattle.start_names.specs.Tag.{start_at, size_at, value_size_at, attributes_of}
use Rattle.start_names.specs.Pairs.{pairs}
use Rattle.start_names.specs.Classes.{same_keys, Classified}

-- attribute j lies within an event's bytes
pub record WithinAt (w : List ℕ) (j : ℕ) : Type 0 where
  pub ends : start_at w j + size_at w j + value_size_at w j ≤ 32_768

-- the first k attributes do
pub record Within (w : List ℕ) (k : ℕ) : Type 0 where
  pub at : (j : ℕ) → j < k → WithinAt w j

-- the row of a declaration: its prefix stands behind `xmlns:`, its namespace behind the name
abbrev pub own_row : List ℕ → ℕ → Row
own_row w j = record { at = start_at w j + min 6 (size_at w j); name = size_at w j - 6; more = value_size_at w j }

-- d rows, before and behind: they bind what the first k attributes declare
pub record Owns (e w : List ℕ) (k : ℕ) (rs ss : List ℕ) (d : ℕ) : Type 0 where
  pub same : length ss ≡ length rs
  pub is : bindings_of ss e 0 d ≡ declared (attributes_of e w k)

-- the classes of the first k attributes are ds
pub record Classes (e w : List ℕ) (k : ℕ) (v bs : List ℕ) (n : ℕ) (cs ds : List ℕ) : Type 0 where
  pub same : length ds ≡ length cs
  pub are : Classified e w k v bs n ds k

-- two of them repeat, by their classes
pub record Finds (e w : List ℕ) (k : ℕ) (v bs : List ℕ) (n : ℕ) (r : Bool) : Type 0 where
  pub classes : List ℕ
  pub are : Classified e w k v bs n classes k
  pub is : r ≡ pairs (same_keys e w v classes) 0 k
