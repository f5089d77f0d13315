-- Attributes in the scratch, and the words that tell where they are: four for each.
use Rattle.std.specs.Prelude.{◌≡◌, false, List, [], ◌∷◌, ◌++◌, ℕ, zero, suc, ◌+◌, ◌-◌, ◌*◌, ◌/◌, ◌<◌, ◌≤◌, Option, Some, None, length, take, drop, get_or}
use Rattle.spec.specs.Bytes.{Bytes, each}
use Rattle.spec.specs.Numbers.{refuse, good}
use Rattle.spec.specs.declared.Refusal.TheVariants.{NotPyx}
use Rattle.spec.specs.Pyx.{Attribute, attribute, read_attribute}
use Rattle.copy.specs.Copy.{Wrote, part}
use Rattle.pyx.specs.Lines.{lines_of, spaced, Kept}
use Rattle.pyx.specs.Names.{colon_of}
use Rattle.pyx.specs.declared.Entry.{Entry}

-- ---- what the words say

-- the words of one attribute
abbrev pub row : ℕ → ℕ → ℕ → ℕ → List ℕ
row start name colon value = start ∷ name ∷ colon ∷ value ∷ []

-- of attribute j: where its name starts, the name's length, the place of its colon plus 1 or 0, the value's length
abbrev pub start_at : List ℕ → ℕ → ℕ
start_at w j = get_or w (j * 4) 0

abbrev pub size_at : List ℕ → ℕ → ℕ
size_at w j = get_or w (j * 4 + 1) 0

abbrev pub colon_at : List ℕ → ℕ → ℕ
colon_at w j = get_or w (j * 4 + 2) 0

abbrev pub value_size_at : List ℕ → ℕ → ℕ
value_size_at w j = get_or w (j * 4 + 3) 0

-- its name and its value, which stands right behind the name
unfoldable pub name_at : List ℕ → List ℕ → ℕ → Bytes
name_at e w j = part e (start_at w j) (size_at w j)

unfoldable pub value_at : List ℕ → List ℕ → ℕ → Bytes
value_at e w j = part e (start_at w j + size_at w j) (value_size_at w j)

-- the first k attributes
unfoldable pub attributes_of : List ℕ → List ℕ → ℕ → List Attribute
attributes_of e w zero = []
attributes_of e w (suc k) = attributes_of e w k ++ (attribute (name_at e w k) (value_at e w k) ∷ [])

-- attribute j lies within the first n bytes, and its colon is where its words say
pub record Placed (e w : List ℕ) (j n : ℕ) : Type 0 where
  pub within : start_at w j + size_at w j + value_size_at w j ≤ n
  pub colon : colon_at w j ≡ colon_of (name_at e w j)

-- ---- one line

-- an attribute that was put into the scratch
pub record Read (l : Bytes) (d e : List ℕ) (at n c v : ℕ) : Type 0 where
  pub name : Bytes
  pub value : Bytes
  pub is : read_attribute l ≡ good (attribute name value)
  pub wrote : Wrote d e at (at + n + v) (name ++ value)
  pub name_size : length name ≡ n
  pub value_size : length value ≡ v
  pub colon : c ≡ colon_of name
  pub colon_within : c ≤ n
  pub short : n + v ≤ length l

-- `put_attribute`
abbrev pub Reads : Option Entry → Bytes → List ℕ → List ℕ → ℕ → Type 0
Reads None l d e at = (read_attribute l ≡ refuse NotPyx) × Kept d e (at + length l)
Reads (Some r) l d e at = (r.start ≡ at) × Read l d e at r.name r.colon r.value

-- `enter`: what fits a word
pub record Small (start name colon value : ℕ) : Type 0 where
  pub ends : start + name + value ≤ 32_768
  pub colon_within : colon ≤ name

-- ---- all lines

-- `put_attributes`: a line begins at `from`, no fewer bytes stand before it than `size`, and no line begins with a space
pub record Behind (s d : Bytes) (from size : ℕ) : Type 0 where
  pub line : get_or s (from - 1) 0 ≡ 10
  pub some : 0 < from
  pub within : from ≤ length s
  pub before : size ≤ from
  pub room : length s ≤ length d
  pub most : length s ≤ 32_768
  pub clear : spaced s ≡ false

-- the attributes of the lines from `from` on, behind the first `size` bytes
pub record Laid (s : Bytes) (from size : ℕ) (d e w v : List ℕ) (k : ℕ) : Type 0 where
  pub attributes : List Attribute
  pub is : each read_attribute (lines_of (drop from s)) ≡ good attributes
  pub count : length attributes ≡ k
  pub before : take size e ≡ take size d
  pub kept : Kept d e (length s)
  pub words : length v ≡ length w
  -- where the words have places for all
  pub told : k ≤ length w / 4 → attributes ≡ attributes_of e v k
  pub placed : k ≤ length w / 4 → (j : ℕ) → j < k → Placed e v j (length s)

abbrev pub Lays : Option ℕ → Bytes → ℕ → ℕ → List ℕ → List ℕ → List ℕ → List ℕ → Type 0
Lays None s from size d e w v = (each read_attribute (lines_of (drop from s)) ≡ refuse NotPyx) × (Kept d e (length s)) × (length v ≡ length w)
Lays (Some k) s from size d e w v = Laid s from size d e w v k
