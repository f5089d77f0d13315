-- A name, and the place of its colon.
use Rattle.std.specs.Prelude.{◌≡◌, true, false, List, ℕ, suc, ◌+◌, ◌-◌, ◌<◌, ◌≤◌, Option, Some, None, length, take, drop, get_or}
use Rattle.spec.specs.Bytes.{Bytes, ascii, when◌then◌else◌, among, up_to}
use Rattle.spec.specs.XmlNames.{no_colon, is_nc_name, is_q_name}
use Rattle.utils.specs.Names.{PlainPart}
use Rattle.copy.specs.Copy.{Wrote}
use Rattle.pyx.specs.Lines.{Kept}

-- the place of the first colon plus 1, or 0
unfoldable pub colon_of : Bytes → ℕ
colon_of s = when no_colon s then 0 else suc (length (up_to (among (ascii ":")) s))

-- `colon_of`
abbrev pub Colons : Option ℕ → Bytes → Type 0
Colons None s = is_q_name s ≡ false
Colons (Some c) s = (is_q_name s ≡ true) × (c ≡ colon_of s)

-- a name that was put into the scratch
pub record Name (c : ℕ) (s : Bytes) (d e : List ℕ) (at : ℕ) : Type 0 where
  pub qname : is_q_name s ≡ true
  pub colon : c ≡ colon_of s
  pub wrote : Wrote d e at (at + length s) s

-- `put_name`
abbrev pub Named : Option ℕ → Bytes → List ℕ → List ℕ → ℕ → Type 0
Named None s d e at = (is_q_name s ≡ false) × Kept d e (at + length s)
Named (Some c) s d e at = Name c s d e at

-- ---- a name in ASCII

-- the first k bytes are a prefix, and its colon follows
pub record Prefix (s : Bytes) (k : ℕ) : Type 0 where
  pub name : is_nc_name (take k s) ≡ true
  pub colon : get_or s k 0 ≡ 58

-- of i bytes those from p on are a part of a name, and before them is its prefix, if anything is
pub record Spelled (s : Bytes) (i p : ℕ) : Type 0 where
  pub begins : p ≤ i
  pub within : i ≤ length s
  pub part : PlainPart (take (i - p) (drop p s))
  pub prefix : 0 < p → Prefix s (p - 1)

-- `next_part`
abbrev pub Spells : Option ℕ → Bytes → ℕ → Type 0
Spells None s i = Unit {0}
Spells (Some p) s i = Spelled s (i + 1) p

-- nothing changed but n bytes from `at` on
pub record Around (d e : List ℕ) (at n : ℕ) : Type 0 where
  pub before : take at e ≡ take at d
  pub kept : Kept d e (at + n)

-- `put_plain_name`
abbrev pub PlainNamed : Option ℕ → Bytes → List ℕ → List ℕ → ℕ → Type 0
PlainNamed None s d e at = Around d e at (length s)
PlainNamed (Some c) s d e at = Name c s d e at
