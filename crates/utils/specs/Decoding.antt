-- What some bytes begin with: the answers of `decode`.
use Rattle.std.specs.Prelude.{◌≡◌, [], ◌∷◌, Option, Some, None, ℕ, ◌-◌, ◌^◌, ◌%◌, ◌<◌, ◌≤◌, length, take, get_or}
use Rattle.std.proofs.Math.Option.{some}
use Rattle.spec.specs.Bytes.{Bytes, when◌then◌else◌, every}
use Rattle.spec.specs.Utf8.{leading_ones, goes_on, joined, least, characters}
use Rattle.utils.specs.declared.Decoded.{Decoded}
use Rattle.utils.specs.declared.Decoded.TheVariants.{End, Character, Malformed}

-- the first n bytes are one character, c
pub record Front (c n : ℕ) (s : Bytes) : Type 0 where
  pub within : n ≤ length s
  pub alone : characters (take n s) ≡ some (c ∷ [])

-- there are bytes, and however many of the first are taken, they are not one character
pub record Stuck (s : Bytes) : Type 0 where
  pub nonempty : 0 < length s
  pub never : (n c : ℕ) → characters (take n s) ≡ some (c ∷ []) → ⊥

-- what each answer says of the bytes
abbrev pub Decodes : Decoded → Bytes → Type 0
Decodes End s = length s ≡ 0
Decodes (Character c n) s = Front c n s
Decodes Malformed s = Stuck s

-- the first byte is that of a sequence of n, 2 to 4; its own bits, and the least character that the length is for
pub record Begins (s : Bytes) (n bits low : ℕ) : Type 0 where
  pub nonempty : 0 < length s
  pub several : 2 ≤ n
  pub few : n ≤ 4
  pub length_of : leading_ones (get_or s 0 0) ≡ n
  pub bits_of : bits ≡ get_or s 0 0 % 2 ^ (7 - n)
  pub small : bits < 32
  pub low_of : low ≡ least n

-- the bits of bytes that all go on, behind those of the first byte
unfoldable pub joins : ℕ → Bytes → Option ℕ
joins bits s = when every goes_on s then Some (joined bits s) else None
