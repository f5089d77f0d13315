-- Bytes that are characters by themselves, so that the code need not decode them.
use Rattle.std.specs.Prelude.{Bool, ◌&&◌, ◌||◌, ℕ, eqb, leb, ltb}
use Rattle.spec.specs.Bytes.{byte}

-- in ASCII, and passing a test of characters
unfoldable pub plain : (ℕ → Bool) → ℕ → Bool
plain p b = ltb b 128 && p b

-- in ASCII, and no control character but LF
unfoldable pub plain_text : ℕ → Bool
plain_text b = (leb (byte " ") b && ltb b 128) || eqb b (byte "\n")

-- in ASCII, and no control character
unfoldable pub printable : ℕ → Bool
printable b = leb (byte " ") b && ltb b 128
