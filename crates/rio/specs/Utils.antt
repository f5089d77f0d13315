-- oxigraph/rio, commit fdbe22f57b, xml/src/utils.rs: the numbers are its lines. A `char` is its code point.
use Rattle.std.specs.Prelude.{Bool, ◌||◌, [], ◌∷◌, ℕ}
use Rattle.spec.specs.Bytes.{byte, in_ranges}

-- 1: matches!(c, ':' | 'A'..='Z' | ..)
unfoldable pub is_name_start_char : ℕ → Bool
is_name_start_char c =
    in_ranges
    ((byte ":", byte ":") ∷ (byte "A", byte "Z") ∷ (byte "_", byte "_") ∷ (byte "a", byte "z") ∷
    (0xC0, 0xD6) ∷ (0xD8, 0xF6) ∷ (0xF8, 0x2FF) ∷ (0x370, 0x37D) ∷ (0x37F, 0x1FFF) ∷ (0x200C, 0x200D) ∷
    (0x2070, 0x218F) ∷ (0x2C00, 0x2FEF) ∷ (0x3001, 0xD7FF) ∷ (0xF900, 0xFDCF) ∷ (0xFDF0, 0xFFFD) ∷
    (0x10000, 0xEFFFF) ∷ [])
    c

-- 22
unfoldable pub is_name_char_rust : ℕ → Bool
is_name_char_rust c =
    is_name_start_char c
    || in_ranges
    ((byte "-", byte "-") ∷ (byte ".", byte ".") ∷ (byte "0", byte "9") ∷
    (0xB7, 0xB7) ∷ (0x0300, 0x036F) ∷ (0x203F, 0x2040) ∷ [])
    c

unfoldable pub all : Unit {0}
unfolding is_name_start_char is_name_char_rust
all = tt
