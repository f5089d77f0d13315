-- The groups of an IPv6 address.
use Rattle.std.specs.Prelude.{◌≡◌, Bool, true, false, ◌&&◌, ◌||◌, [], ◌∷◌, ℕ, zero, suc, ◌≤◌, eqb}
use Rattle.spec.specs.Bytes.{Bytes, ascii, begins, between, when◌then◌else◌}
use Rattle.spec.specs.Grammar.{Grammar, empty, ◌or◌, ◌then◌}
use Rattle.spec.specs.Abnf.{word}
use Rattle.spec.specs.Rfc3987.{h16, dec_octet, IPv4address}
use Rattle.iri.specs.Parts.{of}

-- n groups with ":" between them, of which the last two may be an IPv4 address if the first argument says so
unfoldable pub groups : Bool → ℕ → Grammar ℕ
groups v zero = empty
groups v (suc zero) = h16
groups true (suc (suc zero)) = (h16 then (word ":" then h16)) or IPv4address
groups false (suc (suc zero)) = h16 then (word ":" then h16)
groups v (suc (suc (suc n))) = h16 then (word ":" then groups v (suc (suc n)))

-- how many groups some bytes are, if that is one of 0 to 8; 9 if not
pub record Counted (v : Bool) (s : Bytes) (r : ℕ) : Type 0 where
  pub most : r ≤ 9
  pub each : (n : ℕ) → n ≤ 8 → of (groups v n) s ≡ eqb n r

-- octets with n full stops between them
unfoldable pub dotted : ℕ → Grammar ℕ
dotted zero = dec_octet
dotted (suc n) = dec_octet then (word "." then dotted n)

-- an octet and its full stop stand before the second text, or there is no such octet
abbrev pub DottedBefore : Bytes → Bytes → Type 0
DottedBefore s t = (n : ℕ) → of (dotted (suc n)) s ≡ of (dotted n) t

abbrev pub Undotted : Bytes → Type 0
Undotted s = (n : ℕ) → of (dotted (suc n)) s ≡ false

-- a text up to, and from, its first "::"
unfoldable pub up_to_gap : Bytes → Bytes
up_to_gap [] = []
up_to_gap (c ∷ s) = when begins (ascii "::") (c ∷ s) then [] else (c ∷ up_to_gap s)

unfoldable pub from_gap : Bytes → Bytes
from_gap [] = []
from_gap (c ∷ s) = when begins (ascii "::") (c ∷ s) then (c ∷ s) else from_gap s

-- the first "::" stands behind the one text and before the other
pub record Gap (s before behind : Bytes) : Type 0 where
  pub front : up_to_gap s ≡ before
  pub back : from_gap s ≡ 58 ∷ 58 ∷ behind

-- dec-octet, by its length
unfoldable pub octet : Bytes → Bool
octet [] = false
octet (a ∷ []) = between 48 57 a
octet (a ∷ b ∷ []) = between 49 57 a && between 48 57 b
octet (a ∷ b ∷ c ∷ []) = (eqb a 49 && (between 48 57 b && between 48 57 c)) || (eqb a 50 && ((between 48 52 b && between 48 57 c) || (eqb b 53 && between 48 53 c)))
octet (a ∷ b ∷ c ∷ d ∷ s) = false
