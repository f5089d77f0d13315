-- Ranges of numbers, the first and the last of each.
use Rattle.std.specs.Prelude.{Bool, true, ◌&&◌, List, [], ◌∷◌, ℕ, leb}

-- the ranges of a table that is laid flat: the first and the last number of each, one range behind the other
unfoldable pub ranges : List ℕ → List (ℕ × ℕ)
ranges [] = []
ranges (a ∷ []) = []
ranges (a ∷ z ∷ t) = (a, z) ∷ ranges t

-- does each range begin no earlier than the one before it, and the first no earlier than at a number?
unfoldable pub ascending_from : ℕ → List (ℕ × ℕ) → Bool
ascending_from a [] = true
ascending_from a (r ∷ rs) = leb a r.0 && ascending_from r.0 rs
