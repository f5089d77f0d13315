-- A stretch of a list that a change elsewhere leaves as it was.
use Rattle.std.specs.Prelude.{ℕ, ◌+◌, ◌≤◌, ◌≡◌, refl, List}
use Rattle.std.proofs.Common.{◌∙◌, inl, inr, arith}
use Rattle.copy.specs.Copy.{part, Wrote, wrote_apart}

-- from `lo` up to `hi`, `v` has what `w` had
pub record Kept (w v : List ℕ) (lo hi : ℕ) : Type 0 where
  pub parts : (a n : ℕ) → lo ≤ a → a + n ≤ hi → part v a n ≡ part w a n

pub kept_all : {w : List ℕ} {lo hi : ℕ} → Kept w w lo hi
kept_all = record { parts = λ a n l h. refl }

pub kept_then : {w v u : List ℕ} {lo hi : ℕ} → Kept w v lo hi → Kept v u lo hi → Kept w u lo hi
kept_then k j = record { parts = λ a n l h. j.parts a n l h ∙ k.parts a n l h }

-- a smaller stretch
pub kept_less : {w v : List ℕ} {lo hi lo' hi' : ℕ} → Kept w v lo hi → lo ≤ lo' → hi' ≤ hi → Kept w v lo' hi'
kept_less {w} {v} {lo} {hi} {lo'} {hi'} k l h = record { parts = λ a n x y. k.parts a n (omega arith) (omega arith) }

-- before a write, and behind it
pub kept_before : {w v : List ℕ} {at to : ℕ} {s : List ℕ} → Wrote w v at to s → Kept w v 0 at
kept_before p = record { parts = λ a n l h. wrote_apart p a n (inl h) }

pub kept_behind : {w v : List ℕ} {at to : ℕ} {s : List ℕ} (hi : ℕ) → Wrote w v at to s → Kept w v to hi
kept_behind hi p = record { parts = λ a n l h. wrote_apart p a n (inr l) }
