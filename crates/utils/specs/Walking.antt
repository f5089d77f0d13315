-- A test that passes over bytes or characters, while what is left decides.
use Rattle.std.specs.Prelude.{◌≡◌, Bool, false, Option, Some, None, ℕ, ◌<◌, ◌≤◌, length, drop}
use Rattle.spec.specs.Bytes.{Bytes}

-- i bytes are passed, and the test of all is that of the rest
pub record Walked (f : Bytes → Bool) (s : Bytes) (i : ℕ) : Type 0 where
  pub within : i ≤ length s
  pub rest : f s ≡ f (drop i s)

-- the first character has n bytes, and a test of the rest decides
pub record Step (f g : Bytes → Bool) (n : ℕ) (s : Bytes) : Type 0 where
  pub some : 0 < n
  pub within : n ≤ length s
  pub rest : f s ≡ g (drop n s)

-- a step, or the test fails
abbrev pub Steps : (Bytes → Bool) → (Bytes → Bool) → Option ℕ → Bytes → Type 0
Steps f g (Some n) s = Step f g n s
Steps f g None s = f s ≡ false
