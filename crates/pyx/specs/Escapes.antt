-- Values and data, decoded.
use Rattle.std.specs.Prelude.{◌≡◌, List, [], ◌∷◌, ℕ, ◌+◌, ◌<◌, ◌≤◌, Option, Some, None, length, drop}
use Rattle.spec.specs.Bytes.{Bytes, ascii, after, concat, each, ◌>>=◌}
use Rattle.spec.specs.Numbers.{Answer, refuse, good}
use Rattle.spec.specs.declared.Refusal.TheVariants.{NotPyx}
use Rattle.spec.specs.Pyx.{unescape}
use Rattle.copy.specs.Copy.{Wrote}
use Rattle.pyx.specs.Lines.{lines_of, front, Kept}

-- the first n bytes stand for b
pub record Stands (b n : ℕ) (s : Bytes) : Type 0 where
  pub some : 0 < n
  pub within : n ≤ length s
  pub eq : unescape s ≡ front (b ∷ []) (unescape (drop n s))

-- `next_byte`
abbrev pub Nexts : Option (ℕ × ℕ) → Bytes → Type 0
Nexts None s = unescape s ≡ refuse NotPyx
Nexts (Some next) s = Stands next.0 next.1 s

-- a text that was put into the scratch, of no more than n bytes
pub record Stored (a : Answer Bytes) (n : ℕ) (d e : List ℕ) (at to : ℕ) : Type 0 where
  pub text : Bytes
  pub is : a ≡ good text
  pub wrote : Wrote d e at to text
  pub short : to ≤ at + n

-- `unescape`, `put_data`, `put_text`
abbrev pub Unescapes : Option ℕ → Answer Bytes → ℕ → List ℕ → List ℕ → ℕ → Type 0
Unescapes None a n d e at = (a ≡ refuse NotPyx) × Kept d e (at + n)
Unescapes (Some to) a n d e at = Stored a n d e at to

-- the data of all lines, joined
unfoldable pub data_of : Bytes → Answer Bytes
data_of s = each (λ l. unescape (after (ascii "-") l)) (lines_of s) >>= λ ts. good (concat ts)
