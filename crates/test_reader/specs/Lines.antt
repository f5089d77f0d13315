-- Parts of a text and the places of its lines.
use Rattle.std.specs.Prelude.{ℕ, ◌-◌, ◌≤◌, ◌<◌, ◌≡◌, ◌⊎◌, ◌&&◌, List, [], leb, length, take, drop}
use Rattle.std.proofs.Common.{⊎_elim, arith, le-leb}
use Rattle.copy.specs.Copy.{rest_of}
use Rattle.state_words.specs.Words.{pick}

-- the bytes from a place up to another, or none where there are no such
unfoldable pub part_of : ℕ → ℕ → List ℕ → List ℕ
part_of from to s = pick (leb from to && leb to (length s)) (take (to - from) (drop from s)) []

-- all from a place on, and all up to one
pub part-rest : (s : List ℕ) (from : ℕ) → from ≤ length s → part_of from (length s) s ≡ drop from s
unfolding part_of
part-rest s from h = rw (le-leb from (length s) h, le-leb (length s) (length s) (omega arith)) (rest_of s from)

pub part_front : (s : List ℕ) (to : ℕ) → to ≤ length s → part_of 0 to s ≡ take to s
unfolding part_of
part_front s to h =
    let z : to - 0 ≡ to = omega arith in
    rw (le-leb 0 to (omega arith), le-leb to (length s) h, z)

-- a place of the text: its end, or one that is not before `from`
pub record Within (from : ℕ) (s : List ℕ) (to : ℕ) : Type 0 where
  pub within : to ≤ length s
  pub onward : (to ≡ length s) ⊎ (from ≤ to)

-- its end, or a place behind `from`
pub record Behind (from : ℕ) (s : List ℕ) (to : ℕ) : Type 0 where
  pub within : to ≤ length s
  pub onward : (to ≡ length s) ⊎ (from < to)

-- from a place before the end to one behind it
pub goes_on_lem : {from end to : ℕ} {s : List ℕ} → Within from s end → Behind end s to → from < length s → from < to
goes_on_lem w b h = ⊎_elim (λ e. omega arith) (λ l. ⊎_elim (λ e. omega (arith, b.within)) (λ k. omega arith) w.onward) b.onward
