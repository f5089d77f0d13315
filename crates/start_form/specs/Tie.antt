-- The words that `pyx` writes of a start tag's attributes are those that `start_names` reads.
use Rattle.std.specs.Prelude.{ℕ, zero, suc, ◌<◌, ◌≡◌, refl, List}
use Rattle.std.proofs.Common.{sym}
use Rattle.spec.specs.Bytes.{Bytes}
use Rattle.pyx.specs.Attributes as P
use Rattle.pyx.specs.Names.{colon_of}
use Rattle.start_names.specs.Tag.{attributes_from, attributes_of, name_at, value_at, Split, Splits, colon_splits, last_attribute}

name-same : (e w : List ℕ) (j : ℕ) → P.name_at e w j ≡ name_at e w j
unfolding P.name_at name_at
name-same e w j = refl

value_same : (e w : List ℕ) (j : ℕ) → P.value_at e w j ≡ value_at e w j
unfolding P.value_at value_at
value_same e w j = refl

-- the attributes are the same
pub attributes-same : (e w : List ℕ) (k : ℕ) → P.attributes_of e w k ≡ attributes_of e w k
unfolding P.attributes_of attributes_from
attributes-same e w zero = refl
attributes-same e w (suc k) = rw (name-same e w k, value_same e w k, attributes-same e w k) (sym (last_attribute e w k))

-- a colon's place tells a name's prefix and its local part
pub colon_tells : {c : ℕ} {n : Bytes} → c ≡ colon_of n → Split c n
unfolding colon_of
colon_tells {c} {n} h = rw h (colon_splits n)

pub splits : {e w : List ℕ} {k n : ℕ} → ((j : ℕ) → j < k → P.Placed e w j n) → Splits e w k
splits {e} {w} h = record { at = λ j l. rw (← name-same e w j) (colon_tells (h j l).colon) }
