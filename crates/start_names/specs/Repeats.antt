-- Repeated attributes: as written, and by what they are compared by outside Literal content.
use Rattle.std.specs.Prelude.{◌≡◌, Bool, ◌&&◌, ◌||◌, eqb}
use Rattle.std.proofs.Math.Path.{refl, ap}
use Rattle.std.proofs.Common.{sym}
use Rattle.std.proofs.Math.Bool.{true, false, not}
use Rattle.std.proofs.Math.Option.{Option, none, some}
use mathlib.Core.List.{List, [], ◌∷◌, map}
use Prim.Native.Nat.{ℕ, zero, suc}
use Rattle.spec.specs.Bytes.{Bytes, when◌then◌else◌, same, is_empty, is_some, those, present, member, repeats}
use Rattle.spec.specs.XmlNames.{prefix_of, local_of}
use Rattle.spec.specs.Pyx.{Attribute}
use Rattle.spec.specs.Namespaces.{Binding, name_of, is_declaration, namespace, joined, expand_attribute, is_known, expanded_names, unknown_names, repeats_expanded, repeats_written}
use Rattle.start_names.specs.Tag.{name_at, attribute_at, attributes_from, attributes_of}
use Rattle.start_names.specs.Pairs.{behind, pairs}

-- ---- as written

unfoldable pub same_written : List ℕ → List ℕ → ℕ → ℕ → Bool
same_written e w j i = same (name_at e w j) (name_at e w i)

module _ (e w : List ℕ) where
  -- the test of two names that were read
  pub written_test : (j i : ℕ) {n m : Bytes} {r : Bool} → n ≡ name_at e w j → m ≡ name_at e w i → r ≡ same n m → same_written e w j i ≡ r
  unfolding same_written
  written_test j i p q h = rw (h, p, q)

  written_behind : (j i m : ℕ) → behind (same_written e w) j i m ≡ member (name_at e w j) (map name_of (attributes_from e w i m))
  unfolding behind member attributes_from attribute_at name_of same_written
  written_behind j i zero = refl
  written_behind j i (suc m) = rw (written_behind j (suc i) m)

  written-pairs : (j m : ℕ) → pairs (same_written e w) j m ≡ repeats (map name_of (attributes_from e w j m))
  unfolding pairs repeats attributes_from attribute_at name_of
  written-pairs j zero = refl
  written-pairs j (suc m) = rw (written_behind j (suc j) m, written-pairs (suc j) m)

  -- what `repeated_written` finds
  pub written_means : (k : ℕ) → pairs (same_written e w) 0 k ≡ repeats_written (attributes_of e w k)
  unfolding repeats_written
  written_means k = written-pairs 0 k

-- ---- what attributes are compared by: declarations and names with an unknown prefix as written, each among themselves; all others by expanded name

abbrev pub Key : Type 0
Key = ℕ × Bytes

-- 0 for a declaration, 1 for an unknown prefix, 2 for an expanded name
unfoldable pub keyed : Bool → Bytes → Option Bytes → Key
keyed true n o = (0, n)
keyed false n none = (1, n)
keyed false n (some x) = (2, x)

unfoldable pub key_of : List Binding → Attribute → Key
key_of bs a = keyed (is_declaration a) (name_of a) (expand_attribute bs (name_of a))

unfoldable pub same_key : Key → Key → Bool
same_key k l = eqb k.0 l.0 && same k.1 l.1

unfoldable pub member_key : Key → List Key → Bool
member_key k [] = false
member_key k (l ∷ ls) = same_key k l || member_key k ls

unfoldable pub repeats_keys : List Key → Bool
repeats_keys [] = false
repeats_keys (k ∷ ks) = member_key k ks || repeats_keys ks

-- the texts of one kind
unfoldable texts_of : ℕ → List Key → List Bytes
texts_of i [] = []
texts_of i (k ∷ ks) = when eqb i k.0 then (k.1 ∷ texts_of i ks) else texts_of i ks

member-texts : (i : ℕ) (s : Bytes) (ks : List Key) → member_key (i, s) ks ≡ member s (texts_of i ks)
unfolding member_key same_key member texts_of when◌then◌else◌
member-texts i s [] = refl
member-texts i s (k ∷ ks) = go (eqb i k.0) (member-texts i s ks)
  where
    go : (t : Bool) → member_key (i, s) ks ≡ member s (texts_of i ks)
        → ((t && same s k.1) || member_key (i, s) ks) ≡ member s (when t then (k.1 ∷ texts_of i ks) else texts_of i ks)
    go true h = rw h
    go false h = h

-- `||` in another order
first_of : (m a b c : Bool) → (m || (a || (b || c))) ≡ ((m || a) || (b || c))
first_of true a b c = refl
first_of false a b c = refl

second_of : (m a b c : Bool) → (m || (a || (b || c))) ≡ (a || ((m || b) || c))
second_of true true b c = refl
second_of true false b c = refl
second_of false a b c = refl

third_of : (m a b c : Bool) → (m || (a || (b || c))) ≡ (a || (b || (m || c)))
third_of true true b c = refl
third_of true false true c = refl
third_of true false false c = refl
third_of false a b c = refl

module _ (bs : List Binding) where
  known_some : (n : Bytes) → is_known bs n ≡ is_some (expand_attribute bs n)
  unfolding is_known is_some expand_attribute joined when◌then◌else◌
  known_some n = go (is_empty (prefix_of n)) (namespace bs (prefix_of n))
    where
      go : (t : Bool) (o : Option Bytes) → (t || is_some o) ≡ is_some (when t then some n else joined o (local_of n))
      go true o = refl
      go false none = refl
      go false (some x) = refl

  declared-texts : (as' : List Attribute) → map name_of (those is_declaration as') ≡ texts_of 0 (map (key_of bs) as')
  unfolding those texts_of key_of keyed when◌then◌else◌
  declared-texts [] = refl
  declared-texts (a ∷ as') = go (is_declaration a) (expand_attribute bs (name_of a)) (declared-texts as')
    where
      go : (t : Bool) (o : Option Bytes) → map name_of (those is_declaration as') ≡ texts_of 0 (map (key_of bs) as')
          → map name_of (when t then (a ∷ those is_declaration as') else those is_declaration as') ≡ texts_of 0 (keyed t (name_of a) o ∷ map (key_of bs) as')
      go true o h = ap (name_of a ∷◌) h
      go false none h = h
      go false (some x) h = h

  unknown_texts : (as' : List Attribute) → unknown_names bs as' ≡ texts_of 1 (map (key_of bs) as')
  unfolding unknown_names those texts_of key_of keyed is_some when◌then◌else◌
  unknown_texts [] = refl
  unknown_texts (a ∷ as') = go (is_declaration a) (expand_attribute bs (name_of a)) (known_some (name_of a)) (unknown_texts as')
    where
      go : (t : Bool) (o : Option Bytes) → is_known bs (name_of a) ≡ is_some o → unknown_names bs as' ≡ texts_of 1 (map (key_of bs) as')
          → those (λ n. not (is_known bs n)) (map name_of (when not t then (a ∷ those (λ b. not (is_declaration b)) as') else those (λ b. not (is_declaration b)) as'))
          ≡ texts_of 1 (keyed t (name_of a) o ∷ map (key_of bs) as')
      go true o k h = h
      go false none k h = rw k (ap (name_of a ∷◌) h)
      go false (some x) k h = rw k h

  expanded_texts : (as' : List Attribute) → expanded_names bs as' ≡ texts_of 2 (map (key_of bs) as')
  unfolding expanded_names those present texts_of key_of keyed when◌then◌else◌
  expanded_texts [] = refl
  expanded_texts (a ∷ as') = go (is_declaration a) (expand_attribute bs (name_of a)) refl (expanded_texts as')
    where
      go : (t : Bool) (o : Option Bytes) → expand_attribute bs (name_of a) ≡ o → expanded_names bs as' ≡ texts_of 2 (map (key_of bs) as')
          → present (map (λ b. expand_attribute bs (name_of b)) (when not t then (a ∷ those (λ b. not (is_declaration b)) as') else those (λ b. not (is_declaration b)) as'))
          ≡ texts_of 2 (keyed t (name_of a) o ∷ map (key_of bs) as')
      go true o k h = h
      go false none k h = rw k h
      go false (some x) k h = rw k (ap (x ∷◌) h)

  -- repeats of each kind
  abbrev repeats_in : ℕ → List Attribute → Bool
  repeats_in i as' = repeats (texts_of i (map (key_of bs) as'))

  kinds : (as' : List Attribute) → repeats_keys (map (key_of bs) as') ≡ (repeats_in 0 as' || (repeats_in 1 as' || repeats_in 2 as'))
  unfolding repeats_keys repeats texts_of key_of keyed when◌then◌else◌
  kinds [] = refl
  kinds (a ∷ as') = go (is_declaration a) (expand_attribute bs (name_of a)) (kinds as')
    where
      go : (t : Bool) (o : Option Bytes) → repeats_keys (map (key_of bs) as') ≡ (repeats_in 0 as' || (repeats_in 1 as' || repeats_in 2 as'))
          → repeats_keys (keyed t (name_of a) o ∷ map (key_of bs) as')
          ≡ (repeats (texts_of 0 (keyed t (name_of a) o ∷ map (key_of bs) as'))
          || (repeats (texts_of 1 (keyed t (name_of a) o ∷ map (key_of bs) as')) || repeats (texts_of 2 (keyed t (name_of a) o ∷ map (key_of bs) as'))))
      go true o h =
          rw (member-texts 0 (name_of a) (map (key_of bs) as'), h)
          (first_of (member (name_of a) (texts_of 0 (map (key_of bs) as'))) (repeats_in 0 as') (repeats_in 1 as') (repeats_in 2 as'))
      go false none h =
          rw (member-texts 1 (name_of a) (map (key_of bs) as'), h)
          (second_of (member (name_of a) (texts_of 1 (map (key_of bs) as'))) (repeats_in 0 as') (repeats_in 1 as') (repeats_in 2 as'))
      go false (some x) h =
          rw (member-texts 2 x (map (key_of bs) as'), h)
          (third_of (member x (texts_of 2 (map (key_of bs) as'))) (repeats_in 0 as') (repeats_in 1 as') (repeats_in 2 as'))

  -- the definition, by keys
  pub repeats_by_keys : (as' : List Attribute) → repeats_expanded bs as' ≡ repeats_keys (map (key_of bs) as')
  unfolding repeats_expanded
  repeats_by_keys as' = rw (declared-texts as', unknown_texts as', expanded_texts as') (sym (kinds as'))
