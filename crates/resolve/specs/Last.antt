-- The last "/" of a text, and what stands before it: RFC 3986, section 5.2.3, and 5.2.4 where ".." removes the last segment.
use Rattle.std.specs.Prelude.{◌≡◌, refl, ℕ, suc, ◌-◌, ◌<◌, ◌≤◌, length, take, drop, get_or}
use Rattle.std.proofs.Common.{sym, ap, ◌∙◌, arith, length-append, take-append-drop, take-suc, take-take, take_at, length-take-le, eqb-true, ne_eqb}
use mathlib.Core.List.{[], ◌∷◌, ◌++◌, reverse, reverse-append, reverse-reverse, reverse-cons, append-nil, append_assoc}
use Rattle.std.proofs.lemmas.List.{length-reverse}
use Rattle.std.proofs.Math.Seq.{take-length, append_snoc}
use Rattle.spec.specs.Bytes.{Bytes, ascii, when◌then◌else◌, after, up_to, from, among}
use Rattle.spec.specs.Rfc3986.{without_last}
use Rattle.copy.specs.Texts.{after_drop}
use Rattle.resolve.specs.Texts.{Front, Headed, from_headed, or-false, cut, Plain, plain_reverse, from-plain, from_none}

-- ---- the last "/"

-- a text up to its last "/", with it
unfoldable pub through_last : Bytes → Bytes
through_last s = reverse (from (among (ascii "/")) (reverse s))

through_slash : (s : Bytes) → through_last (s ++ (47 ∷ [])) ≡ s ++ (47 ∷ [])
unfolding through_last from among ascii when◌then◌else◌
through_slash s = rw (reverse-append s (47 ∷ []), reverse-cons 47 (reverse s), reverse-reverse s)

through_other : (s : Bytes) (b : ℕ) → (b ≡ 47 → ⊥) → through_last (s ++ (b ∷ [])) ≡ through_last s
unfolding through_last from among ascii when◌then◌else◌
through_other s b f = rw (reverse-append s (b ∷ []), ne_eqb 47 b (λ e. f (sym e)))

-- the search from the end: there is no "/" from `n` on
pub record Backwards (s : Bytes) (n : ℕ) : Type 0 where
  pub within : n ≤ length s
  pub is : through_last (take n s) ≡ through_last s

pub backwards_begins : {s : Bytes} → Backwards s (length s)
backwards_begins {s} = record { within = omega arith; is = ap through_last (take-length s) }

last : (s : Bytes) (n : ℕ) → 0 < n → n ≤ length s → take n s ≡ take (n - 1) s ++ (get_or s (n - 1) 0 ∷ [])
last s n z h = let e : n ≡ suc (n - 1) = omega arith in ap (λ (k : ℕ). take k s) e ∙ take-suc s (n - 1) 0 (omega arith)

pub backwards_stop : {s : Bytes} {n : ℕ} → Backwards s n → 0 < n → get_or s (n - 1) 0 ≡ 47 → Front s (through_last s) n
backwards_stop {s} {n} h z e =
    let l : take n s ≡ take (n - 1) s ++ (47 ∷ []) = rw e at (last s n z h.within) in
    record { within = h.within; is = l ∙ sym (through_slash (take (n - 1) s)) ∙ ap through_last (sym l) ∙ h.is }

pub backwards_less : {s : Bytes} {n : ℕ} → Backwards s n → 0 < n → (get_or s (n - 1) 0 ≡ 47 → ⊥) → Backwards s (n - 1)
backwards_less {s} {n} h z f =
    record { within = omega arith; is = sym (through_other (take (n - 1) s) (get_or s (n - 1) 0) f) ∙ ap through_last (sym (last s n z h.within)) ∙ h.is }

pub backwards_done : {s : Bytes} {n : ℕ} → Backwards s n → n ≤ 0 → Front s (through_last s) 0
unfolding through_last from
backwards_done {s} {n} h z = let e : n ≡ 0 = omega arith in record { within = omega arith; is = rw e at h.is }

-- without the last segment: up to the last "/", without it
without-any : (s : Bytes) → length (through_last s) ≡ 0 → without_last s ≡ []
unfolding through_last without_last after ascii
without-any s h = go (from (among (ascii "/")) (reverse s)) h
  where
    go : (u : Bytes) → length (reverse u) ≡ 0 → reverse (after (ascii "/") u) ≡ []
    go [] h = refl
    go (a ∷ u) h = absurd (omega (arith, length-reverse (a ∷ u)))

pub without_slash : (s : Bytes) → 0 < length (through_last s) → through_last s ≡ without_last s ++ (47 ∷ [])
unfolding through_last without_last after among ascii
without_slash s h = go (from (among (ascii "/")) (reverse s)) (from_headed (among (ascii "/")) (reverse s)) h
  where
    go : (u : Bytes) → Headed (among (ascii "/")) u → 0 < length (reverse u) → reverse u ≡ reverse (after (ascii "/") u) ++ (47 ∷ [])
    go [] d h = absurd (omega arith)
    go (a ∷ u) d h = reverse-cons a u ∙ ap (λ (b : ℕ). reverse u ++ (b ∷ [])) (sym (eqb-true 47 a (rw or-false at d)))

pub without_none : {s : Bytes} {n : ℕ} → Front s (through_last s) n → n ≡ 0 → Front s (without_last s) 0
without_none {s} {n} h z =
    record { within = omega arith; is = sym (without-any s (sym (ap length h.is) ∙ length-take-le n s h.within ∙ z)) }

pub without-some : {s : Bytes} {n : ℕ} → Front s (through_last s) n → (n ≡ 0 → ⊥) → Front s (without_last s) (n - 1)
without-some {s} {n} h f =
    let size : length (through_last s) ≡ n = sym (ap length h.is) ∙ length-take-le n s h.within in
    let split : through_last s ≡ without_last s ++ (47 ∷ []) = without_slash s (omega arith) in
    let less : length (without_last s) ≡ n - 1 = omega (arith, ap length split, length-append (without_last s) (47 ∷ [])) in
    record {
      within = omega arith;
      is = sym (take-take (n - 1) n s (omega arith)) ∙ rw (h.is, split) (take_at (without_last s) (47 ∷ []) (n - 1) less);
    }

-- ---- a last segment, which has no "/", comes and goes

pub without_segment : (t s : Bytes) → Plain s → without_last (t ++ 47 ∷ s) ≡ t
unfolding without_last after ascii
without_segment t s h =
    let turned : reverse (t ++ 47 ∷ s) ≡ reverse s ++ 47 ∷ reverse t =
    reverse-append t (47 ∷ s) ∙ rw (reverse-cons 47 s) (append_snoc (reverse s) 47 (reverse t)) in
    rw (turned, from-plain (reverse s) (reverse t) (plain_reverse s h), reverse-reverse t)

pub without_first : (s : Bytes) → Plain s → without_last s ≡ []
unfolding without_last after ascii
without_first s h = rw (from_none (reverse s) (plain_reverse s h))

-- what is taken away
unfoldable last_of : Bytes → Bytes
last_of t = reverse (take 1 (from (among (ascii "/")) (reverse t))) ++ reverse (up_to (among (ascii "/")) (reverse t))

pub record Beginning (u t : Bytes) : Type 0 where
  pub rest : Bytes
  pub is : t ≡ u ++ rest

pub beginning-whole : (t : Bytes) → Beginning t t
beginning-whole t = record { rest = []; is = sym (append-nil t) }

pub without-beginning : (t : Bytes) → Beginning (without_last t) t
unfolding without_last last_of ascii
without-beginning t =
    let f : Bytes = from (among (ascii "/")) (reverse t) in
    let u : Bytes = up_to (among (ascii "/")) (reverse t) in
    let whole : reverse t ≡ u ++ (take 1 f ++ drop 1 f) = sym (cut (among (ascii "/")) (reverse t)) ∙ ap (u ++◌) (sym (take-append-drop 1 f)) in
    let back : t ≡ (reverse (drop 1 f) ++ reverse (take 1 f)) ++ reverse u =
    sym (reverse-reverse t) ∙ ap reverse whole ∙ reverse-append u (take 1 f ++ drop 1 f) ∙ ap (◌++ reverse u) (reverse-append (take 1 f) (drop 1 f)) in
    record { rest = last_of t; is = back ∙ rw (append_assoc, after_drop (ascii "/") f) }

pub beginning_then : {t u v : Bytes} → Beginning t u → Beginning u v → Beginning t v
beginning_then {t} {u} {v} h k = record { rest = h.rest ++ k.rest; is = k.is ∙ ap (◌++ k.rest) h.is ∙ append_assoc t h.rest k.rest }

pub beginning-length : {u t : Bytes} → Beginning u t → length u ≤ length t
beginning-length {u} {t} h = omega (arith, ap length h.is, length-append u h.rest)
