-- An event that is complete stays as it is, whatever bytes follow; and it is the front of the input.
use Rattle.std.specs.Prelude.{◌≡◌, refl, Bool, true, false, ◌&&◌, ◌||◌, [], ◌∷◌, ◌++◌, ℕ, ◌≤◌, ◌<◌, eqb, ltb, length}
use Rattle.std.proofs.Common.{◌∙◌, ap, true≢false, arith, ltb-true, ltb-false, lt-ltb}
use Rattle.std.proofs.lemmas.Bool.{false≢true}
use Rattle.spec.specs.Bytes.{Bytes, byte, when◌then◌else◌}
use Rattle.spec.specs.Limits.{most_event_bytes}
use Rattle.spec.specs.PyxCut.{goes_on, may_go_on, Ending, sure, line_end, mid_line, in_front, reach, Cut, wait, unended, too_long, whole, ended, in_length, cut}

-- which endings, and which cuts, are different
abbrev mark : Ending → ℕ
mark sure = 0
mark line_end = 1
mark mid_line = 2

abbrev is_whole : Cut → Bool
is_whole wait = false
is_whole unended = false
is_whole too_long = false
is_whole (whole e) = true

line_end_clash : line_end ≡ sure → ⊥
line_end_clash h = let z : ◌≡◌ {A = ℕ} 1 0 = ap mark h in omega arith

mid_line_clash : mid_line ≡ sure → ⊥
mid_line_clash h = let z : ◌≡◌ {A = ℕ} 2 0 = ap mark h in omega arith

-- a byte that begins no event of several lines is gone on with by no line
never_goes_on : (c b : ℕ) → may_go_on c ≡ false → goes_on c b ≡ false
unfolding goes_on may_go_on byte
never_goes_on c b h = go (eqb c 40) (eqb c 45) h
  where
    go : (p q : Bool) → (p || q) ≡ false → ((p && eqb b 65) || (q && eqb b 45)) ≡ false
    go true q h = absurd (true≢false h)
    go false true h = absurd (true≢false h)
    go false false h = refl

ended_at_line : (c : ℕ) (t : Bytes) → may_go_on c ≡ false → reach c true t ≡ ([], sure)
unfolding reach when◌then◌else◌
ended_at_line c [] h = rw h
ended_at_line c (b ∷ t) h = rw (never_goes_on c b h, reach) refl

pub reach_stable : (c : ℕ) (a : Bool) (s t : Bytes) → (reach c a s).1 ≡ sure → reach c a (s ++ t) ≡ reach c a s
unfolding reach in_front when◌then◌else◌ byte
reach_stable c true [] t h = go (may_go_on c) refl h
  where
    go : (m : Bool) → may_go_on c ≡ m → (when m then line_end else sure) ≡ sure → reach c true t ≡ ([], (when may_go_on c then line_end else sure))
    go true e h = absurd (line_end_clash h)
    go false e h = rw e (ended_at_line c t e)
reach_stable c false [] t h = absurd (mid_line_clash h)
reach_stable c true (b ∷ s) t h = go (goes_on c b) refl (reach_stable c false s t) h
  where
    go : (g : Bool) → goes_on c b ≡ g → ((reach c false s).1 ≡ sure → reach c false (s ++ t) ≡ reach c false s)
        → (reach c true (b ∷ s)).1 ≡ sure → reach c true (b ∷ (s ++ t)) ≡ reach c true (b ∷ s)
    go true e ih h = rw (e, reach) (ap (in_front b) (ih (rw (e, reach) at h)))
    go false e ih h = rw (e, reach) refl
reach_stable c false (b ∷ s) t h = ap (in_front b) (reach_stable c (eqb b 10) s t h)

ended-whole : (l : Bool) (r : Bytes × Ending) (e : Bytes) → ended false r ≡ whole e → (r.1 ≡ sure) × (ended l r ≡ whole e)
unfolding ended
ended-whole true (x, sure) e h = (refl, h)
ended-whole false (x, sure) e h = (refl, h)
ended-whole l (x, line_end) e h = absurd (false≢true (ap is_whole h))
ended-whole l (x, mid_line) e h = absurd (false≢true (ap is_whole h))

in_length-whole : (l : Bool) (r : Bytes × Ending) (e : Bytes) → in_length false r ≡ whole e → (r.1 ≡ sure) × (in_length l r ≡ whole e)
unfolding in_length when◌then◌else◌
in_length-whole l r e h = go (ltb most_event_bytes (length r.0)) refl h
  where
    go : (b : Bool) → ltb most_event_bytes (length r.0) ≡ b → (when b then too_long else ended false r) ≡ whole e → (r.1 ≡ sure) × (in_length l r ≡ whole e)
    go true q h = absurd (false≢true (ap is_whole h))
    go false q h = let w : (r.1 ≡ sure) × (ended l r ≡ whole e) = ended-whole l r e h in (w.0, simp (q, in_length) w.1)

-- an event that is complete stays as it is, whatever bytes follow
pub cut_stable : (l : Bool) (s t : Bytes) (e : Bytes) → cut false s ≡ whole e → cut l (s ++ t) ≡ whole e
unfolding cut
cut_stable l [] t e h = absurd (false≢true (ap is_whole h))
cut_stable l (c ∷ s) t e h =
    let w : ((reach c false (c ∷ s)).1 ≡ sure) × (in_length l (reach c false (c ∷ s)) ≡ whole e) = in_length-whole l (reach c false (c ∷ s)) e h in
    ap (in_length l) (reach_stable c false (c ∷ s) t w.0) ∙ w.1

-- the bytes that surely belong are the front of the input
pub reach_front : (c : ℕ) (a : Bool) (s : Bytes) → (t : Bytes) × (s ≡ (reach c a s).0 ++ t)
unfolding reach in_front byte
reach_front c true [] = ([], refl)
reach_front c false [] = ([], refl)
reach_front c true (b ∷ s) = go (goes_on c b) refl (reach_front c false s)
  where
    go : (g : Bool) → goes_on c b ≡ g → (t : Bytes) × (s ≡ (reach c false s).0 ++ t) → (t : Bytes) × (b ∷ s ≡ (reach c true (b ∷ s)).0 ++ t)
    go true e h = (h.0, rw (e, reach) (ap (λ (x : Bytes). b ∷ x) h.1))
    go false e h = (b ∷ s, rw (e, reach) refl)
reach_front c false (b ∷ s) = let h = reach_front c (eqb b 10) s in (h.0, ap (λ (x : Bytes). b ∷ x) h.1)

-- more input, no fewer bytes that surely belong
reach-longer : (c : ℕ) (a : Bool) (s t : Bytes) → length (reach c a s).0 ≤ length (reach c a (s ++ t)).0
unfolding reach in_front byte
reach-longer c true [] t = omega arith
reach-longer c false [] t = omega arith
reach-longer c true (b ∷ s) t = go (goes_on c b) refl (reach-longer c false s t)
  where
    go : (g : Bool) → goes_on c b ≡ g → length (reach c false s).0 ≤ length (reach c false (s ++ t)).0
        → length (reach c true (b ∷ s)).0 ≤ length (reach c true (b ∷ (s ++ t))).0
    go true e ih = rw (e, reach) (omega (arith, ih))
    go false e ih = rw (e, reach) (omega arith)
reach-longer c false (b ∷ s) t = let h = reach-longer c (eqb b 10) s t in omega (arith, h)

ended_not_wait : (l : Bool) (r : Bytes × Ending) → (ended false r ≡ wait → ⊥) → (r.1 ≡ sure) × (ended l r ≡ ended false r)
unfolding ended
ended_not_wait true (x, sure) h = (refl, refl)
ended_not_wait false (x, sure) h = (refl, refl)
ended_not_wait l (x, line_end) h = absurd (h refl)
ended_not_wait l (x, mid_line) h = absurd (h refl)

-- what is no wait stays as it is, whatever bytes follow
pub cut-final : (l : Bool) (s t : Bytes) → (cut false s ≡ wait → ⊥) → cut l (s ++ t) ≡ cut false s
unfolding cut in_length when◌then◌else◌
cut-final l [] t h = absurd (h refl)
cut-final l (c ∷ s) t h = go (ltb most_event_bytes (length (reach c false (c ∷ s)).0)) refl h
  where
    short : (r : Bytes × Ending) → reach c false (c ∷ s) ≡ r → ltb most_event_bytes (length (reach c false (c ∷ s)).0) ≡ false → (ended false r ≡ wait → ⊥)
        → in_length l (reach c false (c ∷ (s ++ t))) ≡ ended false r
    short r e q h =
        let w : (r.1 ≡ sure) × (ended l r ≡ ended false r) = ended_not_wait l r h in
        let same : in_length l (reach c false (c ∷ s)) ≡ ended l r = simp (q, in_length) (ap (ended l) e) in
        ap (in_length l) (reach_stable c false (c ∷ s) t (ap (λ (x : Bytes × Ending). x.1) e ∙ w.0)) ∙ (same ∙ w.1)

    go : (b : Bool) → ltb most_event_bytes (length (reach c false (c ∷ s)).0) ≡ b
        → ((when b then too_long else ended false (reach c false (c ∷ s))) ≡ wait → ⊥)
        → in_length l (reach c false (c ∷ (s ++ t))) ≡ (when b then too_long else ended false (reach c false (c ∷ s)))
    go true q h =
        let le : most_event_bytes < length (reach c false (c ∷ s)).0 = ltb-true most_event_bytes (length (reach c false (c ∷ s)).0) q in
        let more = reach-longer c false (c ∷ s) t in
        rw (lt-ltb most_event_bytes (length (reach c false (c ∷ (s ++ t))).0) (omega (arith, le, more))) refl
    go false q h = short (reach c false (c ∷ s)) refl q h

-- ---- a complete event is the front of the input, and has a byte

ended_front : (l : Bool) (r : Bytes × Ending) (e : Bytes) → ended l r ≡ whole e → r.0 ≡ e
unfolding ended
ended_front l (x, sure) e h = cc
ended_front true (x, line_end) e h = cc
ended_front false (x, line_end) e h = absurd (false≢true (ap is_whole h))
ended_front true (x, mid_line) e h = absurd (false≢true (ap is_whole h))
ended_front false (x, mid_line) e h = absurd (false≢true (ap is_whole h))

in_length_front : (l : Bool) (r : Bytes × Ending) (e : Bytes) → in_length l r ≡ whole e → (r.0 ≡ e) × (length r.0 ≤ most_event_bytes)
unfolding in_length when◌then◌else◌
in_length_front l r e h = go (ltb most_event_bytes (length r.0)) refl h
  where
    go : (b : Bool) → ltb most_event_bytes (length r.0) ≡ b → (when b then too_long else ended l r) ≡ whole e → (r.0 ≡ e) × (length r.0 ≤ most_event_bytes)
    go true q h = absurd (false≢true (ap is_whole h))
    go false q h = (ended_front l r e h, ltb-false most_event_bytes (length r.0) q)

one_byte : (c : ℕ) (s : Bytes) → 1 ≤ length (reach c false (c ∷ s)).0
unfolding reach in_front
one_byte c s = omega arith

-- e is the front of s, not empty, and within the limit
pub record Front (s e : Bytes) : Type 0 where
  pub rest : Bytes
  pub split : s ≡ e ++ rest
  pub some : 1 ≤ length e
  pub in_limit : length e ≤ most_event_bytes

pub cut_front : (l : Bool) (s e : Bytes) → cut l s ≡ whole e → Front s e
unfolding cut
cut_front l [] e h = absurd (false≢true (ap is_whole h))
cut_front l (c ∷ s) e h =
    let w : ((reach c false (c ∷ s)).0 ≡ e) × (length (reach c false (c ∷ s)).0 ≤ most_event_bytes) = in_length_front l (reach c false (c ∷ s)) e h in
    let f : (t : Bytes) × (c ∷ s ≡ (reach c false (c ∷ s)).0 ++ t) = reach_front c false (c ∷ s) in
    record { rest = f.0; split = rw w.0 at f.1; some = rw w.0 at (one_byte c s); in_limit = rw w.0 at w.1 }

-- with "no more", nothing but an empty rest waits
pub cut_waits : (rest : Bytes) → cut true rest ≡ wait → rest ≡ []
unfolding cut in_length ended when◌then◌else◌
cut_waits [] h = refl
cut_waits (c ∷ s) h = absurd (go (ltb most_event_bytes (length (reach c false (c ∷ s)).0)) (reach c false (c ∷ s)) h)
  where
    never : (r : Bytes × Ending) → ended true r ≡ wait → ⊥
    never (e, sure) h = let z : ◌≡◌ {A = ℕ} 0 1 = cc in omega arith
    never (e, line_end) h = let z : ◌≡◌ {A = ℕ} 0 1 = cc in omega arith
    never (e, mid_line) h = let z : ◌≡◌ {A = ℕ} 0 1 = cc in omega arith

    go : (b : Bool) (r : Bytes × Ending) → (when b then too_long else ended true r) ≡ wait → ⊥
    go true r h = let z : ◌≡◌ {A = ℕ} 0 1 = cc in omega arith
    go false r h = never r h

-- ---- the lines of a complete event

-- a complete event is what surely belongs to it
pub cut-reach : (l : Bool) (s e : Bytes) → cut l s ≡ whole e → (c : ℕ) × ((reach c false s).0 ≡ e)
unfolding cut
cut-reach l [] e h = absurd (false≢true (ap is_whole h))
cut-reach l (c ∷ s) e h = (c, (in_length_front l (reach c false (c ∷ s)) e h).0)
