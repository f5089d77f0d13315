-- Where no event is complete yet, all that is at hand belongs to one event, so it is no longer than an event may be.
use Rattle.std.specs.Prelude.{ℕ, ◌≤◌, ◌≡◌, refl, Bool, true, false, [], ◌∷◌, eqb, ltb, length}
use Rattle.std.proofs.Common.{ap, arith, ltb-false}
use Rattle.spec.specs.Bytes.{Bytes, byte, when◌then◌else◌}
use Rattle.spec.specs.Limits.{most_event_bytes}
use Rattle.spec.specs.Numbers.{refuse}
use Rattle.spec.specs.declared.Refusal.TheVariants.{Incomplete}
use Rattle.spec.specs.Document.{Doc}
use Rattle.spec.specs.Calls.{is_open, refused, refused_in, stepped, call_step}
use Rattle.spec.specs.PyxCut.{goes_on, Ending, sure, line_end, mid_line, in_front, reach, wait, too_long, ended, in_length, cut}
use Rattle.theorems.specs.Refusals.{Why, no_event, given-only_when}
use Rattle.reader.specs.Core.{first_accepted}

-- all that there is
reach_all : (c : ℕ) (a : Bool) (s : Bytes) → ((reach c a s).1 ≡ sure → ⊥) → (reach c a s).0 ≡ s
unfolding reach in_front
reach_all c true [] h = refl
reach_all c false [] h = refl
reach_all c true (b ∷ s) h = go (goes_on c b) refl (reach_all c false s)
  where
    go : (g : Bool) → goes_on c b ≡ g → (((reach c false s).1 ≡ sure → ⊥) → (reach c false s).0 ≡ s) → (reach c true (b ∷ s)).0 ≡ b ∷ s
    go true e ih = rw (e, reach) (ap (λ (x : Bytes). b ∷ x) (ih (λ z. h (rw (e, reach) z))))
    go false e ih = absurd (h (rw (e, reach) refl))
reach_all c false (b ∷ s) h = ap (λ (x : Bytes). b ∷ x) (reach_all c (eqb b (byte "\n")) s h)

waiting : (last : Bool) (r : Bytes × Ending) → in_length last r ≡ wait → (length r.0 ≤ most_event_bytes) × (r.1 ≡ sure → ⊥)
unfolding in_length ended when◌then◌else◌
waiting last (e, k) = go (ltb most_event_bytes (length e)) refl k
  where
    go : (b : Bool) → ltb most_event_bytes (length e) ≡ b → (k : Ending) → (when b then too_long else ended last (e, k)) ≡ wait → (length e ≤ most_event_bytes) × (k ≡ sure → ⊥)
    go true p k h = let z : ◌≡◌ {A = ℕ} 0 1 = cc in absurd (omega arith)
    go false p sure h = let z : ◌≡◌ {A = ℕ} 0 1 = cc in absurd (omega arith)
    go false p line_end h = (ltb-false _ _ p, λ q. let z : ◌≡◌ {A = ℕ} 0 1 = cc in omega arith)
    go false p mid_line h = (ltb-false _ _ p, λ q. let z : ◌≡◌ {A = ℕ} 0 1 = cc in omega arith)

wait_short : (last : Bool) (s : Bytes) → cut last s ≡ wait → length s ≤ most_event_bytes
unfolding cut
wait_short last [] h = omega arith
wait_short last (c ∷ s) h =
    let w = waiting last (reach c false (c ∷ s)) h in
    rw (reach_all c false (c ∷ s) w.1) at w.0

pub waits_short : (last : Bool) (s : Bytes) (room : ℕ) (d : Doc) → first_accepted last s room d ≡ refuse Incomplete → length s ≤ most_event_bytes
unfolding call_step first_accepted stepped refused_in refused
waits_short last s room d e = go (given-only_when last s room (is_open d) Incomplete refl (rw e))
  where
    go : Why last s room (is_open d) Incomplete → length s ≤ most_event_bytes
    go (no_event d h) = wait_short last s h
