-- Every event that `first_event` gives is read by `decode`, where the scratch is as long: none of its lines begins with a space.
use mathlib.Core.Path.{◌≡◌, refl, sym, ◌∙◌}
use mathlib.Core.Bool.{Bool, true, false, ◌&&◌, ◌||◌, false≢true}
use mathlib.Core.List.{[], ◌∷◌}
use Prim.Native.Nat.{ℕ, ◌≤◌}
use lib.Dec.{eqb}
use lib.ListN.{length, take}
use lib.Seq.{length-take-le}
use borrow.Author.Tests.{le-ltb, ne_eqb}
use Rattle.std.specs.Prelude.{Ok}
use Rattle.spec.specs.Bytes.{Bytes, ascii, byte, begins}
use Rattle.spec.specs.Limits.{most_event_bytes}
use Rattle.spec.specs.PyxCut.{goes_on, in_front, reach, whole, cut}
use Rattle.theorems.specs.PyxCut.{cut-reach}
use Rattle.pyx.specs.First.{Cuts}
use Rattle.pyx.specs.Lines.{spaced}
use Rattle.pyx.specs.Decode.{unread}
use Rattle.pyx.proofs.Reach.{goes_on_end}

-- no line behind the first begins with a space, nor does the first where one begins
abbrev Clear : Bool → Bytes → Type 0
Clear true e = (begins (ascii " ") e ≡ false) × (spaced e ≡ false)
Clear false e = spaced e ≡ false

no_space : (c b : ℕ) → goes_on c b ≡ true → eqb 32 b ≡ false
unfolding goes_on byte
no_space c b h = ne_eqb 32 b λ e. false≢true (sym (go (eqb c 40) (eqb c 45) b (sym e)) ∙ h)
  where
    go : (p q : Bool) (b : ℕ) → b ≡ 32 → ((p && eqb b 65) || (q && eqb b 45)) ≡ false
    go true true b e = rw e refl
    go true false b e = rw e refl
    go false true b e = rw e refl
    go false false b e = refl

reach_clear : (c : ℕ) (a : Bool) (s : Bytes) → Clear a (reach c a s).0
unfolding reach in_front spaced begins ascii byte
reach_clear c true [] = (refl, refl)
reach_clear c false [] = refl
reach_clear c true (b ∷ s) = go (goes_on c b) refl (reach_clear c false s)
  where
    go : (g : Bool) → goes_on c b ≡ g → spaced (reach c false s).0 ≡ false → Clear true (reach c true (b ∷ s)).0
    go true e ih = rw (e, reach) (rw (no_space c b e), rw (goes_on_end c b e, ih))
    go false e ih = rw (e, reach) (refl, refl)
reach_clear c false (b ∷ s) = go (eqb b 10) refl (reach_clear c (eqb b 10) s)
  where
    go : (t : Bool) → eqb b 10 ≡ t → Clear (eqb b 10) (reach c (eqb b 10) s).0 → ((eqb b 10 && begins (ascii " ") (reach c (eqb b 10) s).0) || spaced (reach c (eqb b 10) s).0) ≡ false
    go true e ih = let k = rw e at ih in rw (e, k.0, k.1)
    go false e ih = let k = rw e at ih in rw (e, k)

cut_clear : (last : Bool) (s e : Bytes) → cut last s ≡ whole e → spaced e ≡ false
cut_clear last s e h = let r = cut-reach last s e h in rw (← r.1) (reach_clear r.0 false s)

-- what `first_event` gives is read
pub first_read : {last : Bool} {s : Bytes} {n : ℕ} (d : Bytes) → Cuts (Ok n) last s → n ≤ length d → unread (take n s) d ≡ false
unfolding unread
first_read {last} {s} {n} d r h =
    let k : length (take n s) ≡ n = length-take-le n s r.sizes.within in
    rw (cut_clear last s (take n s) (sym r.means), k, le-ltb most_event_bytes n r.sizes.most, le-ltb (length d) n h)
