-- Texts in lower case: what is stored, and what is compared.
use mathlib.Core.Path.{◌≡◌, refl, sym, ap, ◌∙◌}
use mathlib.Core.Bool.{Bool, true, false, ◌||◌, false≢true}
use mathlib.Core.List.{List, [], ◌∷◌, map}
use Prim.Native.Nat.{ℕ, ◌+◌, ◌-◌, ◌≤◌}
use native.Mathlib.Omega.{arith}
use Rattle.std.proofs.Common.{add-zero}
use borrow.Rule.Slice.PartMut.{put_mid}
use lib.ListN.{length, take, drop, length-map}
use lib.Seq.{drop-drop}
use Rattle.std.specs.Prelude.{◌↔◌, IsTrue}
use Rattle.std.specs.List.{list_any}
use Rattle.std.proofs.Common.{Bor}
use Rattle.std.specs.Char.{to_ascii_lowercase}
use Rattle.spec.specs.Bytes.{same, member}
use Rattle.spec.specs.Abnf.{lower}
use Rattle.copy.specs.Texts.{same_true, same_refl}
use Rattle.copy.specs.Copy.{Put, put_true, part_stored, stored_at, length_stored, take_before, drop_stored, part_of}
use Rattle.langtag.proofs.Letters.{lowercase-lower}

pub lowercase-lowers : (s : List ℕ) → map to_ascii_lowercase s ≡ map lower s
lowercase-lowers [] = refl
lowercase-lowers (c ∷ s) = cc (lowercase-lower c, lowercase-lowers s)

-- `lowercase_into`: what was put is put in lower case
pub lowered : {d s e : List ℕ} {at : ℕ} → Put d at s e true
    → Put d at (map lower s) (put_mid at (at + length s - at) e (map to_ascii_lowercase (take (at + length s - at) (drop at e)))) true
unfolding stored_at
lowered {d} {s} {e} {at} p =
    let w = put_true p refl in
    let room : at + length s ≤ length d = w.room in
    let k : at + length s - at ≡ length s = omega arith in
    let text : take (at + length s - at) (drop at e) ≡ s = rw w.eq (part_of (stored_at d at s) at (length s) ∙ part_stored d at s room) in
    let head : take at e ≡ take at d = rw w.eq (take_before d at s room at (omega arith)) in
    let tail : drop (at + length s - at) (drop at e) ≡ drop (at + length s) d =
    rw (k, w.eq, drop-drop (length s) at (stored_at d at s)) (rw add-zero at (drop_stored d at s room 0)) in
    let eq : put_mid at (at + length s - at) e (map to_ascii_lowercase (take (at + length s - at) (drop at e))) ≡ stored_at d at (map lower s) =
    rw (text, head, tail, lowercase-lowers s, length-map s lower) in
    record {
      answer = rw (length-map s lower) p.answer;
      wrote = λ _. eq;
      kept = λ l. absurd (let m = rw (length-map s lower) at l in omega arith);
      same = ap length eq ∙ length_stored d at (map lower s) (rw (length-map s lower) room);
    }

-- `irregular`: texts that are the same but for the case of letters
pub folded : (s w : List ℕ) (r : Bool) → (IsTrue r ↔ (map to_ascii_lowercase s ≡ map to_ascii_lowercase w)) → r ≡ same (map lower s) (map lower w)
folded s w true h =
    let e : map lower s ≡ map lower w = sym (lowercase-lowers s) ∙ h.0 refl ∙ lowercase-lowers w in
    rw e (sym (same_refl (map lower w)))
folded s w false h = go (same (map lower s) (map lower w)) refl
  where
    go : (t : Bool) → same (map lower s) (map lower w) ≡ t → false ≡ t
    go true e = absurd (false≢true (h.1 (lowercase-lowers s ∙ same_true (map lower s) (map lower w) e ∙ sym (lowercase-lowers w))))
    go false e = refl

pub list_any-member : (s : List ℕ) (ws : List (Bor (List ℕ))) → list_any (λ w. same (map lower s) (map lower w.now)) ws ≡ member (map lower s) (map (λ w. map lower w.now) ws)
unfolding member
list_any-member s [] = refl
list_any-member s (w ∷ ws) = ap (same (map lower s) (map lower w.now) ||◌) (list_any-member s ws)
