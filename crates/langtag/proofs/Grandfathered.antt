-- Tags that RFC 5646 lists: the irregular ones are compared, and the regular ones are composed as others are.
use mathlib.Core.Path.{◌≡◌, refl, ap, ◌∙◌}
use mathlib.Core.Logic.{◌⊎◌, inl, inr}
use mathlib.Core.Bool.{Bool, true, false, ◌&&◌, false≢true}
use mathlib.Core.List.{List, [], ◌∷◌, map}
use Prim.Native.Nat.{ℕ}
use Rattle.spec.specs.Bytes.{Bytes, ascii, byte, when◌then◌else◌, same, member, between, onto}
use Rattle.spec.specs.Grammar.{Grammar, ◌or◌, Describes}
use Rattle.spec.specs.Abnf.{lower, letters, word}
use Rattle.spec.specs.Rfc5646 as R
use Rattle.spec.proofs.Booleans.{or_cases, or_left, or_right_lem, and_left, and_right}
use Rattle.copy.specs.Texts.{same_true, same_refl}
use Rattle.langtag.specs.declared.Reader.{Reader}
use Rattle.langtag.specs.Machine.{letter, digit, is_x, fresh, longer, first, grown, sized, kind, start, ended, step, reads, composed, spaced, words, irregulars, irregular}
use Rattle.langtag.proofs.Letters.{lower_twice, digit-lower, hyphen_lower, letters_sound, letters_complete}

-- ---- one of some words

data Among : Grammar ℕ → List Bytes → Type 0 where
  last : {w : Bytes} → Among (letters w) (w ∷ [])
  next : {w : Bytes} {g : Grammar ℕ} {l : List Bytes} → Among g l → Among (letters w or g) (w ∷ l)

among_sound : {g : Grammar ℕ} {l : List Bytes} → Among g l → (s : Bytes) → Describes g s → member (map lower s) l ≡ true
unfolding member
among_sound (last {w = w}) s d = or_left (same (map lower s) w) false (rw (letters_sound w s d) (same_refl w))
among_sound (next {w = w} {l = l} a) s (inl d) = or_left (same (map lower s) w) (member (map lower s) l) (rw (letters_sound w s d) (same_refl w))
among_sound (next {w = w} {l = l} a) s (inr d) = or_right_lem (same (map lower s) w) (member (map lower s) l) (among_sound a s d)

among_complete : {g : Grammar ℕ} {l : List Bytes} → Among g l → (s : Bytes) → member (map lower s) l ≡ true → Describes g s
unfolding member
among_complete (last {w = w}) s h = letters_complete w s (same_true (map lower s) w (go (or_cases (same (map lower s) w) false h)))
  where
    go : (same (map lower s) w ≡ true) ⊎ (false ≡ true) → same (map lower s) w ≡ true
    go (inl e) = e
    go (inr e) = absurd (false≢true e)
among_complete (next {w = w} {l = l} a) s h =
    go (or_cases (same (map lower s) w) (member (map lower s) l) h) (λ e. among_complete a s e)
  where
    go : {D : Type 0} → (same (map lower s) w ≡ true) ⊎ (member (map lower s) l ≡ true) → (member (map lower s) l ≡ true → D) → Describes (letters w) s ⊎ D
    go (inl e) f = inl (letters_complete w s (same_true (map lower s) w e))
    go (inr e) f = inr (f e)

-- ---- the irregular ones

listed : Among R.irregular irregulars
unfolding R.irregular irregulars words spaced onto ascii byte when◌then◌else◌ word
listed = next (next (next (next (next (next (next (next (next (next (next (next (next (next (next (next last)))))))))))))))

pub irregular_sound : (s : Bytes) → irregular s ≡ true → Describes R.irregular s
unfolding irregular
irregular_sound s h = among_complete listed s h

pub irregular_complete : (s : Bytes) → Describes R.irregular s → irregular s ≡ true
unfolding irregular
irregular_complete s d = among_sound listed s d

-- ---- the regular ones

regulars : List Bytes
regulars =
    ascii "art-lojban" ∷ ascii "cel-gaulish" ∷ ascii "no-bok" ∷ ascii "no-nyn" ∷ ascii "zh-guoyu" ∷ ascii "zh-hakka" ∷ ascii "zh-min" ∷ ascii "zh-min-nan"
    ∷ ascii "zh-xiang" ∷ []

every_one : (Bytes → Bool) → List Bytes → Bool
every_one p [] = true
every_one p (w ∷ l) = p w && every_one p l

-- each follows the rules
all_composed : every_one composed regulars ≡ true
unfolding every_one regulars ascii composed start fresh reads step ended grown longer first kind sized letter digit is_x lower byte between when◌then◌else◌
all_composed = refl

member-every : (p : Bytes → Bool) (l : List Bytes) (s : Bytes) → every_one p l ≡ true → member s l ≡ true → p s ≡ true
unfolding every_one member
member-every p [] s h e = absurd (false≢true e)
member-every p (w ∷ l) s h e = go (or_cases (same s w) (member s l) e) (member-every p l s (and_right (p w) (every_one p l) h))
  where
    go : (same s w ≡ true) ⊎ (member s l ≡ true) → (member s l ≡ true → p s ≡ true) → p s ≡ true
    go (inl q) f = rw (same_true s w q) (and_left (p w) (every_one p l) h)
    go (inr q) f = f q

-- the machine takes a letter in either case for the same
step-lower : (r : Reader) (c : ℕ) → step r (lower c) ≡ step r c
unfolding step grown letter is_x byte
step-lower r c = rw (hyphen_lower c, lower_twice c, digit-lower c)

reads-lower : (r : Reader) (s : Bytes) → reads r (map lower s) ≡ reads r s
unfolding reads
reads-lower r [] = refl
reads-lower r (c ∷ s) = ap (λ (q : Reader). reads q (map lower s)) (step-lower r c) ∙ reads-lower (step r c) s

pub regular-composed : (s : Bytes) → Describes R.regular s → composed s ≡ true
unfolding R.regular regulars word composed
regular-composed s d =
    let a : Among R.regular regulars = next (next (next (next (next (next (next (next last))))))) in
    let h : composed (map lower s) ≡ true = member-every composed regulars (map lower s) all_composed (among_sound a s d) in
    rw (reads-lower start s) at h
