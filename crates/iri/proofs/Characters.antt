-- Bytes and the characters that they are in UTF-8, as a relation: what holds of texts behind one another holds of both sides.
use mathlib.Core.Path.{◌≡◌, refl, sym, ap, ◌∙◌}
use mathlib.Core.Bool.{Bool, true, false}
use mathlib.Core.Option.{Option, none, some}
use mathlib.Core.List.{List, [], ◌∷◌, ◌++◌, append_assoc, cons≢nil, head-eq_of_cons-eq, tail-eq_of_cons-eq}
use Prim.Native.Nat.{ℕ, ◌<◌, ◌≤◌}
use native.Mathlib.Omega.{arith}
use lib.Dec.{ltb}
use lib.ListN.{length, length-append}
use lib.Seq.{take-append_seam, drop-append_seam}
use borrow.Author.Tests.{ltb-true, ltb-false}
use Rattle.spec.proofs.Booleans.{and_left, and_right}
use Rattle.spec.specs.Bytes.{Bytes, when◌then◌else◌, up_to, from, every}
use Rattle.spec.specs.Utf8.{character, in_front, characters}
use Rattle.utils.specs.Decoding.{Front}
use Rattle.utils.proofs.Utf8.{ends, up_to_on, character_good, characters_cons, sequence_alone, alone_sequence, low_byte, high_byte, no_bytes, then_others}
use Rattle.utils.proofs.Front.{front_bytes}
use Rattle.utils.proofs.Decoding.{front_one}

pub data Reads : Bytes → List ℕ → Type 0 where
  done : Reads [] []
  next : (t : Bytes) {c : ℕ} {s : Bytes} {cs : List ℕ} → characters t ≡ some (c ∷ []) → Reads s cs → Reads (t ++ s) (c ∷ cs)

-- ---- the relation is that of `characters`

pub reads-characters : {s : Bytes} {cs : List ℕ} → Reads s cs → characters s ≡ some cs
unfolding in_front
reads-characters done = no_bytes
reads-characters (next t {s = s} e r) = then_others t s e ∙ rw (reads-characters r)

pub up_to_from_lem : (p : ℕ → Bool) (s : Bytes) → up_to p s ++ from p s ≡ s
unfolding up_to from when◌then◌else◌
up_to_from_lem p [] = refl
up_to_from_lem p (a ∷ s) = by (p a) (up_to_from_lem p s)
  where
    by : (t : Bool) → up_to p s ++ from p s ≡ s → (when t then [] else (a ∷ up_to p s)) ++ (when t then (a ∷ s) else from p s) ≡ a ∷ s
    by true h = refl
    by false h = ap (◌∷◌ a) h

pub in_parts : (o : Option ℕ) (r : Option (List ℕ)) {cs : List ℕ} → in_front o r ≡ some cs → (c : ℕ) × (ds : List ℕ) × (o ≡ some c) × (r ≡ some ds) × (cs ≡ c ∷ ds)
unfolding in_front
in_parts none r e = absurd (let z : ◌≡◌ {A = ℕ} 0 1 = cc in omega arith)
in_parts (some d) none e = absurd (let z : ◌≡◌ {A = ℕ} 0 1 = cc in omega arith)
in_parts (some d) (some ds) e = (d, ds, refl, refl, cc)

nil-some : {cs : List ℕ} → characters [] ≡ some cs → cs ≡ []
nil-some e = cc no_bytes

-- by the number of characters
pub characters-reads : (cs : List ℕ) (s : Bytes) → characters s ≡ some cs → Reads s cs
characters-reads [] [] e = done
characters-reads (c ∷ cs) [] e = absurd (cons≢nil (nil-some e))
characters-reads [] (b ∷ s) e = absurd (cons≢nil (sym (in_parts _ _ (sym (characters_cons b s) ∙ e)).4))
characters-reads (c ∷ cs) (b ∷ s) e = by (in_parts _ _ (sym (characters_cons b s) ∙ e)) (λ h. characters-reads cs (from ends s) h)
  where
    by : ((d : ℕ) × (ds : List ℕ) × (character (b ∷ up_to ends s) ≡ some d) × (characters (from ends s) ≡ some ds) × (c ∷ cs ≡ d ∷ ds))
        → (characters (from ends s) ≡ some cs → Reads (from ends s) cs) → Reads (b ∷ s) (c ∷ cs)
    by p f =
        let q : character (b ∷ up_to ends s) ≡ some c = p.2 ∙ ap some (sym (head-eq_of_cons-eq p.4)) in
        let alone : characters (b ∷ up_to ends s) ≡ some (c ∷ []) = sequence_alone (record { on = up_to_on s; good = character_good q }) in
        let whole : Reads ((b ∷ up_to ends s) ++ from ends s) (c ∷ cs) = next (b ∷ up_to ends s) alone (f (p.3 ∙ ap some (sym (tail-eq_of_cons-eq p.4)))) in
        rw up_to_from_lem at whole

-- ---- texts behind one another

pub reads-append : {s t : Bytes} {cs ds : List ℕ} → Reads s cs → Reads t ds → Reads (s ++ t) (cs ++ ds)
reads-append done q = q
reads-append (next u e r) q = rw append_assoc (next u e (reads-append r q))

pub reads-split : (cs ds : List ℕ) (s : Bytes) → Reads s (cs ++ ds) → (u : Bytes) × (v : Bytes) × (s ≡ u ++ v) × Reads u cs × Reads v ds
reads-split [] ds s r = ([], s, refl, done, r)
reads-split (c ∷ cs) ds s r = by (c ∷ cs ++ ds) refl r (λ t. reads-split cs ds t)
  where
    by : {s : Bytes} (es : List ℕ) → es ≡ c ∷ (cs ++ ds) → Reads s es → ((t : Bytes) → Reads t (cs ++ ds) → (u : Bytes) × (v : Bytes) × (t ≡ u ++ v) × Reads u cs × Reads v ds)
        → (u : Bytes) × (v : Bytes) × (s ≡ u ++ v) × Reads u (c ∷ cs) × Reads v ds
    by es h done f = absurd (cons≢nil (sym h))
    by es h (next t {c = d} {s = s} {cs = es'} e r) f =
        let p = f s (rw (tail-eq_of_cons-eq h) at r) in
        (t ++ p.0, p.1, ap (◌++◌ t) p.2 ∙ sym (append_assoc t p.0 p.1), next t (e ∙ ap (λ (x : ℕ). some (x ∷ [])) (head-eq_of_cons-eq h)) p.3, p.4)

-- ---- characters below 128 are bytes

pub low_alone : (c : ℕ) → c < 128 → characters (c ∷ []) ≡ some (c ∷ [])
low_alone c h = (front_one (c ∷ []) (omega arith) h).alone

pub alone_low : {c : ℕ} (t : Bytes) → characters t ≡ some (c ∷ []) → c < 128 → t ≡ c ∷ []
alone_low [] e h = absurd (cons≢nil (nil-some e))
alone_low {c} (b ∷ u) e h = by (ltb b 128) refl
  where
    by : (t : Bool) → ltb b 128 ≡ t → b ∷ u ≡ c ∷ []
    by true l = let q = low_byte (alone_sequence e) (ltb-true b 128 l) in rw (q.0, q.1)
    by false l = absurd (omega (arith, high_byte (alone_sequence e) (ltb-false b 128 l)))

-- a text of such characters is its own bytes
pub low_reads : (s : Bytes) → every (λ c. ltb c 128) s ≡ true → Reads s s
unfolding every
low_reads [] h = done
low_reads (c ∷ s) h = next (c ∷ []) (low_alone c (ltb-true c 128 (and_left (ltb c 128) _ h))) (low_reads s (and_right (ltb c 128) _ h))

pub reads_low : {s : Bytes} {cs : List ℕ} → Reads s cs → every (λ c. ltb c 128) cs ≡ true → s ≡ cs
unfolding every
reads_low done h = refl
reads_low (next t {c = c} {s = s} {cs = cs} e r) h =
    let p : t ≡ c ∷ [] = alone_low t e (ltb-true c 128 (and_left (ltb c 128) _ h)) in
    let q : s ≡ cs = reads_low r (and_right (ltb c 128) _ h) in
    rw (p, q)

-- a test that every byte from 128 on passes can be made on the bytes
pub reads-every : (p : ℕ → Bool) → ((x : ℕ) → 128 ≤ x → p x ≡ true) → {s : Bytes} {cs : List ℕ} → Reads s cs → every p s ≡ every p cs
unfolding every
reads-every p high done = refl
reads-every p high (next t {c = c} {s = s} {cs = cs} e r) =
    let f : Front c (length t) (t ++ s) = record { within = omega (arith, length-append t s); alone = rw take-append_seam e } in
    front_bytes p high f ∙ rw (drop-append_seam, reads-every p high r)

-- a character below 128 in front is a byte in front
pub reads_front : {s : Bytes} {c : ℕ} {cs : List ℕ} → c < 128 → Reads s (c ∷ cs) → (t : Bytes) × (s ≡ c ∷ t) × Reads t cs
reads_front {s} {c} {cs} h r = by (c ∷ cs) refl r
  where
    by : {s : Bytes} (es : List ℕ) → es ≡ c ∷ cs → Reads s es → (t : Bytes) × (s ≡ c ∷ t) × Reads t cs
    by es q done = absurd (cons≢nil (sym q))
    by es q (next t {c = d} {s = s} e r) =
        let k : d ≡ c = head-eq_of_cons-eq q in
        let l : t ≡ c ∷ [] = alone_low t (e ∙ ap (λ (x : ℕ). some (x ∷ [])) k) h in
        (s, rw l, rw (tail-eq_of_cons-eq q) at r)

pub front_reads : {s : Bytes} (c : ℕ) {cs : List ℕ} → c < 128 → Reads s cs → Reads (c ∷ s) (c ∷ cs)
front_reads c h r = next (c ∷ []) (low_alone c h) r
