-- UTF-8: a text is a row of characters, each a byte below 128 by itself or several bytes from 128 on. So texts can be joined, and
-- what is cut before or behind a byte below 128 is text again.
use Rattle.std.specs.Prelude.{◌≡◌, refl, Bool, true, false, ◌&&◌, ◌||◌, List, [], ◌∷◌, ◌++◌, ℕ, suc, ◌+◌, ◌*◌, ◌%◌, ◌≤◌, ◌<◌, eqb, leb, ltb, length}
use Rattle.std.proofs.Common.{sym, ◌∙◌, ap, subst, inl, inr, true≢false, arith, eqb-true, ne_eqb, leb-true, le-leb, ltb-true, ltb-false, le-ltb}
use Rattle.std.proofs.lemmas.Bool.{false≢true, lt-leb}
use Rattle.std.proofs.Math.Option.{Option, none, some, none-ne-some, some-injective}
use Rattle.spec.specs.Bytes.{Bytes, every, when◌then◌else◌, between, onto, concat}
use Rattle.spec.specs.Utf8 as U
use Rattle.spec.specs.Utf8.{goes_on, begins_with_one, sequences, fits, least, is_scalar, value, leading_ones, leading_ones_of, character, characters_of, characters, in_front, holds_of, as_characters}
use Rattle.spec.proofs.Booleans.{and_left, and_right, and_both, or_cases}

-- ---- sequences

-- the first sequence begins with the first byte
first_byte : (b : ℕ) (s : Bytes) → (l : Bytes) × (ls : List Bytes) × (sequences (b ∷ s) ≡ (b ∷ l) ∷ ls)
unfolding sequences onto when◌then◌else◌
first_byte b s = go (begins_with_one s) (sequences s)
  where
    go : (g : Bool) (ls : List Bytes) → (l : Bytes) × (ks : List Bytes) × ((when g then onto b ls else ((b ∷ []) ∷ ls)) ≡ (b ∷ l) ∷ ks)
    go true [] = ([], [], refl)
    go true (l ∷ ls) = (l, ls, refl)
    go false ls = ([], ls, refl)

concat-onto : (b : ℕ) (ls : List Bytes) → concat (onto b ls) ≡ b ∷ concat ls
unfolding concat onto
concat-onto b [] = refl
concat-onto b (l ∷ ls) = refl

concat-sequences : (s : Bytes) → concat (sequences s) ≡ s
unfolding concat sequences when◌then◌else◌
concat-sequences [] = refl
concat-sequences (b ∷ s) = go (begins_with_one s) (concat-sequences s)
  where
    go : (g : Bool) → concat (sequences s) ≡ s → concat (when g then onto b (sequences s) else ((b ∷ []) ∷ sequences s)) ≡ b ∷ s
    go true ih = concat-onto b (sequences s) ∙ ap (λ (x : Bytes). b ∷ x) ih
    go false ih = ap (λ (x : Bytes). b ∷ x) ih

-- a cut before a byte that does not go on
sequences-append : (u v : Bytes) → begins_with_one v ≡ false → sequences (u ++ v) ≡ sequences u ++ sequences v
unfolding sequences when◌then◌else◌ begins_with_one onto
sequences-append [] v h = refl
sequences-append (b ∷ []) v h = rw h refl
sequences-append (b ∷ c ∷ u) v h = go (goes_on c) (first_byte c u) (sequences-append (c ∷ u) v h)
  where
    go : (g : Bool) → (l : Bytes) × (ls : List Bytes) × (sequences (c ∷ u) ≡ (c ∷ l) ∷ ls) → sequences (c ∷ (u ++ v)) ≡ sequences (c ∷ u) ++ sequences v
        → (when g then onto b (sequences (c ∷ (u ++ v))) else ((b ∷ []) ∷ sequences (c ∷ (u ++ v)))) ≡ (when g then onto b (sequences (c ∷ u)) else ((b ∷ []) ∷ sequences (c ∷ u))) ++ sequences v
    go true (l, ls, e) ih = rw (ih, e) refl
    go false f ih = rw ih refl

-- bytes that go on make one sequence with the byte before them
one_sequence : (b : ℕ) (s : Bytes) → every goes_on s ≡ true → sequences (b ∷ s) ≡ (b ∷ s) ∷ []
unfolding sequences when◌then◌else◌ begins_with_one onto every
one_sequence b [] h = refl
one_sequence b (c ∷ s) h = rw (and_left (goes_on c) (every goes_on s) h, one_sequence c s (and_right (goes_on c) (every goes_on s) h)) refl

-- each sequence is a byte and then bytes that go on
abbrev Whole : List Bytes → Type 0
Whole [] = Unit {0}
Whole ([] ∷ ls) = ⊥
Whole ((b ∷ l) ∷ ls) = (every goes_on l ≡ true) × Whole ls

whole-sequences : (s : Bytes) → Whole (sequences s)
unfolding sequences when◌then◌else◌ begins_with_one onto every
whole-sequences [] = tt
whole-sequences (b ∷ []) = (refl, tt)
whole-sequences (b ∷ c ∷ s) = go (goes_on c) refl (first_byte c s) (whole-sequences (c ∷ s))
  where
    go : (g : Bool) → goes_on c ≡ g → (l : Bytes) × (ls : List Bytes) × (sequences (c ∷ s) ≡ (c ∷ l) ∷ ls) → Whole (sequences (c ∷ s))
        → Whole (when g then onto b (sequences (c ∷ s)) else ((b ∷ []) ∷ sequences (c ∷ s)))
    go true e (l, ls, f) h = let k : Whole ((c ∷ l) ∷ ls) = rw f at h in rw f (and_both (goes_on c) (every goes_on l) e k.0, k.1)
    go false e f h = (refl, h)

-- ---- bytes below 128

unfoldable pub is_ascii : ℕ → Bool
is_ascii b = ltb b 128

high : (b : ℕ) → goes_on b ≡ true → is_ascii b ≡ false
unfolding is_ascii goes_on leading_ones leading_ones_of when◌then◌else◌
high b h = go (leb 128 b) refl h
  where
    go : (g : Bool) → leb 128 b ≡ g → eqb (when g then 1 + leading_ones_of 7 (2 * b % 256) else 0) 1 ≡ true → ltb b 128 ≡ false
    go true e h = le-ltb b 128 (leb-true 128 b e)
    go false e h = absurd (false≢true h)

pub low : (b : ℕ) → is_ascii b ≡ true → goes_on b ≡ false
low b h = go (goes_on b) refl
  where
    go : (g : Bool) → goes_on b ≡ g → g ≡ false
    go true e = absurd (true≢false (sym h ∙ high b e))
    go false e = refl

no_two : (n : ℕ) → between 2 4 n && eqb 1 n ≡ false
unfolding between
no_two n = go (leb 2 n) (leb n 4) refl
  where
    go : (p q : Bool) → leb 2 n ≡ p → (p && q) && eqb 1 n ≡ false
    go true true e = let le : 2 ≤ n = leb-true 2 n e in ne_eqb 1 n λ z. omega arith
    go true false e = refl
    go false q e = refl

-- no sequence begins with a byte that goes on
no_start : (b n : ℕ) → goes_on b ≡ true → fits b n ≡ false
unfolding fits goes_on is_ascii
no_start b n h = go (eqb n 1) (ltb b 128) (leading_ones b) (high b h) (eqb-true (leading_ones b) 1 h)
  where
    go : (p q : Bool) (m : ℕ) → q ≡ false → m ≡ 1 → (p && q) || (between 2 4 n && eqb m n) ≡ false
    go true true m e f = absurd (true≢false e)
    go true false m e f = rw f (no_two n)
    go false q m e f = rw f (no_two n)

no_ones : (b : ℕ) → is_ascii b ≡ true → leading_ones b ≡ 0
unfolding is_ascii leading_ones leading_ones_of when◌then◌else◌
no_ones b h = rw (lt-leb 128 b (ltb-true b 128 h), leading_ones_of) refl

-- no sequence of several bytes begins with one below 128
no_fit : (b k : ℕ) → is_ascii b ≡ true → fits b (suc (suc k)) ≡ false
unfolding fits
no_fit b k h =
    go (eqb (suc (suc k)) 1) (ltb b 128) (between 2 4 (suc (suc k))) (leading_ones b)
    (ne_eqb (suc (suc k)) 1 λ e. omega arith) (no_ones b h) (ne_eqb 0 (suc (suc k)) λ e. omega arith)
  where
    go : (p q r : Bool) (m : ℕ) → p ≡ false → m ≡ 0 → eqb 0 (suc (suc k)) ≡ false → ((p && q) || (r && eqb m (suc (suc k)))) ≡ false
    go true q r m e f g = absurd (true≢false e)
    go false q true m e f g = rw f g
    go false q false m e f g = refl

-- ---- characters

-- what an `if` gives that is there, it gives by its first branch
if_some : {A : Type 0} (b : Bool) (x y : A) → (when b then some x else none) ≡ some y → (b ≡ true) × (x ≡ y)
unfolding when◌then◌else◌
if_some true x y h = (refl, some-injective x y h)
if_some false x y h = absurd (none-ne-some y h)

-- what a character tells of its sequence: it fits, is not too small, and is the value
record Read (b : ℕ) (l : Bytes) (c : ℕ) : Type 0 where
  pub fit : fits b (suc (length l)) ≡ true
  pub large : least (suc (length l)) ≤ c
  pub is : value b l ≡ c

read : (b : ℕ) (l : Bytes) (c : ℕ) → character (b ∷ l) ≡ some c → Read b l c
unfolding character
read b l c h =
    let n : ℕ = suc (length l) in
    let r : (fits b n && (leb (least n) (value b l) && is_scalar (value b l)) ≡ true) × (value b l ≡ c) = if_some _ (value b l) c h in
    let e : value b l ≡ c = r.1 in
    record {
      fit = and_left (fits b n) _ r.0;
      large = subst (λ (x : ℕ). least n ≤ x) e (leb-true _ _ (and_left _ (is_scalar (value b l)) (and_right (fits b n) _ r.0)));
      is = e;
    }

-- a longer sequence is for larger characters
least-long : (k : ℕ) → 128 ≤ least (suc (suc k))
unfolding least when◌then◌else◌
least-long k = go (eqb (suc (suc k)) 1) (eqb (suc (suc k)) 2) (eqb (suc (suc k)) 3) (ne_eqb (suc (suc k)) 1 λ e. omega arith)
  where
    go : (p q r : Bool) → p ≡ false → 128 ≤ (when p then 0 else when q then 0x80 else when r then 0x800 else 0x10000)
    go true q r h = absurd (true≢false h)
    go false true r h = omega arith
    go false false true h = omega arith
    go false false false h = omega arith

fits_one : (b : ℕ) → fits b 1 ≡ true → is_ascii b ≡ true
unfolding fits between is_ascii
fits_one b h = elim (or_cases (ltb b 128) false h) [ inl e ↦ e | inr e ↦ absurd (false≢true e) ]

value-one : (b : ℕ) → is_ascii b ≡ true → value b [] ≡ b
unfolding value U.joined when◌then◌else◌ is_ascii
value-one b e = rw (e, value) refl

-- a byte below 128 is a character by itself
single : (b : ℕ) → is_ascii b ≡ true → character (b ∷ []) ≡ some b
unfolding character fits least is_scalar when◌then◌else◌ is_ascii
single b h =
    let le : b < 128 = ltb-true b 128 h in
    rw (value-one b h, h, le-leb b 0xD7FF (omega arith), le-leb 0 b (omega arith), character) refl

bad_character : (b : ℕ) (l : Bytes) → goes_on b ≡ true → character (b ∷ l) ≡ none
unfolding character when◌then◌else◌
bad_character b l h = rw (no_start b (suc (length l)) h, character) refl

-- the characters of a row are the first and the others
record Front (l : Bytes) (ls : List Bytes) (cs : List ℕ) : Type 0 where
  pub first : ℕ
  pub others : List ℕ
  pub is_first : character l ≡ some first
  pub are_others : characters_of ls ≡ some others
  pub all : first ∷ others ≡ cs

front : (l : Bytes) (ls : List Bytes) (cs : List ℕ) → characters_of (l ∷ ls) ≡ some cs → Front l ls cs
unfolding characters_of in_front
front l ls cs h = go (character l) (characters_of ls) refl refl h
  where
    go : (x : Option ℕ) (y : Option (List ℕ)) → character l ≡ x → characters_of ls ≡ y → in_front x y ≡ some cs → Front l ls cs
    go none y e f h = absurd (none-ne-some cs h)
    go (some c) none e f h = absurd (none-ne-some cs h)
    go (some c) (some ds) e f h = record { first = c; others = ds; is_first = e; are_others = f; all = some-injective (c ∷ ds) cs h }

-- no text begins with a byte that goes on
begins_fine : (s : Bytes) (cs : List ℕ) → characters_of (sequences s) ≡ some cs → begins_with_one s ≡ false
unfolding begins_with_one
begins_fine [] cs h = refl
begins_fine (b ∷ s) cs h = go (goes_on b) refl (first_byte b s)
  where
    go : (g : Bool) → goes_on b ≡ g → (l : Bytes) × (ls : List Bytes) × (sequences (b ∷ s) ≡ (b ∷ l) ∷ ls) → g ≡ false
    go true e (l, ls, f) =
        let k : characters_of ((b ∷ l) ∷ ls) ≡ some cs = rw f at h in
        let r : Front (b ∷ l) ls cs = front (b ∷ l) ls cs k in
        absurd (none-ne-some r.first (sym (bad_character b l e) ∙ r.is_first))
    go false e f = refl

characters_of_append : (as' bs : List Bytes) (cs ds : List ℕ) → characters_of as' ≡ some cs → characters_of bs ≡ some ds → characters_of (as' ++ bs) ≡ some (cs ++ ds)
unfolding characters_of in_front
characters_of_append [] bs cs ds h k = rw (← some-injective [] cs h) k
characters_of_append (a ∷ as') bs cs ds h k =
    let r : Front a as' cs = front a as' cs h in
    rw (← r.all, r.is_first, characters_of_append as' bs r.others ds r.are_others k) refl

characters_of_parts : (as' bs : List Bytes) (cs : List ℕ) → characters_of (as' ++ bs) ≡ some cs → ((c : List ℕ) × (characters_of as' ≡ some c)) × ((c : List ℕ) × (characters_of bs ≡ some c))
unfolding characters_of in_front
characters_of_parts [] bs cs h = (([], refl), (cs, h))
characters_of_parts (a ∷ as') bs cs h =
    let r : Front a (as' ++ bs) cs = front a (as' ++ bs) cs h in
    let q = characters_of_parts as' bs r.others r.are_others in
    ((r.first ∷ q.0.0, rw (r.is_first, q.0.1) refl), q.1)

pub characters-append : (u v : Bytes) (cs ds : List ℕ) → characters u ≡ some cs → characters v ≡ some ds → characters (u ++ v) ≡ some (cs ++ ds)
unfolding characters
characters-append u v cs ds h k = rw (sequences-append u v (begins_fine v ds k)) (characters_of_append (sequences u) (sequences v) cs ds h k)

-- ---- texts

pub record Text (s : Bytes) : Type 0 where
  pub chars : List ℕ
  pub are : characters s ≡ some chars

-- a test on characters that passes
pub record Decoded (p : List ℕ → Bool) (s : Bytes) : Type 0 where
  pub chars : List ℕ
  pub are : characters s ≡ some chars
  pub pass : p chars ≡ true

pub decoded : (p : List ℕ → Bool) (s : Bytes) → as_characters p s ≡ true → Decoded p s
unfolding as_characters holds_of
decoded p s h = go (characters s) refl h
  where
    go : (x : Option (List ℕ)) → characters s ≡ x → holds_of p x ≡ true → Decoded p s
    go none e k = absurd (false≢true k)
    go (some cs) e k = record { chars = cs; are = e; pass = k }

pub decoded_text : (p : List ℕ → Bool) (s : Bytes) → as_characters p s ≡ true → Text s
decoded_text p s h = let r : Decoded p s = decoded p s h in record { chars = r.chars; are = r.are }

pub join : {u v : Bytes} → Text u → Text v → Text (u ++ v)
join {u} {v} h k = record { chars = h.chars ++ k.chars; are = characters-append u v h.chars k.chars h.are k.are }

pub ascii-characters : (s : Bytes) → every is_ascii s ≡ true → characters s ≡ some s
unfolding every characters sequences characters_of in_front when◌then◌else◌ begins_with_one
ascii-characters [] h = refl
ascii-characters (b ∷ s) h =
    characters-append (b ∷ []) s (b ∷ []) s (rw (single b (and_left (is_ascii b) (every is_ascii s) h)) refl) (ascii-characters s (and_right (is_ascii b) (every is_ascii s) h))

pub ascii-text : (s : Bytes) → every is_ascii s ≡ true → Text s
ascii-text s h = record { chars = s; are = ascii-characters s h }

pub byte-text : (b : ℕ) → is_ascii b ≡ true → Text (b ∷ [])
unfolding every
byte-text b h = ascii-text (b ∷ []) (and_both (is_ascii b) true h refl)

pub empty-text : Text []
unfolding every
empty-text = ascii-text [] refl

-- a cut before a byte that does not go on
pub clean_cut : (u v : Bytes) → begins_with_one v ≡ false → Text (u ++ v) → Text u × Text v
unfolding characters
clean_cut u v h t =
    let r = characters_of_parts (sequences u) (sequences v) t.chars (rw (sequences-append u v h) at t.are) in
    (record { chars = r.0.0; are = r.0.1 }, record { chars = r.1.0; are = r.1.1 })

-- a cut behind a byte below 128
behind_byte : (b : ℕ) (s : Bytes) → is_ascii b ≡ true → Text (b ∷ s) → Text s
unfolding characters sequences when◌then◌else◌ onto begins_with_one character
behind_byte b [] h t = empty-text
behind_byte b (c ∷ s) h t = go (goes_on c) refl (first_byte c s) t.are
  where
    go : (g : Bool) → goes_on c ≡ g → (l : Bytes) × (ls : List Bytes) × (sequences (c ∷ s) ≡ (c ∷ l) ∷ ls)
        → characters_of (when g then onto b (sequences (c ∷ s)) else ((b ∷ []) ∷ sequences (c ∷ s))) ≡ some t.chars → Text (c ∷ s)
    go true e (l, ls, f) k =
        let r : Front (b ∷ c ∷ l) ls t.chars = front (b ∷ c ∷ l) ls t.chars (rw f at k) in
        absurd (false≢true (sym (no_fit b (length l) h) ∙ (read b (c ∷ l) r.first r.is_first).fit))
    go false e f k = (clean_cut (b ∷ []) (c ∷ s) e t).1

pub behind : (m s : Bytes) → every is_ascii m ≡ true → Text (m ++ s) → Text s
unfolding every
behind [] s h t = t
behind (b ∷ m) s h t = behind m s (and_right (is_ascii b) (every is_ascii m) h) (behind_byte b (m ++ s) (and_left (is_ascii b) (every is_ascii m) h) t)

-- a cut at a byte below 128
pub cut_at : (u : Bytes) (b : ℕ) (v : Bytes) → is_ascii b ≡ true → Text (u ++ (b ∷ v)) → Text u × Text v
unfolding begins_with_one
cut_at u b v h t =
    let r = clean_cut u (b ∷ v) (low b h) t in
    (r.0, behind_byte b v h r.1)

-- ---- a text as a row of characters

pub data Row : Bytes → List ℕ → Type 0 where
  end : Row [] []
  -- a byte below 128 by itself
  small : {s : Bytes} {cs : List ℕ} (b : ℕ) → is_ascii b ≡ true → Row s cs → Row (b ∷ s) (b ∷ cs)
  -- several bytes from 128 on
  large : {s : Bytes} {cs : List ℕ} (l : Bytes) (c : ℕ) → characters l ≡ some (c ∷ []) → every (λ b. leb 128 b) l ≡ true → 128 ≤ c → Row s cs → Row (l ++ s) (c ∷ cs)

high_rest : (s : Bytes) → every goes_on s ≡ true → every (λ b. leb 128 b) s ≡ true
unfolding every is_ascii
high_rest [] h = refl
high_rest (b ∷ s) h =
    and_both (leb 128 b) (every (λ b. leb 128 b) s)
    (le-leb 128 b (ltb-false b 128 (high b (and_left (goes_on b) (every goes_on s) h)))) (high_rest s (and_right (goes_on b) (every goes_on s) h))

high_first : (b k : ℕ) → fits b (suc (suc k)) ≡ true → 128 ≤ b
unfolding is_ascii
high_first b k h = go (is_ascii b) refl
  where
    go : (a : Bool) → is_ascii b ≡ a → 128 ≤ b
    go true e = absurd (false≢true (sym (no_fit b k e) ∙ h))
    go false e = ltb-false b 128 e

high_all : (b x : ℕ) (l : Bytes) → fits b (suc (suc (length l))) ≡ true → every goes_on (x ∷ l) ≡ true → every (λ b. leb 128 b) (b ∷ x ∷ l) ≡ true
unfolding every
high_all b x l f g = and_both (leb 128 b) (every (λ b. leb 128 b) (x ∷ l)) (le-leb 128 b (high_first b (length l) f)) (high_rest (x ∷ l) g)

pub one-character : (b : ℕ) (s : Bytes) (c : ℕ) → every goes_on s ≡ true → character (b ∷ s) ≡ some c → characters (b ∷ s) ≡ some (c ∷ [])
unfolding characters characters_of in_front
one-character b s c g e = rw (one_sequence b s g, e) refl

row_of : (ls : List Bytes) (cs : List ℕ) → Whole ls → characters_of ls ≡ some cs → Row (concat ls) cs
unfolding concat characters_of
row_of [] cs w h = rw (← some-injective [] cs h) end
row_of ([] ∷ ls) cs w h = absurd w
row_of ((b ∷ []) ∷ ls) cs w h =
    let r : Front (b ∷ []) ls cs = front (b ∷ []) ls cs h in
    let q : Read b [] r.first = read b [] r.first r.is_first in
    let a : is_ascii b ≡ true = fits_one b q.fit in
    rw (← r.all, ← q.is, value-one b a) (small b a (row_of ls r.others w.1 r.are_others))
row_of ((b ∷ x ∷ l) ∷ ls) cs w h =
    let r : Front (b ∷ x ∷ l) ls cs = front (b ∷ x ∷ l) ls cs h in
    let q : Read b (x ∷ l) r.first = read b (x ∷ l) r.first r.is_first in
    let le : 128 ≤ least (suc (suc (length l))) = least-long (length l) in
    rw (← r.all) (large (b ∷ x ∷ l) r.first (one-character b (x ∷ l) r.first w.0 r.is_first) (high_all b x l q.fit w.0) (omega (arith, q.large)) (row_of ls r.others w.1 r.are_others))

pub row : (s : Bytes) (cs : List ℕ) → characters s ≡ some cs → Row s cs
unfolding characters
row s cs h = subst (λ (x : Bytes). Row x cs) (concat-sequences s) (row_of (sequences s) cs (whole-sequences s) h)
