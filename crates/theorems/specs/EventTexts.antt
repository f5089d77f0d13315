-- An event that is read from bytes has texts only: names, values and data are cut at bytes below 128.
use Rattle.std.specs.Prelude.{◌≡◌, refl, Bool, true, false, ◌&&◌, ◌||◌, ℕ, eqb}
use Rattle.std.proofs.Common.{sym, subst, inl, inr, eqb-true}
use mathlib.Core.List.{List, [], ◌∷◌, ◌++◌, append_assoc, append-nil, drop_last}
use Rattle.spec.specs.Bytes.{Bytes, ascii, byte, when◌then◌else◌, begins, after, up_to, from, among, every, onto, split, concat, ◌>>=◌, All}
use Rattle.spec.specs.Numbers.{good}
use Rattle.spec.specs.Utf8.{as_characters}
use Rattle.spec.specs.XmlNames.{is_char, is_name, is_nc_name, is_q_name, no_colon, prefix_of, local_of}
use Rattle.spec.specs.Pyx.{Attribute, attribute, Event, opening, closing, text, instruction, escaped, unescape, name, read_attribute, read_opening, read_closing, read_text, read_lines, read_event}
use Rattle.spec.specs.PyxCut.{goes_on, in_front, reach, whole, cut}
use Rattle.spec.proofs.Booleans.{and_left, and_right, or_cases}
use Rattle.theorems.specs.Always.{Always, always_bind, always_require, always_if, always_each}
use Rattle.theorems.specs.Utf8.{is_ascii, Text, decoded_text, join, byte-text, empty-text, cut_at}
use Rattle.theorems.specs.Cuts.{From, nothing, found, from_view, up_to_from, among_low, past-text}
use Rattle.theorems.specs.PyxCut.{cut-reach}

-- what has texts only
abbrev pub TextAttribute : Attribute → Type 0
TextAttribute (attribute n v) = Text n × Text v

abbrev pub TextEvent : Event → Type 0
TextEvent (opening n as') = Text n × All TextAttribute as'
TextEvent (closing n) = Text n
TextEvent (text s) = Text s
TextEvent instruction = Unit {0}

-- ---- lines

-- the first piece continues what stands before it
abbrev Pieces : Bytes → List Bytes → Type 0
Pieces u [] = Text u
Pieces u (l ∷ ls) = Text (u ++ l) × All Text ls

pieces_all : (ls : List Bytes) → Pieces [] ls → All Text ls
pieces_all [] h = tt
pieces_all (l ∷ ls) h = h

pieces_onto : (u : Bytes) (c : ℕ) (ls : List Bytes) → Pieces (u ++ (c ∷ [])) ls → Pieces u (onto c ls)
unfolding onto
pieces_onto u c [] h = (h, tt)
pieces_onto u c (l ∷ ls) h = (subst (λ (x : Bytes). Text x) (append_assoc u (c ∷ []) l) h.0, h.1)

split_text : (u s : Bytes) → Text (u ++ s) → Pieces u (split (byte "\n") s)
unfolding split when◌then◌else◌ byte is_ascii
split_text u [] t = (t, tt)
split_text u (c ∷ s) t = go (eqb c 10) refl (split_text [] s) (split_text (u ++ (c ∷ [])) s)
  where
    go : (b : Bool) → eqb c 10 ≡ b → (Text s → Pieces [] (split 10 s)) → (Text ((u ++ (c ∷ [])) ++ s) → Pieces (u ++ (c ∷ [])) (split 10 s))
        → Pieces u (when b then [] ∷ split 10 s else onto c (split 10 s))
    go true e f g =
        let r = cut_at u c s (rw (eqb-true c 10 e) refl) t in
        (rw (append-nil u) r.0, pieces_all (split 10 s) (f r.1))
    go false e f g = pieces_onto u c (split 10 s) (g (subst (λ (x : Bytes). Text x) (sym (append_assoc u (c ∷ []) s)) t))

all_drop-last : (P : Bytes → Type 0) (ls : List Bytes) → All P ls → All P (drop_last ls)
all_drop-last P [] h = tt
all_drop-last P (l ∷ []) h = tt
all_drop-last P (l ∷ m ∷ ls) h = (h.0, all_drop-last P (m ∷ ls) h.1)

-- a line begins with a byte below 128, if it has any
abbrev LowLine : Bytes → Type 0
LowLine [] = Unit {0}
LowLine (b ∷ l) = is_ascii b ≡ true

-- so does each line but the first
abbrev LowLines : List Bytes → Type 0
LowLines [] = Unit {0}
LowLines (l ∷ ls) = All LowLine ls

-- of the bytes of the lines: `true` where a line begins
abbrev LowFrom : Bool → Bytes → Type 0
LowFrom a [] = Unit {0}
LowFrom true (b ∷ s) = (is_ascii b ≡ true) × (eqb b 10 ≡ false) × LowFrom false s
LowFrom false (b ∷ s) = LowFrom (eqb b 10) s

goes_on_low : (c b : ℕ) → goes_on c b ≡ true → (is_ascii b ≡ true) × (eqb b 10 ≡ false)
unfolding goes_on byte is_ascii
goes_on_low c b h = elim (or_cases (eqb c 40 && eqb b 65) (eqb c 45 && eqb b 45) h) [
  | inl e ↦ is 65 refl refl (eqb-true b 65 (and_right (eqb c 40) (eqb b 65) e))
  | inr e ↦ is 45 refl refl (eqb-true b 45 (and_right (eqb c 45) (eqb b 45) e))
]
  where
    is : (n : ℕ) → is_ascii n ≡ true → eqb n 10 ≡ false → b ≡ n → (is_ascii b ≡ true) × (eqb b 10 ≡ false)
    is n h k e = (rw e h, rw e k)

reach_low : (c : ℕ) (a : Bool) (s : Bytes) → LowFrom a (reach c a s).0
unfolding reach in_front byte
reach_low c true [] = tt
reach_low c false [] = tt
reach_low c true (b ∷ s) = go (goes_on c b) refl (reach_low c false s)
  where
    go : (g : Bool) → goes_on c b ≡ g → LowFrom false (reach c false s).0 → LowFrom true (reach c true (b ∷ s)).0
    go true e h = rw (e, reach) (let r = goes_on_low c b e in (r.0, r.1, h))
    go false e h = rw (e, reach) tt
reach_low c false (b ∷ s) = reach_low c (eqb b 10) s

low_onto : (b : ℕ) (ls : List Bytes) → is_ascii b ≡ true → LowLines ls → All LowLine (onto b ls)
unfolding onto
low_onto b [] h k = (h, tt)
low_onto b (l ∷ ls) h k = (h, k)

same-onto : (b : ℕ) (ls : List Bytes) → LowLines ls → LowLines (onto b ls)
unfolding onto
same-onto b [] k = tt
same-onto b (l ∷ ls) k = k

low_drop-last : (ls : List Bytes) → LowLines ls → LowLines (drop_last ls)
low_drop-last [] h = tt
low_drop-last (l ∷ []) h = tt
low_drop-last (l ∷ m ∷ ls) h = all_drop-last LowLine (m ∷ ls) h

-- each line, or each but the first
abbrev SplitLow : Bool → List Bytes → Type 0
SplitLow true ls = All LowLine ls
SplitLow false ls = LowLines ls

split_low : (a : Bool) (s : Bytes) → LowFrom a s → SplitLow a (split 10 s)
unfolding split when◌then◌else◌
split_low true [] h = (tt, tt)
split_low false [] h = tt
split_low true (b ∷ s) h = rw h.1 (low_onto b (split 10 s) h.0 (split_low false s h.2))
split_low false (b ∷ s) h = go (eqb b 10) (split_low (eqb b 10) s h)
  where
    go : (a : Bool) → SplitLow a (split 10 s) → LowLines (when a then [] ∷ split 10 s else onto b (split 10 s))
    go true k = k
    go false k = same-onto b (split 10 s) k

-- ---- names

ncname_text : (n : Bytes) → is_nc_name n ≡ true → Text n
unfolding is_nc_name
ncname_text n h = decoded_text is_name n (and_left (as_characters is_name n) (no_colon n) h)

colon-text : (s : Bytes) → From (among (ascii ":")) s → Text (after (ascii ":") s) → Text s
unfolding ascii after every is_ascii
colon-text s nothing t = t
colon-text s (found b r e) t = join (byte-text b (among_low (ascii ":") refl b e)) t

qname_text : (n : Bytes) → is_q_name n ≡ true → Text n
unfolding is_q_name prefix_of local_of when◌then◌else◌
qname_text n h = go (no_colon n) (and_left _ (is_nc_name (local_of n)) h) (and_right (no_colon n || is_nc_name (prefix_of n)) _ h)
  where
    go : (b : Bool) → b || is_nc_name (when b then [] else up_to (among (ascii ":")) n) ≡ true → is_nc_name (when b then n else after (ascii ":") (from (among (ascii ":")) n)) ≡ true → Text n
    go true p q = ncname_text n q
    go false p q =
        subst (λ (x : Bytes). Text x) (up_to_from (among (ascii ":")) n)
        (join (ncname_text _ p) (colon-text (from (among (ascii ":")) n) (from_view (among (ascii ":")) n) (ncname_text _ q)))

-- ---- values and data

escaped_low : (d : ℕ) → Always (λ e. (is_ascii d ≡ true) × (is_ascii e ≡ true)) (escaped d)
unfolding escaped byte is_ascii
escaped_low d =
    always_if _ _ _ _ (λ e. (rw (eqb-true d 110 e) refl, refl)) λ f.
    always_if _ _ _ _ (λ e. (rw (eqb-true d 116 e) refl, refl)) λ g.
    always_if _ _ _ _ (λ e. (rw (eqb-true d 92 e) refl, refl)) λ k. tt

-- the decoded value continues what stands before it
unescape-text : (u s : Bytes) → Text (u ++ s) → Always (λ t. Text (u ++ t)) (unescape s)
unfolding unescape byte is_ascii
unescape-text u [] t = t
unescape-text u (c ∷ []) t = always_if _ _ _ _ (λ e. tt) (λ e. t)
unescape-text u (c ∷ d ∷ s) t = go (eqb c 92) refl (unescape-text [] s) (unescape-text (u ++ (c ∷ [])) (d ∷ s))
  where
    go : (b : Bool) → eqb c 92 ≡ b → (Text s → Always Text (unescape s)) → (Text ((u ++ (c ∷ [])) ++ (d ∷ s)) → Always (λ t. Text ((u ++ (c ∷ [])) ++ t)) (unescape (d ∷ s)))
        → Always (λ t. Text (u ++ t)) (elim b [
          | true ↦ escaped d >>= λ e. unescape s >>= λ t. good (e ∷ t)
          | false ↦ unescape (d ∷ s) >>= λ t. good (c ∷ t)
        ])
    go true e f g =
        let r = cut_at u c (d ∷ s) (rw (eqb-true c 92 e) refl) t in
        always_bind (λ x. (is_ascii d ≡ true) × (is_ascii x ≡ true)) _ _ _ (escaped_low d) λ x h.
        always_bind Text _ _ _ (f (cut_at [] d s h.0 r.1).1) λ v k. join r.0 (join (byte-text x h.1) k)
    go false e f g =
        always_bind (λ v. Text ((u ++ (c ∷ [])) ++ v)) _ _ _ (g (subst (λ (x : Bytes). Text x) (sym (append_assoc u (c ∷ []) (d ∷ s))) t)) λ v k.
        subst (λ (x : Bytes). Text x) (append_assoc u (c ∷ []) v) k

-- ---- events

name-text : (s : Bytes) → Always Text (name s)
unfolding name
name-text s = always_require Text _ _ _ λ h. qname_text s h

attribute_text : (l : Bytes) → Text l → Always TextAttribute (read_attribute l)
unfolding read_attribute ascii every is_ascii
attribute_text l t =
    always_bind Text TextAttribute _ _ (name-text _) λ n h.
    always_require TextAttribute _ _ _ λ e.
    always_bind Text TextAttribute _ _ (unescape-text [] _ (past-text (ascii " ") refl l t 32)) λ v k. (h, k)

concat-text : (ls : List Bytes) → All Text ls → Text (concat ls)
unfolding concat
concat-text [] h = empty-text
concat-text (l ∷ ls) h = join h.0 (concat-text ls h.1)

-- behind the first byte of a line
behind_first : (l : Bytes) → Text l × LowLine l → Text (after (ascii "-") l)
unfolding after ascii
behind_first [] h = h.0
behind_first (b ∷ l) h = (cut_at [] b l h.1 h.0).1

both : (P Q : Bytes → Type 0) (ls : List Bytes) → All P ls → All Q ls → All (λ l. P l × Q l) ls
both P Q [] h k = tt
both P Q (l ∷ ls) h k = ((h.0, k.0), both P Q ls h.1 k.1)

data_text : (ls : List Bytes) → All Text ls → All LowLine ls → Always TextEvent (read_text ls)
unfolding read_text
data_text ls h k =
    always_bind (All Text) TextEvent _ _ (always_each (λ l. Text l × LowLine l) Text _ (λ l m. unescape-text [] _ (behind_first l m)) ls (both Text LowLine ls h k)) λ ts q. concat-text ts q

begins_low : (l : Bytes) → begins (ascii "-") l ≡ true → LowLine l
unfolding begins ascii is_ascii
begins_low [] h = tt
begins_low (b ∷ l) h = rw (← eqb-true 45 b (and_left (eqb 45 b) true h)) refl

lines-text : (ls : List Bytes) → All Text ls → LowLines ls → Always TextEvent (read_lines ls)
unfolding read_lines read_opening read_closing
lines-text [] h k = tt
lines-text (l ∷ ls) h k =
    always_if TextEvent _ _ _
    (λ e. always_bind Text TextEvent _ _ (name-text _) λ n t. always_bind (All TextAttribute) TextEvent _ _ (always_each Text TextAttribute _ attribute_text ls h.1) λ as' q. (t, q)) λ e₁.
    always_if TextEvent _ _ _ (λ e. always_bind Text TextEvent _ _ (name-text _) λ n t. t) λ e₂.
    always_if TextEvent _ _ _ (λ e. data_text (l ∷ ls) h (begins_low l e, k)) λ e₃.
    always_if TextEvent _ _ _ (λ e. tt) λ e₄. tt

-- the event at the front of the input has texts only
pub event_text : (last : Bool) (s e : Bytes) → cut last s ≡ whole e → Always TextEvent (read_event e)
unfolding read_event byte
event_text last s e h =
    let r = cut-reach last s e h in
    let low : LowFrom false e = subst (λ (x : Bytes). LowFrom false x) r.1 (reach_low r.0 false s) in
    always_require TextEvent _ _ _ λ k.
    lines-text _ (all_drop-last Text (split 10 e) (pieces_all (split 10 e) (split_text [] e (decoded_text (every is_char) e k)))) (low_drop-last (split 10 e) (split_low false e low))
