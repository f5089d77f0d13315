-- The line of a failure: what failed, and after how many events and bytes.
use Rattle.std.specs.Prelude.{ℕ, zero, suc, ◌+◌, ◌-◌, ◌≤◌, ◌<◌, ◌≡◌, refl, Bool, cond, List, [], ◌∷◌, ◌++◌, map, ltb, length, take, drop, get_or, set}
use Rattle.std.proofs.Common.{sym, ap, ◌∙◌, append_assoc, add-one, add-zero, arith, length-append, length-drop, length-set, length-take-le, take_all, take-suc, drop-drop, drop-set-lt, take-suc-set, get_or-drop, lt-ltb, le-ltb}
use Rattle.spec.specs.Bytes.{Bytes, ascii}
use Rattle.spec.specs.NTriples.{decimal}
use Rattle.copy.specs.Copy.{Put, Wrote, then, put-fits, rest_of, wrote_same}
use Rattle.label.specs.Digits.{Decimals, length-decimal}

-- a number in digits; of 0 `decimal` leaves none
unfoldable pub shown : ℕ → Bytes
shown zero = ascii "0"
shown (suc n) = decimal (suc n)

-- `pyx2nt: write failed after 120 whole events and 4096 bytes`
unfoldable pub failure_line : Bytes → ℕ → ℕ → Bytes
failure_line what events bytes =
    what ++ (ascii " after " ++ (shown events ++ (ascii " whole events and " ++ (shown bytes ++ ascii " bytes"))))

-- a byte of a word that is told in one line: a mark stands for a control character
unfoldable pub in_line : ℕ → ℕ
in_line b = cond (ltb b 32) 63 b

pub marked : (b : ℕ) → b < 32 → 63 ≡ in_line b
unfolding in_line
marked b h = rw (lt-ltb b 32 h)

pub unmarked : (b : ℕ) → 32 ≤ b → b ≡ in_line b
unfolding in_line
unmarked b h = rw (le-ltb b 32 h)

-- ---- a word, byte by byte: the first i are made fit, and those behind them are as they were

pub record Kept (w : List ℕ) (w' : List ℕ) (i : ℕ) : Type 0 where
  pub room : length w' ≡ length w
  pub front : take i w' ≡ map in_line (take i w)
  pub behind : drop i w' ≡ drop i w

pub kept_first : {w : List ℕ} → Kept w w 0
kept_first = record { room = refl; front = refl; behind = refl }

map-append : (f : ℕ → ℕ) (s t : List ℕ) → map f (s ++ t) ≡ map f s ++ map f t
map-append f [] t = refl
map-append f (b ∷ s) t = rw (map-append f s t)

module _ {w w' : List ℕ} {i : ℕ} (k : Kept w w' i) where
  pub kept_next : {b : ℕ} → i < length w' → b ≡ in_line (get_or w' i 0) → Kept w (set w' i b) (i + 1)
  kept_next {b} l e =
      let same : get_or w' i 0 ≡ get_or w i 0 = rw add-zero at (sym (get_or-drop i w' 0 0) ∙ ap (λ (x : List ℕ). get_or x 0 0) k.behind ∙ get_or-drop i w 0 0) in
      record {
        room = length-set w' i b ∙ k.room;
        front =
            rw (add-one i) (take-suc-set w' i b (omega arith)
            ∙ rw (k.front, e, same, take-suc w i 0 (omega (arith, k.room)), map-append));
        behind =
            drop-set-lt (i + 1) w' i b (omega arith)
            ∙ (sym (drop-drop 1 i w') ∙ ap (drop 1) k.behind ∙ drop-drop 1 i w);
      }

  pub kept_all : length w' ≤ i → w' ≡ map in_line w
  kept_all l = sym (take_all i w' l) ∙ (k.front ∙ ap (map in_line) (take_all i w (omega (arith, k.room))))

-- ---- how they are written

-- a text, and the digits of a number behind it
pub number_put : {d e f : List ℕ} {at : ℕ} {s : Bytes} {v : ℕ} {ds : List ℕ} {from : ℕ} {r q : Bool}
    → at + length s + 20 ≤ length d → Decimals v ds from → Put d at s e r → Put e (at + length s) (take (20 - from) (drop from ds)) f q
    → Wrote d f at (at + length s + (20 - from)) (s ++ decimal v)
number_put {d} {e} {f} {at} {s} {v} {ds} {from} h n p k =
    let digits : take (20 - from) (drop from ds) ≡ decimal v = rw (← n.size) (rest_of ds from) ∙ n.text in
    let size : 20 - from ≡ length (decimal v) = rw (← n.size, ← n.text) (sym (length-drop from ds)) in
    let w = put-fits p (omega arith) in
    let x = put-fits (rw digits at k) (omega (arith, p.same, length-decimal v)) in
    rw size (then w x)

-- and one that may be 0
pub shown-some : (v : ℕ) → 0 < v → shown v ≡ decimal v
unfolding shown
shown-some zero h = absurd (omega arith)
shown-some (suc v) h = refl

pub count_none : {d e f : List ℕ} {at : ℕ} {s : Bytes} (v : ℕ) {r q : Bool}
    → at + length s + 20 ≤ length d → v ≤ 0 → Put d at s e r
    → Put e (at + length s) (ascii "0") f q → Wrote d f at (at + length s + 1) (s ++ shown v)
unfolding shown ascii
count_none zero room h p k = then (put-fits p (omega arith)) (put-fits k (omega (arith, p.same)))
count_none (suc v) room h p k = absurd (omega arith)

length-shown : (v : ℕ) → length (shown v) ≤ 20
unfolding shown ascii
length-shown zero = omega arith
length-shown (suc v) = length-decimal (suc v)

-- the second number has room behind the first
pub line_goes_on : {d e f : List ℕ} {what : Bytes} {to k : ℕ} {r : Bool} (v : ℕ)
    → length d ≡ 4_256 → length what ≤ 4_160 → Put d 0 what e r
    → Wrote e f (length what) to (ascii " after " ++ shown v) → k ≡ 18 → to + k + 20 ≤ length f
unfolding ascii
line_goes_on v h few p w e =
    omega (arith, p.same, wrote_same w, w.up, length-append (ascii " after ") (shown v), length-shown v)

pub line_made : {d e f g h : List ℕ} {what : Bytes} {m to : ℕ} {r q : Bool} (events bytes : ℕ)
    → length d ≡ 4_256 → length what ≤ 4_160 → Put d 0 what e r → Wrote e f (length what) m (ascii " after " ++ shown events)
    → Wrote f g m to (ascii " whole events and " ++ shown bytes) → Put g to (ascii " bytes") h q
    → Wrote d h 0 (to + 6) (failure_line what events bytes)
unfolding failure_line ascii
line_made {what = what} events bytes room few p w x k =
    let a : length (ascii " after " ++ shown events) ≤ 27 =
    omega (arith, length-append (ascii " after ") (shown events), length-shown events) in
    let b : length (ascii " whole events and " ++ shown bytes) ≤ 38 =
    omega (arith, length-append (ascii " whole events and ") (shown bytes), length-shown bytes) in
    let z : 0 + length what ≡ length what = omega arith in
    let v = rw z at (put-fits p (omega arith)) in
    let y = put-fits k (omega (arith, p.same, w.up, x.up, wrote_same w, wrote_same x)) in
    simp append_assoc at (then v (then w (then x y)))

-- how much of a line is to be written
pub line-size : {d e : List ℕ} {to : ℕ} {s : Bytes} → Wrote d e 0 to s → to ≡ length (take to e)
line-size {e = e} {to = to} w = sym (length-take-le to e (omega (arith, wrote_same w, w.up, w.room)))
