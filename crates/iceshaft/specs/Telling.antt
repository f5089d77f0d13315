-- What is told, and what follows.
use Rattle.std.specs.Prelude.{ℕ, ◌+◌, ◌≤◌, ◌<◌, ◌≡◌, Bool, true, false, List, ◌++◌, length}
use Rattle.std.proofs.Math.Option.{Option}
use Rattle.std.proofs.Common.{append_assoc, arith, length-append}
use Rattle.spec.specs.Bytes.{Bytes, ascii}
use Rattle.spec.specs.declared.Mode.{Mode}
use Rattle.spec.specs.NTriples.{decimal}
use Rattle.copy.specs.Copy.{Put, Wrote, then, put-fits, wrote_same}
use Rattle.label.specs.Digits.{length-decimal}
use Rattle.convert.specs.declared.Outcome.{Outcome}
use Rattle.convert.specs.declared.How.{How}
use Rattle.convert.specs.declared.How.TheVariants.{Done, Unwritten, Unread, Unstarted}
use Rattle.convert.specs.Places.{ConvertsBy, Converts, Few}
use Rattle.convert.specs.Way.{start, Cut, Unfinished}

-- a document in some mode, with some start base or with none, came to this
pub record Came (o : Outcome) : Type 0 where
  pub mode : Mode
  pub base : Option Bytes
  pub converts : Converts mode base o
  pub few : Few o

-- is the next document to be read? Not behind a write that failed, nor behind a start that is refused
abbrev pub goes_on : How → Bool
goes_on (Done a) = true
goes_on Unwritten = false
goes_on Unread = true
goes_on (Unstarted why) = false

-- `a.pyx: refused 6 at event 12`
unfoldable pub refusal_line : Bytes → ℕ → ℕ → Bytes
refusal_line name n k = name ++ (ascii ": refused " ++ (decimal n ++ (ascii " at event " ++ (decimal k ++ ascii "\n"))))

-- `iceshaft: refused 11 at start`
unfoldable pub start_line : ℕ → Bytes
start_line n = ascii "iceshaft: refused " ++ (decimal n ++ ascii " at start\n")

-- `iceshaft: unknown argument: --fast; it takes --pyx [--base IRI] [--xmp] [FILE..]`
unfoldable pub unknown_line : Bytes → Bytes
unknown_line word =
    ascii "iceshaft: unknown argument: " ++ (word ++ ascii "; it takes --pyx [--base IRI] [--xmp] [FILE..]\n")

-- `iceshaft: argument 3 is longer than 4096 bytes`
unfoldable pub long_line : ℕ → Bytes
long_line i = ascii "iceshaft: argument " ++ (decimal i ++ ascii " is longer than 4096 bytes\n")

-- ---- events are counted from 1

module _ {o : Outcome} (c : Came o) where
  pub cut_event : o.how ≡ Unwritten → 0 < o.event
  cut_event e = go o.how o.event o.bytes e c.converts
    where
      go : (how : How) (k b : ℕ) → how ≡ Unwritten → ConvertsBy c.mode c.base how k b → 0 < k
      go how k b e h = let x : Cut (start c.mode c.base) k b = rw e at h in omega (arith, x.event, x.way.later)

  pub unread_event : o.how ≡ Unread → 0 < o.event
  unread_event e = go o.how o.event o.bytes e c.converts
    where
      go : (how : How) (k b : ℕ) → how ≡ Unread → ConvertsBy c.mode c.base how k b → 0 < k
      go how k b e h =
          let x : Unfinished (start c.mode c.base) k b = rw e at h in omega (arith, x.event, x.way.later)

-- ---- how they are written

-- a text, and one behind it
pub both_put : {d e f : List ℕ} {s t : Bytes} {r q : Bool} → length s + length t ≤ length d → Put d 0 s e r → Put e (length s) t f q → Wrote d f 0 (length s + length t) (s ++ t)
both_put {s = s} h p k =
    let z : 0 + length s ≡ length s = omega arith in
    then (rw z at (put-fits p (omega arith))) (put-fits k (omega (arith, p.same)))

-- a word between two texts
pub unknown_made : {d e f g : List ℕ} {word : Bytes} {r q t : Bool} → length d ≡ 4_192 → length word ≤ 4_096 → Put d 0 (ascii "iceshaft: unknown argument: ") e r → Put e 28 word f q
    → Put f (28 + length word) (ascii "; it takes --pyx [--base IRI] [--xmp] [FILE..]\n") g t → Wrote d g 0 (28 + length word + 47) (unknown_line word)
unfolding unknown_line ascii
unknown_made room few p k l =
    then (put-fits p (omega arith)) (then (put-fits k (omega (arith, p.same))) (put-fits l (omega (arith, p.same, k.same))))

-- a text with a number, and one behind it
pub number-told : {d e f : List ℕ} {to : ℕ} {q : Bool} (s t : Bytes) (n : ℕ) → length s + 20 + length t ≤ length d → Wrote d e 0 to (s ++ decimal n) → Put e to t f q
    → Wrote d f 0 (to + length t) (s ++ (decimal n ++ t))
number-told s t n h w k =
    let y = put-fits k (omega (arith, wrote_same w, w.up, length-append s (decimal n), length-decimal n)) in
    simp append_assoc at (then w y)

-- the second number of a refusal has room behind the first
pub refusal_goes_on : {d e f : List ℕ} {name : Bytes} {to k : ℕ} {r : Bool} (n : ℕ) → length d ≡ 4_192 → length name ≤ 4_096 → Put d 0 name e r
    → Wrote e f (length name) to (ascii ": refused " ++ decimal n) → k ≡ 10 → to + k + 20 ≤ length f
unfolding ascii
refusal_goes_on n h few p w e = omega (arith, p.same, wrote_same w, w.up, length-append (ascii ": refused ") (decimal n), length-decimal n)

pub refusal_made : {d e f g h : List ℕ} {name : Bytes} {m to : ℕ} {r q : Bool} (n k : ℕ) → length d ≡ 4_192 → length name ≤ 4_096 → Put d 0 name e r
    → Wrote e f (length name) m (ascii ": refused " ++ decimal n) → Wrote f g m to (ascii " at event " ++ decimal k) → Put g to (ascii "\n") h q
    → Wrote d h 0 (to + 1) (refusal_line name n k)
unfolding refusal_line ascii
refusal_made {name = name} n k room few p w x l =
    let a : length (ascii ": refused " ++ decimal n) ≤ 30 = omega (arith, length-append (ascii ": refused ") (decimal n), length-decimal n) in
    let b : length (ascii " at event " ++ decimal k) ≤ 30 = omega (arith, length-append (ascii " at event ") (decimal k), length-decimal k) in
    let z : 0 + length name ≡ length name = omega arith in
    let v = rw z at (put-fits p (omega arith)) in
    let y = put-fits l (omega (arith, p.same, w.up, x.up, wrote_same w, wrote_same x)) in
    simp append_assoc at (then v (then w (then x y)))
