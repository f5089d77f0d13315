-- The last line: two texts with a number behind each, and a line end.
use Rattle.std.specs.Prelude.{ℕ, zero, suc, ◌+◌, ◌≤◌, ◌<◌, ◌≡◌, refl, Bool, List, ◌++◌, length, take}
use Rattle.std.proofs.Common.{append_assoc, arith, length-append, length-take-le, Fits}
use Rattle.std.specs.Int.{w64}
use Rattle.spec.specs.Bytes.{Bytes, ascii}
use Rattle.spec.specs.NTriples.{decimal}
use Rattle.spec.specs.Pyx2nt.{last_line}
use Rattle.copy.specs.Copy.{Put, Wrote, then, wrote_none, put-fits, wrote_same}
use Rattle.label.specs.Digits.{length-decimal}
use Rattle.streams.specs.declared.Printed.{Printed}
use Rattle.streams.specs.Answers.{Prints}

-- no refusal, no line
pub no_line : (d : List ℕ) (n k : ℕ) → n ≡ 0 → Wrote d d 0 0 (last_line n k)
unfolding last_line
no_line d n k e = rw e (wrote_none (omega arith))

-- where the second number has room, behind the first
pub line_goes_on : {d e : List ℕ} {to : ℕ} (s : Bytes) (n : ℕ) → length d ≡ 64 → length s ≡ 10 → Wrote d e 0 to (s ++ decimal n) → to + 10 + 20 ≤ length e
line_goes_on s n h k w = omega (arith, wrote_same w, w.up, length-append s (decimal n), length-decimal n)

-- both, and the line end
pub line_made : {d e f g : List ℕ} {m to : ℕ} {q : Bool} (n k : ℕ) → length d ≡ 64 → (n ≡ 0 → ⊥) → Wrote d e 0 m (ascii "# refused " ++ decimal n) → Wrote e f m to (ascii " at event " ++ decimal k)
    → Put f to (ascii "\n") g q → Wrote d g 0 (to + 1) (last_line n k)
unfolding last_line ascii
line_made zero k h some w x p = absurd (some refl)
line_made {d} {e} {f} {g} {m} {to} (suc n) k h some w x p =
    let a : length (ascii "# refused " ++ decimal (suc n)) ≤ 30 = omega (arith, length-append (ascii "# refused ") (decimal (suc n)), length-decimal (suc n)) in
    let b : length (ascii " at event " ++ decimal k) ≤ 30 = omega (arith, length-append (ascii " at event ") (decimal k), length-decimal k) in
    let y = put-fits p (omega (arith, w.up, x.up, wrote_same w, wrote_same x)) in
    simp append_assoc at (then w (then x y))

-- the bytes of the line that were taken, behind those of the lines before it, fit a word
pub last-counted : {d e : List ℕ} {to n b : ℕ} {s : Bytes} {w : Printed} → length d ≡ 64 → Wrote d e 0 to s → Prints (length (take to e)) w → n ≡ w.bytes
    → b < 9_223_372_036_854_775_808 → Fits w64 (b + n)
last-counted {d} {e} {to} h v p q k =
    record { fits = omega (arith, p.fewer, length-take-le to e (omega (arith, wrote_same v, v.up, v.room)), v.up, v.room) }
