-- How the code decides what a call came to: it tests the answer and errno, which are signed, by their bits.
use Prim.Native.Nat.{ℕ, zero, suc, ◌+◌, ◌-◌, ◌≤◌, ◌<◌, min}
use Rattle.std.specs.Prelude.{◌≡◌, Bool, not, ◌&&◌, T, eqb, ltb, ℤ, pos, negsuc, nat_abs}
use Rattle.std.proofs.Math.Path.{refl, ap}
use Rattle.std.proofs.Common.{sym, ◌∙◌, true≢false, arith, Fits, SFits, of_z, to_z, ne_eqb, ltb-true, le-leb}
use Rattle.std.proofs.Math.Bool.{true, false}
use Rattle.std.proofs.Math.Nat.{min-le_right}
use Rattle.spec.specs.Bytes.{when◌then◌else◌}
use Rattle.std.specs.Int.Signed.{le_z, non_neg}
use mir.Syntax.{w32, w64}
use Rattle.std.proofs.lemmas.Int.{to_z-of_z}
use Rattle.std.proofs.lemmas.Bool.{eqb-false}
use Rattle.streams.specs.declared.Moved.{Moved}
use Rattle.streams.specs.declared.Moved.TheVariants.{Bytes, Later, Failed}
use Rattle.streams.specs.declared.Got.{Got}
use Rattle.streams.specs.declared.Got.TheVariants as got
use Rattle.streams.specs.declared.Printed.{Printed}
use Rattle.streams.specs.declared.Printing.{Printing}
use Rattle.streams.specs.Answers.{eintr, eagain, passing, unmoved, moved_of, AtMost, waits_for}
use Rattle.streams.specs.Answers.{bytes_of, begun, after_write, goes_on, Written, first, next, printed_of, Prints, got_of, Fills}

-- ---- the answer

module _ {got : ℤ} (f : SFits w64 got) where
  -- from 0 on
  pub some_cast : le_z (pos 0) (to_z w64 (of_z w64 got)) ≡ true
      → T (non_neg (to_z w64 (of_z w64 got))) × Fits w64 (nat_abs (to_z w64 (of_z w64 got)))
  some_cast h = rw (to_z-of_z w64 got f) (go got f (rw (to_z-of_z w64 got f) at h))
    where
      go : (z : ℤ) → SFits w64 z → le_z (pos 0) z ≡ true → T (non_neg z) × Fits w64 (nat_abs z)
      go (pos n) b e = (tt, record { fits = omega (arith, b.sfits) })
      go (negsuc n) b e = absurd (true≢false (sym e))

  pub some_moved : (error : ℤ) (most : ℕ) {n : ℕ} → le_z (pos 0) (to_z w64 (of_z w64 got)) ≡ true
      → n ≡ min (nat_abs (to_z w64 (of_z w64 got))) most → Bytes n ≡ moved_of got error most
  unfolding moved_of
  some_moved error most {n} h e = go got (rw (to_z-of_z w64 got f) at h) (rw (to_z-of_z w64 got f) at e)
    where
      go : (z : ℤ) → le_z (pos 0) z ≡ true → n ≡ min (nat_abs z) most → Bytes n ≡ moved_of z error most
      go (pos k) b q = ap Bytes q
      go (negsuc k) b q = absurd (true≢false (sym b))

  -- below 0: by errno
  pub none_moved : (error : ℤ) (most : ℕ) {b : Bool} → le_z (pos 0) (to_z w64 (of_z w64 got)) ≡ false
      → passing error ≡ b → unmoved b ≡ moved_of got error most
  unfolding moved_of
  none_moved error most h e = rw (← e) (go got (rw (to_z-of_z w64 got f) at h))
    where
      go : (z : ℤ) → le_z (pos 0) z ≡ false → unmoved (passing error) ≡ moved_of z error most
      go (pos k) q = absurd (true≢false (sym (le-leb 0 k (omega arith)) ∙ q))
      go (negsuc k) q = refl

-- ---- errno

module _ {error : ℤ} where
  is_error : SFits w32 error → {n : ℕ} → of_z w32 error ≡ n → error ≡ to_z w32 n
  is_error f e = sym (to_z-of_z w32 error f) ∙ ap (to_z w32) e

  pub interrupted : SFits w32 error → of_z w32 error ≡ eintr → passing error ≡ true
  interrupted f e = rw (is_error f e)

  pub would_wait : SFits w32 error → of_z w32 error ≡ eagain → passing error ≡ true
  would_wait f e = rw (is_error f e)

pub other_error : (error : ℤ) → (of_z w32 error ≡ eintr → ⊥) → (of_z w32 error ≡ eagain → ⊥) → passing error ≡ false
other_error (pos n) p q = rw (ne_eqb n eintr p, ne_eqb n eagain q)
other_error (negsuc n) p q = refl

-- ---- what follows

pub at_most_lem : (got error : ℤ) {k most : ℕ} {m : Moved} → m ≡ moved_of got error k → k ≡ most → AtMost most m
unfolding moved_of AtMost
at_most_lem got error {most = most} e q = rw (e, q) (go got)
  where
    none : (b : Bool) → AtMost most (unmoved b)
    none true = tt
    none false = tt

    go : (z : ℤ) → AtMost most (moved_of z error most)
    go (pos n) = min-le_right n most
    go (negsuc n) = none (passing error)

-- a call is tried again only while there are tries left
pub tries_left : (m : Moved) {tries : ℕ} {b : Bool} → b ≡ waits_for m tries → b ≡ true → 0 < tries
unfolding waits_for
tries_left m {tries} q h = go m (sym q ∙ h)
  where
    go : (x : Moved) → waits_for x tries ≡ true → 0 < tries
    go (Bytes n) e = absurd (true≢false (sym e))
    go Later e = ltb-true 0 tries e
    go Failed e = absurd (true≢false (sym e))

pub bytes_at_most : (m : Moved) {n most : ℕ} → n ≡ bytes_of m → AtMost most m → n ≤ most
unfolding AtMost
bytes_at_most m {most = most} e h = rw e (go m h)
  where
    go : (x : Moved) → AtMost most x → bytes_of x ≤ most
    go (Bytes k) b = b
    go Later b = omega arith
    go Failed b = omega arith

pub got_some : (n : ℕ) {m : Moved} → m ≡ Bytes n → (n ≡ 0 → ⊥) → got.Bytes n ≡ got_of m
unfolding got_of
got_some zero e h = absurd (h refl)
got_some (suc n) e h = rw e

pub got_fills : (room : ℕ) (m : Moved) {r : Got} → r ≡ got_of m → AtMost room m → Fills room r
unfolding got_of AtMost Fills
got_fills room m e h = rw e (go m h)
  where
    go : (x : Moved) → AtMost room x → Fills room (got_of x)
    go (Bytes zero) b = tt
    go (Bytes (suc n)) b = (omega arith, b)
    go Later b = tt
    go Failed b = tt

-- ---- a text on its way

-- the loop of `print`
pub record Going (most : ℕ) (p : Printing) : Type 0 where
  pub written : Written most p
  pub size : p.most ≡ most
  pub fewer : p.taken ≤ most

pub going_first : (most : ℕ) {p : Printing} → p ≡ begun most → Going most p
unfolding begun
going_first most e = rw e (record { written = first; size = refl; fewer = omega arith })

pub going_next : {most : ℕ} {p q : Printing} (n : ℕ) {b : Bool} → Going most p → b ≡ goes_on p → b ≡ true → p.taken + n ≤ most
    → q ≡ after_write p n → Going most q
unfolding after_write
going_next n g d t room e = rw e (record { written = next g.written (sym d ∙ t) n room; size = g.size; fewer = room })

-- nothing is written behind a write that failed
pub none_behind_failed : (p : Printing) → goes_on (after_write p 0) ≡ false
unfolding goes_on after_write
none_behind_failed p = refl

-- what is left: nothing behind a failure
unfoldable pub left : Printing → ℕ
left p = when p.failed then 0 else suc (p.most - p.taken)

pub left_less : (p : Printing) {q : Printing} (n : ℕ) {b : Bool} → b ≡ goes_on p → b ≡ true → p.taken + n ≤ p.most → q ≡ after_write p n → left q < left p
unfolding left goes_on after_write when◌then◌else◌
left_less p n d t room e = rw e (go p.failed (eqb n 0) refl (sym d ∙ t))
  where
    go : (f z : Bool) → eqb n 0 ≡ z → (not f && ltb p.taken p.most) ≡ true
        → (when z then 0 else suc (p.most - (p.taken + n))) < (when f then 0 else suc (p.most - p.taken))
    go true z k h = absurd (true≢false (sym h))
    go false true k h = omega arith
    go false false k h = omega (arith, eqb-false n 0 k, ltb-true p.taken p.most h)

pub prints : {most : ℕ} {p : Printing} {r : Printed} {b : Bool} → Going most p → b ≡ goes_on p → b ≡ false → r ≡ printed_of p → Prints most r
prints {p = p} g d t e =
    record {
      last = p;
      written = g.written;
      over = sym d ∙ t;
      is = e;
      fewer = rw e g.fewer;
      whole = rw (e, g.size);
    }
