-- A text written where all of it has room: that is known, or it is drafted first and handed on, or measured first.
use Rattle.std.specs.Prelude.{ℕ, ◌+◌, ◌<◌, ◌≤◌, ◌≡◌, refl, Bool, true, false, List, [], leb, length, take, Result, Ok, Err, is_ok}
use Rattle.std.proofs.Common.{sym, arith, le-leb}
use Rattle.std.proofs.lemmas.Bool.{lt-leb}
use Rattle.copy.specs.Copy.{Wrote, wrote_none, wrote_same, wrote_front, put-fits}
use Rattle.copy.specs.Copy as copied
use Rattle.spec.specs.declared.Refusal.{Refusal}
use Rattle.spec.specs.declared.Refusal.TheVariants.{NoRoom}
use Rattle.writer.specs.Put.{Put, most, put_measures, put_wrote, put_both}

-- what a text comes to: how many bytes of it were written, or that it has no room
abbrev pub Wrote_or : (d f s : List ℕ) → Result ℕ Refusal → Type 0
Wrote_or d f s (Ok n) = Wrote d f 0 n s
Wrote_or d f s (Err why) = (why ≡ NoRoom) × (f ≡ d)

-- s: the text; d and f: the output before and behind
pub record Says (d f s : List ℕ) (r : Result ℕ Refusal) : Type 0 where
  pub answer : is_ok r ≡ leb (length s) (length d)
  pub cases : Wrote_or d f s r
  pub same : length f ≡ length d

says_none : {d s : List ℕ} → length d < length s → Says d d s (Err NoRoom)
says_none {d} {s} h = record { answer = sym (lt-leb (length s) (length d) h); cases = (refl, refl); same = refl }

says_wrote : {d f s : List ℕ} {n : ℕ} → Wrote d f 0 n s → Says d f s (Ok n)
says_wrote {d} {f} {s} w =
    record { answer = sym (le-leb (length s) (length d) (omega (arith, w.room))); cases = w; same = wrote_same w }

-- all of it is known to have room
pub says_sure : {on : Bool} {d f s : List ℕ} {n : ℕ} → Put on d f 0 n s → on ≡ true → length d < most → length s ≤ length d
    → Says d f s (Ok n)
says_sure p t l h = says_wrote (put_wrote p t (omega arith) (omega arith))

-- there was nothing to write
pub says_nothing : {d s : List ℕ} → s ≡ [] → Says d d s (Ok 0)
says_nothing e = rw e (says_wrote (wrote_none (omega arith)))

-- ---- drafted: what the draft has room for was written there, and all was counted

-- a draft that held all of it holds it
drafted : {on : Bool} {a b s : List ℕ} {n : ℕ} → Put on a b 0 n s → on ≡ true → length a < most → n ≤ length a → take n b ≡ s
drafted p o l h = wrote_front (put_wrote p o (omega arith) (omega (arith, p.up)))

module _ {on : Bool} {a b d s : List ℕ} {n : ℕ} (p : Put on a b 0 n s) (l : length d < most) where
  pub drafted_not : length d < n → Says d d s (Err NoRoom)
  drafted_not h = says_none (omega (arith, p.up))

  module _ (h : n ≤ length d) where
    -- it is copied
    pub drafted_all : {f : List ℕ} {r : Bool} → on ≡ true → length a < most → n ≤ length a → copied.Put d 0 (take n b) f r → Says d f s (Ok n)
    drafted_all o m k c =
        let e : take n b ≡ s = drafted p o m k in
        let size : 0 + length s ≡ n = omega (arith, p.up) in
        says_wrote (rw size at (put-fits (rw e at c) (omega arith)))

    -- or written once more
    pub drafted_long : {t : Bool} {f : List ℕ} {to : ℕ} → Put t d f 0 to s → t ≡ true → Says d f s (Ok to)
    drafted_long q t = says_sure q t l (omega (arith, p.up))

-- ---- measured, and then written

module _ {off : Bool} {d c s : List ℕ} {n : ℕ} (p : Put off d c 0 n s) (o : off ≡ false) (l : length d < most) where
  pub says_not : length d < n → Says d c s (Err NoRoom)
  says_not h = rw (put_measures p o) (drafted_not p l h)

  pub says_all : {on : Bool} {f : List ℕ} {to : ℕ} → Put on c f 0 to s → on ≡ true → n ≤ length d → Says d f s (Ok to)
  says_all q t h = says_wrote (put_both p q o t h l)
