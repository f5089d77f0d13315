-- The machine reads a text as the kinds of its subtags, and accepts what `langtag` and `privateuse` of RFC 5646 describe.
use mathlib.Core.Path.{◌≡◌, refl, sym, ap, ◌∙◌}
use mathlib.Core.Bool.{Bool, true, false, ◌&&◌, not}
use mathlib.Core.List.{List, [], ◌∷◌, ◌++◌, map, append_assoc, append-nil, tail-eq_of_cons-eq, cons≢nil}
use Prim.Native.Nat.{ℕ, suc, ◌+◌, ◌≤◌, ◌<◌, min}
use native.Mathlib.Omega.{arith}
use lib.Dec.{eqb, leb}
use native.Mathlib.Numerals.{add-one}
use lib.ListN.{length, drop, get_or, length-append, drop_of_length-le}
use lib.Seq.{drop-cons}
use borrow.Author.Tests.{eqb-true, leb-true, leb-false, ne_eqb, not-true}
use Rattle.spec.specs.Bytes.{Bytes, byte, when◌then◌else◌, every}
use Rattle.spec.specs.Grammar.{◌or◌, Describes, accepts}
use Rattle.spec.specs.Abnf.{optional, at_most}
use Rattle.spec.specs.Rfc5646 as R
use Rattle.spec.proofs.Booleans.{and_left, and_right, and_both}
use Rattle.theorems.specs.Grammar.{accepts_sound, accepts_complete}
use Rattle.langtag.specs.declared.Place.{Place}
use Rattle.langtag.specs.declared.Place.TheVariants as P
use Rattle.langtag.specs.declared.Reader.{Reader}
use Rattle.langtag.specs.Machine.{letter, digit, is_x, fresh, longer, first, grown, follow, final, start, ended, step, reads, composed}
use Rattle.langtag.proofs.Places as K
use Rattle.langtag.proofs.Places.{follows, places}
use Rattle.langtag.proofs.Hyphens.{hyphened, plain, Plain, Over, piece, hyphen, none, either, row, rows, sound, complete}
use Rattle.langtag.proofs.Counts.{every_append}
use Rattle.langtag.proofs.Subtags.{alnum, numbered, summary, kind_of, and-true, letters2, letters3, letters4, letters23, letters58, digits3, variants, singletons, the_x, any_piece, long_piece}

-- ---- production by production

extlang : Over kind_of true R.extlang K.extlang
unfolding R.extlang K.extlang at_most
extlang = row (piece letters3) (either none (row (hyphen (piece letters3)) (either none (row (hyphen (piece letters3)) none))))

language : Over kind_of true R.language K.language
unfolding R.language K.language optional
language = either (row (piece letters23) (either none (hyphen extlang))) (either (piece letters4) (piece letters58))

region : Over kind_of true R.region K.region
unfolding R.region K.region
region = either (piece letters2) (piece digits3)

extension : Over kind_of true R.extension K.extension
unfolding R.extension K.extension
extension = row (piece singletons) (row (hyphen (piece long_piece)) (rows (hyphen (piece long_piece))))

privateuse : Over kind_of true R.privateuse K.privateuse
unfolding R.privateuse K.privateuse
privateuse = row (piece the_x) (row (hyphen (piece any_piece)) (rows (hyphen (piece any_piece))))

tag : Over kind_of true (R.langtag or R.privateuse) K.tag
unfolding R.langtag R.script K.tag K.from_script K.from_region K.from_variants K.from_extensions optional
tag =
    either
    (row language
    (row (either none (hyphen (piece letters4)))
    (row (either none (hyphen region)) (row (rows (hyphen (piece variants))) (row (rows (hyphen extension)) (either none (hyphen privateuse)))))))
    privateuse

-- ---- what the machine has seen

-- a byte more
module _ (w : Bytes) (c : ℕ) where
  more_of : (p : ℕ → Bool) → (every p w && p c) ≡ every p (w ++ (c ∷ []))
  unfolding every
  more_of p = ap (every p w &&◌) (sym (and-true (p c))) ∙ sym (every_append p w (c ∷ []))

  longer_by : (t : Bool) → leb (min 9 (length w)) 8 ≡ t → (when t then min 9 (length w) + 1 else 9) ≡ min 9 (length (w ++ (c ∷ [])))
  unfolding when◌then◌else◌
  longer_by true e = omega (arith, leb-true (min 9 (length w)) 8 e, length-append w (c ∷ []))
  longer_by false e = omega (arith, leb-false (min 9 (length w)) 8 e, length-append w (c ∷ []))

first_of : (w : Bytes) (c : ℕ) → (when eqb (min 9 (length w)) 0 then digit c else numbered w) ≡ numbered (w ++ (c ∷ []))
unfolding numbered when◌then◌else◌
first_of [] c = refl
first_of (b ∷ w) c = rw (ne_eqb (min 9 (suc (length w))) 0 (omega arith))

grown-summary : (w : Bytes) (c : ℕ) → grown (summary w) c ≡ summary (w ++ (c ∷ []))
unfolding grown summary longer first
grown-summary w c =
    λ i.
    record {
      length = longer_by w c (leb (min 9 (length w)) 8) refl i;
      letters = more_of w c letter i;
      digits = more_of w c digit i;
      alphanum = more_of w c alnum i;
      numbered = first_of w c i;
      x = more_of w c is_x i;
    }

-- at a place, with a subtag begun
abbrev at : Place → Bytes → Reader
at q w = record { place = q; subtag = summary w }

reads-append : (r : Reader) (u v : Bytes) → reads r (u ++ v) ≡ reads (reads r u) v
unfolding reads
reads-append r [] v = refl
reads-append r (c ∷ u) v = reads-append (step r c) u v

reads_plain : (q : Place) (w t : Bytes) → plain t ≡ true → reads (at q w) t ≡ at q (w ++ t)
unfolding reads step plain every byte when◌then◌else◌
reads_plain q w [] h = rw append-nil
reads_plain q w (c ∷ t) h =
    let e : eqb c 45 ≡ false = not-true (eqb c 45) (and_left (not (eqb c 45)) (plain t) h) in
    let r = reads_plain q (w ++ (c ∷ [])) t (and_right (not (eqb c 45)) (plain t) h) in
    rw (e, grown-summary w c) (r ∙ ap (at q) (append_assoc w (c ∷ []) t))

-- the kinds of subtags with hyphens between them lead where the text does
reads_kinds : (q : Place) (t : Bytes) (ts : List Bytes) → Plain (t ∷ ts) → ended (reads (at q []) (t ++ hyphened ts)) ≡ follows q (map kind_of (t ∷ ts))
unfolding hyphened follows ended kind_of reads step byte when◌then◌else◌ fresh summary every numbered
reads_kinds q t [] h = ap ended (ap (reads (at q [])) (append-nil t) ∙ reads_plain q [] t h.0)
reads_kinds q t (u ∷ ts) h =
    ap ended (reads-append (at q []) t (45 ∷ (u ++ hyphened ts)) ∙ ap (λ (r : Reader). reads r (45 ∷ (u ++ hyphened ts))) (reads_plain q [] t h.0))
    ∙ reads_kinds (follow q (kind_of t)) u ts h.1

-- every text is some subtags with hyphens between them
record Cut (s : Bytes) : Type 0 where
  head : Bytes
  tail : List Bytes
  spelled : s ≡ head ++ hyphened tail
  fine : Plain (head ∷ tail)

cut : (s : Bytes) → Cut s
unfolding hyphened plain every
cut [] = record { head = []; tail = []; spelled = refl; fine = (refl, tt) }
cut (c ∷ s) = go (cut s) (eqb c 45) refl
  where
    go : Cut s → (t : Bool) → eqb c 45 ≡ t → Cut (c ∷ s)
    go r true e =
        record { head = []; tail = r.head ∷ r.tail; spelled = cc (eqb-true c 45 e, r.spelled); fine = (refl, r.fine) }
    go r false e =
        record {
          head = c ∷ r.head;
          tail = r.tail;
          spelled = ap (c ∷◌) r.spelled;
          fine = (and_both (not (eqb c 45)) (plain r.head) (rw e) r.fine.0, r.fine.1);
        }

-- ---- the machine and the grammar

reads_start : (t : Bytes) (ts : List Bytes) → Plain (t ∷ ts) → composed (t ++ hyphened ts) ≡ accepts K.tag (map kind_of (t ∷ ts))
unfolding composed start fresh summary every numbered
reads_start t ts h = ap final (reads_kinds P.Start t ts h) ∙ sym (places (map kind_of (t ∷ ts)))

pub composed_sound : (s : Bytes) → composed s ≡ true → Describes (R.langtag or R.privateuse) s
unfolding hyphened
composed_sound s h =
    let r : Cut s = cut s in
    let d = accepts_sound K.tag (map kind_of (r.head ∷ r.tail)) (sym (reads_start r.head r.tail r.fine) ∙ rw (← r.spelled) h) in
    let w = complete kind_of tag (r.head ∷ r.tail) d in
    rw (r.spelled ∙ sym (tail-eq_of_cons-eq w.spelled)) w.told

pub composed_complete : (s : Bytes) → Describes (R.langtag or R.privateuse) s → composed s ≡ true
unfolding hyphened
composed_complete s d =
    let r = sound kind_of tag s d in
    go r.tags r.spelled r.fine (accepts_complete K.tag (map kind_of r.tags) r.kinds)
  where
    go : (ts : List Bytes) → 45 ∷ s ≡ hyphened ts → Plain ts → accepts K.tag (map kind_of ts) ≡ true → composed s ≡ true
    go [] e f h = absurd (cons≢nil e)
    go (t ∷ ts) e f h = rw (tail-eq_of_cons-eq e) (reads_start t ts f ∙ h)

-- ---- the loop of `composed`: `i` bytes are read

pub record Reading (s : Bytes) (r : Reader) (i : ℕ) : Type 0 where
  pub upto : i ≤ length s
  pub rest : reads start s ≡ reads r (drop i s)

pub reading_begins : {s : Bytes} {r : Reader} → r ≡ start → Reading s r 0
reading_begins {s} {r} e = record { upto = omega arith; rest = rw e }

pub reading_more : {s : Bytes} {r n : Reader} {i : ℕ} → Reading s r i → i < length s → n ≡ step r (get_or s i 0) → Reading s n (i + 1)
unfolding reads
reading_more {s} {r} {n} {i} h l e = record { upto = omega arith; rest = h.rest ∙ rw (drop-cons s i 0 l, e, add-one) }

pub reading_done : {s : Bytes} {r : Reader} {i : ℕ} {q : Place} {b : Bool} → Reading s r i → length s ≤ i → q ≡ ended r → b ≡ final q → b ≡ composed s
unfolding composed reads
reading_done {s} {r} {i} {q} {b} h l e f = f ∙ ap final (e ∙ ap ended (sym (h.rest ∙ rw (drop_of_length-le s l))))
