-- How a state comes from bytes and goes to them.
use Rattle.std.specs.Prelude.{ℕ, ◌+◌, ◌*◌, ◌≡◌, refl, Bool, true, false, ◌&&◌, List, ◌∷◌, ◌++◌, eqb, leb, length, get_or, Option, Some, None}
use Rattle.std.specs.Bool.{then_some}
use Rattle.std.specs.Int.{from_bool}
use Rattle.std.proofs.Math.Path.{sym}
use Rattle.std.proofs.Common.{◌∙◌, arith, take_all}
use Rattle.std.proofs.Math.Option.{none, some}
use Rattle.spec.specs.Modes.{base_mode, xmp_mode}
use Rattle.state_words.specs.Words.{pick}
use Rattle.spec.specs.Bytes.{Bytes}
use Rattle.copy.specs.Copy.{Wrote, then, wrote_front}
use Rattle.state_ids.specs.declared.IdTable.{IdTable}
use Rattle.state.specs.declared.Registers.{Registers}
use Rattle.reader_contract.specs.declared.State.{State}
use Rattle.reader_host.specs.Little.{rows, rows_at, Below}
use Rattle.reader_host.specs.Image.{flag, profile_number, mode_of, state_bytes, numbers_of, encode, registers_of, flags_ok, state_of, decode, Words, Typed, decode-encode, decode_good, encode-decode}
use Rattle.reader_host.specs.Meets.{Stands, Loads}
use Rattle.reader_host.specs.Rows.{WroteRows}

-- ---- flags and modes from numbers: Some where a test holds

pub held : {A : Type 0} {a x : A} {r : Option A} (p : Bool) → r ≡ then_some p a → r ≡ Some x → (p ≡ true) × (x ≡ a)
held true e q = (refl, cc)
held false e q = let z : ◌≡◌ {A = ℕ} 0 1 = cc in absurd (omega arith)

pub failed : {A : Type 0} {r : Option A} (p : Bool) (a : A) → r ≡ then_some p a → r ≡ None → p ≡ false
failed true a e q = let z : ◌≡◌ {A = ℕ} 0 1 = cc in absurd (omega arith)
failed false a e q = refl

pub none_there : {A : Type 0} {r : Option A} {p : Bool} (a : A) → p ≡ false → r ≡ None → r ≡ then_some p a
none_there a f e = rw f e

pub mode_is : (n : ℕ) → record { xmp = eqb n 1 } ≡ mode_of n
unfolding mode_of
mode_is n = go (eqb n 1)
  where
    go : (p : Bool) → record { xmp = p } ≡ pick p xmp_mode base_mode
    go true = refl
    go false = refl

falls : (a b : Bool) → b ≡ false → (a && b) ≡ false
falls true b e = e
falls false b e = refl

-- by the flag or the mode that fails, and where all hold
module _ (ns : List ℕ) where
  pub closed_fails : leb (get_or ns 0 0) 1 ≡ false → flags_ok ns ≡ false
  unfolding flags_ok
  closed_fails e = rw e

  pub rooted_fails : leb (get_or ns 1 0) 1 ≡ false → flags_ok ns ≡ false
  unfolding flags_ok
  rooted_fails e = falls (leb (get_or ns 0 0) 1) _ (rw e)

  pub based_fails : leb (get_or ns 2 0) 1 ≡ false → flags_ok ns ≡ false
  unfolding flags_ok
  based_fails e = falls (leb (get_or ns 0 0) 1) _ (falls (leb (get_or ns 1 0) 1) _ (rw e))

  pub mode_fails : leb (get_or ns 3 0) 1 ≡ false → flags_ok ns ≡ false
  unfolding flags_ok
  mode_fails e = falls (leb (get_or ns 0 0) 1) _ (falls (leb (get_or ns 1 0) 1) _ (falls (leb (get_or ns 2 0) 1) _ e))

  pub all_hold : leb (get_or ns 0 0) 1 ≡ true → leb (get_or ns 1 0) 1 ≡ true → leb (get_or ns 2 0) 1 ≡ true → leb (get_or ns 3 0) 1 ≡ true → flags_ok ns ≡ true
  unfolding flags_ok
  all_hold a b c m = rw (a, b, c, m)

-- ---- from bytes

pub loads_none : {b : Bytes} {s : Option State} → s ≡ None → decode b ≡ none → Loads b s
loads_none n d = record { bad = λ _. d; good = λ t e. let z : ◌≡◌ {A = ℕ} 0 1 = cc in absurd (omega arith) }

module _ (b : Bytes) (h : Below 256 b) (l : length b ≡ state_bytes) {ns fs bs is ia il : List ℕ} {r : Registers} (n : ns ≡ rows_at 8 b 0 15) (f : flags_ok ns ≡ true) (e : r ≡ registers_of ns)
    (x : fs ≡ rows_at 4 b 120 1_152) (y : bs ≡ rows_at 4 b 4_728 384) (z : is ≡ rows_at 4 b 6_264 192) (u : ia ≡ rows_at 4 b 7_032 512) (v : il ≡ rows_at 4 b 9_080 512) where
  abbrev made : State
  made = record { registers = r; frames = fs; bindings = bs; inners = is; ids = record { count = get_or ns 13 0; used = get_or ns 14 0; at = ia; len = il } }

  read : decode b ≡ some made
  unfolding state_of
  read = decode_good b l (rw n at f) ∙ sym (rw (e, n, x, y, z, u, v))

  pub loads_some : Loads b (Some made)
  loads_some =
      record {
        bad = λ e. let z : ◌≡◌ {A = ℕ} 0 1 = cc in absurd (omega arith);
        good = λ t e. let q : made ≡ t = cc in let s : Stands b made = record { read = read; written = sym (encode-decode b made h read) } in rw q at s;
      }

-- ---- to bytes

-- flags and a mode as numbers
flag_is : (f : Bool) → from_bool f ≡ flag f
flag_is true = refl
flag_is false = refl

profile_is : (f : Bool) → from_bool f ≡ profile_number f
unfolding profile_number
profile_is true = refl
profile_is false = refl

pub numbers_are : (a b c m : Bool) (t : List ℕ) → from_bool a ∷ from_bool b ∷ from_bool c ∷ from_bool m ∷ t ≡ flag a ∷ flag b ∷ flag c ∷ profile_number m ∷ t
numbers_are a b c m t = rw (flag_is a, flag_is b, flag_is c, profile_is m)

-- the table of rdf:IDs stands at the end
pub record WroteIds (b : Bytes) (t : IdTable) (b' : Bytes) : Type 0 where
  pub same : length b' ≡ length b
  pub wrote : Wrote b b' 7_032 11_128 (rows 4 t.at ++ rows 4 t.len)
  pub at : Words 512 t.at
  pub len : Words 512 t.len

-- a row that ends where the next begins
ended : {k : ℕ} {b : Bytes} {at : ℕ} {ns : List ℕ} {b' : Bytes} (to n : ℕ) → WroteRows k b at ns b' → length ns ≡ n → at + n * k ≡ to → Wrote b b' at to (rows k ns)
ended to n p l e = rw (l, e) at p.wrote

pub write_both : {b c d : Bytes} {t : IdTable} → WroteRows 4 b 7_032 t.at c → WroteRows 4 c 9_080 t.len d → length t.at ≡ 512 → length t.len ≡ 512 → WroteIds b t d
write_both p q l m =
    record {
      same = q.same ∙ p.same;
      wrote = then (ended 9_080 512 p l (omega arith)) (ended 11_128 512 q m (omega arith));
      at = record { size = l; fits = p.fits };
      len = record { size = m; fits = q.fits };
    }

module _ {b b₁ b₂ b₃ b₄ b₅ : Bytes} (s : State) (l : length b ≡ state_bytes) (p : WroteRows 8 b 0 (numbers_of s) b₁) (q : WroteRows 4 b₁ 120 s.frames b₂)
    (r : WroteRows 4 b₂ 4_728 s.bindings b₃) (t : WroteRows 4 b₃ 6_264 s.inners b₄) (u : WroteIds b₄ s.ids b₅)
    (x : length s.frames ≡ 1_152) (y : length s.bindings ≡ 384) (z : length s.inners ≡ 192) where
  typed : Typed s
  typed =
      record {
        numbers = p.fits;
        frames = record { size = x; fits = q.fits };
        bindings = record { size = y; fits = r.fits };
        inners = record { size = z; fits = t.fits };
        at = u.at;
        len = u.len;
      }

  all : Wrote b b₅ 0 11_128 (encode s)
  unfolding encode numbers_of
  all =
      then p.wrote (then (ended 4_728 1_152 q x (omega arith)) (then (ended 6_264 384 r y (omega arith)) (then (ended 7_032 192 t z (omega arith)) u.wrote)))

  pub saved : Stands b₅ s
  saved =
      let n : length b₅ ≡ 11_128 = u.same ∙ (t.same ∙ (r.same ∙ (q.same ∙ (p.same ∙ l)))) in
      let e : b₅ ≡ encode s = sym (take_all 11_128 b₅ (omega arith)) ∙ wrote_front all in
      record { read = rw e (decode-encode s typed); written = e }
