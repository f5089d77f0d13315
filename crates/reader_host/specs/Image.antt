-- A state as bytes, at fixed places: fifteen numbers of eight bytes, then five tables, four bytes a word; and back.
use Rattle.std.specs.Prelude.{ℕ, zero, suc, ◌+◌, ◌*◌, ◌^◌, ◌≤◌, Bool, ◌&&◌, List, [], ◌∷◌, ◌++◌, leb, get_or, take, drop}
use Rattle.std.proofs.Math.Path.{◌≡◌, refl}
use Rattle.std.proofs.Common.{sym, ◌∙◌, append-nil, arith, length-append, length-drop, take-append-drop, drop_of_length-le, drop-drop}
use Rattle.std.proofs.Math.Bool.{true, false}
use Rattle.std.proofs.Math.Option.{Option, none, some}
use Rattle.std.proofs.Math.Dec.{eqb}
use Rattle.std.proofs.Math.ListN.{length}
use Rattle.std.proofs.Math.Seq.{drop_at}
use borrow.Author.Tests.{eq-eqb, ne_eqb, eqb-true, leb-true}
use Rattle.spec.specs.declared.Mode.{Mode}
use Rattle.spec.specs.Modes.{base_mode, xmp_mode}
use Rattle.spec.specs.Bytes.{Bytes}
use Rattle.spec.proofs.Booleans.{and_left, and_right}
use Rattle.state_words.specs.Words.{pick}
use Rattle.state.specs.declared.Registers.{Registers}
use Rattle.reader_contract.specs.declared.State.{State}
use Rattle.reader_host.specs.Little.{value_of, rows, rows_at, unrow, Below, length-rows, read_rows, rows_read, below-drop}

-- ---- there

abbrev pub flag : Bool → ℕ
flag true = 1
flag false = 0

-- 0 the base, 1 XMP packets
unfoldable pub profile_number : Bool → ℕ
profile_number false = 0
profile_number true = 1

abbrev pub mode_number : Mode → ℕ
mode_number m = profile_number m.xmp

-- its numbers, in the order of their places
unfoldable pub numbers_of : State → List ℕ
numbers_of s =
    flag s.registers.flags.closed
    ∷ flag s.registers.flags.rooted
    ∷ flag s.registers.flags.based
    ∷ mode_number s.registers.mode
    ∷ s.registers.store.base
    ∷ s.registers.counts.depth
    ∷ s.registers.counts.inner
    ∷ s.registers.counts.outer
    ∷ s.registers.counts.bindings
    ∷ s.registers.store.top
    ∷ s.registers.store.low
    ∷ s.registers.store.noted
    ∷ s.registers.counts.labels
    ∷ s.ids.count
    ∷ s.ids.used
    ∷ []

unfoldable pub encode : State → Bytes
encode s =
    rows 8 (numbers_of s) ++ (rows 4 s.frames ++ (rows 4 s.bindings ++ (rows 4 s.inners ++ (rows 4 s.ids.at ++ rows 4 s.ids.len))))

-- ---- and back

abbrev pub state_bytes : ℕ
state_bytes = 11_128

-- the mode that it is the number of
unfoldable pub mode_of : ℕ → Mode
mode_of n = pick (eqb n 1) xmp_mode base_mode

-- of these numbers
unfoldable pub registers_of : List ℕ → Registers
registers_of ns =
    record {
      mode = mode_of (get_or ns 3 0);
      flags = record { closed = eqb (get_or ns 0 0) 1; rooted = eqb (get_or ns 1 0) 1; based = eqb (get_or ns 2 0) 1 };
      store = record { base = get_or ns 4 0; top = get_or ns 9 0; low = get_or ns 10 0; noted = get_or ns 11 0 };
      counts = record { depth = get_or ns 5 0; inner = get_or ns 6 0; outer = get_or ns 7 0; bindings = get_or ns 8 0; labels = get_or ns 12 0 };
    }

-- of these numbers and the tables in b
unfoldable pub state_of : List ℕ → Bytes → State
state_of ns b =
    record {
      registers = registers_of ns;
      frames = rows_at 4 b 120 1_152;
      bindings = rows_at 4 b 4_728 384;
      inners = rows_at 4 b 6_264 192;
      ids = record { count = get_or ns 13 0; used = get_or ns 14 0; at = rows_at 4 b 7_032 512; len = rows_at 4 b 9_080 512 };
    }

-- a flag is 0 or 1, and the mode a known one
unfoldable pub flags_ok : List ℕ → Bool
flags_ok ns = leb (get_or ns 0 0) 1 && (leb (get_or ns 1 0) 1 && (leb (get_or ns 2 0) 1 && leb (get_or ns 3 0) 1))

-- the state that bytes stand for, if they stand for one
unfoldable pub decode : Bytes → Option State
decode b = pick (eqb (length b) state_bytes && flags_ok (rows_at 8 b 0 15)) (some (state_of (rows_at 8 b 0 15) b)) none

-- ---- there and back

-- words of a table of n, as its type has them
pub record Words (n : ℕ) (ws : List ℕ) : Type 0 where
  pub size : length ws ≡ n
  pub fits : Below (256 ^ 4) ws

-- a state as its type has it
pub record Typed (s : State) : Type 0 where
  pub numbers : Below (256 ^ 8) (numbers_of s)
  pub frames : Words 1_152 s.frames
  pub bindings : Words 384 s.bindings
  pub inners : Words 192 s.inners
  pub at : Words 512 s.ids.at
  pub len : Words 512 s.ids.len

-- a table that stands at a place, with t behind it
record Stored (b : Bytes) (at : ℕ) (ws : List ℕ) (t : Bytes) : Type 0 where
  eq : drop at b ≡ rows 4 ws ++ t

module _ {b : Bytes} {at : ℕ} {ws : List ℕ} {t : Bytes} {n : ℕ} (e : Stored b at ws t) (w : Words n ws) where
  table_back : rows_at 4 b at n ≡ ws
  unfolding rows_at
  table_back = rw (e.eq, ← w.size) (read_rows 4 ws t w.fits)

  table_next : drop (at + n * 4) b ≡ t
  table_next = rw (← drop-drop, e.eq) (drop_at (rows 4 ws) t (n * 4) (rw (← w.size) (length-rows 4 ws)))

flag_back : (f : Bool) → eqb (flag f) 1 ≡ f
flag_back true = refl
flag_back false = refl

mode_back : (m : Mode) → mode_of (mode_number m) ≡ m
unfolding mode_of profile_number
mode_back m = go m.xmp
  where
    go : (p : Bool) → mode_of (profile_number p) ≡ record { xmp = p }
    go false = refl
    go true = refl

mode_good : (p : Bool) → leb (profile_number p) 1 ≡ true
unfolding profile_number
mode_good false = refl
mode_good true = refl

flags_good : (s : State) → flags_ok (numbers_of s) ≡ true
unfolding flags_ok numbers_of
flags_good s = rw (mode_good s.registers.mode.xmp) (go s.registers.flags.closed s.registers.flags.rooted s.registers.flags.based)
  where
    low : (f : Bool) → leb (flag f) 1 ≡ true
    low true = refl
    low false = refl

    go : (a b c : Bool) → (leb (flag a) 1 && (leb (flag b) 1 && (leb (flag c) 1 && true))) ≡ true
    go a b c = rw (low a, low b, low c)

module _ (s : State) (h : Typed s) where
  first : Stored (encode s) 120 s.frames (rows 4 s.bindings ++ (rows 4 s.inners ++ (rows 4 s.ids.at ++ rows 4 s.ids.len)))
  unfolding encode numbers_of
  first = record { eq = drop_at (rows 8 (numbers_of s)) _ 120 (length-rows 8 (numbers_of s)) }

  second : Stored (encode s) 4_728 s.bindings (rows 4 s.inners ++ (rows 4 s.ids.at ++ rows 4 s.ids.len))
  second = record { eq = table_next first h.frames }

  third : Stored (encode s) 6_264 s.inners (rows 4 s.ids.at ++ rows 4 s.ids.len)
  third = record { eq = table_next second h.bindings }

  fourth : Stored (encode s) 7_032 s.ids.at (rows 4 s.ids.len)
  fourth = record { eq = table_next third h.inners }

  fifth : Stored (encode s) 9_080 s.ids.len []
  fifth = record { eq = table_next fourth h.at ∙ sym (append-nil (rows 4 s.ids.len)) }

  pub length-encode : length (encode s) ≡ 11_128
  unfolding encode numbers_of
  length-encode =
      simp (length-append, length-rows) (rw (h.frames.size, h.bindings.size, h.inners.size, h.at.size, h.len.size))

  numbers_back : rows_at 8 (encode s) 0 15 ≡ numbers_of s
  unfolding encode numbers_of rows_at
  numbers_back = read_rows 8 (numbers_of s) _ h.numbers

  state_back : state_of (numbers_of s) (encode s) ≡ s
  unfolding state_of registers_of numbers_of
  state_back =
      rw (
        flag_back s.registers.flags.closed,
        flag_back s.registers.flags.rooted,
        flag_back s.registers.flags.based,
        mode_back s.registers.mode,
        table_back first h.frames,
        table_back second h.bindings,
        table_back third h.inners,
        table_back fourth h.at,
        table_back fifth h.len,
      )

  pub decode-encode : decode (encode s) ≡ some s
  unfolding decode
  decode-encode = rw (numbers_back, eq-eqb (length (encode s)) 11_128 length-encode, flags_good s, state_back)

-- ---- back and there

-- the words from a place on are the bytes there, and the rest follows
table_there : (b : Bytes) (at n : ℕ) → Below 256 b → at + n * 4 ≤ length b → rows 4 (rows_at 4 b at n) ++ drop (at + n * 4) b ≡ drop at b
unfolding rows_at
table_there b at n h l =
    rw (rows_read 4 n (drop at b) (below-drop at b h) (rw length-drop (omega arith)), ← drop-drop) (take-append-drop (n * 4) (drop at b))

flags_there : (a b c m : ℕ) (t : List ℕ) → a ≤ 1 → b ≤ 1 → c ≤ 1 → m ≤ 1 → flag (eqb a 1) ∷ flag (eqb b 1) ∷ flag (eqb c 1) ∷ mode_number (mode_of m) ∷ t ≡ a ∷ b ∷ c ∷ m ∷ t
unfolding mode_of profile_number
flags_there a b c m t p q r u = rw (go a p, go b q, go c r, mode m u)
  where
    go : (n : ℕ) → n ≤ 1 → flag (eqb n 1) ≡ n
    go zero h = refl
    go (suc zero) h = refl
    go (suc (suc n)) h = absurd (omega arith)

    mode : (n : ℕ) → n ≤ 1 → profile_number (pick (eqb n 1) xmp_mode base_mode).xmp ≡ n
    mode zero h = refl
    mode (suc zero) h = refl
    mode (suc (suc n)) h = absurd (omega arith)

module _ (b : Bytes) (h : Below 256 b) (l : length b ≡ 11_128) where
  numbers_there : flags_ok (rows_at 8 b 0 15) ≡ true → numbers_of (state_of (rows_at 8 b 0 15) b) ≡ rows_at 8 b 0 15
  unfolding flags_ok numbers_of registers_of state_of rows_at unrow
  numbers_there f =
      let f1 = and_right (leb (value_of (take 8 b)) 1) _ f in
      let f2 = and_right (leb (value_of (take 8 (drop 8 b))) 1) _ f1 in
      flags_there _ _ _ _ _ (leb-true _ 1 (and_left _ _ f)) (leb-true _ 1 (and_left _ _ f1)) (leb-true _ 1 (and_left _ _ f2))
      (leb-true _ 1 (and_right (leb (value_of (take 8 (drop 8 (drop 8 b)))) 1) _ f2))

  numbers_read : rows 8 (rows_at 8 b 0 15) ≡ take 120 b
  unfolding rows_at
  numbers_read = rows_read 8 15 b h (omega arith)

  end_there : rows 4 (rows_at 4 b 9_080 512) ≡ drop 9_080 b
  end_there =
      let e : drop 11_128 b ≡ [] = drop_of_length-le b {i = 11_128} (omega arith) in
      sym (append-nil (rows 4 (rows_at 4 b 9_080 512))) ∙ rw (← e) (table_there b 9_080 512 h (omega arith))

  state_there : flags_ok (rows_at 8 b 0 15) ≡ true → encode (state_of (rows_at 8 b 0 15) b) ≡ b
  unfolding encode state_of
  state_there f =
      rw (
        numbers_there f,
        numbers_read,
        end_there,
        table_there b 7_032 512 h (omega arith),
        table_there b 6_264 192 h (omega arith),
        table_there b 4_728 384 h (omega arith),
        table_there b 120 1_152 h (omega arith),
      )
      (take-append-drop 120 b)

-- ---- which bytes stand for a state

module _ (b : Bytes) where
  pub decode_short : (length b ≡ state_bytes → ⊥) → decode b ≡ none
  unfolding decode
  decode_short h = rw (ne_eqb (length b) 11_128 h)

  pub decode_flags : length b ≡ state_bytes → flags_ok (rows_at 8 b 0 15) ≡ false → decode b ≡ none
  unfolding decode
  decode_flags l f = rw (eq-eqb (length b) 11_128 l, f)

  pub decode_good : length b ≡ state_bytes → flags_ok (rows_at 8 b 0 15) ≡ true → decode b ≡ some (state_of (rows_at 8 b 0 15) b)
  unfolding decode
  decode_good l f = rw (eq-eqb (length b) 11_128 l, f)

  pub decode-size : {s : State} → decode b ≡ some s → length b ≡ state_bytes
  unfolding decode
  decode-size {s} = go (eqb (length b) 11_128) refl
    where
      go : (p : Bool) → eqb (length b) 11_128 ≡ p → pick (p && flags_ok (rows_at 8 b 0 15)) (some (state_of (rows_at 8 b 0 15) b)) none ≡ some s → length b ≡ 11_128
      go true p e = eqb-true (length b) 11_128 p
      go false p e = let z : ◌≡◌ {A = ℕ} 0 1 = cc in absurd (omega arith)

pub encode-decode : (b : Bytes) (s : State) → Below 256 b → decode b ≡ some s → encode s ≡ b
encode-decode b s h e = go (flags_ok (rows_at 8 b 0 15)) refl
  where
    l : length b ≡ 11_128
    l = decode-size b e

    go : (f : Bool) → flags_ok (rows_at 8 b 0 15) ≡ f → encode s ≡ b
    go true f = let q : s ≡ state_of (rows_at 8 b 0 15) b = let z = decode_good b l f in cc in rw q (state_there b h l f)
    go false f = let n = decode_flags b l f in let z : ◌≡◌ {A = ℕ} 0 1 = cc in absurd (omega arith)
