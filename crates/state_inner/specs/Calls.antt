-- What the calls answer and change, on every input.
use Rattle.std.specs.Prelude.{Option, Some, None, is_some, unwrap_or, ℕ, zero, suc, ◌+◌, ◌-◌, ◌*◌, ◌<◌, ◌≤◌, ◌≡◌, Bool, ◌&&◌, List, [], ◌∷◌, eqb, ltb, length}
use Rattle.std.proofs.Math.Path.{refl, sym}
use Rattle.std.proofs.Common.{ap, ◌∙◌}
use Rattle.std.proofs.Math.Bool.{true, false}
use Rattle.std.proofs.lemmas.Bool.{false≢true}
use native.Mathlib.Omega.{arith}
use Rattle.std.proofs.Math.Dec.{leb}
use borrow.Author.Tests.{leb-true, leb-false, eq-eqb, ne_eqb, le-leb, lt-leb, lt-ltb, le-ltb}
use Rattle.std.specs.Option.{option_or}
use Rattle.std.specs.Bool.{then_some}
use Rattle.spec.specs.Limits as L
use Rattle.spec.specs.Limits.{most_open_elements, most_bindings, work_store_bytes}
use Rattle.copy.specs.Copy.{stored_at}
use Rattle.state_words.specs.Parts.{NAME, BINDINGS, BASE, TAG, BASED, TAGGED}
use Rattle.state_words.specs.declared.Frame.{Frame}
use Rattle.state_words.specs.declared.Row.{Row}
use Rattle.state_words.specs.Words.{pick, load_frame, load_row, StoredRow}
use Rattle.state.specs.declared.Registers.{Registers}
use Rattle.state.specs.Meaning.{at, has}
use Rattle.state.specs.declared.Span.{Span}
use Rattle.state_stack.specs.Change.{inside_to}

-- ---- elements inside Literal content

unfoldable pub may_open : Registers → List ℕ → ℕ → ℕ → Bool
may_open r is a n =
    ltb (r.counts.depth + r.counts.inner) most_open_elements && (leb a work_store_bytes && (leb n work_store_bytes && (leb r.counts.bindings most_bindings && leb (r.counts.inner * 3 + 3) (length is))))

pub record Opens (r : Registers) (is : List ℕ) (a n b : ℕ) (c : Option Registers) (js : List ℕ) : Type 0 where
  pub answer : is_some c ≡ may_open r is a n
  pub stored : may_open r is a n ≡ true → js ≡ stored_at is (r.counts.inner * 3) (a ∷ n ∷ r.counts.bindings ∷ [])
  pub moved : may_open r is a n ≡ true → unwrap_or c r ≡ inside_to r (r.counts.inner + 1) a b
  pub kept : may_open r is a n ≡ false → (js ≡ is) × (unwrap_or c r ≡ r)
  pub same : length js ≡ length is

-- where inner element i ends
unfoldable pub ceiling_in : List ℕ → ℕ → ℕ
ceiling_in is i = pick (eqb i 0) work_store_bytes (load_row is (i - 1)).at

pub record Closes (r : Registers) (is : List ℕ) (c : Option Registers) : Type 0 where
  pub answer : is_some c ≡ ltb 0 r.counts.inner
  pub moved : 0 < r.counts.inner → unwrap_or c r ≡ inside_to r (r.counts.inner - 1) (ceiling_in is (r.counts.inner - 1)) (load_row is (r.counts.inner - 1)).more
  pub kept : r.counts.inner ≡ 0 → unwrap_or c r ≡ r

-- ---- reads

abbrev pub stretch : ℕ → ℕ → Span
stretch a b = record { at = a; len = b - a }

unfoldable pub name_in : Registers → List ℕ → List ℕ → Option Span
name_in r fs is =
    pick (eqb r.counts.inner 0)
    (pick (eqb r.counts.depth 0) None (Some (stretch (at (load_frame fs (r.counts.depth - 1)) NAME) (at (load_frame fs (r.counts.depth - 1)) BINDINGS))))
    (Some (record { at = (load_row is (r.counts.inner - 1)).at; len = (load_row is (r.counts.inner - 1)).name }))

-- of the innermost of n frames that has it
unfoldable pub innermost_in : List ℕ → ℕ → ℕ → ℕ → Option Span
innermost_in fs mark place zero = None
innermost_in fs mark place (suc n) =
    pick (eqb (has (load_frame fs n) mark) 0) (innermost_in fs mark place n) (Some (stretch (at (load_frame fs n) place) (at (load_frame fs n) (place + 1))))

unfoldable pub base_in : Registers → List ℕ → Option Span
base_in r fs = option_or (innermost_in fs BASED BASE r.counts.depth) (then_some r.flags.based (record { at = 0; len = r.store.base }))

-- the tag of an element: one of no bytes clears
unfoldable pub tag_found : Option Span → Option Span
tag_found None = None
tag_found (Some s) = pick (eqb s.len 0) None (Some s)

unfoldable pub language_in : Registers → List ℕ → Option Span
language_in r fs = tag_found (innermost_in fs TAGGED TAG r.counts.depth)

-- where the numbers are not a valid state's, all of the store
unfoldable pub held_in : Registers → ℕ
held_in r = pick (leb r.store.low work_store_bytes && leb r.store.top r.store.low) (r.store.top - r.store.noted + (work_store_bytes - r.store.low)) work_store_bytes

-- ---- how the calls come to their answers

module _ (g : Option Span) where
  pub tag_unsaid : None ≡ g → None ≡ tag_found g
  unfolding tag_found
  tag_unsaid e = rw (← e)

  pub tag_none : {f : Span} → Some f ≡ g → f.len ≡ 0 → None ≡ tag_found g
  unfolding tag_found
  tag_none {f} e h = rw (← e, eq-eqb f.len 0 h)

  pub tag-some : {f : Span} → Some f ≡ g → (f.len ≡ 0 → ⊥) → Some f ≡ tag_found g
  unfolding tag_found
  tag-some {f} e h = rw (← e, ne_eqb f.len 0 h)

differ : {A : Type 0} {b : Bool} → b ≡ true → b ≡ false → A
differ p q = absurd (false≢true (sym q ∙ p))

module _ {r : Registers} {is : List ℕ} {a n b : ℕ} where
  open_refused : {js : List ℕ} → may_open r is a n ≡ false → js ≡ is → Opens r is a n b None js
  open_refused h e = record { answer = sym h; stored = λ y. differ y h; moved = λ y. differ y h; kept = λ _. (e, refl); same = ap length e }

  pub open_deep : 64 ≤ r.counts.depth + r.counts.inner → Opens r is a n b None is
  unfolding L.all may_open
  open_deep h = open_refused (rw (le-ltb (r.counts.depth + r.counts.inner) 64 h)) refl

  module _ (d : r.counts.depth + r.counts.inner < 64) where
    pub open_far : 65_536 < a → Opens r is a n b None is
    unfolding L.all may_open
    open_far h = open_refused (rw (lt-ltb (r.counts.depth + r.counts.inner) 64 d, lt-leb a 65_536 h)) refl

    module _ (l : a ≤ 65_536) where
      pub open_long : 65_536 < n → Opens r is a n b None is
      unfolding L.all may_open
      open_long h = open_refused (rw (lt-ltb (r.counts.depth + r.counts.inner) 64 d, le-leb a 65_536 l, lt-leb n 65_536 h)) refl

      module _ (m : n ≤ 65_536) where
        pub open_many : 128 < r.counts.bindings → Opens r is a n b None is
        unfolding L.all may_open
        open_many h = open_refused (rw (lt-ltb (r.counts.depth + r.counts.inner) 64 d, le-leb a 65_536 l, le-leb n 65_536 m, lt-leb r.counts.bindings 128 h)) refl

        module _ {js : List ℕ} {q : Bool} (k : r.counts.bindings ≤ 128) (s : StoredRow is r.counts.inner (record { at = a; name = n; more = r.counts.bindings }) js q) where
          pub open_short : q ≡ false → Opens r is a n b None js
          unfolding L.all may_open
          open_short h =
              let x : leb (r.counts.inner * 3 + 3) (length is) ≡ false = sym s.answer ∙ h in
              open_refused (rw (lt-ltb (r.counts.depth + r.counts.inner) 64 d, le-leb a 65_536 l, le-leb n 65_536 m, le-leb r.counts.bindings 128 k, x)) (s.kept (leb-false (r.counts.inner * 3 + 3) (length is) x))

          pub open_done : {r' : Registers} → q ≡ true → r' ≡ inside_to r (r.counts.inner + 1) a b → Opens r is a n b (Some r') js
          unfolding L.all may_open
          open_done h e =
              let x : leb (r.counts.inner * 3 + 3) (length is) ≡ true = sym s.answer ∙ h in
              let y : may_open r is a n ≡ true = rw (lt-ltb (r.counts.depth + r.counts.inner) 64 d, le-leb a 65_536 l, le-leb n 65_536 m, le-leb r.counts.bindings 128 k, x) in
              record { answer = sym y; stored = λ _. s.wrote (leb-true (r.counts.inner * 3 + 3) (length is) x); moved = λ _. e; kept = λ f. differ y f; same = s.same }

pub ceiling_none : (is : List ℕ) (i : ℕ) → i ≡ 0 → 65_536 ≡ ceiling_in is i
unfolding L.all ceiling_in
ceiling_none is i z = rw (eq-eqb i 0 z)

pub ceiling_there : (is : List ℕ) (i : ℕ) {r : Row} → (i ≡ 0 → ⊥) → r ≡ load_row is (i - 1) → r.at ≡ ceiling_in is i
unfolding L.all ceiling_in
ceiling_there is i z e = rw (ne_eqb i 0 z, e)

module _ (r : Registers) (fs is : List ℕ) where
  pub name-inside : {q : Row} {a n : ℕ} → (r.counts.inner ≡ 0 → ⊥) → q ≡ load_row is (r.counts.inner - 1) → a ≡ q.at → n ≡ q.name → Some (record { at = a; len = n }) ≡ name_in r fs is
  unfolding name_in
  name-inside z e p q = rw (ne_eqb r.counts.inner 0 z, p, q, e)

  pub name_none : r.counts.inner ≡ 0 → r.counts.depth ≡ 0 → None ≡ name_in r fs is
  unfolding name_in
  name_none z d = rw (eq-eqb r.counts.inner 0 z, eq-eqb r.counts.depth 0 d)

  pub name_top : {f : Frame} {c : Span} {a b : ℕ} → r.counts.inner ≡ 0 → (r.counts.depth ≡ 0 → ⊥) → f ≡ load_frame fs (r.counts.depth - 1) → a ≡ at f NAME → b ≡ at f BINDINGS
      → c ≡ stretch a b → Some c ≡ name_in r fs is
  unfolding name_in
  name_top {f} {c} {a} {b} z d e p q h = rw h (rw (eq-eqb r.counts.inner 0 z, ne_eqb r.counts.depth 0 d, p, q, e))

-- ---- the loop of `innermost`

pub record Sought (fs : List ℕ) (mark place n i : ℕ) : Type 0 where
  pub upto : i ≤ n
  pub rest : innermost_in fs mark place n ≡ innermost_in fs mark place i

pub sought_begins : {fs : List ℕ} {mark place n : ℕ} → Sought fs mark place n n
sought_begins = record { upto = omega arith; rest = refl }

before : (f : ℕ → Option Span) (i : ℕ) → 0 < i → f i ≡ f (suc (i - 1))
before f i h = let e : i ≡ suc (i - 1) = omega arith in ap f e

module _ {fs : List ℕ} {mark place n i : ℕ} (s : Sought fs mark place n i) where
  pub sought_more : {f : Frame} → 0 < i → f ≡ load_frame fs (i - 1) → has f mark ≡ 0 → Sought fs mark place n (i - 1)
  unfolding innermost_in
  sought_more h e z =
      record { upto = omega (arith, s.upto); rest = s.rest ∙ (before (innermost_in fs mark place) i h ∙ rw (eq-eqb _ 0 (rw e at z))) }

  pub sought_stop : {f : Frame} {c : Span} {a b : ℕ} → 0 < i → f ≡ load_frame fs (i - 1) → (has f mark ≡ 0 → ⊥) → a ≡ at f place → b ≡ at f (place + 1)
      → c ≡ stretch a b → Some c ≡ innermost_in fs mark place n
  unfolding innermost_in
  sought_stop {f} {c} {a} {b} h e z p q d =
      let h' : c ≡ stretch (at f place) (at f (place + 1)) = d ∙ rw (p, q) in
      rw h' (sym (s.rest ∙ (before (innermost_in fs mark place) i h ∙ rw (ne_eqb _ 0 (rw e at z), e))))

  pub sought_done : i ≤ 0 → None ≡ innermost_in fs mark place n
  unfolding innermost_in
  sought_done h = let e : i ≡ 0 = omega arith in sym (s.rest ∙ rw e)

module _ (r : Registers) where
  pub held_wild : 65_536 < r.store.low → 65_536 ≡ held_in r
  unfolding L.all held_in
  held_wild h = rw (lt-leb r.store.low 65_536 h)

  pub held_crossed : r.store.low ≤ 65_536 → r.store.low < r.store.top → 65_536 ≡ held_in r
  unfolding L.all held_in
  held_crossed l h = rw (le-leb r.store.low 65_536 l, lt-leb r.store.top r.store.low h)

  pub held_is : r.store.low ≤ 65_536 → r.store.top ≤ r.store.low → r.store.top - r.store.noted + (65_536 - r.store.low) ≡ held_in r
  unfolding L.all held_in
  held_is l h = rw (le-leb r.store.low 65_536 l, le-leb r.store.top r.store.low h)
