-- RFC 3986, section 5.2, on texts: a reference that is a text, resolved against a base that is one, is a text.
use Rattle.std.specs.Prelude.{◌≡◌, refl, Bool, true, false, ◌&&◌, not, [], ◌∷◌, ◌++◌, reverse, ℕ, zero, suc, ◌≤◌, eqb, length, drop}
use Rattle.std.proofs.Common.{sym, subst, arith, eqb-true}
use Rattle.std.proofs.lemmas.Bool.{false≢true}
use Rattle.std.proofs.Math.Option.{Option, none, some}
use Rattle.spec.specs.Bytes.{Bytes, ascii, when◌then◌else◌, begins, after, up_to, from, among, every, is_empty, or_else}
use Rattle.spec.specs.Rfc3986.{Reference, marked, past, scheme_of, after_scheme, parse, without_last, first_segment, turn, turns, remove_dot_segments, merge, transform, with_mark, recompose, resolve}
use Rattle.spec.proofs.Booleans.{and_left, and_right}
use Rattle.theorems.specs.Utf8.{is_ascii, Text, join, ascii-text, empty-text, cut_at}
use Rattle.theorems.specs.Cuts.{Text?, up_to_text, from-text, past-text, after_text, after_up_to, cut_behind, last-text, last-past-text}

-- the components are texts
abbrev TextReference : Reference → Type 0
TextReference r = Text? r.scheme × Text? r.authority × Text r.path × Text? r.query × Text? r.fragment

-- ---- appendix B

marked-text : (m l s : Bytes) → every is_ascii m ≡ true → every is_ascii l ≡ true → Text s → Text? (marked m l s)
unfolding marked when◌then◌else◌
marked-text m l s h k t = go (begins m s) refl
  where
    go : (b : Bool) → begins m s ≡ b → Text? (when b then some (up_to (among l) (after m s)) else none)
    go true e = up_to_text l k (after m s) (after_text m s h e t)
    go false e = tt

behind_text : (m l s : Bytes) → every is_ascii m ≡ true → every is_ascii l ≡ true → Text s → Text (past m l s)
unfolding past when◌then◌else◌
behind_text m l s h k t = go (begins m s) refl
  where
    go : (b : Bool) → begins m s ≡ b → Text (when b then from (among l) (after m s) else s)
    go true e = from-text l k (after m s) (after_text m s h e t)
    go false e = t

-- the scheme, and what is behind it
scheme-text : (s : Bytes) → Text s → Text? (scheme_of s) × Text (after_scheme (scheme_of s) s)
unfolding scheme_of after_scheme when◌then◌else◌ ascii every is_ascii
scheme-text s t = go (begins (ascii ":") (from (among (ascii ":/?#")) s) && not (is_empty (up_to (among (ascii ":/?#")) s)))
  where
    go : (b : Bool) → Text? (when b then some (up_to (among (ascii ":/?#")) s) else none) × Text (after_scheme (when b then some (up_to (among (ascii ":/?#")) s) else none) s)
    go true = (
      up_to_text (ascii ":/?#") refl s t,
      subst (λ (x : Bytes). Text (after (ascii ":") x)) (sym (after_up_to (among (ascii ":/?#")) s)) (past-text (ascii ":/?#") refl s t 58),
    )
    go false = (tt, t)

parse-text : (s : Bytes) → Text s → TextReference (parse s)
unfolding parse ascii every is_ascii
parse-text s t =
    let h₁ = scheme-text s t in
    let h₂ = behind_text (ascii "//") (ascii "/?#") (after_scheme (scheme_of s) s) refl refl h₁.1 in
    let h₃ = from-text (ascii "?#") refl _ h₂ in (
      h₁.0,
      marked-text (ascii "//") (ascii "/?#") _ refl refl h₁.1,
      up_to_text (ascii "?#") refl _ h₂,
      marked-text (ascii "?") (ascii "#") _ refl refl h₃,
      marked-text (ascii "#") [] _ refl refl (behind_text (ascii "?") (ascii "#") _ refl refl h₃),
    )

-- ---- section 5.2.4

-- the input buffer and the output buffer
abbrev Buffers : Bytes × Bytes → Type 0
Buffers r = Text r.0 × Text r.1

without_last_lem : (o : Bytes) → Text o → Text (without_last o)
unfolding without_last ascii every is_ascii
without_last_lem o t = last-past-text (ascii "/") refl o t 47

-- behind the first bytes of a beginning
drop-text : (k : ℕ) (m i : Bytes) → k ≤ length m → every is_ascii m ≡ true → begins m i ≡ true → Text i → Text (drop k i)
unfolding every begins
drop-text zero m i le h e t = t
drop-text (suc k) [] i le h e t = absurd (omega arith)
drop-text (suc k) (a ∷ m) [] le h e t = absurd (false≢true e)
drop-text (suc k) (a ∷ m) (b ∷ i) le h e t =
    let p : a ≡ b = eqb-true a b (and_left (eqb a b) (begins m i) e) in
    let q : is_ascii b ≡ true = subst (λ (x : ℕ). is_ascii x ≡ true) p (and_left (is_ascii a) (every is_ascii m) h) in
    drop-text k m i (omega arith) (and_right (is_ascii a) (every is_ascii m) h) (and_right (eqb a b) (begins m i) e) (cut_at [] b i q t).1

either : (b : Bool) (x y : Bytes × Bytes) → (b ≡ true → Buffers x) → (b ≡ false → Buffers y) → Buffers (when b then x else y)
unfolding when◌then◌else◌
either true x y f g = f refl
either false x y f g = g refl

turn-text : (c : ℕ) (i o : Bytes) → Text (c ∷ i) → Text o → Buffers (turn (c ∷ i) o)
unfolding turn first_segment ascii every is_ascii
turn-text c i o t u =
    either _ _ _ (λ e. (drop-text 3 (ascii "../") (c ∷ i) (omega arith) refl e t, u)) λ e₁.
    either _ _ _ (λ e. (drop-text 2 (ascii "./") (c ∷ i) (omega arith) refl e t, u)) λ e₂.
    either _ _ _ (λ e. (drop-text 2 (ascii "/./") (c ∷ i) (omega arith) refl e t, u)) λ e₃.
    either _ _ _ (λ e. (ascii-text (ascii "/") refl, u)) λ e₄.
    either _ _ _ (λ e. (drop-text 3 (ascii "/../") (c ∷ i) (omega arith) refl e t, without_last_lem o u)) λ e₅.
    either _ _ _ (λ e. (ascii-text (ascii "/") refl, without_last_lem o u)) λ e₆.
    either _ _ _ (λ e. (empty-text, u)) λ e₇.
    (let r = cut_behind (ascii "/") (c ∷ []) i refl t in (r.1, join u r.0))

turns-text : (n : ℕ) (i o : Bytes) → Text i → Text o → Text (turns n i o)
unfolding turns
turns-text zero i o t u = u
turns-text (suc n) [] o t u = u
turns-text (suc n) (c ∷ i) o t u = let r = turn-text c i o t u in turns-text n _ _ r.0 r.1

dots_text : (p : Bytes) → Text p → Text (remove_dot_segments p)
unfolding remove_dot_segments
dots_text p t = turns-text (length p) p [] t empty-text

-- ---- sections 5.2.2, 5.2.3, 5.3

merge-text : (base : Reference) (p : Bytes) → Text base.path → Text p → Text (merge base p)
unfolding merge when◌then◌else◌ ascii every is_ascii
merge-text base p t u = go base.authority
  where
    upToLast : Bytes
    upToLast = reverse (from (among (ascii "/")) (reverse base.path))

    rest : Text (upToLast ++ p)
    rest = join (last-text (ascii "/") refl base.path t) u

    choose : (b : Bool) → Text (when b then ascii "/" ++ p else upToLast ++ p)
    choose true = join (ascii-text (ascii "/") refl) u
    choose false = rest

    go : (a : Option Bytes) → Text (elim a [ none ↦ upToLast ++ p | some a ↦ (when is_empty base.path then ascii "/" ++ p else upToLast ++ p) ])
    go none = rest
    go (some a) = choose (is_empty base.path)

pub or_else_lem : (a b : Option Bytes) → Text? a → Text? b → Text? (or_else a b)
unfolding or_else
or_else_lem none b h k = k
or_else_lem (some a) b h k = h

choose : (b : Bool) (x y : Reference) → TextReference x → TextReference y → TextReference (when b then x else y)
unfolding when◌then◌else◌
choose true x y h k = h
choose false x y h k = k

transform-text : (base r : Reference) → TextReference base → TextReference r → TextReference (transform base r)
unfolding transform
transform-text base r (bs, ba, bp, bq, bf) (s, a, p, q, f) =
    choose _ _ _ (s, a, dots_text _ p, q, f)
    (choose _ _ _ (bs, a, dots_text _ p, q, f)
    (choose _ _ _ (bs, ba, bp, or_else_lem _ _ q bq, f)
    (choose _ _ _ (bs, ba, dots_text _ p, q, f) (bs, ba, dots_text _ (merge-text base r.path bp p), q, f))))

with_mark_lem : (m : Bytes) (o : Option Bytes) (e : Bytes) → every is_ascii m ≡ true → every is_ascii e ≡ true → Text? o → Text (with_mark m o e)
unfolding with_mark
with_mark_lem m none e h k t = empty-text
with_mark_lem m (some s) e h k t = join (join (ascii-text m h) t) (ascii-text e k)

recompose-text : (r : Reference) → TextReference r → Text (recompose r)
unfolding recompose ascii every is_ascii
recompose-text r (s, a, p, q, f) =
    join (with_mark_lem [] r.scheme (ascii ":") refl refl s) (join (with_mark_lem (ascii "//") r.authority [] refl refl a) (join p
    (join (with_mark_lem (ascii "?") r.query [] refl refl q) (with_mark_lem (ascii "#") r.fragment [] refl refl f))))

-- a reference on a base
pub resolve-text : (base r : Bytes) → Text base → Text r → Text (resolve base r)
unfolding resolve
resolve-text base r t u = recompose-text _ (transform-text (parse base) (parse r) (parse-text base t) (parse-text r u))
