-- RFC 3986, appendix B: a reference is its parts in a row, each with its marks, and where they end.
use Rattle.std.specs.Prelude.{◌≡◌, Bool, ◌&&◌, ◌||◌, ℕ, ◌+◌, ◌-◌, ◌<◌, ◌≤◌, ltb, take, drop, get_or}
use Rattle.std.proofs.Math.Path.{refl, sym, ap}
use Rattle.std.proofs.Common.{◌∙◌, take_at, drop_at}
use Rattle.std.proofs.Math.Bool.{true, false, not}
use Rattle.std.proofs.lemmas.Bool.{false≢true}
use Rattle.std.proofs.Math.Option.{Option, none, some}
use mathlib.Core.List.{[], ◌∷◌, ◌++◌, append_assoc, append-nil}
use native.Mathlib.Omega.{arith}
use Rattle.std.proofs.Math.Nat.{zero-add}
use Rattle.std.proofs.Math.Dec.{eqb}
use Rattle.std.proofs.Math.ListN.{length, length-append}
use Rattle.std.proofs.Math.Seq.{drop-length, drop-cons}
use borrow.Author.Tests.{eqb-true, lt-ltb, le-ltb, eq-eqb, ne_eqb}
use Rattle.spec.specs.Bytes.{Bytes, ascii, when◌then◌else◌, begins, after, up_to, from, among, is_empty, is_some}
use Rattle.spec.specs.Rfc3986.{marked, past, scheme_of, after_scheme, parse, with_mark}
use Rattle.spec.proofs.Booleans.{and_left, and_right, and_both}
use Rattle.copy.specs.Copy.{rest_of}
use Rattle.copy.specs.Texts.{begins_true, after_drop, from-drop}
use Rattle.resolve.specs.Texts.{cut, Headed, from_headed, and-false}
use Rattle.resolve.specs.declared.parts.Parts.{Parts}

-- ---- the parts with their marks

-- a scheme and its ":"
unfoldable pub scheme_text : Bytes → Bytes
scheme_text s = with_mark [] (scheme_of s) (ascii ":")

-- a mark and what stands behind it, up to the first byte of a set
unfoldable pub marked_text : Bytes → Bytes → Bytes → Bytes
marked_text mark stop s = with_mark mark (marked mark stop s) []

pub scheme_splits : (s : Bytes) → scheme_text s ++ after_scheme (scheme_of s) s ≡ s
unfolding scheme_text scheme_of after_scheme with_mark when◌then◌else◌
scheme_splits s = go (begins (ascii ":") (from (among (ascii ":/?#")) s) && not (is_empty (up_to (among (ascii ":/?#")) s))) refl
  where
    n : Bytes
    n = up_to (among (ascii ":/?#")) s

    rest : Bytes
    rest = from (among (ascii ":/?#")) s

    behind : after n s ≡ rest
    behind = after_drop n s ∙ sym (from-drop (among (ascii ":/?#")) s)

    go : (t : Bool) → (begins (ascii ":") rest && not (is_empty n)) ≡ t
        → with_mark [] (when t then some n else none) (ascii ":") ++ after_scheme (when t then some n else none) s ≡ s
    go true e =
        rw (append_assoc n (ascii ":") (after (ascii ":") (after n s)), behind, ← (begins_true (ascii ":") rest (and_left (begins (ascii ":") rest) (not (is_empty n)) e))) (cut (among (ascii ":/?#")) s)
    go false e = refl

pub marked_splits : (mark stop s : Bytes) → marked_text mark stop s ++ past mark stop s ≡ s
unfolding marked_text with_mark marked past when◌then◌else◌
marked_splits mark stop s = go (begins mark s) refl
  where
    go : (t : Bool) → begins mark s ≡ t → with_mark mark (when t then some (up_to (among stop) (after mark s)) else none) [] ++ (when t then from (among stop) (after mark s) else s) ≡ s
    go true e = rw (append-nil, append_assoc, cut (among stop) (after mark s)) (sym (begins_true mark s e))
    go false e = refl

up_to_none : (s : Bytes) → up_to (among []) s ≡ s
unfolding up_to among when◌then◌else◌
up_to_none [] = refl
up_to_none (a ∷ s) = ap (a ∷◌) (up_to_none s)

-- a fragment is all that is left
only-fragment : (s : Bytes) → Headed (among (ascii "#")) s → marked_text (ascii "#") [] s ≡ s
unfolding marked_text with_mark marked begins among ascii after when◌then◌else◌
only-fragment [] h = refl
only-fragment (a ∷ s) h = go (eqb 35 a) refl h
  where
    go : (t : Bool) → eqb 35 a ≡ t → (t || false) ≡ true → with_mark (ascii "#") (when t && true then some (up_to (among []) s) else none) [] ≡ a ∷ s
    go true e h = rw (append-nil, up_to_none s) (ap (◌∷ s) (eqb-true 35 a e))
    go false e h = absurd (false≢true h)

fragment-left : (s : Bytes) → Headed (among (ascii "?#")) s → marked_text (ascii "#") [] (past (ascii "?") (ascii "#") s) ≡ past (ascii "?") (ascii "#") s
unfolding past begins among ascii after when◌then◌else◌
fragment-left [] h = only-fragment [] tt
fragment-left (a ∷ s) h = go (eqb 63 a) h
  where
    rest : Bool → Bytes
    rest t = when t && true then from (among (ascii "#")) s else (a ∷ s)

    go : (t : Bool) → (t || (eqb 35 a || false)) ≡ true → marked_text (ascii "#") [] (rest t) ≡ rest t
    go true h = only-fragment (from (among (ascii "#")) s) (from_headed (among (ascii "#")) s)
    go false h = only-fragment (a ∷ s) h

-- ---- the parts of a whole text

unfoldable pub authority_text : Bytes → Bytes
authority_text s = with_mark (ascii "//") (parse s).authority []

unfoldable pub query_text : Bytes → Bytes
query_text s = with_mark (ascii "?") (parse s).query []

unfoldable pub fragment_text : Bytes → Bytes
fragment_text s = with_mark (ascii "#") (parse s).fragment []

-- the ends of the parts
unfoldable pub parts_of : Bytes → Parts
parts_of s =
    let scheme = length (scheme_text s) in
    let authority = scheme + length (authority_text s) in
    let path = authority + length (parse s).path in
    let query = path + length (query_text s) in
    record { scheme = scheme; authority = authority; path = path; query = query }

-- what is left behind each part
unfoldable pub behind_scheme : Bytes → Bytes
behind_scheme s = after_scheme (scheme_of s) s

unfoldable pub behind_authority : Bytes → Bytes
behind_authority s = past (ascii "//") (ascii "/?#") (behind_scheme s)

unfoldable pub behind_path : Bytes → Bytes
behind_path s = from (among (ascii "?#")) (behind_authority s)

-- the parts are the text
module _ (s : Bytes) where
  scheme-rest : scheme_text s ++ behind_scheme s ≡ s
  unfolding behind_scheme
  scheme-rest = scheme_splits s

  authority_rest : authority_text s ++ behind_authority s ≡ behind_scheme s
  unfolding authority_text behind_authority behind_scheme parse marked_text
  authority_rest = marked_splits (ascii "//") (ascii "/?#") (behind_scheme s)

  path_rest : (parse s).path ++ behind_path s ≡ behind_authority s
  unfolding parse behind_path behind_authority behind_scheme
  path_rest = cut (among (ascii "?#")) (behind_authority s)

  query-rest : query_text s ++ fragment_text s ≡ behind_path s
  unfolding query_text fragment_text behind_path behind_authority behind_scheme parse marked_text
  query-rest =
      ap (query_text s ++◌) (fragment-left (behind_path s) (from_headed (among (ascii "?#")) (behind_authority s)))
      ∙ marked_splits (ascii "?") (ascii "#") (behind_path s)

  pub parts_whole : scheme_text s ++ (authority_text s ++ ((parse s).path ++ (query_text s ++ fragment_text s))) ≡ s
  parts_whole = rw (query-rest, path_rest, authority_rest) scheme-rest

-- ---- the ends of the parts

before : (a b s : Bytes) (n : ℕ) → a ++ b ≡ s → n ≡ length a → take n s ≡ a
before a b s n e l = rw (← e) (take_at a b n (sym l))

behind : (a b s : Bytes) (n : ℕ) → a ++ b ≡ s → n ≡ length a → drop n s ≡ b
behind a b s n e l = rw (← e) (drop_at a b n (sym l))

-- what stands before an end, and behind it
module _ (s : Bytes) where
  pub scheme_at : (parts_of s).scheme ≡ length (scheme_text s)
  unfolding parts_of
  scheme_at = refl

  pub authority_at : (parts_of s).authority ≡ length (scheme_text s ++ authority_text s)
  unfolding parts_of
  authority_at = simp length-append

  pub path_at_lem : (parts_of s).path ≡ length (scheme_text s ++ authority_text s ++ (parse s).path)
  unfolding parts_of
  path_at_lem = simp length-append

  pub query_at : (parts_of s).query ≡ length (scheme_text s ++ authority_text s ++ (parse s).path ++ query_text s)
  unfolding parts_of
  query_at = simp length-append

  pub take-scheme : take (parts_of s).scheme s ≡ scheme_text s
  take-scheme = before (scheme_text s) (behind_scheme s) s (parts_of s).scheme (scheme-rest s) scheme_at

  pub drop-scheme : drop (parts_of s).scheme s ≡ behind_scheme s
  drop-scheme = behind (scheme_text s) (behind_scheme s) s (parts_of s).scheme (scheme-rest s) scheme_at

  authority_whole : scheme_text s ++ authority_text s ++ behind_authority s ≡ s
  authority_whole = rw (append_assoc, authority_rest s) (scheme-rest s)

  pub take_authority : take (parts_of s).authority s ≡ scheme_text s ++ authority_text s
  take_authority = before (scheme_text s ++ authority_text s) (behind_authority s) s (parts_of s).authority authority_whole authority_at

  pub drop_authority : drop (parts_of s).authority s ≡ behind_authority s
  drop_authority = behind (scheme_text s ++ authority_text s) (behind_authority s) s (parts_of s).authority authority_whole authority_at

  path_whole : scheme_text s ++ authority_text s ++ (parse s).path ++ behind_path s ≡ s
  path_whole = append_assoc (scheme_text s ++ authority_text s) (parse s).path (behind_path s) ∙ rw (path_rest s) authority_whole

  pub take_path : take (parts_of s).path s ≡ scheme_text s ++ authority_text s ++ (parse s).path
  take_path = before (scheme_text s ++ authority_text s ++ (parse s).path) (behind_path s) s (parts_of s).path path_whole path_at_lem

  pub drop_path : drop (parts_of s).path s ≡ behind_path s
  drop_path = behind (scheme_text s ++ authority_text s ++ (parse s).path) (behind_path s) s (parts_of s).path path_whole path_at_lem

  query-whole : scheme_text s ++ authority_text s ++ (parse s).path ++ query_text s ++ fragment_text s ≡ s
  query-whole = append_assoc (scheme_text s ++ authority_text s ++ (parse s).path) (query_text s) (fragment_text s) ∙ rw (query-rest s) path_whole

  pub take-query : take (parts_of s).query s ≡ scheme_text s ++ authority_text s ++ (parse s).path ++ query_text s
  take-query = before (scheme_text s ++ authority_text s ++ (parse s).path ++ query_text s) (fragment_text s) s (parts_of s).query query-whole query_at

  -- behind the path stand query and fragment
  pub drop_path_texts : drop (parts_of s).path s ≡ query_text s ++ fragment_text s
  drop_path_texts = drop_path ∙ sym (query-rest s)

  path_length : (parts_of s).path - (parts_of s).authority ≡ length (parse s).path
  unfolding parts_of
  path_length = omega arith

  -- the path itself
  pub path_between : take ((parts_of s).path - (parts_of s).authority) (drop (parts_of s).authority s) ≡ (parse s).path
  path_between = rw drop_authority (before (parse s).path (behind_path s) (behind_authority s) ((parts_of s).path - (parts_of s).authority) (path_rest s) path_length)

-- in their order
pub record Ordered (s : Bytes) (p : Parts) : Type 0 where
  pub authority : p.scheme ≤ p.authority
  pub path : p.authority ≤ p.path
  pub query : p.path ≤ p.query
  pub end : p.query ≤ length s

pub ordered : (s : Bytes) → Ordered s (parts_of s)
unfolding parts_of
ordered s =
    let whole : (parts_of s).query + length (fragment_text s) ≡ length s = rw (query_at s, ← (length-append (scheme_text s ++ authority_text s ++ (parse s).path ++ query_text s) (fragment_text s))) (ap length (query-whole s)) in
    record { authority = omega arith; path = omega arith; query = omega arith; end = omega arith }

pub ordered_of : {s : Bytes} {p : Parts} → p ≡ parts_of s → Ordered s p
ordered_of {s} {p} e = rw e (ordered s)

-- ---- which parts there are

-- a text with a mark has bytes
marked-some : (a b : Bytes) (o : Option Bytes) (n : ℕ) → 0 < length a + length b → is_some o ≡ ltb n (n + length (with_mark a o b))
unfolding with_mark is_some
marked-some a b none n h = sym (le-ltb n (n + 0) (omega arith))
marked-some a b (some t) n h = sym (lt-ltb n (n + length (a ++ t ++ b)) (simp length-append (omega arith)))

empty-ends : (p : Bytes) (n : ℕ) → is_empty p ≡ eqb n (n + length p)
unfolding is_empty
empty-ends [] n = sym (eq-eqb n (n + 0) (omega arith))
empty-ends (a ∷ p) n = sym (ne_eqb n (n + length (a ∷ p)) (λ e. omega arith))

module _ (s : Bytes) where
  pub has-scheme : is_some (parse s).scheme ≡ ltb 0 (parts_of s).scheme
  unfolding parts_of scheme_text parse ascii
  has-scheme = rw zero-add at (marked-some [] (ascii ":") (scheme_of s) 0 (omega arith))

  pub has_authority : is_some (parse s).authority ≡ ltb (parts_of s).scheme (parts_of s).authority
  unfolding parts_of authority_text ascii
  has_authority = marked-some (ascii "//") [] (parse s).authority (length (scheme_text s)) (omega arith)

  pub has-query : is_some (parse s).query ≡ ltb (parts_of s).path (parts_of s).query
  unfolding parts_of query_text ascii
  has-query = marked-some (ascii "?") [] (parse s).query (length (scheme_text s) + length (authority_text s) + length (parse s).path) (omega arith)

  pub has_path : is_empty (parse s).path ≡ eqb (parts_of s).authority (parts_of s).path
  unfolding parts_of
  has_path = empty-ends (parse s).path (length (scheme_text s) + length (authority_text s))

-- a part that ends where it begins is empty
nil : (l : Bytes) → length l ≤ 0 → l ≡ []
nil [] h = refl
nil (a ∷ l) h = absurd (omega arith)

module _ (s : Bytes) where
  pub scheme-nil : (parts_of s).scheme ≤ 0 → scheme_text s ≡ []
  unfolding parts_of
  scheme-nil h = nil (scheme_text s) (omega arith)

  pub authority_nil : (parts_of s).authority ≤ (parts_of s).scheme → authority_text s ≡ []
  unfolding parts_of
  authority_nil h = nil (authority_text s) (omega arith)

  pub path_nil : (parts_of s).path ≤ (parts_of s).authority → (parse s).path ≡ []
  unfolding parts_of
  path_nil h = nil (parse s).path (omega arith)

  pub query-nil : (parts_of s).query ≤ (parts_of s).path → query_text s ≡ []
  unfolding parts_of
  query-nil h = nil (query_text s) (omega arith)

  pub scheme-text : with_mark [] (parse s).scheme (ascii ":") ≡ scheme_text s
  unfolding scheme_text parse
  scheme-text = refl

-- a path without an authority before it does not begin "//"
begins_more : (a t u : Bytes) → begins a t ≡ true → begins a (t ++ u) ≡ true
unfolding begins
begins_more [] t u h = refl
begins_more (x ∷ a) [] u h = absurd (false≢true h)
begins_more (x ∷ a) (y ∷ t) u h =
    and_both (eqb x y) (begins a (t ++ u)) (and_left (eqb x y) (begins a t) h) (begins_more a t u (and_right (eqb x y) (begins a t) h))

module _ (s : Bytes) where
  authority_begins : is_some (parse s).authority ≡ begins (ascii "//") (behind_scheme s)
  unfolding parse marked behind_scheme is_some when◌then◌else◌
  authority_begins = go (begins (ascii "//") (behind_scheme s))
    where
      go : (t : Bool) → is_some (when t then some (up_to (among (ascii "/?#")) (after (ascii "//") (behind_scheme s))) else none) ≡ t
      go true = refl
      go false = refl

  none_behind : is_some (parse s).authority ≡ false → behind_authority s ≡ behind_scheme s
  unfolding behind_authority past when◌then◌else◌
  none_behind h = rw (sym authority_begins ∙ h)

  pub no_slashes : is_some (parse s).authority ≡ false → begins (ascii "//") (parse s).path ≡ false
  no_slashes h = go (begins (ascii "//") (parse s).path) refl
    where
      go : (t : Bool) → begins (ascii "//") (parse s).path ≡ t → t ≡ false
      go true e =
          let f : begins (ascii "//") (behind_scheme s) ≡ true = rw (← (none_behind h), ← (path_rest s)) (begins_more (ascii "//") (parse s).path (behind_path s) e) in
          absurd (false≢true (sym h ∙ authority_begins ∙ f))
      go false e = refl

-- ---- the fragment begins at the first "#"

-- no "#" in a text
clean : Bytes → Bool
clean [] = true
clean (b ∷ s) = not (eqb b 35) && clean s

clean_both : (s t : Bytes) → clean s ≡ true → clean t ≡ true → clean (s ++ t) ≡ true
unfolding clean
clean_both [] t h k = k
clean_both (b ∷ s) t h k =
    and_both (not (eqb b 35)) (clean (s ++ t)) (and_left (not (eqb b 35)) (clean s) h) (clean_both s t (and_right (not (eqb b 35)) (clean s) h) k)

-- a part ends before the first byte of a set that has it
clean_up_to : (set s : Bytes) → among set 35 ≡ true → clean (up_to (among set) s) ≡ true
unfolding clean up_to when◌then◌else◌
clean_up_to set [] h = refl
clean_up_to set (b ∷ s) h = go (among set b) refl (eqb b 35) refl (clean_up_to set s h)
  where
    go : (t : Bool) → among set b ≡ t → (u : Bool) → eqb b 35 ≡ u → clean (up_to (among set) s) ≡ true
        → clean (when t then [] else (b ∷ up_to (among set) s)) ≡ true
    go true e u f k = refl
    go false e true f k = absurd (false≢true (sym e ∙ (ap (among set) (eqb-true b 35 f) ∙ h)))
    go false e false f k = rw f k

clean_marked : (mark stop s : Bytes) → clean mark ≡ true → among stop 35 ≡ true → clean (marked_text mark stop s) ≡ true
unfolding clean marked_text marked with_mark when◌then◌else◌
clean_marked mark stop s m h = go (begins mark s)
  where
    go : (t : Bool) → clean (with_mark mark (when t then some (up_to (among stop) (after mark s)) else none) []) ≡ true
    go true = rw append-nil (clean_both mark (up_to (among stop) (after mark s)) m (clean_up_to stop (after mark s) h))
    go false = refl

hash_behind : (s t : Bytes) → clean s ≡ true → up_to (λ c. eqb c 35) (s ++ t) ≡ s ++ up_to (λ c. eqb c 35) t
unfolding clean up_to when◌then◌else◌
hash_behind [] t h = refl
hash_behind (b ∷ s) t h = go (eqb b 35) (and_left (not (eqb b 35)) (clean s) h) (hash_behind s t (and_right (not (eqb b 35)) (clean s) h))
  where
    go : (u : Bool) → not u ≡ true → up_to (λ c. eqb c 35) (s ++ t) ≡ s ++ up_to (λ c. eqb c 35) t
        → (when u then [] else (b ∷ up_to (λ c. eqb c 35) (s ++ t))) ≡ b ∷ (s ++ up_to (λ c. eqb c 35) t)
    go true e k = absurd (false≢true e)
    go false e k = ap (b ∷◌) k

module _ (s : Bytes) where
  clean_scheme : clean (scheme_text s) ≡ true
  unfolding clean scheme_text scheme_of with_mark when◌then◌else◌ among ascii
  clean_scheme = go (begins (ascii ":") (from (among (ascii ":/?#")) s) && not (is_empty (up_to (among (ascii ":/?#")) s)))
    where
      go : (t : Bool) → clean (with_mark [] (when t then some (up_to (among (ascii ":/?#")) s) else none) (ascii ":")) ≡ true
      go true = clean_both (up_to (among (ascii ":/?#")) s) (ascii ":") (clean_up_to (ascii ":/?#") s refl) refl
      go false = refl

  clean_authority : clean (authority_text s) ≡ true
  unfolding clean authority_text parse marked_text behind_scheme among ascii
  clean_authority = clean_marked (ascii "//") (ascii "/?#") (behind_scheme s) refl refl

  clean_path : clean (parse s).path ≡ true
  unfolding parse behind_authority behind_scheme among ascii
  clean_path = clean_up_to (ascii "?#") (behind_authority s) refl

  clean_query : clean (query_text s) ≡ true
  unfolding clean query_text parse marked_text behind_path behind_authority behind_scheme among ascii
  clean_query = clean_marked (ascii "?") (ascii "#") (behind_path s) refl refl

  hash_first : up_to (λ c. eqb c 35) (fragment_text s) ≡ []
  unfolding fragment_text with_mark up_to when◌then◌else◌ ascii
  hash_first = go (parse s).fragment
    where
      go : (o : Option Bytes) → up_to (λ c. eqb c 35) (with_mark (ascii "#") o []) ≡ []
      go none = refl
      go (some t) = refl

  -- so one search tells where it is
  pub fragment_at : (n : ℕ) → n ≡ length (up_to (λ c. eqb c 35) s) → n ≡ (parts_of s).query
  fragment_at n e = e ∙ (ap (λ (t : Bytes). length (up_to (λ c. eqb c 35) t)) (sym (parts_whole s)) ∙ (ap length front ∙ (ends ∙ sym (query_at s))))
    where
      rest : up_to (λ c. eqb c 35) (query_text s ++ fragment_text s) ≡ query_text s
      rest = hash_behind (query_text s) (fragment_text s) clean_query ∙ rw hash_first (append-nil (query_text s))

      ends : length (scheme_text s ++ (authority_text s ++ ((parse s).path ++ query_text s))) ≡ length (scheme_text s ++ authority_text s ++ (parse s).path ++ query_text s)
      ends = simp append_assoc

      front : up_to (λ c. eqb c 35) (scheme_text s ++ (authority_text s ++ ((parse s).path ++ (query_text s ++ fragment_text s))))
          ≡ scheme_text s ++ (authority_text s ++ ((parse s).path ++ query_text s))
      front =
          hash_behind (scheme_text s) _ clean_scheme
          ∙ ap (scheme_text s ++◌) (hash_behind (authority_text s) _ clean_authority
          ∙ ap (authority_text s ++◌) (hash_behind (parse s).path _ clean_path ∙ ap ((parse s).path ++◌) rest))

-- ---- what the functions find

-- a scheme has a name, and ":" behind it
unfoldable pub name_size : Bytes → ℕ
name_size s = length (up_to (among (ascii ":/?#")) s)

empty-size : (p : Bytes) → is_empty p ≡ eqb 0 (length p)
unfolding is_empty
empty-size [] = refl
empty-size (a ∷ p) = sym (ne_eqb 0 (length (a ∷ p)) (λ e. omega arith))

scheme_test : Bytes → Bool
scheme_test s = begins (ascii ":") (drop (name_size s) s) && not (eqb 0 (name_size s))

scheme_tested : (s : Bytes) → length (scheme_text s) ≡ (when scheme_test s then name_size s + 1 else 0)
unfolding scheme_text scheme_of scheme_test name_size with_mark when◌then◌else◌ ascii
scheme_tested s =
    rw (from-drop (among (ascii ":/?#")) s, empty-size (up_to (among (ascii ":/?#")) s)) (go (begins (ascii ":") (drop (name_size s) s) && not (eqb 0 (name_size s))))
  where
    go : (t : Bool) → length (with_mark [] (when t then some (up_to (among (ascii ":/?#")) s) else none) (ascii ":")) ≡ (when t then name_size s + 1 else 0)
    go true = length-append (up_to (among (ascii ":/?#")) s) (ascii ":")
    go false = refl

module _ (s : Bytes) where
  pub scheme_unnamed : 0 ≡ name_size s → 0 ≡ length (scheme_text s)
  unfolding scheme_test when◌then◌else◌
  scheme_unnamed h = sym (scheme_tested s ∙ rw (← h, and-false (begins (ascii ":") (drop 0 s))))

  pub scheme_unended : length s ≡ name_size s → 0 ≡ length (scheme_text s)
  unfolding scheme_test when◌then◌else◌ begins ascii
  scheme_unended h = sym (scheme_tested s ∙ rw (← h, drop-length s))

  pub scheme-other : (n : ℕ) → n ≡ name_size s → n < length s → (get_or s n 0 ≡ 58 → ⊥) → 0 ≡ length (scheme_text s)
  unfolding scheme_test when◌then◌else◌ begins ascii
  scheme-other n e h f = sym (scheme_tested s ∙ rw (← e, drop-cons s n 0 h, ne_eqb 58 (get_or s n 0) (λ q. f (sym q))))

  pub scheme_there : (n : ℕ) → n ≡ name_size s → (n ≡ 0 → ⊥) → n < length s → get_or s n 0 ≡ 58 → n + 1 ≡ length (scheme_text s)
  unfolding scheme_test when◌then◌else◌ begins ascii
  scheme_there n e f h b = sym (scheme_tested s ∙ rw (← e, drop-cons s n 0 h, b, ne_eqb 0 n (λ z. f (sym z))))

-- a part with a mark
module _ (mark stop s : Bytes) where
  pub marked_none : begins mark s ≡ false → 0 ≡ length (marked_text mark stop s)
  unfolding marked_text marked with_mark when◌then◌else◌
  marked_none e = rw e

  pub marked_there : (n : ℕ) → begins mark s ≡ true → n ≡ length (up_to (among stop) (take (length s - length mark) (drop (length mark) s)))
      → length mark + n ≡ length (marked_text mark stop s)
  unfolding marked_text marked with_mark when◌then◌else◌
  marked_there n e f = rw (e, f, after_drop mark s, rest_of s (length mark)) (simp (append-nil, length-append))

  pub marked-within : length (marked_text mark stop s) ≤ length s
  marked-within = omega (arith, ap length (marked_splits mark stop s), length-append (marked_text mark stop s) (past mark stop s))

-- the ends, one after the other, where each part is sought in what the one before left
module _ (s : Bytes) where
  pub scheme-ends : (a : ℕ) → a ≡ length (scheme_text s) → a ≡ (parts_of s).scheme
  scheme-ends a e = e ∙ sym (scheme_at s)

  pub authority_ends : (a n : ℕ) → a ≡ (parts_of s).scheme → n ≡ length (marked_text (ascii "//") (ascii "/?#") (take (length s - a) (drop a s))) → a + n ≡ (parts_of s).authority
  unfolding parts_of authority_text parse marked_text behind_scheme
  authority_ends a n e f = rw (f, rest_of s a, e, drop-scheme s)

  pub path_ends : (a n : ℕ) → a ≡ (parts_of s).authority → n ≡ length (up_to (among (ascii "?#")) (take (length s - a) (drop a s))) → a + n ≡ (parts_of s).path
  unfolding parts_of parse behind_authority behind_scheme
  path_ends a n e f = rw (f, rest_of s a, e, drop_authority s)

  pub query-ends : (a n : ℕ) → a ≡ (parts_of s).path → n ≡ length (marked_text (ascii "?") (ascii "#") (take (length s - a) (drop a s))) → a + n ≡ (parts_of s).query
  unfolding parts_of query_text parse marked_text behind_path behind_authority behind_scheme
  query-ends a n e f = rw (f, rest_of s a, e, drop_path s)

pub parts_are : (p : Parts) (a b c d : ℕ) → a ≡ p.scheme → b ≡ p.authority → c ≡ p.path → d ≡ p.query
    → ◌≡◌ {A = Parts} (record { scheme = a; authority = b; path = c; query = d }) p
parts_are p a b c d e f g h = λ i. record { scheme = e i; authority = f i; path = g i; query = h i }
