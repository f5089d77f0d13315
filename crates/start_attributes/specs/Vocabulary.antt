-- The words of the rdf namespace that RDF/XML gives a meaning, each a term; what any of them decides is told by the term.
use Rattle.std.specs.Prelude.{◌≡◌, Bool, ◌&&◌, ℕ, ◌+◌, ◌-◌, ◌≤◌, eqb, take, drop}
use Rattle.std.proofs.Math.Path.{refl}
use Rattle.std.proofs.Common.{sym, ◌∙◌, arith, length-append, length-drop, ne_eqb}
use Rattle.std.proofs.Math.Bool.{true, false}
use Rattle.std.proofs.lemmas.Bool.{false≢true, eqb-false}
use mathlib.Core.List.{List, [], ◌∷◌, ◌++◌, map}
use Prim.Native.String.{String}
use Rattle.std.proofs.Math.ListN.{length}
use Rattle.spec.specs.Bytes.{Bytes, ascii, when◌then◌else◌, same, begins, member}
use Rattle.spec.specs.Rdf.{rdf}
use Rattle.spec.proofs.Booleans.{no_true, and_left, and_right}
use Rattle.copy.specs.Texts.{same_true, same-lengths, begins-length}
use Rattle.start_names.specs.Joined.{joined-split, same_sym}
use Rattle.start_attributes.specs.declared.vocabulary.RdfTerm.{RdfTerm}
use Rattle.start_attributes.specs.declared.vocabulary.RdfTerm.TheVariants.{Rdf, Description, Id, About, ParseType, Resource, NodeId, Datatype, Li, «Type», AboutEach, AboutEachPrefix, BagId, Other}

unfoldable pub vocabulary : List (String × RdfTerm)
vocabulary =
    ("RDF", Rdf) ∷ ("Description", Description) ∷ ("ID", Id) ∷ ("about", About) ∷ ("parseType", ParseType) ∷ ("resource", Resource) ∷ ("nodeID", NodeId) ∷
    ("datatype", Datatype) ∷ ("li", Li) ∷ ("type", «Type») ∷ ("aboutEach", AboutEach) ∷ ("aboutEachPrefix", AboutEachPrefix) ∷ ("bagID", BagId) ∷ []

-- t where the name l is w
unfoldable pub if_named : Bytes → Bytes → RdfTerm → RdfTerm → RdfTerm
if_named l w t e = when same l w then t else e

-- the term of a name, each word written so
unfoldable pub term_among : (String → Bytes) → List (String × RdfTerm) → Bytes → RdfTerm
term_among k [] i = Other
term_among k (r ∷ rs) i = if_named i (k r.0) r.1 (term_among k rs i)

-- of an expanded name, and of the local part of one of the namespace
unfoldable pub term_of : Bytes → RdfTerm
term_of i = term_among rdf vocabulary i

unfoldable pub local_term : Bytes → RdfTerm
local_term l = term_among ascii vocabulary l

-- ---- the search: what f says of a name is told by its term, where that is so of each word, and of a name that is none

unfoldable pub words : {A : Type 0} → List (String × A) → List Bytes
words [] = []
words (r ∷ rs) = rdf r.0 ∷ words rs

unfoldable pub terms : List (String × RdfTerm) → List RdfTerm
terms [] = []
terms (r ∷ rs) = r.1 ∷ terms rs

module _ {A : Type 0} (f : Bytes → A) (g : RdfTerm → A) (i : Bytes) where
  by_words : (rs : List (String × RdfTerm)) → map f (words rs) ≡ map g (terms rs) → (member i (words rs) ≡ false → f i ≡ g Other) → f i ≡ g (term_among rdf rs i)
  unfolding term_among if_named words terms member when◌then◌else◌
  by_words [] e n = n refl
  by_words (r ∷ rs) e n = go (same i (rdf r.0)) refl (cc e) λ m. by_words rs (cc e) m
    where
      go : (t : Bool) → same i (rdf r.0) ≡ t → f (rdf r.0) ≡ g r.1 → ((member i (words rs) ≡ false → f i ≡ g Other) → f i ≡ g (term_among rdf rs i))
          → f i ≡ g (term_among rdf (r ∷ rs) i)
      go true q e more = rw q (rw (same_true i (rdf r.0) q) e)
      go false q e more = rw q (more λ m. n (rw (q, m)))

  pub by_term : map f (words vocabulary) ≡ map g (terms vocabulary) → (member i (words vocabulary) ≡ false → f i ≡ g Other) → f i ≡ g (term_of i)
  unfolding term_of
  by_term e n = by_words vocabulary e n

-- such a name is none of some words
unfoldable pub all_in : List Bytes → List Bytes → Bool
all_in [] ws = true
all_in (t ∷ l) ws = member t ws && all_in l ws

module _ (i : Bytes) (ws : List Bytes) (h : member i ws ≡ false) where
  pub not_word : (t : Bytes) → member t ws ≡ true → same i t ≡ false
  not_word t m = no_true (same i t) λ (q : same i t ≡ true). let e : i ≡ t = same_true i t q in false≢true (sym h ∙ rw e m)

  pub not_words : (l : List Bytes) → all_in l ws ≡ true → member i l ≡ false
  unfolding all_in member
  not_words [] a = refl
  not_words (t ∷ l) a = rw (not_word t (and_left (member t ws) (all_in l ws) a), not_words l (and_right (member t ws) (all_in l ws) a))

-- ---- names of the namespace, from what follows it

-- the namespace alone
unfoldable pub rdf_space : Bytes
rdf_space = rdf ""

-- every name of it is the namespace and a local part
in_space : (n : String) → rdf n ≡ rdf_space ++ ascii n
unfolding rdf rdf_space ascii
in_space n = refl

-- i is a name of the namespace where x is its local part, and else it is none
module _ (i : Bytes) where
  outside : (rs : List (String × RdfTerm)) → ((n : String) → same i (rdf_space ++ ascii n) ≡ false) → Other ≡ term_among rdf rs i
  unfolding term_among if_named when◌then◌else◌
  outside [] h = refl
  outside (r ∷ rs) h = rw (in_space r.0, h r.0) (outside rs h)

  inside : (x : Bytes) (rs : List (String × RdfTerm)) → ((n : String) → same i (rdf_space ++ ascii n) ≡ same x (ascii n)) → term_among ascii rs x ≡ term_among rdf rs i
  unfolding term_among if_named
  inside x [] h = refl
  inside x (r ∷ rs) h = rw (in_space r.0, h r.0, inside x rs h)

-- ---- the tests of `term_among` and `term_across`: the expanded name s ++ l, and the namespace p

-- a text against one in two parts
against : (t s l : Bytes) → same t (s ++ l) ≡ (begins s t && same (drop (length s) t) l)
unfolding same
against t s l = joined-split t l [] s (omega arith)

module _ (s l p : Bytes) (e : p ≡ rdf_space) where
  -- where s has the whole namespace
  module _ (h : length p ≤ length s) where
    whole : (n : String) → same (s ++ l) (rdf_space ++ ascii n) ≡ (same p (take (length p - 0) s) && same (drop (length p) s ++ l) (ascii n))
    whole n =
        let z : length p - 0 ≡ length p = omega arith in
        rw (← e, z, same_sym (s ++ l) (p ++ ascii n), same_sym (drop (length p) s ++ l) (ascii n), against (ascii n) (drop (length p) s) l)
        (joined-split (ascii n) l p s h)

    pub whole-outside : same p (take (length p - 0) s) ≡ false → Other ≡ term_of (s ++ l)
    unfolding term_of
    whole-outside b = outside (s ++ l) vocabulary (λ n. whole n ∙ rw b)

    pub whole-inside : same p (take (length p - 0) s) ≡ true → local_term (drop (length p) s ++ l) ≡ term_of (s ++ l)
    unfolding term_of local_term
    whole-inside b = inside (s ++ l) (drop (length p) s ++ l) vocabulary (λ n. whole n ∙ rw b)

  -- where it goes on in l
  module _ (h : length s ≤ length p) where
    split : (n : String) → same (s ++ l) (rdf_space ++ ascii n)
        ≡ (same s (take (length s - 0) p) && (begins (drop (length s) p) l && same (drop (length p - length s) l) (ascii n)))
    split n =
        let z : length s - 0 ≡ length s = omega arith in
        rw (← e, z, ← length-drop (length s) p) (joined-split l (ascii n) s p h)

    pub cut-outside : begins (drop (length s) p) l ≡ false → Other ≡ term_of (s ++ l)
    unfolding term_of
    cut-outside b = outside (s ++ l) vocabulary (λ n. split n ∙ rw b (never (same s (take (length s - 0) p))))
      where
        never : (x : Bool) → (x && false) ≡ false
        never true = refl
        never false = refl

    pub cut-other : same s (take (length s - 0) p) ≡ false → Other ≡ term_of (s ++ l)
    unfolding term_of
    cut-other b = outside (s ++ l) vocabulary (λ n. split n ∙ rw b)

    pub cut_inside : begins (drop (length s) p) l ≡ true → same s (take (length s - 0) p) ≡ true → local_term (drop (length p - length s) l) ≡ term_of (s ++ l)
    unfolding term_of local_term
    cut_inside b c = inside (s ++ l) (drop (length p - length s) l) vocabulary (λ n. split n ∙ rw (b, c))

-- what is left of the namespace is no longer than l
pub cut-room : (s l p : Bytes) → begins (drop (length s) p) l ≡ true → length p - length s ≤ length l
cut-room s l p b = omega (arith, begins-length (drop (length s) p) l b, length-drop (length s) p)

-- ---- the test of `is_joined`

pub front_empty : (a b n : Bytes) → length a ≡ 0 → same b n ≡ same (a ++ b) n
front_empty [] b n h = refl
front_empty (x ∷ a) b n h = absurd (omega arith)

-- ---- the arms of `local_term`: by their length n, few words are left

unfoldable pub of_length : ℕ → List (String × RdfTerm) → List (String × RdfTerm)
of_length n [] = []
of_length n (r ∷ rs) = when eqb n (length (ascii r.0)) then r ∷ of_length n rs else of_length n rs

of_length_lem : (n : ℕ) (l : Bytes) → length l ≡ n → (rs : List (String × RdfTerm)) → term_among ascii (of_length n rs) l ≡ term_among ascii rs l
unfolding term_among if_named of_length when◌then◌else◌
of_length_lem n l h [] = refl
of_length_lem n l h (r ∷ rs) = go (eqb n (length (ascii r.0))) refl (of_length_lem n l h rs)
  where
    go : (t : Bool) → eqb n (length (ascii r.0)) ≡ t → term_among ascii (of_length n rs) l ≡ term_among ascii rs l → term_among ascii (of_length n (r ∷ rs)) l ≡ term_among ascii (r ∷ rs) l
    go true q more = rw (q, more)
    go false q more = rw (q, more, same-lengths l (ascii r.0) (λ e. eqb-false n (length (ascii r.0)) q (sym h ∙ e)))

of_no_length : (n : ℕ) (l : Bytes) → (n ≡ 2 → ⊥) → (n ≡ 3 → ⊥) → (n ≡ 4 → ⊥) → (n ≡ 5 → ⊥) → (n ≡ 6 → ⊥) → (n ≡ 8 → ⊥) → (n ≡ 9 → ⊥) → (n ≡ 11 → ⊥) → (n ≡ 15 → ⊥)
    → Other ≡ term_among ascii (of_length n vocabulary) l
unfolding term_among of_length vocabulary when◌then◌else◌ ascii
of_no_length n l a b c d e f g h i =
    rw (ne_eqb n 2 a, ne_eqb n 3 b, ne_eqb n 4 c, ne_eqb n 5 d, ne_eqb n 6 e, ne_eqb n 8 f, ne_eqb n 9 g, ne_eqb n 11 h, ne_eqb n 15 i)

module _ (n : ℕ) (a b : Bytes) (h : length a + length b ≡ n) where
  pub by_length : term_among ascii (of_length n vocabulary) (a ++ b) ≡ local_term (a ++ b)
  unfolding local_term
  by_length = of_length_lem n (a ++ b) (length-append a b ∙ h) vocabulary

  pub no_length : (n ≡ 2 → ⊥) → (n ≡ 3 → ⊥) → (n ≡ 4 → ⊥) → (n ≡ 5 → ⊥) → (n ≡ 6 → ⊥) → (n ≡ 8 → ⊥) → (n ≡ 9 → ⊥) → (n ≡ 11 → ⊥) → (n ≡ 15 → ⊥) → Other ≡ local_term (a ++ b)
  no_length c d e f g h i j k = of_no_length n (a ++ b) c d e f g h i j k ∙ by_length
