-- The class of each attribute's name, kept in words so that its prefix is looked up once.
use Rattle.std.specs.Prelude.{◌≡◌, Bool, true, false, ◌&&◌, ◌||◌, not, eqb, leb, length, get_or, set}
use Rattle.std.proofs.Math.Path.{refl}
use Rattle.std.proofs.Common.{sym, ◌∙◌, subst, inl, add-zero, arith, length-set, below_more}
use Rattle.std.proofs.lemmas.Bool.{false≢true}
use Rattle.std.proofs.Math.Option.{Option, none, some}
use mathlib.Core.List.{List, [], ◌∷◌, ◌++◌, map}
use Prim.Native.Nat.{ℕ, zero, suc, ◌+◌, ◌*◌, ◌/◌, ◌<◌, ◌≤◌}
use borrow.Author.Tests.{le-leb, lt-leb, eq-eqb, ne_eqb, eqb-true}
use Rattle.spec.specs.Bytes.{Bytes, when◌then◌else◌, same, is_empty, is_some}
use Rattle.spec.specs.XmlNames.{prefix_of, local_of}
use Rattle.spec.specs.Pyx.{Attribute, attribute}
use Rattle.spec.specs.Namespaces.{Binding, name_of, xml_name, is_declaration, declared, namespace, joined, expand_attribute, is_known, repeats_expanded}
use Rattle.copy.specs.Texts.{same_refl}
use Rattle.copy.specs.Blocks.{same-append}
use Rattle.copy.specs.Copy.{part, Wrote, then as also, wrote_one, wrote_part, wrote_apart, wrote_same, get_d_part}
use Rattle.state_words.specs.Words.{pick}
use Rattle.start_names.specs.declared.Found.{Found}
use Rattle.start_names.specs.declared.Found.TheVariants as found
use Rattle.start_names.specs.declared.Class.{Class}
use Rattle.start_names.specs.declared.Class.TheVariants.{Declaration, Unknown, Unprefixed, Xml, Own, Held}
use Rattle.start_names.specs.declared.ClassWords.{ClassWords}
use Rattle.start_names.specs.Tag.{name_at, value_at, colon_at, attribute_at, attributes_from, attributes_of, front_of, back_of, Splits}
use Rattle.start_names.specs.Declarations.{is_empty_lem, not_empty}
use Rattle.start_names.specs.Found.{found_bytes, scope, same-scope}
use Rattle.start_names.specs.Pairs.{behind, pairs}
use Rattle.start_names.specs.Repeats.{Key, keyed, key_of, same_key, member_key, repeats_keys, repeats_by_keys}

-- the class of a name by where its prefix's namespace was found
abbrev pub found_class : Found → Class
found_class found.Unknown = Unknown
found_class found.Xml = Xml
found_class (found.Own at n) = Own at n
found_class (found.Held at n) = Held at n

-- ---- what a class says of an attribute a, whose prefix is p

-- no declaration, and it has a prefix, whose namespace is o
pub record Prefixed (bs : List Binding) (a : Attribute) (p : Bytes) (o : Option Bytes) : Type 0 where
  pub other : is_declaration a ≡ false
  pub some : is_empty p ≡ false
  pub is : namespace bs p ≡ o

abbrev pub Says : Class → List ℕ → List ℕ → List Binding → Attribute → Bytes → Type 0
Says Declaration e v bs a p = is_declaration a ≡ true
Says Unprefixed e v bs a p = (is_declaration a ≡ false) × (is_empty p ≡ true)
Says Unknown e v bs a p = Prefixed bs a p none
Says Xml e v bs a p = Prefixed bs a p (some xml_name)
Says (Own at n) e v bs a p = Prefixed bs a p (some (part e at n))
Says (Held at n) e v bs a p = Prefixed bs a p (some (part v at n))

-- ---- classes in words: three for each

abbrev pub words_of : Class → ClassWords
words_of Declaration = record { what = 0; at = 0; size = 0 }
words_of Unknown = record { what = 1; at = 0; size = 0 }
words_of Unprefixed = record { what = 2; at = 0; size = 0 }
words_of Xml = record { what = 3; at = 0; size = 0 }
words_of (Own a n) = record { what = 4; at = a; size = n }
words_of (Held a n) = record { what = 5; at = a; size = n }

unfoldable pub class_of : ℕ → ℕ → ℕ → Class
class_of c a n = pick (eqb c 0) Declaration (pick (eqb c 1) Unknown (pick (eqb c 2) Unprefixed (pick (eqb c 3) Xml (pick (eqb c 4) (Own a n) (Held a n)))))

class_back : (c : Class) → class_of (words_of c).what (words_of c).at (words_of c).size ≡ c
unfolding class_of
class_back Declaration = refl
class_back Unknown = refl
class_back Unprefixed = refl
class_back Xml = refl
class_back (Own a n) = refl
class_back (Held a n) = refl

-- class j; `Unknown` where there are too few words
unfoldable pub class_at : List ℕ → ℕ → Class
class_at cs j = pick (leb (j * 3 + 3) (length cs)) (class_of (get_or (part cs (j * 3) 3) 0 0) (get_or (part cs (j * 3) 3) 1 0) (get_or (part cs (j * 3) 3) 2 0)) Unknown

-- ---- the calls

pub class_none : (cs : List ℕ) (j : ℕ) → length cs / 3 ≤ j → Unknown ≡ class_at cs j
unfolding class_at
class_none cs j h = rw (lt-leb (j * 3 + 3) (length cs) (omega arith))

pub class_loaded : (cs : List ℕ) (j : ℕ) → j < length cs / 3 → class_of (get_or cs (j * 3) 0) (get_or cs (j * 3 + 1) 0) (get_or cs (j * 3 + 2) 0) ≡ class_at cs j
unfolding class_at
class_loaded cs j h =
    let z : get_or (part cs (j * 3) 3) 0 0 ≡ get_or cs (j * 3) 0 = get_d_part cs (j * 3) 3 0 (omega arith) ∙ rw add-zero in
    rw (le-leb (j * 3 + 3) (length cs) (omega arith), z, get_d_part cs (j * 3) 3 1 (omega arith), get_d_part cs (j * 3) 3 2 (omega arith))

-- what `store` does where there is room: class j is c, and those before it are what they were
pub record StoredClass (cs : List ℕ) (j : ℕ) (c : Class) (ds : List ℕ) (r : Bool) : Type 0 where
  pub answer : r ≡ leb (j * 3 + 3) (length cs)
  pub same : length ds ≡ length cs
  pub is : j * 3 + 3 ≤ length cs → class_at ds j ≡ c
  pub others : (i : ℕ) → i < j → class_at ds i ≡ class_at cs i

pub class_refused : {cs : List ℕ} {j : ℕ} {c : Class} → length cs / 3 ≤ j → StoredClass cs j c cs false
class_refused {cs} {j} {c} h =
    record {
      answer = sym (lt-leb (j * 3 + 3) (length cs) (omega arith));
      same = refl;
      is = λ l. absurd (omega arith);
      others = λ i l. refl;
    }

three_set : (ws : List ℕ) (k a b c : ℕ) → k + 3 ≤ length ws → Wrote ws (set (set (set ws k a) (k + 1) b) (k + 2) c) k (k + 3) (a ∷ b ∷ c ∷ [])
three_set ws k a b c h =
    let p : Wrote ws (set ws k a) k (k + 1) (a ∷ []) = wrote_one (omega arith) in
    let l : length (set ws k a) ≡ length ws = length-set ws k a in
    let q : Wrote (set ws k a) (set (set ws k a) (k + 1) b) (k + 1) (k + 1 + 1) (b ∷ []) = wrote_one (omega arith) in
    let m : length (set (set ws k a) (k + 1) b) ≡ length ws = simp length-set in
    let two : k + 1 + 1 ≡ k + 2 = omega arith in
    let q' : Wrote (set ws k a) (set (set ws k a) (k + 1) b) (k + 1) (k + 2) (b ∷ []) = rw two at q in
    let t : Wrote (set (set ws k a) (k + 1) b) (set (set (set ws k a) (k + 1) b) (k + 2) c) (k + 2) (k + 2 + 1) (c ∷ []) = wrote_one (omega arith) in
    let three : k + 2 + 1 ≡ k + 3 = omega arith in
    also p (also q' (rw three at t))

module _ {cs ds : List ℕ} (j : ℕ) (c : Class) (h : Wrote cs ds (j * 3) (j * 3 + 3) ((words_of c).what ∷ (words_of c).at ∷ (words_of c).size ∷ [])) where
  stored_is : class_at ds j ≡ c
  unfolding class_at
  stored_is =
      let l = wrote_same h in
      let w : part ds (j * 3) 3 ≡ (words_of c).what ∷ (words_of c).at ∷ (words_of c).size ∷ [] = wrote_part h in
      rw (le-leb (j * 3 + 3) (length ds) (omega (arith, h.room)), w) (class_back c)

  stored_others : (i : ℕ) → i < j → class_at ds i ≡ class_at cs i
  unfolding class_at
  stored_others i l = rw (wrote_same h, wrote_apart h (i * 3) 3 (inl (omega arith)))

pub class_stored : {cs : List ℕ} {j : ℕ} {c : Class} {w : ClassWords} → j < length cs / 3 → w ≡ words_of c
    → StoredClass cs j c (set (set (set cs (j * 3) w.what) (j * 3 + 1) w.at) (j * 3 + 2) w.size) true
class_stored {cs} {j} {c} {w} h e =
    let p = three_set cs (j * 3) w.what w.at w.size (omega arith) in
    let q : Wrote cs (set (set (set cs (j * 3) w.what) (j * 3 + 1) w.at) (j * 3 + 2) w.size) (j * 3) (j * 3 + 3) ((words_of c).what ∷ (words_of c).at ∷ (words_of c).size ∷ []) = rw (← e) p in
    record {
      answer = sym (le-leb (j * 3 + 3) (length cs) (omega arith));
      same = simp length-set;
      is = λ l. stored_is j c q;
      others = stored_others j c q;
    }

-- ---- `class_of`: the tests, and what was found

-- d is the prefix as it was read
pub says-found : (e v : List ℕ) {bs : List Binding} {a : Attribute} {p d : Bytes} {o : Option Bytes} (f : Found) {g : Found}
    → is_declaration a ≡ false → d ≡ p → (length d ≡ 0 → ⊥) → found_bytes e v f ≡ namespace bs d → f ≡ g → found_bytes e v g ≡ o → Prefixed bs a p o
says-found e v f c q s h t k = record { other = c; some = rw (← q) (not_empty _ s); is = rw (← q) (sym h ∙ (rw t k)) }

pub says_class : (e v : List ℕ) (bs : List Binding) (a : Attribute) {p d : Bytes} (f : Found) {m : Class}
    → is_declaration a ≡ false → d ≡ p → (length d ≡ 0 → ⊥) → found_bytes e v f ≡ namespace bs d → m ≡ found_class f → Says m e v bs a p
unfolding found_bytes
says_class e v bs a found.Unknown c q s h t = rw t (says-found e v found.Unknown c q s h refl refl)
says_class e v bs a found.Xml c q s h t = rw t (says-found e v found.Xml c q s h refl refl)
says_class e v bs a (found.Own at n) c q s h t = rw t (says-found e v (found.Own at n) c q s h refl refl)
says_class e v bs a (found.Held at n) c q s h t = rw t (says-found e v (found.Held at n) c q s h refl refl)

pub says-unprefixed : (a : Attribute) {p d : Bytes} → is_declaration a ≡ false → d ≡ p → length d ≡ 0 → (is_declaration a ≡ false) × (is_empty p ≡ true)
says-unprefixed a c q s = (c, rw (← q) (is_empty_lem _ s))

-- ---- all classes: the first m attributes' of k

pub record Classified (e w : List ℕ) (k : ℕ) (v bs : List ℕ) (n : ℕ) (cs : List ℕ) (m : ℕ) : Type 0 where
  pub each : (j : ℕ) → j < m → Says (class_at cs j) e v (scope e w k v bs n) (attribute_at e w j) (front_of (colon_at w j) (name_at e w j))

-- what `classify` does: the words are cs before it and ds behind it
pub record Classifies (e w : List ℕ) (k : ℕ) (v bs : List ℕ) (n : ℕ) (cs ds : List ℕ) (r : Bool) : Type 0 where
  pub answer : r ≡ leb k (length cs / 3)
  pub same : length ds ≡ length cs
  pub are : r ≡ true → Classified e w k v bs n ds k

-- the loop: the first j attributes have their classes
pub record Classifying (e w : List ℕ) (k : ℕ) (v bs : List ℕ) (n : ℕ) (cs ds : List ℕ) (j : ℕ) : Type 0 where
  pub upto : j ≤ k
  pub room : k ≤ length cs / 3
  pub same : length ds ≡ length cs
  pub done : Classified e w k v bs n ds j

module _ {e w : List ℕ} {k : ℕ} {v bs : List ℕ} {n : ℕ} {cs : List ℕ} where
  pub too_few-words : length cs / 3 < k → Classifies e w k v bs n cs cs false
  too_few-words h = record { answer = sym (lt-leb k (length cs / 3) h); same = refl; are = λ y. absurd (false≢true y) }

  pub classifying_begins : k ≤ length cs / 3 → Classifying e w k v bs n cs cs 0
  classifying_begins h = record { upto = omega arith; room = h; same = refl; done = record { each = λ j l. absurd (omega arith) } }

  module _ {ds : List ℕ} {j : ℕ} (h : Classifying e w k v bs n cs ds j) where
    pub classifying_more : {c : Class} {gs : List ℕ} {r : Bool} → j < k
        → Says c e v (scope e w k v bs n) (attribute_at e w j) (front_of (colon_at w j) (name_at e w j)) → StoredClass ds j c gs r → Classifying e w k v bs n cs gs (j + 1)
    classifying_more {c} {gs} l y s =
        let q : class_at gs j ≡ c = s.is (omega (arith, h.room, h.same)) in
        record {
          upto = omega arith;
          room = h.room;
          same = s.same ∙ h.same;
          done = record { each = below_more _ j (λ i b. rw (s.others i b) (h.done.each i b)) (rw q y) };
        }

    -- with the attributes up to the last declaration alone
    pub classifying_own : (m : ℕ) {c : Class} {gs : List ℕ} {r : Bool} → j < k → declared (attributes_of e w m) ≡ declared (attributes_of e w k)
        → Says c e v (scope e w m v bs n) (attribute_at e w j) (front_of (colon_at w j) (name_at e w j)) → StoredClass ds j c gs r → Classifying e w k v bs n cs gs (j + 1)
    classifying_own m {c} l d y s =
        let q : scope e w m v bs n ≡ scope e w k v bs n = same-scope e w m k v bs n d in
        classifying_more l (subst (λ (x : List Binding). Says c e v x (attribute_at e w j) (front_of (colon_at w j) (name_at e w j))) q y) s

    pub classifying_done : k ≤ j → Classifies e w k v bs n cs ds true
    classifying_done l =
        let q : j ≡ k = omega (arith, h.upto) in
        record { answer = sym (le-leb k (length cs / 3) h.room); same = h.same; are = λ y. rw q at h.done }

-- ---- what attributes are compared by, from their classes

-- the namespace of a name of this class, empty where there is none; x is that of `xml`
abbrev pub space_by : List ℕ → List ℕ → Bytes → Class → Bytes
space_by e v x Declaration = []
space_by e v x Unknown = []
space_by e v x Unprefixed = []
space_by e v x Xml = x
space_by e v x (Own at m) = part e at m
space_by e v x (Held at m) = part v at m

-- what stands behind it: n is the name as written, l its local part
abbrev pub tail_by : Bytes → Bytes → Class → Bytes
tail_by n l Declaration = n
tail_by n l Unknown = n
tail_by n l Unprefixed = n
tail_by n l Xml = l
tail_by n l (Own at m) = l
tail_by n l (Held at m) = l

unfoldable pub text_by : List ℕ → List ℕ → Bytes → Bytes → Class → Bytes
text_by e v n l c = space_by e v xml_name c ++ tail_by n l c

abbrev pub kind_of : Class → ℕ
kind_of Declaration = 0
kind_of Unknown = 1
kind_of Unprefixed = 2
kind_of Xml = 2
kind_of (Own at m) = 2
kind_of (Held at m) = 2

unfoldable pub text_at : List ℕ → List ℕ → List ℕ → Class → ℕ → Bytes
text_at e w v c j = text_by e v (name_at e w j) (back_of (colon_at w j) (name_at e w j)) c

unfoldable pub key_at : List ℕ → List ℕ → List ℕ → List ℕ → ℕ → Key
key_at e w v cs j = (kind_of (class_at cs j), text_at e w v (class_at cs j) j)

-- are two attributes compared by the same?
unfoldable pub same_keys : List ℕ → List ℕ → List ℕ → List ℕ → ℕ → ℕ → Bool
same_keys e w v cs j i = same_key (key_at e w v cs j) (key_at e w v cs i)

-- ---- a class gives the key of the definitions

pub says_key : (e v : List ℕ) (bs : List Binding) (a : Attribute) {p l : Bytes} (c : Class)
    → Says c e v bs a p → p ≡ prefix_of (name_of a) → l ≡ local_of (name_of a) → (kind_of c, text_by e v (name_of a) l c) ≡ key_of bs a
unfolding key_of keyed text_by expand_attribute joined when◌then◌else◌
says_key e v bs a Declaration h p l = rw h
says_key e v bs a Unprefixed h p l = rw (h.0, ← p, h.1)
says_key e v bs a Unknown h p l = rw (h.other, ← p, h.some, h.is)
says_key e v bs a Xml h p l = rw (h.other, ← p, h.some, h.is, l)
says_key e v bs a (Own at m) h p l = rw (h.other, ← p, h.some, h.is, l)
says_key e v bs a (Held at m) h p l = rw (h.other, ← p, h.some, h.is, l)

module _ {e w : List ℕ} {k : ℕ} {v bs : List ℕ} {n : ℕ} {cs : List ℕ} (h : Classified e w k v bs n cs k) (s : Splits e w k) where
  pub key_means : (j : ℕ) → j < k → key_at e w v cs j ≡ key_of (scope e w k v bs n) (attribute_at e w j)
  unfolding key_at text_at attribute_at name_of
  key_means j l = says_key e v (scope e w k v bs n) (attribute (name_at e w j) (value_at e w j)) (class_at cs j) (h.each j l) (s.at j l).front (s.at j l).back

  keys_behind : (j i m : ℕ) → j < k → i + m ≤ k
      → behind (same_keys e w v cs) j i m ≡ member_key (key_of (scope e w k v bs n) (attribute_at e w j)) (map (key_of (scope e w k v bs n)) (attributes_from e w i m))
  unfolding behind same_keys member_key attributes_from
  keys_behind j i zero l b = refl
  keys_behind j i (suc m) l b = rw (keys_behind j (suc i) m l (omega arith), key_means j l, key_means i (omega arith))

  keys_pairs : (j m : ℕ) → j + m ≤ k → pairs (same_keys e w v cs) j m ≡ repeats_keys (map (key_of (scope e w k v bs n)) (attributes_from e w j m))
  unfolding pairs repeats_keys attributes_from
  keys_pairs j zero b = refl
  keys_pairs j (suc m) b = rw (keys_behind j (suc j) m (omega arith) (omega arith), keys_pairs (suc j) m (omega arith))

  -- what `repeated_expanded` finds
  pub expanded_means : pairs (same_keys e w v cs) 0 k ≡ repeats_expanded (scope e w k v bs n) (attributes_of e w k)
  expanded_means = keys_pairs 0 k (omega arith) ∙ sym (repeats_by_keys (scope e w k v bs n) (attributes_of e w k))

-- ---- what callers learn of an attribute from its class

-- the expanded name of an attribute that is no declaration
unfoldable pub expanded_by : List ℕ → List ℕ → Bytes → Bytes → Class → Option Bytes
expanded_by e v n l Declaration = none
expanded_by e v n l Unknown = none
expanded_by e v n l Unprefixed = some n
expanded_by e v n l Xml = some (xml_name ++ l)
expanded_by e v n l (Own at m) = some (part e at m ++ l)
expanded_by e v n l (Held at m) = some (part v at m ++ l)

module _ (e v : List ℕ) (bs : List Binding) (a : Attribute) {p : Bytes} where
  pub class_expands : {l : Bytes} (c : Class) → Says c e v bs a p → p ≡ prefix_of (name_of a) → l ≡ local_of (name_of a) → is_declaration a ≡ false
      → expand_attribute bs (name_of a) ≡ expanded_by e v (name_of a) l c
  unfolding expand_attribute expanded_by joined when◌then◌else◌
  class_expands Declaration h q r d = absurd (false≢true (sym d ∙ h))
  class_expands Unprefixed h q r d = rw (← q, h.1)
  class_expands Unknown h q r d = rw (← q, h.some, h.is)
  class_expands Xml h q r d = rw (← q, h.some, h.is, r)
  class_expands (Own at m) h q r d = rw (← q, h.some, h.is, r)
  class_expands (Held at m) h q r d = rw (← q, h.some, h.is, r)

  -- in Literal content: 8 for the class `Unknown` alone
  pub class_known : (c : Class) → Says c e v bs a p → p ≡ prefix_of (name_of a) → (is_declaration a || is_known bs (name_of a)) ≡ not (eqb (kind_of c) 1)
  unfolding is_known is_some
  class_known Declaration h q = rw h
  class_known Unprefixed h q = rw (h.0, ← q, h.1)
  class_known Unknown h q = rw (h.other, ← q, h.some, h.is)
  class_known Xml h q = rw (h.other, ← q, h.some, h.is)
  class_known (Own at m) h q = rw (h.other, ← q, h.some, h.is)
  class_known (Held at m) h q = rw (h.other, ← q, h.some, h.is)

-- ---- what `is_key` compares

abbrev pub tail_at : List ℕ → List ℕ → Class → ℕ → Bytes
tail_at e w c j = tail_by (name_at e w j) (back_of (colon_at w j) (name_at e w j)) c

pub two_parts : (e w v : List ℕ) (c : Class) (j : ℕ) → text_at e w v c j ≡ space_by e v xml_name c ++ tail_at e w c j
unfolding text_at text_by
two_parts e w v c j = refl

-- the words of two classes of a table are the same
both : (a b : Bool) → (a && b) ≡ true → (a ≡ true) × (b ≡ true)
both true b h = (refl, h)
both false b h = absurd (false≢true h)

pub one_class : (cs : List ℕ) (j i : ℕ) → j < length cs / 3 → i < length cs / 3
    → (eqb (get_or cs (j * 3) 0) (get_or cs (i * 3) 0) && (eqb (get_or cs (j * 3 + 1) 0) (get_or cs (i * 3 + 1) 0) && eqb (get_or cs (j * 3 + 2) 0) (get_or cs (i * 3 + 2) 0))) ≡ true
    → class_at cs j ≡ class_at cs i
one_class cs j i l m h =
    let p = both (eqb (get_or cs (j * 3) 0) (get_or cs (i * 3) 0)) (eqb (get_or cs (j * 3 + 1) 0) (get_or cs (i * 3 + 1) 0) && eqb (get_or cs (j * 3 + 2) 0) (get_or cs (i * 3 + 2) 0)) h in
    let q = both (eqb (get_or cs (j * 3 + 1) 0) (get_or cs (i * 3 + 1) 0)) (eqb (get_or cs (j * 3 + 2) 0) (get_or cs (i * 3 + 2) 0)) p.1 in
    let x : get_or cs (j * 3) 0 ≡ get_or cs (i * 3) 0 = eqb-true (get_or cs (j * 3) 0) (get_or cs (i * 3) 0) p.0 in
    let y : get_or cs (j * 3 + 1) 0 ≡ get_or cs (i * 3 + 1) 0 = eqb-true (get_or cs (j * 3 + 1) 0) (get_or cs (i * 3 + 1) 0) q.0 in
    let z : get_or cs (j * 3 + 2) 0 ≡ get_or cs (i * 3 + 2) 0 = eqb-true (get_or cs (j * 3 + 2) 0) (get_or cs (i * 3 + 2) 0) q.1 in
    sym (class_loaded cs j l) ∙ (rw (x, y, z) (class_loaded cs i m))

-- what attribute j is compared by is at hand: its class c, the namespace s and what stands behind it, n
pub record Keyed (e w v cs : List ℕ) (j : ℕ) (c : Class) (s n : Bytes) : Type 0 where
  pub class : c ≡ class_at cs j
  pub space : s ≡ space_by e v xml_name c
  pub name : n ≡ tail_at e w c j

-- ---- the tests of `is_key`, by the class d of attribute i

same_behind : (s x y : Bytes) → same (s ++ x) (s ++ y) ≡ same x y
same_behind s x y = same-append s s x y refl ∙ rw (same_refl s)

module _ {e w v cs : List ℕ} {j : ℕ} {c : Class} {s n : Bytes} (k : Keyed e w v cs j c s n) (i : ℕ) where
  -- the namespace of both stands at one place
  pub key_behind : {t : Bytes} {r : Bool} → class_at cs j ≡ class_at cs i → t ≡ tail_at e w c i → r ≡ same n t → r ≡ same_keys e w v cs j i
  unfolding same_keys same_key key_at
  key_behind h q g =
      rw (← h, ← k.class, eq-eqb (kind_of c) (kind_of c) refl, two_parts e w v c j, two_parts e w v c i, same_behind (space_by e v xml_name c) (tail_at e w c j) (tail_at e w c i), ← k.name, ← q) g

  module _ {d : Class} {m o : ℕ} (q : d ≡ class_at cs i) (x : m ≡ kind_of c) (y : o ≡ kind_of d) where
    by_classes : same_keys e w v cs j i ≡ (eqb (kind_of c) (kind_of d) && same (text_at e w v c j) (text_at e w v d i))
    unfolding same_keys same_key key_at
    by_classes = rw (k.class, q)

    pub key_other : (m ≡ o → ⊥) → false ≡ same_keys e w v cs j i
    key_other h = sym (by_classes ∙ rw (ne_eqb (kind_of c) (kind_of d) (λ z. h (x ∙ (z ∙ sym y)))))

    pub key_texts : {u t : Bytes} {r : Bool} → m ≡ o → u ≡ space_by e v xml_name d → t ≡ tail_at e w d i → r ≡ same (s ++ n) (u ++ t) → r ≡ same_keys e w v cs j i
    key_texts h z f g =
        g ∙ sym (by_classes ∙ rw (eq-eqb (kind_of c) (kind_of d) (sym x ∙ (h ∙ y)), two_parts e w v c j, two_parts e w v d i, k.space, k.name, z, f))
