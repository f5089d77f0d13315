-- Texts of subtags with hyphens between them: a grammar of such texts describes what the same grammar over the subtags' kinds describes.
use mathlib.Core.Path.{◌≡◌, refl, ap, ◌∙◌}
use mathlib.Core.Logic.{inl, inr}
use mathlib.Core.Bool.{Bool, true, false, not}
use mathlib.Core.List.{List, [], ◌∷◌, ◌++◌, map, append_assoc, append-nil, head-eq_of_cons-eq, tail-eq_of_cons-eq, cons≢nil, nil≢cons}
use Prim.Native.Nat.{ℕ}
use native.Mathlib.Omega.{arith}
use lib.Dec.{eqb}
use Rattle.spec.specs.Bytes.{Bytes, byte, ascii, every, when◌then◌else◌, between}
use Rattle.spec.specs.Grammar.{Grammar, empty, one, ◌or◌, ◌then◌, many, Many, stop, more, Describes}
use Rattle.spec.specs.Abnf.{word, lower}
use Rattle.langtag.proofs.Letters.{letters_sound, letters_complete, lower-plain}

-- texts, each after a hyphen
unfoldable pub hyphened : List Bytes → Bytes
hyphened [] = []
hyphened (t ∷ ts) = 45 ∷ (t ++ hyphened ts)

-- texts without a hyphen
unfoldable pub plain : Bytes → Bool
plain t = every (λ c. not (eqb c 45)) t

abbrev pub Plain : List Bytes → Type 0
Plain [] = Unit {0}
Plain (t ∷ ts) = (plain t ≡ true) × Plain ts

-- a text that lacks the hyphen before its first subtag, and one that does not
abbrev pub front : Bool → Bytes → Bytes
front true s = 45 ∷ s
front false s = s

both_plain : (us vs : List Bytes) → Plain us → Plain vs → Plain (us ++ vs)
both_plain [] vs p q = q
both_plain (t ∷ us) vs p q = (p.0, both_plain us vs p.1 q)

hyphened-append : (us vs : List Bytes) → hyphened (us ++ vs) ≡ hyphened us ++ hyphened vs
unfolding hyphened
hyphened-append [] vs = refl
hyphened-append (t ∷ us) vs = rw (hyphened-append us vs, append_assoc)

front_append : (b : Bool) (u v : Bytes) → front b (u ++ v) ≡ front b u ++ v
front_append true u v = refl
front_append false u v = refl

hyphen_only : (u : Bytes) → Describes (word "-") u → u ≡ 45 ∷ []
unfolding word ascii
hyphen_only [] d = absurd (nil≢cons (letters_sound (45 ∷ []) [] d))
hyphen_only (c ∷ []) d = ap (◌∷ []) (lower-plain c 45 (head-eq_of_cons-eq (letters_sound (45 ∷ []) (c ∷ []) d)) (omega arith))
hyphen_only (c ∷ e ∷ u) d = absurd (cons≢nil (tail-eq_of_cons-eq (letters_sound (45 ∷ []) (c ∷ e ∷ u) d)))

the_hyphen : Describes (word "-") (45 ∷ [])
unfolding word ascii lower when◌then◌else◌ between byte
the_hyphen = letters_complete (45 ∷ []) (45 ∷ []) refl

module _ {K : Type 0} (kind : Bytes → K) where
  map-append : (us vs : List Bytes) → map kind (us ++ vs) ≡ map kind us ++ map kind vs
  map-append [] vs = refl
  map-append (t ∷ us) vs = rw (map-append us vs)

  -- what is mapped to two parts is two parts
  parts : (ts : List Bytes) (u v : List K) → map kind ts ≡ u ++ v
      → (us : List Bytes) × (vs : List Bytes) × (ts ≡ us ++ vs) × (map kind us ≡ u) × (map kind vs ≡ v)
  parts ts [] v e = ([], ts, refl, refl, e)
  parts [] (k ∷ u) v e = absurd (nil≢cons e)
  parts (t ∷ ts) (k ∷ u) v e =
      let r = parts ts u v (tail-eq_of_cons-eq e) in
      (t ∷ r.0, r.1, ap (t ∷◌) r.2, cc (head-eq_of_cons-eq e, r.3), r.4)

  -- a grammar of one subtag, and its test on kinds
  pub record Piece (g : Grammar ℕ) (p : K → Bool) : Type 0 where
    pub sound : (t : Bytes) → Describes g t → (p (kind t) ≡ true) × (plain t ≡ true)
    pub complete : (t : Bytes) → p (kind t) ≡ true → Describes g t

  -- A grammar of texts, and the same of kinds. `true` where the first subtag has no hyphen before it.
  pub data Over : Bool → Grammar ℕ → Grammar K → Type 0 where
    piece : {g : Grammar ℕ} {p : K → Bool} → Piece g p → Over true g (one p)
    hyphen : {g : Grammar ℕ} {G : Grammar K} → Over true g G → Over false (word "-" then g) G
    none : Over false empty empty
    either : {b : Bool} {g h : Grammar ℕ} {G H : Grammar K} → Over b g G → Over b h H → Over b (g or h) (G or H)
    row : {b : Bool} {g h : Grammar ℕ} {G H : Grammar K} → Over b g G → Over false h H → Over b (g then h) (G then H)
    rows : {g : Grammar ℕ} {G : Grammar K} → Over false g G → Over false (many g) (many G)

  -- what was read of a text: its subtags, and that their kinds are as the grammar says
  pub record Read (b : Bool) (s : Bytes) (P : List K → Type 0) : Type 0 where
    pub tags : List Bytes
    pub spelled : front b s ≡ hyphened tags
    pub fine : Plain tags
    pub kinds : P (map kind tags)

  -- a text of given subtags
  pub record Text (b : Bool) (ts : List Bytes) (Q : Bytes → Type 0) : Type 0 where
    pub text : Bytes
    pub spelled : front b text ≡ hyphened ts
    pub told : Q text

  reads-row : {b : Bool} {s u v : Bytes} {P Q : List K → Type 0} → s ≡ u ++ v → Read b u P → Read false v Q
      → Read b s (λ ks. (x : List K) × (y : List K) × (ks ≡ x ++ y) × P x × Q y)
  reads-row {b} {s} {u} {v} {P} {Q} e p q =
      record {
        tags = p.tags ++ q.tags;
        spelled = ap (front b) e ∙ front_append b u v ∙ cc (p.spelled, q.spelled, hyphened-append p.tags q.tags);
        fine = both_plain p.tags q.tags p.fine q.fine;
        kinds = (map kind p.tags, map kind q.tags, map-append p.tags q.tags, p.kinds, q.kinds);
      }

  reads-rows : {P : Bytes → Type 0} {Q : List K → Type 0} → ((t : Bytes) → P t → Read false t Q) → (s : Bytes) → Many P s → Read false s (Many Q)
  unfolding hyphened
  reads-rows f s (stop e) = record { tags = []; spelled = e; fine = tt; kinds = stop refl }
  reads-rows f s (more u v e d m) =
      let r = reads-row e (f u d) (reads-rows f v m) in
      record { tags = r.tags; spelled = r.spelled; fine = r.fine; kinds = more r.kinds.0 r.kinds.1 r.kinds.2 r.kinds.3 r.kinds.4 }

  pub sound : {b : Bool} {g : Grammar ℕ} {G : Grammar K} → Over b g G → (s : Bytes) → Describes g s → Read b s (Describes G)
  unfolding hyphened
  sound (piece q) s d =
      record { tags = s ∷ []; spelled = rw append-nil; fine = ((q.sound s d).1, tt); kinds = (kind s, refl, (q.sound s d).0) }
  sound (hyphen o) s d =
      let r = sound o d.1 d.4 in
      record { tags = r.tags; spelled = d.2 ∙ ap (◌++ d.1) (hyphen_only d.0 d.3) ∙ r.spelled; fine = r.fine; kinds = r.kinds }
  sound none s d = record { tags = []; spelled = d; fine = tt; kinds = refl }
  sound (either o q) s (inl d) =
      let r = sound o s d in
      record { tags = r.tags; spelled = r.spelled; fine = r.fine; kinds = inl r.kinds }
  sound (either o q) s (inr d) =
      let r = sound q s d in
      record { tags = r.tags; spelled = r.spelled; fine = r.fine; kinds = inr r.kinds }
  sound (row o q) s d = reads-row d.2 (sound o d.0 d.3) (sound q d.1 d.4)
  sound (rows o) s d = reads-rows (λ t e. sound o t e) s d

  writes_row : {b : Bool} {ts us vs : List Bytes} {P Q : Bytes → Type 0} → ts ≡ us ++ vs → Text b us P → Text false vs Q
      → Text b ts (λ s. (x : Bytes) × (y : Bytes) × (s ≡ x ++ y) × P x × Q y)
  writes_row {b} {ts} {us} {vs} {P} {Q} e p q =
      record {
        text = p.text ++ q.text;
        spelled = front_append b p.text q.text ∙ cc (p.spelled, q.spelled, hyphened-append us vs);
        told = (p.text, q.text, refl, p.told, q.told);
      }

  writes_rows : {P : Bytes → Type 0} {Q : List K → Type 0} → ((ts : List Bytes) → Q (map kind ts) → Text false ts P)
      → (ks : List K) → Many Q ks → (ts : List Bytes) → map kind ts ≡ ks → Text false ts (Many P)
  unfolding hyphened
  writes_rows f ks (stop z) [] e = record { text = []; spelled = refl; told = stop refl }
  writes_rows f ks (stop z) (t ∷ ts) e = absurd (cons≢nil (e ∙ z))
  writes_rows f ks (more u v z d m) ts e =
      let c = parts ts u v (e ∙ z) in
      let r = writes_row c.2 (f c.0 (rw c.3 d)) (writes_rows f v m c.1 c.4) in
      record { text = r.text; spelled = r.spelled; told = more r.told.0 r.told.1 r.told.2 r.told.3 r.told.4 }

  pub complete : {b : Bool} {g : Grammar ℕ} {G : Grammar K} → Over b g G → (ts : List Bytes) → Describes G (map kind ts) → Text b ts (Describes g)
  unfolding hyphened
  complete (piece q) [] d = absurd (nil≢cons d.1)
  complete (piece {p = p} q) (t ∷ []) d =
      record { text = t; spelled = rw append-nil; told = q.complete t (ap p (head-eq_of_cons-eq d.1) ∙ d.2) }
  complete (piece q) (t ∷ u ∷ ts) d = absurd (cons≢nil (tail-eq_of_cons-eq d.1))
  complete (hyphen o) ts d =
      let r = complete o ts d in
      record { text = 45 ∷ r.text; spelled = r.spelled; told = (45 ∷ [], r.text, refl, the_hyphen, r.told) }
  complete none [] d = record { text = []; spelled = refl; told = refl }
  complete none (t ∷ ts) d = absurd (cons≢nil d)
  complete (either o q) ts (inl d) = let r = complete o ts d in record { text = r.text; spelled = r.spelled; told = inl r.told }
  complete (either o q) ts (inr d) = let r = complete q ts d in record { text = r.text; spelled = r.spelled; told = inr r.told }
  complete (row o q) ts d =
      let c = parts ts d.0 d.1 d.2 in
      writes_row c.2 (complete o c.0 (rw c.3 d.3)) (complete q c.1 (rw c.4 d.4))
  complete (rows o) ts d = writes_rows (λ us e. complete o us e) (map kind ts) d ts refl
