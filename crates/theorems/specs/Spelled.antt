-- Bytes that are, in UTF-8, characters that a grammar describes; and so of what is written byte by byte.
use Rattle.std.specs.Prelude.{◌≡◌, Bool, true, false, ◌&&◌, not, ℕ, ◌≤◌, ◌<◌, eqb}
use Rattle.std.proofs.Math.Path.{refl}
use Rattle.std.proofs.Common.{sym, ◌∙◌, ap, inl, inr, true≢false, leb-true, eq-eqb, ne_eqb}
use Rattle.std.proofs.Math.Option.{some}
use mathlib.Core.List.{List, [], ◌∷◌, ◌++◌}
use Rattle.std.proofs.Math.Dec.{leb}
use Rattle.std.proofs.lemmas.Bool.{lt-leb, not-true}
use Rattle.spec.specs.Bytes.{Bytes, every}
use Rattle.spec.specs.Grammar.{Grammar, nothing, empty, one, ◌or◌, ◌then◌, many, Describes, Many, stop, more, accepts}
use Rattle.spec.specs.Utf8.{characters, holds_of, as_characters}
use Rattle.spec.specs.NTriples.{coded}
use Rattle.spec.specs.NTriplesGrammar as G
use Rattle.spec.proofs.Booleans.{and_left, and_right, and_both, no_true}
use Rattle.theorems.specs.Grammar.{accepts_sound, accepts_complete}
use Rattle.theorems.specs.Labels.{every_append, every_map}
use Rattle.theorems.specs.Utf8.{is_ascii, Text, Decoded, decoded, characters-append, ascii-characters, Row, end, small, large, row}

pub record In (g : Grammar ℕ) (s : Bytes) : Type 0 where
  pub chars : List ℕ
  pub are : characters s ≡ some chars
  pub described : Describes g chars

-- exactly what the test accepts
pub accepted : {g : Grammar ℕ} {s : Bytes} → In g s → as_characters (accepts g) s ≡ true
unfolding as_characters holds_of
accepted {g} {s} h = rw h.are (accepts_complete g h.chars h.described)

pub in_grammar : (g : Grammar ℕ) (s : Bytes) → as_characters (accepts g) s ≡ true → In g s
in_grammar g s h =
    let r : Decoded (accepts g) s = decoded (accepts g) s h in
    record { chars = r.chars; are = r.are; described = accepts_sound g r.chars r.pass }

text_of_lem : {g : Grammar ℕ} {s : Bytes} → In g s → Text s
text_of_lem h = record { chars = h.chars; are = h.are }

-- bytes below 128 are their own characters
pub in_ascii : {g : Grammar ℕ} (s : Bytes) → every is_ascii s ≡ true → Describes g s → In g s
in_ascii s h d = record { chars = s; are = ascii-characters s h; described = d }

-- ---- the grammar's pieces

pub in_left : {g h : Grammar ℕ} {s : Bytes} → In g s → In (g or h) s
in_left x = record { chars = x.chars; are = x.are; described = inl x.described }

pub in_right : {g h : Grammar ℕ} {s : Bytes} → In h s → In (g or h) s
in_right x = record { chars = x.chars; are = x.are; described = inr x.described }

infixr 5 ◌before◌
pub ◌before◌ : {g h : Grammar ℕ} {u v : Bytes} → In g u → In h v → In (g then h) (u ++ v)
◌before◌ {u = u} {v = v} x y = record {
  chars = x.chars ++ y.chars;
  are = characters-append u v x.chars y.chars x.are y.are;
  described = (x.chars, y.chars, refl, x.described, y.described);
}

pub in_none : {g : Grammar ℕ} → In (many g) []
unfolding every
in_none = in_ascii [] refl (stop refl)

pub in_more : {g : Grammar ℕ} {u v : Bytes} → In g u → In (many g) v → In (many g) (u ++ v)
in_more {u = u} {v = v} x y = record {
  chars = x.chars ++ y.chars;
  are = characters-append u v x.chars y.chars x.are y.are;
  described = more x.chars y.chars refl x.described y.described;
}

pub in_one : (p : ℕ → Bool) (b : ℕ) → is_ascii b ≡ true → p b ≡ true → In (one p) (b ∷ [])
unfolding every
in_one p b h k = in_ascii (b ∷ []) (and_both (is_ascii b) true h refl) (b, refl, k)

-- a text of the grammar
pub in_text : (s : Bytes) → every is_ascii s ≡ true → In (G.characters s) s
unfolding every G.characters
in_text [] h = in_ascii [] refl refl
in_text (b ∷ s) h = in_one _ b (and_left (is_ascii b) (every is_ascii s) h) (eq-eqb b b refl) before in_text s (and_right (is_ascii b) (every is_ascii s) h)

-- ---- a text written byte by byte: bytes below 128 as the grammar says, the others as they are

module _ (w : ℕ → Bytes) (g : Grammar ℕ) (low : (b : ℕ) → is_ascii b ≡ true → In g (w b))
    (high : (b : ℕ) → 128 ≤ b → w b ≡ b ∷ []) (any : (c : ℕ) → 128 ≤ c → Describes g (c ∷ [])) where
  coded_high : (l s : Bytes) → every (λ b. leb 128 b) l ≡ true → coded w (l ++ s) ≡ l ++ coded w s
  unfolding coded every
  coded_high [] s h = refl
  coded_high (b ∷ l) s h =
      rw (high b (leb-true 128 b (and_left (leb 128 b) (every (λ b. leb 128 b) l) h)), coded_high l s (and_right (leb 128 b) (every (λ b. leb 128 b) l) h)) refl

  coded-row : {s : Bytes} {cs : List ℕ} → Row s cs → In (many g) (coded w s)
  unfolding coded
  coded-row end = in_none
  coded-row (small b h r) = in_more (low b h) (coded-row r)
  coded-row (large {s = s} l c e h le r) = rw (coded_high l s h) (in_more (record { chars = c ∷ []; are = e; described = any c le }) (coded-row r))

  pub in_coded : (s : Bytes) → Text s → In (many g) (coded w s)
  in_coded s t = coded-row (row s t.chars t.are)

-- ---- the same of texts alone

any-characters : (s : List ℕ) → Describes (many (one (λ c. true))) s
any-characters [] = stop refl
any-characters (c ∷ s) = more (c ∷ []) s refl (c, refl, refl) (any-characters s)

pub coded-text : (w : ℕ → Bytes) → ((b : ℕ) → is_ascii b ≡ true → every is_ascii (w b) ≡ true) → ((b : ℕ) → 128 ≤ b → w b ≡ b ∷ []) → (s : Bytes) → Text s → Text (coded w s)
coded-text w low high s t =
    text_of_lem (in_coded w (many (one (λ c. true))) (λ b h. in_ascii (w b) (low b h) (any-characters (w b))) high (λ c le. any-characters (c ∷ [])) s t)

-- ---- a byte that no class of a grammar takes

-- a byte other than b
abbrev other : ℕ → ℕ → Bool
other b c = not (eqb c b)

-- a test that fails at b, and passes at c, tells that c is another
tells_other : (b : ℕ) (p : ℕ → Bool) → p b ≡ false → (c : ℕ) → p c ≡ true → other b c ≡ true
tells_other b p h c k = rw (ne_eqb c b λ e. true≢false (sym k ∙ (ap p e ∙ h)))

-- does no class of a grammar take a byte?
unfoldable pub avoids : ℕ → Grammar ℕ → Bool
avoids b nothing = true
avoids b empty = true
avoids b (one q) = not (q b)
avoids b (g or h) = avoids b g && avoids b h
avoids b (g then h) = avoids b g && avoids b h
avoids b (many g) = avoids b g

without : (b : ℕ) (g : Grammar ℕ) (s : List ℕ) → avoids b g ≡ true → Describes g s → every (other b) s ≡ true
unfolding every avoids
without b nothing s w d = absurd d
without b empty s w d = rw d
without b (one q) s w d = rw d.1 (and_both (other b d.0) true (tells_other b q (not-true (q b) w) d.0 d.2) refl)
without b (g or h) s w (inl d) = without b g s (and_left (avoids b g) (avoids b h) w) d
without b (g or h) s w (inr d) = without b h s (and_right (avoids b g) (avoids b h) w) d
without b (g then h) s w d =
    rw d.2 (every_append (other b) d.0 d.1 (without b g d.0 (and_left (avoids b g) (avoids b h) w) d.3) (without b h d.1 (and_right (avoids b g) (avoids b h) w) d.4))
without b (many g) s w d = go s d (λ u x. without b g u w x)
  where
    go : (s : List ℕ) → Many (Describes g) s → ((u : List ℕ) → Describes g u → every (other b) u ≡ true) → every (other b) s ≡ true
    go s (stop e) f = rw e
    go s (more u v e x y) f = rw e (every_append (other b) u v (f u x) (go v y f))

-- a byte below 128 is a character by itself: where no character of a text is it, no byte is
row_other : (b : ℕ) → b < 128 → {s : Bytes} {cs : List ℕ} → Row s cs → every (other b) cs ≡ true → every (other b) s ≡ true
unfolding every
row_other b lt end h = refl
row_other b lt (small {s = s} {cs = cs} c a r) h = and_both (other b c) (every (other b) s) (and_left (other b c) (every (other b) cs) h) (row_other b lt r (and_right (other b c) (every (other b) cs) h))
row_other b lt (large {s = s} {cs = cs} l c e a le r) h =
    every_append (other b) l s (every_map (λ x. leb 128 x) (other b) (tells_other b (λ x. leb 128 x) (lt-leb 128 b lt)) l a) (row_other b lt r (and_right (other b c) (every (other b) cs) h))

never_at : (b : ℕ) (u v : Bytes) → every (other b) (u ++ (b ∷ v)) ≡ false
unfolding every
never_at b [] v = rw (eq-eqb b b refl)
never_at b (c ∷ u) v = rw (never_at b u v) (go (other b c))
  where
    go : (x : Bool) → (x && false) ≡ false
    go true = refl
    go false = refl

-- no text of a grammar has a byte that its classes leave out
pub left_out : (g : Grammar ℕ) (b : ℕ) → b < 128 → avoids b g ≡ true → (u v : Bytes) → as_characters (accepts g) (u ++ (b ∷ v)) ≡ false
left_out g b lt a u v = no_true _ λ h.
    let x : In g (u ++ (b ∷ v)) = in_grammar g (u ++ (b ∷ v)) h in
    true≢false (sym (row_other b lt (row _ x.chars x.are) (without b g x.chars a x.described)) ∙ never_at b u v)
