-- IPv6 addresses: eight groups, or groups on both sides of "::" that are at most seven.
use mathlib.Core.Path.{◌≡◌, refl, sym, ap, ◌∙◌}
use mathlib.Core.Logic.{◌⊎◌, inl, inr}
use mathlib.Core.Bool.{Bool, true, false, ◌&&◌, ◌||◌, false≢true, and-false, or-false}
use mathlib.Core.List.{[], ◌∷◌, ◌++◌, append-nil, nil≢cons, cons≢nil, tail-eq_of_cons-eq}
use Prim.Native.Nat.{ℕ, zero, suc, ◌+◌, ◌<◌, ◌≤◌}
use native.Mathlib.Omega.{arith}
use lib.Dec.{eqb, leb}
use lib.ListN.{length}
use borrow.Author.Tests.{eq-eqb, ne_eqb, eqb-true, eqb-false, le-leb, leb-true, not-true}
use Rattle.spec.specs.Bytes.{Bytes, ascii, begins, when◌then◌else◌, up_to, from, every}
use Rattle.spec.specs.Grammar.{Grammar, empty, ◌then◌, null}
use Rattle.spec.specs.Abnf.{optional, word, times, at_most}
use Rattle.spec.specs.Rfc3987.{h16, h16s, ls32, up_to_h16s, IPv4address, IPv6address}
use Rattle.spec.specs.Rfc3987 as R
use Rattle.spec.proofs.Booleans.{and_left, and_right, and_both, or_cases}
use Rattle.iri.specs.Parts.{of}
use Rattle.iri.specs.Addresses.{groups, Counted, up_to_gap, from_gap}
use Rattle.iri.specs.Forms.{is_mark, other}
use Rattle.iri.proofs.Languages.{In, same_test, of_in, in_of, of_same, in_then, then_in, then_map, in_or, left_in_lem, right_in, in_empty, empty_in, in_assoc, assoc_in, in_skip, of_nil, of_or, shuns, in_shuns, is, in_mark, in_marks, marks_in, of_cut, of_mark, of_shuns, from_none, mark-marked}

-- ---- the rows of the grammar

-- h16 ":" in front of another language
unrolled : {g k : Grammar ℕ} {s : Bytes} → In ((((h16 then word ":") then g)) then k) s → In (h16 then (word ":" then (g then k))) s
unrolled i = in_assoc (in_assoc i)

rolled : {g k : Grammar ℕ} {s : Bytes} → In (h16 then (word ":" then (g then k))) s → In (((h16 then word ":") then g) then k) s
rolled i = assoc_in (assoc_in i)

behind : {g k : Grammar ℕ} {s : Bytes} → ((t : Bytes) → In g t → In k t) → In (h16 then (word ":" then g)) s → In (h16 then (word ":" then k)) s
behind f i = then_map (λ t j. then_map f j) i

-- n( h16 ":" ) ls32
ls32-groups : (n : ℕ) (s : Bytes) → In (times n (h16 then word ":") then ls32) s → In (groups true (suc (suc n))) s
unfolding times groups ls32
ls32-groups zero s i = in_skip i
ls32-groups (suc n) s i = behind (ls32-groups n) (unrolled i)

groups-ls32 : (n : ℕ) (s : Bytes) → In (groups true (suc (suc n))) s → In (times n (h16 then word ":") then ls32) s
unfolding times groups ls32
groups-ls32 zero s i = then_in empty_in i
groups-ls32 (suc n) s i = rolled (behind (groups-ls32 n) i)

-- n( h16 ":" ) h16
h16-groups : (n : ℕ) (s : Bytes) → In (times n (h16 then word ":") then h16) s → In (groups false (suc n)) s
unfolding times groups
h16-groups zero s i = in_skip i
h16-groups (suc zero) s i = behind (λ t j. in_skip j) (unrolled i)
h16-groups (suc (suc n)) s i = behind (h16-groups (suc n)) (unrolled i)

groups-h16 : (n : ℕ) (s : Bytes) → In (groups false (suc n)) s → In (times n (h16 then word ":") then h16) s
unfolding times groups
groups-h16 zero s i = then_in empty_in i
groups-h16 (suc zero) s i = rolled (behind (λ t j. then_in empty_in j) i)
groups-h16 (suc (suc n)) s i = rolled (behind (groups-h16 (suc n)) i)

-- at most b of them: j of them, for some j
module _ (g : Grammar ℕ) where
  one_more_lem : {b : ℕ} {u : Bytes} → ((t : Bytes) → In (at_most b g) t → (j : ℕ) × (j ≤ b) × In (times j g) t) → In (g then at_most b g) u → (j : ℕ) × (j ≤ suc b) × In (times j g) u
  unfolding times
  one_more_lem f i = let p = in_then i in let q = f p.1 p.4 in let k = then_in p.3 q.2 in (suc q.0, omega (arith, q.1), rw (← p.2) at k)

  at_most_times : (b : ℕ) (u : Bytes) → In (at_most b g) u → (j : ℕ) × (j ≤ b) × In (times j g) u
  unfolding at_most times
  at_most_times zero u i = (zero, omega arith, i)
  at_most_times (suc b) u i = elim (in_or i) [ inl x ↦ (zero, omega arith, x) | inr y ↦ one_more_lem (at_most_times b) y ]

  times_at_most : (j b : ℕ) (u : Bytes) → j ≤ b → In (times j g) u → In (at_most b g) u
  unfolding at_most times
  times_at_most zero zero u l i = i
  times_at_most zero (suc b) u l i = left_in_lem {h = g then at_most b g} i
  times_at_most (suc j) zero u l i = absurd (omega arith)
  times_at_most (suc j) (suc b) u l i = right_in {g = empty} (then_map (λ t k. times_at_most j b t (omega arith) k) i)

-- [ *b( h16 ":" ) h16 ]: at most b + 1 groups
up_to_groups : (b : ℕ) (u : Bytes) → In (up_to_h16s b) u → (m : ℕ) × (m ≤ suc b) × In (groups false m) u
unfolding up_to_h16s optional groups
up_to_groups b u i = elim (in_or i) [ inl x ↦ (zero, omega arith, x) | inr y ↦ some_of y ]
  where
    some_of : In (at_most b (h16 then word ":") then h16) u → (m : ℕ) × (m ≤ suc b) × In (groups false m) u
    some_of i =
        let p = in_then i in
        let q = at_most_times (h16 then word ":") b p.0 p.3 in
        let k = then_in q.2 p.4 in
        (suc q.0, omega (arith, q.1), h16-groups q.0 u (rw (← p.2) at k))

groups_up_to : (b m : ℕ) (u : Bytes) → m ≤ suc b → In (groups false m) u → In (up_to_h16s b) u
unfolding up_to_h16s optional groups
groups_up_to b zero u l i = left_in_lem {h = at_most b (h16 then word ":") then h16} i
groups_up_to b (suc m) u l i =
    let p = in_then (groups-h16 m u i) in
    let k = then_in (times_at_most (h16 then word ":") m b p.0 (omega arith) p.3) p.4 in
    right_in {g = empty} (rw p.2 k)

-- ---- "::"

-- groups on both sides of "::", and room for one that it stands for
pub record Gapped (s : Bytes) : Type 0 where
  pub before : ℕ
  pub later : ℕ
  pub left : Bytes
  pub right : Bytes
  pub few : before + later ≤ 7
  pub whole : s ≡ left ++ (58 ∷ 58 ∷ right)
  pub in_left : In (groups false before) left
  pub in_right : In (groups true later) right

-- one of the alternatives with "::", of which exactly a groups stand behind it
gap : (b a : ℕ) {g k : Grammar ℕ} {s : Bytes} → b + a ≤ 7 → ((u : Bytes) → In g u → (m : ℕ) × (m ≤ b) × In (groups false m) u) → ((t : Bytes) → In k t → In (groups true a) t)
    → In (g then (word "::" then k)) s → Gapped s
unfolding is_mark R.all
gap b a l f h i =
    let p = in_then i in
    let q = f p.0 p.3 in
    let r = in_marks 58 58 refl refl p.4 in
    record {
      before = q.0;
      later = a;
      left = p.0;
      right = r.0;
      few = omega (arith, q.1);
      whole = p.2 ∙ ap (◌++◌ p.0) r.1;
      in_left = q.2;
      in_right = h r.0 r.2;
    }

none : {u : Bytes} → In empty u → (m : ℕ) × (m ≤ 0) × In (groups false m) u
unfolding groups
none i = (zero, omega arith, i)

then_empty : {g : Grammar ℕ} {s : Bytes} → In g s → In (g then empty) s
then_empty {g} {s} i = rw append-nil at (then_in i empty_in)

without-empty : {g : Grammar ℕ} {s : Bytes} → In (g then empty) s → In g s
without-empty i = let p = in_then i in rw (p.2, in_empty p.4, append-nil) p.3

h16s-groups : (n : ℕ) (t : Bytes) → In (h16s n then ls32) t → In (groups true (suc (suc n))) t
unfolding h16s
h16s-groups n t i = ls32-groups n t i

groups-h16s : (n : ℕ) (t : Bytes) → In (groups true (suc (suc n))) t → In (h16s n then ls32) t
unfolding h16s
groups-h16s n t i = groups-ls32 n t i

pub address_groups : (s : Bytes) → In IPv6address s → In (groups true 8) s ⊎ Gapped s
unfolding IPv6address groups ls32
address_groups s i =
    elim (in_or i) [
      | inl x ↦ inl (h16s-groups 6 s x)
      | inr y₁ ↦ inr (elim (in_or y₁) [
        | inl x ↦ gap 0 7 (omega arith) (λ u j. none j) (h16s-groups 5) (then_in empty_in x)
        | inr y₂ ↦ (elim (in_or y₂) [
          | inl x ↦ gap 1 6 (omega arith) (up_to_groups 0) (h16s-groups 4) x
          | inr y₃ ↦ (elim (in_or y₃) [
            | inl x ↦ gap 2 5 (omega arith) (up_to_groups 1) (h16s-groups 3) x
            | inr y₄ ↦ (elim (in_or y₄) [
              | inl x ↦ gap 3 4 (omega arith) (up_to_groups 2) (h16s-groups 2) x
              | inr y₅ ↦ (elim (in_or y₅) [
                | inl x ↦ gap 4 3 (omega arith) (up_to_groups 3) (h16s-groups 1) x
                | inr y₆ ↦ (elim (in_or y₆) [
                  | inl x ↦ gap 5 2 (omega arith) (up_to_groups 4) (λ t j. j) x
                  | inr y₇ ↦ (elim (in_or y₇) [
                    | inl x ↦ gap 6 1 (omega arith) (up_to_groups 5) (λ t j. j) x
                    | inr x ↦ gap 7 0 (omega arith) (up_to_groups 6) (λ t j. j) (then_map (λ t j. then_empty j) x)
                  ])
                ])
              ])
            ])
          ])
        ])
      ])
    ]

-- and each such text is one: which alternative it is, the groups behind "::" say
gap_in : (b : ℕ) {k : Grammar ℕ} {s : Bytes} (g : Gapped s) → g.before ≤ suc b → ((t : Bytes) → In (groups true g.later) t → In k t) → In (up_to_h16s b then (word "::" then k)) s
unfolding is_mark R.all
gap_in b g l f =
    let j = then_in (groups_up_to b g.before g.left l g.in_left) (marks_in 58 58 refl refl (f g.right g.in_right)) in
    rw (← g.whole) at j

gap_first : {k : Grammar ℕ} {s : Bytes} (g : Gapped s) → g.before ≤ 0 → In k g.right → In (word "::" then k) s
unfolding is_mark R.all groups
gap_first {k} {s} g l i = by g.before refl
  where
    by : (m : ℕ) → g.before ≡ m → In (word "::" then k) s
    by zero e = rw (g.whole, in_empty (rw e at g.in_left)) (marks_in 58 58 refl refl i)
    by (suc m) e = absurd (omega arith)

pub gapped_address : (s : Bytes) → Gapped s → In IPv6address s
unfolding IPv6address groups ls32
gapped_address s g = by g.later refl
  where
    by : (a : ℕ) → g.later ≡ a → In IPv6address s
    by zero e = right_in (right_in (right_in (right_in (right_in (right_in (right_in (right_in (then_map (λ t j. without-empty j) (gap_in 6 g (omega (arith, g.few)) (λ t j. rw e at j))))))))))
    by (suc zero) e = right_in (right_in (right_in (right_in (right_in (right_in (right_in (left_in_lem (gap_in 5 g (omega (arith, g.few)) (λ t j. rw e at j)))))))))
    by (suc (suc zero)) e = right_in (right_in (right_in (right_in (right_in (right_in (left_in_lem (gap_in 4 g (omega (arith, g.few)) (λ t j. rw e at j))))))))
    by (suc (suc (suc zero))) e = right_in (right_in (right_in (right_in (right_in (left_in_lem (gap_in 3 g (omega (arith, g.few)) (λ t j. groups-h16s 1 t (rw e at j))))))))
    by (suc (suc (suc (suc zero)))) e = right_in (right_in (right_in (right_in (left_in_lem (gap_in 2 g (omega (arith, g.few)) (λ t j. groups-h16s 2 t (rw e at j)))))))
    by (suc (suc (suc (suc (suc zero))))) e = right_in (right_in (right_in (left_in_lem (gap_in 1 g (omega (arith, g.few)) (λ t j. groups-h16s 3 t (rw e at j))))))
    by (suc (suc (suc (suc (suc (suc zero)))))) e = right_in (right_in (left_in_lem (gap_in 0 g (omega (arith, g.few)) (λ t j. groups-h16s 4 t (rw e at j)))))
    by (suc (suc (suc (suc (suc (suc (suc zero))))))) e = right_in (left_in_lem (gap_first g (omega (arith, g.few)) (groups-h16s 5 g.right (rw e at g.in_right))))
    by (suc (suc (suc (suc (suc (suc (suc (suc a)))))))) e = absurd (omega (arith, g.few))

-- ---- where "::" stands

starts_other : Bytes → Bool
starts_other [] = false
starts_other (c ∷ s) = other 58 c

starts_append : (u v : Bytes) → starts_other u ≡ true → starts_other (u ++ v) ≡ true
unfolding starts_other
starts_append [] v h = absurd (false≢true h)
starts_append (c ∷ u) v h = h

-- no ":" is the last, or before another
calm : Bytes → Bool
calm [] = true
calm (c ∷ s) = (other 58 c || starts_other s) && calm s

not_colon : (c : ℕ) → other 58 c ≡ true → eqb 58 c ≡ false
not_colon c h = ne_eqb 58 c (λ e. eqb-false c 58 (not-true (eqb c 58) h) (sym e))

calm_begins : (c : ℕ) (u r : Bytes) → (other 58 c || starts_other u) ≡ true → begins (ascii "::") (c ∷ (u ++ r)) ≡ false
unfolding starts_other begins ascii
calm_begins c u r h = elim (or_cases (other 58 c) (starts_other u) h) [ inl x ↦ rw (not_colon c x) | inr y ↦ by u y ]
  where
    by : (u : Bytes) → starts_other u ≡ true → (eqb 58 c && begins (ascii ":") (u ++ r)) ≡ false
    by [] y = absurd (false≢true y)
    by (d ∷ u) y = rw (not_colon d y) (and-false (eqb 58 c))

module _ (w : Bytes) where
  calm_up_to : (u : Bytes) → calm u ≡ true → up_to_gap (u ++ (58 ∷ 58 ∷ w)) ≡ u
  unfolding calm up_to_gap begins ascii when◌then◌else◌
  calm_up_to [] h = refl
  calm_up_to (c ∷ u) h =
      rw (calm_begins c u (58 ∷ 58 ∷ w) (and_left (other 58 c || starts_other u) (calm u) h), calm_up_to u (and_right (other 58 c || starts_other u) (calm u) h))

  calm_from : (u : Bytes) → calm u ≡ true → from_gap (u ++ (58 ∷ 58 ∷ w)) ≡ 58 ∷ 58 ∷ w
  unfolding calm from_gap begins ascii when◌then◌else◌
  calm_from [] h = refl
  calm_from (c ∷ u) h =
      rw (calm_begins c u (58 ∷ 58 ∷ w) (and_left (other 58 c || starts_other u) (calm u) h)) (calm_from u (and_right (other 58 c || starts_other u) (calm u) h))

calm_none : (u : Bytes) → calm u ≡ true → from_gap u ≡ []
unfolding calm from_gap when◌then◌else◌
calm_none [] h = refl
calm_none (c ∷ u) h =
    let b : begins (ascii "::") (c ∷ u) ≡ false = rw append-nil at (calm_begins c u [] (and_left (other 58 c || starts_other u) (calm u) h)) in
    rw b (calm_none u (and_right (other 58 c || starts_other u) (calm u) h))

-- groups are calm, and begin with no ":"
record Quiet (s : Bytes) : Type 0 where
  calmly : calm s ≡ true
  starts : starts_other s ≡ true

quiet_row : (s : Bytes) → every (other 58) s ≡ true → calm s ≡ true
unfolding calm every
quiet_row [] h = refl
quiet_row (c ∷ s) h = rw (and_left (other 58 c) (every (other 58) s) h) (quiet_row s (and_right (other 58 c) (every (other 58) s) h))

quiet_in : (g : Grammar ℕ) (s : Bytes) → shuns 58 g ≡ true → null g ≡ false → In g s → Quiet s
unfolding starts_other every
quiet_in g s q n i = record { calmly = quiet_row s h; starts = by s h i }
  where
    h : every (other 58) s ≡ true
    h = in_shuns 58 (omega arith) q i

    by : (s : Bytes) → every (other 58) s ≡ true → In g s → starts_other s ≡ true
    by [] h i = absurd (false≢true (sym n ∙ sym (of_nil g) ∙ in_of i))
    by (c ∷ s) h i = and_left (other 58 c) (every (other 58) s) h

quiet_then : (u v : Bytes) → every (other 58) u ≡ true → Quiet v → calm (u ++ (58 ∷ v)) ≡ true
unfolding calm every
quiet_then [] v h q = and_both (starts_other v) (calm v) q.starts q.calmly
quiet_then (c ∷ u) v h q = rw (and_left (other 58 c) (every (other 58) u) h) (quiet_then u v (and_right (other 58 c) (every (other 58) u) h) q)

quiet_step : {k : Grammar ℕ} {s : Bytes} → ((t : Bytes) → In k t → Quiet t) → In (h16 then (word ":" then k)) s → Quiet s
unfolding shuns starts_other is_mark R.all
quiet_step f i =
    let p = in_then i in
    let m = in_mark 58 refl p.4 in
    let n = quiet_in h16 p.0 refl refl p.3 in
    let e = p.2 ∙ ap (◌++◌ p.0) m.1 in
    record { calmly = rw e (quiet_then p.0 m.0 (in_shuns 58 (omega arith) refl p.3) (f m.0 m.2)); starts = rw p.2 (starts_append p.0 p.1 n.starts) }

quiet_groups : (v : Bool) (n : ℕ) (s : Bytes) → In (groups v (suc n)) s → Quiet s
unfolding groups shuns R.all
quiet_groups v zero s i = quiet_in h16 s refl refl i
quiet_groups true (suc zero) s i = elim (in_or i) [ inl x ↦ quiet_step (λ t j. quiet_in h16 t refl refl j) x | inr y ↦ quiet_in IPv4address s refl refl y ]
quiet_groups false (suc zero) s i = quiet_step (λ t j. quiet_in h16 t refl refl j) i
quiet_groups v (suc (suc n)) s i = quiet_step (quiet_groups v (suc n)) i

calm_groups : (v : Bool) (n : ℕ) (s : Bytes) → In (groups v n) s → calm s ≡ true
unfolding groups calm
calm_groups v zero s i = rw (in_empty i)
calm_groups v (suc n) s i = (quiet_groups v n s i).calmly

-- ---- the two cases

pub address_whole : (s : Bytes) → from_gap s ≡ [] → of IPv6address s ≡ of (groups true 8) s
unfolding IPv6address
address_whole s e = of_same {g = IPv6address} {h = groups true 8} {s = s} {t = s} (λ i. elim (address_groups s i) [ inl x ↦ x | inr g ↦ absurd (torn g) ]) (λ i. left_in_lem (groups-h16s 6 s i))
  where
    torn : Gapped s → ⊥
    torn g = nil≢cons (sym e ∙ ap from_gap g.whole ∙ calm_from g.right g.left (calm_groups false g.before g.left g.in_left))

pub up_to_from_gap : (s : Bytes) → up_to_gap s ++ from_gap s ≡ s
unfolding up_to_gap from_gap when◌then◌else◌
up_to_from_gap [] = refl
up_to_from_gap (c ∷ s) = by (begins (ascii "::") (c ∷ s)) (up_to_from_gap s)
  where
    by : (t : Bool) → up_to_gap s ++ from_gap s ≡ s → (when t then [] else (c ∷ up_to_gap s)) ++ (when t then (c ∷ s) else from_gap s) ≡ c ∷ s
    by true h = refl
    by false h = ap (◌∷◌ c) h

module _ (s w : Bytes) {x y : ℕ} (e : from_gap s ≡ 58 ∷ 58 ∷ w) (l : Counted false (up_to_gap s) x) (r : Counted true w y) where
  counts : Gapped s → x + y ≤ 7
  counts g =
      let q = calm_groups false g.before g.left g.in_left in
      let a : up_to_gap s ≡ g.left = ap up_to_gap g.whole ∙ calm_up_to g.right g.left q in
      let b : w ≡ g.right = tail-eq_of_cons-eq (tail-eq_of_cons-eq (sym e ∙ ap from_gap g.whole ∙ calm_from g.right g.left q)) in
      let m : g.before ≡ x = eqb-true g.before x (sym (l.each g.before (omega (arith, g.few))) ∙ rw a (in_of g.in_left)) in
      let n : g.later ≡ y = eqb-true g.later y (sym (r.each g.later (omega (arith, g.few))) ∙ rw b (in_of g.in_right)) in
      omega (arith, g.few, m, n)

  gapped : x + y ≤ 7 → Gapped s
  gapped h =
      record {
        before = x;
        later = y;
        left = up_to_gap s;
        right = w;
        few = h;
        whole = sym (up_to_from_gap s) ∙ ap (◌++◌ (up_to_gap s)) e;
        in_left = of_in (groups false x) (up_to_gap s) (l.each x (omega arith) ∙ eq-eqb x x refl);
        in_right = of_in (groups true y) w (r.each y (omega arith) ∙ eq-eqb y y refl);
      }

  pub address_gap : of IPv6address s ≡ leb (x + y) 7
  address_gap =
      same_test (of IPv6address s) (leb (x + y) 7)
      (λ h. le-leb (x + y) 7 (elim (address_groups s (of_in IPv6address s h)) [
        | inl k ↦ absurd (nil≢cons (sym (calm_none s (calm_groups true 8 s k)) ∙ e))
        | inr g ↦ counts g
      ]))
      (λ h. in_of (gapped_address s (gapped (leb-true (x + y) 7 h))))

-- ---- how groups are counted, up to the next ":"

-- a ":" in front of the rest t
module _ (s t : Bytes) (e : from (is 58) s ≡ 58 ∷ t) where
  step : (k : Grammar ℕ) → of (h16 then (word ":" then k)) s ≡ (of h16 (up_to (is 58) s) && of k t)
  unfolding shuns is_mark R.all
  step k = of_cut 58 h16 (word ":" then k) (omega arith) refl (λ u i. mark-marked 58 refl u i) s ∙ rw (e, of_mark 58 refl k t)

  pub colon-one : (v : Bool) → of (groups v 1) s ≡ false
  unfolding shuns groups R.all
  colon-one v = of_shuns 58 h16 s (omega arith) refl e

  pub colon_more : (v : Bool) (n : ℕ) → of (groups v (suc (suc n))) s ≡ (of h16 (up_to (is 58) s) && of (groups v (suc n)) t)
  unfolding shuns groups R.all
  colon_more true zero = of_or (h16 then (word ":" then h16)) IPv4address s ∙ rw (of_shuns 58 IPv4address s (omega arith) refl e, step h16) (or-false _)
  colon_more false zero = step h16
  colon_more v (suc n) = step (groups v (suc (suc n)))

-- no ":" any more
module _ (s : Bytes) (e : from (is 58) s ≡ []) where
  no_step : (k : Grammar ℕ) → of (h16 then (word ":" then k)) s ≡ false
  unfolding shuns is_mark R.all
  no_step k = of_cut 58 h16 (word ":" then k) (omega arith) refl (λ u i. mark-marked 58 refl u i) s ∙ rw (e, of_nil (word ":" then k)) (and-false (of h16 (up_to (is 58) s)))

  pub last-two : (v : Bool) → of (groups v 2) s ≡ (v && of IPv4address s)
  unfolding groups
  last-two true = of_or (h16 then (word ":" then h16)) IPv4address s ∙ rw (no_step h16)
  last-two false = no_step h16

  pub last_more : (v : Bool) (n : ℕ) → of (groups v (suc (suc (suc n)))) s ≡ false
  unfolding groups
  last_more v n = no_step (groups v (suc (suc n)))

-- a group is no IPv4 address: it has no "."
pub group_alone : (s : Bytes) → of h16 s ≡ true → of IPv4address s ≡ false
unfolding shuns is_mark R.all
group_alone s h =
    of_cut 46 R.dec_octet (word "." then (R.dec_octet then (word "." then (R.dec_octet then (word "." then R.dec_octet))))) (omega arith) refl (λ u i. mark-marked 46 refl u i) s
    ∙ rw (from_none 46 s (in_shuns 46 (omega arith) refl (of_in h16 s h))) (and-false (of R.dec_octet (up_to (is 46) s)))

-- ---- no bytes, no groups

pub no_bytes_groups : (v : Bool) (s : Bytes) → length s ≡ 0 → Counted v s 0
unfolding groups starts_other
no_bytes_groups v (c ∷ s) l = absurd (omega arith)
no_bytes_groups v [] l = record { most = omega arith; each = by }
  where
    by : (n : ℕ) → n ≤ 8 → of (groups v n) [] ≡ eqb n 0
    by zero b = of_nil empty
    by (suc n) b =
        same_test (of (groups v (suc n)) []) (eqb (suc n) 0)
        (λ e. absurd (false≢true (quiet_groups v n [] (of_in (groups v (suc n)) [] e)).starts))
        (λ e. absurd (omega (arith, eqb-true (suc n) 0 e)))

pub some_bytes : (v : Bool) (s : Bytes) → 0 < length s → of (groups v 0) s ≡ false
unfolding groups
some_bytes v [] l = absurd (omega arith)
some_bytes v (c ∷ s) l = same_test (of empty (c ∷ s)) false (λ e. absurd (cons≢nil (in_empty (of_in empty (c ∷ s) e)))) (λ e. absurd (false≢true e))
