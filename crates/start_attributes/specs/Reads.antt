-- The attributes of a start tag, read in written order: the loop of `read_attributes`.
use Rattle.std.specs.Prelude.{◌≡◌, List, map, length, get_or, set}
use Rattle.std.proofs.Math.Path.{refl}
use Rattle.std.proofs.Common.{sym, ap, ◌∙◌, add-zero, zero-add, length-set, get_or-set_same, get_or-set_other, below_more}
use Prim.Native.Nat.{ℕ, zero, suc, ◌+◌, ◌<◌, ◌≤◌}
use native.Mathlib.Omega.{arith}
use Rattle.spec.specs.Bytes.{◌>>=◌, ◌>>◌, each}
use Rattle.spec.specs.Numbers.{refuse, good}
use Rattle.spec.specs.declared.Refusal.{Refusal}
use Rattle.spec.specs.StartTag.{Role, role_number, Meaning, meaning}
use Rattle.start_names.specs.declared.Class.{Class}
use Rattle.start_names.specs.Tag.{name_at, value_at, attributes_from, attributes_of, Splits}
use Rattle.start_names.specs.Found.{scope}
use Rattle.start_names.specs.Classes.{class_at, Classified}
use Rattle.start_attributes.specs.Judgment.{said}
use Rattle.start_attributes.specs.Places.{places}
use Rattle.start_attributes.specs.Attributes.{role_at, check_by, check_at, meant_at, meaning_at, meaning_at_lem}
use Rattle.std.specs.Prelude.{Result, Ok, Err}

-- what the first k attributes mean, where nothing is wrong with them
unfoldable pub meanings_of : List ℕ → List ℕ → List ℕ → List ℕ → ℕ → List Meaning
meanings_of e w v cs k = map (meant_at e w v cs) (places 0 k)

-- rs has the roles of the first k attributes as numbers, and nothing is wrong with these attributes
pub record Roles (e w v cs rs : List ℕ) (k : ℕ) : Type 0 where
  pub room : k ≤ length rs
  pub number : (j : ℕ) → j < k → get_or rs j 0 ≡ role_number (role_at e w v (class_at cs j) j)
  pub fine : (j : ℕ) → j < k → check_at e w v (class_at cs j) j ≡ good tt

-- what `read_attribute` does: attribute j has its role in rs behind it, and r is what is wrong with it
pub record ReadsOne (e w v cs : List ℕ) (j : ℕ) (rs₀ rs : List ℕ) (r : Result Unit Refusal) : Type 0 where
  pub role : rs ≡ set rs₀ j (role_number (role_at e w v (class_at cs j) j))
  pub is : said r tt ≡ check_at e w v (class_at cs j) j

-- what `read_attributes` does: r is what is wrong with the first of them that something is wrong with
pub record Reads (e w v cs : List ℕ) (k : ℕ) (rs₀ rs : List ℕ) (r : Result Unit Refusal) : Type 0 where
  pub same : length rs ≡ length rs₀
  pub is : said r (meanings_of e w v cs k) ≡ each (meaning_at e w v cs) (places 0 k)
  pub roles : r ≡ Ok tt → Roles e w v cs rs k

-- c is the class that was loaded, q the role and b its number
pub read_one : {e w v cs rs : List ℕ} {j b : ℕ} {c : Class} {q : Role} {r : Result Unit Refusal} → c ≡ class_at cs j → q ≡ role_at e w v c j → b ≡ role_number q
    → said r tt ≡ check_by c (name_at e w j) q (value_at e w j) → ReadsOne e w v cs j rs (set rs j b) r
unfolding check_at
read_one p q n h = record { role = rw (n, q, p); is = h ∙ rw (q, p) }

-- ---- the answers of each, up to the first refusal

module _ (e w v cs : List ℕ) where
  all_fine : (j m : ℕ) → ((i : ℕ) → j ≤ i → i < j + m → check_at e w v (class_at cs i) i ≡ good tt)
      → good (map (meant_at e w v cs) (places j m)) ≡ each (meaning_at e w v cs) (places j m)
  unfolding places each meaning_at ◌>>=◌ ◌>>◌
  all_fine j zero h = refl
  all_fine j (suc m) h = rw (h j (omega arith) (omega arith), ← all_fine (suc j) m (λ i a b. h i (omega arith) (omega arith)))

  one_wrong : (d j m : ℕ) (r : Refusal) → d < m → ((i : ℕ) → j ≤ i → i < j + d → check_at e w v (class_at cs i) i ≡ good tt)
      → check_at e w v (class_at cs (j + d)) (j + d) ≡ refuse r → refuse r ≡ each (meaning_at e w v cs) (places j m)
  unfolding places each meaning_at ◌>>=◌ ◌>>◌
  one_wrong d j zero r l h b = absurd (omega arith)
  one_wrong zero j (suc m) r l h b = rw (rw (add-zero j) at b)
  one_wrong (suc d) j (suc m) r l h b =
      let s : suc j + d ≡ j + suc d = omega arith in
      rw (h j (omega arith) (omega arith), ← one_wrong d (suc j) m r (omega arith) (λ i x y. h i (omega arith) (omega arith)) (rw s b))

-- ---- the loop: the first j attributes are read

pub record Reading (e w v cs : List ℕ) (k : ℕ) (rs₀ rs : List ℕ) (j : ℕ) : Type 0 where
  pub upto : j ≤ k
  pub room : k ≤ length rs₀
  pub same : length rs ≡ length rs₀
  pub done : Roles e w v cs rs j

module _ {e w v cs : List ℕ} {k : ℕ} {rs₀ : List ℕ} where
  pub reading_begins : k ≤ length rs₀ → Reading e w v cs k rs₀ rs₀ 0
  reading_begins h =
      record { upto = omega arith; room = h; same = refl; done = record { room = omega arith; number = λ j l. absurd (omega arith); fine = λ j l. absurd (omega arith) } }

  module _ {rs : List ℕ} {j : ℕ} (h : Reading e w v cs k rs₀ rs j) {qs : List ℕ} {r : Result Unit Refusal} where
    length_read : ReadsOne e w v cs j rs qs r → length qs ≡ length rs₀
    length_read o = ap length o.role ∙ (simp length-set h.same)

    pub reading_more : j < k → ReadsOne e w v cs j rs qs r → r ≡ Ok tt → Reading e w v cs k rs₀ qs (j + 1)
    reading_more l o g =
        record {
          upto = omega arith;
          room = h.room;
          same = length_read o;
          done = record {
            room = let q = length_read o in omega (arith, h.room);
            number = below_more _ j
                (λ i b. rw (o.role, get_or-set_other rs j i (role_number (role_at e w v (class_at cs j) j)) 0 (λ (q : i ≡ j). omega arith)) (h.done.number i b))
                (rw o.role (get_or-set_same rs j (role_number (role_at e w v (class_at cs j) j)) 0 (omega (arith, h.room, h.same))));
            fine = below_more _ j h.done.fine (sym (rw g at o.is));
          };
        }

    pub reading_stops : j < k → ReadsOne e w v cs j rs qs r → (f : Refusal) → r ≡ Err f → Reads e w v cs k rs₀ qs (Err f)
    reading_stops l o f g =
        record {
          same = length_read o;
          is = one_wrong e w v cs j 0 k f l (λ i a b. h.done.fine i (omega arith)) (rw (zero-add j) (sym (rw g at o.is)));
          roles = λ q. absurd (let z : ◌≡◌ {A = ℕ} 0 1 = cc in omega arith);
        }

  pub reading_done : {rs : List ℕ} {j : ℕ} → Reading e w v cs k rs₀ rs j → k ≤ j → Reads e w v cs k rs₀ rs (Ok tt)
  unfolding meanings_of
  reading_done {rs} {j} h l =
      let q : j ≡ k = omega (arith, h.upto) in
      let d : Roles e w v cs rs k = rw q at h.done in
      record { same = h.same; is = all_fine e w v cs 0 k (λ i a b. d.fine i (omega arith)); roles = λ g. d }

-- ---- what callers learn

module _ {e w : List ℕ} {k : ℕ} {v bs : List ℕ} {n : ℕ} {cs : List ℕ} (h : Classified e w k v bs n cs k) (s : Splits e w k) where
  by_places : (j m : ℕ) → j + m ≤ k → each (meaning_at e w v cs) (places j m) ≡ each (meaning (scope e w k v bs n)) (attributes_from e w j m)
  unfolding places each attributes_from
  by_places j zero b = refl
  by_places j (suc m) b = rw (by_places (suc j) m (omega arith), ← meaning_at_lem h s j (omega arith))

  -- the judgment and the meanings are the definition's
  pub reads_mean : {rs₀ rs : List ℕ} {r : Result Unit Refusal} → Reads e w v cs k rs₀ rs r
      → each (meaning (scope e w k v bs n)) (attributes_of e w k) ≡ said r (meanings_of e w v cs k)
  reads_mean o = sym (o.is ∙ by_places 0 k (omega arith))
