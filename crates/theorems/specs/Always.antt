-- What holds of every answer that is no refusal, and of every element of a list. The theorems about accepted events begin here.
use Rattle.std.specs.Prelude.{◌≡◌, refl, Bool, true, false, List, [], ◌∷◌, ◌++◌}
use Rattle.spec.specs.Bytes.{when◌then◌else◌, ◌>>=◌, ◌>>◌, require◌or◌, each, All}
use Rattle.spec.specs.Numbers.{Answer, refuse, good}
use Rattle.spec.specs.declared.Refusal.{Refusal}

abbrev pub Always : {A : Type 0} → (A → Type 0) → Answer A → Type 0
Always Q (refuse n) = Unit {0}
Always Q (good a) = Q a

pub always_bind : {A B : Type 0} (R : A → Type 0) (Q : B → Type 0) (m : Answer A) (f : A → Answer B)
    → Always R m → ((a : A) → R a → Always Q (f a)) → Always Q (m >>= f)
unfolding ◌>>=◌
always_bind R Q (refuse n) f h k = tt
always_bind R Q (good a) f h k = k a h

pub always_any : {A B : Type 0} (Q : B → Type 0) (m : Answer A) (f : A → Answer B) → ((a : A) → Always Q (f a)) → Always Q (m >>= f)
unfolding ◌>>=◌
always_any Q (refuse n) f k = tt
always_any Q (good a) f k = k a

pub always_then : {A B : Type 0} (R : A → Type 0) (Q : B → Type 0) (m : Answer A) (k : Answer B)
    → Always R m → ((a : A) → R a → Always Q k) → Always Q (m >> k)
unfolding ◌>>◌
always_then R Q (refuse n) k h f = tt
always_then R Q (good a) k h f = f a h

pub always_after : {A B : Type 0} (Q : B → Type 0) (m : Answer A) (k : Answer B) → Always Q k → Always Q (m >> k)
unfolding ◌>>◌
always_after Q (refuse n) k f = tt
always_after Q (good a) k f = f

pub always_test : (Q : Unit {0} → Type 0) (b : Bool) (n : Refusal) → (b ≡ true → Q tt) → Always Q (require b or n)
unfolding require◌or◌
always_test Q true n k = k refl
always_test Q false n k = tt

pub always_require : {B : Type 0} (Q : B → Type 0) (b : Bool) (n : Refusal) (m : Answer B) → (b ≡ true → Always Q m) → Always Q ((require b or n) >> m)
unfolding ◌>>◌ require◌or◌
always_require Q true n m k = k refl
always_require Q false n m k = tt

pub always_if : {B : Type 0} (Q : B → Type 0) (b : Bool) (m k : Answer B) → (b ≡ true → Always Q m) → (b ≡ false → Always Q k) → Always Q (when b then m else k)
unfolding when◌then◌else◌
always_if Q true m k h g = h refl
always_if Q false m k h g = g refl

pub always_map : {A : Type 0} (R Q : A → Type 0) (m : Answer A) → Always R m → ((a : A) → R a → Q a) → Always Q m
always_map R Q (refuse n) h k = tt
always_map R Q (good a) h k = k a h

-- two facts of one answer
pub always_both : {A : Type 0} (P Q : A → Type 0) (m : Answer A) → Always P m → Always Q m → Always (λ x. P x × Q x) m
always_both P Q (refuse n) h k = tt
always_both P Q (good a) h k = (h, k)

-- a fact under a condition
pub always_given : {A : Type 0} (C : Type 0) (Q : A → Type 0) (m : Answer A) → (C → Always Q m) → Always (λ x. C → Q x) m
always_given C Q (refuse n) h = tt
always_given C Q (good a) h = h

-- an answer that is no refusal is what it is
pub always_self : {A : Type 0} (m : Answer A) → Always (λ (a : A). m ≡ good a) m
always_self (refuse n) = tt
always_self (good a) = refl

-- what always holds of an answer, of a good one
pub always_good : {A : Type 0} (Q : A → Type 0) {m : Answer A} {a : A} → Always Q m → m ≡ good a → Q a
always_good Q h e = rw e at h

-- ---- of every element

pub always_each : {A B : Type 0} (P : A → Type 0) (Q : B → Type 0) (f : A → Answer B) → ((a : A) → P a → Always Q (f a)) → (l : List A) → All P l → Always (All Q) (each f l)
unfolding each
always_each P Q f h [] k = tt
always_each P Q f h (a ∷ l) k =
    always_bind Q (All Q) _ _ (h a k.0) λ b q. always_bind (All Q) (All Q) _ _ (always_each P Q f h l k.1) λ bs qs. (q, qs)

pub all_append : {A : Type 0} (P : A → Type 0) (l m : List A) → All P l → All P m → All P (l ++ m)
all_append P [] m h k = k
all_append P (a ∷ l) m h k = (h.0, all_append P l m h.1 k)
