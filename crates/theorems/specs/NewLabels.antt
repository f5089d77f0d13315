-- A generated label is never a written one, and never one that was generated before.
use Rattle.std.specs.Prelude.{◌≡◌, refl, false, List, [], ℕ, ◌≤◌, ◌<◌}
use Rattle.std.proofs.Common.{sym, ◌∙◌, ap, inl, inr, true≢false, arith}
use Rattle.std.proofs.Math.Option.{Option}
use Rattle.spec.specs.Bytes.{Bytes}
use Rattle.spec.specs.Numbers.{good}
use Rattle.spec.specs.Pyx.{Event}
use Rattle.spec.specs.NTriples.{Subject, blank, Term, node, plain, tagged, typed, Triple, label}
use Rattle.spec.specs.declared.Mode.{Mode}
use Rattle.spec.specs.Document.{Doc, fresh}
use Rattle.spec.specs.StartTag.{rdf_node_id, means, same_role, role_number, judge, is_generated}
use Rattle.spec.specs.RdfXml.{next}
use Rattle.spec.specs.Lists.{same_subject, Unnamed, After, event}
use Rattle.theorems.specs.Always.{always_good}
use Rattle.theorems.specs.Labels.{label_inj, label_generated}
use Rattle.theorems.specs.Subjects.{Rule, Fair, judge_fair, OfLines, no_line, with_line}
use Rattle.theorems.specs.Lists.{Not, same_self, Known, known_not, known_more, Family, Kept, kept}

-- ---- subjects and objects known when n labels have been generated

abbrev KnownTerm : ℕ → Term → Type 0
KnownTerm n (node s) = Known n s
KnownTerm n (plain v) = Unit {0}
KnownTerm n (tagged v l) = Unit {0}
KnownTerm n (typed v t) = Unit {0}

term_more : (n n' : ℕ) → n ≤ n' → (o : Term) → KnownTerm n o → KnownTerm n' o
term_more n n' up (node s) h = known_more n n' s up h
term_more n n' up (plain v) h = tt
term_more n n' up (tagged v l) h = tt
term_more n n' up (typed v t) h = tt

abbrev nodes : ℕ → Rule
nodes n = record {
  subj = Known n;
  obj = KnownTerm n;
  lang = λ l. Unit {0};
  name = λ i. tt;
  other_label = λ l h g k. inl g;
  node_of = λ s h. h;
  plain_of = λ v. tt;
  typed_of = λ v d. tt;
  tagged_of = λ v l h. tt;
  tag_of_lem = λ v h. tt;
}

all_known_lem : Family
all_known_lem = record {
  lo = 0;
  at = nodes;
  up_subj = λ n n' up s h. known_more n n' s up h;
  up_obj = term_more;
  up_lang = λ n n' up l h. tt;
  fresh = λ n n' lo le k p q. inr (k, q, refl);
}

-- ---- the next labels are none of them

not_it : (k : ℕ) (s : Subject) → Not k s → s ≡ blank (label k) → ⊥
not_it k s h e = true≢false (sym (same_self k) ∙ (ap (same_subject (blank (label k))) (sym e) ∙ h))

unnamed : (n k : ℕ) → n < k → k < 100_000_000 → {ts : List Triple} → OfLines (nodes n) ts → Unnamed (blank (label k)) ts
unnamed n k p q no_line = tt
unnamed n k p q (with_line {s = s} {o = o} h g t) =
    (not_it k s (known_not n k s p q h), object o g, unnamed n k p q t)
  where
    object : (o : Term) → KnownTerm n o → o ≡ node (blank (label k)) → ⊥
    object (node u) g e = not_it k u (known_not n k u p q g) (cc)
    object (plain v) g e = let z : ◌≡◌ {A = ℕ} 0 1 = cc in omega arith
    object (tagged v l) g e = let z : ◌≡◌ {A = ℕ} 0 1 = cc in omega arith
    object (typed v t) g e = let z : ◌≡◌ {A = ℕ} 0 1 = cc in omega arith

-- 13: a label that may be written is none that is generated
pub written_not_generated : (l : Bytes) (k : ℕ) → judge rdf_node_id l ≡ good tt → l ≡ label k → ⊥
unfolding same_role role_number
written_not_generated l k q e =
    let g : is_generated l ≡ false = ((always_good (λ u. Fair (means rdf_node_id [] l)) (judge_fair rdf_node_id [] l) q).0 refl).1 in
    true≢false (sym (label_generated k) ∙ (ap is_generated (sym e) ∙ g))

-- The labels that an accepted event generates are new: none may be written as rdf:nodeID, each has its own number, and no line
-- before the event names one, as subject or as object.
pub labels_new : (m : Mode) (b₀ : Option Bytes) (d d' : Doc) (ts us : List Triple) (e : Event) → After (fresh m b₀) d ts → next e d ≡ good (us, d')
    → (k : ℕ) → d.labels < k → k ≤ d'.labels
    → ((l : Bytes) → judge rdf_node_id l ≡ good tt → l ≡ label k → ⊥)
    × ((j : ℕ) → j ≤ d'.labels → label j ≡ label k → j ≡ k)
    × Unnamed (blank (label k)) ts
unfolding fresh all_known_lem
labels_new m b₀ d d' ts us e before q k lo hi =
    let h : Kept all_known_lem (fresh m b₀) d ts = kept all_known_lem (fresh m b₀) d ts (omega arith) (omega arith) tt before in
    let h' : d'.labels < 100_000_000 = (kept all_known_lem (fresh m b₀) d' _ (omega arith) (omega arith) tt (event before e d' us q)).bound in
    ((λ l g. written_not_generated l k g), (λ j le g. label_inj j k (omega arith) (omega arith) g), unnamed d.labels k lo (omega arith) h.lines)
