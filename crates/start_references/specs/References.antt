-- The references of a tag: rdf:ID (11, 12), then rdf:about, rdf:resource, rdf:datatype, rdf:type (11).
use Rattle.std.specs.Prelude.{ℕ, zero, suc, ◌+◌, ◌<◌, ◌≤◌, ◌≡◌, refl, Bool, true, false, ◌&&◌, ◌||◌, not, List, leb, length, get_or, drop}
use Rattle.std.proofs.Common.{◌⊎◌, inl, inr, sym, ap, ◌∙◌, arith, length-take, le-leb, leb-false, le-ltb}
use Rattle.std.proofs.lemmas.Bool.{false≢true, lt-leb}
use Rattle.std.proofs.Math.Option.{Option, none, some}
use Rattle.spec.specs.Bytes.{Bytes, same, member, ◌>>=◌, ◌>>◌, require◌or◌}
use Rattle.spec.specs.Numbers.{Answer, refuse, good}
use Rattle.spec.specs.declared.Refusal.{Refusal}
use Rattle.spec.specs.declared.Refusal.TheVariants.{BadIri, RepeatedId}
use Rattle.spec.specs.Limits.{most_name_bytes}
use Rattle.spec.specs.StartTag.{rdf_ID, rdf_about, rdf_resource, rdf_datatype, rdf_type, Meaning, first, resolved, with_hash, is_unused}
use Rattle.spec.proofs.Booleans.{no_true}
use Rattle.copy.specs.Copy.{part}
use Rattle.copy.specs.Texts.{same_true}
use Rattle.state_words.specs.Kept.{Kept, kept_then, kept_less}
use Rattle.state_stack.specs.Laws.{by}
use Rattle.state_ids.specs.Ids.{ids_of, end_to_end, ValidIds, last_short, others_linked, found_means}
use Rattle.state_ids.specs.Ids as Ids
use Rattle.start_names.specs.Tag.{value_at}
use Rattle.start_references.specs.declared.reference.Reference.{Reference}
use Rattle.start_references.specs.declared.reference.Reference.TheVariants.{Missing, Bad, Long, Made}
use Rattle.start_references.specs.Reference.{is_bad, is_long, Refers, Resolves, refers_as, refers_kept, none_there, no_id}
use Rattle.start_attributes.specs.Reads.{meanings_of, Roles}
use Rattle.start_attributes.specs.First.{first_in}
use Rattle.start_references.specs.declared.Others.{Others}
use Rattle.start_references.specs.declared.References.{References}
use Rattle.start_references.specs.Values.{value_if, first_value}
use Rattle.std.specs.Prelude.{Result, Ok, Err}

-- ---- of the definitions

-- one of each, as written or resolved
pub record Five : Type 0 where
  pub id : Option Bytes
  pub about : Option Bytes
  pub resource : Option Bytes
  pub datatype : Option Bytes
  pub type : Option Bytes

-- resolved in `read_tag`'s order: those behind rdf:ID
unfoldable pub others : Option Bytes → Five → Option Bytes → Answer Five
others base v id' = do
  about' ← resolved base v.about
  resource' ← resolved base v.resource
  datatype' ← resolved base v.datatype
  type' ← resolved base v.type
  good (record { id = id'; about = about'; resource = resource'; datatype = datatype'; type = type' })

unfoldable pub references : Option Bytes → (Option Bytes → Bool) → Five → Answer Five
references base fresh v = do
  id' ← resolved base (with_hash v.id)
  require fresh id' or RepeatedId
  others base v id'

-- the values in the five roles
unfoldable pub five_of : List Meaning → Five
five_of ms = record { id = first rdf_ID ms; about = first rdf_about ms; resource = first rdf_resource ms; datatype = first rdf_datatype ms; type = first rdf_type ms }

unfoldable pub five_at : List ℕ → List ℕ → ℕ → List ℕ → Five
five_at e w k rs =
    record {
      id = value_if e w k (first_in rs k rdf_ID);
      about = value_if e w k (first_in rs k rdf_about);
      resource = value_if e w k (first_in rs k rdf_resource);
      datatype = value_if e w k (first_in rs k rdf_datatype);
      type = value_if e w k (first_in rs k rdf_type);
    }

pub five_means : {e w v cs rs : List ℕ} {k : ℕ} → Roles e w v cs rs k → five_of (meanings_of e w v cs k) ≡ five_at e w k rs
unfolding five_of five_at
five_means h =
    rw (first_value h rdf_ID, first_value h rdf_about, first_value h rdf_resource, first_value h rdf_datatype, first_value h rdf_type)

-- ---- rdf:ID, and the table of those that were used

-- not found in the table: one that is longer than an IRI may be is never in it
unfoldable pub fresh_by : ℕ → List ℕ → List ℕ → List ℕ → Option Bytes → Bool
fresh_by count at len store none = true
fresh_by count at len store (some s) = not (leb (length s) most_name_bytes && Ids.found count at len store s)

unfoldable pub used_by : ℕ → List ℕ → List ℕ → List ℕ → List ℕ → Reference → Bool
used_by count at len store area Missing = false
used_by count at len store area Bad = false
used_by count at len store area Long = false
used_by count at len store area (Made n) = Ids.found count at len store (part area 0 n)

no_long : (at len store : List ℕ) (n end : ℕ) (s : Bytes) → end_to_end at len n end ≡ true → most_name_bytes < length s → member s (ids_of at len store n) ≡ false
unfolding member ids_of part
no_long at len store zero end s h l = refl
no_long at len store (suc n) end s h l =
    let short = last_short at len n end h in
    let other : same s (part store (get_or at n 0) (get_or len n 0)) ≡ false =
    no_true (same s (part store (get_or at n 0) (get_or len n 0)))
    (λ y. omega (arith, ap length (same_true s (part store (get_or at n 0) (get_or len n 0)) y), length-take (get_or len n 0) (drop (get_or at n 0) store))) in
    rw (other, no_long at len store n (get_or at n 0) s (others_linked at len n end h) l)

pub fresh_means : {count used : ℕ} {at len store : List ℕ} → ValidIds count used at len store → (o : Option Bytes)
    → fresh_by count at len store o ≡ is_unused o (ids_of at len store count)
unfolding fresh_by is_unused
fresh_means v none = refl
fresh_means {count} {used} {at} {len} {store} v (some s) = go (leb (length s) most_name_bytes) refl
  where
    go : (t : Bool) → leb (length s) most_name_bytes ≡ t → not (leb (length s) most_name_bytes && Ids.found count at len store s) ≡ not (member s (ids_of at len store count))
    go true q = rw (q, found_means v s)
    go false q = rw (q, no_long at len store count used s v.linked (leb-false (length s) most_name_bytes q))

-- what `is_used` tells of a reference that came out as o
pub used_means : (count : ℕ) (at len store area : List ℕ) (o : Option Bytes) (r : Reference) → Refers r area 0 (good o)
    → fresh_by count at len store o ≡ not (used_by count at len store area r)
unfolding fresh_by used_by most_name_bytes part
used_means count at len store area o Missing h = let q : o ≡ none = cc in rw q
used_means count at len store area o Bad h = absurd (let z : ◌≡◌ {A = ℕ} 0 1 = cc in omega arith)
used_means count at len store area o Long h = let q : o ≡ some h.text = cc h.is in rw (q, lt-leb (length h.text) 1024 h.long)
used_means count at len store area o (Made n) h =
    let q : o ≡ some (part area 0 n) = cc h.is in
    rw (q, le-leb (length (part area 0 n)) 1024 (omega (arith, h.short, length-take n (drop 0 area))))

-- the arms of `is_used`: p is what was read of the area
module _ (count : ℕ) (at len store area : List ℕ) {r : Reference} where
  pub used_none : (r ≡ Missing) ⊎ ((r ≡ Bad) ⊎ (r ≡ Long)) → false ≡ used_by count at len store area r
  unfolding used_by
  used_none (inl h) = rw h
  used_none (inr (inl h)) = rw h
  used_none (inr (inr h)) = rw h

  pub used-made : {n : ℕ} {p : Bytes} {b : Bool} → r ≡ Made n → p ≡ part area 0 n → b ≡ Ids.found count at len store p → b ≡ used_by count at len store area r
  unfolding used_by
  used-made h q e = e ∙ rw (h, q)

-- what is asked where a reference is resolved to its place: bytes of a decoded event, and room from the place on
pub record Ready (e area : List ℕ) (at : ℕ) : Type 0 where
  pub event : length e ≤ 32_768
  pub room : at + 1_027 ≤ length area

-- the same of two tests that agree
pub references-fresh : (base : Option Bytes) (f g : Option Bytes → Bool) (v : Five) → ((o : Option Bytes) → f o ≡ g o) → references base f v ≡ references base g v
unfolding references ◌>>=◌ ◌>>◌ require◌or◌
references-fresh base f g v h = go (resolved base (with_hash v.id))
  where
    go : (x : Answer (Option Bytes)) → (x >>= λ i. (require f i or RepeatedId) >> others base v i) ≡ (x >>= λ i. (require g i or RepeatedId) >> others base v i)
    go (refuse n) = refl
    go (good o) = rw (h o)

-- ---- what the code tells of them

abbrev pub any_bad : Others → Bool
any_bad o = is_bad o.about || (is_bad o.resource || (is_bad o.datatype || is_bad o.kind))

abbrev pub any_long : Others → Bool
any_long o = is_long o.about || (is_long o.resource || (is_long o.datatype || is_long o.kind))

-- what `resolved_others` does: v has the values
pub record Four (base : Option Bytes) (v : Five) (area after : List ℕ) (o : Others) : Type 0 where
  pub about : Refers o.about after 1024 (resolved base v.about)
  pub resource : Refers o.resource after 2048 (resolved base v.resource)
  pub datatype : Refers o.datatype after 3072 (resolved base v.datatype)
  pub kind : Refers o.kind after 4096 (resolved base v.type)
  pub before : Kept area after 0 1024
  pub same : length after ≡ length area

pub four_made : {base : Option Bytes} {v : Five} {a b c d f : List ℕ} {p q r t : Reference}
    → Resolves (resolved base v.about) a b 1024 p → Resolves (resolved base v.resource) b c 2048 q
    → Resolves (resolved base v.datatype) c d 3072 r → Resolves (resolved base v.type) d f 4096 t
    → Four base v a f (record { about = p; resource = q; datatype = r; kind = t })
four_made {base} {v} {a} {b} {c} {d} {f} {p} {q} {r} {t} one two three four =
    let k4 : Kept d f 0 3072 = kept_less four.before (omega arith) (omega arith) in
    let k3 : Kept c f 0 3072 = kept_then three.before k4 in
    let k2 : Kept b f 0 2048 = kept_then two.before (kept_less k3 (omega arith) (omega arith)) in
    record {
      about = refers_kept 1024 (resolved base v.about) p one.is k2 (omega arith) (four.same ∙ (three.same ∙ two.same));
      resource = refers_kept 2048 (resolved base v.resource) q two.is k3 (omega arith) (four.same ∙ three.same);
      datatype = refers_kept 3072 (resolved base v.datatype) r three.is four.before (omega arith) four.same;
      kind = four.is;
      before = kept_then one.before (kept_less k2 (omega arith) (omega arith));
      same = four.same ∙ (three.same ∙ (two.same ∙ one.same));
    }

-- the five, resolved
pub record Resolved (r : References) (after : List ℕ) (x : Answer Five) : Type 0 where
  pub five : Five
  pub is : x ≡ good five
  pub id : Refers r.id after 0 (good five.id)
  pub about : Refers r.others.about after 1024 (good five.about)
  pub resource : Refers r.others.resource after 2048 (good five.resource)
  pub datatype : Refers r.others.datatype after 3072 (good five.datatype)
  pub kind : Refers r.others.kind after 4096 (good five.type)

abbrev pub Cases : Result References Refusal → List ℕ → Answer Five → Type 0
Cases (Err n) after x = x ≡ refuse n
Cases (Ok r) after x = Resolved r after x

-- what `references` does: x is what the definitions answer
pub record Resolving (x : Answer Five) (area after : List ℕ) (r : Result References Refusal) : Type 0 where
  pub cases : Cases r after x
  pub same : length after ≡ length area

-- ---- a reference that is bad, or came out

pub bad_refuses : {x : Answer (Option Bytes)} (area : List ℕ) (at : ℕ) (r : Reference) → Refers r area at x → is_bad r ≡ true → x ≡ refuse BadIri
bad_refuses area at Missing h b = absurd (false≢true b)
bad_refuses area at Bad h b = h
bad_refuses area at Long h b = absurd (false≢true b)
bad_refuses area at (Made n) h b = absurd (false≢true b)

or_first : (a b : Bool) → (a || b) ≡ false → a ≡ false
or_first true b h = h
or_first false b h = refl

or_rest : (a b : Bool) → (a || b) ≡ false → b ≡ false
or_rest true b h = absurd (false≢true (sym h))
or_rest false b h = h

-- what came out
pub record Came (x : Answer (Option Bytes)) : Type 0 where
  pub text : Option Bytes
  pub is : x ≡ good text

pub good_comes : {x : Answer (Option Bytes)} (area : List ℕ) (at : ℕ) (r : Reference) → Refers r area at x → is_bad r ≡ false → Came x
good_comes area at Missing h b = record { text = none; is = h }
good_comes area at Bad h b = absurd (false≢true (sym b))
good_comes area at Long h b = record { text = some h.text; is = h.is }
good_comes area at (Made n) h b = record { text = some (part area at n); is = h.is }

-- ---- the answers of `resolve_on`

module _ (base : Option Bytes) (fresh : Option Bytes → Bool) (v : Five) where
  id_refused : {n : Refusal} → resolved base (with_hash v.id) ≡ refuse n → references base fresh v ≡ refuse n
  unfolding references ◌>>=◌
  id_refused h = rw h

  id_repeated : {o : Option Bytes} → resolved base (with_hash v.id) ≡ good o → fresh o ≡ false → references base fresh v ≡ refuse RepeatedId
  unfolding references ◌>>=◌ ◌>>◌ require◌or◌
  id_repeated h f = rw (h, f)

  id_passes : {o : Option Bytes} → resolved base (with_hash v.id) ≡ good o → fresh o ≡ true → references base fresh v ≡ others base v o
  unfolding references ◌>>=◌ ◌>>◌ require◌or◌
  id_passes h f = rw (h, f)

others_are : (base : Option Bytes) (v : Five) (i : Option Bytes) {p q t u : Option Bytes} → resolved base v.about ≡ good p → resolved base v.resource ≡ good q
    → resolved base v.datatype ≡ good t → resolved base v.type ≡ good u
    → others base v i ≡ good (record { id = i; about = p; resource = q; datatype = t; type = u })
unfolding others ◌>>=◌
others_are base v i a b c d = rw (a, b, c, d)

module _ {base : Option Bytes} {v : Five} {area after : List ℕ} {r : Others} (h : Four base v area after r) (id' : Option Bytes) where
  others_bad : any_bad r ≡ true → others base v id' ≡ refuse BadIri
  unfolding others ◌>>=◌
  others_bad b =
      by (is_bad r.about) (λ p. rw (bad_refuses after 1024 r.about h.about p)) λ p.
      by (is_bad r.resource) (λ q. rw ((good_comes after 1024 r.about h.about p).is, bad_refuses after 2048 r.resource h.resource q)) λ q.
      by (is_bad r.datatype)
      (λ t.
      rw ((good_comes after 1024 r.about h.about p).is, (good_comes after 2048 r.resource h.resource q).is, bad_refuses after 3072 r.datatype h.datatype t)) λ t.
      rw (
        (good_comes after 1024 r.about h.about p).is,
        (good_comes after 2048 r.resource h.resource q).is,
        (good_comes after 3072 r.datatype h.datatype t).is,
        bad_refuses after 4096 r.kind h.kind (rw (p, q, t) at b),
      )

  -- none of them bad
  record Fine : Type 0 where
    about : is_bad r.about ≡ false
    resource : is_bad r.resource ≡ false
    datatype : is_bad r.datatype ≡ false
    kind : is_bad r.kind ≡ false

  fine : any_bad r ≡ false → Fine
  fine b =
      let b1 = or_rest (is_bad r.about) _ b in
      let b2 = or_rest (is_bad r.resource) _ b1 in
      record {
        about = or_first (is_bad r.about) _ b;
        resource = or_first (is_bad r.resource) _ b1;
        datatype = or_first (is_bad r.datatype) _ b2;
        kind = or_rest (is_bad r.datatype) _ b2;
      }

  others_good : {x : Reference} → Refers x after 0 (good id') → any_bad r ≡ false → Resolved (record { id = x; others = r }) after (others base v id')
  others_good i b =
      let f = fine b in
      let p = good_comes after 1024 r.about h.about f.about in
      let q = good_comes after 2048 r.resource h.resource f.resource in
      let t = good_comes after 3072 r.datatype h.datatype f.datatype in
      let u = good_comes after 4096 r.kind h.kind f.kind in
      record {
        five = record { id = id'; about = p.text; resource = q.text; datatype = t.text; type = u.text };
        is = others_are base v id' p.is q.is t.is u.is;
        id = i;
        about = refers_as after 1024 r.about h.about p.is;
        resource = refers_as after 2048 r.resource h.resource q.is;
        datatype = refers_as after 3072 r.datatype h.datatype t.is;
        kind = refers_as after 4096 r.kind h.kind u.is;
      }

-- no attribute has the role: j is its place, which is no place of the k
module _ (base : Option Bytes) (e w : List ℕ) (k : ℕ) {j i : ℕ} (q : j ≡ i) (h : k ≤ j) {a : List ℕ} {at : ℕ} where
  pub no_value : Resolves (resolved base (value_if e w k i)) a a at Missing
  unfolding value_if
  no_value = none_there (value_at e w i) base (le-ltb i k (omega arith))

  pub no_own_id : Resolves (resolved base (with_hash (value_if e w k i))) a a at Missing
  unfolding value_if
  no_own_id = no_id base (value_at e w i) (le-ltb i k (omega arith))

-- the same value and the same base, said otherwise
module _ (base : Option Bytes) {o q : Option Bytes} (e : o ≡ q) {a b : List ℕ} {at : ℕ} {r : Reference} where
  pub value_as : Resolves (resolved base o) a b at r → Resolves (resolved base q) a b at r
  value_as h = rw (← e) h

  pub id_as : Resolves (resolved base (with_hash o)) a b at r → Resolves (resolved base (with_hash q)) a b at r
  id_as h = rw (← e) h

pub base_as : (fresh : Option Bytes → Bool) (v : Five) {o q : Option Bytes} {a b : List ℕ} {r : Result References Refusal} → o ≡ q
    → Resolving (references o fresh v) a b r → Resolving (references q fresh v) a b r
base_as fresh v e h = rw (← e) h

-- the tests in a row: rdf:ID is r
module _ (base : Option Bytes) (v : Five) (count : ℕ) (at len store : List ℕ) {a b : List ℕ} {r : Reference} (h : Resolves (resolved base (with_hash v.id)) a b 0 r) where
  pub stop_bad : is_bad r ≡ true → Resolving (references base (fresh_by count at len store) v) a b (Err BadIri)
  stop_bad y = record { cases = id_refused base (fresh_by count at len store) v (bad_refuses b 0 r h.is y); same = h.same }

  module _ (n : is_bad r ≡ false) where
    came : Came (resolved base (with_hash v.id))
    came = good_comes b 0 r h.is n

    tested : fresh_by count at len store came.text ≡ not (used_by count at len store b r)
    tested = used_means count at len store b came.text r (refers_as b 0 r h.is came.is)

    pub stop_used : used_by count at len store b r ≡ true → Resolving (references base (fresh_by count at len store) v) a b (Err RepeatedId)
    stop_used u = record { cases = id_repeated base (fresh_by count at len store) v came.is (tested ∙ rw u); same = h.same }

    module _ (u : used_by count at len store b r ≡ false) {c : List ℕ} {o : Others} (f : Four base v b c o) where
      passes : references base (fresh_by count at len store) v ≡ others base v came.text
      passes = id_passes base (fresh_by count at len store) v came.is (tested ∙ rw u)

      pub stop_others : any_bad o ≡ true → Resolving (references base (fresh_by count at len store) v) a c (Err BadIri)
      stop_others y = record { cases = passes ∙ others_bad f came.text y; same = f.same ∙ h.same }

      pub all_resolved : any_bad o ≡ false → Resolving (references base (fresh_by count at len store) v) a c (Ok (record { id = r; others = o }))
      all_resolved y =
          let i : Refers r b 0 (good came.text) = refers_as b 0 r h.is came.is in
          record { cases = rw passes (others_good f came.text (refers_kept 0 (good came.text) r i f.before (omega arith) f.same) y); same = f.same ∙ h.same }
