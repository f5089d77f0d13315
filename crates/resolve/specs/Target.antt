-- RFC 3986, section 5.2.2: what a reference on a base is made of, case by case.
use Rattle.std.specs.Prelude.{Option as StdOption, Some, None, ◌≡◌, Bool, ◌||◌, not, ℕ, zero, suc, ◌+◌, ◌-◌, ◌<◌, ◌≤◌, eqb, get_or}
use Rattle.std.proofs.Math.Path.{refl, sym, ap}
use Rattle.std.proofs.Common.{◌∙◌, take-take}
use Rattle.std.proofs.Math.Bool.{true, false}
use Rattle.std.proofs.lemmas.Bool.{false≢true}
use Rattle.std.proofs.Math.Option.{Option, none, some}
use mathlib.Core.List.{[], ◌∷◌, ◌++◌, append_assoc, append-nil}
use native.Mathlib.Omega.{arith}
use Rattle.std.proofs.Math.Dec.{ltb}
use Rattle.std.proofs.Math.ListN.{length, take, drop}
use Rattle.std.proofs.Math.Seq.{append_snoc, length-take-le}
use borrow.Author.Tests.{lt-ltb, le-ltb, eq-eqb, ne_eqb}
use Rattle.spec.specs.Bytes.{Bytes, ascii, when◌then◌else◌, begins, from, is_empty, is_some, or_else}
use Rattle.spec.specs.Rfc3986.{Reference, parse, recompose, remove_dot_segments, turns, without_last, merge, transform, has_form, resolve, resolves}
use Rattle.resolve.specs.Parts.{parts_of, scheme_text, authority_text, query_text, fragment_text, ordered, take-scheme, take_authority, take_path, take-query, drop_path_texts, path_between, scheme-nil, authority_nil, path_nil, query-nil, scheme-text, has-scheme, has_authority, has-query, has_path, no_slashes}
use Rattle.copy.specs.Copy.{part, length_part}
use Rattle.resolve.specs.Last.{through_last, without_slash, without-some}
use Rattle.resolve.specs.Texts.{Front, and-true}
use Rattle.resolve.specs.declared.target.Target.{Target}

-- is a path merged with that of the base, and where does what the base gives of it end? Where it gives none, it ends where it begins.
abbrev pub leads : StdOption ℕ → Bool
leads None = false
leads (Some end) = true

abbrev pub lead_end : StdOption ℕ → ℕ → ℕ
lead_end None begin = begin
lead_end (Some end) begin = end

-- what stands before the target's path
unfoldable pub front_of : Bytes → Bytes → Target → Bytes
front_of base reference t = take t.front base ++ take t.own reference

-- its path, whose dot segments are still there
unfoldable pub merged_of : Bytes → Bytes → Target → Bytes
merged_of base reference t =
    let path = part reference t.own (t.path - t.own) in
    when leads t.lead then part base t.front (lead_end t.lead t.front - t.front) ++ 47 ∷ path else path

-- the whole target, and whether it has a form
unfoldable pub whole_of : Bytes → Bytes → Target → Bytes
whole_of base reference t = front_of base reference t ++ (remove_dot_segments (merged_of base reference t) ++ drop t.path reference)

unfoldable pub form_of : Bytes → Bytes → Target → Bool
form_of base reference t = t.authority || not (begins (ascii "//") (remove_dot_segments (merged_of base reference t)))

-- `t` is what the reference on the base is made of.
pub record Aimed (base reference : Bytes) (t : Target) : Type 0 where
  pub order : t.front ≤ lead_end t.lead t.front
  pub lead : lead_end t.lead t.front ≤ length base
  pub few : leads t.lead ≡ true → lead_end t.lead t.front - t.front < length base
  pub own : t.own ≤ t.path
  pub path : t.path ≤ length reference
  pub result : resolve base reference ≡ whole_of base reference t
  pub form : resolves base reference ≡ form_of base reference t

-- what the base gives of the path
pub record Led (base : Bytes) (t : Target) (end : ℕ) : Type 0 where
  pub order : t.front ≤ end
  pub within : end ≤ length base
  pub few : end - t.front < length base

pub led : {base reference : Bytes} {t : Target} {end : ℕ} → Aimed base reference t → t.lead ≡ Some end → Led base t end
led {t = t} {end = end} a e =
    let z : lead_end t.lead t.front ≡ end = ap (λ l. lead_end l t.front) e in
    let y : leads t.lead ≡ true = ap leads e in
    record { order = omega (arith, a.order, z); within = omega (arith, a.lead, z); few = omega (arith, a.few y, z) }

-- by the target's parts: `front` stands before its path, and the path without dot segments is that of `p`
aimed : {base reference : Bytes} {t : Target} {r : Reference} (front p : Bytes) → transform (parse base) (parse reference) ≡ r
    → t.front ≤ lead_end t.lead t.front → lead_end t.lead t.front ≤ length base → (leads t.lead ≡ true → lead_end t.lead t.front - t.front < length base) → t.own ≤ t.path → t.path ≤ length reference
    → front_of base reference t ≡ front → merged_of base reference t ≡ p
    → recompose r ≡ front ++ (remove_dot_segments p ++ drop t.path reference) → has_form r ≡ (t.authority || not (begins (ascii "//") (remove_dot_segments p)))
    → Aimed base reference t
unfolding resolve resolves whole_of form_of
aimed front p e order lead few own path before merged result form =
    record { order = order; lead = lead; few = few; own = own; path = path; result = rw (e, before, merged) result; form = rw (e, merged) form }

-- where nothing is merged
unmerged : {P : Type 0} → false ≡ true → P
unmerged e = absurd (false≢true e)

-- ---- the tests of 5.2.2

-- neither scheme nor authority
module _ (s : Bytes) (h : (parts_of s).authority ≤ 0) where
  bare-scheme : is_some (parse s).scheme ≡ false
  bare-scheme = has-scheme s ∙ le-ltb 0 (parts_of s).scheme (omega (arith, ordered s))

  bare_authority : is_some (parse s).authority ≡ false
  bare_authority = has_authority s ∙ le-ltb (parts_of s).scheme (parts_of s).authority (omega arith)

-- a base's own path has a form
kept_form : (s : Bytes) → (is_some (parse s).authority || not (begins (ascii "//") (parse s).path)) ≡ (ltb (parts_of s).scheme (parts_of s).authority || true)
kept_form s = rw (← (has_authority s)) (go (is_some (parse s).authority) refl)
  where
    go : (t : Bool) → is_some (parse s).authority ≡ t → (t || not (begins (ascii "//") (parse s).path)) ≡ (t || true)
    go true e = refl
    go false e = rw (no_slashes s e)

either_true : (t : Bool) → (t || true) ≡ true
either_true true = refl
either_true false = refl

-- does a front begin with "/"?
first_slash : (s : Bytes) (n : ℕ) → 0 < n → n ≤ length s → begins (ascii "/") (take n s) ≡ eqb 47 (get_or s 0 0)
unfolding begins ascii
first_slash [] n z h = absurd (omega arith)
first_slash (a ∷ s) zero z h = absurd (omega arith)
first_slash (a ∷ s) (suc n) z h = and-true (eqb 47 a)

query_there : (o b : Option Bytes) → is_some o ≡ true → or_else o b ≡ o
unfolding is_some or_else
query_there none b h = absurd (false≢true h)
query_there (some q) b h = refl

query_missing : (o b : Option Bytes) → is_some o ≡ false → or_else o b ≡ b
unfolding is_some or_else
query_missing none b h = refl
query_missing (some q) b h = absurd (false≢true (sym h))

-- ---- 5.2.3

-- `l` is what a path is put behind when it is merged with that of the base.
pub record Leads (base : Bytes) (l : StdOption ℕ) : Type 0 where
  pub order : (parts_of base).authority ≤ lead_end l (parts_of base).authority
  pub within : lead_end l (parts_of base).authority ≤ length base
  pub few : leads l ≡ true → lead_end l (parts_of base).authority - (parts_of base).authority < length base
  pub is : (p : Bytes) → (when leads l then part base (parts_of base).authority (lead_end l (parts_of base).authority - (parts_of base).authority) ++ 47 ∷ p else p) ≡ merge (parse base) p

-- a base with a path, one with an authority alone, and one with neither
merge_path : (s a : Option Bytes) (path : Bytes) (q f : Option Bytes) (p : Bytes) → is_empty path ≡ false
    → merge (record { scheme = s; authority = a; path = path; query = q; fragment = f }) p ≡ through_last path ++ p
unfolding merge through_last when◌then◌else◌
merge_path s none path q f p h = refl
merge_path s (some a) path q f p h = rw h

merge_authority : (s a : Option Bytes) (path : Bytes) (q f : Option Bytes) (p : Bytes) → path ≡ [] → is_some a ≡ true
    → merge (record { scheme = s; authority = a; path = path; query = q; fragment = f }) p ≡ ascii "/" ++ p
unfolding merge is_some is_empty when◌then◌else◌
merge_authority s none path q f p e h = absurd (false≢true h)
merge_authority s (some a) path q f p e h = rw e

merge-nothing : (s a : Option Bytes) (path : Bytes) (q f : Option Bytes) (p : Bytes) → path ≡ [] → is_some a ≡ false
    → merge (record { scheme = s; authority = a; path = path; query = q; fragment = f }) p ≡ p
unfolding merge is_some from
merge-nothing s none path q f p e h = rw e
merge-nothing s (some a) path q f p e h = absurd (false≢true (sym h))

-- a base's path between the ends of its parts
abbrev pub path_at : Bytes → Bytes
path_at base = take ((parts_of base).path - (parts_of base).authority) (drop (parts_of base).authority base)

module _ (base : Bytes) where
  merge_there : (parts_of base).authority < (parts_of base).path → (p : Bytes) → merge (parse base) p ≡ through_last (parse base).path ++ p
  merge_there h p =
      merge_path (parse base).scheme (parse base).authority (parse base).path (parse base).query (parse base).fragment p
      (has_path base ∙ ne_eqb (parts_of base).authority (parts_of base).path (λ e. omega arith))

  pub leads_path : {n : ℕ} → (parts_of base).authority < (parts_of base).path
      → Front (path_at base) (through_last (path_at base)) n → (n ≡ 0 → ⊥)
      → Leads base (Some ((parts_of base).authority + (n - 1)))
  unfolding when◌then◌else◌ part
  leads_path {n} h f z =
      let o = ordered base in
      let size : length (path_at base) ≡ (parts_of base).path - (parts_of base).authority = length_part base (parts_of base).authority ((parts_of base).path - (parts_of base).authority) (omega (arith, o)) in
      let g : Front (path_at base) (without_last (path_at base)) (n - 1) = without-some f z in
      let k : (parts_of base).authority + (n - 1) - (parts_of base).authority ≡ n - 1 = omega arith in
      let last : take (n - 1) (drop (parts_of base).authority base) ≡ without_last (parse base).path =
      sym (take-take (n - 1) ((parts_of base).path - (parts_of base).authority) (drop (parts_of base).authority base) (omega (arith, f.within, size))) ∙ g.is ∙ ap without_last (path_between base) in
      let some : length (through_last (parse base).path) ≡ n =
      ap (λ (q : Bytes). length (through_last q)) (sym (path_between base)) ∙ ap length (sym f.is) ∙ length-take-le n (path_at base) f.within in
      record {
        order = omega arith;
        within = omega (arith, f.within, size, o);
        few = λ _. omega (arith, f.within, size, o);
        is = λ p.
            rw (k, last) (sym (append_snoc (without_last (parse base).path) 47 p) ∙ ap (◌++ p) (sym (without_slash (parse base).path (omega (arith, some)))) ∙ sym (merge_there h p));
      }

  pub leads_bare : {n : ℕ} → (parts_of base).authority < (parts_of base).path
      → Front (path_at base) (through_last (path_at base)) n → n ≡ 0
      → Leads base None
  unfolding when◌then◌else◌
  leads_bare {n} h f z =
      let none : through_last (parse base).path ≡ [] = ap through_last (sym (path_between base)) ∙ sym f.is ∙ rw z in
      record { order = omega arith; within = omega (arith, ordered base); few = unmerged; is = λ p. sym (merge_there h p ∙ ap (◌++ p) none) }

  -- without a path, by whether there is an authority
  module _ (n : (parts_of base).path ≤ (parts_of base).authority) where
    pub leads_authority : (parts_of base).scheme < (parts_of base).authority → Leads base (Some (parts_of base).authority)
    unfolding when◌then◌else◌ ascii part
    leads_authority h =
        let none : (parts_of base).authority - (parts_of base).authority ≡ 0 = omega arith in
        record {
          order = omega arith;
          within = omega (arith, ordered base);
          few = λ _. omega (arith, ordered base);
          is = λ p.
              rw none
              (sym (merge_authority (parse base).scheme (parse base).authority (parse base).path (parse base).query (parse base).fragment p (path_nil base n)
              (has_authority base ∙ lt-ltb (parts_of base).scheme (parts_of base).authority h)));
        }

    pub leads_nothing : (parts_of base).authority ≤ (parts_of base).scheme → Leads base None
    unfolding when◌then◌else◌
    leads_nothing h =
        record {
          order = omega arith;
          within = omega (arith, ordered base);
          few = unmerged;
          is = λ p.
              sym (merge-nothing (parse base).scheme (parse base).authority (parse base).path (parse base).query (parse base).fragment p (path_nil base n)
              (has_authority base ∙ le-ltb (parts_of base).scheme (parts_of base).authority h));
        }

-- ---- 5.2.2, case by case

-- the target's parts; its fragment is the reference's
abbrev made : Option Bytes → Option Bytes → Bytes → Option Bytes → Bytes → Reference
made scheme authority path query reference =
    record { scheme = scheme; authority = authority; path = path; query = query; fragment = (parse reference).fragment }

-- a reference that has a path, and neither scheme nor authority
pub record OnlyPath (reference : Bytes) : Type 0 where
  pub authority : (parts_of reference).authority ≤ 0
  pub path : 0 < (parts_of reference).path

module _ (base reference : Bytes) where
  pub aimed_scheme : 0 < (parts_of reference).scheme
      → Aimed base reference (record {
        front = 0;
        own = (parts_of reference).authority;
        lead = None;
        path = (parts_of reference).path;
        authority = ltb (parts_of reference).scheme (parts_of reference).authority;
      })
  unfolding transform recompose has_form front_of merged_of authority_text query_text fragment_text when◌then◌else◌ part
  aimed_scheme h =
      aimed {r = made (parse reference).scheme (parse reference).authority (remove_dot_segments (parse reference).path) (parse reference).query reference}
      (scheme_text reference ++ authority_text reference) (parse reference).path (rw (has-scheme reference ∙ lt-ltb 0 (parts_of reference).scheme h)) (omega arith) (omega arith) unmerged
      (omega (arith, ordered reference)) (omega (arith, ordered reference)) (take_authority reference) (path_between reference)
      (rw (scheme-text reference, drop_path_texts reference, append_assoc)) (rw (has_authority reference))

  pub aimed_authority : (parts_of reference).scheme ≤ 0 → 0 < (parts_of reference).authority
      → Aimed base reference (record {
        front = (parts_of base).scheme;
        own = (parts_of reference).authority;
        lead = None;
        path = (parts_of reference).path;
        authority = true;
      })
  unfolding transform recompose has_form front_of merged_of authority_text query_text fragment_text when◌then◌else◌ part
  aimed_authority n h =
      let none : is_some (parse reference).scheme ≡ false = has-scheme reference ∙ le-ltb 0 (parts_of reference).scheme n in
      let there : is_some (parse reference).authority ≡ true = has_authority reference ∙ lt-ltb (parts_of reference).scheme (parts_of reference).authority (omega arith) in
      aimed {r = made (parse base).scheme (parse reference).authority (remove_dot_segments (parse reference).path) (parse reference).query reference}
      (scheme_text base ++ authority_text reference) (parse reference).path (rw (none, there)) (omega arith) (omega (arith, ordered base)) unmerged
      (omega (arith, ordered reference)) (omega (arith, ordered reference)) (rw (take-scheme base, take_authority reference, scheme-nil reference n)) (path_between reference)
      (rw (scheme-text base, drop_path_texts reference, append_assoc)) (rw there)

  -- a reference that is a query, a fragment, both or nothing
  pub aimed_query : (parts_of reference).path ≤ 0 → 0 < (parts_of reference).query
      → Aimed base reference (record {
        front = (parts_of base).path;
        own = 0;
        lead = None;
        path = 0;
        authority = ltb (parts_of base).scheme (parts_of base).authority;
      })
  unfolding transform recompose has_form front_of merged_of authority_text query_text fragment_text when◌then◌else◌ part remove_dot_segments turns is_empty begins ascii
  aimed_query n h =
      let o = ordered reference in
      let no_scheme : is_some (parse reference).scheme ≡ false = bare-scheme reference (omega arith) in
      let no_authority : is_some (parse reference).authority ≡ false = bare_authority reference (omega arith) in
      let no-path : (parse reference).path ≡ [] = path_nil reference (omega arith) in
      let query : is_some (parse reference).query ≡ true = has-query reference ∙ lt-ltb (parts_of reference).path (parts_of reference).query (omega arith) in
      let start : (parts_of reference).path ≡ 0 = omega arith in
      let texts : drop 0 reference ≡ query_text reference ++ fragment_text reference = rw start at (drop_path_texts reference) in
      aimed {r = made (parse base).scheme (parse base).authority (parse base).path (parse reference).query reference}
      (scheme_text base ++ authority_text base ++ (parse base).path) [] (rw (no_scheme, no_authority, no-path, query_there (parse reference).query (parse base).query query))
      (omega arith) (omega (arith, ordered base)) unmerged (omega arith) (omega arith)
      (append-nil (take (parts_of base).path base) ∙ take_path base) refl
      (rw (scheme-text base) (simp append_assoc) ∙ ap ((scheme_text base ++ authority_text base ++ (parse base).path) ++◌) (sym texts)) (kept_form base)

  pub aimed_fragment : (parts_of reference).path ≤ 0 → (parts_of reference).query ≤ 0
      → Aimed base reference (record {
        front = (parts_of base).query;
        own = 0;
        lead = None;
        path = 0;
        authority = true;
      })
  unfolding transform recompose has_form front_of merged_of authority_text query_text fragment_text when◌then◌else◌ part remove_dot_segments turns is_empty begins ascii
  aimed_fragment n h =
      let o = ordered reference in
      let no_scheme : is_some (parse reference).scheme ≡ false = bare-scheme reference (omega arith) in
      let no_authority : is_some (parse reference).authority ≡ false = bare_authority reference (omega arith) in
      let no-path : (parse reference).path ≡ [] = path_nil reference (omega arith) in
      let no-query : is_some (parse reference).query ≡ false = has-query reference ∙ le-ltb (parts_of reference).path (parts_of reference).query (omega arith) in
      let start : (parts_of reference).path ≡ 0 = omega arith in
      let texts : drop 0 reference ≡ fragment_text reference =
      (rw start at (drop_path_texts reference)) ∙ ap (◌++ fragment_text reference) (query-nil reference (omega arith)) in
      aimed {r = made (parse base).scheme (parse base).authority (parse base).path (parse base).query reference}
      (scheme_text base ++ authority_text base ++ (parse base).path ++ query_text base) []
      (rw (no_scheme, no_authority, no-path, query_missing (parse reference).query (parse base).query no-query))
      (omega arith) (omega (arith, ordered base)) unmerged (omega arith) (omega arith)
      (append-nil (take (parts_of base).query base) ∙ take-query base) refl
      (rw (scheme-text base) (simp append_assoc) ∙ ap ((scheme_text base ++ authority_text base ++ (parse base).path ++ query_text base) ++◌) (sym texts)) (kept_form base ∙ either_true (ltb (parts_of base).scheme (parts_of base).authority))

  module _ (h : OnlyPath reference) where
    no_scheme : is_some (parse reference).scheme ≡ false
    no_scheme = bare-scheme reference h.authority

    no_authority : is_some (parse reference).authority ≡ false
    no_authority = bare_authority reference h.authority

    path_there : is_empty (parse reference).path ≡ false
    path_there = has_path reference ∙ ne_eqb (parts_of reference).authority (parts_of reference).path (λ e. omega arith)

    pub front_path : part reference 0 ((parts_of reference).path - 0) ≡ (parse reference).path
    unfolding part
    front_path =
        let n : (parts_of reference).path - 0 ≡ (parts_of reference).path = omega arith in
        rw n (take_path reference ∙ rw (scheme-nil reference (omega (arith, ordered reference)), authority_nil reference (omega arith)))

    path_slash : begins (ascii "/") (parse reference).path ≡ eqb 47 (get_or reference 0 0)
    unfolding part
    path_slash =
        let n : (parts_of reference).path - 0 ≡ (parts_of reference).path = omega arith in
        rw (← front_path, n) (first_slash reference (parts_of reference).path h.path (omega (arith, ordered reference)))

    pub aimed_absolute : get_or reference 0 0 ≡ 47
        → Aimed base reference (record {
          front = (parts_of base).authority;
          own = 0;
          lead = None;
          path = (parts_of reference).path;
          authority = ltb (parts_of base).scheme (parts_of base).authority;
        })
    unfolding transform recompose has_form front_of merged_of authority_text query_text fragment_text when◌then◌else◌
    aimed_absolute e =
        let slash : begins (ascii "/") (parse reference).path ≡ true = path_slash ∙ eq-eqb 47 (get_or reference 0 0) (sym e) in
        aimed {r = made (parse base).scheme (parse base).authority (remove_dot_segments (parse reference).path) (parse reference).query reference}
        (scheme_text base ++ authority_text base) (parse reference).path (rw (no_scheme, no_authority, path_there, slash)) (omega arith) (omega (arith, ordered base)) unmerged
        (omega arith) (omega (arith, ordered reference)) (append-nil (take (parts_of base).authority base) ∙ take_authority base) front_path
        (rw (scheme-text base, drop_path_texts reference, append_assoc)) (rw (has_authority base))

    pub aimed_merged : {l : StdOption ℕ} → (get_or reference 0 0 ≡ 47 → ⊥) → Leads base l
        → Aimed base reference (record {
          front = (parts_of base).authority;
          own = 0;
          lead = l;
          path = (parts_of reference).path;
          authority = ltb (parts_of base).scheme (parts_of base).authority;
        })
    unfolding transform recompose has_form front_of merged_of authority_text query_text fragment_text when◌then◌else◌
    aimed_merged {l} f lead =
        let none : begins (ascii "/") (parse reference).path ≡ false = path_slash ∙ ne_eqb 47 (get_or reference 0 0) (λ e. f (sym e)) in
        aimed {r = made (parse base).scheme (parse base).authority (remove_dot_segments (merge (parse base) (parse reference).path)) (parse reference).query reference}
        (scheme_text base ++ authority_text base) (merge (parse base) (parse reference).path) (rw (no_scheme, no_authority, path_there, none)) lead.order lead.within lead.few
        (omega arith) (omega (arith, ordered reference)) (append-nil (take (parts_of base).authority base) ∙ take_authority base) (rw front_path (lead.is (parse reference).path))
        (rw (scheme-text base, drop_path_texts reference, append_assoc)) (rw (has_authority base))
