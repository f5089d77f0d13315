-- What `resolve` promises: RFC 3986, section 5.2, within the limit of document 01.
use Rattle.std.proofs.Math.Path.{◌≡◌, refl, ap}
use Rattle.std.proofs.Common.{sym, ◌∙◌, length-append, length-take}
use Rattle.std.specs.Prelude.{Some, None, Result, Ok, Err, Bool, ◌&&◌, ◌||◌, eqb, leb, ltb, drop}
use Rattle.std.proofs.Math.Bool.{true, false, not}
use mathlib.Core.List.{[], ◌∷◌, ◌++◌, append_assoc}
use Prim.Native.Nat.{ℕ, zero, suc, ◌+◌, ◌-◌, min, ◌<◌, ◌≤◌}
use native.Mathlib.Omega.{arith}
use Rattle.std.proofs.Math.ListN.{length, take}
use Rattle.std.proofs.Math.Seq.{take-add, length-take-le}
use borrow.Author.Tests.{ne_eqb, le-leb, lt-leb, leb-true, leb-false, ltb-true, ltb-false, lt-ltb}
use Rattle.spec.specs.Bytes.{Bytes, ascii, when◌then◌else◌, same, begins, split}
use Rattle.spec.specs.Limits.{most_name_bytes}
use Rattle.spec.specs.Rfc3986.{remove_dot_segments, resolve, resolves}
use Rattle.copy.specs.Copy.{part, length_part, Put, Wrote, put-fits, then as row, wrote_front, wrote_same}
use Rattle.resolve.specs.Texts.{Front, Plain}
use Rattle.resolve.specs.Last.{Beginning, beginning-length}
use Rattle.resolve.specs.Turns.{removed_length}
use Rattle.resolve.specs.Segments.{appended, outputs, begun_after, removed_on_the_way, merged_on_the_way}
use Rattle.resolve.specs.Output.{backs, backs-beginning, Beyond, Within, Stands, stands-begins, Grown}
use Rattle.resolve.specs.Target.{leads, lead_end, Aimed, front_of, merged_of, whole_of, form_of}
use Rattle.resolve.specs.declared.path.Output.{Output}
use Rattle.resolve.specs.declared.target.Target.{Target}
use Rattle.resolve.specs.declared.Resolved.{Resolved}
use Rattle.resolve.specs.declared.ResolveError.{ResolveError}
use Rattle.resolve.specs.declared.ResolveError.TheVariants.{NoForm, TooLong, NoArea}

-- how long an area has to be at most: an IRI that is too long by a byte, and two bytes of its path
unfoldable pub most_area : ℕ
most_area = most_name_bytes + 3

-- by the lengths alone
abbrev pub needed : ℕ → ℕ → ℕ
needed base reference = min (base + reference + 1) 1_027

-- how long the area has to be
unfoldable pub need : Bytes → Bytes → ℕ
need base reference = min (length base + length reference + 1) most_area

-- the test that `has_room` makes where the area has not that many
pub room_or : (base reference area : ℕ) → area < 1_027 → base ≤ area → ltb reference (area - base) ≡ leb (needed base reference) area
room_or base reference area l h = go (ltb reference (area - base)) refl
  where
    go : (t : Bool) → ltb reference (area - base) ≡ t → t ≡ leb (needed base reference) area
    go true e = sym (le-leb (needed base reference) area (omega (arith, ltb-true reference (area - base) e)))
    go false e = sym (lt-leb (needed base reference) area (omega (arith, ltb-false reference (area - base) e)))

pub need_is : (base reference : Bytes) → need base reference ≡ needed (length base) (length reference)
unfolding need most_area most_name_bytes
need_is base reference = refl

-- so many bytes of the area are the reference
abbrev pub of_length : ℕ → Result Resolved ResolveError
of_length n = Ok (record { len = n })

abbrev len_of : Result Resolved ResolveError → ℕ
len_of (Ok r) = r.len
len_of (Err e) = 0

-- the answer on a text, where there is an area: `form` says whether the text is a form that RFC 3986 has
unfoldable pub answered : Bool → Bytes → Result Resolved ResolveError
answered form text = when form then (when leb (length text) most_name_bytes then of_length (length text) else Err TooLong) else Err NoForm

-- What `resolve` answers, `r`, and leaves in the area, `after`. Of a refusal by form or length nothing is said of what the area holds,
-- nor of what stands there behind the resolved reference.
pub record Resolves (base reference area after : Bytes) (r : Result Resolved ResolveError) : Type 0 where
  pub short : length area < need base reference → (r ≡ Err NoArea) × (after ≡ area)
  pub enough : need base reference ≤ length area → r ≡ answered (resolves base reference) (resolve base reference)
  pub written : (n : ℕ) → r ≡ of_length n → take n after ≡ resolve base reference
  pub same : length after ≡ length area

-- ---- what stands before the path

-- `from` is where the path begins, or one byte behind the longest IRI
pub record Fronted (area : Bytes) (f after : Bytes) (from : ℕ) : Type 0 where
  pub size : from ≡ min (length f) (most_name_bytes + 1)
  pub front : from ≤ most_name_bytes → take from after ≡ f
  pub same : length after ≡ length area
  pub within : from ≤ length area

length_front : (base reference : Bytes) (t : Target) → Aimed base reference t → length (front_of base reference t) ≡ t.front + t.own
unfolding front_of
length_front base reference t a =
    length-append (take t.front base) (take t.own reference)
    ∙ rw (length-take-le t.front base (omega (arith, a.order, a.lead)), length-take-le t.own reference (omega (arith, a.own, a.path)))

module _ {base reference area : Bytes} {t : Target} (a : Aimed base reference t) (room : need base reference ≤ length area) where
  pub fronted_long : most_name_bytes < t.front + t.own → Fronted area (front_of base reference t) area (most_name_bytes + 1)
  unfolding need most_area most_name_bytes
  fronted_long l =
      let size = length_front base reference t a in
      record { size = omega (arith, size); front = λ h. absurd (omega arith); same = refl; within = omega (arith, a.order, a.lead, a.own, a.path) }

  pub fronted_fits : {e after : Bytes} {x y : Bool} → t.front + t.own ≤ most_name_bytes → Put area 0 (take t.front base) e x
      → Put e t.front (take t.own reference) after y → Fronted area (front_of base reference t) after (t.front + t.own)
  unfolding need most_area most_name_bytes front_of
  fronted_fits {e} {after} l p q =
      let size = length_front base reference t a in
      let k : length (take t.front base) ≡ t.front = length-take-le t.front base (omega (arith, a.order, a.lead)) in
      let n : length (take t.own reference) ≡ t.own = length-take-le t.own reference (omega (arith, a.own, a.path)) in
      let first : Wrote area e 0 t.front (take t.front base) = upto (put-fits p (omega (arith, a.order, a.lead, a.own, a.path))) (omega arith) in
      let second : Wrote e after t.front (t.front + t.own) (take t.own reference) =
      upto (put-fits q (omega (arith, a.order, a.lead, a.own, a.path, p.same))) (omega arith) in
      let both = row first second in
      record { size = omega (arith, size); front = λ _. wrote_front both; same = wrote_same both; within = omega (arith, a.order, a.lead, a.own, a.path) }
    where
      upto : {d e : Bytes} {at to up : ℕ} {s : Bytes} → Wrote d e at to s → to ≡ up → Wrote d e at up s
      upto {d} {e} {at} {to} {up} {s} w q = rw (← q) w

-- ---- the path

pub record Pathed (area : Bytes) (from : ℕ) (p after : Bytes) (out : Output) : Type 0 where
  pub same : length after ≡ length area
  pub before : take from after ≡ take from area
  pub within : Within after from out
  pub stands : Stands after from out p

-- before its first segment
abbrev pub empty : ℕ → Output
empty from = record { end = from; beyond = 0; begun = false }

module _ (base reference : Bytes) (t : Target) {area after : Bytes} {from k : ℕ} {r : Output} where
  pub pathed_own : {b : Bool} → t.lead ≡ None → Grown area after from (empty from) r k b (outputs false false (split 47 (part reference t.own (t.path - t.own))))
      → Pathed area from (remove_dot_segments (merged_of base reference t)) after r
  unfolding merged_of when◌then◌else◌
  pathed_own e g =
      record {
        same = g.same;
        before = g.before;
        within = g.within;
        stands = rw (e, removed_on_the_way (part reference t.own (t.path - t.own))) (g.stands [] stands-begins);
      }

  pub pathed_merged : {mid : Bytes} {o : Output} {l end : ℕ} {x : Bool} → t.lead ≡ Some end
      → Grown area mid from (empty from) o l (begun_after false (split 47 (part base t.front (end - t.front)))) (outputs false true (split 47 (part base t.front (end - t.front))))
      → Grown mid after from o r k x (outputs o.begun false (split 47 (part reference t.own (t.path - t.own))))
      → Pathed area from (remove_dot_segments (merged_of base reference t)) after r
  unfolding merged_of when◌then◌else◌
  pathed_merged {end = end} e g h =
      record {
        same = h.same ∙ g.same;
        before = h.before ∙ g.before;
        within = h.within;
        stands =
            rw (e, merged_on_the_way (part base t.front (end - t.front)) (part reference t.own (t.path - t.own)), ← g.begun)
            (h.stands (outputs false true (split 47 (part base t.front (end - t.front))) []) (g.stands [] stands-begins));
      }

-- ---- the last step

-- `f` and `p` are what stands before the path and the path, and there is room for them and `rest` bytes, or for the longest IRI
pub record Made (area : Bytes) (from : ℕ) (out : Output) (rest : ℕ) (f p : Bytes) : Type 0 where
  pub size : from ≡ min (length f) (most_name_bytes + 1)
  pub front : from ≤ most_name_bytes → take from area ≡ f
  pub within : Within area from out
  pub stands : Stands area from out p
  pub room : min (length f + length p + rest) most_area ≤ length area

-- as `Resolves`, for these texts and `q` behind them
pub record Recomposed (authority : Bool) (f p q area after : Bytes) (r : Result Resolved ResolveError) : Type 0 where
  pub is : r ≡ answered (authority || not (begins (ascii "//") p)) (f ++ (p ++ q))
  pub written : (n : ℕ) → r ≡ of_length n → take n after ≡ f ++ (p ++ q)
  pub same : length after ≡ length area

-- the test that `has_form` makes on what stands of a path
unfoldable pub formed : Bool → Bytes → ℕ → Bool
formed authority path beyond = authority || not ((ltb 0 beyond && same (ascii "/") path) || begins (ascii "//") path)

module _ (path : Bytes) (beyond : ℕ) {authority : Bool} where
  pub formed_authority : authority ≡ true → true ≡ formed authority path beyond
  unfolding formed
  formed_authority e = rw e

  module _ {t : Bool} (n : authority ≡ false) (e : t ≡ same (ascii "/") path) where
    pub formed_slash : (ltb 0 beyond && t) ≡ true → false ≡ formed authority path beyond
    unfolding formed
    formed_slash h = rw (n, ← e, h)

    pub formed-other : {s : Bool} → (ltb 0 beyond && t) ≡ false → s ≡ begins (ascii "//") path → not s ≡ formed authority path beyond
    unfolding formed
    formed-other h b = rw (n, ← e, h, b)

two : (u : Bytes) → 2 < length u → length (ascii "//") ≤ length u
unfolding ascii
two u h = omega arith

begins-longer : (w u r : Bytes) → length w ≤ length u → begins w (u ++ r) ≡ begins w u
unfolding begins
begins-longer [] u r h = refl
begins-longer (a ∷ w) [] r h = absurd (omega arith)
begins-longer (a ∷ w) (b ∷ u) r h = rw (begins-longer w u r (omega arith))

-- what begins with a segment that has no room: its "/" is the second one where a "/" alone stands
led_form : (s f : Bytes) → Plain s → 2 < length (f ++ 47 ∷ s) → begins (47 ∷ 47 ∷ []) (f ++ 47 ∷ s) ≡ (same (47 ∷ []) f || begins (47 ∷ 47 ∷ []) f)
unfolding begins same
led_form [] [] h l = absurd (omega arith)
led_form (a ∷ s) [] h l = rw (ne_eqb 47 a (λ (e : 47 ≡ a). h.0 (sym e)))
led_form s (a ∷ []) h l = go (eqb 47 a)
  where
    go : (t : Bool) → (t && true) ≡ ((t && true) || (t && false))
    go true = refl
    go false = refl
led_form s (a ∷ (b ∷ f)) h l = go (eqb 47 a)
  where
    go : (t : Bool) → (t && (eqb 47 b && true)) ≡ ((t && false) || (t && (eqb 47 b && true)))
    go true = refl
    go false = refl

form_beyond : (led : Bool) (s f : Bytes) → Plain s → (led ≡ false → f ≡ []) → 2 < length (appended led s f)
    → begins (ascii "//") (appended led s f) ≡ (same (ascii "/") f || begins (ascii "//") f)
unfolding appended begins same ascii
form_beyond true s f h e l = led_form s f h l
form_beyond false [] f h e l = absurd (omega (arith, length-append f [], ap length (e refl)))
form_beyond false (a ∷ s) f h e l = rw (e refl, ne_eqb 47 a (λ (x : 47 ≡ a). h.0 (sym x)))

-- what stands of the path
abbrev pub stood : Bytes → ℕ → Output → Bytes
stood area from out = part area from (out.end - from)

module _ {area : Bytes} {from rest : ℕ} {out : Output} {f p : Bytes} (m : Made area from out rest f p) where
  -- where a segment has no room, the whole is too long, and the room is the most that is asked for
  module _ {u : Bytes} (b : Beyond (stood area from out) u (length area - from)) (g : Beginning u p) where
    too_long_lem : most_name_bytes < length f + length p + rest
    unfolding most_area most_name_bytes
    too_long_lem = omega (arith, m.size, m.room, b.long, beginning-length g)

    room_beyond : from + 2 ≤ length area
    unfolding most_area most_name_bytes
    room_beyond = omega (arith, m.size, m.room, b.long, beginning-length g)

    form_there : begins (ascii "//") p ≡ (same (ascii "/") (stood area from out) || begins (ascii "//") (stood area from out))
    form_there =
        let long : 2 < length u = omega (arith, b.long, room_beyond) in
        ap (begins (ascii "//")) g.is ∙ begins-longer (ascii "//") u g.rest (two u long) ∙ ap (begins (ascii "//")) b.is
        ∙ form_beyond b.led b.segment (stood area from out) b.plain b.first (rw b.is at long)

  pub form_told : (authority : Bool) → formed authority (stood area from out) out.beyond ≡ (authority || not (begins (ascii "//") p))
  unfolding formed backs
  form_told authority = ap (λ (t : Bool). authority || not t) (go out.beyond refl)
    where
      go : (n : ℕ) → out.beyond ≡ n → ((ltb 0 n && same (ascii "/") (stood area from out)) || begins (ascii "//") (stood area from out)) ≡ begins (ascii "//") p
      go zero e = ap (begins (ascii "//")) (rw e at m.stands.is)
      go (suc n) e = rw (lt-ltb 0 (suc n) (omega arith)) (sym (form_there (m.stands.beyond n e) (backs-beginning n p)))

  module _ {t : Bool} (authority : Bool) (q : Bytes) (r : length q ≡ rest) (e : t ≡ formed authority (stood area from out) out.beyond) where
    size-whole : length (f ++ (p ++ q)) ≡ length f + length p + rest
    size-whole = length-append f (p ++ q) ∙ omega (arith, length-append p q, r)

    told : t ≡ (authority || not (begins (ascii "//") p))
    told = e ∙ form_told authority

    pub recomposed_formless : t ≡ false → Recomposed authority f p q area area (Err NoForm)
    unfolding answered when◌then◌else◌
    recomposed_formless n =
        record { is = rw (sym told ∙ n); written = λ k x. absurd (let z : ◌≡◌ {A = ℕ} 0 1 = cc in omega arith); same = refl }

    long : t ≡ true → most_name_bytes < length f + length p + rest → Recomposed authority f p q area area (Err TooLong)
    unfolding answered when◌then◌else◌
    long y l =
        record {
          is = rw (sym told ∙ y, lt-leb (length (f ++ (p ++ q))) most_name_bytes (omega (arith, size-whole)));
          written = λ k x. absurd (let z : ◌≡◌ {A = ℕ} 0 1 = cc in omega arith);
          same = refl;
        }

    pub recomposed_beyond : t ≡ true → 0 < out.beyond → Recomposed authority f p q area area (Err TooLong)
    recomposed_beyond y z = long y (too_long_lem (m.stands.beyond (out.beyond - 1) (omega arith)) (backs-beginning (out.beyond - 1) p))

    whole_path : out.beyond ≤ 0 → stood area from out ≡ p
    unfolding backs
    whole_path z = let none : out.beyond ≡ 0 = omega arith in rw none at m.stands.is

    size_path : out.beyond ≤ 0 → length p ≡ out.end - from
    size_path z = ap length (sym (whole_path z)) ∙ length_part area from (out.end - from) (omega (arith, m.within))

    pub recomposed_long : t ≡ true → out.beyond ≤ 0 → most_name_bytes < out.end + rest → Recomposed authority f p q area area (Err TooLong)
    recomposed_long y z l = long y (omega (arith, m.size, m.within, size_path z))

    pub recomposed_whole : {after : Bytes} {s : Bool} → t ≡ true → out.beyond ≤ 0 → out.end + rest ≤ most_name_bytes → Put area out.end q after s
        → Recomposed authority f p q area after (of_length (out.end + rest))
    unfolding answered when◌then◌else◌ most_area part
    recomposed_whole {after} y z l w =
        let size : length f + length p ≡ out.end = omega (arith, m.size, m.within, size_path z) in
        let wrote : Wrote area after out.end (out.end + length q) q = put-fits w (omega (arith, m.room, r, size)) in
        let front : take out.end area ≡ f ++ p =
        (let k : out.end ≡ from + (out.end - from) = omega (arith, m.within) in
        ap (λ (n : ℕ). take n area) k ∙ take-add from (out.end - from) area ∙ rw (m.front (omega (arith, m.within)), whole_path z)) in
        record {
          is = rw (sym told ∙ y, le-leb (length (f ++ (p ++ q))) most_name_bytes (omega (arith, size-whole, size)), size-whole, size);
          written = λ n x.
              let k : n ≡ out.end + rest = sym (ap len_of x) in
              rw (k, ← r) (wrote_front wrote ∙ rw front (append_assoc f p q));
          same = wrote_same wrote;
        }

length_merged : (base reference : Bytes) (t : Target) → Aimed base reference t → length (merged_of base reference t) ≤ lead_end t.lead t.front - t.front + 1 + (t.path - t.own)
unfolding merged_of when◌then◌else◌
length_merged base reference t a = go (leads t.lead)
  where
    p : Bytes
    p = part reference t.own (t.path - t.own)

    go : (m : Bool) → length (when m then part base t.front (lead_end t.lead t.front - t.front) ++ 47 ∷ p else p) ≤ lead_end t.lead t.front - t.front + 1 + (t.path - t.own)
    go true =
        omega (
          arith,
          length-append (part base t.front (lead_end t.lead t.front - t.front)) (47 ∷ p),
          length_part base t.front (lead_end t.lead t.front - t.front) (omega (arith, a.order, a.lead)),
          length_part reference t.own (t.path - t.own) (omega (arith, a.own, a.path)),
        )
    go false = omega (arith, length_part reference t.own (t.path - t.own) (omega (arith, a.own, a.path)))

pub result_none : {base reference area : Bytes} → length area < need base reference → Resolves base reference area area (Err NoArea)
result_none {base} {reference} {area} h =
    record {
      short = λ _. (refl, refl);
      enough = λ e. absurd (omega arith);
      written = λ n e. absurd (let z : ◌≡◌ {A = ℕ} 0 1 = cc in omega arith);
      same = refl;
    }

pub made : {base reference area mid after : Bytes} {t : Target} {from : ℕ} {out : Output} → Aimed base reference t → need base reference ≤ length area
    → Fronted area (front_of base reference t) mid from → Pathed mid from (remove_dot_segments (merged_of base reference t)) after out
    → Made after from out (length reference - t.path) (front_of base reference t) (remove_dot_segments (merged_of base reference t))
unfolding need
made {base} {reference} {t = t} a room f p =
    record {
      size = f.size;
      front = λ l. p.before ∙ f.front l;
      within = p.within;
      stands = p.stands;
      room =
          omega (
            arith,
            p.same,
            f.same,
            length_front base reference t a,
            length_merged base reference t a,
            removed_length (merged_of base reference t),
            a.order,
            a.lead,
            a.own,
            a.path,
          );
    }

pub result_made : {base reference area mid after : Bytes} {t : Target} {r : Result Resolved ResolveError} → Aimed base reference t → need base reference ≤ length area → length mid ≡ length area
    → Recomposed t.authority (front_of base reference t) (remove_dot_segments (merged_of base reference t)) (drop t.path reference) mid after r
    → Resolves base reference area after r
unfolding whole_of form_of
result_made a room same c =
    record {
      short = λ s. absurd (omega arith);
      enough = λ _. c.is ∙ rw (a.form, a.result);
      written = λ n e. c.written n e ∙ sym a.result;
      same = c.same ∙ same;
    }

-- ---- what a caller learns from the answer

-- `n` bytes of the area are the reference on the base, which has a form and is not too long
pub record Holds (base reference after : Bytes) (n : ℕ) : Type 0 where
  pub form : resolves base reference ≡ true
  pub size : n ≡ length (resolve base reference)
  pub limit : n ≤ most_name_bytes
  pub is : Front after (resolve base reference) n

-- what each answer says of the text
abbrev Said : Bool → Bytes → Result Resolved ResolveError → Type 0
Said form text (Ok r) = (form ≡ true) × (r.len ≡ length text) × (r.len ≤ most_name_bytes)
Said form text (Err NoForm) = form ≡ false
Said form text (Err TooLong) = (form ≡ true) × (most_name_bytes < length text)
Said form text (Err NoArea) = ⊥

said : (form : Bool) (text : Bytes) → Said form text (answered form text)
unfolding answered when◌then◌else◌
said false text = refl
said true text = go (leb (length text) most_name_bytes) refl
  where
    go : (t : Bool) → leb (length text) most_name_bytes ≡ t → Said true text (when t then of_length (length text) else Err TooLong)
    go true e = (refl, refl, leb-true (length text) most_name_bytes e)
    go false e = (refl, leb-false (length text) most_name_bytes e)

module _ {base reference area after : Bytes} {r : Result Resolved ResolveError} (h : Resolves base reference area after r) where
  says : {q : Result Resolved ResolveError} → r ≡ q → (q ≡ Err NoArea → ⊥) → Said (resolves base reference) (resolve base reference) q
  says {q} e f = go (leb (need base reference) (length area)) refl
    where
      go : (t : Bool) → leb (need base reference) (length area) ≡ t → Said (resolves base reference) (resolve base reference) q
      go true k = rw (sym e ∙ h.enough (leb-true (need base reference) (length area) k)) (said (resolves base reference) (resolve base reference))
      go false k = absurd (f (sym e ∙ (h.short (leb-false (need base reference) (length area) k)).0))

  pub result_length : {n : ℕ} → r ≡ of_length n → Holds base reference after n
  result_length {n} e =
      let s = says e (λ (q : of_length n ≡ Err NoArea). let z : ◌≡◌ {A = ℕ} 0 1 = cc in omega arith) in
      let t = h.written n e in
      record {
        form = s.0;
        size = s.1;
        limit = s.2;
        is = record { within = omega (arith, s.1, ap length t, length-take n after); is = t };
      }

  pub result_formless : r ≡ Err NoForm → resolves base reference ≡ false
  result_formless e = says e (λ (q : Err NoForm ≡ Err NoArea). let z : ◌≡◌ {A = ℕ} 0 1 = cc in omega arith)

  pub result_long : r ≡ Err TooLong → (resolves base reference ≡ true) × (most_name_bytes < length (resolve base reference))
  result_long e = says e (λ (q : Err TooLong ≡ Err NoArea). let z : ◌≡◌ {A = ℕ} 0 1 = cc in omega arith)

  -- with room enough there is an answer on the text
  pub result_room : need base reference ≤ length area → r ≡ Err NoArea → ⊥
  result_room k e = rw (sym (h.enough k) ∙ e) at (said (resolves base reference) (resolve base reference))

-- nothing else is a result: the answers are the same, and so are the bytes that they count
pub unique : {base reference area e f : Bytes} {q r : Result Resolved ResolveError} → Resolves base reference area e q → Resolves base reference area f r → q ≡ r
unique {base} {reference} {area} {e} {f} {q} {r} h k = go (leb (need base reference) (length area)) refl
  where
    go : (t : Bool) → leb (need base reference) (length area) ≡ t → q ≡ r
    go true c = let room = leb-true (need base reference) (length area) c in h.enough room ∙ sym (k.enough room)
    go false c = let none = leb-false (need base reference) (length area) c in (h.short none).0 ∙ sym (k.short none).0

pub unique_bytes : {base reference area e f : Bytes} {q r : Result Resolved ResolveError} {n : ℕ} → Resolves base reference area e q → Resolves base reference area f r → q ≡ of_length n
    → take n e ≡ take n f
unique_bytes {n = n} h k c = h.written n c ∙ sym (k.written n (sym (unique h k) ∙ c))
