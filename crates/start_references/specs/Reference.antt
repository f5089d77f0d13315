-- What a resolved reference stands for: the answer of the definitions, and where its text is.
use Rattle.std.specs.Prelude.{Result, Ok, Err, ℕ, ◌+◌, ◌<◌, ◌≤◌, ◌≡◌, refl, Bool, true, false, List, [], ◌∷◌, ◌++◌, length, take, drop}
use Rattle.std.proofs.Common.{sym, ◌∙◌, inl, arith, length-drop, length-take-le}
use Rattle.std.proofs.Math.Path.{ap}
use Rattle.std.specs.Prelude.{Option as Maybe, None, Some}
use denote.Bor.{Bor}
use Rattle.std.proofs.Math.Option.{Option, none, some}
use Rattle.std.proofs.Math.Nat.{add-zero}
use Rattle.spec.specs.Bytes.{Bytes, byte, ◌>>◌, require◌or◌}
use Rattle.spec.specs.Numbers.{Answer, refuse, good}
use Rattle.spec.specs.declared.Refusal.TheVariants.{BadIri}
use Rattle.spec.specs.Limits.{most_name_bytes}
use Rattle.spec.specs.Rfc3986.{resolve, resolves}
use Rattle.spec.specs.Rfc3987.{is_iri, is_iri_reference}
use Rattle.spec.specs.StartTag.{resolved, with_hash}
use Rattle.copy.specs.Copy.{part, stored_at, Put, put-fits, wrote_part, wrote_front, lent_back, part-inside, part_apart, length_stored}
use Rattle.state_words.specs.Kept.{Kept, kept_all, kept_before}
use Rattle.state_words.specs.Words.{pick}
use Rattle.resolve.specs.declared.Resolved.{Resolved}
use Rattle.resolve.specs.declared.ResolveError.{ResolveError}
use Rattle.resolve.specs.declared.ResolveError.TheVariants.{NoForm, TooLong, NoArea}
use Rattle.resolve.specs.Resolve as R
use Rattle.resolve.specs.Resolve.{of_length, need, most_area, result_length, result_formless, result_long, result_room}
use Rattle.start_references.specs.declared.reference.Reference.{Reference}
use Rattle.start_references.specs.declared.reference.Reference.TheVariants.{Missing, Bad, Long, Made}

-- a text, where it is there
unfoldable pub given : Bool → Bytes → Option Bytes
given b s = pick b (some s) none

-- a text that is lent, where it is there
abbrev pub text_if : Maybe (Bor Bytes) → Option Bytes
text_if None = none
text_if (Some s) = some s.now

abbrev pub is_bad : Reference → Bool
is_bad Missing = false
is_bad Bad = true
is_bad Long = false
is_bad (Made n) = false

abbrev pub is_long : Reference → Bool
is_long Missing = false
is_long Bad = false
is_long Long = true
is_long (Made n) = false

-- ---- what an answer says of x, which the definitions answer

-- a text that is longer than an IRI may be
pub record Over (x : Answer (Option Bytes)) : Type 0 where
  pub text : Bytes
  pub is : x ≡ good (some text)
  pub long : 1024 < length text

-- n bytes of the area
pub record Placed (area : List ℕ) (at n : ℕ) (x : Answer (Option Bytes)) : Type 0 where
  pub is : x ≡ good (some (part area at n))
  pub short : n ≤ 1024
  pub within : at + n ≤ length area

abbrev pub Refers : Reference → List ℕ → ℕ → Answer (Option Bytes) → Type 0
Refers Missing area at x = x ≡ good none
Refers Bad area at x = x ≡ refuse BadIri
Refers Long area at x = Over x
Refers (Made n) area at x = Placed area at n x

-- the call that answers r: what stood before the place stays
pub record Resolves (x : Answer (Option Bytes)) (area after : List ℕ) (at : ℕ) (r : Reference) : Type 0 where
  pub is : Refers r after at x
  pub before : Kept area after 0 at
  pub same : length after ≡ length area

-- what is asked of the area: room to resolve from a place on
pub record Room (area : List ℕ) (at : ℕ) : Type 0 where
  pub room : at + 1_027 ≤ length area

pub record RoomForId (value area : List ℕ) : Type 0 where
  pub from : length value ≤ 32_768
  pub room : 1_027 ≤ length area

-- the same answer of the definitions, said otherwise
pub refers_as : {x y : Answer (Option Bytes)} (area : List ℕ) (at : ℕ) (r : Reference) → Refers r area at x → x ≡ y → Refers r area at y
refers_as area at r h e = rw (← e) h

-- an answer stays true while its bytes stay
pub refers_kept : {a b : List ℕ} (at : ℕ) {hi : ℕ} (x : Answer (Option Bytes)) (r : Reference) → Refers r a at x → Kept a b 0 hi → at + 1024 ≤ hi → length b ≡ length a → Refers r b at x
refers_kept at x Missing h k l s = h
refers_kept at x Bad h k l s = h
refers_kept at x Long h k l s = h
refers_kept {a} {b} at {hi} x (Made n) h k l s =
    record {
      is = h.is ∙ ap (λ (t : Bytes). good (some t)) (sym (k.parts at n (omega arith) (omega (arith, h.short))));
      short = h.short;
      within = omega (arith, h.within);
    }

-- ---- the calls, answer by answer

good_iri : (s : Bytes) → is_iri s ≡ true → resolved none (some s) ≡ good (some s)
unfolding resolved ◌>>◌ require◌or◌
good_iri s h = rw h

untouched : {area : List ℕ} {at : ℕ} {x : Answer (Option Bytes)} (r : Reference) → Refers r area at x → Resolves x area area at r
untouched r h = record { is = h; before = kept_all; same = refl }

module _ {area : List ℕ} {at : ℕ} (s : Bytes) where
  -- no reference
  pub none_there : (base : Option Bytes) {there : Bool} → there ≡ false → Resolves (resolved base (given there s)) area area at Missing
  unfolding given resolved
  none_there none h = untouched Missing (rw h)
  none_there (some b) h = untouched Missing (rw h)

  -- no IRI, and no reference to one
  pub no_iri : is_iri s ≡ false → Resolves (resolved none (some s)) area area at Bad
  unfolding resolved ◌>>◌ require◌or◌
  no_iri h = untouched Bad (rw h)

  pub no_reference : (b : Bytes) → is_iri_reference s ≡ false → Resolves (resolved (some b) (some s)) area area at Bad
  unfolding resolved ◌>>◌ require◌or◌
  no_reference b h = untouched Bad (rw h)

  -- an IRI that is too long
  pub long_iri : is_iri s ≡ true → 1024 < length s → Resolves (resolved none (some s)) area area at Long
  long_iri h l = untouched Long (record { text = s; is = good_iri s h; long = l })

-- a text that was put at the place
pub put_there : {area after s : List ℕ} {at n : ℕ} {t : Bool} {x : Answer (Option Bytes)} → Put area at s after t → at + length s ≤ length area → n ≡ length s → n ≤ 1024
    → x ≡ good (some s) → Resolves x area after at (Made n)
put_there {area} {after} {s} {at} {n} p room e l x =
    let w = put-fits p room in
    record {
      is = record { is = x ∙ ap (λ (t : Bytes). good (some t)) (sym (rw e (wrote_part w))); short = l; within = omega (arith, p.same) };
      before = kept_before w;
      same = p.same;
    }

pub put_iri : {area after s : List ℕ} {at : ℕ} {t : Bool} → Put area at s after t → is_iri s ≡ true → length s ≤ 1024 → at + 1_027 ≤ length area
    → Resolves (resolved none (some s)) area after at (Made (length s))
put_iri {area} {after} {s} {at} p h l room = put_there p (omega arith) refl l (good_iri s h)

-- ---- on a base

module _ (base reference : Bytes) (i : is_iri_reference reference ≡ true) where
  good_form : resolves base reference ≡ true → resolved (some base) (some reference) ≡ good (some (resolve base reference))
  unfolding resolved ◌>>◌ require◌or◌
  good_form f = rw (i, f)

  bad_form : resolves base reference ≡ false → resolved (some base) (some reference) ≡ refuse BadIri
  unfolding resolved ◌>>◌ require◌or◌
  bad_form f = rw (i, f)

  module _ {room back : List ℕ} {r : Result Resolved ResolveError} (h : R.Resolves base reference room back r) where
    formless : r ≡ Err NoForm → resolved (some base) (some reference) ≡ refuse BadIri
    formless e = bad_form (result_formless h e)

    too_long_lem : r ≡ Err TooLong → Over (resolved (some base) (some reference))
    unfolding most_name_bytes
    too_long_lem e = let l = result_long h e in record { text = resolve base reference; is = good_form l.0; long = l.1 }

    -- in the part of the area that was lent from the place on and is back
    module _ (area : List ℕ) (at k : ℕ) (lent : room ≡ take k (drop at area)) (fits : at + k ≤ length area) where
      size : length back ≡ k
      size = h.same ∙ rw lent (length-take-le k (drop at area) (rw length-drop (omega arith)))

      returned : take at area ++ (back ++ drop k (drop at area)) ≡ stored_at area at back
      returned = lent_back area at k back size

      back_at : (q : Reference) → Refers q (stored_at area at back) at (resolved (some base) (some reference))
          → Resolves (resolved (some base) (some reference)) area (take at area ++ (back ++ drop k (drop at area))) at q
      back_at q f =
          rw returned
          (record {
            is = f;
            before = record { parts = λ a n l m. part_apart area at back a n (omega (arith, size)) (inl m) };
            same = length_stored area at back (omega (arith, size));
          })

      pub based_formless : r ≡ Err NoForm → Resolves (resolved (some base) (some reference)) area (take at area ++ (back ++ drop k (drop at area))) at Bad
      based_formless e = back_at Bad (formless e)

      pub based_long : r ≡ Err TooLong → Resolves (resolved (some base) (some reference)) area (take at area ++ (back ++ drop k (drop at area))) at Long
      based_long e = back_at Long (too_long_lem e)

      pub based_made : {n : ℕ} → r ≡ of_length n → Resolves (resolved (some base) (some reference)) area (take at area ++ (back ++ drop k (drop at area))) at (Made n)
      unfolding most_name_bytes part
      based_made {n} e =
          let l = result_length h e in
          let there : part (stored_at area at back) at n ≡ resolve base reference =
          rw add-zero at (part-inside area at back 0 n (omega (arith, size)) (omega (arith, l.is.within))) ∙ l.is.is in
          back_at (Made n)
          (record {
            is = good_form l.form ∙ ap (λ (t : Bytes). good (some t)) (sym there);
            short = l.limit;
            within = omega (arith, size, l.is.within, length_stored area at back (omega (arith, size)));
          })

    -- there is an answer
    pub answers : 1_027 ≤ length room → r ≡ Err NoArea → ⊥
    unfolding need most_area most_name_bytes
    answers n e = result_room h (omega arith) e

-- ---- which base there is

module _ {base : Maybe (Bor Bytes)} (s : Bytes) {area after : List ℕ} {at : ℕ} {r : Reference} where
  pub without-base : base ≡ None → Resolves (resolved none (some s)) area after at r → Resolves (resolved (text_if base) (some s)) area after at r
  without-base n h = rw n h

  pub on_base : {b : Bor Bytes} → base ≡ Some b → Resolves (resolved (some b.now) (some s)) area after at r → Resolves (resolved (text_if base) (some s)) area after at r
  on_base n h = rw n h

-- ---- rdf:ID

pub no_id : {area : List ℕ} {at : ℕ} (base : Option Bytes) (v : Bytes) {there : Bool} → there ≡ false → Resolves (resolved base (with_hash (given there v))) area area at Missing
unfolding given with_hash resolved
no_id none v h = untouched Missing (rw h)
no_id (some b) v h = untouched Missing (rw h)

-- the value put behind a "#"
pub hashed : {d v e : List ℕ} {t : Bool} → Put d 1 v e t → length v + 1 ≤ length d → take 1 d ≡ byte "#" ∷ [] → take (length v + 1) e ≡ byte "#" ∷ v
hashed {d} {v} {e} p l h =
    let z : length v + 1 ≡ 1 + length v = omega arith in
    rw z (wrote_front (put-fits p (omega arith)) ∙ rw h)

pub id_resolved : {area after : List ℕ} {at : ℕ} {r : Reference} (base : Option Bytes) (v s : Bytes) → s ≡ byte "#" ∷ v
    → Resolves (resolved base (some s)) area after at r → Resolves (resolved base (with_hash (some v))) area after at r
unfolding with_hash
id_resolved base v s e q = rw (← e) q
