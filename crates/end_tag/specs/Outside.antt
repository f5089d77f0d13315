-- Any end tag outside Literal content: 6, or it matches the element on top.
use Rattle.std.specs.Prelude.{ℕ, ◌<◌, ◌≡◌, refl, true, false, List, [], ◌∷◌, length}
use Rattle.std.proofs.Common.{ap, ◌∙◌, arith}
use Rattle.std.proofs.Math.Option.{none, some}
use Rattle.spec.specs.Bytes.{Bytes, same, ◌>>◌, require◌or◌}
use Rattle.spec.specs.Numbers.{refuse}
use Rattle.spec.specs.declared.Refusal.TheVariants.{NotWellFormed}
use Rattle.spec.specs.Pyx.{closing}
use Rattle.spec.specs.Document.{Frame as Element, Doc}
use Rattle.spec.specs.EndTag.{close_element}
use Rattle.spec.specs.RdfXml.{on_event}
use Rattle.spec.proofs.Bytes.{same_true}
use Rattle.copy.specs.Copy.{part}
use Rattle.state.specs.declared.Registers.{Registers}
use Rattle.state.specs.Meaning.{element_of, elements_of, doc_of}
use Rattle.state.specs.Held.{depth}
use Rattle.state.specs.declared.Span.{Span}
use Rattle.std.specs.declared.option.Option as std
use Rattle.std.specs.Prelude.{Some, None}
use Rattle.state_stack.specs.Calls.{top_frame}
use Rattle.state_inner.specs.Calls.{name_in}
use Rattle.state_inner.specs.Laws.{found, first_name, name_read}
use Rattle.event.specs.Result.{Asks, Handles, handled_by, refused_on, stopped}
use Rattle.end_tag.specs.Ends.{Closing, Ends, top_name, top_first}
use Rattle.std.specs.Prelude.{Result, Err}
use Rattle.event.specs.declared.Done.{Done}
use Rattle.spec.specs.declared.Refusal.{Refusal}

-- ---- 6: no element is open, or its name as written is another

close_none : (n : Bytes) (es : List Element) (d : Doc) → none ≡ first_name es → close_element n es d ≡ refuse NotWellFormed
unfolding close_element first_name
close_none n [] d p = refl
close_none n (e ∷ es) d p = let z : ◌≡◌ {A = ℕ} 0 1 = cc in absurd (omega arith)

close_other : (n s : Bytes) (es : List Element) (d : Doc) → some s ≡ first_name es → same n s ≡ false → close_element n es d ≡ refuse NotWellFormed
unfolding close_element first_name ◌>>◌ require◌or◌
close_other n s [] d p q = let z : ◌≡◌ {A = ℕ} 0 1 = cc in absurd (omega arith)
close_other n s (e ∷ es) d p q = let y : s ≡ e.name = cc in rw (rw y at q)

some_open : (s : Bytes) (es : List Element) → some s ≡ first_name es → 0 < length es
unfolding first_name
some_open s [] h = let z : ◌≡◌ {A = ℕ} 0 1 = cc in absurd (omega arith)
some_open s (x ∷ es) h = omega arith

module _ {r : Registers} {fs bs is w : List ℕ} (a : Asks r fs bs is w) (name : Bytes) where
  no_match : {out : List ℕ} → ((ids : List Bytes) → close_element name (elements_of r fs bs is w) (doc_of r fs bs is w ids) ≡ refuse NotWellFormed)
      → Handles (closing name) r (Err NotWellFormed) fs bs is w out fs bs is w out
  unfolding on_event doc_of
  no_match {out} h =
      record { result = λ ids i. stopped (handled_by (closing name) (length out) (doc_of r fs bs is w ids) (h ids) ∙ refused_on (length out) NotWellFormed) }

  read : {f : std.Option Span} → f ≡ name_in r fs is → found f w ≡ first_name (elements_of r fs bs is w)
  read e = ap (λ (x : std.Option Span). found x w) e ∙ name_read a.valid

  pub none_open : {out : List ℕ} → None ≡ name_in r fs is → Handles (closing name) r (Err NotWellFormed) fs bs is w out fs bs is w out
  unfolding found
  none_open e = no_match (λ ids. close_none name (elements_of r fs bs is w) (doc_of r fs bs is w ids) (read e))

  module _ {f : Span} (e : Some f ≡ name_in r fs is) where
    module _ {s : Bytes} (q : s ≡ part w f.at f.len) where
      first_is : some s ≡ first_name (elements_of r fs bs is w)
      unfolding found
      first_is = rw q (read e)

      pub other_name : {out : List ℕ} → same name s ≡ false → Handles (closing name) r (Err NotWellFormed) fs bs is w out fs bs is w out
      other_name h = no_match (λ ids. close_other name s (elements_of r fs bs is w) (doc_of r fs bs is w ids) first_is h)

      pub is_closing : r.counts.inner ≡ 0 → Closing (top_frame r fs).kind r fs bs is w
      is_closing z =
          record {
            valid = a.valid;
            mark = a.mark;
            flat = z;
            deep = omega (arith, some_open s (elements_of r fs bs is w) first_is, depth r fs bs is w);
            kind = refl;
          }

      named_so : r.counts.inner ≡ 0 → first_name (elements_of r fs bs is w) ≡ some (top_name r fs w)
      unfolding first_name element_of
      named_so z = rw (top_first (is_closing z))

      -- ---- it matches
      pub matched : {o : Result Done Refusal} {out gs v out' : List ℕ} → r.counts.inner ≡ 0 → same name s ≡ true → Ends (top_frame r fs).kind r o fs w out gs v out' → Handles (closing name) r o fs bs is w out gs bs is v out'
      matched z h x =
          let y : some s ≡ some (top_name r fs w) = first_is ∙ named_so z in
          let n : name ≡ top_name r fs w = same_true name s h ∙ (cc) in
          rw n (x.handles bs is (is_closing z))
