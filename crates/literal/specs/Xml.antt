-- XML text that is added: which property keeps it, and what the open elements hold then.
use Prim.Native.Nat.{ℕ, zero, suc, ◌+◌, ◌-◌}
use Rattle.std.specs.Prelude.{◌≡◌, Bool}
use Rattle.std.proofs.Math.Path.{refl, ap}
use Rattle.std.proofs.Common.{sym, ◌∙◌, eq-eqb}
use Rattle.std.proofs.Math.Bool.{true, false}
use Rattle.std.proofs.lemmas.Bool.{false≢true}
use mathlib.Core.List.{List, [], ◌∷◌, ◌++◌}
use native.Mathlib.Omega.{arith}
use Rattle.std.proofs.Math.ListN.{length, length-append}
use Rattle.spec.specs.Bytes.{Bytes, when◌then◌else◌, total}
use Rattle.spec.specs.NTriples.{Subject}
use Rattle.spec.specs.Document.{default, collection, literal, other, Kind as What, rdf_rdf, wrapper, node_element, property_element, xml_element, Frame as Element, with_kind, on_value, is_xml_element, change_value, value_bytes, kind_bytes, frame_bytes}
use Rattle.spec.specs.XmlLiteral.{takes_xml}
use Rattle.state_words.specs.declared.Kind.{Kind}
use Rattle.state_words.specs.declared.Kind.TheVariants.{Rdf, NodeElt, PropertyElt, ParseTypeCollectionPropertyElt, ParseTypeLiteralPropertyElt, ParseTypeOtherPropertyElt, Wrapper}
use Rattle.state_words.specs.declared.Frame.{Frame}
use Rattle.state_words.specs.Words.{frame_at, row_at}
use Rattle.state.specs.declared.Registers.{Registers}
use Rattle.state.specs.Meaning.{what_of, element_of, frames_of, inner_of, inners_of, subject_below, elements_of}
use Rattle.state.specs.Valid.{Valid}
use Rattle.state_stack.specs.Calls.{top_frame, same_kind}
use Rattle.state_stack.specs.Change.{top_element}
use Rattle.state_stack.specs.Top.{what_outside}
use Rattle.state_stack.specs.Laws.{topmost}

-- ---- which property keeps XML text

unfoldable pub is_literal : What → Bool
is_literal rdf_rdf = false
is_literal (wrapper b) = false
is_literal (node_element s li) = false
is_literal (property_element p (default d o)) = false
is_literal (property_element p (collection cs)) = false
is_literal (property_element p (literal x)) = true
is_literal (property_element p other) = false
is_literal xml_element = false

-- is the innermost open element outside Literal content a Literal property?
unfoldable pub keeps_xml : List Element → Bool
keeps_xml [] = false
keeps_xml (e ∷ es) = when is_xml_element e.kind then keeps_xml es else is_literal e.kind

module _ (x : Bytes) where
  -- if not, there is nothing to add
  pub adds_nothing : (es : List Element) → keeps_xml es ≡ false → change_value (takes_xml x) es ≡ es
  unfolding keeps_xml change_value is_xml_element is_literal on_value takes_xml with_kind when◌then◌else◌
  adds_nothing [] h = refl
  adds_nothing (e ∷ es) h = go e.kind refl (adds_nothing es) h
    where
      go : (k : What) → e.kind ≡ k → (keeps_xml es ≡ false → change_value (takes_xml x) es ≡ es) → (when is_xml_element k then keeps_xml es else is_literal k) ≡ false
          → (when is_xml_element k then e ∷ change_value (takes_xml x) es else with_kind (on_value (takes_xml x) k) e ∷ es) ≡ e ∷ es
      go rdf_rdf p i q = rw (← p)
      go (wrapper b) p i q = rw (← p)
      go (node_element s li) p i q = rw (← p)
      go (property_element a (default d o)) p i q = rw (← p)
      go (property_element a (collection cs)) p i q = rw (← p)
      go (property_element a (literal y)) p i q = absurd (false≢true (sym q))
      go (property_element a other) p i q = rw (← p)
      go xml_element p i q = ap (e ∷◌) (i q)

  -- if so, all of it is held
  pub adds_bytes : (es : List Element) → keeps_xml es ≡ true → total frame_bytes (change_value (takes_xml x) es) ≡ total frame_bytes es + length x
  unfolding keeps_xml change_value is_xml_element is_literal on_value takes_xml with_kind when◌then◌else◌ total frame_bytes kind_bytes value_bytes
  adds_bytes [] h = absurd (false≢true h)
  adds_bytes (e ∷ es) h = go e.kind refl (adds_bytes es) h
    where
      go : (k : What) → e.kind ≡ k → (keeps_xml es ≡ true → total frame_bytes (change_value (takes_xml x) es) ≡ total frame_bytes es + length x)
          → (when is_xml_element k then keeps_xml es else is_literal k) ≡ true
          → total frame_bytes (when is_xml_element k then e ∷ change_value (takes_xml x) es else with_kind (on_value (takes_xml x) k) e ∷ es) ≡ total frame_bytes (e ∷ es) + length x
      go rdf_rdf p i q = absurd (false≢true q)
      go (wrapper b) p i q = absurd (false≢true q)
      go (node_element s li) p i q = absurd (false≢true q)
      go (property_element a (default d o)) p i q = absurd (false≢true q)
      go (property_element a (collection cs)) p i q = absurd (false≢true q)
      go (property_element a (literal y)) p i q = rw p (omega (arith, length-append y x))
      go (property_element a other) p i q = absurd (false≢true q)
      go xml_element p i q = omega (arith, i q)

-- ---- the same of a state

literal-kind : (k : Kind) (f : Frame) (w : List ℕ) (s : Subject) → is_literal (what_of k f w s) ≡ same_kind k ParseTypeLiteralPropertyElt
unfolding what_of is_literal
literal-kind Rdf f w s = refl
literal-kind NodeElt f w s = refl
literal-kind PropertyElt f w s = refl
literal-kind ParseTypeCollectionPropertyElt f w s = refl
literal-kind ParseTypeLiteralPropertyElt f w s = refl
literal-kind ParseTypeOtherPropertyElt f w s = refl
literal-kind Wrapper f w s = refl

past_inners : (is bs w : List ℕ) (n b : ℕ) (es : List Element) → keeps_xml (inners_of is bs w n b ++ es) ≡ keeps_xml es
unfolding keeps_xml inners_of inner_of is_xml_element when◌then◌else◌
past_inners is bs w zero b es = refl
past_inners is bs w (suc n) b es = past_inners is bs w n (row_at is n).more es

-- the kind of the frame on top tells
module _ {r : Registers} {fs bs is w : List ℕ} (v : Valid r fs bs is w) where
  keeps_none : r.counts.depth ≡ 0 → keeps_xml (frames_of fs bs w r.counts.depth r.counts.outer) ≡ same_kind (top_frame r fs).kind ParseTypeLiteralPropertyElt
  unfolding keeps_xml frames_of top_frame
  keeps_none p = rw (eq-eqb r.counts.depth 0 p, p)

  keeps_top : (n : ℕ) → r.counts.depth ≡ suc n → keeps_xml (frames_of fs bs w r.counts.depth r.counts.outer) ≡ same_kind (top_frame r fs).kind ParseTypeLiteralPropertyElt
  unfolding keeps_xml element_of when◌then◌else◌
  keeps_top n p =
      let e : r.counts.depth - 1 ≡ n = omega arith in
      let t = topmost v (omega arith) in
      let k : top_frame r fs ≡ frame_at fs n = rw e at t.frame in
      rw (k, top_element v n p, what_outside (frame_at fs n).kind (frame_at fs n) w (subject_below fs w n)) (literal-kind (frame_at fs n).kind (frame_at fs n) w (subject_below fs w n))

  pub keeps_read : keeps_xml (elements_of r fs bs is w) ≡ same_kind (top_frame r fs).kind ParseTypeLiteralPropertyElt
  unfolding elements_of
  keeps_read = past_inners is bs w r.counts.inner r.counts.bindings (frames_of fs bs w r.counts.depth r.counts.outer) ∙ go r.counts.depth refl
    where
      go : (d : ℕ) → r.counts.depth ≡ d → keeps_xml (frames_of fs bs w r.counts.depth r.counts.outer) ≡ same_kind (top_frame r fs).kind ParseTypeLiteralPropertyElt
      go zero p = keeps_none p
      go (suc n) p = keeps_top n p
