-- What the definitions say of events inside Literal content, of the document that a state means.
use Rattle.std.specs.Prelude.{◌≡◌, true, false, List, ◌∷◌, ◌++◌, ℕ, ◌-◌, ◌<◌}
use Rattle.std.proofs.Common.{ap, ◌∙◌, arith}
use borrow.Author.Tests.{ne_eqb, lt-ltb}
use Rattle.spec.specs.Bytes.{Bytes, same, ◌>>◌, require◌or◌}
use Rattle.spec.specs.declared.Refusal.TheVariants.{NotWellFormed}
use Rattle.spec.specs.Pyx.{text, closing}
use Rattle.spec.specs.Document.{Frame as Element, change_value, with_frames, place_in, xml}
use Rattle.spec.specs.XmlLiteral.{text_xml, end_tag_xml, takes_xml, add_xml}
use Rattle.spec.specs.EndTag.{close_element, end_kind}
use Rattle.spec.specs.RdfXml.{on_event, on_text}
use Rattle.copy.specs.Copy.{part}
use Rattle.state_words.specs.Words.{row_at, load_row_lem}
use Rattle.state.specs.declared.Registers.{Registers}
use Rattle.state.specs.Meaning.{bindings_of, frames_of, inner_of, inners_of, start_of, elements_of, doc_of}
use Rattle.state.specs.Valid.{Valid}
use Rattle.state.specs.declared.Span.{Span}
use Rattle.std.specs.declared.option.Option as std
use Rattle.state.specs.Language.{bytes_found}
use Rattle.state_stack.specs.Change.{Holds, inside_element}
use Rattle.state_inner.specs.Calls.{Closes, name_in}
use Rattle.state_inner.specs.Laws.{close-holds}
use Rattle.literal.specs.Quiet.{Quietly, Quiet, quiet_refused}
use Rattle.std.specs.Prelude.{unwrap_or, Err}

-- ---- text

module _ {r : Registers} {fs bs is w : List ℕ} where
  -- it is added
  pub text_quiet : (s : Bytes) → place_in (elements_of r fs bs is w) ≡ xml → Quiet (text s) r fs bs is w (change_value (takes_xml (text_xml s)) (elements_of r fs bs is w))
  unfolding on_event on_text add_xml doc_of with_frames
  text_quiet s p = record { step = λ ids. rw p }

-- ---- an end tag

-- the elements around the innermost
abbrev pub around : Registers → List ℕ → List ℕ → List ℕ → List ℕ → List Element
around r fs bs is w = inners_of is bs w (r.counts.inner - 1) (row_at is (r.counts.inner - 1)).more ++ frames_of fs bs w r.counts.depth r.counts.outer

module _ {r : Registers} {fs bs is w : List ℕ} (v : Valid r fs bs is w) (d : 0 < r.counts.inner) where
  opened : elements_of r fs bs is w
      ≡ inner_of (row_at is (r.counts.inner - 1)) (bindings_of bs w (row_at is (r.counts.inner - 1)).more (r.counts.bindings - (row_at is (r.counts.inner - 1)).more)) w ∷ around r fs bs is w
  opened = inside_element v (r.counts.inner - 1) (omega arith)

  -- its name, as `name` finds it
  named : {f : std.Option Span} → f ≡ name_in r fs is → part w (row_at is (r.counts.inner - 1)).at (row_at is (r.counts.inner - 1)).name ≡ bytes_found f w
  unfolding name_in bytes_found
  named e = rw (e, ne_eqb r.counts.inner 0 (λ z. omega arith), load_row_lem is (r.counts.inner - 1) (omega (arith, v.inner_words, v.deep)))

  module _ {n own : Bytes} {f : std.Option Span} (e : f ≡ name_in r fs is) (o : own ≡ bytes_found f w) where
    -- 6
    pub end_differs : same n own ≡ false → Quietly (closing n) r (Err NotWellFormed) fs bs is w fs bs is w
    unfolding on_event close_element doc_of inner_of require◌or◌ ◌>>◌
    end_differs h = quiet_refused (λ ids. rw (opened, named e, ← o, h))

    -- it is added to what is left
    pub end_quiet : same n own ≡ true → Quiet (closing n) r fs bs is w (change_value (takes_xml (end_tag_xml n)) (around r fs bs is w))
    unfolding on_event close_element doc_of inner_of end_kind add_xml with_frames require◌or◌ ◌>>◌
    end_quiet h = record { step = λ ids. rw (opened, named e, ← o, h) }

  -- the state without it
  pub closed-holds : {c : std.Option Registers} {behind : Registers} → Closes r is c → behind ≡ unwrap_or c r → Holds behind fs bs is w r.mode (start_of r w) (around r fs bs is w) r.flags.rooted r.counts.labels
  closed-holds p e = rw e (close-holds v p (p.answer ∙ lt-ltb 0 r.counts.inner d))

  pub closed-mark : {c : std.Option Registers} {behind : Registers} → Closes r is c → behind ≡ unwrap_or c r → behind.flags.closed ≡ r.flags.closed
  closed-mark p e = ap (λ (q : Registers). q.flags.closed) (e ∙ p.moved d)
