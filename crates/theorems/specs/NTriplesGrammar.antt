-- All that a document's steps write is a document of the W3C N-Triples 1.1 grammar.
use Rattle.std.specs.Prelude.{◌≡◌, Bool, true, List, [], ◌∷◌, ◌++◌}
use Rattle.std.proofs.Math.Option.{Option, none, some}
use Rattle.std.proofs.Common.{arith}
use Rattle.spec.specs.Bytes.{Bytes, ascii, All}
use Rattle.spec.specs.Numbers.{good}
use Rattle.spec.specs.Grammar.{accepts}
use Rattle.spec.specs.Rfc3987.{IRI, is_iri}
use Rattle.spec.specs.Pyx.{Event, read_event}
use Rattle.spec.specs.NTriples.{Subject, named, blank, Term, node, plain, tagged, typed, Triple, triple}
use Rattle.spec.specs.NTriplesGrammar.{BLANK_NODE_LABEL, LANGTAG, is_n_triples}
use Rattle.spec.specs.declared.Mode.{Mode}
use Rattle.spec.specs.Document.{Doc, fresh}
use Rattle.spec.specs.RdfXml.{next}
use Rattle.spec.specs.Lists.{After, here, event}
use Rattle.spec.specs.Calls.{may_start, State, is_open, is_closed, unlawful}
use Rattle.theorems.specs.Always.{Always, always_test, always_require, always_good, all_append}
use Rattle.theorems.specs.Utf8.{decoded_text}
use Rattle.theorems.specs.Cuts.{Text?}
use Rattle.theorems.specs.Spelled.{In}
use Rattle.theorems.specs.LanguageTags.{tag_in_grammar}
use Rattle.theorems.specs.NodeLabels.{label_in, generated_in}
use Rattle.theorems.specs.Subjects.{Rule, OfLines, no_line, with_line}
use Rattle.theorems.specs.Lists.{Family, kept}
use Rattle.theorems.specs.NTriplesLines.{SpelledSubject, SpelledTerm, SpelledLines, lines_in_grammar}
use Rattle.theorems.specs.EventTexts.{TextEvent, event_text}
use Rattle.theorems.specs.Texts.{TextSubject, TextTerm, TextTriple, TextDoc, TextStep, step-text}
use Rattle.theorems.specs.Calls.{AtFront, Steps, Holds, carried}

-- ---- labels and tags are of the grammar

abbrev pub LabelSubject : Subject → Type 0
LabelSubject (named i) = Unit {0}
LabelSubject (blank l) = In BLANK_NODE_LABEL (ascii "_:" ++ l)

abbrev pub LabelTerm : Term → Type 0
LabelTerm (node s) = LabelSubject s
LabelTerm (plain v) = Unit {0}
LabelTerm (tagged v l) = In LANGTAG (ascii "@" ++ l)
LabelTerm (typed v d) = Unit {0}

LabelRule : Rule
LabelRule = record {
  subj = LabelSubject;
  obj = LabelTerm;
  lang = λ l. In LANGTAG (ascii "@" ++ l);
  name = λ i. tt;
  other_label = λ l h g k. label_in l h k;
  node_of = λ s h. h;
  plain_of = λ v. tt;
  typed_of = λ v d. tt;
  tagged_of = λ v l h. h;
  tag_of_lem = tag_in_grammar;
}

labels : Family
unfolding LabelRule
labels = record {
  lo = 0;
  at = λ n. LabelRule;
  up_subj = λ n n' up s h. h;
  up_obj = λ n n' up o h. h;
  up_lang = λ n n' up l h. h;
  fresh = λ n n' lo le k p q. generated_in k;
}

abbrev pub LabelTriple : Triple → Type 0
LabelTriple (triple s p o) = LabelSubject s × LabelTerm o

labelled : {ts : List Triple} → OfLines LabelRule ts → All LabelTriple ts
unfolding LabelRule
labelled no_line = tt
labelled (with_line h g t) = ((h, g), labelled t)

-- so of all lines of accepted events
pub labels_after : (m : Mode) (b : Option Bytes) (d : Doc) (ts : List Triple) → After (fresh m b) d ts → All LabelTriple ts
unfolding labels fresh
labels_after m b d ts h = labelled (kept labels (fresh m b) d ts (omega arith) (omega arith) tt h).lines

-- ---- together with texts

spelled_subject : (s : Subject) → LabelSubject s → TextSubject s → SpelledSubject s
spelled_subject (named i) h t = t
spelled_subject (blank l) h t = h

spelled_term : (o : Term) → LabelTerm o → TextTerm o → SpelledTerm o
spelled_term (node s) h t = spelled_subject s h t
spelled_term (plain v) h t = t
spelled_term (tagged v l) h t = (t, h)
spelled_term (typed v d) h t = t

spelled : (ts : List Triple) → All LabelTriple ts → All TextTriple ts → SpelledLines ts
spelled [] h k = tt
spelled (triple s p o ∷ ts) h k = (spelled_subject s h.0.0 k.0.0, k.0.1, spelled_term o h.0.1 k.0.2, spelled ts h.1 k.1)

-- ---- the theorem

-- a base that start lets past (11)
abbrev pub GoodBase : Option Bytes → Type 0
GoodBase none = Unit {0}
GoodBase (some b) = is_iri b ≡ true

-- start lets no other past
pub started-base : (lengths : Bool) (b : Option Bytes) → Always (λ u. GoodBase b) (may_start lengths b)
unfolding may_start
started-base lengths none = always_test _ _ _ λ h. tt
started-base lengths (some b) = always_require _ _ _ _ λ h. always_require _ _ _ _ λ k. always_test _ _ _ λ l. k

base-text : (b : Option Bytes) → GoodBase b → Text? b
unfolding is_iri
base-text none h = tt
base-text (some b) h = decoded_text (accepts IRI) b h

-- the lines of accepted events, of texts, and a document of texts
abbrev Good : Mode → Option Bytes → Doc → List Triple → Type 0
Good m b d ts = After (fresh m b) d ts × All TextTriple ts × TextDoc d

start : (m : Mode) (b : Option Bytes) → GoodBase b → Good m b (fresh m b) []
unfolding fresh
start m b h = (here, tt, (base-text b h, tt))

onward : (m : Mode) (b : Option Bytes) (d d' : Doc) (ts us : List Triple) (bytes : Bytes) (e : Event) → AtFront bytes → read_event bytes ≡ good e → next e d ≡ good (us, d')
    → Good m b d ts → Good m b d' (ts ++ us)
onward m b d d' ts us bytes e (last, s, c) p q h =
    let t : TextEvent e = always_good TextEvent (event_text last s bytes c) p in
    let r : TextStep (us, d') = always_good TextStep (step-text e d t h.2) q in
    (event h.0 e d' us q, all_append TextTriple ts us h.1 r.0, r.1)

-- Whatever bytes the steps of a document are given, in whatever pieces and with whatever output room, and whether or not one of them
-- is refused: all that they have written are the lines of its accepted events, and those can be written.
pub all_spelled : (m : Mode) (b : Option Bytes) (t : State) (w : Bytes) → GoodBase b → Steps m b t w → Holds (λ d ts. After (fresh m b) d ts × SpelledLines ts) t w
all_spelled m b t w g h = go t (carried m b (Good m b) (start m b g) (onward m b) t w h)
  where
    go : (t : State) → Holds (Good m b) t w → Holds (λ d ts. After (fresh m b) d ts × SpelledLines ts) t w
    go (is_open d) (ts, k, e) = (ts, (k.0, spelled ts (labels_after m b d ts k.0) k.1), e)
    go (is_closed d) (ts, k, e) = (ts, (k.0, spelled ts (labels_after m b d ts k.0) k.1), e)
    go unlawful k = absurd k

-- So all that they have written is a document of the N-Triples 1.1 grammar, in UTF-8.
pub all_n_triples : (m : Mode) (b : Option Bytes) (t : State) (w : Bytes) → GoodBase b → Steps m b t w → is_n_triples w ≡ true
all_n_triples m b t w g h = go t (all_spelled m b t w g h)
  where
    go : (t : State) → Holds (λ d ts. After (fresh m b) d ts × SpelledLines ts) t w → is_n_triples w ≡ true
    go (is_open d) (ts, k, e) = rw e (lines_in_grammar ts k.1)
    go (is_closed d) (ts, k, e) = rw e (lines_in_grammar ts k.1)
    go unlawful k = absurd k
