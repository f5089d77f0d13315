-- Document 01, "Events": PYX, the lines of an event.
use Rattle.std.specs.Prelude.{true, false, ℕ, eqb}
use mathlib.Core.List.{List, [], ◌∷◌, drop_last}
use Rattle.spec.specs.Bytes.{Bytes, ascii, byte, when◌then◌else◌, begins, after, up_to, from, among, every, split, concat, ◌>>=◌, ◌>>◌, require◌or◌, each}
use Rattle.spec.specs.Bytes as B
use Rattle.spec.specs.Numbers.{Answer, refuse, good}
use Rattle.spec.specs.declared.Refusal.TheVariants.{NotPyx}
use Rattle.spec.specs.Utf8.{as_characters}
use Rattle.spec.specs.XmlNames.{is_char, is_q_name}
use Rattle.spec.specs.XmlNames as X

-- one attribute
pub data Attribute : Type 0 where
  -- name and value
  attribute : Bytes → Bytes → Attribute

-- one event
pub data Event : Type 0 where
  opening : Bytes → List Attribute → Event
  closing : Bytes → Event
  text : Bytes → Event
  instruction : Event

-- `\n`, `\t`, `\\` stand for LF, tab, backslash; any other backslash is refused
unfoldable pub escaped : ℕ → Answer ℕ
escaped c =
    when eqb c (byte "n") then good (byte "\n") else
    when eqb c (byte "t") then good (byte "\t") else
    when eqb c (byte "\\") then good (byte "\\") else refuse NotPyx

-- values and data, decoded
unfoldable pub unescape : Bytes → Answer Bytes
unescape [] = good []
unescape (c ∷ []) = when eqb c (byte "\\") then refuse NotPyx else good (c ∷ [])
unescape (c ∷ d ∷ s) =
    elim (eqb c (byte "\\")) [
      | true ↦ escaped d >>= λ e. unescape s >>= λ t. good (e ∷ t)
      | false ↦ unescape (d ∷ s) >>= λ t. good (c ∷ t)
    ]

-- names are NCName or NCName:NCName
unfoldable pub name : Bytes → Answer Bytes
name s = (require is_q_name s or NotPyx) >> good s

-- `Aname value`: the first space divides; the value may be empty
unfoldable pub read_attribute : Bytes → Answer Attribute
read_attribute l = do
  n ← name (up_to (among (ascii " ")) (after (ascii "A") l))
  require begins (ascii " ") (from (among (ascii " ")) l) or NotPyx
  v ← unescape (after (ascii " ") (from (among (ascii " ")) l))
  good (attribute n v)

-- `(name` opens; following `Aname value` lines are its attributes
unfoldable pub read_opening : Bytes → List Bytes → Answer Event
read_opening l ls = do
  n ← name (after (ascii "(") l)
  attrs ← each read_attribute ls
  good (opening n attrs)

-- `)name` closes
unfoldable pub read_closing : Bytes → Answer Event
read_closing l = name (after (ascii ")") l) >>= λ n. good (closing n)

-- `-data` is text; adjacent `-` lines are one event, joined
unfoldable pub read_text : List Bytes → Answer Event
read_text ls = each (λ l. unescape (after (ascii "-") l)) ls >>= λ ts. good (text (concat ts))

-- an event's lines; any other line gets 5
unfoldable pub read_lines : List Bytes → Answer Event
read_lines [] = refuse NotPyx
read_lines (l ∷ ls) =
    when begins (ascii "(") l then read_opening l ls else
    when begins (ascii ")") l then read_closing l else
    when begins (ascii "-") l then read_text (l ∷ ls) else
    when begins (ascii "?") l then good instruction else
    refuse NotPyx

-- an event's bytes: UTF-8, of characters in XML 1.0 Char, and PYX
unfoldable pub read_event : Bytes → Answer Event
read_event s = do
  require as_characters (every is_char) s or NotPyx
  read_lines (drop_last (split (byte "\n") s))

unfoldable pub all : Unit {0}
unfolding B.all X.all escaped unescape name read_attribute read_opening read_closing read_text read_lines read_event
all = tt
