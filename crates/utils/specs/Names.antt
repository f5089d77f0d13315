-- What a name as written is, and the parts of an NCName.
use Rattle.std.specs.Prelude.{◌≡◌, Bool, true, ◌&&◌, not, ℕ, ◌<◌, eqb, length, get_or}
use Rattle.spec.specs.Bytes.{Bytes, ascii, byte, when◌then◌else◌, among, up_to, every}
use Rattle.spec.specs.Utf8.{as_characters}
use Rattle.spec.specs.XmlNames.{is_name_start, is_name_char, no_colon, is_q_name}
use Rattle.utils.specs.Plain.{plain}
use Rattle.utils.specs.declared.Name.{Name}
use Rattle.utils.specs.declared.Name.TheVariants.{NotName, Local, Prefixed}

-- no name; NCName; or NCName:NCName, with what stands before the colon counted
unfoldable pub name_of : Bytes → Name
name_of s = when is_q_name s then when no_colon s then Local else Prefixed (length (up_to (among (ascii ":")) s)) else NotName

-- a character other than the colon
unfoldable pub other : ℕ → Bool
other c = not (eqb c (byte ":"))

-- what may start an NCName, and what may go on with one: by the table, less the colon
unfoldable pub starts_nc : ℕ → Bool
starts_nc c = is_name_start c && other c

unfoldable pub goes_on_nc : ℕ → Bool
goes_on_nc c = is_name_char c && other c

-- what may follow the first character of an NCName
unfoldable pub is_nc_rest : Bytes → Bool
is_nc_rest s = as_characters (every is_name_char) s && no_colon s

-- bytes in ASCII that may stand in an NCName, the first of which may start one
pub record PlainPart (t : Bytes) : Type 0 where
  pub on : every (plain goes_on_nc) t ≡ true
  pub starts : 0 < length t → plain starts_nc (get_or t 0 0) ≡ true
