-- RFC 3987, section 2.2: the grammar of IRIs, over code points.
use Rattle.std.specs.Prelude.{Bool, [], ◌∷◌, ℕ}
use Rattle.spec.specs.Bytes.{Bytes, byte, between, in_ranges}
use Rattle.spec.specs.Grammar.{Grammar, empty, one, ◌or◌, ◌then◌, many, accepts}
use Rattle.spec.specs.Abnf.{ALPHA, DIGIT, alphanum, HEXDIG, word, any_of, optional, some, times, at_most, ◌to◌}
use Rattle.spec.specs.Abnf as A
use Rattle.spec.specs.Utf8.{as_characters}
use Rattle.spec.specs.Utf8 as U

unfoldable pub ucschar : Grammar ℕ
ucschar = one (in_ranges (
    (0xA0, 0xD7FF) ∷ (0xF900, 0xFDCF) ∷ (0xFDF0, 0xFFEF) ∷ (0x10000, 0x1FFFD) ∷ (0x20000, 0x2FFFD) ∷ (0x30000, 0x3FFFD) ∷ (0x40000, 0x4FFFD) ∷
    (0x50000, 0x5FFFD) ∷ (0x60000, 0x6FFFD) ∷ (0x70000, 0x7FFFD) ∷ (0x80000, 0x8FFFD) ∷ (0x90000, 0x9FFFD) ∷ (0xA0000, 0xAFFFD) ∷
    (0xB0000, 0xBFFFD) ∷ (0xC0000, 0xCFFFD) ∷ (0xD0000, 0xDFFFD) ∷ (0xE1000, 0xEFFFD) ∷ []))

unfoldable pub iprivate : Grammar ℕ
iprivate = one (in_ranges ((0xE000, 0xF8FF) ∷ (0xF0000, 0xFFFFD) ∷ (0x100000, 0x10FFFD) ∷ []))

unfoldable pub iunreserved : Grammar ℕ
iunreserved = alphanum or any_of "-._~" or ucschar

unfoldable pub pct_encoded : Grammar ℕ
pct_encoded = word "%" then times 2 HEXDIG

unfoldable pub sub_delims : Grammar ℕ
sub_delims = any_of "!$&'()*+,;="

unfoldable pub ipchar : Grammar ℕ
ipchar = iunreserved or pct_encoded or sub_delims or any_of ":@"

unfoldable pub isegment : Grammar ℕ
isegment = many ipchar

unfoldable pub isegment_nz : Grammar ℕ
isegment_nz = some ipchar

unfoldable pub isegment_nz_nc : Grammar ℕ
isegment_nz_nc = some (iunreserved or pct_encoded or sub_delims or word "@")

unfoldable pub ipath_abempty : Grammar ℕ
ipath_abempty = many (word "/" then isegment)

unfoldable pub ipath_absolute : Grammar ℕ
ipath_absolute = word "/" then optional (isegment_nz then ipath_abempty)

unfoldable pub ipath_rootless : Grammar ℕ
ipath_rootless = isegment_nz then ipath_abempty

unfoldable pub ipath_noscheme : Grammar ℕ
ipath_noscheme = isegment_nz_nc then ipath_abempty

unfoldable pub h16 : Grammar ℕ
h16 = ◌to◌ 1 4 HEXDIG

unfoldable pub dec_octet : Grammar ℕ
dec_octet = DIGIT or (one (between (byte "1") (byte "9")) then DIGIT) or (word "1" then times 2 DIGIT) or (word "2" then one (between (byte "0") (byte "4")) then DIGIT) or (word "25" then one (between (byte "0") (byte "5")))

unfoldable pub IPv4address : Grammar ℕ
IPv4address = dec_octet then word "." then dec_octet then word "." then dec_octet then word "." then dec_octet

unfoldable pub ls32 : Grammar ℕ
ls32 = (h16 then word ":" then h16) or IPv4address

-- n( h16 ":" )
unfoldable pub h16s : ℕ → Grammar ℕ
h16s n = times n (h16 then word ":")

-- [ *n( h16 ":" ) h16 ]
unfoldable pub up_to_h16s : ℕ → Grammar ℕ
up_to_h16s n = optional (at_most n (h16 then word ":") then h16)

unfoldable pub IPv6address : Grammar ℕ
IPv6address =
    (h16s 6 then ls32) or (word "::" then h16s 5 then ls32) or (up_to_h16s 0 then word "::" then h16s 4 then ls32) or (up_to_h16s 1 then word "::" then h16s 3 then ls32)
    or (up_to_h16s 2 then word "::" then h16s 2 then ls32) or (up_to_h16s 3 then word "::" then h16s 1 then ls32) or (up_to_h16s 4 then word "::" then ls32)
    or (up_to_h16s 5 then word "::" then h16) or (up_to_h16s 6 then word "::")

unfoldable pub IPvFuture : Grammar ℕ
IPvFuture = word "v" then some HEXDIG then word "." then some (alphanum or any_of "-._~" or sub_delims or word ":")

unfoldable pub IP-literal : Grammar ℕ
IP-literal = word "[" then (IPv6address or IPvFuture) then word "]"

unfoldable pub ireg_name : Grammar ℕ
ireg_name = many (iunreserved or pct_encoded or sub_delims)

unfoldable pub ihost : Grammar ℕ
ihost = IP-literal or IPv4address or ireg_name

unfoldable pub iuserinfo : Grammar ℕ
iuserinfo = many (iunreserved or pct_encoded or sub_delims or word ":")

unfoldable pub port : Grammar ℕ
port = many DIGIT

unfoldable pub iauthority : Grammar ℕ
iauthority = optional (iuserinfo then word "@") then ihost then optional (word ":" then port)

unfoldable pub scheme : Grammar ℕ
scheme = ALPHA then many (alphanum or any_of "+-.")

unfoldable pub iquery : Grammar ℕ
iquery = many (ipchar or iprivate or any_of "/?")

unfoldable pub ifragment : Grammar ℕ
ifragment = many (ipchar or any_of "/?")

unfoldable pub ihier_part : Grammar ℕ
ihier_part = (word "//" then iauthority then ipath_abempty) or ipath_absolute or ipath_rootless or empty

unfoldable pub IRI : Grammar ℕ
IRI = scheme then word ":" then ihier_part then optional (word "?" then iquery) then optional (word "#" then ifragment)

unfoldable pub irelative_part : Grammar ℕ
irelative_part = (word "//" then iauthority then ipath_abempty) or ipath_absolute or ipath_noscheme or empty

unfoldable pub irelative_ref : Grammar ℕ
irelative_ref = irelative_part then optional (word "?" then iquery) then optional (word "#" then ifragment)

unfoldable pub IRI-reference : Grammar ℕ
IRI-reference = IRI or irelative_ref

-- of bytes: of the characters that they are in UTF-8
unfoldable pub is_iri : Bytes → Bool
is_iri s = as_characters (accepts IRI) s

unfoldable pub is_iri_reference : Bytes → Bool
is_iri_reference s = as_characters (accepts IRI-reference) s

unfoldable pub all : Unit {0}
unfolding A.all U.all ucschar iprivate iunreserved pct_encoded sub_delims ipchar isegment isegment_nz isegment_nz_nc ipath_abempty ipath_absolute ipath_rootless ipath_noscheme h16 dec_octet IPv4address ls32 h16s up_to_h16s IPv6address IPvFuture IP-literal ireg_name ihost iuserinfo port iauthority scheme iquery ifragment ihier_part IRI irelative_part irelative_ref IRI-reference is_iri is_iri_reference
all = tt
