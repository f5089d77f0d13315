-- The small functions of the Rust do what those of document 01 do: names, labels, numbers, lower case, XML text.
use Rattle.std.specs.Prelude.{◌≡◌, refl, Bool, true, false, ◌&&◌, not, ℕ, zero, suc, ◌+◌, ◌*◌, ◌/◌, ◌%◌, ◌^◌, ◌≤◌, ◌<◌, eqb, leb}
use Rattle.std.proofs.Common.{sym, ◌∙◌, ap, arith, pow-suc, eqb-true, ne_eqb, leb-true}
use Rattle.std.proofs.Math.Option.{Option, none, some}
use mathlib.Core.List.{List, [], ◌∷◌, ◌++◌, map, concat-ne-nil}
use Rattle.std.proofs.lemmas.Bool.{eqb-false}
use Rattle.spec.specs.Bytes.{Bytes, ascii, byte, when◌then◌else◌, between, every}
use Rattle.spec.specs.Utf8.{characters, holds_of, as_characters}
use Rattle.spec.specs.Abnf.{lower}
use Rattle.spec.specs.XmlNames.{start_ranges, further_ranges, is_name_start, is_name_char, is_name, no_colon, is_nc_name}
use Rattle.spec.specs.Pyx.{Attribute, attribute}
use Rattle.spec.specs.NTriples.{digits, drop_zeros, decimal, label, coded}
use Rattle.spec.specs.XmlLiteral.{text_byte, text_xml, attribute_xml, attributes_xml, start_tag_xml, end_tag_xml}
use Rattle.spec.proofs.Booleans.{and_left, and_right}
use Rattle.theorems.specs.Utf8.{Row, end, small, large, row}
use Rattle.theorems.specs.Decimal.{drop_zeros_last, drop_zeros_more, no_digits}
use Rattle.rio.specs.Utils.{is_name_start_char, is_name_char_rust}
use Rattle.rio.specs.Parser.{is_name_rust, is_nc_name_rust, write_u64_to_slice, generate, to_ascii_lowercase, display, u64_digits, escape_byte, text_event, as_it_stood, push_attributes, start_event, end_event}

-- ---- names: utils.rs, is_name, is_nc_name

start_char_same : (c : ℕ) → is_name_start_char c ≡ is_name_start c
unfolding is_name_start_char is_name_start start_ranges
start_char_same c = refl

char_same : (c : ℕ) → is_name_char_rust c ≡ is_name_char c
unfolding is_name_char_rust is_name_char further_ranges
char_same c = rw (start_char_same c)

chars_same : (cs : List ℕ) → every is_name_char_rust cs ≡ every is_name_char cs
unfolding every
chars_same [] = refl
chars_same (c ∷ cs) = rw (char_same c, chars_same cs)

name-same : (cs : List ℕ) → is_name_rust cs ≡ is_name cs
unfolding is_name_rust is_name when◌then◌else◌
name-same [] = refl
name-same (c ∷ cs) = rw (start_char_same c, chars_same cs) (go (is_name_start c))
  where
    go : (b : Bool) → (when b then every is_name_char cs else false) ≡ (b && every is_name_char cs)
    go true = refl
    go false = refl

-- a colon among the bytes is one among the characters: those of several bytes have none below 128
no_colon_high : (l s : Bytes) → every (λ b. leb 128 b) l ≡ true → no_colon (l ++ s) ≡ no_colon s
unfolding no_colon every byte
no_colon_high [] s h = refl
no_colon_high (b ∷ l) s h =
    let le : 128 ≤ b = leb-true 128 b (and_left (leb 128 b) _ h) in
    let e : eqb b 58 ≡ false = ne_eqb b 58 λ z. omega arith in
    rw e (no_colon_high l s (and_right (leb 128 b) _ h))

row-colon : {s : Bytes} {cs : List ℕ} → Row s cs → no_colon s ≡ no_colon cs
unfolding no_colon every byte
row-colon end = refl
row-colon (small b h r) = ap (λ (x : Bool). not (eqb b 58) && x) (row-colon r)
row-colon (large {s = s} l c e hi le r) =
    let z : eqb c 58 ≡ false = ne_eqb c 58 λ y. omega arith in
    rw z (no_colon_high l s hi ∙ row-colon r)

pub nc_name-same : (s : Bytes) → is_nc_name_rust s ≡ is_nc_name s
unfolding is_nc_name_rust is_nc_name as_characters holds_of no_colon
nc_name-same s = go (characters s) refl
  where
    go : (x : Option (List ℕ)) → characters s ≡ x
        → holds_of (λ cs. is_name_rust cs && every (λ c. not (eqb c (byte ":"))) cs) x ≡ (holds_of is_name x && no_colon s)
    go none e = refl
    go (some cs) e = rw (name-same cs, row-colon (row s cs e))

-- ---- labels and numbers

slice_digits : (i v : ℕ) → write_u64_to_slice v i ≡ digits i v
unfolding write_u64_to_slice digits byte
slice_digits zero v = refl
slice_digits (suc i) v = rw (slice_digits i (v / 10))

pub generate-label : (n : ℕ) → generate n ≡ label (suc n)
unfolding generate label
generate-label n = rw (slice_digits 8 (suc n))

positive : (n : ℕ) → (n ≡ 0 → ⊥) → 0 < n
positive zero h = absurd (h refl)
positive (suc n) h = omega arith

display-some : (i v : ℕ) → 0 < v → v < 10 ^ i → display i v ≡ [] → ⊥
unfolding display
display-some zero v lo hi h = omega arith
display-some (suc i) v lo hi h = concat-ne-nil (byte "0" + v % 10) (when eqb (v / 10) 0 then [] else display i (v / 10)) h

display-digits : (i v : ℕ) → 0 < v → v < 10 ^ i → display i v ≡ drop_zeros (digits i v)
unfolding display digits when◌then◌else◌ byte
display-digits zero v lo hi = absurd (omega arith)
display-digits (suc i) v lo hi = go (eqb (v / 10) 0) refl (display-digits i (v / 10))
  where
    hi' : v < 10 ^ i * 10
    hi' = rw (pow-suc 10 i) at hi

    go : (b : Bool) → eqb (v / 10) 0 ≡ b
        → (0 < v / 10 → v / 10 < 10 ^ i → display i (v / 10) ≡ drop_zeros (digits i (v / 10)))
        → (when b then [] else display i (v / 10)) ++ ((48 + v % 10) ∷ []) ≡ drop_zeros
        (digits i (v / 10) ++ ((48 + v % 10) ∷ []))
    go true e ih =
        let z : v / 10 ≡ 0 = eqb-true (v / 10) 0 e in
        rw (z, drop_zeros_last (digits i 0) (48 + v % 10) (no_digits i) λ y. omega arith)
    go false e ih =
        let z : v / 10 ≡ 0 → ⊥ = eqb-false (v / 10) 0 e in
        let lo' : 0 < v / 10 = positive (v / 10) z in
        let below : v / 10 < 10 ^ i = omega (arith, hi') in
        rw (ih lo' below)
        (sym (drop_zeros_more (digits i (v / 10)) _ λ y. display-some i (v / 10) lo' below (ih lo' below ∙ y)))

-- from 1 on, as far as a u64 goes
pub display-decimal : (v : ℕ) → 0 < v → v < 10 ^ 20 → display u64_digits v ≡ decimal v
unfolding u64_digits decimal
display-decimal v lo hi = display-digits 20 v lo hi

-- ---- lower case

pub lowercase_same : (v : Bytes) → to_ascii_lowercase v ≡ map lower v
unfolding to_ascii_lowercase lower when◌then◌else◌
lowercase_same [] = refl
lowercase_same (c ∷ v) = rw (lowercase_same v, go (between (byte "A") (byte "Z") c))
  where
    go : (b : Bool) → (when b then c + 32 else c) ≡ (when b then 32 + c else c)
    go true = omega arith
    go false = refl

-- ---- XML text

-- no character is two of the five
not_two : (c a b : ℕ) → (a ≡ b → ⊥) → eqb c a ≡ true → eqb c b ≡ true → ⊥
not_two c a b n h k = n (sym (eqb-true c a h) ∙ eqb-true c b k)

escape_same : (c : ℕ) → escape_byte c ≡ text_byte c
unfolding escape_byte text_byte when◌then◌else◌ byte
escape_same c = go (eqb c 60) (eqb c 62) (eqb c 39) (eqb c 38) (eqb c 34) refl refl refl refl refl
  where
    go : (lt gt apos amp quot : Bool) → eqb c 60 ≡ lt → eqb c 62 ≡ gt → eqb c 39 ≡ apos → eqb c 38 ≡ amp
        → eqb c 34 ≡ quot
        → (when lt then ascii "&lt;" else when gt then ascii "&gt;" else when apos then ascii "&apos;" else when amp then ascii "&amp;" else when quot then ascii "&quot;" else c ∷ [])
        ≡ (when amp then ascii "&amp;" else when lt then ascii "&lt;" else when gt then ascii "&gt;" else when quot then ascii "&quot;" else when apos then ascii "&apos;" else c ∷ [])
    go true gt apos true quot e₁ e₂ e₃ e₄ e₅ = absurd (not_two c 60 38 (λ z. omega arith) e₁ e₄)
    go true gt apos false quot e₁ e₂ e₃ e₄ e₅ = refl
    go false true apos true quot e₁ e₂ e₃ e₄ e₅ = absurd (not_two c 62 38 (λ z. omega arith) e₂ e₄)
    go false true apos false quot e₁ e₂ e₃ e₄ e₅ = refl
    go false false true true quot e₁ e₂ e₃ e₄ e₅ = absurd (not_two c 39 38 (λ z. omega arith) e₃ e₄)
    go false false true false true e₁ e₂ e₃ e₄ e₅ = absurd (not_two c 39 34 (λ z. omega arith) e₃ e₅)
    go false false true false false e₁ e₂ e₃ e₄ e₅ = refl
    go false false false true quot e₁ e₂ e₃ e₄ e₅ = refl
    go false false false false true e₁ e₂ e₃ e₄ e₅ = refl
    go false false false false false e₁ e₂ e₃ e₄ e₅ = refl

pub text_event_same : (s : Bytes) → text_event s ≡ text_xml s
unfolding text_event text_xml coded
text_event_same [] = refl
text_event_same (c ∷ s) = rw (escape_same c, text_event_same s)

attributes-same : (as' : List Attribute) → push_attributes as' ≡ attributes_xml as'
unfolding push_attributes attributes_xml attribute_xml as_it_stood
attributes-same [] = refl
attributes-same (attribute n v ∷ as') = rw (attributes-same as')

pub start_event_same : (n : Bytes) (as' : List Attribute) → start_event n as' ≡ start_tag_xml n as'
unfolding start_event start_tag_xml
start_event_same n as' = rw (attributes-same as')

pub end_event_same : (n : Bytes) → end_event n ≡ end_tag_xml n
unfolding end_event end_tag_xml
end_event_same n = refl
