-- An event by its first line.
use mathlib.Core.Path.{◌≡◌, refl, sym, ap, ◌∙◌}
use mathlib.Core.Bool.{true, false, ◌&&◌}
use mathlib.Core.List.{List, [], ◌∷◌, append-nil}
use Prim.Native.Nat.{ℕ, zero, suc, ◌+◌, ◌-◌, ◌/◌, ◌<◌, ◌≤◌}
use native.Mathlib.Omega.{arith}
use lib.Dec.{eqb, leb, ltb}
use lib.ListN.{length, take, drop, get_or, length-drop}
use lib.Seq.{length-take-le, take-nil}
use borrow.Author.Tests.{lt-ltb, le-ltb, leb-true, eqb-true, eq-eqb, ne_eqb}
use Rattle.spec.specs.Bytes.{Bytes, ascii, byte, among, when◌then◌else◌, begins, after, up_to, every, concat, each, ◌>>=◌, ◌>>◌, require◌or◌}
use Rattle.spec.specs.Limits.{most_event_bytes}
use Rattle.spec.specs.Numbers.{Answer, refuse, good}
use Rattle.spec.specs.declared.Refusal.TheVariants.{NotPyx}
use Rattle.spec.specs.Utf8.{as_characters}
use Rattle.spec.specs.XmlNames.{is_char, is_q_name}
use Rattle.spec.specs.Pyx.{Attribute, opening, closing, text, unescape, name, read_attribute, read_opening, read_closing, read_text, read_lines, read_event}
use Rattle.spec.specs.Pyx as P
use Rattle.spec.proofs.Booleans.{and_left, and_right}
use Rattle.utils.specs.Plain.{printable}
use Rattle.utils.proofs.Plain.{printable-line}
use Rattle.copy.specs.Copy.{wrote_same, wrote_front}
use Rattle.copy.specs.Scan.{sought_begins, sought_block, sought_stop}
use Rattle.copy.specs.Texts.{after_drop, up_to_stop}
use Rattle.pyx.specs.Lines.{lines_of, spaced, front, Kept, PlainLine, Headed}
use Rattle.pyx.specs.Names.{Name}
use Rattle.pyx.specs.Escapes.{Stored, Unescapes, data_of}
use Rattle.pyx.specs.Attributes.{Behind, Laid}
use Rattle.pyx.specs.Decode.{unread, Means, Says, Decodes, Fits, no_scratch}
use Rattle.std.specs.Prelude.{Option, Some, None}
use Rattle.pyx.specs.declared.Event.{Event}
use Rattle.pyx.specs.declared.Event.TheVariants.{Malformed, NoScratch, Instruction, Text, Closing, Opening, Crowded}
use Rattle.pyx.proofs.Reach.{is_end}
use Rattle.pyx.proofs.Lines.{first_line, no_line, front_good, spaced-one, kept_all, kept_more, kept_then, kept_wrote}
use Rattle.pyx.proofs.Escapes.{data_line, data_wrong, data_none}

-- ---- the first line, and its first byte

drop-take : (s : Bytes) (n : ℕ) → 0 < n → drop 1 (take n s) ≡ take (n - 1) (drop 1 s)
drop-take [] zero h = absurd (omega arith)
drop-take [] (suc n) h = let z : suc n - 1 ≡ n = omega arith in rw z (sym (take-nil n))
drop-take (a ∷ s) zero h = absurd (omega arith)
drop-take (a ∷ s) (suc n) h = let z : suc n - 1 ≡ n = omega arith in rw z

first_byte : (s : Bytes) (n : ℕ) → 0 < n → n < length s → take n s ≡ get_or s 0 0 ∷ take (n - 1) (drop 1 s)
first_byte [] n h b = absurd (omega arith)
first_byte (a ∷ s) zero h b = absurd (omega arith)
first_byte (a ∷ s) (suc n) h b = let z : suc n - 1 ≡ n = omega arith in rw z

not_first : (a b : ℕ) → (b ≡ a → ⊥) → eqb a b ≡ false
not_first a b h = ne_eqb a b λ e. h (sym e)

-- lines of data
dashed : (l : Bytes) (ls : List Bytes) (c : ℕ) → c ≡ 45 → read_lines ((c ∷ l) ∷ ls) ≡ read_text ((c ∷ l) ∷ ls)
unfolding read_lines when◌then◌else◌ begins ascii
dashed l ls c e = rw e

text-joined : (r : Answer (List Bytes)) → (r >>= λ ts. good (text (concat ts))) ≡ ((r >>= λ ts. good (concat ts)) >>= λ t. good (text t))
unfolding ◌>>=◌
text-joined (refuse n) = refl
text-joined (good ts) = refl

-- ---- start tags

module _ (x : Bytes) (ls : List Bytes) where
  open_by : (l : Bytes) → drop 1 l ≡ x → read_opening l ls ≡ (name x >>= λ m. (each read_attribute ls >>= λ as'. good (opening m as')))
  unfolding read_opening ascii
  open_by l e = rw (after_drop (40 ∷ []) l, e)

  open_no_name : (l : Bytes) → drop 1 l ≡ x → is_q_name x ≡ false → read_opening l ls ≡ refuse NotPyx
  unfolding P.name ◌>>=◌ ◌>>◌ require◌or◌
  open_no_name l e q = open_by l e ∙ rw q

  open_wrong : (l : Bytes) → drop 1 l ≡ x → is_q_name x ≡ true → each read_attribute ls ≡ refuse NotPyx → read_opening l ls ≡ refuse NotPyx
  unfolding P.name ◌>>=◌ ◌>>◌ require◌or◌
  open_wrong l e q r = open_by l e ∙ rw (q, r)

  open_good : (l : Bytes) (as' : List Attribute) → drop 1 l ≡ x → is_q_name x ≡ true → each read_attribute ls ≡ good as' → read_opening l ls ≡ good (opening x as')
  unfolding P.name ◌>>=◌ ◌>>◌ require◌or◌
  open_good l as' e q r = open_by l e ∙ rw (q, r)

-- where an answer other than `NoScratch` is right
decoded : {r : Event} {a : Answer P.Event} {n : ℕ} {d e w v : List ℕ} → no_scratch r ≡ false → Means r a n d e w v → Kept d e n → length v ≡ length w → Says r a false n d e w v
decoded q m k l = record { refused = q; means = m; kept = k; words = l }

module _ {s d : Bytes} {n : ℕ} (f : Fits s d n) (h : 0 < n) where
  title_size : length (take (n - 1) (drop 1 s)) ≡ n - 1
  title_size = length-take-le (n - 1) (drop 1 s) (omega (arith, length-drop 1 s, f.ended))

  pub title_room : 0 + length (take (n - 1) (drop 1 s)) ≤ length d
  title_room = omega (arith, title_size, f.ended, f.room)

  line_end_lem : get_or s n 0 ≡ 10
  line_end_lem = eqb-true (get_or s n 0) 10 (rw (← f.line) at (up_to_stop is_end s (rw (← f.line) f.ended)))

  module _ {e : List ℕ} (w : List ℕ) (m : (is_q_name (take (n - 1) (drop 1 s)) ≡ false) × Kept d e (0 + length (take (n - 1) (drop 1 s)))) where
    nameless_kept : Kept d e (length s)
    nameless_kept = kept_more m.1 (omega (arith, title_size, f.ended))

    pub opening_nameless : (ls : List Bytes) → Says Malformed (read_opening (take n s) ls) false (length s) d e w w
    opening_nameless ls = decoded refl (open_no_name (take (n - 1) (drop 1 s)) ls (take n s) (drop-take s n h) m.0) nameless_kept refl

  module _ {c : ℕ} {e : List ℕ} (m : Name c (take (n - 1) (drop 1 s)) d e 0) where
    title_there : take (n - 1) e ≡ take (n - 1) (drop 1 s)
    title_there =
        let z : 0 + length (take (n - 1) (drop 1 s)) ≡ n - 1 = omega (arith, title_size) in
        rw z at (wrote_front m.wrote)

    title_kept : Kept d e (length s)
    title_kept = kept_wrote m.wrote (omega (arith, title_size, f.ended))

    pub behind_title : Behind s e (n + 1) (n - 1)
    behind_title =
        let z : n + 1 - 1 ≡ n = omega arith in
        record {
          line = rw z line_end_lem;
          some = omega arith;
          within = omega (arith, f.ended);
          before = omega arith;
          room = omega (arith, f.room, wrote_same m.wrote);
          most = f.most;
          clear = f.clear;
        }

    -- the attributes behind it
    module _ {g : List ℕ} (w v : List ℕ) where
      pub opening_wrong : (each read_attribute (lines_of (drop (n + 1) s)) ≡ refuse NotPyx) × (Kept e g (length s)) × (length v ≡ length w)
          → Says Malformed (read_opening (take n s) (lines_of (drop (n + 1) s))) false (length s) d g w v
      opening_wrong r =
          decoded refl (open_wrong (take (n - 1) (drop 1 s)) (lines_of (drop (n + 1) s)) (take n s) (drop-take s n h) m.qname r.0) (kept_then title_kept r.1) r.2

      module _ {k : ℕ} (r : Laid s (n + 1) (n - 1) e g w v k) where
        is_opening : read_opening (take n s) (lines_of (drop (n + 1) s)) ≡ good (opening (take (n - 1) (drop 1 s)) r.attributes)
        is_opening = open_good (take (n - 1) (drop 1 s)) (lines_of (drop (n + 1) s)) (take n s) r.attributes (drop-take s n h) m.qname r.is

        title_still : take (n - 1) g ≡ take (n - 1) (drop 1 s)
        title_still = r.before ∙ title_there

        pub opening_crowded : length w / 4 < k → Says Crowded (read_opening (take n s) (lines_of (drop (n + 1) s))) false (length s) d g w v
        opening_crowded b =
            decoded refl (record { name = take (n - 1) (drop 1 s); attributes = r.attributes; is = is_opening; many = omega (arith, r.count) }) (kept_then title_kept r.kept) r.words

        pub opening_good : k ≤ length w / 4 → Says (Opening (n - 1) c k) (read_opening (take n s) (lines_of (drop (n + 1) s))) false (length s) d g w v
        opening_good b =
            decoded refl
            (record {
              is = is_opening ∙ rw (title_still, r.told b);
              within = omega (arith, f.ended);
              colon = rw title_still m.colon;
              fits = omega (arith, r.words);
              placed = r.placed b;
            })
            (kept_then title_kept r.kept)
            r.words

-- ---- text of one line

module _ {s d : Bytes} {n : ℕ} (f : Fits s d n) (h : 0 < n) (o : n + 1 ≡ length s) where
  rest_none : data_of (drop (n + 1) s) ≡ good []
  rest_none = data_none (drop (n + 1) s) refl (omega (arith, length-drop (n + 1) s))

  one_good : {t : Bytes} → unescape (take (n - 1) (drop 1 s)) ≡ good t → data_of s ≡ good t
  one_good {t} g = data_line s f.line f.ended t (rw (drop-take s n h) g) ∙ (ap (front t) rest_none ∙ (front_good t [] ∙ ap good (append-nil t)))

  one_wrong : unescape (take (n - 1) (drop 1 s)) ≡ refuse NotPyx → data_of s ≡ refuse NotPyx
  one_wrong g = data_wrong s f.line f.ended (rw (drop-take s n h) g)

  pub text-one : (e : List ℕ) (r : Option ℕ) → Unescapes r (unescape (take (n - 1) (drop 1 s))) (length (take (n - 1) (drop 1 s))) d e 0
      → Unescapes r (data_of s) (length s) d e 0
  text-one e None u = (one_wrong u.0, kept_more u.1 (omega (arith, title_size f h)))
  text-one e (Some to) u = record { text = u.text; is = one_good u.is; wrote = u.wrote; short = omega (arith, u.short, title_size f h) }

-- ---- the kinds of events

module _ {s d : Bytes} {n : ℕ} (f : Fits s d n) where
  lines : lines_of s ≡ take n s ∷ lines_of (drop (n + 1) s)
  lines = first_line s f.line f.ended

  pub nothing_first : (w : List ℕ) → n ≡ 0 → Says Malformed (read_lines (lines_of s)) false (length s) d d w w
  unfolding read_lines when◌then◌else◌ begins ascii
  nothing_first w z = decoded refl (rw (lines, z)) kept_all refl

  module _ (h : 0 < n) where
    by_first : read_lines (lines_of s) ≡ read_lines ((get_or s 0 0 ∷ take (n - 1) (drop 1 s)) ∷ lines_of (drop (n + 1) s))
    by_first = rw (lines, first_byte s n h f.ended)

    pub lines-opening : get_or s 0 0 ≡ 40 → read_lines (lines_of s) ≡ read_opening (take n s) (lines_of (drop (n + 1) s))
    unfolding read_lines when◌then◌else◌ begins ascii
    lines-opening e = by_first ∙ rw (first_byte s n h f.ended, e)

    lines_closing : get_or s 0 0 ≡ 41 → read_lines (lines_of s) ≡ (name (take (n - 1) (drop 1 s)) >>= λ m. good (closing m))
    unfolding read_lines read_closing when◌then◌else◌ begins after ascii
    lines_closing e = by_first ∙ rw e

    pub closing_nameless : {e : List ℕ} (w : List ℕ) → get_or s 0 0 ≡ 41 → (is_q_name (take (n - 1) (drop 1 s)) ≡ false) × Kept d e (0 + length (take (n - 1) (drop 1 s)))
        → Says Malformed (read_lines (lines_of s)) false (length s) d e w w
    unfolding P.name ◌>>=◌ ◌>>◌ require◌or◌
    closing_nameless w e m = decoded refl (lines_closing e ∙ rw m.0) (nameless_kept f h w m) refl

    pub closing_good : {c : ℕ} {e : List ℕ} (w : List ℕ) → get_or s 0 0 ≡ 41 → Name c (take (n - 1) (drop 1 s)) d e 0
        → Says (Closing (n - 1)) (read_lines (lines_of s)) false (length s) d e w w
    unfolding P.name ◌>>=◌ ◌>>◌ require◌or◌
    closing_good w e m = decoded refl (lines_closing e ∙ rw (m.qname, title_there f h m), omega (arith, f.ended)) (title_kept f h m) refl

    lines-text : get_or s 0 0 ≡ 45 → read_lines (lines_of s) ≡ (data_of s >>= λ t. good (text t))
    unfolding data_of read_text
    lines-text e =
        by_first
        ∙ (dashed (take (n - 1) (drop 1 s)) (lines_of (drop (n + 1) s)) (get_or s 0 0) e
        ∙ (ap read_text (sym (lines ∙ rw (first_byte s n h f.ended))) ∙ text-joined (each (λ l. unescape (after (ascii "-") l)) (lines_of s))))

    pub text_wrong : {e : List ℕ} (w : List ℕ) → get_or s 0 0 ≡ 45 → (data_of s ≡ refuse NotPyx) × Kept d e (0 + length s)
        → Says Malformed (read_lines (lines_of s)) false (length s) d e w w
    unfolding ◌>>=◌
    text_wrong w e r = decoded refl (lines-text e ∙ rw r.0) (kept_more r.1 (omega arith)) refl

    pub text_good : {e : List ℕ} {to : ℕ} (w : List ℕ) → get_or s 0 0 ≡ 45 → Stored (data_of s) (length s) d e 0 to → Says (Text to) (read_lines (lines_of s)) false (length s) d e w w
    unfolding ◌>>=◌
    text_good w e p =
        decoded refl (lines-text e ∙ rw (p.is, wrote_front p.wrote), omega (arith, p.short)) (kept_wrote p.wrote (omega (arith, p.short))) refl

    pub instruction_good : (w : List ℕ) → get_or s 0 0 ≡ 63 → Says Instruction (read_lines (lines_of s)) false (length s) d d w w
    unfolding read_lines when◌then◌else◌ begins ascii
    instruction_good w e = decoded refl (by_first ∙ rw e) kept_all refl

    pub other_first : (w : List ℕ) → (get_or s 0 0 ≡ 40 → ⊥) → (get_or s 0 0 ≡ 41 → ⊥) → (get_or s 0 0 ≡ 45 → ⊥) → (get_or s 0 0 ≡ 63 → ⊥)
        → Says Malformed (read_lines (lines_of s)) false (length s) d d w w
    unfolding read_lines when◌then◌else◌ begins ascii
    other_first w a b c e = decoded refl (by_first ∙ rw (not_first 40 (get_or s 0 0) a, not_first 41 (get_or s 0 0) b, not_first 45 (get_or s 0 0) c, not_first 63 (get_or s 0 0) e)) kept_all refl

-- ---- `first_line`

module _ (s : Bytes) where
  pub read_no_text : false ≡ as_characters (every is_char) s → read_event s ≡ refuse NotPyx
  unfolding read_event ◌>>◌ require◌or◌
  read_no_text t = rw (← t)

  lines_read : true ≡ as_characters (every is_char) s → read_event s ≡ read_lines (lines_of s)
  unfolding read_event lines_of ◌>>◌ require◌or◌
  lines_read t = rw (← t)

  pub read_unended : {n : ℕ} → true ≡ as_characters (every is_char) s → n ≡ length (up_to is_end s) → n ≡ length s → read_event s ≡ refuse NotPyx
  unfolding read_lines
  read_unended t q h = lines_read t ∙ rw (no_line s q (omega arith))

no_end : (t : Bytes) → every printable t ≡ true → among t 10 ≡ false
unfolding every among printable byte
no_end [] h = refl
no_end (a ∷ t) h =
    let p = and_left (leb 32 a && ltb a 128) (every printable t) h in
    rw (ne_eqb a 10 (λ e. omega (arith, leb-true 32 a (and_left (leb 32 a) (ltb a 128) p))), no_end t (and_right (leb 32 a && ltb a 128) (every printable t) h))

pub plain-line : (s : Bytes) → PlainLine s → Headed s (length s - 1)
plain-line s h =
    let n : ℕ = length s - 1 in
    let z : 0 + n ≡ n = omega arith in
    let l : n < length s = omega (arith, h.some) in
    let passed = rw z at (sought_block 10 n {s = s} sought_begins (omega arith) (no_end (take n s) h.plain)) in
    let q : n ≡ length (up_to is_end s) = sought_stop passed l (eq-eqb (get_or s n 0) 10 h.ended) in
    record {
      clear = sym (spaced-one s (omega arith));
      text = printable-line s n l (omega arith) h.plain h.ended;
      line = q;
      ended = l;
    }

-- ---- `decode`

module _ (s d : Bytes) (w : List ℕ) where
  no_scratch_lem : unread s d ≡ true → Decodes NoScratch s d d w w
  no_scratch_lem u = record { refused = sym u; means = (refl, refl); kept = kept_all; words = refl }

  pub decode-long : 32_768 < length s → Decodes NoScratch s d d w w
  unfolding most_event_bytes unread
  decode-long h = no_scratch_lem (rw (lt-ltb 32_768 (length s) h))

  module _ (a : length s ≤ 32_768) where
    pub decode_short : length d < length s → Decodes NoScratch s d d w w
    unfolding most_event_bytes unread
    decode_short h = no_scratch_lem (rw (le-ltb 32_768 (length s) a, lt-ltb (length d) (length s) h))

    module _ (b : length s ≤ length d) where
      pub decode-spaced : true ≡ spaced s → Decodes NoScratch s d d w w
      unfolding most_event_bytes unread
      decode-spaced h = no_scratch_lem (rw (le-ltb 32_768 (length s) a, le-ltb (length d) (length s) b) (sym h))

      module _ (c : false ≡ spaced s) where
        read : unread s d ≡ false
        unfolding most_event_bytes unread
        read = rw (le-ltb 32_768 (length s) a, le-ltb (length d) (length s) b) (sym c)

        pub decode_wrong : read_event s ≡ refuse NotPyx → Decodes Malformed s d d w w
        decode_wrong e = rw read (decoded refl e kept_all refl)

      module _ {n : ℕ} (l : Headed s n) where
        pub decode-fits : Fits s d n
        decode-fits = record { line = l.line; ended = l.ended; room = b; most = a; clear = sym l.clear }

        pub decode-lines : {r : Event} {e v : List ℕ} → Says r (read_lines (lines_of s)) false (length s) d e w v → Decodes r s d e w v
        decode-lines z = rw (read l.clear, lines_read s l.text) z
