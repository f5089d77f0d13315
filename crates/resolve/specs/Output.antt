-- The output buffer of RFC 3986, section 5.2.4, in a lent area: which text it is, where not all of it has room.
use Rattle.std.specs.Prelude.{◌≡◌, Bool, true, not, eqb, leb, ltb, take, get_or, set}
use Rattle.std.proofs.Math.Path.{refl, ap}
use Rattle.std.proofs.Common.{sym, ◌∙◌, inl, length-append, length-drop, drop_of_length-le, take-take, drop-cons, drop-drop, get_or-drop, zero-add, eqb-true, le-leb, ltb-true, ltb-false}
use Rattle.std.proofs.Math.Bool.{false}
use Rattle.std.proofs.lemmas.Bool.{false≢true, lt-leb}
use mathlib.Core.List.{List, [], ◌∷◌, ◌++◌, append-nil}
use Prim.Native.Nat.{ℕ, zero, suc, ◌+◌, ◌-◌, ◌^◌, ◌<◌, ◌≤◌}
use native.Mathlib.Omega.{arith}
use Rattle.std.proofs.Math.Numerals.{add-one}
use Rattle.std.proofs.Math.ListN.{length, drop}
use Rattle.spec.specs.Bytes.{Bytes, ascii, when◌then◌else◌, same, up_to, split}
use Rattle.spec.specs.Rfc3986.{without_last}
use Rattle.copy.specs.Copy.{part, length_part, part_add, rest_of, Put, Wrote, put-fits, then as row, wrote_none, wrote_one, wrote_part, wrote_apart, wrote_same, wrote_before}
use Rattle.copy.specs.Texts.{length_up_to, up_to_take, up_to_stop, from-drop}
use Rattle.resolve.specs.Texts.{Front, cut, Plain, plain_up_to, and-false, or-false, or_true}
use Rattle.resolve.specs.Last.{without_segment, without_first, Beginning, beginning-whole, beginning_then, without-beginning}
use Rattle.resolve.specs.Segments.{appended, closed, output, outputs, begun_by, begun_after, is_last, split_plain, split_segment, split_never, starts_dot, outputs-whole, begun-whole}
use Rattle.resolve.specs.declared.path.Output.{Output}

-- ---- the text that it stands for

-- a text without its last segments
unfoldable pub backs : ℕ → Bytes → Bytes
backs zero t = t
backs (suc n) t = backs n (without_last t)

pub backs-beginning : (n : ℕ) (t : Bytes) → Beginning (backs n t) t
unfolding backs
backs-beginning zero t = beginning-whole t
backs-beginning (suc n) t = beginning_then (backs-beginning n (without_last t)) (without-beginning t)

-- What stands, `f`, and a segment behind it, which is too long for the room: with it the text is `u`.
pub record Beyond (f u : Bytes) (room : ℕ) : Type 0 where
  pub led : Bool
  pub segment : Bytes
  pub plain : Plain segment
  pub first : led ≡ false → f ≡ []
  pub is : u ≡ appended led segment f
  pub long : room < length u

-- The buffer begins at `from` and ends in the area.
pub record Within (area : Bytes) (from : ℕ) (out : Output) : Type 0 where
  pub order : from ≤ out.end
  pub within : out.end ≤ length area

-- The output is `t`: without the segments that stand nowhere it is what stands there.
pub record Stands (area : Bytes) (from : ℕ) (out : Output) (t : Bytes) : Type 0 where
  pub is : part area from (out.end - from) ≡ backs out.beyond t
  pub beyond : (n : ℕ) → out.beyond ≡ suc n → Beyond (part area from (out.end - from)) (backs n t) (length area - from)
  pub fresh : out.begun ≡ false → t ≡ []

-- What a call makes of the output, by `f`: at most `k` segments more stand nowhere, and what stands before the buffer stays.
pub record Grown (area after : Bytes) (from : ℕ) (out r : Output) (k : ℕ) (b : Bool) (f : Bytes → Bytes) : Type 0 where
  pub same : length after ≡ length area
  pub before : take from after ≡ take from area
  pub within : Within after from r
  pub few : r.beyond ≤ out.beyond + k
  pub begun : r.begun ≡ b
  pub stands : (t : Bytes) → Stands area from out t → Stands after from r (f t)

-- the same for a call that does not look where the buffer begins
abbrev pub Grows : Bytes → Bytes → Output → Output → ℕ → Bool → (Bytes → Bytes) → Type 0
Grows area after out r k b f = (from : ℕ) → from ≤ out.end → Grown area after from out r k b f

-- What a call asks: the buffer ends in the area, and `k` segments more can be counted.
pub record Counts (area : Bytes) (out : Output) (k : ℕ) : Type 0 where
  pub within : out.end ≤ length area
  pub few : out.beyond + k < 2 ^ 64

-- ---- a segment more

abbrev pub slashes_of : Bool → ℕ
slashes_of true = 1
slashes_of false = 0

-- the "/" before a segment, or none
abbrev pub slash_text : Bool → Bytes
slash_text begun = take (slashes_of begun) (47 ∷ [])

-- past the room
abbrev pub passed : Output → Output
passed out = record { end = out.end; beyond = out.beyond + 1; begun = true }

without-appended : (begun : Bool) (s t : Bytes) → Plain s → (begun ≡ false → t ≡ []) → without_last (appended begun s t) ≡ t
unfolding appended
without-appended true s t h f = without_segment t s h
without-appended false s t h f = rw (f refl) (without_first s h)

appended_as : (begun : Bool) (s t : Bytes) → appended begun s t ≡ t ++ (slash_text begun ++ s)
unfolding appended
appended_as true s t = refl
appended_as false s t = refl

length-appended : (begun : Bool) (s t : Bytes) → length (appended begun s t) ≡ length t + (slashes_of begun + length s)
unfolding appended
length-appended true s t = length-append t (47 ∷ s) ∙ omega arith
length-appended false s t = length-append t s ∙ omega arith

-- of segments that stand nowhere there is one more
back_appended : {area : Bytes} {from : ℕ} {out : Output} {t : Bytes} (s : Bytes) → Plain s → Stands area from out t → (n : ℕ) → backs (suc n) (appended out.begun s t) ≡ backs n t
unfolding backs
back_appended {area} {from} {out} {t} s p h n = rw (without-appended out.begun s t p h.fresh)

passes : {area : Bytes} {from : ℕ} {out : Output} (s t : Bytes) → Plain s → Stands area from out t
    → ((n : ℕ) → out.beyond ≡ n → Beyond (part area from (out.end - from)) (backs n (appended out.begun s t)) (length area - from))
    → Stands area from (passed out) (appended out.begun s t)
passes {area} {from} {out} s t p h b =
    record {
      is = h.is ∙ rw (add-one out.beyond) (sym (back_appended s p h out.beyond));
      beyond = λ n e. b n (omega arith);
      fresh = λ e. absurd (false≢true (sym e));
    }

module _ {area : Bytes} {from : ℕ} {out : Output} (w : Within area from out) (s : Bytes) (p : Plain s) where
  over : ((t : Bytes) → Stands area from out t → (n : ℕ) → out.beyond ≡ n → Beyond (part area from (out.end - from)) (backs n (appended out.begun s t)) (length area - from))
      → Grown area area from out (passed out) 1 true (appended out.begun s)
  over b =
      record {
        same = refl;
        before = refl;
        within = record { order = w.order; within = w.within };
        few = omega arith;
        begun = refl;
        stands = λ t h. passes s t p h (b t h);
      }

  -- where one before it had no room
  pub appended_beyond : 0 < out.beyond → Grown area area from out (passed out) 1 true (appended out.begun s)
  appended_beyond z = over λ t h n e. again t h n e
    where
      again : (t : Bytes) → Stands area from out t → (n : ℕ) → out.beyond ≡ n → Beyond (part area from (out.end - from)) (backs n (appended out.begun s t)) (length area - from)
      again t h zero e = absurd (omega arith)
      again t h (suc n) e = rw (back_appended s p h n) (h.beyond n e)

  -- where it has none itself
  pub appended_over : out.beyond ≤ 0 → length area - out.end < slashes_of out.begun + length s → Grown area area from out (passed out) 1 true (appended out.begun s)
  unfolding backs
  appended_over z l = over λ t h n e. first t h n e
    where
      first : (t : Bytes) → Stands area from out t → (n : ℕ) → out.beyond ≡ n → Beyond (part area from (out.end - from)) (backs n (appended out.begun s t)) (length area - from)
      first t h (suc n) e = absurd (omega arith)
      first t h zero e =
          let f : part area from (out.end - from) ≡ t = rw e at h.is in
          record {
            led = out.begun;
            segment = s;
            plain = p;
            first = λ q. f ∙ h.fresh q;
            is = rw f;
            long = omega (arith, length-appended out.begun s t, ap length f, length_part area from (out.end - from) (omega (arith, w.order, w.within)), w.order, w.within);
          }

-- one or more segments that have room
pub stored : {area e after : Bytes} {from at : ℕ} {out : Output} {b : Bool} → Within area from out → (s : Bytes) → out.beyond ≤ 0
    → slashes_of out.begun + length s ≤ length area - out.end → Wrote area e out.end at (slash_text out.begun) → Put e at s after b
    → Grown area after from out (record { end = at + length s; beyond = 0; begun = true }) 1 true (appended out.begun s)
unfolding backs
stored {area} {e} {after} {from} {at} {out} w s z l first r =
    let size : length (slash_text out.begun) ≡ slashes_of out.begun = one out.begun in
    let second : Wrote e after at (at + length s) s = put-fits r (omega (arith, w.within, wrote_same first, first.up)) in
    let both : Wrote area after out.end (at + length s) (slash_text out.begun ++ s) = row first second in
    let keeps : take out.end after ≡ take out.end area = wrote_before both in
    record {
      same = wrote_same both;
      before = sym (take-take from out.end after w.order) ∙ rw keeps (take-take from out.end area w.order);
      within = record { order = omega (arith, w.order, first.up); within = omega (arith, w.within, wrote_same both, first.up) };
      few = omega arith;
      begun = refl;
      stands = λ t h.
          record {
            is = grown t h both (omega (arith, first.up));
            beyond = λ n x. absurd (omega arith);
            fresh = λ x. absurd (false≢true (sym x));
          };
    }
  where
    one : (b : Bool) → length (slash_text b) ≡ slashes_of b
    one true = refl
    one false = refl

    grown : {to : ℕ} (t : Bytes) → Stands area from out t → Wrote area after out.end to (slash_text out.begun ++ s) → to ≡ out.end + (slashes_of out.begun + length s)
        → part after from (to - from) ≡ appended out.begun s t
    grown {to} t h both q =
        let n : ℕ = out.end - from in
        let k : ℕ = slashes_of out.begun + length s in
        let none : out.beyond ≡ 0 = omega arith in
        let size : length (slash_text out.begun ++ s) ≡ k = length-append (slash_text out.begun) s ∙ ap (◌+ length s) (one out.begun) in
        let split : to - from ≡ n + k = omega (arith, w.order, q) in
        let at : from + n ≡ out.end = omega (arith, w.order) in
        let front : part after from n ≡ t = wrote_apart both from n (inl (omega (arith, w.order))) ∙ (rw none at h.is) in
        let behind : part after (from + n) k ≡ slash_text out.begun ++ s = rw (at, ← size) (wrote_part both) in
        ap (part after from) split ∙ part_add after from n k ∙ rw (front, behind) (sym (appended_as out.begun s t))

-- the "/" before them
pub slash_none : {area : Bytes} {at : ℕ} (begun : Bool) → begun ≡ false → at + slashes_of begun ≤ length area → Wrote area area at at (slash_text begun)
slash_none {area} {at} begun e h = rw e (wrote_none (omega (arith, h)))

pub slash_room : {at n : ℕ} (begun : Bool) → begun ≡ true → at + slashes_of begun ≤ n → at < n
slash_room {at} {n} begun e h = let l : at + 1 ≤ n = rw e at h in omega arith

pub slash_put : {area : Bytes} {at : ℕ} (begun : Bool) → begun ≡ true → at + slashes_of begun ≤ length area → Wrote area (set area at 47) at (at + 1) (slash_text begun)
slash_put {area} {at} begun e h = rw e (wrote_one (slash_room begun e h))

-- the test that `room_for` makes
pub room_led : (begun : Bool) (room size : ℕ) → begun ≡ true → ltb size room ≡ leb (slashes_of begun + size) room
room_led begun room size e = rw e (go (ltb size room) refl)
  where
    go : (t : Bool) → ltb size room ≡ t → t ≡ leb (1 + size) room
    go true h = sym (le-leb (1 + size) room (omega (arith, ltb-true size room h)))
    go false h = sym (lt-leb (1 + size) room (omega (arith, ltb-false size room h)))

pub room_first : (begun : Bool) (room size : ℕ) → begun ≡ false → leb size room ≡ leb (slashes_of begun + size) room
room_first begun room size e = rw (e, zero-add size)

-- ---- a segment less

none_without : (t : Bytes) → t ≡ [] → without_last t ≡ []
none_without t e = rw e (without_first [] tt)

module _ {area : Bytes} {from : ℕ} {out : Output} (w : Within area from out) where
  -- one that stood nowhere
  pub stepped_beyond : 0 < out.beyond → Grown area area from out (record { end = out.end; beyond = out.beyond - 1; begun = out.begun }) 0 out.begun without_last
  unfolding backs
  stepped_beyond z =
      record {
        same = refl;
        before = refl;
        within = record { order = w.order; within = w.within };
        few = omega arith;
        begun = refl;
        stands = λ t h. back t h (out.beyond - 1) (omega arith);
      }
    where
      back : (t : Bytes) → Stands area from out t → (n : ℕ) → out.beyond ≡ suc n → Stands area from (record { end = out.end; beyond = n; begun = out.begun }) (without_last t)
      back t h n e =
          record {
            is = rw e at h.is;
            beyond = λ k q. rw q at (h.beyond n e);
            fresh = λ q. none_without t (h.fresh q);
          }

  -- the last one that stands
  pub stepped_back : {n : ℕ} → out.beyond ≤ 0 → (let f = take (out.end - from) (drop from area) in Front f (without_last f) n)
      → Grown area area from out (record { end = from + n; beyond = 0; begun = out.begun }) 0 out.begun without_last
  unfolding backs part
  stepped_back {n} z f =
      let size : length (take (out.end - from) (drop from area)) ≡ out.end - from = length_part area from (out.end - from) (omega (arith, w.order, w.within)) in
      let none : out.beyond ≡ 0 = omega arith in
      let k : from + n - from ≡ n = omega arith in
      record {
        same = refl;
        before = refl;
        within = record { order = omega arith; within = omega (arith, f.within, size, w.order, w.within) };
        few = omega arith;
        begun = refl;
        stands = λ t h.
            record {
              is = rw k (sym (take-take n (out.end - from) (drop from area) (omega (arith, f.within, size))) ∙ f.is ∙ ap without_last (rw none at h.is));
              beyond = λ m q. absurd (omega arith);
              fresh = λ q. none_without t (h.fresh q);
            };
      }

-- ---- one after another

pub stands-begins : {area : Bytes} {from : ℕ} → Stands area from (record { end = from; beyond = 0; begun = false }) []
unfolding backs part
stands-begins {area} {from} =
    let none : from - from ≡ 0 = omega arith in
    record { is = rw none; beyond = λ n e. absurd (omega arith); fresh = λ _. refl }

pub grown_none : {area : Bytes} {from : ℕ} {out : Output} → Within area from out → Grown area area from out out 0 out.begun (λ t. t)
grown_none w = record { same = refl; before = refl; within = w; few = omega arith; begun = refl; stands = λ t h. h }

pub grown_then : {a b c : Bytes} {from k l : ℕ} {out o r : Output} {x y : Bool} {f g : Bytes → Bytes}
    → Grown a b from out o k x f → Grown b c from o r l y g → Grown a c from out r (k + l) y (λ t. g (f t))
grown_then {f = f} h i =
    record {
      same = i.same ∙ h.same;
      before = i.before ∙ h.before;
      within = i.within;
      few = omega (arith, h.few, i.few);
      begun = i.begun;
      stands = λ t s. i.stands (f t) (h.stands t s);
    }

pub grown_as : {a b : Bytes} {from k l : ℕ} {out r : Output} {x y : Bool} {f g : Bytes → Bytes}
    → Grown a b from out r k x f → k ≤ l → x ≡ y → ((t : Bytes) → f t ≡ g t) → Grown a b from out r l y g
grown_as {b = b} {from = from} {r = r} h n e q =
    record {
      same = h.same;
      before = h.before;
      within = h.within;
      few = omega (arith, h.few);
      begun = h.begun ∙ e;
      stands = λ t s. rw (← (q t)) (h.stands t s);
    }

-- ---- what a segment does, by cases

module _ {area : Bytes} {from : ℕ} {out : Output} (last : Bool) where
  pub closed-inside : Within area from out → last ≡ false → Grown area area from out out 1 out.begun (closed out.begun last)
  unfolding closed when◌then◌else◌
  closed-inside w e = grown_as (grown_none w) (omega arith) refl (λ t. rw e)

  pub closed_first : Within area from out → out.begun ≡ false → Grown area area from out out 1 out.begun (closed out.begun last)
  unfolding closed when◌then◌else◌
  closed_first w e = grown_as (grown_none w) (omega arith) refl (λ t. rw (e, and-false last))

  pub closed_end : {after : Bytes} {r : Output} → last ≡ true → out.begun ≡ true → Grown area after from out r 1 true (appended out.begun [])
      → Grown area after from out r 1 out.begun (closed out.begun last)
  unfolding closed when◌then◌else◌
  closed_end e b g = grown_as g (omega arith) (sym b) (λ t. rw (e, b))

module _ {area after : Bytes} {from : ℕ} {out r : Output} (last : Bool) (s : Bytes) where
  pub output_here : same (ascii ".") s ≡ true → Grown area after from out r 1 out.begun (closed out.begun last)
      → Grown area after from out r 1 (begun_by out.begun s) (output out.begun last s)
  unfolding output begun_by when◌then◌else◌
  output_here e g = grown_as g (omega arith) (rw e (sym (or-false out.begun))) (λ t. rw e)

  pub output-parent : {o : Output} → same (ascii ".") s ≡ false → same (ascii "..") s ≡ true → Grown area area from out o 0 out.begun without_last
      → Grown area after from o r 1 o.begun (closed o.begun last)
      → Grown area after from out r 1 (begun_by out.begun s) (output out.begun last s)
  unfolding output begun_by when◌then◌else◌
  output-parent {o} n e g h =
      grown_as (grown_then g h) (omega arith) (g.begun ∙ rw (n, e) (sym (or-false out.begun))) (λ t. rw (n, e) (ap (λ (b : Bool). closed b last (without_last t)) g.begun))

  pub output-other : same (ascii ".") s ≡ false → same (ascii "..") s ≡ false → Grown area after from out r 1 true (appended out.begun s)
      → Grown area after from out r 1 (begun_by out.begun s) (output out.begun last s)
  unfolding output begun_by when◌then◌else◌
  output-other n e g = grown_as g (omega arith) (rw (n, e) (sym (or_true out.begun))) (λ t. rw (n, e))

-- ---- the segments of a path, at once where none is a dot segment

-- a path that has room behind the output, and no dot segment
pub record Simple (path : Bytes) (out : Output) (room : ℕ) : Type 0 where
  pub here : out.beyond ≤ 0
  pub fits : slashes_of out.begun + length path ≤ room - out.end
  pub free : starts_dot true path ≡ false

pub whole : {area after : Bytes} {from room : ℕ} {out r : Output} (path : Bytes) (more : Bool) → Simple path out room
    → Grown area after from out r 1 true (appended out.begun path)
    → Grown area after from out r (length path + 1) (begun_after out.begun (split 47 path)) (outputs out.begun more (split 47 path))
whole {out = out} path more h g =
    grown_as g (omega arith) (sym (begun-whole path h.free out.begun)) (λ t. sym (outputs-whole path h.free out.begun more t))

-- ---- and in order

-- the output is `text`, and what is left makes of it `whole`
pub record Standing (area : Bytes) (from : ℕ) (o : Output) (more : Bool) (rest whole : Bytes) : Type 0 where
  pub text : Bytes
  pub stands : Stands area from o text
  pub left : outputs o.begun more (split 47 rest) text ≡ whole

-- the loop: the segments before `i` are there, and the next one ends at `end`
pub record Going (path : Bytes) (more : Bool) (area₀ area : Bytes) (from : ℕ) (out o : Output) (i end : ℕ) : Type 0 where
  pub same : length area ≡ length area₀
  pub before : take from area ≡ take from area₀
  pub within : Within area from o
  pub start : i ≤ length path
  pub segment : end ≡ i + length (up_to (λ (c : ℕ). eqb c 47) (drop i path))
  pub few : o.beyond ≤ out.beyond + i
  pub begun : begun_after o.begun (split 47 (drop i path)) ≡ begun_after out.begun (split 47 path)
  pub stands : (t : Bytes) → Stands area₀ from out t → Standing area from o more (drop i path) (outputs out.begun more (split 47 path) t)

pub going_begins : {path area : Bytes} {more : Bool} {from n : ℕ} {out : Output} → Within area from out → n ≡ length (up_to (λ (c : ℕ). eqb c 47) path)
    → Going path more area area from out out 0 n
going_begins w e =
    record {
      same = refl;
      before = refl;
      within = w;
      start = omega arith;
      segment = omega arith;
      few = omega arith;
      begun = refl;
      stands = λ t h. record { text = t; stands = h; left = refl };
    }

-- where the next segment ends
pub next_end : (path : Bytes) (i : ℕ) {n : ℕ} → n ≡ length (up_to (λ (c : ℕ). eqb c 47) (take (length path - i) (drop i path))) → i ≤ length path → i + n ≤ length path
next_end path i {n} e h = omega (arith, rw (rest_of path i) at e, length_up_to (λ (c : ℕ). eqb c 47) (drop i path), length-drop i path)

-- a segment of a path
abbrev pub segment_at : Bytes → ℕ → ℕ → Bytes
segment_at path i end = take (end - i) (drop i path)

module _ {path area₀ area : Bytes} {more : Bool} {from i end : ℕ} {out o : Output} (g : Going path more area₀ area from out o i end) where
  pub end_within : end ≤ length path
  end_within = omega (arith, g.segment, g.start, length_up_to (λ (c : ℕ). eqb c 47) (drop i path), length-drop i path)

  segment_is : segment_at path i end ≡ up_to (λ (c : ℕ). eqb c 47) (drop i path)
  segment_is =
      let n : end - i ≡ length (up_to (λ (c : ℕ). eqb c 47) (drop i path)) = omega (arith, g.segment) in
      rw n (sym (up_to_take (λ (c : ℕ). eqb c 47) (drop i path)))

  pub segment_plain : Plain (segment_at path i end)
  segment_plain = rw segment_is (plain_up_to (drop i path))

  rest_is : drop i path ≡ segment_at path i end ++ drop end path
  rest_is =
      let n : i + length (up_to (λ (c : ℕ). eqb c 47) (drop i path)) ≡ end = sym g.segment in
      sym (cut (λ (c : ℕ). eqb c 47) (drop i path)) ∙ rw (← segment_is, from-drop (λ (c : ℕ). eqb c 47) (drop i path), drop-drop, n)

  stops : end < length path → get_or path end 0 ≡ 47
  stops l =
      let n : i + length (up_to (λ (c : ℕ). eqb c 47) (drop i path)) ≡ end = sym g.segment in
      let inside : length (up_to (λ (c : ℕ). eqb c 47) (drop i path)) < length (drop i path) = rw length-drop (omega (arith, g.segment, g.start)) in
      eqb-true (get_or path end 0) 47 (rw (get_or-drop, n) at (up_to_stop (λ (c : ℕ). eqb c 47) (drop i path) inside))

  module _ {after : Bytes} {r : Output} where
    pub going_more : {n : ℕ} → end < length path → Grown area after from o r 1 (begun_by o.begun (segment_at path i end)) (output o.begun false (segment_at path i end))
        → n ≡ length (up_to (λ (c : ℕ). eqb c 47) (drop (end + 1) path)) → Going path more area₀ after from out r (end + 1) (end + 1 + n)
    unfolding outputs begun_after
    going_more {n} l h e =
        let s : Bytes = segment_at path i end in
        let rest : Bytes = drop (end + 1) path in
        let front : drop i path ≡ s ++ 47 ∷ rest = rest_is ∙ rw (drop-cons path end 0 l, stops l, add-one end) in
        let cutting : split 47 (drop i path) ≡ s ∷ split 47 rest = ap (split 47) front ∙ split_segment s rest segment_plain in
        record {
          same = h.same ∙ g.same;
          before = h.before ∙ g.before;
          within = h.within;
          start = omega arith;
          segment = omega (arith, e);
          few = omega (arith, g.few, h.few, g.segment);
          begun = rw h.begun (ap (begun_after o.begun) (sym cutting) ∙ g.begun);
          stands = λ t k.
              let q = g.stands t k in
              record {
                text = output o.begun false s q.text;
                stands = h.stands q.text q.stands;
                left =
                    rw h.begun
                    (ap (λ (l : Bool). outputs (begun_by o.begun s) more (split 47 rest) (output o.begun l s q.text)) (sym (split_never more rest))
                    ∙ ap (λ (ss : List Bytes). outputs o.begun more ss q.text) (sym cutting) ∙ q.left);
              };
        }

    pub going_done : length path ≤ end → Grown area after from o r 1 (begun_by o.begun (segment_at path i end)) (output o.begun (not more) (segment_at path i end))
        → Grown area₀ after from out r (length path + 1) (begun_after out.begun (split 47 path)) (outputs out.begun more (split 47 path))
    unfolding outputs begun_after is_last
    going_done l h =
        let s : Bytes = segment_at path i end in
        let front : drop i path ≡ s = rest_is ∙ rw (drop_of_length-le path l, append-nil s) in
        let cutting : split 47 (drop i path) ≡ s ∷ [] = ap (split 47) front ∙ split_plain s segment_plain in
        record {
          same = h.same ∙ g.same;
          before = h.before ∙ g.before;
          within = h.within;
          few = omega (arith, g.few, h.few, g.start);
          begun = h.begun ∙ ap (begun_after o.begun) (sym cutting) ∙ g.begun;
          stands = λ t k.
              let q = g.stands t k in
              rw (← (ap (λ (ss : List Bytes). outputs o.begun more ss q.text) (sym cutting) ∙ q.left)) (h.stands q.text q.stands);
        }
