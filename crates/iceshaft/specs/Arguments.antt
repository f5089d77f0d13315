-- What the arguments say: switches, and behind them files.
use Rattle.std.specs.Prelude.{ℕ, suc, ◌≡◌, refl, Bool, true, false, List, [], ◌∷◌, Option, Some, None}
use Rattle.std.specs.Option.{is_some, option_or}
use Rattle.std.proofs.Math.Path.{sym, ap}
use Rattle.std.proofs.Common.{◌∙◌, true≢false}
use Rattle.spec.specs.declared.Mode.{Mode}
use Rattle.spec.specs.Modes.{base_mode, xmp_mode}
use Rattle.spec.specs.Bytes.{Bytes, ascii, when◌then◌else◌, same, begins}
use Rattle.iceshaft.specs.declared.arguments.Chosen.{Chosen}

abbrev pub unsaid : Chosen
unsaid = record { pyx = false; xmp = false; base = None; file = None; waits = false }

abbrev pub with_pyx : Chosen → Chosen
with_pyx c = record { pyx = true; xmp = c.xmp; base = c.base; file = c.file; waits = c.waits }

abbrev pub with_xmp : Chosen → Chosen
with_xmp c = record { pyx = c.pyx; xmp = true; base = c.base; file = c.file; waits = c.waits }

-- the mode of every document
unfoldable pub chosen_mode : Chosen → Mode
chosen_mode c = when c.xmp then xmp_mode else base_mode

abbrev pub with_base : Chosen → ℕ → Chosen
with_base c i = record { pyx = c.pyx; xmp = c.xmp; base = Some i; file = c.file; waits = false }

-- the first file stays
abbrev pub with_file : Chosen → ℕ → Chosen
with_file c i =
    record { pyx = c.pyx; xmp = c.xmp; base = c.base; file = option_or c.file (Some i); waits = c.waits }

-- a base is said once
abbrev pub awaiting : Chosen → Option Chosen
awaiting c = when is_some c.base then None else Some (record { pyx = c.pyx; xmp = c.xmp; base = c.base; file = c.file; waits = true })

-- a word that begins with `-`
unfoldable pub switched : Chosen → Bytes → Option Chosen
switched c s =
    when same s (ascii "--pyx")
    then Some (with_pyx c)
    else when same s (ascii "--xmp")
    then Some (with_xmp c)
    else when same s (ascii "--base") then awaiting c else None

-- argument i: the base that `--base` waits for, a file, or a switch; none stands behind a file
unfoldable pub looked : Chosen → ℕ → Bytes → Option Chosen
looked c i s =
    when c.waits
    then Some (with_base c i)
    else when begins (ascii "-") s
    then when is_some c.file then None else switched c s
    else Some (with_file c i)

-- behind the last argument: no base is waited for, and PYX was said
abbrev pub Settled : Option Chosen → Type 0
Settled (Some c) = (c.waits ≡ false) × (c.pyx ≡ true)
Settled None = Unit

-- ---- all arguments, from number i on

unfoldable pub looked_on : Option Chosen → ℕ → Bytes → Option Chosen
looked_on (Some c) i s = looked c i s
looked_on None i s = None

unfoldable pub all_from : List Bytes → ℕ → Option Chosen → Option Chosen
all_from [] i l = l
all_from (s ∷ rest) i l = all_from rest (suc i) (looked_on l i s)

abbrev all : List Bytes → Option Chosen
all l = all_from l 1 (Some unsaid)

-- `iceshaft --pyx --base http://e/ a.pyx b.pyx`, and in another order
said : all (ascii "--pyx" ∷ ascii "--base" ∷ ascii "http://e/" ∷ ascii "a.pyx" ∷ ascii "b.pyx" ∷ []) ≡ Some (record { pyx = true; xmp = false; base = Some 3; file = Some 4; waits = false })
unfolding all_from looked_on looked switched when◌then◌else◌ same begins ascii
said = refl

other_order : all (ascii "--base" ∷ ascii "--pyx" ∷ ascii "--pyx" ∷ []) ≡ Some (record { pyx = true; xmp = false; base = Some 2; file = None; waits = false })
unfolding all_from looked_on looked switched when◌then◌else◌ same begins ascii
other_order = refl

-- `iceshaft --pyx --xmp a.pyx`: packets
packets : all (ascii "--pyx" ∷ ascii "--xmp" ∷ ascii "a.pyx" ∷ [])
    ≡ Some (record { pyx = true; xmp = true; base = None; file = Some 3; waits = false })
unfolding all_from looked_on looked switched when◌then◌else◌ same begins ascii
packets = refl

-- a switch behind a file, two bases, and one that is unknown
late : all (ascii "--pyx" ∷ ascii "a.pyx" ∷ ascii "--base" ∷ ascii "http://e/" ∷ []) ≡ None
unfolding all_from looked_on looked switched when◌then◌else◌ same begins ascii
late = refl

two_bases : all (ascii "--base" ∷ ascii "http://e/" ∷ ascii "--base" ∷ ascii "http://f/" ∷ []) ≡ None
unfolding all_from looked_on looked switched when◌then◌else◌ same begins ascii
two_bases = refl

unknown : all (ascii "--pyx" ∷ ascii "-" ∷ []) ≡ None
unfolding all_from looked_on looked switched when◌then◌else◌ same begins ascii
unknown = refl

-- ---- laws

on_true : {A : Type 0} (x y : A) {b : Bool} → b ≡ true → (when b then x else y) ≡ x
unfolding when◌then◌else◌
on_true x y e = rw e

on_false : {A : Type 0} (x y : A) {b : Bool} → b ≡ false → (when b then x else y) ≡ y
unfolding when◌then◌else◌
on_false x y e = rw e

kept : (o p : Option ℕ) → is_some o ≡ true → option_or o p ≡ o
kept (Some n) p e = refl
kept None p e = absurd (true≢false (sym e))

-- Behind the first file every argument is a file, and says nothing more: the files are those from the first to the last argument.
pub files_last : (c d : Chosen) (i : ℕ) (s : Bytes) → c.waits ≡ false → is_some c.file ≡ true → looked c i s ≡ Some d → (begins (ascii "-") s ≡ false) × (d ≡ c)
unfolding looked
files_last c d i s w f e = go (begins (ascii "-") s) refl
  where
    go : (b : Bool) → begins (ascii "-") s ≡ b → (begins (ascii "-") s ≡ false) × (d ≡ c)
    go true q =
        let h : None ≡ Some d = sym (on_false _ _ w ∙ (on_true _ _ q ∙ on_true _ _ f)) ∙ e in
        cc
    go false q =
        let h : Some (with_file c i) ≡ Some d = sym (on_false _ _ w ∙ on_false _ _ q) ∙ e in
        let same : with_file c i ≡ d = cc in
        (q, sym same ∙ ap (λ o. record { pyx = c.pyx; xmp = c.xmp; base = c.base; file = o; waits = c.waits }) (kept c.file (Some i) f))

-- ---- how the code comes to it

module _ (c : Chosen) where
  pub packets_chosen : {m : Mode} → c.xmp ≡ true → m ≡ xmp_mode → m ≡ chosen_mode c
  unfolding chosen_mode
  packets_chosen h e = e ∙ sym (on_true _ _ h)

  pub base_chosen : {m : Mode} → c.xmp ≡ false → m ≡ base_mode → m ≡ chosen_mode c
  unfolding chosen_mode
  base_chosen h e = e ∙ sym (on_false _ _ h)

  pub base_twice : is_some c.base ≡ true → None ≡ awaiting c
  base_twice h = sym (on_true _ _ h)

  pub base_once : is_some c.base ≡ false
      → Some (record { pyx = c.pyx; xmp = c.xmp; base = c.base; file = c.file; waits = true }) ≡ awaiting c
  base_once h = sym (on_false _ _ h)

  module _ (i : ℕ) where
    module _ (s : Bytes) where
      pub look_base : {n : Chosen} → c.waits ≡ true → n ≡ with_base c i → Some n ≡ looked c i s
      unfolding looked
      look_base w e = ap Some e ∙ sym (on_true _ _ w)

      module _ (w : c.waits ≡ false) where
        pub look_file : {n : Chosen} → begins (ascii "-") s ≡ false → n ≡ with_file c i → Some n ≡ looked c i s
        unfolding looked
        look_file b e = ap Some e ∙ sym (on_false _ _ w ∙ on_false _ _ b)

        module _ (b : begins (ascii "-") s ≡ true) where
          pub look_late : is_some c.file ≡ true → None ≡ looked c i s
          unfolding looked
          look_late f = sym (on_false _ _ w ∙ (on_true _ _ b ∙ on_true _ _ f))

          module _ (f : is_some c.file ≡ false) where
            look_switch : switched c s ≡ looked c i s
            unfolding looked
            look_switch = sym (on_false _ _ w ∙ (on_true _ _ b ∙ on_false _ _ f))

            pub look_pyx : {n : Chosen} → same s (ascii "--pyx") ≡ true → n ≡ with_pyx c → Some n ≡ looked c i s
            unfolding switched
            look_pyx p e = ap Some e ∙ (sym (on_true _ _ p) ∙ look_switch)

            module _ (p : same s (ascii "--pyx") ≡ false) where
              pub look_xmp : {n : Chosen} → same s (ascii "--xmp") ≡ true → n ≡ with_xmp c → Some n ≡ looked c i s
              unfolding switched
              look_xmp x e = ap Some e ∙ (sym (on_false _ _ p ∙ on_true _ _ x) ∙ look_switch)

              pub look_awaits : {l : Option Chosen} → same s (ascii "--xmp") ≡ false → same s (ascii "--base") ≡ true
                  → l ≡ awaiting c → l ≡ looked c i s
              unfolding switched
              look_awaits x q e = e ∙ (sym (on_false _ _ p ∙ (on_false _ _ x ∙ on_true _ _ q)) ∙ look_switch)

              pub look_unknown : same s (ascii "--xmp") ≡ false → same s (ascii "--base") ≡ false → None ≡ looked c i s
              unfolding switched
              look_unknown x q = sym (on_false _ _ p ∙ (on_false _ _ x ∙ on_false _ _ q)) ∙ look_switch
