-- Regular grammars: what they describe, and a test that computes. That the two agree is proved in Grammar of `theorems`.
use Rattle.std.specs.Prelude.{◌≡◌, ◌⊎◌, Bool, true, false, ◌&&◌, ◌||◌, List, [], ◌∷◌, ◌++◌}

infixr 20 ◌or◌
infixr 30 ◌then◌
pub data Grammar (A : Type 0) : Type 0 where
  nothing empty : Grammar A
  one : (A → Bool) → Grammar A
  ◌or◌ ◌then◌ : Grammar A → Grammar A → Grammar A
  many : Grammar A → Grammar A

-- a row of any number of pieces, each described by P
pub data Many {A : Type 0} (P : List A → Type 0) : List A → Type 0 where
  stop : {s : List A} → s ≡ [] → Many P s
  more : {s : List A} (u v : List A) → s ≡ u ++ v → P u → Many P v → Many P s

-- what a grammar describes
abbrev pub Describes : {A : Type 0} → Grammar A → List A → Type 0
Describes nothing s = ⊥
Describes empty s = s ≡ []
Describes {A} (one p) s = (a : A) × (s ≡ a ∷ []) × (p a ≡ true)
Describes (g or h) s = Describes g s ⊎ Describes h s
Describes {A} (g then h) s = (u : List A) × (v : List A) × (s ≡ u ++ v) × Describes g u × Describes h v
Describes (many g) s = Many (Describes g) s

-- the test, by Brzozowski's derivatives
abbrev pub null : {A : Type 0} → Grammar A → Bool
null nothing = false
null empty = true
null (one p) = false
null (g or h) = null g || null h
null (g then h) = null g && null h
null (many g) = true

abbrev pub only : {A : Type 0} → Bool → Grammar A → Grammar A
only true g = g
only false g = nothing

-- what describes nothing is left out on the way, so that the derivatives stay small
abbrev pub or_right : {A : Type 0} → Grammar A → Grammar A → Grammar A
or_right g nothing = g
or_right g empty = g or empty
or_right g (one p) = g or one p
or_right g (h or k) = g or (h or k)
or_right g (h then k) = g or (h then k)
or_right g (many h) = g or many h

abbrev pub ◌or'◌ : {A : Type 0} → Grammar A → Grammar A → Grammar A
◌or'◌ nothing h = h
◌or'◌ empty h = or_right empty h
◌or'◌ (one p) h = or_right (one p) h
◌or'◌ (g or k) h = or_right (g or k) h
◌or'◌ (g then k) h = or_right (g then k) h
◌or'◌ (many g) h = or_right (many g) h

abbrev pub ◌then'◌ : {A : Type 0} → Grammar A → Grammar A → Grammar A
◌then'◌ nothing h = nothing
◌then'◌ empty h = h
◌then'◌ (one p) h = one p then h
◌then'◌ (g or k) h = (g or k) then h
◌then'◌ (g then k) h = (g then k) then h
◌then'◌ (many g) h = many g then h

abbrev pub after : {A : Type 0} → A → Grammar A → Grammar A
after a nothing = nothing
after a empty = nothing
after a (one p) = only (p a) empty
after a (g or h) = ◌or'◌ (after a g) (after a h)
after a (g then h) = ◌or'◌ (◌then'◌ (after a g) h) (only (null g) (after a h))
after a (many g) = ◌then'◌ (after a g) (many g)

abbrev pub accepts : {A : Type 0} → Grammar A → List A → Bool
accepts g [] = null g
accepts g (a ∷ s) = accepts (after a g) s
