-- The rdf:ID of a start tag that is carried out, entered in the table.
use Rattle.std.specs.Prelude.{ℕ, ◌≡◌, refl, true, false, List, length}
use Rattle.std.proofs.Common.{sym, ◌∙◌}
use Rattle.std.proofs.lemmas.Bool.{false≢true}
use Rattle.std.specs.Prelude.{Some, None, is_some, unwrap_or}
use Rattle.std.specs.declared.option.Option as std
use Rattle.std.proofs.Math.Option.{Option, some}
use Rattle.spec.specs.Bytes.{Bytes}
use Rattle.spec.specs.Opening.{enter}
use Rattle.state_ids.specs.declared.Filled.{Filled}
use Rattle.state_ids.specs.Ids.{ids_of, room_for, ValidIds}
use Rattle.state_ids.specs.Adding.{Adds, add_answers, add_valid, add_means}
use Rattle.start_element.specs.declared.Source.{Source}
use Rattle.start_element.specs.declared.Source.TheVariants.{Missing, Own, Made}
use Rattle.start_element.specs.Element.{text_of, maybe}
use Rattle.start_plan.specs.Plan.{is_there}

-- the table behind it is valid, and means the rdf:ID, where there is one, and then those from before
pub record Enters (id : Option Bytes) (count : ℕ) (at len store : List ℕ) (t : Filled) (at' len' store' : List ℕ) : Type 0 where
  pub valid : ValidIds t.count t.used at' len' store'
  pub means : ids_of at' len' store' t.count ≡ enter id (ids_of at len store count)

pub enters_none : (id : Source) {count used : ℕ} {at len store : List ℕ} (e a : List ℕ) → ValidIds count used at len store → is_there id ≡ false
    → Enters (maybe id e a) count at len store (record { count = count; used = used }) at len store
unfolding enter maybe
enters_none Missing e a v h = record { valid = v; means = refl }
enters_none (Own i n) e a v h = absurd (false≢true (sym h))
enters_none (Made i n) e a v h = absurd (false≢true (sym h))

there : (s : Source) (e a : List ℕ) → is_there s ≡ true → maybe s e a ≡ some (text_of s e a)
unfolding maybe text_of
there Missing e a h = absurd (false≢true h)
there (Own i n) e a h = refl
there (Made i n) e a h = refl

pub enters_one : (s : Source) {i : Bytes} {count used : ℕ} {at len store at' len' store' : List ℕ} {o : std.Option Filled} {t : Filled} (d : Filled) (e a : List ℕ) → ValidIds count used at len store → is_there s ≡ true
    → room_for count used (length (text_of s e a)) ≡ true → i ≡ text_of s e a → Adds count used at len store i o at' len' store' → t ≡ unwrap_or o d → Enters (maybe s e a) count at len store t at' len' store'
unfolding enter
enters_one s {i} {count} {used} {at} {len} {store} {at'} {len'} {store'} {o} {t} d e a v h r q p u = go o (add_answers v p ∙ rw q r) u p
  where
    go : (o : std.Option Filled) → is_some o ≡ true → t ≡ unwrap_or o d → Adds count used at len store i o at' len' store' → Enters (maybe s e a) count at len store t at' len' store'
    go (Some f) y x p = rw x (record { valid = add_valid v p f refl; means = rw (there s e a h, ← q) (add_means v p f refl) })
    go None y x p = absurd (false≢true y)
