-- A start tag with more attributes than an element may have is refused: by 6 where it is not well-formed, else by 7.
use Rattle.std.specs.Prelude.{suc, ◌<◌, ◌≡◌, refl, Bool, true, false, ◌&&◌, not, List, leb, length}
use Rattle.std.proofs.lemmas.Bool.{lt-leb}
use Rattle.spec.specs.Bytes.{Bytes, ◌>>◌, require◌or◌}
use Rattle.spec.specs.Numbers.{refuse}
use Rattle.spec.specs.declared.Refusal.{Refusal}
use Rattle.spec.specs.declared.Refusal.TheVariants.{NotWellFormed, OverLimit}
use Rattle.spec.specs.Limits.{most_open_elements, most_attributes}
use Rattle.spec.specs.Pyx.{Attribute}
use Rattle.spec.specs.Namespaces.{declared, all_legal}
use Rattle.spec.specs.Document.{Frame, Doc, place_in}
use Rattle.spec.specs.Opening.{is_second_root, counts_fit, repeated, open_in, on_opening}

-- what 6 asks of a start tag
unfoldable pub well_formed : List Attribute → Doc → Bool
well_formed as' d = not (is_second_root d) && (all_legal (declared as') && not (repeated (place_in d.frames) as' d))

abbrev pub refusal_by : Bool → Refusal
refusal_by true = OverLimit
refusal_by false = NotWellFormed

too_many : (as' : List Attribute) (fs : List Frame) → most_attributes < length as' → counts_fit as' fs ≡ false
unfolding counts_fit
too_many as' fs h = rw (lt-leb (length as') most_attributes h) (go (leb (suc (length fs)) most_open_elements))
  where
    go : (t : Bool) → (t && false) ≡ false
    go true = refl
    go false = refl

pub refused : (n : Bytes) (as' : List Attribute) (d : Doc) → most_attributes < length as' → on_opening n as' d ≡ refuse (refusal_by (well_formed as' d))
unfolding on_opening well_formed ◌>>◌ require◌or◌
refused n as' d h = rw (too_many as' d.frames h) (go (not (is_second_root d) && (all_legal (declared as') && not (repeated (place_in d.frames) as' d))))
  where
    go : (t : Bool) → ((require t or NotWellFormed) >> ((require false or OverLimit) >> open_in (place_in d.frames) n as' d)) ≡ refuse (refusal_by t)
    go true = refl
    go false = refl
