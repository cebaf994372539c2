-- Laws of places in a text: the attribute at a place, and the value of a name.
use Rattle.std.specs.Prelude.{None, Option, Some, option_map}
use Prim.Native.Nat.{ℕ, suc, ◌+◌}
use mathlib.Core.Path.{◌≡◌, refl, sym, ◌∙◌, ap}
use mathlib.Core.Bool.{true, false, cond}
use mathlib.Core.List.{List, [], ◌∷◌}
use native.Mathlib.Omega.{arith}
use lib.ListN.{length, take, drop}
use lib.Seq.{slice, drop-drop}
use Rattle.base.specs.Bytes.{Bytes, same}
use Rattle.base.proofs.Lists.{slice_take}
use Rattle.base.proofs.Split.{by_bool}
use Rattle.event.specs.Event.{value_of}
use Rattle.event_scan.specs.Parts.{written_in, text_in, attributes_in}
use Rattle.event_scan.specs.Scan.{UpTo, fields_at}
use Rattle.event_scan.specs.declared.located.AttributePlaces.{AttributePlaces}
use Rattle.event_scan.specs.declared.located.ValuePlaces.{ValuePlaces}
use Rattle.event_scan.specs.Places.{attribute_in, attribute_at, value_in, attribute_value, bytes_between}
use Rattle.event_scan.specs.Line.{Good}
use Rattle.event_scan.proofs.Noted.{Placed, placed}
use Rattle.event_scan.proofs.Standing.{value_is}

module _ (t : Bytes) (at : ℕ) where
  pub attribute_none : fields_at t at ≡ [] → None ≡ attribute_at t at
  unfolding attribute_at
  attribute_none e = sym (ap (attribute_in at) e)

  pub attribute_here : (f : Bytes) (gs : List Bytes) → fields_at t at ≡ f ∷ gs → ◌≡◌ {A = Option AttributePlaces} (Some (record { equals = at + UpTo 61 f; end = at + length f })) (attribute_at t at)
  unfolding attribute_at
  attribute_here f gs e = sym (ap (attribute_in at) e)

  module _ (name : Bytes) where
    pub value_none : fields_at t at ≡ [] → None ≡ attribute_value t name at
    unfolding attribute_value value_in
    value_none e = sym (ap (value_in name at) e)

    module _ (f : Bytes) (gs : List Bytes) (e : fields_at t at ≡ f ∷ gs) where
      valued : attribute_value t name at
          ≡ cond (same name (take (UpTo 61 f) f)) (Some (record { from = at + UpTo 61 f + 1; to = at + length f })) (attribute_value t name (at + (length f + 1)))
      unfolding attribute_value value_in
      valued =
          let on : at + length f + 1 ≡ at + (length f + 1) = omega arith in
          let behind : value_in name (at + length f + 1) gs ≡ value_in name (at + (length f + 1)) (fields_at t (at + (length f + 1)))
          = ap (λ k. value_in name k gs) on ∙ ap (value_in name (at + (length f + 1))) (placed t at f gs e).rest in
          ap (value_in name at) e ∙ ap (cond (same name (take (UpTo 61 f) f)) (Some (record { from = at + UpTo 61 f + 1; to = at + length f }))) behind

      pub value_got : same name (take (UpTo 61 f) f) ≡ true → ◌≡◌ {A = Option ValuePlaces} (Some (record { from = at + UpTo 61 f + 1; to = at + length f })) (attribute_value t name at)
      value_got h = sym (rw h at valued)

      pub value_past : same name (take (UpTo 61 f) f) ≡ false → attribute_value t name (at + (length f + 1)) ≡ attribute_value t name at
      value_past h = sym (rw h at valued)

-- ---- the bytes of the value

-- what a field at a place has behind its first `=`
value_placed : (t : Bytes) (at : ℕ) (f : Bytes) (gs : List Bytes) → Placed t at f gs → slice (at + UpTo 61 f + 1) (at + length f) t ≡ drop (suc (UpTo 61 f)) f
value_placed t at f gs p =
    let n = suc (UpTo 61 f) in
    let from : at + n ≡ at + UpTo 61 f + 1 = omega arith in
    let field : f ≡ slice at (at + length f) t = p.field ∙ sym (slice_take at (length f) t) in
    sym (ap (drop n) field ∙ drop-drop n at (take (at + length f) t) ∙ ap (λ k. slice k (at + length f) t) from)

value_lies : (t name : Bytes) (at : ℕ) (fs : List Bytes) → fields_at t at ≡ fs → option_map (bytes_between t) (value_in name at fs) ≡ value_of name (written_in fs)
unfolding value_in value_of
value_lies t name at [] e = refl
value_lies t name at (f ∷ fs) e =
    let p = placed t at f fs e in
    let on : at + length f + 1 ≡ at + (length f + 1) = omega arith in
    by_bool (same name (take (UpTo 61 f) f))
    (λ h. rw h (ap Some (value_placed t at f fs p)))
    (λ h. rw h (value_lies t name (at + length f + 1) fs (ap (fields_at t) on ∙ sym p.rest)))

-- the bytes between the places of a value are that value, as it is written
pub value_written : (t name : Bytes) (at : ℕ) → option_map (bytes_between t) (attribute_value t name at) ≡ value_of name (written_in (fields_at t at))
unfolding attribute_value
value_written t name at = value_lies t name at (fields_at t at) refl

-- of attributes, the text of these bytes is the value of the name
pub attribute_valued : (t name : Bytes) (at : ℕ) → Good (fields_at t at) → text_in (option_map (bytes_between t) (attribute_value t name at)) ≡ value_of name (attributes_in (fields_at t at))
attribute_valued t name at g = ap text_in (value_written t name at) ∙ value_is name (fields_at t at) g
