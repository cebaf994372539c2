-- The fields of a line are the parts that `split` gives at its tabs.
use Rattle.std.proofs.Common.{ℕ, ◌≡◌, List, [], ◌∷◌, eqb, refl}
use Rattle.std.specs.List.{slice_split, onto_first}
use Rattle.base.specs.Bytes.{Bytes}
use Rattle.line.specs.Line.{fields, onto}

onto_same : (b : ℕ) (fs : List Bytes) → onto b fs ≡ onto_first b fs
unfolding onto
onto_same b [] = refl
onto_same b (f ∷ fs) = refl

pub fields_split : (s : Bytes) → fields s ≡ slice_split (λ b. eqb b 9) s
unfolding fields
fields_split [] = refl
fields_split (b ∷ bs) = rw (fields_split bs, onto_same b (slice_split (λ x. eqb x 9) bs))
