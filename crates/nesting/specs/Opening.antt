-- What the code answers of an open or an empty element.
use Rattle.std.specs.Prelude.{Err, Ok, Result}
use Rattle.refusal.specs.declared.Refusal.{Refusal}
use Rattle.refusal.specs.declared.Refusal.TheVariants as R
use Rattle.nesting.specs.Opened.{Opened, Misplaced, OutsideSection, Goes, Begins, Holds}
use Rattle.nesting.specs.declared.Opening.{Opening}
use Rattle.nesting.specs.declared.Opening.TheVariants as P

abbrev pub opening_of : Opened → Result Opening Refusal
opening_of Misplaced = Err R.Misplaced
opening_of OutsideSection = Err R.OutsideSection
opening_of (Goes p) = Ok (P.Goes p)
opening_of (Begins k p) = Ok (P.Begins k p)
opening_of (Holds c p) = Ok (P.Holds c p)
