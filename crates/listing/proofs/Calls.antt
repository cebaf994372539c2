-- The call: measured first, lent the output's end; then written, where it fits.
use Rattle.std.specs.Prelude.{Err, None, Ok, Option, Result, Some}
use Prim.Native.Nat.{ℕ, ◌-◌, ◌<◌, ◌≤◌}
use mathlib.Core.Path.{◌≡◌, ◌∙◌, ap}
use mathlib.Core.Bool.{true, false}
use mathlib.Core.List.{◌++◌}
use lib.ListN.{length, drop}
use borrow.Author.Tests.{le-leb, lt-leb}
use Rattle.base.specs.Bytes.{Bytes}
use native.Mathlib.Omega.{arith}
use Rattle.base.proofs.Split.{by_le, no}
use Rattle.refusal.specs.declared.Refusal.{Refusal}
use Rattle.refusal.specs.declared.Refusal.TheVariants as R
use Rattle.std.specs.Option.{ok_or}
use Rattle.print.specs.Print.{joined_pieces}
use Rattle.print.specs.Piece.{Whole, behind, whole_over}
use Rattle.print.proofs.Prints.{behind_fits, behind_past}
use Rattle.overlay.specs.Overlay.{Overlay}
use Rattle.overlay.specs.Given.{InBytes}
use Rattle.overlay.specs.Sound.{is_sound}
use Rattle.listing.specs.Pieces.{pieces_of}
use Rattle.listing.specs.Call.{Output, not_listed, page_of, page_over, listing_on, most_bytes, page_length, length_on}
use Rattle.listing.proofs.Pages.{page_pieces}

-- ---- a page over the output

module _ (out page : Bytes) where
  over_short : length out < length page → not_listed out R.ShortOutput ≡ page_over out page
  unfolding page_over
  over_short h = rw (lt-leb (length page) (length out) h)

  over_whole : length page ≤ length out → record { out = page ++ drop (length page) out; answer = Ok (length page) } ≡ page_over out page
  unfolding page_over
  over_whole h = rw (le-leb (length page) (length out) h)

-- what was printed is the page, where it fits
pub whole_listed : (out page : Bytes) (z : Bytes) (n : Option ℕ) → record { out = z; length = n } ≡ whole_over out page → record { out = z; answer = ok_or n R.ShortOutput } ≡ page_over out page
unfolding whole_over
whole_listed out page z n e =
    by_le (length page) (length out)
    (λ h.
    let w : record { out = z; length = n } ≡ record { out = page ++ drop (length page) out; length = Some (length page) } = rw (le-leb (length page) (length out) h) at e in
    let o : z ≡ page ++ drop (length page) out = ap (λ (x : Whole). x.out) w in
    let l : n ≡ Some (length page) = ap (λ (x : Whole). x.length) w in
    rw (o, l) (over_whole out page h))
    (λ h.
    let w : record { out = z; length = n } ≡ record { out = out; length = None } = rw (lt-leb (length page) (length out) h) at e in
    let o : z ≡ out = ap (λ (x : Whole). x.out) w in
    let l : n ≡ None = ap (λ (x : Whole). x.length) w in
    rw (o, l) (over_short out page h))

-- ---- the call: 22, or what the pieces make of the output

module _ (out : Bytes) (o : Overlay) where
  pub list_22 : is_sound o ≡ false → not_listed out R.Unsound ≡ listing_on out o
  unfolding listing_on
  list_22 t = rw t

  module _ (t : is_sound o ≡ true) where
    pub list_pieces : InBytes o → (z : Output) → z ≡ page_over out (joined_pieces (pieces_of o)) → z ≡ listing_on out o
    unfolding listing_on
    list_pieces b z e = rw t (e ∙ ap (page_over out) (page_pieces o b t))

    pub list_19 : length out < length (page_of o) → not_listed out R.ShortOutput ≡ listing_on out o
    unfolding listing_on
    list_19 h = rw t (over_short out (page_of o) h)

    pub list_length : length (page_of o) ≤ length out → record { out = page_of o ++ drop (length (page_of o)) out; answer = Ok (length (page_of o)) } ≡ listing_on out o
    unfolding listing_on
    list_length h = rw t (over_whole out (page_of o) h)

-- ---- its length, by the room that the pieces leave of the most bytes

module _ (page : Bytes) where
  pub length_within : length page ≤ most_bytes → Ok (length page) ≡ page_length page
  unfolding page_length
  length_within h = rw (le-leb (length page) most_bytes h)

  pub length_past : most_bytes < length page → Err R.ShortOutput ≡ page_length page
  unfolding page_length
  length_past h = rw (lt-leb (length page) most_bytes h)

  module _ {room : Option ℕ} (e : room ≡ behind (Some most_bytes) (length page)) where
    pub measured_past : room ≡ None → Err R.ShortOutput ≡ page_length page
    measured_past n =
        by_le (length page) most_bytes
        (λ h. let w = behind_fits most_bytes (length page) h in no (cc))
        length_past

    pub measured_left : {left : ℕ} → room ≡ Some left → Ok (most_bytes - left) ≡ page_length page
    measured_left {left} s =
        by_le (length page) most_bytes
        (λ h.
        let w = behind_fits most_bytes (length page) h in
        let l : left ≡ most_bytes - length page = cc in
        let n : most_bytes - left ≡ length page = omega (arith, h, l) in
        rw n (length_within h))
        (λ h. let w = behind_past most_bytes (length page) h in no (cc))

module _ (o : Overlay) where
  pub length_22 : is_sound o ≡ false → Err R.Unsound ≡ length_on o
  unfolding length_on
  length_22 t = rw t

  pub length_pieces : is_sound o ≡ true → InBytes o → (z : Result ℕ Refusal) → z ≡ page_length (joined_pieces (pieces_of o)) → z ≡ length_on o
  unfolding length_on
  length_pieces t b z e = rw t (e ∙ ap page_length (page_pieces o b t))
