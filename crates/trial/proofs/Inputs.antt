-- What two inputs leave, by computation from the definitions of set-up, event and end: it is sound, and has its page. Of Input A also the words, bytes and counters, and what the
-- listing makes of three outputs.
use Rattle.std.specs.Prelude.{Ok}
use Prim.Native.Nat.{◌+◌, ◌^◌}
use mathlib.Core.Path.{◌≡◌, refl}
use mathlib.Core.Bool.{true}
use mathlib.Core.List.{[], ◌∷◌, ◌++◌}
use lib.ListN.{replicate}
use Rattle.base.specs.Bytes.{Bytes}
use Rattle.refusal.specs.declared.Refusal.TheVariants as R
use Rattle.overlay.specs.Lent.{overlay_in}
use Rattle.overlay.specs.Sound.{is_sound}
use Rattle.listing.specs.Call.{not_listed, page_of, page_over, listing_on}
use Rattle.trial.specs.Rows.{input_a, output_a}
use Rattle.trial.specs.Inputs.{Leaves, made_a, stored_a, made_b, input_b, output_b}
use Rattle.trial.proofs.Opened.{opened}

pub leaves_a : Leaves made_a input_a output_a
unfolding opened
leaves_a = record { sizes = refl; accepted = refl; sound = refl; page = refl }

pub leaves_b : Leaves made_b input_b output_b
unfolding opened
leaves_b = record { sizes = refl; accepted = refl; sound = refl; page = refl }

-- ---- Input A

pub stored_sound : is_sound stored_a ≡ true
stored_sound = leaves_a.sound

pub stored_page : page_of stored_a ≡ output_a
stored_page = leaves_a.page

-- node 7: id, latitude 10, longitude -20, one tag; flags 9 and version 3, the rest of the metadata 0; key 1 and the value `A`
abbrev node : Bytes
node =
    (7 ∷ replicate 7 0) ++ (10 ∷ 0 ∷ 0 ∷ 0 ∷ 236 ∷ 255 ∷ 255 ∷ 255 ∷ 1 ∷ 0 ∷ 0 ∷ 0 ∷ 9 ∷ 3 ∷ 0 ∷ 0 ∷ 0 ∷ []) ++ replicate 24 0
    ++ (1 ∷ 0 ∷ 0 ∷ 0 ∷ 1 ∷ 0 ∷ 0 ∷ 0 ∷ 65 ∷ [])

-- the node is live at offset 0 and has no floor; way -4 is deleted, with floor 2; there is room for one relation; the texts are the empty one and `name`
pub stored_words : stored_a
    ≡ overlay_in ((2 ^ 63 + 7) ∷ 0 ∷ (2 ^ 32) ∷ 4 ∷ (2 ^ 63) ∷ 2 ∷ 0 ∷ 0 ∷ 0 ∷ 0 ∷ 0 ∷ 0 ∷ 4 ∷ []) (node ++ (110 ∷ 97 ∷ 109 ∷ 101 ∷ []))
    (1 ∷ 1 ∷ 0 ∷ 58 ∷ 0 ∷ 0 ∷ 2 ∷ 4 ∷ 0 ∷ 1 ∷ 1 ∷ 1 ∷ 58 ∷ 0 ∷ 0 ∷ 2 ∷ 4 ∷ [])
unfolding opened
stored_words = refl

-- the call: an output of 46 bytes gets the page and keeps its last two, one of 44 is enough, and one of 43 gets 19 and keeps all
pub listed_a : listing_on (replicate 46 7) stored_a ≡ record { out = output_a ++ (7 ∷ 7 ∷ []); answer = Ok 44 }
unfolding listing_on page_over
listed_a = rw (stored_sound, stored_page)

pub enough_a : listing_on (replicate 44 7) stored_a ≡ record { out = output_a; answer = Ok 44 }
unfolding listing_on page_over
enough_a = rw (stored_sound, stored_page)

pub short_a : listing_on (replicate 43 7) stored_a ≡ not_listed (replicate 43 7) R.ShortOutput
unfolding listing_on page_over
short_a = rw (stored_sound, stored_page)
