-- Document 01, "The listing": "No header; an empty overlay lists as no bytes, and output past the listing is unchanged." 22 first, then "19 output shorter than
-- the listing"; at a refusal no byte is written. The answer of an accepted call is the listing's length.
use Rattle.std.specs.Prelude.{cond, ◌++◌, leb, length, drop, Err, Ok, Result, ℕ}
use Rattle.base.specs.Bytes.{Bytes}
use Rattle.refusal.specs.declared.Refusal.{Refusal}
use Rattle.refusal.specs.declared.Refusal.TheVariants as R
use Rattle.listing_page.specs.Listing.{listing}
use Rattle.overlay.specs.Overlay.{Overlay}
use Rattle.overlay.specs.Sound.{is_sound}
use Rattle.listing.specs.Table.{table_of}

-- the output, and the answer
pub record Output : Type 0 where
  pub out : Bytes
  pub answer : Result ℕ Refusal

abbrev pub not_listed : Bytes → Refusal → Output
not_listed out r = record { out = out; answer = Err r }

-- the page of an overlay
abbrev pub page_of : Overlay → Bytes
page_of o = listing (table_of o)

-- a page over the first bytes of the output, or 19
unfoldable pub page_over : Bytes → Bytes → Output
page_over out page =
    cond (leb (length page) (length out)) (record { out = page ++ drop (length page) out; answer = Ok (length page) }) (not_listed out R.ShortOutput)

unfoldable pub listing_on : Bytes → Overlay → Output
listing_on out o = cond (is_sound o) (page_over out (page_of o)) (not_listed out R.Unsound)

-- the most bytes that an output can have: its length is a word of 64 bits
abbrev pub most_bytes : ℕ
most_bytes = 18446744073709551615

-- the length of a page, or 19 where no output is long enough for it
unfoldable pub page_length : Bytes → Result ℕ Refusal
page_length page = cond (leb (length page) most_bytes) (Ok (length page)) (Err R.ShortOutput)

-- how long the listing is: 22 first, as the listing itself
unfoldable pub length_on : Overlay → Result ℕ Refusal
length_on o = cond (is_sound o) (page_length (page_of o)) (Err R.Unsound)
