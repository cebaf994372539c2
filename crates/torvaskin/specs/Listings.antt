-- The C boundary of the listing: what the entry leaves and replies.
use Rattle.base.specs.Bytes.{Bytes}
use Rattle.overlay.specs.Overlay.{Overlay}
use Rattle.listing.specs.Call.{Output, listing_on}
use Rattle.c_replies.specs.Listings.{listed_reply}
use Rattle.c_replies.specs.declared.ListingReply.{ListingReply}

-- the output and the reply
pub record ListingReplied : Type 0 where
  pub out : Bytes
  pub reply : ListingReply

abbrev pub replied_listing : Output → ListingReplied
replied_listing x = record { out = x.out; reply = listed_reply x.answer }

unfoldable pub listing_reply : Bytes → Overlay → ListingReplied
listing_reply out o = replied_listing (listing_on out o)
