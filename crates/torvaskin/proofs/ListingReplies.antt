-- What the entry leaves and replies, from what the listing leaves and answers.
use Rattle.std.specs.Prelude.{Result, ℕ}
use Rattle.refusal.specs.declared.Refusal.{Refusal}
use mathlib.Core.Path.{◌≡◌}
use Rattle.base.specs.Bytes.{Bytes}
use Rattle.listing.specs.Call.{Output}
use Rattle.c_replies.specs.Listings.{listed_reply}
use Rattle.c_replies.specs.declared.ListingReply.{ListingReply}
use Rattle.torvaskin.specs.Listings.{replied_listing}

pub listing_is : {x : Bytes} {a : Result ℕ Refusal} {r : ListingReply} {y : Output} → r ≡ listed_reply a → record { out = x; answer = a } ≡ y → record { out = x; reply = r } ≡ replied_listing y
listing_is told e = rw (told, ← e)
