-- The reply of `listing::listing_length`.
use Rattle.torvaskin.proofs.listings.tvk_listing_length.Goals as goal

pub returns : goal.returns
returns c = rw (c.from.ensures, c.listing_length.ensures)
