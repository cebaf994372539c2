-- T4 at the C boundary of the listing and of its length: the number of each reply is that of the first condition that holds, 22, then 19, and its length 0; where none holds the number is 0, and
-- the length that of the listing.
use Prim.Native.Nat.{ℕ}
use mathlib.Core.Path.{◌≡◌}
use lib.ListN.{length}
use borrow.Author.Tests.{lt-ltb, le-ltb, lt-leb, le-leb}
use Rattle.base.specs.Bytes.{Bytes}
use Rattle.base.proofs.Split.{by_bool, by_le}
use Rattle.refusal.specs.First.{first_of}
use Rattle.overlay.specs.Overlay.{Overlay}
use Rattle.overlay.specs.Sound.{is_sound}
use Rattle.listing.specs.Call.{page_of, page_over, listing_on, most_bytes, page_length, length_on}
use Rattle.listing.specs.First.{listing_table, length_table}
use Rattle.c_replies.specs.Listings.{listed_reply}
use Rattle.torvaskin.specs.First.{listed_by}
use Rattle.torvaskin.specs.Listings.{listing_reply}

module _ (o : Overlay) where
  abbrev page : ℕ
  page = length (page_of o)

  pub listing_reply_first : (out : Bytes) → (listing_reply out o).reply ≡ listed_reply (listed_by page (first_of (listing_table out o)))
  unfolding first_of listing_reply listing_on page_over
  listing_reply_first out =
      by_bool (is_sound o)
      (λ u. by_le page (length out) (λ l. rw (u, le-leb page (length out) l, le-ltb (length out) page l)) (λ l. rw (u, lt-leb page (length out) l, lt-ltb (length out) page l)))
      (λ u. rw u)

  pub length_reply_first : listed_reply (length_on o) ≡ listed_reply (listed_by page (first_of (length_table o)))
  unfolding first_of length_on page_length
  length_reply_first =
      by_bool (is_sound o)
      (λ u. by_le page most_bytes (λ l. rw (u, le-leb page most_bytes l, le-ltb most_bytes page l)) (λ l. rw (u, lt-leb page most_bytes l, lt-ltb most_bytes page l)))
      (λ u. rw u)
