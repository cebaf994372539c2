-- What the listing answers and leaves: refused by the first condition of its table that holds, and then no byte is written; else the page and its length.
use Rattle.std.specs.Prelude.{Err, Ok, Result}
use Prim.Native.Nat.{ℕ, ◌<◌, ◌≤◌}
use mathlib.Core.Path.{◌≡◌, refl, sym, ◌∙◌, ap}
use mathlib.Core.Bool.{true, false}
use mathlib.Core.Logic.{◌↔◌}
use mathlib.Core.List.{List, [], ◌++◌}
use native.Mathlib.Omega.{arith}
use lib.ListN.{length, take, drop, length-append, length-drop}
use lib.Seq.{take-append_seam, drop-append_seam}
use mir.Syntax.{w64}
use mir.Val.{SFits}
use borrow.Author.Tests.{lt-ltb, le-ltb}
use Rattle.base.specs.Bytes.{Bytes}
use Rattle.base.proofs.Split.{by_bool, by_le, no}
use Rattle.refusal.specs.declared.Refusal.{Refusal}
use Rattle.refusal.specs.declared.Refusal.TheVariants as R
use Rattle.model.specs.Act.{Act, Key}
use Rattle.compact.specs.Fits.{fits_signed}
use Rattle.kind_table.specs.Words.{rows_of, rows_from}
use Rattle.overlay.specs.Overlay.{Overlay, empty}
use Rattle.overlay.specs.Given.{InBytes}
use Rattle.overlay.specs.Sound.{Sound, is_sound}
use Rattle.overlay.proofs.Decides.{decides}
use Rattle.refusal.specs.First.{first_of}
use Rattle.listing_page.specs.Summary as Summary
use Rattle.listing_page.specs.Summary.{summary}
use Rattle.listing_page.specs.Listing.{listing}
use Rattle.listing.specs.Known.{known_in}
use Rattle.listing.specs.Table.{kind_table, table_of, Ranked}
use Rattle.listing.specs.Call.{Output, not_listed, page_of, listing_on, most_bytes, length_on}
use Rattle.listing.specs.First.{listing_table, length_table, listed_refusal}
use Rattle.listing.proofs.Calls.{list_22, list_19, list_length, length_within, length_past}
use Rattle.listing.proofs.Summaries.{listed_page}

module _ (out : Bytes) (o : Overlay) where
  -- the page over the first bytes of the output
  abbrev listed_on : Output
  listed_on = record { out = page_of o ++ drop (length (page_of o)) out; answer = Ok (length (page_of o)) }

  -- the three cases: 22, 19, listed
  by_listing : {C : Type 0} → (is_sound o ≡ false → listing_on out o ≡ not_listed out R.Unsound → C)
      → (is_sound o ≡ true → length out < length (page_of o) → listing_on out o ≡ not_listed out R.ShortOutput → C)
      → (is_sound o ≡ true → length (page_of o) ≤ length out → listing_on out o ≡ listed_on → C) → C
  by_listing f g h =
      by_bool (is_sound o)
      (λ t. by_le (length (page_of o)) (length out) (λ l. h t l (sym (list_length out o t l))) (λ l. g t l (sym (list_19 out o t l))))
      (λ t. f t (sym (list_22 out o t)))

  -- T4
  pub list_first : listed_refusal (listing_on out o).answer ≡ first_of (listing_table out o)
  unfolding first_of
  list_first =
      by_listing (λ t e. rw (e, t)) (λ t l e. rw (e, t, lt-ltb (length out) (length (page_of o)) l)) (λ t l e. rw (e, t, le-ltb (length out) (length (page_of o)) l))

  -- "19 output shorter than the listing" with no byte written, and so 22
  pub list_refused : (r : Refusal) → (listing_on out o).answer ≡ Err r → (listing_on out o).out ≡ out
  list_refused r h =
      by_listing (λ t e. rw e) (λ t l e. rw e) (λ t l e. let z : Ok (length (page_of o)) ≡ Err r = sym (ap (λ (x : Output). x.answer) e) ∙ h in no (cc))

  -- listed exactly where the overlay is sound and the output is as long as the page, and the answer is the page's length
  pub list_listed : (n : ℕ) → ((listing_on out o).answer ≡ Ok n) ↔ ((is_sound o ≡ true) × ((length (page_of o) ≤ length out) × (n ≡ length (page_of o))))
  list_listed n = (to, λ h. rw (← list_length out o h.0 h.1.0, h.1.1))
    where
      to : (listing_on out o).answer ≡ Ok n → (is_sound o ≡ true) × ((length (page_of o) ≤ length out) × (n ≡ length (page_of o)))
      to h =
          by_listing
          (λ t e. let z : Err R.Unsound ≡ Ok n = sym (ap (λ (x : Output). x.answer) e) ∙ h in no (cc))
          (λ t l e. let z : Err R.ShortOutput ≡ Ok n = sym (ap (λ (x : Output). x.answer) e) ∙ h in no (cc))
          (λ t l e. let z : Ok (length (page_of o)) ≡ Ok n = sym (ap (λ (x : Output). x.answer) e) ∙ h in let m : n ≡ length (page_of o) = cc in (t, (l, m)))

  -- then the output begins with the page, and "output past the listing is unchanged"
  pub list_page : (n : ℕ) → (listing_on out o).answer ≡ Ok n → (take n (listing_on out o).out ≡ page_of o) × (drop n (listing_on out o).out ≡ drop n out)
  list_page n h =
      let w = (list_listed n).0 h in
      let e = ap (λ (x : Output). x.out) (list_length out o w.0 w.1.0) in
      (rw (← e, w.1.1) (take-append_seam (page_of o) _), rw (← e, w.1.1) (drop-append_seam (page_of o) _))

  pub list_size : length (listing_on out o).out ≡ length out
  list_size =
      by_listing (λ t e. rw e) (λ t l e. rw e)
      (λ t l e. rw e (omega (arith, length-append (page_of o) (drop (length (page_of o)) out), length-drop (length (page_of o)) out)))

-- ---- how long the listing is

module _ (o : Overlay) where
  -- the three cases: 22, 19, its length
  by_length : {C : Type 0} → (is_sound o ≡ false → length_on o ≡ Err R.Unsound → C)
      → (is_sound o ≡ true → most_bytes < length (page_of o) → length_on o ≡ Err R.ShortOutput → C)
      → (is_sound o ≡ true → length (page_of o) ≤ most_bytes → length_on o ≡ Ok (length (page_of o)) → C) → C
  unfolding length_on
  by_length f g h =
      by_bool (is_sound o)
      (λ t. by_le (length (page_of o)) most_bytes (λ l. h t l (rw t (sym (length_within (page_of o) l)))) (λ l. g t l (rw t (sym (length_past (page_of o) l)))))
      (λ t. f t (rw t))

  -- T4
  pub length_first : listed_refusal (length_on o) ≡ first_of (length_table o)
  unfolding first_of
  length_first =
      by_length (λ t e. rw (e, t)) (λ t l e. rw (e, t, lt-ltb most_bytes (length (page_of o)) l)) (λ t l e. rw (e, t, le-ltb most_bytes (length (page_of o)) l))

  -- an output of that many bytes or more gets the listing, a shorter one 19
  pub length_enough : (n : ℕ) → length_on o ≡ Ok n → (out : Bytes) → (n ≤ length out → listing_on out o ≡ listed_on out o) × (length out < n → listing_on out o ≡ not_listed out R.ShortOutput)
  length_enough n h out =
      by_length
      (λ t e. let z : Err R.Unsound ≡ Ok n = sym e ∙ h in no (cc))
      (λ t l e. let z : Err R.ShortOutput ≡ Ok n = sym e ∙ h in no (cc))
      (λ t l e. let z : Ok (length (page_of o)) ≡ Ok n = sym e ∙ h in let m : length (page_of o) ≡ n = cc in
      (λ g. sym (list_length out o t (rw m g)), λ g. sym (list_19 out o t (rw m g))))

  -- and where its length is refused 19, each output is, since it has at most so many bytes
  pub length_none : length_on o ≡ Err R.ShortOutput → (out : Bytes) → length out ≤ most_bytes → listing_on out o ≡ not_listed out R.ShortOutput
  length_none h out b =
      by_length
      (λ t e. let z : Err R.Unsound ≡ Err R.ShortOutput = sym e ∙ h in no (cc))
      (λ t l e. sym (list_19 out o t (omega (arith, l, b))))
      (λ t l e. let z : Ok (length (page_of o)) ≡ Err R.ShortOutput = sym e ∙ h in no (cc))

-- "an empty overlay lists as no bytes"
pub empty_listed : (setting : ℕ) (o : Overlay) → page_of (empty setting o) ≡ []
unfolding table_of kind_table rows_of rows_from listing
empty_listed setting o = refl

-- T10: where the overlay knows of each id what some acts come to, its page is the rendering of their summary
pub page_acts : (o : Overlay) → Sound o → Ranked o → (acts : List (Act Bytes)) → ((key : Key) → SFits w64 key.id → known_in o key ≡ Summary.known acts key)
    → ((key : Key) → fits_signed w64 key.id ≡ false → Summary.known acts key ≡ Summary.nothing) → page_of o ≡ listing (summary acts)
page_acts o w n acts h u = ap listing (listed_page o w n acts h u)

-- and an output as long as that page gets it
pub list_acts : (out : Bytes) (o : Overlay) → InBytes o → Sound o → Ranked o → (acts : List (Act Bytes)) → ((key : Key) → SFits w64 key.id → known_in o key ≡ Summary.known acts key)
    → ((key : Key) → fits_signed w64 key.id ≡ false → Summary.known acts key ≡ Summary.nothing) → length (listing (summary acts)) ≤ length out
    → listing_on out o ≡ record { out = listing (summary acts) ++ drop (length (listing (summary acts))) out; answer = Ok (length (listing (summary acts))) }
list_acts out o b w n acts h u l =
    let p = page_acts o w n acts h u in
    rw (← p) (sym (list_length out o ((decides o b).1 w) (rw p l)))
