-- Condition 3's claim on acts: two lists of acts list alike, byte for byte, exactly when they come to the same for every kind and id.
use Rattle.std.specs.Prelude.{Option}
use mathlib.Core.Path.{◌≡◌, refl, sym, ◌∙◌, ap}
use mathlib.Core.Logic.{◌↔◌}
use mathlib.Core.List.{List, [], ◌∷◌, ◌++◌}
use Rattle.base.specs.Bytes.{Bytes}
use Rattle.line.specs.Line.{line}
use Rattle.line.proofs.Lines.{line_code, line_some}
use Rattle.model.specs.Act.{Act, push, delete, Key}
use Rattle.listing_page.specs.Summary.{known, PageRow, Table, find_key, row_after, summary_from, summary}
use Rattle.listing_page.specs.Listing.{row_fields, listing}
use Rattle.listing_page.proofs.Tables.{Every, every_summary, same_table, summary_sorted, known_summary, find_summary, known_in, row_in}
use Rattle.listing_page.proofs.Codes.{Fitting, row_plain, row_told}

-- every row of a summary fits its kind
row_fits : (a : Act Bytes) (r : Option PageRow) → Fitting (row_after a r)
row_fits (push id x) r = refl
row_fits (delete k id claim) r = tt

pub summary_fitting : (acts : List (Act Bytes)) → Every Fitting (summary acts)
summary_fitting = every_summary Fitting row_fits

-- ---- the listing

pub listing_nil : listing [] ≡ []
unfolding listing
listing_nil = refl

-- "an empty overlay lists as no bytes"
pub empty_page : listing (summary []) ≡ []
unfolding summary summary_from listing
empty_page = refl

-- a row's line
row_line : (a b : PageRow) → Fitting a → Fitting b → (r s : Bytes) → line (row_fields a) ++ r ≡ line (row_fields b) ++ s → (a ≡ b) × (r ≡ s)
unfolding row_fields
row_line a b f g r s e =
    let h = line_code _ _ _ _ r s (row_plain a) (row_plain b) e in
    let q : row_fields a ++ [] ≡ row_fields b ++ [] = ap (λ x. x ++ []) h.0 in
    ((row_told a b f g [] [] q).0, h.1)

-- tables of fitting rows that list alike are the same
pub listing_injective : (rs ss : Table) → Every Fitting rs → Every Fitting ss → listing rs ≡ listing ss → rs ≡ ss
unfolding listing Every
listing_injective [] [] f g e = refl
listing_injective [] (s ∷ ss) f g e = absurd (line_some (row_fields s) (listing ss) (sym e))
listing_injective (r ∷ rs) [] f g e = absurd (line_some (row_fields r) (listing rs) e)
listing_injective (r ∷ rs) (s ∷ ss) f g e =
    let h = row_line r s f.0 g.0 (listing rs) (listing ss) e in
    cc (h.0, listing_injective rs ss f.1 g.1 h.1)

-- ---- the claim

-- "the listings .. are equal byte for byte exactly when, in each kind, the accepted acts named the same ids and left each with the same last act .. and the same highest version claimed, or none"
pub same_page : (acts bcts : List (Act Bytes)) → (listing (summary acts) ≡ listing (summary bcts)) ↔ ((k : Key) → known acts k ≡ known bcts k)
same_page acts bcts = (to, from)
  where
    to : listing (summary acts) ≡ listing (summary bcts) → (k : Key) → known acts k ≡ known bcts k
    to e k =
        let t = listing_injective (summary acts) (summary bcts) (summary_fitting acts) (summary_fitting bcts) e in
        known_summary acts k ∙ ap (λ x. known_in (find_key k x)) t ∙ sym (known_summary bcts k)

    from : ((k : Key) → known acts k ≡ known bcts k) → listing (summary acts) ≡ listing (summary bcts)
    from h =
        ap listing
        (same_table (summary acts) (summary bcts) (summary_sorted acts) (summary_sorted bcts)
        (λ k. find_summary acts k ∙ ap (row_in k) (h k) ∙ sym (find_summary bcts k)))
