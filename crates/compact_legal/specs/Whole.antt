-- Document 01, sound storage: "each arena's used bytes whole records that pass 3, 10, 16, 17, end to end; every handle held";
-- "each live with an offset where a record of that id starts".
use Rattle.std.specs.Prelude.{ℕ, zero, suc, ◌-◌, ◌≡◌, Bool, true, false, cond, List, [], ◌∷◌, ltb, eqb, ℤ, length, None, Option, Some}
use Rattle.base.specs.Bytes.{Bytes, all}
use Rattle.osm_id.specs.Order.{same_id}
use Rattle.kind.specs.declared.Kind.{Kind}
use Rattle.compact.specs.Layout.{joined_bytes, record_bytes}
use Rattle.compact.specs.Cut.{Cut, KeptRecord, cut_record}
use Rattle.compact.specs.Fits.{fits_kept}
use Rattle.compact.specs.Legal.{legal}

abbrev pub kept_bytes : KeptRecord → Bytes
kept_bytes x = record_bytes x.id x.held

-- the bytes of an arena are those of legal records of its kind, one after the other
pub record Whole (strings : ℕ) (k : Kind) (s : Bytes) : Type 0 where
  pub kept : List KeptRecord
  pub fits : all (fits_kept k) kept ≡ true
  pub legals : all (λ x. legal strings x.held) kept ≡ true
  pub same : s ≡ joined_bytes kept_bytes kept

-- the same as a test: what a legal record at the front leaves, until nothing is left; each record takes a byte, so the length is fuel enough
abbrev pub legal_rest : ℕ → Option (Cut KeptRecord) → Option Bytes
legal_rest strings None = None
legal_rest strings (Some c) = cond (legal strings c.item.held) (Some c.rest) None

unfoldable pub after_legal : ℕ → Kind → Bytes → Option Bytes
after_legal strings k s = legal_rest strings (cut_record k s)

abbrev pub onward : Option Bytes → (Bytes → Bool) → Bool
onward None f = false
onward (Some r) f = f r

abbrev pub whole_step : ℕ → Kind → (Bytes → Bool) → Bytes → Bool
whole_step strings k f [] = true
whole_step strings k f (b ∷ s) = onward (after_legal strings k (b ∷ s)) f

unfoldable pub whole_by : ℕ → Kind → ℕ → Bytes → Bool
whole_by strings k zero s = whole_step strings k (λ r. false) s
whole_by strings k (suc fuel) s = whole_step strings k (whole_by strings k fuel) s

unfoldable pub whole_records : ℕ → Kind → Bytes → Bool
whole_records strings k s = whole_by strings k (length s) s

-- the record that starts at an offset
unfoldable pub record_at : ℕ → List KeptRecord → Option KeptRecord
record_at at [] = None
record_at at (x ∷ xs) = cond (eqb at 0) (Some x) (cond (ltb at (length (kept_bytes x))) None (record_at (at - length (kept_bytes x)) xs))

abbrev pub has_id : ℤ → Option KeptRecord → Bool
has_id id None = false
has_id id (Some x) = same_id x.id id

-- a record of that id starts at that offset
unfoldable pub starts_at : ℤ → ℕ → List KeptRecord → Bool
starts_at id at xs = has_id id (record_at at xs)
