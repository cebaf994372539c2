-- The tables of the direct calls: "each call but lookups in lists, first: 22", then "direct call: 17 .., then 3, 10, 16", then the store (proofs/First).
use Rattle.std.specs.Prelude.{ℕ, Bool, false, not, List, [], ◌∷◌, ◌++◌, ℤ, None, Option, Some}
use Rattle.std.specs.Int.{w64}
use Rattle.std.proofs.Common.{to_z}
use Rattle.base.specs.Bytes.{Bytes}
use Rattle.text.specs.Check.{is_text}
use Rattle.kind.specs.declared.Kind.{Kind}
use Rattle.refusal.specs.First.{ConditionRow, row}
use Rattle.refusal.specs.declared.Refusal.{Refusal}
use Rattle.refusal.specs.declared.Refusal.TheVariants as R
use Rattle.model.specs.Record.{Meta, Record, claim_of}
use Rattle.compact.specs.Cut.{pushed_record}
use Rattle.compact.specs.Held.{meta_of, head_in}
use Rattle.compact.specs.Legal.{legal_meta, legal_handles, legal_texts, in_range, within_limits, limits}
use Rattle.compact.specs.declared.ArenaMeta.{ArenaMeta}
use Rattle.compact.specs.declared.PushHead.{PushHead}
use Rattle.overlay.specs.Overlay.{Overlay, kind_store_of}
use Rattle.overlay.specs.First.{unsound_row}
use Rattle.overlay_store.specs.Calls.{bytes_of}
use Rattle.overlay_store.specs.First.{text_rows, delete_rows, push_rows}

-- ---- intern: 22, 3, 13

abbrev pub intern_table : Bytes → Overlay → List (ConditionRow Refusal)
intern_table t o = unsound_row o ∷ row R.NotText (not (is_text t)) ∷ text_rows o.texts t

-- ---- what is pushed: 17, 3, 10, 16. Parts that make no record are 17.

abbrev pub passes : (Record ℕ → Bool) → Option (Record ℕ) → Bool
passes p None = false
passes p (Some r) = p r

abbrev pub record_rows : ℕ → Option (Record ℕ) → List (ConditionRow Refusal)
record_rows strings x =
    row R.BadRecord (not (passes (legal_handles strings) x)) ∷ row R.NotText (not (passes legal_texts x))
    ∷ row R.CoordinateRange (not (passes (λ r. in_range r.body) x)) ∷ row R.TooManyParts (not (passes (within_limits limits) x)) ∷ []

-- ---- direct push and delete

module _ (k : Kind) (h : PushHead) (m : ArenaMeta) (parts : Bytes) (o : Overlay) where
  abbrev pub check_rows : List (ConditionRow Refusal)
  check_rows = record_rows o.texts.strings (pushed_record k (head_in k h) (meta_of m) parts)

  abbrev pub store_rows : List (ConditionRow Refusal)
  store_rows = push_rows k o.setting (kind_store_of k o) (to_z w64 h.id) (claim_of (meta_of m)) (bytes_of k h m parts)

  -- after 22: 17, 3, 10, 16; 12, 14, 15
  abbrev pub rest_of_push : List (ConditionRow Refusal)
  rest_of_push = check_rows ++ store_rows

  abbrev pub push_table : List (ConditionRow Refusal)
  push_table = unsound_row o ∷ rest_of_push

module _ (k : Kind) (id : ℤ) (m : Meta ℕ) (o : Overlay) where
  -- after 22: 17; 12, 14
  abbrev pub rest_of_delete : List (ConditionRow Refusal)
  rest_of_delete = row R.BadRecord (not (legal_meta o.texts.strings m)) ∷ delete_rows k o.setting (kind_store_of k o) id (claim_of m)

  abbrev pub delete_table : List (ConditionRow Refusal)
  delete_table = unsound_row o ∷ rest_of_delete
