-- The kind that the number names; or 22, else 17.
use Rattle.std.proofs.Common.{rules}
use Rattle.std.specs.Prelude.{◌≡◌, ℕ, Err, Ok, Result}
use Rattle.std.specs.Result.{MatchResult, IsErrAnd}
use Rattle.kind.specs.Kind.{Numbered, of_number}
use Rattle.kind.specs.declared.Kind.{Kind}
use Rattle.kind.specs.declared.UnknownKind.{UnknownKind}
use Rattle.refusal.specs.declared.Refusal.{Refusal}
use Rattle.overlay.specs.Lent.{overlay_seen}
use Rattle.overlay.specs.Overlay.{Overlay}
use Rattle.overlay.specs.Sound.{is_sound}
use Rattle.c_replies.specs.Readings.{unknown_kind}
use Rattle.torvaskin.specs.Overlays.{kind_answer}
use Rattle.torvaskin.proofs.overlays.named_kind.Goals as goal

module _ (Q : UnknownKind → Refusal → Type 0) (n : ℕ) (o : Overlay) (is : (u : UnknownKind) (r : Refusal) → Q u r → r ≡ unknown_kind (is_sound o)) where
  told : (x : Result Kind UnknownKind) (y : Result Kind Refusal) → Numbered n x → MatchResult x (λ k. y ≡ Ok k) (λ u. IsErrAnd y (λ r. Q u r)) → y ≡ kind_answer (of_number n) o
  told (Ok k) y h e = rw (← h, e)
  told (Err u) (Err r) h e = rw (← h.0, is u r e)
  told (Err u) (Ok k) h e = absurd e

pub returns : goal.returns
returns c =
    told _ c.args.kind (overlay_seen c.args.storage.now) (λ u r p. search rules) c.try_from.result c.map_err.result c.try_from.ensures c.map_err.ensures.cases
