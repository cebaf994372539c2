-- A handle is at most the number of held strings, whatever is lent; and what the handle of the user's text says.
use Rattle.std.specs.Prelude.{Err, Ok}
use Prim.Native.Nat.{ℕ, ◌<◌}
use mathlib.Core.Path.{◌≡◌}
use mathlib.Core.Bool.{true, false}
use native.Mathlib.Omega.{arith}
use Rattle.base.specs.Bytes.{Bytes}
use Rattle.base.proofs.Split.{by_bool, no}
use Rattle.refusal.specs.declared.Refusal.TheVariants.{StringsFull}
use Rattle.model.specs.Record.{Meta, flagged}
use Rattle.overlay.specs.Overlay.{Overlay}
use Rattle.overlay_store.specs.Calls.{store_text}
use Rattle.reader_texts.proofs.Handles.{by_intern}
use Rattle.reader_acts.specs.Acts.{with_user, HandleFits, UserIs}

pub handle_fits : (t : Bytes) (o : Overlay) → o.texts.strings < 4294967296 → HandleFits (store_text t o).answer
handle_fits t o l =
    by_intern o.texts t (λ h b e. rw e (omega arith)) (λ e. rw e l) (λ e. rw e tt)

-- ---- the user that metadata names, by the handle that its text has or will get

module _ (m : Meta Bytes) (o : Overlay) (n : ℕ) (user : UserIs m o n) where
  -- the text is held or new, or there is no user
  by_user : {C : Type 0} → (n < o.texts.strings → with_user m o ≡ o → C) → (flagged 4 m.flags ≡ true → n ≡ o.texts.strings → C) → (flagged 4 m.flags ≡ false → n ≡ 0 → C) → C
  by_user f g h =
      by_bool (flagged 4 m.flags)
      (λ t. let e = rw t at user in
      by_intern o.texts m.user
      (λ j l i. let q : Ok j ≡ Ok n = rw i at e in let z : j ≡ n = cc in f (omega arith) (rw (t, i)))
      (λ i. let p : Ok o.texts.strings ≡ Ok n = rw i at e in g t (cc))
      (λ i. let q : Err StringsFull ≡ Ok n = rw i at e in no (cc)))
      (λ t. let q : Ok 0 ≡ Ok n = rw t at user in h t (cc))

  pub user_fits : o.texts.strings < 4294967296 → n < 4294967296
  user_fits l = by_user (λ b e. omega arith) (λ t e. omega arith) (λ t e. omega arith)

  -- a handle below the count is held, or there is no user; another one's text is taken in
  pub user_held : n < o.texts.strings → with_user m o ≡ o
  user_held l = by_user (λ b e. e) (λ t e. absurd (omega arith)) (λ t e. rw t)
