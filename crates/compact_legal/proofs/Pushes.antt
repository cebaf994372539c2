-- The check's answer as a direct push's, and as a record's end.
use Rattle.std.specs.Prelude.{Err, None, Ok, Option, Result, Some}
use Prim.Native.Nat.{ℕ, suc, ◌-◌}
use mathlib.Core.Path.{◌≡◌, refl, ◌∙◌, ap}
use mathlib.Core.Bool.{false}
use mathlib.Core.List.{[], ◌∷◌}
use lib.ListN.{length}
use borrow.Author.Tests.{ne_eqb}
use native.Mathlib.Omega.{arith}
use Rattle.base.specs.Bytes.{Bytes, either}
use Rattle.kind.specs.declared.Kind.{Kind}
use Rattle.refusal.specs.declared.Refusal.{Refusal}
use Rattle.model.specs.Record.{Meta, Record}
use Rattle.compact.specs.Layout.{Head}
use Rattle.compact.specs.Cut.{Cut, cut_parts, whole, pushed_record}
use Rattle.compact.specs.Legal.{fault_of}
use Rattle.compact_legal.specs.Judge.{fault_answer, fault_for, judged, verdict_of}

-- a verdict without its end
abbrev pub to_fault : Result ℕ Refusal → Result Unit Refusal
to_fault (Ok e) = Ok tt
to_fault (Err x) = Err x

judged_fault : (e : ℕ) (f : Option Refusal) → to_fault (judged e f) ≡ fault_answer f
judged_fault e None = refl
judged_fault e (Some x) = refl

module _ (strings : ℕ) where
  used_up : (len : ℕ) (r : Record ℕ) (q : Bytes) → to_fault (verdict_of strings false len (Some (record { item = r; rest = q }))) ≡ fault_for strings (whole (Some (record { item = r; rest = q })))
  unfolding verdict_of fault_for either
  used_up len r [] = judged_fault (len - 0) (fault_of strings r)
  used_up len r (b ∷ q) = rw (ne_eqb (suc (length q)) 0 (λ e. omega arith))

  fault_is : (len : ℕ) (o : Option (Cut (Record ℕ))) → to_fault (verdict_of strings false len o) ≡ fault_for strings (whole o)
  unfolding verdict_of fault_for
  fault_is len None = refl
  fault_is len (Some c) = used_up len c.item c.rest

  pub push_is : (k : Kind) (h : Head) (m : Meta ℕ) (parts : Bytes) (v : Result ℕ Refusal) → v ≡ verdict_of strings false (length parts) (cut_parts k h m parts)
      → to_fault v ≡ fault_for strings (pushed_record k h m parts)
  unfolding pushed_record
  push_is k h m parts v e = ap to_fault e ∙ fault_is (length parts) (cut_parts k h m parts)
