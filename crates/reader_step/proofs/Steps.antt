-- A refusal, and work that changes the place alone; a text of a line; the flags of metadata with the flag of its user.
use mathlib.Core.Path.{◌≡◌, refl}
use mathlib.Core.Bool.{Bool, true, false}
use Prim.Native.Nat.{◌≤◌}
use lib.ListN.{length}
use Rattle.std.specs.Prelude.{Ok, Err}
use Rattle.refusal.specs.declared.Refusal.{Refusal}
use Rattle.event_scan.specs.declared.fields.Value.{Value}
use Rattle.event_metadata.specs.Values.{flags_of}
use Rattle.event_decision.specs.Decision.{refuses, moves}
use Rattle.reader.specs.State.{State}
use Rattle.reader.specs.Step.{step_of}
use Rattle.reader.specs.Done.{Works}
use Rattle.reader_acts.specs.Acts.{user_flagged}

pub moves_works : (s : State) → Works (λ p. moves p) s (record { state = s; answer = Ok tt })
unfolding step_of
moves_works s p = refl

pub refuses_works : (s : State) (r : Refusal) → Works (λ p. refuses r) s (record { state = s; answer = Err r })
unfolding step_of
refuses_works s r p = refl

-- a text of a line is no longer than a line may be
pub value_short : (v : Value 16384) → length v.bytes.now ≤ 16384
value_short v = v.short

-- the flag of the user stands among the flags already
pub flags_kept : (given hidden user version : Bool) → user_flagged (flags_of given hidden user version) user ≡ flags_of given hidden user version
unfolding flags_of
flags_kept false false false false = refl
flags_kept false false false true = refl
flags_kept false false true false = refl
flags_kept false false true true = refl
flags_kept false true false false = refl
flags_kept false true false true = refl
flags_kept false true true false = refl
flags_kept false true true true = refl
flags_kept true false false false = refl
flags_kept true false false true = refl
flags_kept true false true false = refl
flags_kept true false true true = refl
flags_kept true true false false = refl
flags_kept true true false true = refl
flags_kept true true true false = refl
flags_kept true true true true = refl
