-- The flags of an act, and the version that its metadata claims.
use Prim.Native.Nat.{ℕ, ◌+◌, ◌*◌, ◌/◌, ◌%◌}
use mathlib.Core.Path.{◌≡◌, refl, sym, ◌∙◌, ap}
use Rattle.std.specs.Prelude.{None, Option, Some, is_some, option_map}
use mathlib.Core.Bool.{Bool, true, false}
use native.Mathlib.Omega.{arith}
use mir.Syntax.{w32}
use mir.Val.{SFits}
use mir.Facts.{to_z-of_z}
use Rattle.base.specs.Bytes.{Bytes}
use Rattle.model.specs.Record.{Meta, kind_of, flagged, claim_of}
use Rattle.kind.specs.declared.Kind.{Kind}
use Rattle.kind.specs.declared.Kind.TheVariants.{Node, Way, Relation}
use Rattle.event_values.specs.Value.{body_in}
use Rattle.compact.specs.Held.{meta_of}
use Rattle.reader.specs.Step.{bits_with_user}
use Rattle.event.specs.Event.{or_empty}
use Rattle.event_scan.specs.Fields.{text_written}
use Rattle.event_scan.specs.declared.fields.Value.{Value}
use Rattle.reader_acts.specs.declared.Act.{Act}
use Rattle.reader_acts.specs.Acts.{user_flagged, act_means, UserShort}

-- ---- the flag of the user

user_flag : (f : ℕ) (user : Bool) → flagged 4 (user_flagged f user) ≡ user
unfolding flagged
user_flag f true = let e : (f / 8 * 8 + 4 + f % 4) / 4 % 2 ≡ 1 = omega arith in rw e refl
user_flag f false = let e : (f / 8 * 8 + 0 + f % 4) / 4 % 2 ≡ 0 = omega arith in rw e refl

pub version_flag : (f : ℕ) (user : Bool) → flagged 8 (user_flagged f user) ≡ flagged 8 f
unfolding flagged
version_flag f true = let e : (f / 8 * 8 + 4 + f % 4) / 8 ≡ f / 8 = omega arith in rw e refl
version_flag f false = let e : (f / 8 * 8 + 0 + f % 4) / 8 ≡ f / 8 = omega arith in rw e refl

-- ---- an act by the user that it names

pub act_named : {N : ℕ} (a : Act N) {u : Value N} → a.user ≡ Some u → (flagged 4 (act_means a).flags ≡ true) × (text_written u ≡ (act_means a).user)
act_named {N} a e = (user_flag a.meta.flags (is_some a.user) ∙ ap (λ (x : Option (Value N)). is_some x) e, sym (ap (λ (x : Option (Value N)). or_empty (option_map text_written x)) e))

pub act_unnamed : {N : ℕ} (a : Act N) → a.user ≡ None → flagged 4 (act_means a).flags ≡ false
act_unnamed {N} a e = user_flag a.meta.flags (is_some a.user) ∙ ap (λ (x : Option (Value N)). is_some x) e

-- one that is a value of a line is short
pub user_short : (u : Option (Value 16384)) → UserShort u
user_short None = tt
user_short (Some v) = v.short

-- ---- the version that is claimed

pub act_claims : {N : ℕ} (a : Act N) → claim_of (meta_of a.meta) ≡ claim_of (act_means a)
unfolding claim_of meta_of
act_claims a = rw (version_flag a.meta.flags (is_some a.user)) refl

-- metadata in bits claims the version that it claims in numbers, whatever handle its bits have
pub claim_bits : (m : Meta Bytes) (user : ℕ) → SFits w32 m.version → claim_of (meta_of (bits_with_user m user)) ≡ claim_of m
unfolding claim_of meta_of
claim_bits m user f = rw (to_z-of_z f)

-- and where the bits with one handle claim it, so do those with another
pub claim_with : (m : Meta Bytes) (n h : ℕ) → claim_of (meta_of (bits_with_user m n)) ≡ claim_of m → claim_of (meta_of (bits_with_user m h)) ≡ claim_of m
unfolding claim_of meta_of
claim_with m n h e = e

-- ---- the kind of a body as it is read

pub kind_read : (k : Kind) (lat lon : ℕ) → kind_of (body_in k lat lon) ≡ k
kind_read Node lat lon = refl
kind_read Way lat lon = refl
kind_read Relation lat lon = refl
