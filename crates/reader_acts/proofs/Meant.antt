-- An act goes by the bits of its metadata, by the version that this claims and by the user that it names: what holds for `act_means` holds for all metadata that the act means.
use Rattle.std.specs.Prelude.{None, Ok, Err, Option, Some, Result, is_some}
use Prim.Native.Nat.{ℕ, ◌/◌, ◌%◌}
use mathlib.Core.Path.{◌≡◌, refl, sym, ◌∙◌, ap}
use mathlib.Core.Bool.{Bool, true, false}
use native.Mathlib.Omega.{arith}
use lib.IntN.{ℤ}
use mir.Syntax.{w32, w64}
use mir.Val.{Fits, SFits}
use mir.Facts.{Fits-of_z, of_z-to_z}
use borrow.Author.Tests.{eqb-true, eqb-false}
use Rattle.base.specs.Bytes.{Bytes}
use Rattle.base.proofs.Split.{by_bool, clash}
use Rattle.refusal.specs.declared.Refusal.{Refusal}
use Rattle.kind.specs.declared.Kind.{Kind}
use Rattle.nesting.specs.declared.Place.{Place}
use Rattle.model.specs.Record.{Meta, Body, kind_of, flagged, claim_of}
use Rattle.compact.specs.declared.ArenaMeta.{ArenaMeta}
use Rattle.compact.specs.Held.{meta_of}
use Rattle.overlay.specs.Overlay.{Overlay}
use Rattle.overlay.specs.Calls.{OverlayAfter}
use Rattle.overlay_store.specs.Calls.{store_text}
use Rattle.event_scan.specs.Fields.{text_written}
use Rattle.event_scan.specs.declared.fields.Value.{Value}
use Rattle.event_decision.specs.Decision.{begins, deletes}
use Rattle.reader.specs.State.{State}
use Rattle.reader.specs.Step.{bits_with_user, head_for, step_of}
use Rattle.reader_acts.specs.declared.Act.{Act}
use Rattle.reader_acts.specs.Acts.{AfterBegun, begun_by, begin_on, act_on, push_empty_on, delete_element_on, user_flagged, meta_named, act_means}
use Rattle.reader_acts.proofs.Bits.{act_named, act_claims, claim_bits}
use Rattle.reader_acts.proofs.Laws.{begins_step, empty_step, deletes_step}

-- ---- metadata that agrees in what an act goes by

pub record Agree (m w : Meta Bytes) : Type 0 where
  pub bits : bits_with_user m 0 ≡ bits_with_user w 0
  pub claims : claim_of m ≡ claim_of w
  pub user : flagged 4 m.flags ≡ true → m.user ≡ w.user

-- the same bits with another handle
abbrev with_handle : ArenaMeta → ℕ → ArenaMeta
with_handle a h = record { flags = a.flags; version = a.version; timestamp = a.timestamp; changeset = a.changeset; uid = a.uid; user = h }

-- a user that is named is taken in
abbrev begun_with : Meta Bytes → Bytes → Overlay → AfterBegun
begun_with m t o = record { overlay = (store_text t o).overlay; answer = begun_by m (store_text t o).answer }

module _ {m w : Meta Bytes} (same : Agree m w) where
  bits_same : (h : ℕ) → bits_with_user m h ≡ bits_with_user w h
  bits_same h = ap (λ (a : ArenaMeta). with_handle a h) same.bits

  flags_same : m.flags ≡ w.flags
  flags_same = ap (λ (a : ArenaMeta). a.flags) same.bits

  begun_same : (x : Result ℕ Refusal) → begun_by m x ≡ begun_by w x
  begun_same (Ok h) = ap Ok (bits_same h)
  begun_same (Err r) = refl

  named_same : (o : Overlay) {t u : Bytes} → t ≡ u → begun_with m t o ≡ begun_with w u o
  named_same o {t} {u} e = rw (e, begun_same (store_text u o).answer)

  pub begin_same : (o : Overlay) → begin_on m o ≡ begin_on w o
  unfolding begin_on
  begin_same o =
      by_bool (flagged 4 w.flags)
      (λ t. let f : flagged 4 m.flags ≡ true = rw flags_same t in rw (f, t) (named_same o (same.user f)))
      (λ t. let f : flagged 4 m.flags ≡ false = rw flags_same t in rw (f, t, bits_same 0))

  pub act_same : (k : Kind) (id : ℤ) (act : ArenaMeta → Overlay → OverlayAfter) (o : Overlay) → act_on k id m act o ≡ act_on k id w act o
  unfolding act_on
  act_same k id act o = rw (same.claims, begin_same o)

  -- an empty element goes by the kind and the head of its body
  pub empty_same : (id : ℤ) (b c : Body Bytes) → kind_of b ≡ kind_of c → head_for id b ≡ head_for id c → (o : Overlay) → push_empty_on id m b o ≡ push_empty_on id w c o
  empty_same id b c kinds heads o = rw (kinds, heads) (act_same (kind_of c) id _ o)

  pub delete_same : (k : Kind) (id : ℤ) (o : Overlay) → delete_element_on k id m o ≡ delete_element_on k id w o
  delete_same k id o = rw same.claims (act_same k id _ o)

  -- ---- and so do the steps

  module _ (s : State) (p : Place) where
    pub begins_same : (empty : Bool) (id : ℤ) (b c : Body Bytes) → kind_of b ≡ kind_of c → head_for id b ≡ head_for id c
        → step_of (begins empty p id m b) s ≡ step_of (begins empty p id w c) s
    begins_same true id b c kinds heads = rw (empty_step s p id m b, empty_step s p id w c, empty_same id b c kinds heads s.overlay)
    begins_same false id b c kinds heads = rw (begins_step s p id m b, begins_step s p id w c, begin_same s.overlay, heads)

    pub deletes_same : (k : Kind) (id : ℤ) → step_of (deletes k p id m) s ≡ step_of (deletes k p id w) s
    deletes_same k id = rw (deletes_step s p k id m, deletes_step s p k id w, delete_same k id s.overlay)

-- ---- the metadata that an act means

-- a user as it is written, where metadata names one
abbrev pub UserMeans : {N : ℕ} → Option (Value N) → Bool → Bytes → Type 0
UserMeans None named t = named ≡ false
UserMeans (Some u) named t = (named ≡ true) × (text_written u ≡ t)

-- an act by its metadata, whatever user stands there where it names none, and whatever numbers have these bits
pub record Means {N : ℕ} (a : Act N) (m : Meta Bytes) : Type 0 where
  pub bits : a.meta ≡ bits_with_user m 0
  pub version : SFits w32 m.version
  pub user : UserMeans a.user (flagged 4 m.flags) m.user

-- numbers fit their types, as in all metadata that the code has
pub record NumbersFit (a : ArenaMeta) : Type 0 where
  pub timestamp : Fits w64 a.timestamp
  pub changeset : Fits w64 a.changeset
  pub uid : Fits w32 a.uid

-- and as in the bits of numbers that fit
pub bits_fit : {a : ArenaMeta} (m : Meta Bytes) → a ≡ bits_with_user m 0 → SFits w64 m.timestamp → SFits w64 m.changeset → SFits w32 m.uid → NumbersFit a
bits_fit m e t c u = rw e (record { timestamp = Fits-of_z t; changeset = Fits-of_z c; uid = Fits-of_z u })

flag_back : (f : ℕ) (named : Bool) → flagged 4 f ≡ named → user_flagged f named ≡ f
unfolding flagged
flag_back f true e = let q = eqb-true (f / 4 % 2) 1 e in omega arith
flag_back f false e = let q = eqb-false (f / 4 % 2) 1 e in omega arith

bits_back : (a : ArenaMeta) (named : Bool) (t : Bytes) → flagged 4 a.flags ≡ named → Fits w32 a.version → NumbersFit a → a.user ≡ 0 → a ≡ bits_with_user (meta_named a named t) 0
bits_back a named t e v f u =
    rw (flag_back a.flags named e, of_z-to_z v, of_z-to_z f.timestamp, of_z-to_z f.changeset, of_z-to_z f.uid) (ap (with_handle a) u)

module _ {N : ℕ} {a : Act N} {m : Meta Bytes} (means : Means a m) (fit : NumbersFit a.meta) where
  names : (x : Option (Value N)) → a.user ≡ x → UserMeans x (flagged 4 m.flags) m.user → (flagged 4 m.flags ≡ is_some x) × (flagged 4 m.flags ≡ true → m.user ≡ (act_means a).user)
  names None e g = (g, λ t. clash t g)
  names (Some u) e g = (g.0, λ t. sym g.1 ∙ (act_named a e).1)

  pub meant : Agree m (act_means a)
  meant =
      let named = names a.user refl means.user in
      let flag : flagged 4 a.meta.flags ≡ is_some a.user = ap (λ (x : ArenaMeta). flagged 4 x.flags) means.bits ∙ named.0 in
      let version : Fits w32 a.meta.version = rw means.bits (Fits-of_z means.version) in
      let none : a.meta.user ≡ 0 = ap (λ (x : ArenaMeta). x.user) means.bits in
      record {
        bits = sym means.bits ∙ bits_back a.meta (is_some a.user) (act_means a).user flag version fit none;
        claims = sym (claim_bits m 0 means.version) ∙ sym (ap (λ (x : ArenaMeta). claim_of (meta_of x)) means.bits) ∙ act_claims a;
        user = named.1;
      }

  -- what is promised of `act_means` is promised of it
  pub begin_meant : (o : Overlay) → begin_on m o ≡ begin_on (act_means a) o
  begin_meant o = begin_same meant o

  pub empty_meant : (id : ℤ) (b c : Body Bytes) → kind_of b ≡ kind_of c → head_for id b ≡ head_for id c → (o : Overlay) → push_empty_on id m b o ≡ push_empty_on id (act_means a) c o
  empty_meant id b c kinds heads o = empty_same meant id b c kinds heads o

  pub delete_meant : (k : Kind) (id : ℤ) (o : Overlay) → delete_element_on k id m o ≡ delete_element_on k id (act_means a) o
  delete_meant k id o = delete_same meant k id o

  pub begins_meant : (s : State) (p : Place) (empty : Bool) (id : ℤ) (b c : Body Bytes) → kind_of b ≡ kind_of c → head_for id b ≡ head_for id c
      → step_of (begins empty p id m b) s ≡ step_of (begins empty p id (act_means a) c) s
  begins_meant s p empty id b c kinds heads = begins_same meant s p empty id b c kinds heads

  pub deletes_meant : (s : State) (p : Place) (k : Kind) (id : ℤ) → step_of (deletes k p id m) s ≡ step_of (deletes k p id (act_means a)) s
  deletes_meant s p k id = deletes_same meant s p k id
