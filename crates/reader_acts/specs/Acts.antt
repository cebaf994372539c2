-- Document 01, the acts of an event: "12 .. 13 .. 14 .. 15 ..", and the first of them is answered. "Nothing lent changes" at a refusal.
use Rattle.std.specs.Prelude.{ℕ, ◌+◌, ◌*◌, ◌/◌, ◌%◌, ◌<◌, ◌≤◌, ◌≡◌, Bool, cond, [], ℤ, length, take, Err, Ok, Result, None, Option, Some, option_map, is_some, unwrap_or}
use Rattle.std.specs.Int.{w32, w64}
use Rattle.std.proofs.Common.{to_z}
use Rattle.base.specs.Bytes.{Bytes}
use Rattle.refusal.specs.declared.Refusal.{Refusal}
use Rattle.refusal.specs.declared.Refusal.TheVariants.{Regression}
use Rattle.kind.specs.declared.Kind.{Kind}
use Rattle.model.specs.Record.{Meta, Body, kind_of, flagged, claim_of}
use Rattle.compact.specs.declared.ArenaMeta.{ArenaMeta}
use Rattle.text_index.specs.Chained.{HandleChains, ChainsServe}
use Rattle.kind_store.specs.KindStore.{known_version, checked}
use Rattle.overlay.specs.Overlay.{Overlay, kind_store_of}
use Rattle.overlay.specs.Calls.{OverlayAfter, overlay_refused}
use Rattle.overlay_store.specs.Calls.{store_text, store_push, store_delete}
use Rattle.event.specs.Event.{or_empty}
use Rattle.event_scan.specs.Fields.{text_written}
use Rattle.event_scan.specs.declared.fields.Value.{Value}
use Rattle.reader_acts.specs.declared.Act.{Act}
use Rattle.reader.specs.declared.Pending.{Pending}
use Rattle.reader.specs.Step.{bits_with_user, head_for}

-- ---- an element begins: the user that its metadata names is taken in

-- what that leaves, and the metadata with its user's handle
pub record AfterBegun : Type 0 where
  pub overlay : Overlay
  pub answer : Result ArenaMeta Refusal

abbrev pub begun_by : Meta Bytes → Result ℕ Refusal → Result ArenaMeta Refusal
begun_by m (Ok h) = Ok (bits_with_user m h)
begun_by m (Err r) = Err r

-- 13, or the metadata; where it names no user the handle is 0
unfoldable pub begin_on : Meta Bytes → Overlay → AfterBegun
begin_on m o =
    cond (flagged 4 m.flags)
    (record { overlay = (store_text m.user o).overlay; answer = begun_by m (store_text m.user o).answer })
    (record { overlay = o; answer = Ok (bits_with_user m 0) })

-- what follows, by its refusal or by the metadata
abbrev pub by_begun : {A : Type 0} → (Refusal → A) → (ArenaMeta → A) → Result ArenaMeta Refusal → A
by_begun g f (Ok a) = f a
by_begun g f (Err r) = g r

-- ---- an act

-- "12" of the table's row "store", asked of an act with nothing done: a claim against the known version of its id
abbrev pub claim_answer : Kind → ℤ → Option ℤ → Overlay → Result Unit ℤ
claim_answer k id claim o = checked o.setting (known_version k (kind_store_of k o) id) claim

-- 12, or what follows
abbrev pub admitted : Overlay → Result Unit ℤ → OverlayAfter → OverlayAfter
admitted o (Err v) a = overlay_refused o (Regression v)
admitted o (Ok tt) a = a

-- 14 and 15: not even the text before them is kept
abbrev pub act_kept_as : Overlay → Overlay → Result Unit Refusal → OverlayAfter
act_kept_as o q (Ok tt) = record { overlay = q; answer = (Ok tt) }
act_kept_as o q (Err r) = overlay_refused o r

abbrev pub act_kept : Overlay → OverlayAfter → OverlayAfter
act_kept o a = act_kept_as o a.overlay a.answer

unfoldable pub act_on : Kind → ℤ → Meta Bytes → (ArenaMeta → Overlay → OverlayAfter) → Overlay → OverlayAfter
act_on k id m act o =
    admitted o (claim_answer k id (claim_of m) o)
    (by_begun (overlay_refused o) (λ a. act_kept o (act a (begin_on m o).overlay)) (begin_on m o).answer)

-- an element that begins and ends at once is pushed: 12, 13, 14, 15
abbrev pub push_empty_on : ℤ → Meta Bytes → Body Bytes → Overlay → OverlayAfter
push_empty_on id m b o = act_on (kind_of b) id m (λ a q. store_push (kind_of b) (head_for id b) a [] q) o

-- an id is deleted: 12, 13, 14
abbrev pub delete_element_on : Kind → ℤ → Meta Bytes → Overlay → OverlayAfter
delete_element_on k id m o = act_on k id m (λ a q. store_delete k id (claim_of m) q) o

-- an element that ends is pushed with the parts that are staged: 12, 14, 15
abbrev pub push_staged_on : Kind → Pending → Bytes → Overlay → OverlayAfter
push_staged_on k x parts o = store_push k x.head x.meta (take x.used parts) o

-- ---- an act done once: with the handle that the user's text has or will get, and the text behind it (proofs/Once: this is `act_on`)

-- that handle, or 13; without a user it is 0
abbrev pub handle_for : Meta Bytes → Overlay → Result ℕ Refusal
handle_for m o = cond (flagged 4 m.flags) (store_text m.user o).answer (Ok 0)

-- the text taken in
abbrev pub with_user : Meta Bytes → Overlay → Overlay
with_user m o = cond (flagged 4 m.flags) (store_text m.user o).overlay o

-- the text behind an act that was taken; a refused one is left as it is
abbrev pub then_user : Meta Bytes → Overlay → Result Unit Refusal → OverlayAfter
then_user m q (Ok tt) = record { overlay = with_user m q; answer = (Ok tt) }
then_user m q (Err r) = overlay_refused q r

abbrev pub then_user_on : Meta Bytes → OverlayAfter → OverlayAfter
then_user_on m a = then_user m a.overlay a.answer

-- ---- in the code: a handle is none without a user

-- the handle, 0 without a user, or a refusal
abbrev pub handle_or_zero : Result (Option ℕ) Refusal → Result ℕ Refusal
handle_or_zero (Ok u) = Ok (unwrap_or u 0)
handle_or_zero (Err r) = Err r

-- 12 before the refusal of a text
abbrev pub first_refusal : Result Unit ℤ → Refusal → Refusal
first_refusal (Ok tt) r = r
first_refusal (Err v) r = Regression v

abbrev pub before_by : Result Unit ℤ → Result ℕ Refusal → Result ℕ Refusal
before_by a (Ok n) = Ok n
before_by a (Err r) = Err (first_refusal a r)

-- what is asked before an act: the handle, or the refusal of an act whose user's text is refused
abbrev pub before_act : Kind → ℤ → Meta Bytes → Overlay → Result ℕ Refusal
before_act k id m o = before_by (claim_answer k id (claim_of m) o) (handle_for m o)

-- ---- what an act means

-- flags with the flag 4, "has user", set or not
abbrev pub user_flagged : ℕ → Bool → ℕ
user_flagged flags user = flags / 8 * 8 + cond user 4 0 + flags % 4

-- metadata in bits, but for its user, with the user that it names
abbrev pub meta_named : ArenaMeta → Bool → Bytes → Meta Bytes
meta_named m named user =
    record {
      flags = user_flagged m.flags named;
      version = to_z w32 m.version;
      timestamp = to_z w64 m.timestamp;
      changeset = to_z w64 m.changeset;
      uid = to_z w32 m.uid;
      user = user;
    }

-- the metadata of an act; what holds for it holds for all metadata that the act means (proofs/Meant)
abbrev pub act_means : {N : ℕ} → Act N → Meta Bytes
act_means a = meta_named a.meta (is_some a.user) (or_empty (option_map text_written a.user))

-- ---- what is given

-- the text of the user that an act names is no longer than a line may be; one of at most so many bytes by its type is (proofs/Bits)
abbrev pub UserShort : {N : ℕ} → Option (Value N) → Type 0
UserShort None = Unit {0}
UserShort (Some u) = length u.bytes.now ≤ 16384

-- the handles of the overlay fit the metadata's field, and the chains serve its texts; a premise of the clauses for the reason that stands at `StepGiven` (reader_parts)
pub record ActGiven (chains : HandleChains) (o : Overlay) : Type 0 where
  pub few : o.texts.strings < 4294967296
  pub serve : ChainsServe chains o.texts

-- the user's text has or will get that handle
abbrev pub UserIs : Meta Bytes → Overlay → ℕ → Type 0
UserIs m o n = handle_for m o ≡ Ok n

-- a handle fits the metadata's field
abbrev pub HandleFits : Result ℕ Refusal → Type 0
HandleFits (Ok n) = n < 4294967296
HandleFits (Err r) = Unit {0}
