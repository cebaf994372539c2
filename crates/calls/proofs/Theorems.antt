-- T7 to T10 and T13 over lists of calls, refused ones included: `intern`, direct pushes and deletes, events and ends of any readers, the regression setting, on an overlay that
-- starts empty, whatever its sizes. The acts are those of the calls and their replies.
use Rattle.std.specs.Prelude.{Err, Ok, Some}
use Prim.Native.Nat.{ℕ, ◌+◌, ◌^◌, ◌<◌}
use mathlib.Core.Path.{◌≡◌, refl, ◌∙◌, ap}
use mathlib.Core.Bool.{Bool, true, false}
use mathlib.Core.Logic.{◌↔◌}
use mathlib.Core.List.{List, []}
use native.Mathlib.Omega.{arith}
use native.Mathlib.Nat.{zero-add}
use lib.IntN.{ℤ}
use lib.ListN.{length}
use mir.Syntax.{w64}
use mir.Val.{SFits, to_z}
use mir.Facts.{Fits-of_lt, sfits_to_z}
use borrow.Author.Tests.{eqb-true}
use Rattle.base.specs.Bytes.{Bytes, either, all}
use Rattle.base.proofs.Split.{both_left, both_right, both_of, clash}
use Rattle.kind.specs.declared.Kind.{Kind}
use Rattle.refusal.specs.declared.Refusal.TheVariants.{Regression}
use Rattle.model.specs.Record.{claim_of}
use Rattle.model.specs.Act.{Act, Key, key_of, claimed_by}
use Rattle.compact.specs.Cut.{pushed_record}
use Rattle.compact.specs.Held.{meta_of, head_in}
use Rattle.compact.specs.Legal.{legal_meta}
use Rattle.compact.specs.declared.ArenaMeta.{ArenaMeta}
use Rattle.compact.specs.declared.PushHead.{PushHead}
use Rattle.compact_legal.specs.Judge.{fault_for}
use Rattle.interner.specs.Texts.{handle_of, take_in}
use Rattle.interner.specs.Sound.{texts_of}
use Rattle.listing_page.specs.Summary as Summary
use Rattle.kind_store.specs.KindStore as KindStore
use Rattle.event_fields.specs.Field.{got}
use Rattle.acts.specs.Turn.{Turn, turn}
use Rattle.acts.specs.Call.{begin, world_after, acts_of, lines_read}
use Rattle.overlay_blocks.specs.Sizes.{largest}
use Rattle.overlay.specs.Overlay.{Overlay, kind_store_of, with_setting, sizes_fit, empty}
use Rattle.overlay.specs.Given.{InBytes, head_fits}
use Rattle.overlay.specs.Sound.{is_sound}
use Rattle.overlay.specs.Calls.{OverlayAfter, set_up}
use Rattle.overlay_direct.specs.Calls.{push_on, delete_on, intern_on}
use Rattle.overlay_direct.proofs.Answers.{push_store, delete_store}
use Rattle.overlay.proofs.Answers.{by_set_up, by_allow}
use Rattle.overlay.proofs.Bounds.{id_given}
use Rattle.overlay.proofs.Decides.{decides}
use Rattle.overlay_direct.proofs.Keeps.{intern_kept}
use Rattle.reader.specs.State.{is_stopped, refusal_at}
use Rattle.reader.specs.Given.{StateGiven}
use Rattle.reader.specs.Event.{event_on}
use Rattle.reader.proofs.Keeps.{fresh_ready, fresh_means, ready_sound}
use Rattle.reader.proofs.Regressions.{event_regression, act_fits}
use Rattle.calls.specs.Ask.{Ask, allows, started, state_of, leaves, accepts, ask_fits, PartsGiven, refusing, refused_throughout, storage_after, replies, stopped_in}
use Rattle.calls.specs.Known.{Regresses, pushed_bytes}
use Rattle.listing.specs.Known.{known_in}
use Rattle.calls.proofs.Reflects.{Reflects, reflects_empty, page_reflects, push_regresses, delete_regresses, admit_regresses}
use Rattle.calls.proofs.Stops.{stopped_calls}
use Rattle.calls.proofs.Lists.{Agrees, agrees_fine, agrees_calls, lines_counted}

-- set-up with the overlay's sizes leaves what the calls start with
pub set_up_starts : (setting : ℕ) (o : Overlay) → sizes_fit largest o ≡ true → (parts : ℕ → Bytes) → set_up o.sizes setting o ≡ record { overlay = (started setting o parts).overlay; answer = (Ok tt) }
set_up_starts setting o sizes parts = by_set_up o.sizes setting o (λ s e. clash sizes s) (λ s e. e)

module _ (setting : ℕ) (o : Overlay) (sizes : sizes_fit largest o ≡ true) (lent : InBytes o) (parts : ℕ → Bytes) (room : PartsGiven parts) where
  -- an empty overlay and fresh readers agree with no calls
  pub agrees_started : (refused : Bool) → (refused ≡ true → setting ≡ 0) → Agrees refused (started setting o parts) begin []
  agrees_started refused set =
      let w = reflects_empty refused setting o set sizes lent in
      let e = (decides (empty setting o) w.bytes).1 w.sound in
      record { overlay = w; ready = λ n. fresh_ready (empty setting o) e (parts n) (room.bytes n) (room.room n); readers = λ n. fresh_means (empty setting o) e (parts n) }

  module _ (cs : List Ask) (given : all ask_fits cs ≡ true) where
    pub agrees_after : Agrees (refused_throughout setting cs) (storage_after setting o parts cs) (world_after begin (replies setting o parts cs)) (acts_of (replies setting o parts cs))
    unfolding acts_of
    agrees_after =
        let r = refused_throughout setting cs in
        agrees_calls r cs (started setting o parts) begin [] given (both_right _ _) (agrees_started r (λ z. eqb-true setting 0 (both_left _ _ z)))

    -- what the overlay holds is what the accepted calls come to
    pub reflects_after : Reflects (refused_throughout setting cs) (storage_after setting o parts cs).overlay (world_after begin (replies setting o parts cs)).texts (acts_of (replies setting o parts cs))
    reflects_after = agrees_after.overlay

    -- no list of calls makes the overlay unsound, however long it is
    pub sound_after : is_sound (storage_after setting o parts cs).overlay ≡ true
    sound_after = (agrees_fine agrees_after).sound

    -- the lines that a reader has taken are those of its accepted events
    pub lines_after : (n : ℕ) → ((storage_after setting o parts cs).readers n).lines ≡ length (lines_read n (replies setting o parts cs))
    lines_after n = lines_counted n cs (started setting o parts) ∙ zero-add _

    -- and a reader is stopped exactly where one of its events was refused
    pub stopped_after : (n : ℕ) → length (lines_read n (replies setting o parts cs)) < 18446744073709551615
        → is_stopped ((storage_after setting o parts cs).readers n).stop ≡ stopped_in n (replies setting o parts cs)
    unfolding either
    stopped_after n h = stopped_calls n cs (started setting o parts) begin [] given (agrees_started false (λ z. clash z refl)) (omega arith)

    -- the regression setting is accepted after every list: it is stored, and nothing else of the overlay changes
    pub setting_stored : (s : ℕ) → (accepts (allows s) (storage_after setting o parts cs) ≡ true)
        × ((leaves (allows s) (storage_after setting o parts cs)).overlay ≡ with_setting s (storage_after setting o parts cs).overlay)
    setting_stored s = by_allow s (storage_after setting o parts cs).overlay (λ u e. clash sound_after u) (λ u e. (rw e, rw e))

    -- T7: the held texts are those of the accepted calls, and the handle of each is its place
    pub texts_held : texts_of (storage_after setting o parts cs).overlay.texts ≡ (world_after begin (replies setting o parts cs)).texts
    texts_held = agrees_after.overlay.texts

    pub handle_next : (t : Bytes) (n : ℕ) → (intern_on t (storage_after setting o parts cs).overlay).answer ≡ Ok n
        → handle_of t (take_in (world_after begin (replies setting o parts cs)).texts t) ≡ Some n
    handle_next t n e = let k = intern_kept t (storage_after setting o parts cs).overlay n e in rw (← texts_held, ← k.texts) k.place

    -- T8: the used bytes are those of the accepted pushes
    pub used_bytes : (k : Kind) → (kind_store_of k (storage_after setting o parts cs).overlay).used ≡ pushed_bytes k (acts_of (replies setting o parts cs))
    used_bytes k = (agrees_after.overlay.tells k).used

-- where regression is refused throughout: set up with 0, and no call of the list allows it
module _ (o : Overlay) (sizes : sizes_fit largest o ≡ true) (lent : InBytes o) (parts : ℕ → Bytes) (room : PartsGiven parts) (cs : List Ask) (given : all ask_fits cs ≡ true) (refuses : all refusing cs ≡ true) where
  throughout : refused_throughout 0 cs ≡ true
  throughout = both_of refl refuses

  agrees : Agrees (refused_throughout 0 cs) (storage_after 0 o parts cs) (world_after begin (replies 0 o parts cs)) (acts_of (replies 0 o parts cs))
  agrees = agrees_after 0 o sizes lent parts room cs given

  -- T9: the known version is the highest that accepted acts claimed
  pub known_highest : (k : Kind) (id : ℤ) → SFits w64 id
      → KindStore.known_version k (kind_store_of k (storage_after 0 o parts cs).overlay) id ≡ (Summary.known (acts_of (replies 0 o parts cs)) (record { kind = k; id = id })).high
  known_highest k id f = (agrees.overlay.tells k).high throughout id f

  -- T10: with what the last act left, that is all that the overlay tells of an id
  pub page_known : (key : Key) → SFits w64 key.id → known_in (storage_after 0 o parts cs).overlay key ≡ Summary.known (acts_of (replies 0 o parts cs)) key
  page_known key f = page_reflects _ _ _ _ agrees.overlay throughout key f

  -- T13: an act that passes the earlier checks is refused 12 exactly where its version is below the highest, and the refusal names the highest
  pub regression_push : (k : Kind) (h : PushHead) (m : ArenaMeta) (bytes : Bytes) → head_fits h ≡ true
      → fault_for (storage_after 0 o parts cs).overlay.texts.strings (pushed_record k (head_in k h) (meta_of m) bytes) ≡ (Ok tt) → (v : ℤ)
      → ((push_on k h m bytes (storage_after 0 o parts cs).overlay).answer ≡ Err (Regression v))
      ↔ Regresses (acts_of (replies 0 o parts cs)) (record { kind = k; id = to_z w64 h.id }) (claim_of (meta_of m)) v
  regression_push k h m bytes f l v =
      let q = (storage_after 0 o parts cs).overlay in
      let e = ap (λ (z : OverlayAfter). z.answer) (push_store k h m bytes q (agrees_fine agrees).sound l) in
      rw e (push_regresses _ q _ _ agrees.overlay throughout k (to_z w64 h.id) (id_given h f) (claim_of (meta_of m)) v _)

  pub regression_delete : (k : Kind) (id : ℕ) (m : ArenaMeta) → id < 2 ^ 64 → legal_meta (storage_after 0 o parts cs).overlay.texts.strings (meta_of m) ≡ true → (v : ℤ)
      → ((delete_on k (to_z w64 id) (meta_of m) (storage_after 0 o parts cs).overlay).answer ≡ Err (Regression v))
      ↔ Regresses (acts_of (replies 0 o parts cs)) (record { kind = k; id = to_z w64 id }) (claim_of (meta_of m)) v
  regression_delete k id m f l v =
      let q = (storage_after 0 o parts cs).overlay in
      let e = ap (λ (z : OverlayAfter). z.answer) (delete_store k (to_z w64 id) (meta_of m) q (agrees_fine agrees).sound l) in
      rw e (delete_regresses _ q _ _ agrees.overlay throughout k (to_z w64 id) (sfits_to_z {w = w64} (Fits-of_lt f)) (claim_of (meta_of m)) v)

  -- and so is an act that a reader's event makes, at the line that is one more than those that the reader has taken, unless one of its events was refused before or the count
  -- of its lines is at its largest
  pub regression_event : (n : ℕ) (line : Bytes) (t : Turn) (a : Act Bytes) → stopped_in n (replies 0 o parts cs) ≡ false
      → length (lines_read n (replies 0 o parts cs)) < 18446744073709551615 → turn line ((world_after begin (replies 0 o parts cs)).readers n) ≡ got t → t.act ≡ Some a → (v : ℤ)
      → ((event_on line (state_of n (storage_after 0 o parts cs))).answer ≡ Err (refusal_at (Regression v) (length (lines_read n (replies 0 o parts cs)) + 1)))
      ↔ Regresses (acts_of (replies 0 o parts cs)) (key_of a) (claimed_by a) v
  regression_event n line t a never below h k v =
      let s = state_of n (storage_after 0 o parts cs) in
      let g : StateGiven s = record { overlay = agrees.overlay.bytes; reader = (agrees.ready n).given } in
      let c = lines_after 0 o sizes lent parts room cs given n in
      let e = ready_sound s (agrees_fine agrees) (agrees.ready n) (omega (arith, c)) in
      let going = stopped_after 0 o sizes lent parts room cs given n below ∙ never in
      let i = ap (turn line) (agrees.readers n) ∙ h in
      let x = rw c at (event_regression line s g e going t a i k v) in
      let y = admit_regresses _ s.overlay _ _ agrees.overlay throughout (key_of a).kind (key_of a).id (act_fits line s g e going t a i k) (claimed_by a) v in
      (λ z. y.0 (x.0 z), λ z. x.1 (y.1 z))
