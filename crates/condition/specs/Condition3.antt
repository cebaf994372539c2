-- Condition 3, in the terms of the public calls' definitions: `intern_on`, `push_on`, `delete_on`, `event_on`, `end_on` and `listing_on` are what their contracts cite. The acts are those
-- of the calls and their replies (`acts_of`), never of the overlay's own bytes.
use Rattle.reader.specs.State.{refusal_at}
use Rattle.std.specs.Prelude.{ℕ, ◌+◌, ◌^◌, ◌<◌, ◌≤◌, ◌≡◌, true, false, ◌↔◌, List, ℤ, length, take, drop, Err, Ok, Some}
use Rattle.std.specs.Int.{w64}
use Rattle.std.proofs.Common.{to_z}
use Rattle.base.specs.Bytes.{Bytes}
use Rattle.kind.specs.declared.Kind.{Kind}
use Rattle.refusal.specs.declared.Refusal.TheVariants.{Regression}
use Rattle.model.specs.Record.{claim_of}
use Rattle.model.specs.Act.{Act, Key, key_of, claimed_by}
use Rattle.compact.specs.Cut.{pushed_record}
use Rattle.compact.specs.Held.{meta_of, head_in}
use Rattle.compact.specs.Legal.{legal_meta}
use Rattle.compact.specs.declared.ArenaMeta.{ArenaMeta}
use Rattle.compact.specs.declared.PushHead.{PushHead}
use Rattle.compact_legal.specs.Judge.{fault_for}
use Rattle.overlay_blocks.specs.Sizes.{largest}
use Rattle.overlay.specs.Overlay.{Overlay, sizes_fit}
use Rattle.overlay.specs.Given.{InBytes, head_fits}
use Rattle.overlay_direct.specs.Calls.{push_on, delete_on}
use Rattle.listing_page.specs.Summary.{known, summary}
use Rattle.listing_page.specs.Listing.{listing}
use Rattle.listing.specs.Call.{Output, listing_on}
use Rattle.event_fields.specs.Field.{got}
use Rattle.acts.specs.Turn.{Turn, turn}
use Rattle.acts.specs.Call.{World, begin, world_after, acts_of, lines_read}
use Rattle.reader.specs.Event.{event_on}
use Rattle.calls.specs.Ask.{Ask, Storage, state_of, PartsGiven, storage_after, replies, stopped_in}
use Rattle.calls.specs.Known.{Regresses}

-- "any two overlays, whatever their sizes, that start empty": what is lent, with any content, and the sizes with which it is set up; set-up takes them, bytes are bytes, and each
-- reader is lent its bytes
pub record Start (o : Overlay) (ps : ℕ → Bytes) : Type 0 where
  pub sizes : sizes_fit largest o ≡ true
  pub bytes : InBytes o
  pub parts : PartsGiven ps

-- ---- a list of calls on such storage: "readers begin fresh, anywhere in a list"; "refuse regression throughout": set up with 0, and no call of the list allows it, which is tested by
-- `all refusing` (calls/specs/Ask)

module _ (o : Overlay) (ps : ℕ → Bytes) (cs : List Ask) where
  -- what is lent, as the list leaves it
  abbrev pub storage_left : Storage
  storage_left = storage_after 0 o ps cs

  -- what the accepted calls left: the texts that were taken in, and each reader
  abbrev pub world_left : World
  world_left = world_after begin (replies 0 o ps cs)

  -- "the accepted acts"
  abbrev pub accepted_acts : List (Act Bytes)
  accepted_acts = acts_of (replies 0 o ps cs)

  -- the listing call after the list
  abbrev pub listed_after : Bytes → Output
  listed_after out = listing_on out storage_left.overlay

  -- and how long the listing is, by the acts
  abbrev pub page_length : ℕ
  page_length = length (listing (summary accepted_acts))

  -- "an output long enough" gets the listing, which is a rendering of the accepted acts; "output past the listing is unchanged"
  pub record PageListed (out : Bytes) : Type 0 where
    pub answer : (listed_after out).answer ≡ Ok page_length
    pub page : take page_length (listed_after out).out ≡ listing (summary accepted_acts)
    pub rest : drop page_length (listed_after out).out ≡ drop page_length out

  -- "After every such list a versioned act, made directly or by a reader not stopped, that passes the earlier checks is refused as a regression exactly when its version is below the
  -- highest that accepted acts claimed for its kind and id": 12, with that highest as HELD
  pub record RegressionRefused : Type 0 where
    -- the earlier checks of a direct push: 17, 3, 10 and 16, with as many texts as were taken in
    pub push : (k : Kind) (h : PushHead) (m : ArenaMeta) (bytes : Bytes) → head_fits h ≡ true
        → fault_for (length world_left.texts) (pushed_record k (head_in k h) (meta_of m) bytes) ≡ (Ok tt) → (v : ℤ)
        → ((push_on k h m bytes storage_left.overlay).answer ≡ Err (Regression v))
        ↔ Regresses accepted_acts (record { kind = k; id = to_z w64 h.id }) (claim_of (meta_of m)) v
    -- of a direct delete: 17
    pub delete : (k : Kind) (id : ℕ) (m : ArenaMeta) → id < 2 ^ 64 → legal_meta (length world_left.texts) (meta_of m) ≡ true → (v : ℤ)
        → ((delete_on k (to_z w64 id) (meta_of m) storage_left.overlay).answer ≡ Err (Regression v))
        ↔ Regresses accepted_acts (record { kind = k; id = to_z w64 id }) (claim_of (meta_of m)) v
    -- of an event: 22, of which nothing is left but that the count of its reader's lines is below its largest; no stop mark; 2 to 11, 23 and 24, past which its turn makes an act. It is refused
    -- at its line, one more than the lines that its reader has taken.
    pub event : (n : ℕ) (line : Bytes) (t : Turn) (a : Act Bytes)
        → length (lines_read n (replies 0 o ps cs)) < 18446744073709551615 → stopped_in n (replies 0 o ps cs) ≡ false
        → turn line (world_left.readers n) ≡ got t → t.act ≡ Some a → (v : ℤ)
        → ((event_on line (state_of n storage_left)).answer ≡ Err (refusal_at (Regression v) (length (lines_read n (replies 0 o ps cs)) + 1)))
        ↔ Regresses accepted_acts (key_of a) (claimed_by a) v

-- ---- two lists

module _ (o : Overlay) (ps : ℕ → Bytes) (cs : List Ask) (p : Overlay) (qs : ℕ → Bytes) (ds : List Ask) where
  -- "the listings of document 01, taken after them in outputs long enough, are equal byte for byte exactly when, in each kind, the accepted acts named the same ids and left each with
  -- the same last act .. and the same highest version claimed, or none"
  pub record SamePage (out1 out2 : Bytes) : Type 0 where
    pub one : PageListed o ps cs out1
    pub two : PageListed p qs ds out2
    pub same : (take (page_length o ps cs) (listed_after o ps cs out1).out ≡ take (page_length p qs ds) (listed_after p qs ds out2).out)
        ↔ ((k : Key) → known (accepted_acts o ps cs) k ≡ known (accepted_acts p qs ds) k)

  pub record Condition3 : Type 0 where
    pub pages : (out1 out2 : Bytes) → page_length o ps cs ≤ length out1 → page_length p qs ds ≤ length out2 → SamePage out1 out2
    pub regression : RegressionRefused o ps cs
