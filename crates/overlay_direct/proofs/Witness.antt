-- Sound overlays hold records: storage that is set up takes a node, and is sound with it.
use Rattle.std.specs.Prelude.{Ok}
use mathlib.Core.Path.{◌≡◌, refl, ◌∙◌, ap}
use mathlib.Core.Bool.{true}
use mathlib.Core.List.{[]}
use lib.ListN.{replicate}
use mir.Syntax.{w64}
use mir.Val.{to_z}
use Rattle.base.specs.Bytes.{both, either, all}
use Rattle.base.proofs.Lists.{all_nil}
use Rattle.little.specs.Little.{is_byte, le}
use Rattle.kind.specs.declared.Kind.{Kind}
use Rattle.kind.specs.declared.Kind.TheVariants.{Node, Way, Relation}
use Rattle.osm_id.specs.Order.{rank, same_id}
use Rattle.version_floor.specs.Version.{admit_of}
use Rattle.model.specs.Record.{claim_of, flagged}
use Rattle.compact.specs.Cut.{then_cut, times, cut_body, cut_parts, pushed_record}
use Rattle.compact.specs.Held.{meta_of, head_in, node_head}
use Rattle.compact.specs.Layout.{head_bytes, meta_bytes}
use Rattle.compact.specs.Legal.{legal_meta, legal_handles, body_handles, legal_texts, in_range, within_limits, value_bytes, fault_of}
use Rattle.compact.specs.declared.ArenaMeta.{ArenaMeta}
use Rattle.compact.specs.declared.PushHead.{PushHead}
use Rattle.compact_legal.specs.Judge.{fault_for}
use Rattle.kind_table.specs.Words.{held, halve, answer_at, lookup, stored, stored_at, count_after}
use Rattle.compact_append.specs.Append.{append}
use Rattle.kind_store.specs.KindStore.{kind_store_with, known_version, checked, id_room, rowed, record_joined, pushed, taken_in}
use Rattle.kind_store.proofs.KindStores.{push_used}
use Rattle.interner.specs.Strings.{store_with}
use Rattle.overlay_blocks.specs.declared.KindSize.{KindSize}
use Rattle.overlay_blocks.specs.declared.Sizes.{Sizes}
use Rattle.overlay_blocks.specs.Sizes.{sizes_in_range, kind_fits, strings_fit}
use Rattle.overlay.specs.Overlay.{Overlay, kind_store_of, with_sizes, kind_tiled, texts_tiled, tiled, sizes_fit, empty}
use Rattle.overlay.specs.Given.{head_fits, meta_fits, InBytes}
use Rattle.overlay.specs.Sound.{Sound}
use Rattle.overlay.specs.Calls.{OverlayAfter, set_up}
use Rattle.overlay_store.specs.Calls.{bytes_of, store_push}
use Rattle.overlay_direct.specs.Calls.{push_on}
use Rattle.overlay.proofs.Decides.{decides}
use Rattle.overlay_direct.proofs.Answers.{push_fault, push_stored, push_store}
use Rattle.overlay.proofs.Answers.{setup_taken}
use Rattle.overlay.proofs.Keeps.{setup_sound, setup_bytes}
use Rattle.overlay_direct.proofs.Keeps.{push_sound}

-- one id and 60 arena bytes a kind, one string
abbrev sizes : Sizes
sizes = let kind : KindSize = record { ids = 1; bytes = 60 } in record { nodes = kind; ways = kind; relations = kind; strings = 1; string_bytes = 0 }

abbrev given : Overlay
given =
    let kind = kind_store_with (replicate 3 0) 0 (replicate 60 0) 0 in
    record { nodes = kind; ways = kind; relations = kind; texts = store_with (replicate 2 0) [] 0 0; setting = 0; sizes = sizes }

set_up_lem : taken_in (set_up sizes 0 given).answer ≡ true
unfolding set_up sizes_fit sizes_in_range kind_fits strings_fit tiled kind_tiled texts_tiled both
set_up_lem = refl

arena_bytes : (k : Kind) → all is_byte (kind_store_of k given).arena ≡ true
unfolding all is_byte both
arena_bytes Node = refl
arena_bytes Way = refl
arena_bytes Relation = refl

given_bytes : InBytes given
given_bytes = record { arenas = arena_bytes; texts = all_nil is_byte }

abbrev begun : Overlay
begun = empty 0 (with_sizes sizes given)

begun_sound : Sound begun
begun_sound = rw (setup_taken sizes 0 given set_up_lem).1 at (setup_sound sizes 0 given set_up_lem)

begun_bytes : InBytes begun
begun_bytes = rw (setup_taken sizes 0 given set_up_lem).1 at (setup_bytes sizes 0 given given_bytes)

-- node 7 at version 3
abbrev head : PushHead
head = record { id = 7; lat = 10; lon = 20; count = 0; tags = 0 }

abbrev meta : ArenaMeta
meta = record { flags = 9; version = 3; timestamp = 0; changeset = 0; uid = 0; user = 0 }

legal_node : push_fault Node head meta [] begun ≡ (Ok tt)
unfolding fault_for pushed_record cut_parts cut_body then_cut times head_in node_head meta_of fault_of legal_handles legal_meta body_handles legal_texts in_range within_limits value_bytes both either all flagged same_id
legal_node = refl

stored_node : (push_stored Node head meta [] begun).answer ≡ (Ok tt)
unfolding pushed known_version lookup held halve answer_at both checked admit_of id_room record_joined append head_in node_head meta_of head_bytes meta_bytes claim_of flagged rank le
stored_node = refl

taken_node : push_on Node head meta [] begun ≡ store_push Node head meta [] begun
taken_node = push_store Node head meta [] begun ((decides begun begun_bytes).1 begun_sound) legal_node

counted_node : (push_stored Node head meta [] begun).kind_store.ids ≡ 1
unfolding pushed known_version lookup held halve answer_at both checked admit_of id_room record_joined append head_in node_head meta_of head_bytes meta_bytes claim_of flagged rank le rowed stored stored_at count_after
counted_node = refl

-- a sound overlay with a node of 49 bytes, which a push has left
pub beyond_empty : (o : Overlay) × ((Sound o) × ((o.nodes.ids ≡ 1) × (o.nodes.used ≡ 49)))
unfolding head_fits meta_fits both head_bytes meta_bytes le
beyond_empty = (
  (push_on Node head meta [] begun).overlay,
  (
    push_sound Node head meta [] begun refl refl (all_nil is_byte) begun_sound,
    (
      ap (λ (z : OverlayAfter). z.overlay.nodes.ids) taken_node ∙ counted_node,
      ap (λ (z : OverlayAfter). z.overlay.nodes.used) taken_node
          ∙ push_used Node 0 begun.nodes (to_z w64 7) (claim_of (meta_of meta)) (bytes_of Node head meta []) stored_node,
    ),
  ),
)
