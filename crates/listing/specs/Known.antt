-- What an overlay knows of a kind and id, in the terms of the accepted acts: what the last act left, its texts as texts, and the known version.
use Rattle.std.specs.Prelude.{ℕ, cond, drop, take, None, Option, Some}
use Rattle.base.specs.Bytes.{Bytes}
use Rattle.kind.specs.declared.Kind.{Kind}
use Rattle.osm_id.specs.Order.{rank}
use Rattle.interner.specs.Texts.{text_of}
use Rattle.interner.specs.Sound.{texts_of}
use Rattle.model.specs.Record.{Record}
use Rattle.model.specs.Act.{Key, Left, gone, live}
use Rattle.model.specs.Swap.{swap_record}
use Rattle.compact.specs.Cut.{Cut, KeptRecord, cut_record}
use Rattle.kind_table.specs.Rows.{find}
use Rattle.kind_table.specs.declared.Row.{Row}
use Rattle.kind_store.specs.KindStore.{KindStore, is_live, known_version}
use Rattle.kind_store.specs.WellFormed.{rows_in}
use Rattle.overlay.specs.Overlay.{Overlay, kind_store_of}
use Rattle.listing_page.specs.Summary.{Known}

-- the record that stands at an offset of a kind store's used bytes
abbrev pub held_in : Option (Cut KeptRecord) → Option (Record ℕ)
held_in None = None
held_in (Some c) = Some c.item.held

unfoldable pub record_in : Kind → KindStore → ℕ → Option (Record ℕ)
record_in k s at = held_in (cut_record k (drop at (take s.used s.arena)))

-- with its texts as texts
abbrev pub live_record : (ℕ → Bytes) → Option (Record ℕ) → Option (Left Bytes)
live_record f None = None
live_record f (Some r) = Some (live (swap_record f r))

abbrev pub last_in : Kind → KindStore → (ℕ → Bytes) → Option Row → Option (Left Bytes)
last_in k s f None = None
last_in k s f (Some r) = cond (is_live r.offset) (live_record f (record_in k s r.offset)) (Some gone)

unfoldable pub known_in : Overlay → Key → Known
known_in o key =
    record {
      last = last_in key.kind (kind_store_of key.kind o) (text_of (texts_of o.texts)) (find (rank key.id) (rows_in (kind_store_of key.kind o)));
      high = known_version key.kind (kind_store_of key.kind o) key.id;
    }
