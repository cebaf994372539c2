-- What a reader in storage stands for among the acts' definitions: its place, and the element that it is putting together with its texts as texts.
use Rattle.std.specs.Prelude.{ℕ, List, None, Option, Some}
use Rattle.std.specs.Int.{w64}
use Rattle.std.proofs.Common.{to_z}
use Rattle.base.specs.Bytes.{Bytes}
use Rattle.kind.specs.declared.Kind.{Kind}
use Rattle.interner.specs.Texts.{text_of}
use Rattle.interner.specs.Sound.{texts_of}
use Rattle.model.specs.Record.{Record}
use Rattle.model.specs.Swap.{swap_record}
use Rattle.acts.specs.Turn.{Staged, no_element, Reader}
use Rattle.reader.specs.declared.Pending.{Pending}
use Rattle.reader.specs.State.{State, pending_record}

abbrev pub staged_as : (ℕ → Bytes) → Kind → ℕ → Option (Record ℕ) → Staged
staged_as f k id None = no_element k
staged_as f k id (Some r) = record { id = to_z w64 id; held = swap_record f r }

unfoldable pub staged_of : List Bytes → Kind → Bytes → Pending → Staged
staged_of held k parts x = staged_as (text_of held) k x.head.id (pending_record k parts x)

unfoldable pub reader_of : State → Reader
reader_of s =
    record {
      place = s.reader.place;
      staged = staged_of (texts_of s.overlay.texts) s.reader.place.kind s.parts s.reader.pending;
    }
