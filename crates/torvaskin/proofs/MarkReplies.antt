-- Words whose stop mark has a number that no event leaves are answered 22 by event, run and end, and nothing changes.
use Prim.Native.Nat.{ℕ}
use mathlib.Core.Path.{◌≡◌}
use mathlib.Core.Bool.{false}
use mathlib.Core.List.{List}
use Rattle.base.specs.Bytes.{Bytes}
use Rattle.refusal.specs.Refusal.{number_of}
use Rattle.refusal.specs.declared.Refusal.{Refusal}
use Rattle.overlay.specs.Overlay.{Overlay}
use Rattle.reader.specs.State.{stops_by}
use Rattle.c_reader.specs.Words.{word_at}
use Rattle.c_reader.proofs.Words.{number_left}
use Rattle.c_replies.specs.Readers.{no_reader, taken_reply}
use Rattle.torvaskin.specs.Readers.{event_reply, events_reply, end_reply}

module _ (o : Overlay) (w : List ℕ) (parts : Bytes) (other : word_at w 16 ≡ 0 → ⊥) (none : (r : Refusal) → number_of r ≡ word_at w 16 → stops_by r ≡ false) where
  pub mark_event : (line : Bytes) → event_reply line o w parts ≡ record { overlay = o; words = w; parts = parts; reply = no_reader }
  unfolding event_reply
  mark_event line = rw (number_left w other none)

  pub mark_events : (run : Bytes) → events_reply run o w parts ≡ record { overlay = o; words = w; parts = parts; reply = taken_reply no_reader 0 }
  unfolding events_reply
  mark_events run = rw (number_left w other none)

  pub mark_end : end_reply o w parts ≡ no_reader
  unfolding end_reply
  mark_end = rw (number_left w other none)
