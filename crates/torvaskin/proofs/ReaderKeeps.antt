-- "Nothing lent changes but the reader's own stop mark": a refused event leaves every word but the three of the stop mark as it was, and 22 and a repeated refusal every word.
use Rattle.std.specs.Prelude.{Some}
use Prim.Native.Nat.{ℕ}
use mathlib.Core.Path.{◌≡◌, ◌∙◌, ap}
use mathlib.Core.Bool.{true, false}
use mathlib.Core.List.{List}
use lib.ListN.{length, take}
use Rattle.base.specs.Bytes.{Bytes}
use Rattle.base.proofs.Split.{by_bool}
use Rattle.refusal.specs.declared.Refusal.{Refusal}
use Rattle.refusal.specs.declared.Refusal.TheVariants as R
use Rattle.overlay.specs.Overlay.{Overlay}
use Rattle.reader.specs.State.{State, stops_by, state_sound, refusal_at}
use Rattle.reader.specs.Step.{stops}
use Rattle.reader.specs.Event.{refused_at, stepped, event_on}
use Rattle.reader.proofs.Answers.{event_22, event_stopped, by_event}
use Rattle.c_reader.specs.Words.{reader_in, is_reader, reader_of_words}
use Rattle.c_reader.proofs.Words.{stopped_words, words_back}
use Rattle.torvaskin.specs.Readers.{EventReplied, replied_event, event_reply}

-- what a refused event leaves: everything but the words of the stop mark
pub record KeepsAll (o : Overlay) (w : List ℕ) (parts : Bytes) (x : EventReplied) : Type 0 where
  pub overlay : x.overlay ≡ o
  pub parts_are : x.parts ≡ parts
  pub words : take 16 x.words ≡ take 16 w

module _ (line : Bytes) (o : Overlay) (w : List ℕ) (parts : Bytes) (l : length w ≡ 19) where
  abbrev read : State
  read = record { overlay = o; reader = reader_in w; parts = parts }

  by_reader : is_reader w ≡ true → event_reply line o w parts ≡ replied_event (event_on line read)
  unfolding event_reply reader_of_words
  by_reader i = rw i

  -- nothing changes at all
  same : is_reader w ≡ true → (r : Refusal) (n : ℕ) → event_on line read ≡ refused_at read r n
      → ((event_reply line o w parts).words ≡ w) × KeepsAll o w parts (event_reply line o w parts)
  same i r n e =
      let f = by_reader i ∙ ap replied_event e in
      let b = ap (λ (x : EventReplied). x.words) f ∙ words_back w l i in
      (b, record { overlay = ap (λ (x : EventReplied). x.overlay) f; parts_are = ap (λ (x : EventReplied). x.parts) f; words = ap (take 16) b })

  none : is_reader w ≡ false → ((event_reply line o w parts).words ≡ w) × KeepsAll o w parts (event_reply line o w parts)
  unfolding event_reply reader_of_words
  none i = (rw i, record { overlay = rw i; parts_are = rw i; words = rw i })

  -- 22
  pub unsound_keeps : state_sound read ≡ false → (event_reply line o w parts).words ≡ w
  unsound_keeps u = by_bool (is_reader w) (λ i. (same i R.Unsound 0 (event_22 line read u)).0) (λ i. (none i).0)

  -- a repeated refusal
  pub repeat_keeps : state_sound read ≡ true → (r : Refusal) (n : ℕ) → read.reader.stop ≡ Some (refusal_at r n) → stops_by r ≡ true → (event_reply line o w parts).words ≡ w
  repeat_keeps u r n m t = by_bool (is_reader w) (λ i. (same i r n (event_stopped line read r n u m t)).0) (λ i. (none i).0)

  -- each refusal
  pub refused_keeps : ((event_reply line o w parts).reply.number ≡ 0 → ⊥) → KeepsAll o w parts (event_reply line o w parts)
  refused_keeps d =
      by_bool (is_reader w)
      (λ i. by_event line read (λ u e. (same i R.Unsound 0 e).1) (λ r n u m t e. (same i r n e).1) (λ r u g q e. stopped i r e)
      (λ a u g q e. absurd (d (ap (λ (x : EventReplied). x.reply.number) (by_reader i ∙ ap replied_event e)))))
      (λ i. (none i).1)
    where
      stopped : is_reader w ≡ true → (r : Refusal) → event_on line read ≡ stepped read (stops r) → KeepsAll o w parts (event_reply line o w parts)
      stopped i r e =
          let f = by_reader i ∙ ap replied_event e in
          record {
            overlay = ap (λ (x : EventReplied). x.overlay) f;
            parts_are = ap (λ (x : EventReplied). x.parts) f;
            words = ap (λ (x : EventReplied). take 16 x.words) f ∙ stopped_words (reader_in w) r _ ∙ ap (take 16) (words_back w l i);
          }
