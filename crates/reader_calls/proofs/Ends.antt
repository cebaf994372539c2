-- Each answer of an end, place by place: 22, the stop mark, then the level.
use Rattle.reader.specs.declared.RefusedAt.{RefusedAt}
use Rattle.std.specs.Prelude.{Ok, Err}
use Prim.Native.Nat.{◌<◌}
use mathlib.Core.Path.{◌≡◌, refl, sym, ◌∙◌}
use mathlib.Core.Bool.{true, false}
use Rattle.base.proofs.Split.{no}
use Rattle.refusal.specs.declared.Refusal.TheVariants as R
use Rattle.nesting.specs.declared.Level.{Level}
use Rattle.nesting.specs.declared.Level.TheVariants as L
use Rattle.reader.specs.State.{State, next_line, state_sound}
use Rattle.reader.specs.Event.{refused_at, end_at, end_on}
use Rattle.reader.specs.Table.{is_done}
use Rattle.reader.proofs.Answers.{end_22, end_stopped, end_going}
use Rattle.reader_sound.specs.Mark.{going_answer}
use Rattle.reader_sound.proofs.Mark.{going_on, by_refused}
use Rattle.reader_sound.proofs.Sound.{sound_lines}

module _ (s : State) where
  done_at : (l : Level) → is_done l ≡ true → record { state = s; answer = Ok tt } ≡ end_at l s
  done_at L.Done e = refl
  done_at L.Doc e = no (cc)
  done_at L.Root e = no (cc)
  done_at L.Section e = no (cc)
  done_at L.Element e = no (cc)
  done_at L.Leaf e = no (cc)
  done_at L.Other e = no (cc)

  unfinished_at : (l : Level) → is_done l ≡ false → refused_at s R.Unfinished (next_line s) ≡ end_at l s
  unfinished_at L.Done e = no (cc)
  unfinished_at L.Doc e = refl
  unfinished_at L.Root e = refl
  unfinished_at L.Section e = refl
  unfinished_at L.Element e = refl
  unfinished_at L.Leaf e = refl
  unfinished_at L.Other e = refl

  pub end_checked : {a : RefusedAt} → going_answer (state_sound s) s.reader.stop ≡ Err a → record { state = s; answer = Err a } ≡ end_on s
  end_checked {a} e =
      by_refused (state_sound s) s.reader.stop a e
      (λ u k. rw k (sym (end_22 s u)))
      (λ u m t. sym (end_stopped s a.refusal a.line u m t))

  module _ (e : going_answer (state_sound s) s.reader.stop ≡ Ok tt) where
    pub end_is_done : is_done s.reader.place.level ≡ true → record { state = s; answer = Ok tt } ≡ end_on s
    end_is_done d = let g = going_on (state_sound s) s.reader.stop e in done_at s.reader.place.level d ∙ sym (end_going s g.0 g.1)

    pub end_unfinished : is_done s.reader.place.level ≡ false → refused_at s R.Unfinished (next_line s) ≡ end_on s
    end_unfinished d = let g = going_on (state_sound s) s.reader.stop e in unfinished_at s.reader.place.level d ∙ sym (end_going s g.0 g.1)

    -- there is a next line
    pub end_counts : s.reader.lines < 18446744073709551615
    end_counts = let g = going_on (state_sound s) s.reader.stop e in sound_lines s g.0
