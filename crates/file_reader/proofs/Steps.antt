-- The steps of a markup at its end, as the code takes them.
use Rattle.reader.specs.declared.RefusedAt.{RefusedAt}
use Rattle.std.specs.Prelude.{Ok, Err, Result}
use Prim.Native.Nat.{ℕ, ◌+◌, ◌<◌, ◌≤◌, min}
use mathlib.Core.Path.{◌≡◌, refl, sym, ◌∙◌, ap}
use mathlib.Core.Bool.{Bool, true, false}
use mathlib.Core.List.{[], ◌∷◌, ◌++◌}
use native.Mathlib.Omega.{arith}
use borrow.Author.Tests.{lt-ltb, le-ltb}
use lib.ListN.{length, take, drop, length-drop}
use Rattle.std.proofs.lemmas.List.{take_all, take_min}
use Rattle.base.specs.Bytes.{Bytes}
use Rattle.base.specs.Chars.{horizontal_tab, line_feed}
use Rattle.base.proofs.Split.{by_bool, by_le}
use Rattle.little.specs.Little.{over}
use Rattle.little.proofs.Overs.{length_over, over_past, take_over, drop_over, rest_over}
use Rattle.refusal.specs.declared.Refusal.{Refusal}
use Rattle.refusal.specs.declared.Refusal.TheVariants as R
use Rattle.nesting.specs.declared.Level.{Level}
use Rattle.nesting.specs.declared.Place.{Place}
use Rattle.markup_steps.specs.declared.Ended.{Ended}
use Rattle.markup_steps.specs.declared.Ended.TheVariants as E
use Rattle.markup_steps.specs.Held.{ended_meaning}
use Rattle.file_lexer.specs.declared.Lexer.{Lexer}
use Rattle.event.specs.Event.{start_word}
use Rattle.reader.specs.State.{State, refusal_at, state_sound}
use Rattle.reader.specs.Event.{EventResult, refused_at, stopped_at}
use Rattle.reader_events.specs.Runs.{RunGiven}
use Rattle.reader_events.proofs.Runs.{counts_sound}
use Rattle.file_reader.specs.File.{FileState, FileResult, at_markup, keeps_name, open_name, open_at, is_open, kept_line, line_start, line_written, tag_line, before_tab, markup_event, markup_refused, behind_markup, named_behind, started, start_tag_ends, closed_behind, end_tag_ends, skipped, markup_ended, markup_malformed}
use Rattle.file_reader.specs.Tags.{written_in, line_in, name_in, named_room, named_length, room_behind, named_behind_tag, named_behind_close, close_event}

-- ---- a markup that is refused

module _ (r : Refusal) (s : State) (g : RunGiven s) where
  pub refused_stops : s.reader.lines < 18446744073709551615
      → ◌≡◌ {A = EventResult}
      (record { state = record { overlay = s.overlay; reader = stopped_at s.reader r (s.reader.lines + 1); parts = s.parts }; answer = Err (refusal_at r (s.reader.lines + 1)) })
      (markup_refused r s)
  refused_stops h = let e : state_sound s ≡ true = sym (counts_sound s g) ∙ lt-ltb _ _ h in rw e

  pub refused_22 : 18446744073709551615 ≤ s.reader.lines → refused_at s R.Unsound 0 ≡ markup_refused r s
  refused_22 h = let e : state_sound s ≡ false = sym (counts_sound s g) ∙ le-ltb _ _ h in rw e

-- an answer of it is a refusal
pub by_refused_markup : {C : Type 0} (r : Refusal) (s : State) → ((a : RefusedAt) → (markup_refused r s).answer ≡ Err a → C) → C
by_refused_markup r s f = by_bool (state_sound s) (λ u. f (refusal_at r (s.reader.lines + 1)) (rw u)) (λ u. f (refusal_at R.Unsound 0) (rw u))

-- bytes that are no markup
pub malformed_by : (f : FileState) (r : EventResult) → r ≡ markup_refused R.NotMarkup (at_markup f) → behind_markup f r f.bytes f.named ≡ markup_malformed f
unfolding markup_malformed
malformed_by f r e = ap (λ (z : EventResult). behind_markup f z f.bytes f.named) e

-- ---- the line of a tag, in its room

module _ (f : FileState) (room : length f.bytes ≡ 32771) (empty : Bool) where
  abbrev pub count : ℕ
  count = min f.used 32765

  abbrev worded : Bytes
  worded = over f.bytes (line_start empty) (start_word empty ++ (horizontal_tab ∷ []))

  worded_long : length worded ≡ 32771
  worded_long = length_over f.bytes (line_start empty) (start_word empty ++ (horizontal_tab ∷ [])) ∙ room

  pub written_same : written_in empty count f.bytes ≡ line_written empty f
  written_same =
      by_le f.used 32765
      (λ h. let e : min f.used 32765 ≡ f.used = omega arith in rw e)
      (λ h. over_past worded (6 + count) (line_feed ∷ []) (omega (arith, worded_long)) ∙ sym (over_past worded (6 + f.used) (line_feed ∷ []) (omega (arith, worded_long))))

  written_long : length (line_written empty f) ≡ 32771
  written_long = length_over worded (6 + f.used) (line_feed ∷ []) ∙ worded_long

  pub line_same : line_in empty count (written_in empty count f.bytes) ≡ tag_line empty f
  line_same =
      rw written_same
      (ap (drop (line_start empty))
      (by_le f.used 32765
      (λ h. let e : min f.used 32765 ≡ f.used = omega arith in rw e)
      (λ h. take_all (7 + count) (line_written empty f) (omega (arith, written_long)) ∙ sym (take_all (7 + f.used) (line_written empty f) (omega (arith, written_long))))))

  word_before : (t : Bool) → drop 6 (over f.bytes (line_start t) (start_word t ++ (horizontal_tab ∷ []))) ≡ drop 6 f.bytes
  word_before true = drop_over 6 f.bytes 0 (start_word true ++ (horizontal_tab ∷ [])) (omega arith)
  word_before false = drop_over 6 f.bytes 1 (start_word false ++ (horizontal_tab ∷ [])) (omega arith)

  pub name_same : name_in count (written_in empty count f.bytes) ≡ before_tab (kept_line f)
  name_same =
      let a : drop 6 (written_in empty count f.bytes) ≡ over (drop 6 worded) count (line_feed ∷ []) = rest_over worded 6 count (line_feed ∷ []) in
      let b : take count (over (drop 6 worded) count (line_feed ∷ [])) ≡ take count (drop 6 worded) = take_over count (drop 6 worded) count (line_feed ∷ []) (omega arith) in
      let l : min f.used (length (drop 6 f.bytes)) ≡ count = omega (arith, length-drop 6 f.bytes, room) in
      let d : take count (drop 6 f.bytes) ≡ kept_line f = rw l at (take_min f.used (drop 6 f.bytes)) in
      ap before_tab (ap (take count) a ∙ (b ∙ (ap (take count) (word_before empty) ∙ d)))

  -- ---- a start tag

  abbrev written : Bytes
  written = written_in empty count f.bytes

  module _ (r : EventResult) where
    named_by : (t : Bool) → behind_markup f r (named_room t count written) (named_length t count written) ≡ named_behind f (line_written empty f) r t
    named_by false = λ i. behind_markup f r (written_same i) 0
    named_by true = λ i. behind_markup f r (over (written_same i) 16387 (name_same i)) (length (name_same i))

    started_by : (x : Result Unit RefusedAt)
        → behind_markup f r (room_behind x r.state.reader.place.level count written) (named_behind_tag x r.state.reader.place.level f.named count written) ≡ started f (line_written empty f) r x
    started_by (Ok tt) = named_by (keeps_name r.state.reader.place.level)
    started_by (Err a) = λ i. behind_markup f r (written_same i) f.named

    pub start_tag_by : r ≡ markup_event (line_in empty count written) (at_markup f)
        → behind_markup f r (room_behind r.answer r.state.reader.place.level count written) (named_behind_tag r.answer r.state.reader.place.level f.named count written)
        ≡ start_tag_ends empty f
    unfolding start_tag_ends
    start_tag_by e =
        let k : r ≡ markup_event (tag_line empty f) (at_markup f) = e ∙ ap (λ (l : Bytes). markup_event l (at_markup f)) line_same in
        started_by r.answer ∙ ap (λ (z : EventResult). started f (line_written empty f) z z.answer) k

    -- the same by the count as the code has it
    pub start_tag_from : {n : ℕ} → n ≡ count → r ≡ markup_event (line_in empty n (written_in empty n f.bytes)) (at_markup f)
        → {b : Bytes} → b ≡ room_behind r.answer r.state.reader.place.level n (written_in empty n f.bytes)
        → {m : ℕ} → m ≡ named_behind_tag r.answer r.state.reader.place.level f.named n (written_in empty n f.bytes)
        → behind_markup f r b m ≡ start_tag_ends empty f
    start_tag_from u e x y =
        let l : Level = r.state.reader.place.level in
        let p = x ∙ ap (λ (k : ℕ). room_behind r.answer l k (written_in empty k f.bytes)) u in
        let q = y ∙ ap (λ (k : ℕ). named_behind_tag r.answer l f.named k (written_in empty k f.bytes)) u in
        (λ i. behind_markup f r (p i) (q i)) ∙ start_tag_by (e ∙ ap (λ (k : ℕ). markup_event (line_in empty k (written_in empty k f.bytes)) (at_markup f)) u)

-- ---- an end tag

module _ (f : FileState) (r : EventResult) where
  closed_by : (x : Result Unit RefusedAt) → behind_markup f r f.bytes (named_behind_close x f.named) ≡ closed_behind f r x
  closed_by (Ok tt) = refl
  closed_by (Err a) = refl

  pub end_tag_by : (matched : Bool) → matched ≡ is_open (kept_line f) (open_name f) → r ≡ close_event matched (at_markup f)
      → behind_markup f r f.bytes (named_behind_close r.answer f.named) ≡ end_tag_ends f
  unfolding end_tag_ends
  end_tag_by true o e = rw (← o) (closed_by r.answer ∙ ap (λ (z : EventResult). closed_behind f z z.answer) e)
  end_tag_by false o e =
      by_refused_markup R.UnmatchedEndTag (at_markup f)
      (λ a w. let x : r.answer ≡ Err a = ap (λ (z : EventResult). z.answer) e ∙ w in
      rw (← o) (ap (λ (y : Result Unit RefusedAt). behind_markup f r f.bytes (named_behind_close y f.named)) x ∙ ap (λ (z : EventResult). behind_markup f z f.bytes f.named) e))

-- the same, with the name as it is seen
pub name_seen : (f : FileState) {p : Place} {b : Bytes} (l : Lexer) {n : ℕ} → p ≡ f.state.reader.place → b ≡ f.bytes → l.used ≡ f.used → n ≡ f.named
    → is_open (take l.used (drop 6 b)) (open_at p.level p (take n (drop 16387 b))) ≡ is_open (kept_line f) (open_name f)
unfolding open_name
name_seen f l e x u y = λ i. is_open (take (u i) (drop 6 (x i))) (open_at (e i).level (e i) (take (y i) (drop 16387 (x i))))

-- ---- by what a markup was

module _ (f : FileState) {x : FileResult} {ended : Ended} where
  pub meant_start : {empty : Bool} → ended ≡ E.StartTag empty → x ≡ start_tag_ends empty f → x ≡ markup_ended (ended_meaning ended) f
  unfolding markup_ended
  meant_start e h = rw e h

  pub meant_end : ended ≡ E.EndTag → x ≡ end_tag_ends f → x ≡ markup_ended (ended_meaning ended) f
  unfolding markup_ended
  meant_end e h = rw e h

  pub meant_none : ended ≡ E.Skipped → x ≡ skipped f → x ≡ markup_ended (ended_meaning ended) f
  unfolding markup_ended
  meant_none e h = rw e h
