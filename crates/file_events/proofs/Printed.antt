-- An event whose names are XML's, printed as a tag, is told as that event: in a file it does what its line does.
use Prim.Native.Nat.{ℕ, min}
use mathlib.Core.Path.{◌≡◌, refl, sym, ◌∙◌, ap}
use mathlib.Core.Bool.{Bool, true}
use mathlib.Core.List.{List, ◌++◌, map}
use lib.ListN.{length, take}
use Rattle.base.specs.Bytes.{Bytes, all}
use Rattle.base.proofs.Split.{both_of}
use Rattle.text.specs.Text.{encoded}
use Rattle.event.specs.Event.{Event, starts, line_of, event_of}
use Rattle.markup.specs.Names.{is_name}
use Rattle.markup.specs.Markup.{legal_markup_at, may_stand, written_markup, means_event, meaning_of}
use Rattle.markup.specs.Printed.{CharAttr, encoded_attr, printed_tag}
use Rattle.markup.proofs.Printed.{xml_attr, printed_back}
use Rattle.markup_tags.specs.Meanings.{meaning_kept}
use Rattle.markup_steps.specs.Held.{meant_line}
use Rattle.markup_steps.proofs.Kept.{line_meant}
use Rattle.file_lexer.specs.declared.Before.{Before}
use Rattle.file_lexer.specs.Lexing.{is_first, between}
use Rattle.reader.specs.Event.{EventResult}
use Rattle.file_reader.specs.File.{FileState, at_markup, tag_line, unless_twice, markup_event, start_tag_ends, markup_ended, bytes_onward, file_bytes}
use Rattle.file_events.specs.Passing.{markup_passed}
use Rattle.file_events.proofs.Tags.{tag_judged}
use Rattle.file_events.proofs.Markups.{MarkupTold, markup_told}
use Rattle.file_events.proofs.Files.{event_read}

-- the event that is printed
abbrev pub printed_event : Bool → List ℕ → List CharAttr → Event
printed_event empty n attrs = starts empty (encoded n) (map encoded_attr attrs)

-- bytes were read as a start tag, and its event is the one whose line is given, at the state before them
pub record TagTold (empty : Bool) (e : Event) (s rest : Bytes) (f : FileState) : Type 0 where
  -- the reader at the tag's end
  pub behind : FileState
  pub told : file_bytes (s ++ rest) f ≡ bytes_onward (file_bytes rest) (start_tag_ends empty behind).answer (start_tag_ends empty behind).file
  pub event : markup_event (tag_line empty behind) (at_markup behind) ≡ markup_event (line_of e) f.state

module _ (empty : Bool) (n : List ℕ) (attrs : List CharAttr) (named : is_name n ≡ true) (legal : all xml_attr attrs ≡ true) where
  printed_stands : (first : Bool) → legal_markup_at first (printed_tag empty n attrs) ≡ true
  unfolding may_stand
  printed_stands first = both_of refl (printed_back empty n attrs named legal).0

  printed_behind : (rest : Bytes) (f : FileState) → MarkupTold (printed_tag empty n attrs) rest f
      → TagTold empty (printed_event empty n attrs) (encoded (written_markup (printed_tag empty n attrs))) rest f
  unfolding markup_ended
  printed_behind rest f w =
      let m = printed_tag empty n attrs in
      let d = means_event (printed_event empty n attrs) (encoded n) in
      let e : meaning_of m ≡ d = (printed_back empty n attrs named legal).1 in
      let g : FileState = markup_passed m w.bytes w.used f in
      let x : Bytes = meant_line d in
      let j = tag_judged empty g x w.room (w.used_is ∙ ap (λ k. min 16380 (length (meant_line k))) e) (w.line ∙ ap (λ k. take 16380 (meant_line k)) e) in
      let i = j ∙ sym (ap event_of (line_meant d)) in
      record {
        behind = g;
        told = w.told ∙ ap (λ k. bytes_onward (file_bytes rest) (markup_ended (meaning_kept k) g).answer (markup_ended (meaning_kept k) g).file) e;
        event = ap (λ (r : EventResult). unless_twice r r.answer) (event_read (tag_line empty g) (line_of (printed_event empty n attrs)) f.state i);
      }

  -- an event that is printed does in a file what its line does
  pub printed_told : (rest : Bytes) (before : Before) (f : FileState) → f.place ≡ between before → length f.bytes ≡ 32771
      → TagTold empty (printed_event empty n attrs) (encoded (written_markup (printed_tag empty n attrs))) rest f
  printed_told rest before f p room = printed_behind rest f (markup_told (printed_tag empty n attrs) rest before f p room (printed_stands (is_first before)))
