-- What the program lends is set up and sound, and stays so while bytes come: 22 cannot occur below 2^64 - 1 line feeds.
use Rattle.reader.specs.declared.RefusedAt.{RefusedAt}
use Rattle.std.specs.Prelude.{Err, Option, None, Some}
use Prim.Native.Nat.{ℕ, zero, suc, ◌-◌, ◌<◌}
use mathlib.Core.Path.{◌≡◌, refl, sym, ◌∙◌, ap}
use mathlib.Core.Bool.{true}
use mathlib.Core.List.{List}
use native.Mathlib.Omega.{arith}
use borrow.Author.Tests.{le-leb}
use lib.ListN.{length, drop, replicate, length-replicate}
use Rattle.base.specs.Bytes.{Bytes, both, all}
use Rattle.base.proofs.Split.{by_bool, both_of, clash, no}
use Rattle.refusal.specs.declared.Refusal.TheVariants as R
use Rattle.kind.specs.declared.Kind.{Kind}
use Rattle.little.specs.Little.{is_byte}
use Rattle.little.proofs.Littles.{bytes_take, bytes_drop}
use Rattle.kind_store.specs.KindStore.{taken_in}
use Rattle.overlay_blocks.specs.declared.KindPart.{KindPart}
use Rattle.overlay_blocks.specs.Blocks.{part_in, text_part_in}
use Rattle.overlay.specs.Overlay.{Overlay, kind_store_of}
use Rattle.overlay.specs.Lent.{overlay_for}
use Rattle.overlay.specs.Calls.{OverlayAfter, set_up}
use Rattle.overlay.specs.Given.{InBytes}
use Rattle.overlay.proofs.Decides.{decides}
use Rattle.overlay.proofs.Answers.{by_set_up}
use Rattle.overlay.proofs.Puts.{kind_store_for}
use Rattle.overlay.proofs.Keeps.{setup_sound, setup_bytes}
use Rattle.reader.specs.State.{stops_by, refusal_at}
use Rattle.reader.proofs.Acts.{Fine}
use Rattle.reader.proofs.Answers.{by_level, same_refusal}
use Rattle.reader.proofs.Events.{unsound_stops_not}
use Rattle.reader.proofs.Keeps.{ready_sound, fresh_ready}
use Rattle.reader.specs.Event.{EventResult}
use Rattle.reader_events.specs.Runs.{RunGiven}
use Rattle.reader_events.proofs.Runs.{given_of}
use Rattle.file_lexer.specs.Lexing.{Where, between, within}
use Rattle.file_reader.specs.File.{FileState, file_bytes}
use Rattle.file_reader.specs.Calls.{file_sound, unless_file_stopped, ends_at, file_end_on}
use Rattle.file_page.specs.Roadfile.{program_sizes, program_lends, start_on, program_start, line_feeds}
use Rattle.file_page.proofs.Ends.{program_fits}
use Rattle.file_page.proofs.Kept.{Kept, KeptState, no_name, kept_more, file_bytes_kept}

-- ---- the start

zeros_bytes : (n : ℕ) → all is_byte (replicate n 0) ≡ true
unfolding all is_byte both
zeros_bytes zero = refl
zeros_bytes (suc n) = zeros_bytes n

-- of any words and bytes of these lengths
module _ (words : List ℕ) (bytes : Bytes) (counters : List ℕ) (w : length words ≡ 45056) (b : length bytes ≡ 3211264) (z : all is_byte bytes ≡ true) where
  abbrev lends : Overlay
  lends = overlay_for program_sizes words bytes counters

  lends_bytes : InBytes lends
  lends_bytes = record { arenas = each; texts = bytes_drop (text_part_in program_sizes (length words) (length bytes)).bytes bytes z }
    where
      part : Kind → KindPart
      part k = part_in k program_sizes (length words) (length bytes)

      each : (k : Kind) → all is_byte (kind_store_of k lends).arena ≡ true
      each k =
          rw (kind_store_for k program_sizes words bytes counters)
          (bytes_take ((part k).end - (part k).first) (drop (part k).first bytes) (bytes_drop (part k).first bytes z))

  lends_taken : taken_in (set_up program_sizes 0 lends).answer ≡ true
  lends_taken = by_set_up program_sizes 0 lends (λ s e. clash (program_fits words bytes counters w b) s) (λ s e. ap (λ (y : OverlayAfter). taken_in y.answer) e)

  set_up_fine : Fine (set_up program_sizes 0 lends).overlay
  set_up_fine =
      let i = setup_bytes program_sizes 0 lends lends_bytes in
      record { sound = (decides (set_up program_sizes 0 lends).overlay i).1 (setup_sound program_sizes 0 lends lends_taken); bytes = i }

start_fine : Fine program_start.state.overlay
unfolding program_start start_on program_lends
start_fine =
    set_up_fine (replicate 45056 0) (replicate 3211264 0) (replicate 17 0) (length-replicate {A = ℕ} 45056 0) (length-replicate {A = ℕ} 3211264 0) (zeros_bytes 3211264)

start_state : KeptState program_start.state
unfolding program_start start_on
start_state =
    let r = replicate 44432 0 in
    record { fine = start_fine; ready = fresh_ready (set_up program_sizes 0 program_lends).overlay start_fine.sound r (zeros_bytes 44432) (length-replicate {A = ℕ} 44432 0) }

pub start_kept : Kept 0 program_start
unfolding program_start start_on both
start_kept = record { state = start_state; place = refl; name = no_name program_start.state.reader.place; counted = omega arith }

-- ---- the end of a sound reader

module _ (f : FileState) (n : ℕ) where
  place_not_22 : (p : Where) → (ends_at p f).answer ≡ Err (refusal_at R.Unsound n) → ⊥
  place_not_22 (between before) a =
      by_level f.state f.state.reader.place.level
      (λ d x. let z = sym (ap (λ (y : EventResult). y.answer) x) ∙ a in no (cc))
      (λ d x. let k : R.Unfinished ≡ R.Unsound = (same_refusal (sym (ap (λ (y : EventResult). y.answer) x) ∙ a)).0 in no (cc))
  place_not_22 (within s) a = let k : R.NotMarkup ≡ R.Unsound = (same_refusal a).0 in no (cc)

  ends_not_22 : (m : Option RefusedAt) → (unless_file_stopped m f (ends_at f.place f)).answer ≡ Err (refusal_at R.Unsound n) → ⊥
  ends_not_22 None a = place_not_22 f.place a
  ends_not_22 (Some stop) a =
      by_bool (stops_by stop.refusal)
      (λ t. let k : stop.refusal ≡ R.Unsound = (same_refusal (rw t at a)).0 in clash t (ap stops_by k ∙ unsound_stops_not))
      (λ t. place_not_22 f.place (rw t at a))

-- ---- bytes

module _ (file : Bytes) where
  abbrev final : FileState
  final = (file_bytes file program_start).file

  final_kept : Kept (line_feeds file) final
  final_kept = kept_more (omega arith) (file_bytes_kept file 0 program_start start_kept)

  -- so each piece finds what `file_reader::piece_untested` needs, and it tests nothing
  pub after_given : RunGiven final.state
  after_given = given_of final.state final_kept.state.fine final_kept.state.ready

  module _ (short : line_feeds file < 18446744073709551615) where
    pub final_sound : file_sound final ≡ true
    unfolding file_sound
    final_sound =
        let k = final_kept in
        both_of (ready_sound final.state k.state.fine k.state.ready (omega (arith, k.counted, short))) (both_of k.place (both_of (le-leb _ _ k.name.0) k.name.1))

    -- 22 is not the answer of the end, so it is not printed
    pub no_22 : (n : ℕ) → (file_end_on final).answer ≡ Err (refusal_at R.Unsound n) → ⊥
    unfolding file_end_on
    no_22 n a = ends_not_22 final n final.state.reader.stop (rw final_sound at a)
