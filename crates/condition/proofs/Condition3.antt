-- Condition 3: the page's theorem on acts, at what the listing call answers after any two lists of calls that refuse regression throughout; and the refusals of 12 after any such list.
use Rattle.std.specs.Prelude.{Ok}
use Prim.Native.Nat.{ℕ, ◌≤◌}
use mathlib.Core.Path.{◌≡◌, sym, ◌∙◌, ap}
use mathlib.Core.Bool.{true}
use mathlib.Core.List.{List, ◌++◌}
use lib.ListN.{length, drop}
use lib.Seq.{take-append_seam, drop-append_seam}
use Rattle.base.specs.Bytes.{Bytes, all}
use Rattle.little.specs.Little.{is_byte}
use Rattle.kind.specs.declared.Kind.TheVariants.{Node, Way, Relation}
use Rattle.interner.proofs.Interns as Interns
use Rattle.kind_store.specs.KindStore.{taken_in}
use Rattle.overlay_blocks.specs.declared.Sizes.{Sizes}
use Rattle.overlay.specs.Overlay.{Overlay, kind_store_of, with_sizes}
use Rattle.overlay.specs.Given.{InBytes}
use Rattle.overlay.specs.Calls.{set_up}
use Rattle.overlay.proofs.Answers.{setup_taken}
use Rattle.listing_page.proofs.Theorem.{same_page}
use Rattle.listing.specs.Call.{Output}
use Rattle.listing.proofs.First.{list_acts}
use Rattle.listing_page.specs.Summary.{summary}
use Rattle.listing_page.specs.Listing.{listing}
use Rattle.calls.specs.Ask.{Ask, PartsGiven, started, ask_fits, refusing}
use Rattle.calls.proofs.Reflects.{ids_reflect}
use Rattle.calls.proofs.Theorems.{reflects_after, texts_held, page_known, regression_push, regression_delete, regression_event}
use Rattle.condition.specs.Condition3.{Start, storage_left, world_left, accepted_acts, listed_after, page_length, PageListed, RegressionRefused, Condition3}

-- Whatever is lent: where set-up takes the sizes that it is given, what is lent with these sizes is such a start, and set-up leaves what the lists begin with.
pub taken_start : (z : Sizes) (setting : ℕ) (o : Overlay) (ps : ℕ → Bytes) → taken_in (set_up z setting o).answer ≡ true → InBytes o → PartsGiven ps
    → Start (with_sizes z o) ps × ((set_up z setting o).overlay ≡ (started setting (with_sizes z o) ps).overlay)
taken_start z setting o ps taken lent parts =
    let t = setup_taken z setting o taken in
    let b : InBytes (with_sizes z o) = record { arenas = λ k. elim k as (λ k. all is_byte (kind_store_of k (with_sizes z o)).arena ≡ true) [ Node ↦ lent.arenas Node | Way ↦ lent.arenas Way | Relation ↦ lent.arenas Relation ]; texts = lent.texts } in
    (record { sizes = t.0; bytes = b; parts = parts }, t.1)

module _ (o : Overlay) (ps : ℕ → Bytes) (cs : List Ask) (start : Start o ps) (given : all ask_fits cs ≡ true) (refuses : all refusing cs ≡ true) where
  -- an output that is long enough gets the page of the accepted acts
  pub listed_after_lem : (out : Bytes) → page_length o ps cs ≤ length out
      → listed_after o ps cs out ≡ record { out = listing (summary (accepted_acts o ps cs)) ++ drop (page_length o ps cs) out; answer = Ok (page_length o ps cs) }
  listed_after_lem out h =
      let w = reflects_after 0 o start.sizes start.bytes ps start.parts cs given in
      list_acts out (storage_left o ps cs).overlay w.bytes w.sound w.ranks (accepted_acts o ps cs) (page_known o start.sizes start.bytes ps start.parts cs given refuses) (ids_reflect _ _ _ _ w) h

  pub page_after : (out : Bytes) → page_length o ps cs ≤ length out → PageListed o ps cs out
  page_after out h =
      let e = listed_after_lem out h in
      record {
        answer = ap (λ (z : Output). z.answer) e;
        page = rw e (take-append_seam (listing (summary (accepted_acts o ps cs))) _);
        rest = rw e (drop-append_seam (listing (summary (accepted_acts o ps cs))) _);
      }

  -- as many texts are held as were taken in
  strings_after : length (world_left o ps cs).texts ≡ (storage_left o ps cs).overlay.texts.strings
  strings_after = ap length (sym (texts_held 0 o start.sizes start.bytes ps start.parts cs given)) ∙ Interns.length_texts (storage_left o ps cs).overlay.texts

  pub regression_after : RegressionRefused o ps cs
  regression_after =
      record {
        push = λ k h m bytes f l v. regression_push o start.sizes start.bytes ps start.parts cs given refuses k h m bytes f (rw (← strings_after) l) v;
        delete = λ k id m f l v. regression_delete o start.sizes start.bytes ps start.parts cs given refuses k id m f (rw (← strings_after) l) v;
        event = λ n line t a below never h k v. regression_event o start.sizes start.bytes ps start.parts cs given refuses n line t a never below h k v;
      }

-- Condition 3. No bound on the lists, none on the readers that they name; the lengths that outputs need are of the acts.
pub condition_3 : (o : Overlay) (ps : ℕ → Bytes) → Start o ps → (p : Overlay) (qs : ℕ → Bytes) → Start p qs
    → (cs ds : List Ask) → all ask_fits cs ≡ true → all ask_fits ds ≡ true → all refusing cs ≡ true → all refusing ds ≡ true → Condition3 o ps cs p qs ds
condition_3 o ps s p qs t cs ds f g j k =
    record {
      pages = λ out1 out2 h i.
          let a = page_after o ps cs s f j out1 h in
          let b = page_after p qs ds t g k out2 i in
          record { one = a; two = b; same = rw (a.page, b.page) (same_page (accepted_acts o ps cs) (accepted_acts p qs ds)) };
      regression = regression_after o ps cs s f j;
    }
