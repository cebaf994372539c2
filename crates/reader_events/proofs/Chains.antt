-- The chains of handles over a run: an event's texts are those before it and perhaps one more, so chains for the texts before it are chains for those after it.
use Rattle.std.specs.Result.{is_err}
use Prim.Native.Nat.{ℕ, ◌+◌}
use mathlib.Core.Path.{◌≡◌, sym, ◌∙◌, ap}
use mathlib.Core.Bool.{false}
use mathlib.Core.List.{List, [], ◌∷◌, ◌++◌, append-nil}
use lib.ListN.{length, replicate}
use Rattle.base.specs.Bytes.{Bytes}
use Rattle.interner.specs.Strings.{Store}
use Rattle.interner.specs.Sound.{texts_of}
use Rattle.interner.proofs.Held.{grown_all}
use Rattle.text_index.specs.Chained.{HandleChains, StoreChained, ChainsServe}
use Rattle.text_index.proofs.Laws.{chained_fresh, chained_more}
use Rattle.overlay.specs.Overlay.{Overlay}
use Rattle.reader.specs.State.{State}
use Rattle.reader.specs.Given.{StateGiven}
use Rattle.reader.specs.Event.{EventResult, event_on}
use Rattle.reader.proofs.Answers.{by_answer}
use Rattle.reader.proofs.Events.{event_accepted, by_refused}
use Rattle.reader_calls.proofs.Events.{texts_sound}
use Rattle.reader_events.specs.Runs.{RunGiven}
use Rattle.reader_events.proofs.Runs.{Running, given_on, run_start, line_on}

-- ---- the first chains

-- they hold no handle, so they are chains for the texts of any sound state
pub zeros_given : (c : HandleChains) (s : State) → c.lasts ≡ replicate 4096 0 → c.handles ≡ 0 → RunGiven s → StoreChained c s.overlay.texts
zeros_given c s e z w =
    let k : c ≡ record { lasts = replicate 4096 0; befores = c.befores; handles = 0 } = λ i. record { lasts = e i; befores = c.befores; handles = z i } in
    record { sound = texts_sound s.overlay w.overlay; chains = rw k (chained_fresh c.befores (texts_of s.overlay.texts)) }

-- ---- an event

module _ (line : Bytes) (s : State) where
  -- its texts: those before it, and what is taken in
  pub event_texts : StateGiven s → (more : List Bytes) × (texts_of (event_on line s).state.overlay.texts ≡ texts_of s.overlay.texts ++ more)
  event_texts g =
      by_answer (event_on line s).answer
      (λ a.
      let x = event_accepted line s g a in
      let m = grown_all (texts_of s.overlay.texts) x.comes.texts in
      (m.0, x.texts ∙ m.1))
      (λ r n a.
      by_refused line s r n a
      (λ u k j w. ([], ap (λ (z : State). texts_of z.overlay.texts) w ∙ sym (append-nil (texts_of s.overlay.texts))))
      (λ u t w. ([], ap (λ (z : State). texts_of z.overlay.texts) w ∙ sym (append-nil (texts_of s.overlay.texts)))))

  pub event_chained : (c : HandleChains) → RunGiven s → StoreChained c s.overlay.texts → StoreChained c (event_on line s).state.overlay.texts
  event_chained c w i =
      let t = event_texts w.bounds in
      record {
        sound = texts_sound (event_on line s).state.overlay (given_on s line w).overlay;
        chains = rw t.1 (chained_more c (texts_of s.overlay.texts) t.0 i.chains);
      }

-- ---- all lines

-- the lines that are left, and chains for the texts before them
pub record RunningBy (c : HandleChains) (ls : List Bytes) (s₀ : State) (left : List Bytes) (taken : ℕ) (s : State) : Type 0 where
  pub running : Running ls s₀ left taken s
  pub chained : StoreChained c s.overlay.texts

pub by_start : (c : HandleChains) (ls : List Bytes) (s : State) → RunGiven s → StoreChained c s.overlay.texts → RunningBy c ls s ls 0 s
by_start c ls s g i = record { running = run_start ls s g; chained = i }

-- a line more, by the chains that are brought up to date before it
pub by_line : {ls : List Bytes} {s₀ : State} {left : List Bytes} {taken : ℕ} {s : State} → Running ls s₀ left taken s → (c : HandleChains) → StoreChained c s.overlay.texts
    → {l : Bytes} {more : List Bytes} → left ≡ l ∷ more → (x : EventResult) → x ≡ event_on l s → is_err x.answer ≡ false → RunningBy c ls s₀ more (taken + length l) x.state
by_line {s = s} w c i {l} e x f k = record { running = line_on w e x f k; chained = rw f (event_chained l s c w.given i) }

-- the chains brought up to date, by the overlay as it is read
pub chained_by : {s t : Overlay} {c d : HandleChains} → t ≡ s → (StoreChained c t.texts → StoreChained d t.texts) → StoreChained c s.texts → StoreChained d s.texts
chained_by e f = rw e at f

-- and they serve, as they are read
pub served_by : {s : Store} {c d : HandleChains} → d ≡ c → StoreChained c s → ChainsServe d s
served_by e w h = rw e w
