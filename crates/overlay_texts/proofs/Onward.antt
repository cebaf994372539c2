-- The loop over texts: what is to come from the present text on, after the present overlay, is what all texts come to.
use Rattle.std.specs.Prelude.{Ok, Err}
use Prim.Native.Nat.{ℕ, suc, ◌+◌, ◌≤◌, ◌<◌}
use mathlib.Core.Path.{◌≡◌, sym, ◌∙◌, ap}
use mathlib.Core.List.{List, [], ◌∷◌}
use native.Mathlib.Nat.{zero-add, add-zero}
use native.Mathlib.Omega.{arith}
use lib.ListN.{length, set, length-set, replicate}
use Rattle.base.specs.Bytes.{Bytes}
use Rattle.refusal.specs.declared.Refusal.{Refusal}
use Rattle.little.specs.Little.{over}
use Rattle.little.proofs.Overs.{over_nothing, over_step}
use Rattle.interner.specs.Sound.{texts_of}
use Rattle.interner.specs.Strings.{Store}
use Rattle.text_index.specs.Chained.{HandleChains, StoreChained, ChainsServe}
use Rattle.text_index.proofs.Laws.{chained_fresh}
use Rattle.overlay.specs.Overlay.{Overlay}
use Rattle.overlay_store.specs.Calls.{Interning}
use Rattle.overlay_direct.specs.Calls.{intern_on}
use Rattle.overlay_texts.specs.Calls.{TextsTaken, interns_on, TextsAfter, handles_over}
use Rattle.overlay_texts.specs.Given.{TextsGiven}
use Rattle.overlay_texts.proofs.Answers.{interns_none, interns_more, interns_off}
use Rattle.overlay_texts.proofs.Keeps.{texts_sound, chained_after, given_on}

-- ---- the first chains

-- they hold no handle, so they are chains for the texts of any sound overlay
pub zeros_chained : (c : HandleChains) (ts : List Bytes) (o : Overlay) → c.lasts ≡ replicate 4096 0 → c.handles ≡ 0 → TextsGiven ts o → StoreChained c o.texts
zeros_chained c ts o e z w =
    let k : c ≡ record { lasts = replicate 4096 0; befores = c.befores; handles = 0 } = λ i. record { lasts = e i; befores = c.befores; handles = z i } in
    record { sound = texts_sound o w.sound; chains = rw k (chained_fresh c.befores (texts_of o.texts)) }

-- ---- all texts

-- what texts leave of a list in which so many handles stand already
abbrev after_place : List ℕ → ℕ → TextsTaken → TextsAfter
after_place handles at x = record { overlay = x.overlay; handles = over handles at x.handles; answer = x.answer; taken = at + length x.handles }

-- the texts that are left, after so many that were taken in
pub record TextsOnward (c : HandleChains) (ts : List Bytes) (o₀ : Overlay) (handles₀ : List ℕ) (left : List Bytes) (o : Overlay) (handles : List ℕ) (taken : ℕ) : Type 0 where
  pub given : TextsGiven left o
  pub chained : StoreChained c o.texts
  pub room : taken + length left ≤ length handles
  pub comes : after_place handles taken (interns_on left o) ≡ handles_over handles₀ (interns_on ts o₀)

pub texts_start : (c : HandleChains) (ts : List Bytes) (o : Overlay) (handles : List ℕ) → TextsGiven ts o → StoreChained c o.texts → length ts ≤ length handles → TextsOnward c ts o handles ts o handles 0
texts_start c ts o handles g i l = record { given = g; chained = i; room = omega arith; comes = rw zero-add }

module _ {c : HandleChains} {ts : List Bytes} {o₀ : Overlay} {handles₀ : List ℕ} {left : List Bytes} {o : Overlay} {handles : List ℕ} {taken : ℕ}
    (w : TextsOnward c ts o₀ handles₀ left o handles taken) where
  -- the chains brought up to date, by the overlay as it is read
  pub texts_chained : {d : HandleChains} {s : Overlay} → s ≡ o → (StoreChained c s.texts → StoreChained d s.texts) → StoreChained d o.texts
  texts_chained e f = rw e at f w.chained

  module _ {t : Bytes} {more : List Bytes} (e : left ≡ t ∷ more) where
    pub texts_fit : taken < length handles
    texts_fit = omega (arith, ap length e, w.room)

    -- a text more
    pub texts_go : (d : HandleChains) → StoreChained d o.texts → {p : Overlay} (h : ℕ) → record { overlay = p; answer = Ok h } ≡ intern_on t o
        → TextsOnward d ts o₀ handles₀ more p (set handles taken h) (taken + 1)
    texts_go d i {p} h f =
        let a : (intern_on t o).answer ≡ Ok h = sym (ap (λ (z : Interning). z.answer) f) in
        let q : (intern_on t o).overlay ≡ p = sym (ap (λ (z : Interning). z.overlay) f) in
        let g : TextsGiven (t ∷ more) o = rw e at w.given in
        let n = given_on t more o g in
        let x : TextsTaken = interns_on more (intern_on t o).overlay in
        let k : taken + 1 + length x.handles ≡ taken + suc (length x.handles) = omega arith in
        let s = over_step handles taken h x.handles texts_fit in
        let m = interns_more t more o h a in
        rw (← q) (record {
          given = n;
          chained = chained_after t o d h a n.sound i;
          room = omega (arith, ap length e, w.room, length-set handles taken h);
          comes = (λ i. record { overlay = x.overlay; handles = sym s i; answer = x.answer; taken = k i })
              ∙ (ap (after_place handles taken) (sym m) ∙ (ap (λ (z : List Bytes). after_place handles taken (interns_on z o)) (sym e) ∙ w.comes));
        })

    -- or it is refused
    pub texts_stop : {p : Overlay} (r : Refusal) → record { overlay = p; answer = Err r } ≡ intern_on t o
        → record { overlay = p; handles = handles; answer = Err r; taken = taken } ≡ handles_over handles₀ (interns_on ts o₀)
    texts_stop {p} r f =
        let a : (intern_on t o).answer ≡ Err r = sym (ap (λ (z : Interning). z.answer) f) in
        let m = interns_off t more o r a in
        (λ i. record { overlay = (f i).overlay; handles = sym (over_nothing handles taken) i; answer = Err r; taken = sym (add-zero taken) i })
        ∙ (ap (after_place handles taken) (sym m) ∙ (ap (λ (z : List Bytes). after_place handles taken (interns_on z o)) (sym e) ∙ w.comes))

  -- no text is left
  pub texts_end : left ≡ [] → record { overlay = o; handles = handles; answer = Ok tt; taken = taken } ≡ handles_over handles₀ (interns_on ts o₀)
  texts_end e =
      (λ i. record { overlay = o; handles = sym (over_nothing handles taken) i; answer = Ok tt; taken = sym (add-zero taken) i })
      ∙ (ap (after_place handles taken) (sym (interns_none o)) ∙ (ap (λ (z : List Bytes). after_place handles taken (interns_on z o)) (sym e) ∙ w.comes))

-- and they serve, as they are read
pub served_by : {s : Store} {c d : HandleChains} → d ≡ c → StoreChained c s → ChainsServe d s
served_by e w h = rw e w
