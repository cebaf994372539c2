-- What holds of everything that a step leaves, part by part: behind 12, behind a text that is taken in, behind the store's answer, behind 16.
use Rattle.std.specs.Prelude.{Err, Ok, Result, ℤ}
use Prim.Native.Nat.{ℕ, ◌<◌}
use mathlib.Core.Path.{◌≡◌, refl, sym, ◌∙◌, ap}
use mathlib.Core.Bool.{Bool, true, false, cond}
use mathlib.Core.List.{List, [], ◌∷◌}
use native.Mathlib.Omega.{arith}
use Rattle.base.specs.Bytes.{Bytes}
use Rattle.base.proofs.Split.{by_bool, clash}
use Rattle.text.specs.Check.{is_text}
use Rattle.refusal.specs.declared.Refusal.{Refusal}
use Rattle.model.specs.Record.{Meta, flagged}
use Rattle.compact.specs.declared.ArenaMeta.{ArenaMeta}
use Rattle.interner.specs.Strings as Strings
use Rattle.interner.specs.Texts.{text_of}
use Rattle.interner.specs.Sound.{texts_of}
use Rattle.interner.specs.Interned.{Interned}
use Rattle.interner.specs.Interned as I
use Rattle.interner.proofs.Interns.{length_texts}
use Rattle.interner.proofs.Held as Texts
use Rattle.overlay.specs.Overlay.{Overlay, with_texts}
use Rattle.overlay.specs.Sound.{is_sound}
use Rattle.overlay.specs.Calls.{OverlayAfter}
use Rattle.overlay_store.specs.Calls.{Interning, handle_in}
use Rattle.overlay_direct.specs.Calls.{intern_on}
use Rattle.overlay.proofs.Answers.{strings_sound}
use Rattle.overlay_direct.proofs.Answers.{intern_store}
use Rattle.overlay_direct.proofs.Keeps.{intern_kept}
use Rattle.event_fields.proofs.Metadata.{Legal}
use Rattle.acts.specs.Turn.{user_text}
use Rattle.reader.specs.Step.{Advanced, Step, goes, stops, unless_below, on_handle, with_text, bits_with_user, taking_user, on_kept, on_after}
use Rattle.reader.proofs.Acts.{TakesIn, no_text, a_text}

-- a step is refused, or P holds of what it leaves
pub data EachStep (P : Advanced → Type 0) : Step → Type 0 where
  stopped : {r : Refusal} → EachStep P (stops r)
  leaves : {l : Advanced} → P l → EachStep P (goes l)

pub each_goes : {P : Advanced → Type 0} {l : Advanced} → EachStep P (goes l) → P l
each_goes (leaves p) = p

-- ---- a text that is taken in, with its handle

pub record TakenAs (o : Overlay) (ts : List Bytes) (q : Overlay) (h : ℕ) (t : Bytes) : Type 0 where
  pub takes : TakesIn o ts q
  pub text : text_of (texts_of q.texts) h ≡ t
  pub held : h < q.texts.strings

-- handle 0 is the empty text
pub empty_text : (o : Overlay) → is_sound o ≡ true → (text_of (texts_of o.texts) 0 ≡ []) × (0 < o.texts.strings)
empty_text o e =
    let x = Texts.holds [] (texts_of o.texts) 0 (Texts.empty_handle (texts_of o.texts) (strings_sound o e).empty) in
    (x.text, omega (arith, x.below, length_texts o.texts))

module _ (o : Overlay) (e : is_sound o ≡ true) where
  took : (t : Bytes) (n : ℕ) → is_text t ≡ true → handle_in (Strings.intern o.texts t).answer ≡ Ok n
      → TakenAs o (t ∷ []) (with_texts (Strings.intern o.texts t).store o) n t
  took t n l a =
      let i : (intern_on t o).answer ≡ Ok n = ap (λ (z : Interning). z.answer) (intern_store t o e l) ∙ a in
      let k = intern_kept t o n i in
      record {
        takes = rw k.left at (a_text t n l i);
        text = k.text;
        held = omega (arith, (Texts.holds t _ n k.place).below, length_texts (Strings.intern o.texts t).store);
      }

  module _ {P : Advanced → Type 0} where
    pub each_text : (t : Bytes) (f : ℕ → Overlay → Step) → is_text t ≡ true → ((h : ℕ) (q : Overlay) → TakenAs o (t ∷ []) q h t → EachStep P (f h q)) → EachStep P (with_text t o f)
    each_text t f l h = go (Strings.intern o.texts t).answer refl
      where
        go : (i : Interned) → (Strings.intern o.texts t).answer ≡ i → EachStep P (on_handle i (λ n. f n (with_texts (Strings.intern o.texts t).store o)))
        go (I.Held n) p = h n _ (took t n l (ap handle_in p))
        go (I.New n) p = h n _ (took t n l (ap handle_in p))
        go I.Full p = stopped

    -- a user, where metadata names one; where it names none the handle is 0
    pub each_user : (m : Meta Bytes) (f : ArenaMeta → Overlay → Step) → Legal m → is_text m.user ≡ true
        → ((h : ℕ) (q : Overlay) → TakenAs o (user_text m) q h m.user → (flagged 4 m.flags ≡ false → h ≡ 0) → EachStep P (f (bits_with_user m h) q)) → EachStep P (taking_user m o f)
    unfolding taking_user
    each_user m f w l h =
        by_bool (flagged 4 m.flags)
        (λ t. rw t (each_text m.user (λ n q. f (bits_with_user m n) q) l (λ n q k. h n q (rw t k) (λ z. clash t z))))
        (λ t. let z = empty_text o e in
        let k : TakenAs o (user_text m) o 0 m.user = rw t (record { takes = no_text; text = z.0 ∙ sym (w.user t); held = z.1 }) in
        rw t (h 0 o k (λ x. refl)))

-- ---- behind the other checks

module _ {P : Advanced → Type 0} where
  pub each_admit : (a : Result Unit ℤ) (x : Step) → EachStep P x → EachStep P (unless_below a x)
  each_admit (Ok tt) x h = h
  each_admit (Err v) x h = stopped

  each_kept : (y : Result Unit Refusal) (x : Step) → (y ≡ (Ok tt) → EachStep P x) → EachStep P (on_kept y x)
  each_kept (Ok tt) x h = h refl
  each_kept (Err r) x h = stopped

  pub each_after : (a : OverlayAfter) (f : Overlay → Step) → (a.answer ≡ (Ok tt) → EachStep P (f a.overlay)) → EachStep P (on_after a f)
  each_after a f h = each_kept a.answer (f a.overlay) h

  pub each_within : (t : Bool) (l : Advanced) (r : Refusal) → (t ≡ true → P l) → EachStep P (cond t (goes l) (stops r))
  each_within true l r h = leaves (h refl)
  each_within false l r h = stopped
