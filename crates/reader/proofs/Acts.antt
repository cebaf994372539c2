-- What a turn asks of the overlay, as direct calls: its text is taken in by `intern`, its act is a push or a delete. Such calls keep the overlay sound, whoever makes them.
use Rattle.std.specs.Prelude.{None, Ok, Option, Some}
use Prim.Native.Nat.{ℕ, ◌+◌, ◌<◌, ◌≤◌}
use mathlib.Core.Path.{◌≡◌, refl, ◌∙◌, ap}
use mathlib.Core.Bool.{true}
use mathlib.Core.List.{List, [], ◌∷◌}
use native.Mathlib.Omega.{arith}
use lib.ListN.{length, length-append}
use mir.Syntax.{w64}
use mir.Val.{to_z}
use Rattle.base.specs.Bytes.{Bytes, all}
use Rattle.base.proofs.Split.{both_left}
use Rattle.little.specs.Little.{is_byte}
use Rattle.text.specs.Check.{is_text}
use Rattle.kind.specs.declared.Kind.{Kind}
use Rattle.model.specs.Record.{Record, claim_of}
use Rattle.model.specs.Act.{Act, push, delete}
use Rattle.model.specs.Swap.{swap_record}
use Rattle.compact.specs.Cut.{pushed_record}
use Rattle.compact.specs.Held.{meta_of, head_in}
use Rattle.compact.specs.declared.ArenaMeta.{ArenaMeta}
use Rattle.compact.specs.declared.PushHead.{PushHead}
use Rattle.interner.specs.Strings.{Store}
use Rattle.interner.specs.Texts.{take_all_of, text_of}
use Rattle.interner.specs.Sound.{texts_of}
use Rattle.interner.proofs.Interns.{length_texts}
use Rattle.interner.proofs.Held.{grown_all, text_stays_all}
use Rattle.kind_store.specs.KindStore.{taken_in}
use Rattle.overlay.specs.Overlay.{Overlay}
use Rattle.overlay.specs.Sound.{Sound, is_sound}
use Rattle.overlay.specs.Given.{head_fits, meta_fits, InBytes}
use Rattle.overlay_direct.specs.Calls.{push_on, delete_on, intern_on}
use Rattle.overlay.proofs.Answers.{strings_sound}
use Rattle.overlay.proofs.Decides.{decides}
use Rattle.overlay.proofs.Tiles.{sized_spans}
use Rattle.overlay_direct.proofs.Keeps.{intern_kept, push_sound, push_bytes, push_texts, delete_sound, delete_bytes, delete_texts, intern_sound, intern_bytes}
use Rattle.acts.specs.Turn.{Turn}
use Rattle.reader.proofs.Small.{text_small}

-- the texts of a turn are taken in by `intern`: at most one
pub data TakesIn (o : Overlay) : List Bytes → Overlay → Type 0 where
  no_text : TakesIn o [] o
  a_text : (t : Bytes) (n : ℕ) → is_text t ≡ true → (intern_on t o).answer ≡ Ok n → TakesIn o (t ∷ []) (intern_on t o).overlay

-- the act of a turn is a direct push or delete that is accepted
pub data Acts (o : Overlay) : Option (Act Bytes) → Overlay → Type 0 where
  no_act : Acts o None o
  a_push : (k : Kind) (h : PushHead) (m : ArenaMeta) (parts : Bytes) (r : Record ℕ) → head_fits h ≡ true → meta_fits m ≡ true → all is_byte parts ≡ true
      → pushed_record k (head_in k h) (meta_of m) parts ≡ Some r → taken_in (push_on k h m parts o).answer ≡ true
      → Acts o (Some (push (to_z w64 h.id) (swap_record (text_of (texts_of o.texts)) r))) (push_on k h m parts o).overlay
  a_delete : (k : Kind) (id : ℕ) (m : ArenaMeta) → id < 18446744073709551616 → meta_fits m ≡ true → taken_in (delete_on k (to_z w64 id) (meta_of m) o).answer ≡ true
      → Acts o (Some (delete k (to_z w64 id) (claim_of (meta_of m)))) (delete_on k (to_z w64 id) (meta_of m) o).overlay

-- first the texts, then the act
pub record Acted (o : Overlay) (t : Turn) (q : Overlay) : Type 0 where
  pub between : Overlay
  pub taken : TakesIn o t.texts between
  pub acted : Acts between t.act q

-- ---- they keep a sound overlay of bytes

pub record Fine (o : Overlay) : Type 0 where
  pub sound : is_sound o ≡ true
  pub bytes : InBytes o

whole : {o : Overlay} → Fine o → Sound o
whole {o} w = (decides o w.bytes).0 w.sound

fine : (o : Overlay) → InBytes o → Sound o → Fine o
fine o b w = record { sound = (decides o b).1 w; bytes = b }

pub takes_fine : {o q : Overlay} {ts : List Bytes} → Fine o → TakesIn o ts q → Fine q
takes_fine w no_text = w
takes_fine {o} w (a_text t n l e) = fine (intern_on t o).overlay (intern_bytes t o (text_small t l) w.bytes) (intern_sound t o (whole w))

acts_fine : {o q : Overlay} {a : Option (Act Bytes)} → Fine o → Acts o a q → Fine q
acts_fine w no_act = w
acts_fine {o} w (a_push k h m parts r f g b p e) = fine (push_on k h m parts o).overlay (push_bytes k h m parts o b w.bytes) (push_sound k h m parts o f g b (whole w))
acts_fine {o} w (a_delete k id m f g e) =
    fine (delete_on k (to_z w64 id) (meta_of m) o).overlay (delete_bytes k (to_z w64 id) (meta_of m) o w.bytes) (delete_sound k (to_z w64 id) (meta_of m) o (whole w))

pub acted_fine : {o q : Overlay} {t : Turn} → Fine o → Acted o t q → Fine q
acted_fine w a = acts_fine (takes_fine w a.taken) a.acted

-- ---- the texts after them

pub takes_texts : {o q : Overlay} {ts : List Bytes} → TakesIn o ts q → texts_of q.texts ≡ take_all_of (texts_of o.texts) ts
unfolding take_all_of
takes_texts no_text = refl
takes_texts {o} (a_text t n l e) = let k = intern_kept t o n e in ap (λ (z : Overlay). texts_of z.texts) k.left ∙ k.texts

acts_texts : {o q : Overlay} {a : Option (Act Bytes)} → Acts o a q → q.texts ≡ o.texts
acts_texts no_act = refl
acts_texts {o} (a_push k h m parts r f g b p e) = push_texts k h m parts o
acts_texts {o} (a_delete k id m f g e) = delete_texts k (to_z w64 id) (meta_of m) o

pub acted_texts : {o q : Overlay} {t : Turn} → Acted o t q → texts_of q.texts ≡ take_all_of (texts_of o.texts) t.texts
acted_texts a = ap (λ (z : Store). texts_of z) (acts_texts a.acted) ∙ takes_texts a.taken

-- texts that more texts are taken in behind: none is lost, and each keeps its handle
module _ (o q : Overlay) (ts : List Bytes) (e : texts_of q.texts ≡ take_all_of (texts_of o.texts) ts) where
  pub more_strings : o.texts.strings ≤ q.texts.strings
  more_strings =
      let g = grown_all (texts_of o.texts) ts in
      let n : length (texts_of q.texts) ≡ length (texts_of o.texts) + length g.0 = ap length (e ∙ g.1) ∙ length-append (texts_of o.texts) g.0 in
      omega (arith, length_texts o.texts, length_texts q.texts)

  pub same_text : (h : ℕ) → h < o.texts.strings → text_of (texts_of q.texts) h ≡ text_of (texts_of o.texts) h
  same_text h l = rw e (text_stays_all (texts_of o.texts) ts h (omega (arith, length_texts o.texts)))

-- at most 4,096 strings
pub strings_few : (o : Overlay) → is_sound o ≡ true → o.texts.strings ≤ 4096
unfolding is_sound
strings_few o e =
    let z = sized_spans o (both_left _ _ e) in
    let w = (strings_sound o e).words in
    omega arith
