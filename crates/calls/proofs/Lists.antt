-- Lists of calls: after each, what is lent agrees with the calls and their replies. The overlay reflects the texts taken in and the acts accepted; each reader's storage is
-- sound but for its count of lines, and stands for the reader that the accepted lines make.
use Rattle.std.specs.Prelude.{None, Ok, Option, Some, Err}
use Prim.Native.Nat.{ℕ, ◌+◌, ◌<◌}
use mathlib.Core.Path.{◌≡◌, refl, sym, ◌∙◌, ap, subst}
use mathlib.Core.Bool.{Bool, true, false, cond}
use mathlib.Core.List.{List, [], ◌∷◌, ◌++◌, append_assoc, append-nil}
use lib.IntN.{ℤ}
use lib.ListN.{length}
use native.Mathlib.Omega.{arith}
use mir.Syntax.{w64}
use mir.Val.{to_z}
use mir.Facts.{Fits-of_lt, sfits_to_z}
use borrow.Author.Tests.{ltb-true, lt-ltb, eq-eqb, ne_eqb, eqb-true}
use Rattle.base.specs.Bytes.{Bytes, all}
use Rattle.base.proofs.Split.{by_bool, by_eq, both_left, both_right, no}
use Rattle.base.proofs.Lists.{all_head, all_tail}
use Rattle.little.specs.Little.{is_byte}
use Rattle.refusal.specs.declared.Refusal.{Refusal}
use Rattle.kind.specs.declared.Kind.{Kind}
use Rattle.model.specs.Record.{Record, claim_of}
use Rattle.model.specs.Act.{Act}
use Rattle.compact.specs.Cut.{pushed_record}
use Rattle.compact.specs.Held.{meta_of, head_in}
use Rattle.compact.specs.Fits.{fits_signed}
use Rattle.compact.specs.declared.ArenaMeta.{ArenaMeta}
use Rattle.compact.specs.declared.PushHead.{PushHead}
use Rattle.interner.specs.Texts.{intern_accepted, take_all_of}
use Rattle.interner.specs.Strings.{intern}
use Rattle.interner.specs.Sound.{texts_of}
use Rattle.interner.specs.Interned.{Interned}
use Rattle.interner.specs.Interned as I
use Rattle.kind_store.proofs.Claims.{given_claim}
use Rattle.event_fields.specs.Field.{Field, got}
use Rattle.acts.specs.Turn.{Turn, turn}
use Rattle.acts.specs.Call.{Call, Answered, World, Outcome, quiet, outcome, turned, acts_before, world_after, acts_from, lines_read}
use Rattle.acts.proofs.Calls.{refused_call, taken_call, world_append, acts_append, own_reader, other_reader, texts_from, texts_after}
use Rattle.overlay.specs.Overlay.{Overlay}
use Rattle.overlay.specs.Given.{head_fits, meta_fits}
use Rattle.overlay.specs.Calls.{allow_on}
use Rattle.overlay_direct.specs.Calls.{push_on, delete_on, intern_on}
use Rattle.overlay_store.specs.Calls.{handle_in}
use Rattle.overlay.proofs.Answers.{by_kept}
use Rattle.overlay_store.proofs.Answers.{by_handle}
use Rattle.overlay_direct.proofs.Answers.{push_refused, delete_refused, intern_refused, intern_taken}
use Rattle.overlay.proofs.Bounds.{meta_given}
use Rattle.overlay.proofs.Decides.{decides}
use Rattle.overlay_store.proofs.Keeps.{kept_as}
use Rattle.overlay_direct.proofs.Keeps.{push_kept, delete_kept}
use Rattle.reader.specs.State.{State, refusal_at}
use Rattle.reader.specs.Event.{event_on, end_on}
use Rattle.reader.specs.Means.{reader_of}
use Rattle.reader.proofs.Answers.{by_answer, event_counts, end_keeps}
use Rattle.reader.proofs.Acts.{TakesIn, no_text, a_text, Acts, no_act, a_push, a_delete, Acted, Fine, more_strings, same_text}
use Rattle.reader.proofs.Events.{event_accepted, by_refused}
use Rattle.reader.proofs.Keeps.{Ready, event_ready, ready_more, ready_means}
use Rattle.calls.specs.Ask.{Ask, interns, pushes, deletes, reads, ends, allows, call_of, Storage, state_of, with_state, with_overlay, event_taken, leaves, accepts, after, answered, ask_fits, refusing}
use Rattle.calls.proofs.Reflects.{Reflects, reflects_push, reflects_delete, reflects_text, reflects_setting}

-- ---- the calls that a turn makes

-- the id that a caller gives is of 64 bits
given_id : (id : ℕ) → id < 18446744073709551616 → fits_signed w64 (to_z w64 id) ≡ true
unfolding fits_signed
given_id id h = lt-ltb _ _ (sfits_to_z {w = w64} (Fits-of_lt h)).sfits

-- a handle that is answered was not refused 13
is_held : (i : Interned) (n : ℕ) → handle_in i ≡ Ok n → intern_accepted i ≡ true
is_held (I.Held h) n e = refl
is_held (I.New h) n e = refl
is_held I.Full n e = no cc

module _ (refused : Bool) where
  takes_reflects : {o q : Overlay} {ts held : List Bytes} {acts : List (Act Bytes)} → TakesIn o ts q → Reflects refused o held acts → Reflects refused q (take_all_of held ts) acts
  unfolding take_all_of
  takes_reflects no_text w = w
  takes_reflects {o} {held = held} {acts = acts} (a_text t n l e) w =
      let p = intern_taken t o n e in
      rw p.1.1.1 (reflects_text refused o held acts w t l (is_held (intern o.texts t).answer n p.1.1.0))

  acts_reflect : {o q : Overlay} {a : Option (Act Bytes)} {held : List Bytes} {acts : List (Act Bytes)} → Acts o a q → Reflects refused o held acts
      → Reflects refused q held (acts ++ acts_before a [])
  acts_reflect no_act w = rw append-nil w
  acts_reflect {o} {held = held} {acts = acts} (a_push k h m parts r f g b made e) w =
      let p = push_kept k h m parts o f g b e in
      let q : p.held ≡ r = cc p.made in
      rw (p.left, w.texts, ← q) (reflects_push refused o held acts w k (kept_as h p.held) p.fits p.lawful p.stored)
  acts_reflect {o} {held = held} {acts = acts} (a_delete k id m f g e) w =
      let p = delete_kept k (to_z w64 id) (meta_of m) o e in
      rw p.left (reflects_delete refused o held acts w k (to_z w64 id) (claim_of (meta_of m)) (given_id id f) (given_claim (meta_of m) (meta_given m g)) p.stored)

-- ---- what is lent agrees with the calls and their replies

-- whether regression was refused throughout: without it nothing is said of the highest versions
pub record Agrees (refused : Bool) (l : Storage) (w : World) (acts : List (Act Bytes)) : Type 0 where
  pub overlay : Reflects refused l.overlay w.texts acts
  pub ready : (n : ℕ) → Ready l.overlay.texts.strings (l.readers n) (l.parts n)
  pub readers : (n : ℕ) → reader_of (state_of n l) ≡ w.readers n

pub agrees_fine : {refused : Bool} {l : Storage} {w : World} {acts : List (Act Bytes)} → Agrees refused l w acts → Fine l.overlay
agrees_fine {l = l} g = record { sound = (decides l.overlay g.overlay.bytes).1 g.overlay.sound; bytes = g.overlay.bytes }

-- a call and its reply
abbrev pub answer_of : Ask → Storage → Answered
answer_of c l = record { call = call_of c; accepted = accepts c l }

module _ (refused : Bool) (l : Storage) (w : World) (acts : List (Act Bytes)) (g : Agrees refused l w acts) where
  -- the overlay after a call by its reply: the texts and the acts that it adds
  abbrev Adds : Overlay → Answered → Type 0
  Adds q a = Reflects refused q (world_after w (a ∷ [])).texts (acts ++ acts_from w (a ∷ []))

  same_adds : (c : Call) → Adds l.overlay (refused_call c)
  unfolding world_after acts_from
  same_adds c = rw append-nil g.overlay

  -- ---- readers that a call leaves as they are: no text is lost

  module _ (q : Overlay) (a : Answered) (adds : Adds q a) where
    grown : texts_of q.texts ≡ take_all_of (texts_of l.overlay.texts) (texts_from w (a ∷ []))
    grown = adds.texts ∙ (texts_after w (a ∷ []) ∙ ap (λ (z : List Bytes). take_all_of z (texts_from w (a ∷ []))) (sym g.overlay.texts))

    left_ready : (n : ℕ) → Ready q.texts.strings (l.readers n) (l.parts n)
    left_ready n = ready_more l.overlay.texts.strings (l.readers n) (l.parts n) (g.ready n) q.texts.strings (more_strings l.overlay q _ grown)

    left_means : (n : ℕ) → reader_of (record { overlay = q; reader = l.readers n; parts = l.parts n }) ≡ w.readers n
    left_means n = ready_means l.overlay.texts.strings (l.readers n) (l.parts n) (g.ready n) l.overlay q (same_text l.overlay q _ grown) ∙ g.readers n

    -- a direct call
    direct : ((n : ℕ) → (world_after w (a ∷ [])).readers n ≡ w.readers n) → Agrees refused (with_overlay q l) (world_after w (a ∷ [])) (acts ++ acts_from w (a ∷ []))
    direct e = record { overlay = adds; ready = left_ready; readers = λ n. left_means n ∙ sym (e n) }

    -- an event or an end of a reader
    module _ (n : ℕ) (t : State) (same : t.overlay ≡ q) (own : Ready q.texts.strings t.reader t.parts) (means : reader_of t ≡ (world_after w (a ∷ [])).readers n)
        (others : (m : ℕ) → (m ≡ n → ⊥) → (world_after w (a ∷ [])).readers m ≡ w.readers m) where
      reader_ready : (m : ℕ) → Ready q.texts.strings ((with_state n t l).readers m) ((with_state n t l).parts m)
      reader_ready m = by_eq m n (λ e. rw (eq-eqb m n e) own) (λ e. rw (ne_eqb m n e) (left_ready m))

      reader_means : (m : ℕ) → reader_of (record { overlay = q; reader = (with_state n t l).readers m; parts = (with_state n t l).parts m }) ≡ (world_after w (a ∷ [])).readers m
      reader_means m =
          by_eq m n
          (λ e. rw (eq-eqb m n e) (ap (λ (o : Overlay). reader_of (record { overlay = o; reader = t.reader; parts = t.parts })) (sym same) ∙ (means ∙ ap (world_after w (a ∷ [])).readers (sym e))))
          (λ e. rw (ne_eqb m n e) (left_means m ∙ sym (others m e)))

      of_reader : Agrees refused (with_state n t l) (world_after w (a ∷ [])) (acts ++ acts_from w (a ∷ []))
      of_reader = rw same (record { overlay = adds; ready = reader_ready; readers = reader_means })

  -- ---- each call

  abbrev Goes : Ask → Type 0
  Goes c = Agrees refused (leaves c l) (world_after w (answer_of c l ∷ [])) (acts ++ acts_from w (answer_of c l ∷ []))

  -- a direct call leaves each reader
  readers_left : (c : Call) (b : Bool) → ((n : ℕ) → (outcome w c).world.readers n ≡ w.readers n) → (n : ℕ) → (world_after w (record { call = c; accepted = b } ∷ [])).readers n ≡ w.readers n
  unfolding world_after
  readers_left c true e n = e n
  readers_left c false e n = refl

  push_leaves : (id : ℤ) (x : Option (Record ℕ)) (n : ℕ) → (outcome w (Call.pushes id x)).world.readers n ≡ w.readers n
  unfolding outcome
  push_leaves id None n = refl
  push_leaves id (Some r) n = refl

  push_adds : (k : Kind) (h : PushHead) (m : ArenaMeta) (parts : Bytes) → head_fits h ≡ true → meta_fits m ≡ true → all is_byte parts ≡ true
      → Adds (push_on k h m parts l.overlay).overlay (answer_of (pushes k h m parts) l)
  unfolding world_after acts_from outcome
  push_adds k h m parts f v b =
      by_kept (push_on k h m parts l.overlay).answer
      (λ e. let p = push_kept k h m parts l.overlay f v b e in
      rw (e, p.made) (rw g.overlay.texts at (acts_reflect refused (a_push k h m parts p.held f v b p.made e) g.overlay)))
      (λ r e. rw (e, push_refused k h m parts l.overlay r e) (same_adds (call_of (pushes k h m parts))))

  delete_adds : (k : Kind) (id : ℕ) (m : ArenaMeta) → id < 18446744073709551616 → meta_fits m ≡ true → Adds (delete_on k (to_z w64 id) (meta_of m) l.overlay).overlay (answer_of (deletes k id m) l)
  unfolding world_after acts_from outcome
  delete_adds k id m f v =
      by_kept (delete_on k (to_z w64 id) (meta_of m) l.overlay).answer
      (λ e. rw e (acts_reflect refused (a_delete k id m f v e) g.overlay))
      (λ r e. rw (e, delete_refused k (to_z w64 id) (meta_of m) l.overlay r e) (same_adds (call_of (deletes k id m))))

  intern_adds : (t : Bytes) → Adds (intern_on t l.overlay).overlay (answer_of (interns t) l)
  unfolding world_after acts_from outcome take_all_of
  intern_adds t =
      by_handle (intern_on t l.overlay).answer
      (λ n e. rw (e, append-nil) (takes_reflects refused (a_text t n (intern_taken t l.overlay n e).1.0 e) g.overlay))
      (λ r e. rw (e, intern_refused t l.overlay r e) (same_adds (call_of (interns t))))

  -- a refused event changes its stop mark alone, which its reader's meaning does not look at
  refused_means : (line : Bytes) (s : State) (r : Refusal) (m : ℕ) → (event_on line s).answer ≡ Err (refusal_at r m) → ((event_on line s).state.overlay ≡ s.overlay) × (reader_of (event_on line s).state ≡ reader_of s)
  unfolding reader_of
  refused_means line s r m a =
      by_refused line s r m a (λ u k j e. (ap (λ (z : State). z.overlay) e, ap reader_of e)) (λ u t e. (ap (λ (z : State). z.overlay) e, ap reader_of e))

  read_adds : (n : ℕ) (line : Bytes) (t : Turn) (q : Overlay) → turn line (w.readers n) ≡ got t → Acted l.overlay t q → Adds q (taken_call (Call.reads n line))
  unfolding world_after acts_from outcome
  read_adds n line t q k a =
      subst (λ (f : Field Turn). Reflects refused q (turned w n f).world.texts (acts ++ acts_before (turned w n f).act [])) (sym k)
      (acts_reflect refused a.acted (takes_reflects refused a.taken g.overlay))

  read_goes : (n : ℕ) (line : Bytes) → Goes (reads n line)
  unfolding world_after
  read_goes n line =
      let s = state_of n l in
      let t = (event_on line s).state in
      let c = call_of (reads n line) in
      let v = event_ready line s (agrees_fine g) (g.ready n) in
      by_answer (event_on line s).answer
      (λ a.
      let x = event_accepted line s (record { overlay = g.overlay.bytes; reader = (g.ready n).given }) a in
      let k : turn line (w.readers n) ≡ got x.comes = ap (turn line) (sym (g.readers n)) ∙ x.is in
      rw a (of_reader t.overlay (taken_call c) (read_adds n line x.comes t.overlay k x.acted) n t refl v (x.reader ∙ sym (own_reader w n line x.comes k)) (λ m e. other_reader w n m line e)))
      (λ r m a.
      let e = refused_means line s r m a in
      let own : Ready l.overlay.texts.strings t.reader t.parts = rw e.0 at v in
      rw a (of_reader l.overlay (refused_call c) (same_adds c) n t e.0 own (e.1 ∙ g.readers n) (λ i e. refl)))

  -- an end and the setting leave the texts and the acts as they were, whatever they answer
  quiet_same : (c : Call) (b : Bool) → outcome w c ≡ quiet w → (world_after w (record { call = c; accepted = b } ∷ []) ≡ w) × (acts_from w (record { call = c; accepted = b } ∷ []) ≡ [])
  unfolding world_after acts_from
  quiet_same c true e = (ap (λ (z : Outcome). z.world) e, ap (λ (z : Outcome). acts_before z.act []) e)
  quiet_same c false e = (refl, refl)

  end_goes : (n : ℕ) → Goes (ends n)
  unfolding outcome
  end_goes n =
      let s = state_of n l in
      let a = answer_of (ends n) l in
      let z = quiet_same (Call.ends n) a.accepted refl in
      let k = end_keeps s in
      let adds : Adds l.overlay a = rw (z.0, z.1, append-nil) g.overlay in
      let own : Ready l.overlay.texts.strings (end_on s).state.reader (end_on s).state.parts = rw k (g.ready n) in
      of_reader l.overlay a adds n (end_on s).state (ap (λ (y : State). y.overlay) k) own (ap reader_of k ∙ (g.readers n ∙ ap (λ (y : World). y.readers n) (sym z.0)))
      (λ m e. ap (λ (y : World). y.readers m) z.0)

  allow_adds : (setting : ℕ) → (refused ≡ true → setting ≡ 0) → Adds (allow_on setting l.overlay).overlay (answer_of (allows setting) l)
  unfolding outcome
  allow_adds setting r =
      let z = quiet_same (Call.allows setting) (accepts (allows setting) l) refl in
      rw (z.0, z.1, append-nil) (reflects_setting refused l.overlay w.texts acts g.overlay setting r)

  -- where regression is refused throughout, the call does not allow it
  pub agrees_call : (c : Ask) → ask_fits c ≡ true → (refused ≡ true → refusing c ≡ true) → Goes c
  unfolding ask_fits outcome
  agrees_call (interns t) f r = direct _ _ (intern_adds t) (readers_left _ _ (λ n. refl))
  agrees_call (pushes k h m parts) f r =
      direct _ _ (push_adds k h m parts (both_left _ _ f) (both_left _ _ (both_right _ _ f)) (both_right _ _ (both_right _ _ f))) (readers_left _ _ (push_leaves (to_z w64 h.id) (pushed_record k (head_in k h) (meta_of m) parts)))
  agrees_call (deletes k id m) f r = direct _ _ (delete_adds k id m (ltb-true _ _ (both_left _ _ f)) (both_right _ _ f)) (readers_left _ _ (λ n. refl))
  agrees_call (reads n line) f r = read_goes n line
  agrees_call (ends n) f r = end_goes n
  agrees_call (allows setting) f r = direct _ _ (allow_adds setting (λ z. eqb-true setting 0 (r z))) (readers_left _ _ (λ n. refl))

-- ---- a list of calls

pub agrees_calls : (refused : Bool) (cs : List Ask) (l : Storage) (w : World) (acts : List (Act Bytes)) → all ask_fits cs ≡ true → (refused ≡ true → all refusing cs ≡ true) → Agrees refused l w acts
    → Agrees refused (after l cs) (world_after w (answered l cs)) (acts ++ acts_from w (answered l cs))
unfolding after answered world_after acts_from
agrees_calls refused [] l w acts f r g = rw append-nil g
agrees_calls refused (c ∷ cs) l w acts f r g =
    let a = answer_of c l in
    let u = world_after w (a ∷ []) in
    let k = agrees_call refused l w acts g c (all_head ask_fits c cs f) (λ z. all_head refusing c cs (r z)) in
    let i = agrees_calls refused cs (leaves c l) u (acts ++ acts_from w (a ∷ [])) (all_tail ask_fits c cs f) (λ z. all_tail refusing c cs (r z)) k in
    rw (world_append w (a ∷ []) (answered (leaves c l) cs), acts_append w (a ∷ []) (answered (leaves c l) cs), ← append_assoc acts (acts_from w (a ∷ [])) (acts_from u (answered (leaves c l) cs))) i

-- ---- the count of lines: an event's line is one more than the lines that its reader has taken

module _ (n : ℕ) where
  event_lines : (line : Bytes) (s : State) (xs : List Bytes) → (event_on line s).state.reader.lines + length xs ≡ s.reader.lines + length (cond (event_taken (event_on line s).answer) (line ∷ xs) xs)
  event_lines line s xs =
      by_answer (event_on line s).answer
      (λ a. rw (a, (event_counts line s a).0) (omega arith))
      (λ r m a. by_refused line s r m a (λ u k j e. rw (a, e)) (λ u t e. rw (a, e)))

  pub call_lines : (c : Ask) (l : Storage) (ds : List Answered)
      → ((leaves c l).readers n).lines + length (lines_read n ds) ≡ (l.readers n).lines + length (lines_read n (answer_of c l ∷ ds))
  unfolding lines_read
  call_lines (interns t) l ds = by_bool (accepts (interns t) l) (λ e. rw e) (λ e. rw e)
  call_lines (pushes k h m parts) l ds = by_bool (accepts (pushes k h m parts) l) (λ e. rw e) (λ e. rw e)
  call_lines (deletes k id m) l ds = by_bool (accepts (deletes k id m) l) (λ e. rw e) (λ e. rw e)
  call_lines (reads m line) l ds =
      by_eq n m
      (λ q. rw (eq-eqb n m q, ← q) (event_lines line (state_of n l) (lines_read n ds)))
      (λ q. rw (ne_eqb n m q) (by_bool (accepts (reads m line) l) (λ e. rw e) (λ e. rw e)))
  call_lines (ends m) l ds =
      by_eq n m
      (λ q. rw (eq-eqb n m q, ← q, end_keeps (state_of n l)) (by_bool (accepts (ends n) l) (λ e. rw e) (λ e. rw e)))
      (λ q. rw (ne_eqb n m q) (by_bool (accepts (ends m) l) (λ e. rw e) (λ e. rw e)))
  call_lines (allows setting) l ds = by_bool (accepts (allows setting) l) (λ e. rw e) (λ e. rw e)

  pub lines_counted : (cs : List Ask) (l : Storage) → ((after l cs).readers n).lines ≡ (l.readers n).lines + length (lines_read n (answered l cs))
  unfolding after answered lines_read
  lines_counted [] l = omega arith
  lines_counted (c ∷ cs) l = lines_counted cs (leaves c l) ∙ call_lines c l (answered (leaves c l) cs)
