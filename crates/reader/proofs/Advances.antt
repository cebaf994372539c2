-- An event that goes on, whatever is decided of it: a turn of the acts' reader that its state stands for, the direct calls of that turn, and again a legal element staged.
use Rattle.std.specs.Prelude.{None, Ok, Result, Some}
use Prim.Native.Nat.{ℕ, ◌+◌, ◌<◌, ◌≤◌}
use mathlib.Core.Path.{◌≡◌, refl, sym, ◌∙◌, ap, subst}
use mathlib.Core.Bool.{true, false}
use mathlib.Core.List.{List, [], ◌∷◌, ◌++◌, map, map-append}
use native.Mathlib.Omega.{arith}
use lib.IntN.{ℤ}
use lib.ListN.{length, take}
use mir.Syntax.{w64}
use mir.Val.{to_z, of_z}
use mir.Facts.{to_z-of_z, Fits-of_z}
use borrow.Author.Tests.{leb-true, lt-ltb}
use Rattle.base.specs.Bytes.{Bytes, all}
use Rattle.base.proofs.Split.{both_left, both_right}
use Rattle.base.proofs.Lists.{all_nil}
use Rattle.little.specs.Little.{is_byte}
use Rattle.little.proofs.Littles.{bytes_take}
use Rattle.refusal.specs.declared.Refusal.TheVariants as R
use Rattle.kind.specs.declared.Kind.{Kind}
use Rattle.kind.specs.declared.Kind.TheVariants as K
use Rattle.nesting.specs.declared.Place.{Place}
use Rattle.model.specs.Record.{Meta, Member, Tag, Body, refs, members, Record, kind_of, flagged, claim_of}
use Rattle.model.specs.Act.{Act, push, delete}
use Rattle.model.specs.Swap.{swap_member, swap_tag, swap_body, swap_record}
use Rattle.compact.specs.Fits.{fits_number}
use Rattle.compact.specs.Held.{meta_of}
use Rattle.compact.specs.Legal.{limits, legal_meta, within_limits, legal}
use Rattle.compact.specs.declared.PushHead.{PushHead}
use Rattle.reader_stage.specs.Stage.{staged, ref_part, member_part, tag_part}
use Rattle.reader_stage.proofs.Parts.{with_ref, with_member, with_tag, length_staged}
use Rattle.compact_legal.specs.Judge.{fault_for}
use Rattle.compact_legal.proofs.Laws.{legal_more}
use Rattle.interner.specs.Texts.{text_of}
use Rattle.interner.specs.Sound.{texts_of}
use Rattle.kind_store.specs.KindStore.{known_version, checked, taken_in}
use Rattle.overlay.specs.Overlay.{Overlay, kind_store_of}
use Rattle.overlay.specs.Sound.{is_sound}
use Rattle.overlay.specs.Given.{head_fits, meta_fits}
use Rattle.overlay.specs.Calls.{OverlayAfter}
use Rattle.overlay_store.specs.Calls.{store_push, store_delete}
use Rattle.overlay_direct.specs.Calls.{delete_on}
use Rattle.overlay_direct.proofs.Answers.{push_store, delete_store}
use Rattle.event_fields.specs.Field.{got}
use Rattle.event_decision.specs.Decision.{Decision, refuses, moves, begins, deletes, tags, refers, joins, ends}
use Rattle.event_decision.proofs.Lawful.{Lawful}
use Rattle.event_decision.proofs.Lawful as Decided
use Rattle.acts.specs.Turn.{Staged, Turn, user_text, first, clears, grows, turn_of}
use Rattle.acts.specs.Turn as Turn
use Rattle.reader.specs.declared.Pending.{Pending}
use Rattle.reader.specs.State.{State, pending_record, reader_sound, state_sound, more_tags, more_parts}
use Rattle.reader.specs.Given.{StateGiven}
use Rattle.reader.specs.Step.{Advanced, clears_to, bits_with_user, head_for, member_bits, tag_within, part_within, part_place, step_of}
use Rattle.reader.specs.Means.{staged_of, reader_of}
use Rattle.reader.proofs.Texts.{legal_agree}
use Rattle.reader.proofs.Element.{stages_back, way_body, relation_body, PartStaged, tag_limit, ref_limit, member_limit, tag_grows, ref_grows, member_grows}
use Rattle.reader.proofs.Acts.{Acts, no_act, a_push, a_delete, TakesIn, no_text, Acted, Fine, takes_fine, acted_fine, takes_texts, more_strings, same_text, strings_few}
use Rattle.reader.proofs.Held.{Held, held_of, held_few, held_means, element_as, fault_legal}
use Rattle.reader.proofs.Legals.{begun_held, begun_means, nothing_held, nothing_means, legal_meta_lem, meta_fits_lem, claim_same, legal_tag, legal_ref, legal_member, staged_small, tag_small, ref_small, member_small, tags_fit, count_fits}
use Rattle.reader.proofs.Steps.{EachStep, stopped, leaves, TakenAs, empty_text, each_text, each_user, each_admit, each_after, each_within}

-- what is left is what the turn says, by the direct calls of the turn, and a legal element is staged
pub record Advances (d : Decision) (s : State) (l : Advanced) : Type 0 where
  pub comes : Turn
  pub is : turn_of d (reader_of s) ≡ got comes
  pub place : l.place ≡ comes.reader.place
  pub acted : Acted s.overlay comes l.overlay
  pub held : Held l.overlay.texts.strings l.place.kind l.parts l.pending
  pub staged : staged_of (texts_of l.overlay.texts) l.place.kind l.parts l.pending ≡ comes.reader.staged
  pub small : all is_byte l.parts ≡ true
  pub size : length l.parts ≡ length s.parts

-- ---- the store's push and delete as direct calls

-- a push of the element that is staged
held_acts : (k : Kind) (parts : Bytes) (x : Pending) (o : Overlay) → Held o.texts.strings k parts x → is_sound o ≡ true → all is_byte parts ≡ true
    → (store_push k x.head x.meta (take x.used parts) o).answer ≡ (Ok tt)
    → Acts o (Some (push (staged_of (texts_of o.texts) k parts x).id (staged_of (texts_of o.texts) k parts x).held)) (store_push k x.head x.meta (take x.used parts) o).overlay
held_acts k parts x o v e b a =
    let bytes = take x.used parts in
    let p = stages_back k x.head x.meta bytes v.held v.stages in
    let s = push_store k x.head x.meta bytes o e (ap (fault_for o.texts.strings) p ∙ fault_legal o.texts.strings v.held v.lawful) in
    let i = a_push k x.head x.meta bytes v.held v.head v.meta (bytes_take x.used parts b) p (ap (λ (z : OverlayAfter). taken_in z.answer) s ∙ ap taken_in a) in
    subst (λ (y : Staged). Acts o (Some (push y.id y.held)) (store_push k x.head x.meta bytes o).overlay) (sym (held_means o.texts.strings k parts x v (texts_of o.texts)))
    (rw (ap (λ (z : OverlayAfter). z.overlay) s) at i)

-- an element that begins behind its user's text
module _ (o : Overlay) (w : Fine o) (id : ℤ) (m : Meta Bytes) (g : Decided.Given id m) (h : ℕ) (q : Overlay) (t : TakenAs o (user_text m) q h m.user)
    (z : flagged 4 m.flags ≡ false → h ≡ 0) where
  named_fine : Fine q
  named_fine = takes_fine w t.takes

  named_legal : legal_meta q.texts.strings (meta_of (bits_with_user m h)) ≡ true
  named_legal = legal_meta_lem m g.legal h q.texts.strings t.held z

  named_small : h ≤ 4096
  named_small = omega (arith, t.held, strings_few q named_fine.sound)

  named_fits : meta_fits (bits_with_user m h) ≡ true
  named_fits = meta_fits_lem m g.legal h named_small

  -- what is staged of an element that begins
  named_held : (b : Body Bytes) → Decided.First b → (parts : Bytes) → Held q.texts.strings (kind_of b) parts (record { head = head_for id b; meta = bits_with_user m h; used = 0 })
  named_held b f parts = begun_held id m b g.fits g.legal f q.texts.strings h t.held named_small z parts

  named_means : (b : Body Bytes) (f : Decided.First b) (parts : Bytes)
      → staged_of (texts_of q.texts) (kind_of b) parts (record { head = head_for id b; meta = bits_with_user m h; used = 0 }) ≡ record { id = id; held = first m b }
  named_means b f parts =
      held_means q.texts.strings (kind_of b) parts _ (begun_held id m b g.fits g.legal f q.texts.strings h t.held named_small z parts) (texts_of q.texts)
      ∙ begun_means id m b g.fits g.legal f q.texts.strings h t.held named_small z (texts_of q.texts) t.text

  first_acts : (b : Body Bytes) → Decided.First b → (store_push (kind_of b) (head_for id b) (bits_with_user m h) [] q).answer ≡ (Ok tt)
      → Acts q (Some (push id (first m b))) (store_push (kind_of b) (head_for id b) (bits_with_user m h) [] q).overlay
  first_acts b f a =
      subst (λ (y : Staged). Acts q (Some (push y.id y.held)) (store_push (kind_of b) (head_for id b) (bits_with_user m h) [] q).overlay) (named_means b f [])
      (held_acts (kind_of b) [] (record { head = head_for id b; meta = bits_with_user m h; used = 0 }) q (named_held b f []) named_fine.sound (all_nil is_byte) a)

  delete_acts : (k : Kind) → (store_delete k id (claim_of m) q).answer ≡ (Ok tt) → Acts q (Some (delete k id (claim_of m))) (store_delete k id (claim_of m) q).overlay
  delete_acts k a =
      let x = bits_with_user m h in
      let i : to_z w64 (of_z w64 id) ≡ id = to_z-of_z g.fits in
      let c = claim_same m g.legal h in
      let s : delete_on k (to_z w64 (of_z w64 id)) (meta_of x) q ≡ store_delete k id (claim_of m) q = rw (i, ← c) (delete_store k id (meta_of x) q named_fine.sound named_legal) in
      let d : Acts q (Some (delete k (to_z w64 (of_z w64 id)) (claim_of (meta_of x)))) (delete_on k (to_z w64 (of_z w64 id)) (meta_of x) q).overlay =
      a_delete k (of_z w64 id) x (Fits-of_z g.fits).fits named_fits (ap (λ (z : OverlayAfter). taken_in z.answer) s ∙ ap taken_in a) in
      rw (ap (λ (z : OverlayAfter). z.overlay) s, i, c) at d

-- the texts of a record with one part more
module _ (f g : ℕ → Bytes) (r : Record ℕ) (e : swap_record g r ≡ swap_record f r) where
  tag_swapped : (t : Tag Bytes) (n : ℕ) → g n ≡ t.key → swap_record g (with_tag r (record { key = n; value = t.value })) ≡ Turn.with_tag t (swap_record f r)
  tag_swapped t n k =
      rw (map-append (swap_tag g) r.tags (record { key = n; value = t.value } ∷ []))
      (λ i. record { meta = (e i).meta; body = (e i).body; tags = (e i).tags ++ (record { key = k i; value = t.value } ∷ []) })

  ref_swapped : (rs : List ℤ) (z : ℤ) → r.body ≡ refs rs → swap_record g (with_ref r rs z) ≡ Turn.with_ref z (swap_record f r)
  ref_swapped rs z b = rw b (λ i. record { meta = (e i).meta; body = refs (rs ++ (z ∷ [])); tags = (e i).tags })

  member_swapped : (ms : List (Member ℕ)) (x : Member Bytes) (n : ℕ) → r.body ≡ members ms → g n ≡ x.role
      → swap_record g (with_member r ms (record { ref = x.ref; type = x.type; role = n })) ≡ Turn.with_member x (swap_record f r)
  member_swapped ms x n b k =
      let y : swap_body g (members ms) ≡ swap_body f (members ms) = rw b at (ap (λ (z : Record Bytes). z.body) e) in
      let z : map (swap_member g) ms ≡ map (swap_member f) ms = cc in
      rw (b, map-append (swap_member g) ms (record { ref = x.ref; type = x.type; role = n } ∷ []))
      (λ i. record { meta = (e i).meta; body = members (z i ++ (record { ref = x.ref; type = x.type; role = k i } ∷ [])); tags = (e i).tags })

-- ---- what a sound state holds

pub state_fine : (s : State) → StateGiven s → state_sound s ≡ true → Fine s.overlay
unfolding state_sound
state_fine s g e = record { sound = both_left _ _ e; bytes = g.overlay }

pub state_held : (s : State) → StateGiven s → state_sound s ≡ true → Held s.overlay.texts.strings s.reader.place.kind s.parts s.reader.pending
unfolding state_sound reader_sound
state_held s g e = held_of _ _ s.parts s.reader.pending g.reader.head g.reader.meta g.reader.bytes (both_left _ _ (both_right _ _ e))

module _ (s : State) (g : StateGiven s) (e : state_sound s ≡ true) where
  abbrev now : List Bytes
  now = texts_of s.overlay.texts

  abbrev kind : Kind
  kind = s.reader.place.kind

  abbrev pending : Pending
  pending = s.reader.pending

  fine : Fine s.overlay
  fine = state_fine s g e

  held : Held s.overlay.texts.strings kind s.parts pending
  held = state_held s g e

  means : (reader_of s).staged ≡ element_as now pending.head held.held
  unfolding reader_of
  means = held_means s.overlay.texts.strings kind s.parts pending held now

  few : within_limits limits held.held ≡ true
  few = held_few s.overlay.texts.strings kind s.parts pending held

  -- nothing is staged any more
  cleared : (d : Decision) (p : Place) (q : Overlay) (ts : List Bytes) (a : Act Bytes) → turn_of d (reader_of s) ≡ got (clears p ts a) → Acted s.overlay (clears p ts a) q
      → EachStep (Advances d s) (clears_to s p q)
  cleared d p q ts a i w =
      let z = empty_text q (acted_fine fine w).sound in
      leaves (record {
        comes = clears p ts a;
        is = i;
        place = refl;
        acted = w;
        held = nothing_held q.texts.strings s.parts z.1 p.kind;
        staged = nothing_means q.texts.strings s.parts z.1 p.kind (texts_of q.texts) z.0;
        small = g.reader.bytes;
        size = refl;
      })

  -- one part more
  module _ (d : Decision) (p : Place) (k : p.kind ≡ kind) (o : Overlay) (ts : List Bytes) (takes : TakesIn s.overlay ts o) where
    before : swap_record (text_of (texts_of o.texts)) held.held ≡ swap_record (text_of now) held.held
    before = legal_agree s.overlay.texts.strings (text_of (texts_of o.texts)) (text_of now) (same_text s.overlay o ts (takes_texts takes)) held.held held.lawful

    more_legal : legal o.texts.strings held.held ≡ true
    more_legal = legal_more s.overlay.texts.strings o.texts.strings (more_strings s.overlay o ts (takes_texts takes)) held.held held.lawful

    grown : (j : PushHead) (at : ℕ) (x : Bytes) (next : Record ℕ) (f : Record Bytes → Record Bytes) → turn_of d (reader_of s) ≡ got (grows p f ts (reader_of s))
        → j.id ≡ pending.head.id → PartStaged kind j pending.meta s.parts pending.used at x next → legal o.texts.strings next ≡ true → head_fits j ≡ true
        → all is_byte x ≡ true → swap_record (text_of (texts_of o.texts)) next ≡ f (swap_record (text_of now) held.held)
        → Advances d s (record { overlay = o; place = p; pending = record { head = j; meta = pending.meta; used = pending.used + length x }; parts = staged s.parts pending.used at x })
    grown j at x next f i q w l h b c =
        let n = length_staged s.parts pending.used at x in
        let y : Pending = record { head = j; meta = pending.meta; used = pending.used + length x } in
        let z = staged s.parts pending.used at x in
        let v : Held o.texts.strings kind z y = record { held = next; stages = w.stages; lawful = l; fits = omega (arith, w.room); head = h; meta = held.meta } in
        let u : element_as (texts_of o.texts) j next ≡ (grows p f ts (reader_of s)).reader.staged = rw means (λ i. record { id = to_z w64 (q i); held = c i }) in
        record {
          comes = grows p f ts (reader_of s);
          is = i;
          place = refl;
          acted = record { between = o; taken = takes; acted = no_act };
          held = rw k v;
          staged = ap (λ (j : Kind). staged_of (texts_of o.texts) j z y) k ∙ (held_means o.texts.strings kind z y v (texts_of o.texts) ∙ u);
          small = staged_small s.parts pending.used at x g.reader.bytes b;
          size = n;
        }

  -- ---- whatever is decided

  handle_fits : (o : Overlay) → Fine o → (n : ℕ) → n < o.texts.strings → fits_number 4 n ≡ true
  unfolding fits_number
  handle_fits o w n l = lt-ltb n 4294967296 (omega (arith, strings_few o w.sound))

  abbrev admit : Kind → ℤ → Meta Bytes → Result Unit ℤ
  admit k id m = checked s.overlay.setting (known_version k (kind_store_of k s.overlay) id) (claim_of m)

  pub advances : (d : Decision) → Lawful s.reader.place d → EachStep (Advances d s) (step_of d s)
  unfolding step_of turn_of reader_of
  advances (refuses r) w = stopped
  advances (moves p) w =
      let v : Held s.overlay.texts.strings p.kind s.parts pending = rw w held in
      leaves (record {
        comes = record { reader = record { place = p; staged = (reader_of s).staged }; texts = []; act = None };
        is = refl;
        place = refl;
        acted = record { between = s.overlay; taken = no_text; acted = no_act };
        held = v;
        staged = ap (λ (k : Kind). staged_of now k s.parts pending) w;
        small = g.reader.bytes;
        size = refl;
      })
  advances (begins true p id m b) w =
      each_admit (admit (kind_of b) id m) _
      (each_user s.overlay fine.sound m _ w.0.legal w.0.user (λ h q t z.
      each_after (store_push (kind_of b) (head_for id b) (bits_with_user m h) [] q) (clears_to s p) (λ a.
      cleared (begins true p id m b) p _ (user_text m) (push id (first m b)) refl
      (record { between = q; taken = t.takes; acted = first_acts s.overlay fine id m w.0 h q t z b w.1.0 a }))))
  advances (begins false p id m b) w =
      each_user s.overlay fine.sound m _ w.0.legal w.0.user (λ h q t z.
      let y : Pending = record { head = head_for id b; meta = bits_with_user m h; used = 0 } in
      let v : Held q.texts.strings p.kind s.parts y = rw w.1.1 (named_held s.overlay fine id m w.0 h q t z b w.1.0 s.parts) in
      leaves (record {
        comes = record { reader = record { place = p; staged = record { id = id; held = first m b } }; texts = user_text m; act = None };
        is = refl;
        place = refl;
        acted = record { between = q; taken = t.takes; acted = no_act };
        held = v;
        staged = ap (λ (k : Kind). staged_of (texts_of q.texts) k s.parts y) w.1.1 ∙ named_means s.overlay fine id m w.0 h q t z b w.1.0 s.parts;
        small = g.reader.bytes;
        size = refl;
      }))
  advances (deletes k p id m) w =
      each_admit (admit k id m) _
      (each_user s.overlay fine.sound m _ w.legal w.user (λ h q t z.
      each_after (store_delete k id (claim_of m) q) (clears_to s p) (λ a.
      cleared (deletes k p id m) p _ (user_text m) (delete k id (claim_of m)) refl
      (record { between = q; taken = t.takes; acted = delete_acts s.overlay fine id m w h q t z k a }))))
  advances (tags p t) w =
      each_text s.overlay fine.sound t.key _ w.1.0 (λ n o a.
      each_within (tag_within s t) _ R.TooManyParts (λ c.
      let u : Tag ℕ = record { key = n; value = t.value } in
      let l = sym (tag_limit kind pending.head pending.meta s.parts pending.used held.held held.stages held.fits few u) ∙ c in
      let b = tag_grows kind pending.head pending.meta s.parts pending.used held.held held.stages held.fits few g.reader.room u
      (handle_fits o (takes_fine fine a.takes) n a.held) l in
      grown (tags p t) p w.0 o (t.key ∷ []) a.takes (more_tags pending.head) pending.used (tag_part n t.value) (with_tag held.held u) (Turn.with_tag t) refl refl b
      (legal_tag o.texts.strings held.held (more_legal (tags p t) p w.0 o (t.key ∷ []) a.takes) u a.held w.1.1 l)
      (tags_fit pending.head held.head (leb-true (pending.head.tags + 1) 256 (both_left _ _ c)))
      (tag_small n t.value w.1.1)
      (tag_swapped (text_of now) (text_of (texts_of o.texts)) held.held (before (tags p t) p w.0 o (t.key ∷ []) a.takes) t n a.text)))
  advances (refers p z) w =
      let x = way_body held.held.body (held.stages.kind ∙ w.1.0) in
      each_within (part_within s limits.refs) _ R.TooManyParts (λ c.
      let l = sym (ref_limit kind pending.head pending.meta s.parts pending.used held.held held.stages held.fits few x.0 z w.1.0 x.1) ∙ c in
      let b = ref_grows kind pending.head pending.meta s.parts pending.used held.held held.stages held.fits few g.reader.room x.0 z w.1.0 x.1 w.1.1 l in
      grown (refers p z) p w.0 s.overlay [] no_text (more_parts pending.head) (part_place s) (ref_part (of_z w64 z)) (with_ref held.held x.0 z) (Turn.with_ref z) refl refl b
      (legal_ref s.overlay.texts.strings held.held held.lawful x.0 z l)
      (count_fits pending.head held.head (leb-true (pending.head.count + 1) 2000 c))
      (ref_small (of_z w64 z))
      (ref_swapped (text_of now) (text_of now) held.held refl x.0 z x.1))
  advances (joins p y) w =
      let x = relation_body held.held.body (held.stages.kind ∙ w.1.0) in
      each_text s.overlay fine.sound y.role _ w.1.1.1 (λ n o a.
      each_within (part_within s limits.members) _ R.TooManyParts (λ c.
      let u : Member ℕ = record { ref = y.ref; type = y.type; role = n } in
      let l = sym (member_limit kind pending.head pending.meta s.parts pending.used held.held held.stages held.fits few x.0 u w.1.0 x.1) ∙ c in
      let b = member_grows kind pending.head pending.meta s.parts pending.used held.held held.stages held.fits few g.reader.room x.0 u w.1.0 x.1 w.1.1.0
      (handle_fits o (takes_fine fine a.takes) n a.held) l in
      grown (joins p y) p w.0 o (y.role ∷ []) a.takes (more_parts pending.head) (part_place s) (member_part (member_bits y n)) (with_member held.held x.0 u) (Turn.with_member y) refl refl b
      (legal_member o.texts.strings held.held (more_legal (joins p y) p w.0 o (y.role ∷ []) a.takes) x.0 u x.1 a.held l)
      (count_fits pending.head held.head (leb-true (pending.head.count + 1) 2000 c))
      (member_small (member_bits y n))
      (member_swapped (text_of now) (text_of (texts_of o.texts)) held.held (before (joins p y) p w.0 o (y.role ∷ []) a.takes) x.0 y n x.1 a.text)))
  advances (ends p) w =
      let q = store_push kind pending.head pending.meta (take pending.used s.parts) s.overlay in
      each_after q (clears_to s p) (λ a.
      cleared (ends p) p q.overlay [] (push (reader_of s).staged.id (reader_of s).staged.held) refl
      (record { between = s.overlay; taken = no_text; acted = held_acts kind s.parts pending s.overlay held fine.sound g.reader.bytes a }))

  -- ---- 16: "A reader gives 16 at the child that passes the limit"; a child is within the limits exactly where the element with it is

  module _ (r : Record ℕ) (is : pending_record kind s.parts pending ≡ Some r) where
    same : held.held ≡ r
    unfolding pending_record
    same = cc (stages_back kind pending.head pending.meta (take pending.used s.parts) held.held held.stages, is)

    pub limit_tag : (t : Tag Bytes) (key : ℕ) → tag_within s t ≡ within_limits limits (with_tag r (record { key = key; value = t.value }))
    limit_tag t key = rw (← same) (tag_limit kind pending.head pending.meta s.parts pending.used held.held held.stages held.fits few (record { key = key; value = t.value }))

    pub limit_ref : (rs : List ℤ) (z : ℤ) → kind ≡ K.Way → r.body ≡ refs rs → part_within s limits.refs ≡ within_limits limits (with_ref r rs z)
    limit_ref rs z k b =
        let c : held.held.body ≡ refs rs = ap (λ (x : Record ℕ). x.body) same ∙ b in
        rw (← same) (ref_limit kind pending.head pending.meta s.parts pending.used held.held held.stages held.fits few rs z k c)

    pub limit_member : (ms : List (Member ℕ)) (x : Member ℕ) → kind ≡ K.Relation → r.body ≡ members ms → part_within s limits.members ≡ within_limits limits (with_member r ms x)
    limit_member ms x k b =
        let c : held.held.body ≡ members ms = ap (λ (x : Record ℕ). x.body) same ∙ b in
        rw (← same) (member_limit kind pending.head pending.meta s.parts pending.used held.held held.stages held.fits few ms x k c)
