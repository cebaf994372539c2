-- The check: what its tests say of a record, in document 01's order.
use Rattle.std.specs.Prelude.{Err, None, Option, Result, Some}
use Rattle.std.specs.Option.{ok_or}
use Rattle.std.specs.Result.{IsErr, IsErrAnd}
use Rattle.std.proofs.lemmas.Result.{err_from_is_err_and}
use Prim.Native.Nat.{ℕ, ◌+◌, ◌-◌, ◌*◌, ◌≤◌}
use mathlib.Core.Path.{◌≡◌, refl, sym, ◌∙◌, ap}
use mathlib.Core.Bool.{Bool, true, false, cond}
use mathlib.Core.List.{List, [], ◌∷◌}
use native.Mathlib.Omega.{arith}
use lib.Dec.{eqb}
use lib.ListN.{length, drop, length-drop}
use borrow.Author.Tests.{eqb-true, eq-eqb}
use Rattle.base.specs.Bytes.{Bytes, both, either, all}
use Rattle.base.proofs.Split.{by_bool, no, both_true, same_test, both_no_left, both_no_right}
use Rattle.kind.specs.declared.Kind.{Kind}
use Rattle.refusal.specs.declared.Refusal.TheVariants.{NotText, CoordinateRange, TooManyParts, BadRecord}
use Rattle.model.specs.Record.{Meta, Tag, Body, Record}
use Rattle.compact.specs.Cut.{Cut, then_cut, found, times, cut_tag, cut_body, cut_parts}
use Rattle.compact.specs.Legal.{limits, handle, legal_meta, body_handles, legal_handles, legal_texts, in_range, value_bytes, within_limits, fault_of}
use Rattle.compact_legal.specs.Judge.{end_of, judged, verdict_of, tags_end, body_end, place_in_range, few, chosen, walk_from, walk_on, walk_of}
use Rattle.compact.specs.Layout.{Head}
use Rattle.compact.proofs.Places.{Off, off_length, total, times_off, tag_off}
use Rattle.compact_legal.proofs.Ends.{Ends, ends_at}
use Rattle.compact_legal.proofs.TagRuns.{run_end, tags_ended, tags_text}
use Rattle.compact_legal.specs.declared.TagRun.{TagRun}
use Rattle.compact_legal.specs.declared.Walk.{Walk}
use Rattle.compact_legal.proofs.Bodies.{body_long, body_cut}

-- what `o.ok_or(x)?` returns where there is none
pub handed : {A B E : Type 0} {o : Option A} {x e : E} {r : Result B E} → ◌≡◌ {A = Result A E} (Err e) (ok_or o x) → o ≡ None → IsErr r × IsErrAnd r (λ y. y ≡ e) → r ≡ Err x
handed {A} {B} {E} {o} {x} {e} {r} v n h =
    let p = err_from_is_err_and r h.1 in
    let z : ◌≡◌ {A = Result A E} (Err e) (Err x) = v ∙ ap (λ (o : Option A). ok_or o x) n in
    let q : e ≡ x = cc in
    p.1 ∙ ap Err (p.2 ∙ q)

-- ---- the order of the tests

in_order : (room handles texts range few : Bool) (e : ℕ)
    → cond room (judged e (cond handles (cond texts (cond range (cond few None (Some TooManyParts)) (Some CoordinateRange)) (Some NotText)) (Some BadRecord))) (Err BadRecord)
    ≡ chosen (both handles room) texts range few e
unfolding chosen both
in_order true true true true true e = refl
in_order true true true true false e = refl
in_order true true true false few e = refl
in_order true true false range few e = refl
in_order true false texts range few e = refl
in_order false true texts range few e = refl
in_order false false texts range few e = refl

-- handles that are not held are refused 17, with bytes left over and without
refused : (strings : ℕ) (more : Bool) (len : ℕ) (r : Record ℕ) (q : Bytes) → legal_handles strings r ≡ false → Err BadRecord ≡ verdict_of strings more len (found r q)
unfolding verdict_of fault_of
refused strings more len r q h = by_bool (either more (eqb (length q) 0)) (λ t. rw (t, h)) (λ t. rw t)

-- ---- tags

tag_total : (ts : List (Tag ℕ)) → total (λ (t : Tag ℕ). 8 + length t.value) ts ≡ 8 * length ts + value_bytes ts
unfolding value_bytes
tag_total [] = refl
tag_total (t ∷ ts) = let e = tag_total ts in omega arith

module _ (strings : ℕ) (k : Kind) (head : Head) (s : Bytes) (at : ℕ) (within : at ≤ length s) where
  -- no body, or a role that is not held
  pub body_refused : (m : Meta ℕ) (more : Bool) → body_end strings k head s at ≡ None → Err BadRecord ≡ verdict_of strings more (length s) (cut_parts k head m (drop at s))
  unfolding body_end cut_parts then_cut end_of verdict_of legal_handles
  body_refused m more h = go (cut_body k head (drop at s)) h
    where
      last : (b : Body ℕ) → body_handles strings b ≡ false → (o : Option (Cut (List (Tag ℕ))))
          → Err BadRecord ≡ verdict_of strings more (length s) (then_cut o (λ ts r. found (record { meta = m; body = b; tags = ts }) r))
      last b t None = refl
      last b t (Some c) = refused strings more (length s) _ c.rest (both_no_right (legal_meta strings m) (both_no_left (body_handles strings b) _ t))

      go : (o : Option (Cut (Body ℕ))) → end_of (body_handles strings) (length s) o ≡ None
          → Err BadRecord ≡ verdict_of strings more (length s) (then_cut o (λ b s1. then_cut (times cut_tag head.tags s1) (λ ts r. found (record { meta = m; body = b; tags = ts }) r)))
      go None t = refl
      go (Some c) t =
          by_bool (body_handles strings c.item)
          (λ y. let z : Some (length s - length c.rest) ≡ None = rw y at t in no cc)
          (λ y. last c.item y (times cut_tag head.tags c.rest))

  module _ (t : ℕ) (body : body_end strings k head s at ≡ Some t) where
    body_ends : Ends (body_handles strings) s at (cut_body k head (drop at s)) t
    unfolding body_end
    body_ends = ends_at (body_handles strings) s at body_long within (cut_body k head (drop at s)) t (λ c e. (body_cut k head (drop at s) c e).off) body

    pub body_within : t ≤ length s
    body_within = body_ends.to

    parts_are : (m : Meta ℕ) → cut_parts k head m (drop at s) ≡ then_cut (times cut_tag head.tags (drop t s)) (λ ts r. found (record { meta = m; body = body_ends.item; tags = ts }) r)
    unfolding cut_parts then_cut
    parts_are m = rw body_ends.cut

    -- no tags, or a key that is not held
    pub tags_refused : (m : Meta ℕ) (more : Bool) → tags_end strings head.tags s t ≡ None → Err BadRecord ≡ verdict_of strings more (length s) (cut_parts k head m (drop at s))
    unfolding tags_end end_of verdict_of then_cut legal_handles
    tags_refused m more h = rw (parts_are m) (go (times cut_tag head.tags (drop t s)) (sym (tags_ended strings (length s) (times cut_tag head.tags (drop t s))) ∙ ap run_end h))
      where
        go : (o : Option (Cut (List (Tag ℕ)))) → end_of (all (λ (t : Tag ℕ). handle strings t.key)) (length s) o ≡ None
            → Err BadRecord ≡ verdict_of strings more (length s) (then_cut o (λ ts r. found (record { meta = m; body = body_ends.item; tags = ts }) r))
        go None h = refl
        go (Some c) h =
            by_bool (all (λ (t : Tag ℕ). handle strings t.key) c.item)
            (λ y. let z : Some (length s - length c.rest) ≡ None = rw y at h in no cc)
            (λ y. refused strings more (length s) _ c.rest (both_no_right (legal_meta strings m) (both_no_right (body_handles strings body_ends.item) y)))

    module _ (run : TagRun) (tags : tags_end strings head.tags s t ≡ Some run) where
      abbrev e : ℕ
      e = run.end

      tags_off : (c : Cut (List (Tag ℕ))) → times cut_tag head.tags (drop t s) ≡ Some c
          → Off (drop t s) (total (λ (t : Tag ℕ). 8 + length t.value) c.item) c.rest × (length c.item ≡ head.tags)
      tags_off c h = times_off cut_tag (λ (t : Tag ℕ). 8 + length t.value) tag_off head.tags (drop t s) c h

      tags_end_lem : Ends (all (λ (t : Tag ℕ). handle strings t.key)) s t (times cut_tag head.tags (drop t s)) e
      unfolding tags_end
      tags_end_lem =
          ends_at (all (λ (t : Tag ℕ). handle strings t.key)) s t (total (λ (t : Tag ℕ). 8 + length t.value)) body_within (times cut_tag head.tags (drop t s)) e
          (λ c h. (tags_off c h).0) (sym (tags_ended strings (length s) (times cut_tag head.tags (drop t s))) ∙ ap run_end tags)

      -- the bytes of the values are what is left of the tags' bytes
      values : (length tags_end_lem.item ≡ head.tags) × (e ≡ t + (8 * head.tags + value_bytes tags_end_lem.item))
      values =
          let x = tags_off _ tags_end_lem.cut in
          let l : length (drop e s) ≡ length (drop t s) - total (λ (t : Tag ℕ). 8 + length t.value) tags_end_lem.item = off_length x.0 in
          let f : total (λ (t : Tag ℕ). 8 + length t.value) tags_end_lem.item ≤ length (drop t s) = x.0.fits in
          let n : length tags_end_lem.item ≡ head.tags = x.1 in
          let w = tags_end_lem.to in
          let u = tags_end_lem.from in
          (n, omega (arith, tag_total tags_end_lem.item, length-drop e s, length-drop t s))

      pub tags_room : (t + 8 * head.tags ≤ e) × (e ≤ length s)
      tags_room = let v = values in (omega (arith, v.1), tags_end_lem.to)

      abbrev record_is : Meta ℕ → Record ℕ
      record_is m = record { meta = m; body = body_ends.item; tags = tags_end_lem.item }

      handles_are : (m : Meta ℕ) → legal_handles strings (record_is m) ≡ legal_meta strings m
      unfolding legal_handles
      handles_are m = rw (body_ends.passes, tags_end_lem.passes, both_true, both_true)

      texts_are : (m : Meta ℕ) → legal_texts (record_is m) ≡ run.text
      unfolding legal_texts tags_end
      texts_are m = sym (tags_text strings (length s) _ run tags_end_lem.passes (rw tags_end_lem.cut at tags))

      limits_are : (m : Meta ℕ) → within_limits limits (record_is m) ≡ few k head.count head.tags (e - t - 8 * head.tags)
      unfolding within_limits few
      limits_are m =
          let v = values in
          let w : e - t - 8 * head.tags ≡ value_bytes tags_end_lem.item = omega (arith, v.1) in
          rw (v.0, w, (body_cut k head (drop at s) _ body_ends.cut).count)

      pub judged_is : (m : Meta ℕ) (more : Bool) → verdict_of strings more (length s) (cut_parts k head m (drop at s))
          ≡ chosen (both (legal_meta strings m) (either more (eqb e (length s)))) run.text
          (place_in_range k head.lat head.lon) (few k head.count head.tags (e - t - 8 * head.tags)) e
      unfolding verdict_of fault_of then_cut
      judged_is m more =
          let w = tags_end_lem.to in
          let l = length-drop e s in
          let q : eqb (length (drop e s)) 0 ≡ eqb e (length s) =
          same_test _ _ (λ z. eq-eqb e (length s) (omega (arith, eqb-true (length (drop e s)) 0 z))) (λ z. eq-eqb (length (drop e s)) 0 (omega (arith, eqb-true e (length s) z))) in
          let f : length s - length (drop e s) ≡ e = omega arith in
          let g : in_range body_ends.item ≡ place_in_range k head.lat head.lon = (body_cut k head (drop at s) _ body_ends.cut).range in
          rw (parts_are m, tags_end_lem.cut, q, f, handles_are m, texts_are m, g, limits_are m) (in_order _ _ _ _ _ e)

  -- ---- the same by the walk

  pub walk_refused : (m : Meta ℕ) (more : Bool) → None ≡ walk_of strings k head s at → Err BadRecord ≡ verdict_of strings more (length s) (cut_parts k head m (drop at s))
  unfolding walk_of
  walk_refused m more h = go (body_end strings k head s at) refl h
    where
      last : (t : ℕ) → body_end strings k head s at ≡ Some t → (r : Option TagRun) → tags_end strings head.tags s t ≡ r → None ≡ walk_from head.tags t r → Err BadRecord ≡ verdict_of strings more (length s) (cut_parts k head m (drop at s))
      last t b None q e = tags_refused t b m more q
      last t b (Some r) q e = no cc

      go : (o : Option ℕ) → body_end strings k head s at ≡ o → None ≡ walk_on (λ t. walk_from head.tags t (tags_end strings head.tags s t)) o → Err BadRecord ≡ verdict_of strings more (length s) (cut_parts k head m (drop at s))
      go None q e = body_refused m more q
      go (Some t) q e = last t q (tags_end strings head.tags s t) refl e

  pub walk_judged : (m : Meta ℕ) (more : Bool) → (w : Walk) → Some w ≡ walk_of strings k head s at
      → verdict_of strings more (length s) (cut_parts k head m (drop at s))
      ≡ chosen (both (legal_meta strings m) (either more (eqb w.end (length s)))) w.text (place_in_range k head.lat head.lon) (few k head.count head.tags w.values) w.end
  unfolding walk_of
  walk_judged m more w h = go (body_end strings k head s at) refl h
    where
      last : (t : ℕ) → body_end strings k head s at ≡ Some t → (r : Option TagRun) → tags_end strings head.tags s t ≡ r → Some w ≡ walk_from head.tags t r
          → verdict_of strings more (length s) (cut_parts k head m (drop at s))
          ≡ chosen (both (legal_meta strings m) (either more (eqb w.end (length s)))) w.text (place_in_range k head.lat head.lon) (few k head.count head.tags w.values) w.end
      last t b None q e = no cc
      last t b (Some r) q e = let z : w ≡ record { end = r.end; values = r.end - t - 8 * head.tags; text = r.text } = cc in rw z (judged_is t b r q m more)

      go : (o : Option ℕ) → body_end strings k head s at ≡ o → Some w ≡ walk_on (λ t. walk_from head.tags t (tags_end strings head.tags s t)) o
          → verdict_of strings more (length s) (cut_parts k head m (drop at s))
          ≡ chosen (both (legal_meta strings m) (either more (eqb w.end (length s)))) w.text (place_in_range k head.lat head.lon) (few k head.count head.tags w.values) w.end
      go None q e = no cc
      go (Some t) q e = last t q (tags_end strings head.tags s t) refl e

  -- a push, whose parts end where the bytes end
  pub walk_pushed : (m : Meta ℕ) (w : Walk) → Some w ≡ walk_of strings k head s at
      → verdict_of strings false (length s) (cut_parts k head m (drop at s))
      ≡ chosen (both (legal_meta strings m) (eqb w.end (length s))) w.text (place_in_range k head.lat head.lon) (few k head.count head.tags w.values) w.end
  unfolding either
  walk_pushed m w h = walk_judged m false w h

  -- a record of an arena, behind which more may follow
  pub walk_kept : (m : Meta ℕ) (w : Walk) → Some w ≡ walk_of strings k head s at
      → verdict_of strings true (length s) (cut_parts k head m (drop at s))
      ≡ chosen (legal_meta strings m) w.text (place_in_range k head.lat head.lon) (few k head.count head.tags w.values) w.end
  unfolding either
  walk_kept m w h = let e = walk_judged m true w h in rw (both_true (legal_meta strings m)) at e
