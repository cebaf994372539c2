-- Tags one after the other: where they end whose keys are held, and whether their values are text.
use Rattle.std.specs.Prelude.{None, Option, Some}
use Prim.Native.Nat.{ℕ, zero, suc, ◌+◌, ◌-◌, ◌<◌, ◌≤◌}
use mathlib.Core.Path.{◌≡◌, refl, sym}
use mathlib.Core.Bool.{Bool, true, false, ◌&&◌}
use mathlib.Core.List.{List, ◌∷◌}
use native.Mathlib.Omega.{arith}
use lib.Dec.{ltb}
use lib.ListN.{length, take, drop, length-drop}
use Rattle.base.specs.Bytes.{Bytes, both, all}
use Rattle.base.proofs.Split.{by_bool}
use Rattle.little.specs.Little.{value_at}
use Rattle.text.specs.Check.{is_text}
use Rattle.model.specs.Record.{Tag}
use Rattle.compact.specs.Cut.{Cut, then_cut, found, times, cut_tag}
use Rattle.compact.specs.Legal.{handle}
use Rattle.compact_legal.specs.Judge.{end_of, tag_end, tag_run_of, tags_end}
use Rattle.compact_legal.specs.declared.TagRun.{TagRun}
use Rattle.compact_legal.proofs.Parts.{tagged, tag_none}

-- the same tags after others whose values are text, or not
abbrev pub after : Bool → Option TagRun → Option TagRun
after t None = None
after t (Some r) = Some (record { end = r.end; text = both t r.text })

pub after_true : (r : Option TagRun) → after true r ≡ r
unfolding both
after_true None = refl
after_true (Some r) = refl

pub after_all : (t : Bool) (e : ℕ) → after t (Some (record { end = e; text = true })) ≡ Some (record { end = e; text = t })
unfolding both
after_all true e = refl
after_all false e = refl

pub after_after : (t u : Bool) (r : Option TagRun) → after (t && u) r ≡ after t (after u r)
unfolding both
after_after t u None = refl
after_after true u (Some r) = refl
after_after false u (Some r) = refl

module _ (strings len : ℕ) (t : Tag ℕ) where
  held_first : (o : Option (Cut (List (Tag ℕ)))) → handle strings t.key ≡ true → tag_run_of strings len (then_cut o (λ ts q. found (t ∷ ts) q)) ≡ after (is_text t.value) (tag_run_of strings len o)
  unfolding tag_run_of then_cut all both
  held_first None h = refl
  held_first (Some c) h =
      by_bool (all (λ (t : Tag ℕ). handle strings t.key) c.item)
      (λ y. rw (h, y))
      (λ y. rw (h, y))

  unheld_first : (o : Option (Cut (List (Tag ℕ)))) → handle strings t.key ≡ false → tag_run_of strings len (then_cut o (λ ts q. found (t ∷ ts) q)) ≡ None
  unfolding tag_run_of then_cut all both
  unheld_first None h = refl
  unheld_first (Some c) h = rw h

module _ (strings : ℕ) (s : Bytes) where
  pub tags_none : (at : ℕ) → at ≤ length s → tags_end strings 0 s at ≡ Some (record { end = at; text = true })
  unfolding tags_end tag_run_of times all
  tags_none at h = let l : length s - length (drop at s) ≡ at = omega (arith, length-drop at s) in rw l

  module _ (at : ℕ) (within : at ≤ length s) where
    pub tags_short : (n : ℕ) → 0 < n → None ≡ tag_end s at → tags_end strings n s at ≡ None
    unfolding tags_end tag_run_of times then_cut
    tags_short zero l h = absurd (omega arith)
    tags_short (suc n) l h = rw (tag_none strings s at within h)

    module _ (e : ℕ) (h : Some e ≡ tag_end s at) where
      pub tag_room : (at + 8 ≤ e) × (e ≤ length s)
      tag_room = let x = tagged strings s at within e (sym h) in (x.room, x.to)

      pub tags_unheld : (n : ℕ) → 0 < n → ltb (value_at 4 s at) strings ≡ false → tags_end strings n s at ≡ None
      unfolding tags_end times then_cut
      tags_unheld zero l k = absurd (omega arith)
      tags_unheld (suc n) l k = rw (tagged strings s at within e (sym h)).cut (unheld_first strings (length s) _ (times cut_tag n (drop e s)) k)

      pub tags_next : (n : ℕ) → 0 < n → ltb (value_at 4 s at) strings ≡ true
          → tags_end strings n s at ≡ after (is_text (take (e - (at + 8)) (drop (at + 8) s))) (tags_end strings (n - 1) s e)
      unfolding tags_end times then_cut
      tags_next zero l k = absurd (omega arith)
      tags_next (suc n) l k =
          let q : suc n - 1 ≡ n = omega arith in
          rw (q, (tagged strings s at within e (sym h)).cut) (held_first strings (length s) _ (times cut_tag n (drop e s)) k)

-- ---- what an end of tags tells

abbrev pub run_end : Option TagRun → Option ℕ
run_end None = None
run_end (Some r) = Some r.end

pub tags_ended : (strings len : ℕ) (o : Option (Cut (List (Tag ℕ)))) → run_end (tag_run_of strings len o) ≡ end_of (all (λ (t : Tag ℕ). handle strings t.key)) len o
unfolding tag_run_of end_of
tags_ended strings len None = refl
tags_ended strings len (Some c) =
    by_bool (all (λ (t : Tag ℕ). handle strings t.key) c.item) (λ y. rw y) (λ y. rw y)

pub tags_text : (strings len : ℕ) (c : Cut (List (Tag ℕ))) (r : TagRun) → all (λ (t : Tag ℕ). handle strings t.key) c.item ≡ true → tag_run_of strings len (Some c) ≡ Some r → r.text ≡ all (λ (t : Tag ℕ). is_text t.value) c.item
unfolding tag_run_of
tags_text strings len c r h e = let z : Some (record { end = len - length c.rest; text = all (λ (t : Tag ℕ). is_text t.value) c.item }) ≡ Some r = rw h at e in cc
