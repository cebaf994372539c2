-- The walks over a record's parts: fields printed one after the other, element by element and tag by tag.
use Rattle.std.specs.Prelude.{Err, None, Ok, Some}
use Prim.Native.Nat.{ℕ, zero, suc, ◌+◌, ◌-◌, ◌<◌, ◌≤◌}
use mathlib.Core.Path.{◌≡◌, refl, sym, ◌∙◌, ap}
use mathlib.Core.List.{List, [], ◌∷◌, ◌++◌}
use native.Mathlib.Omega.{arith}
use lib.Dec.{ltb}
use lib.ListN.{length, take, drop, length-take, length-drop}
use lib.Seq.{take_all}
use Rattle.base.specs.Bytes.{Bytes}
use Rattle.base.proofs.Split.{by_bool, no}
use Rattle.text.specs.Escape.{escape}
use Rattle.kind.specs.declared.Kind.{Kind}
use Rattle.refusal.specs.declared.Refusal.{Refusal}
use Rattle.interner.specs.Strings.{Store, used_of, span_of}
use Rattle.interner.specs.Lent.{span_held}
use Rattle.little.specs.declared.Span.{Span}
use Rattle.interner.proofs.Finds.{lies, within_bytes}
use Rattle.model.specs.Swap.{swap_meta}
use Rattle.compact.specs.Layout.{head_len}
use Rattle.compact.specs.Held.{meta_of}
use Rattle.compact.specs.View.{TagStep, meta_at, head_at, member_at, tag_step}
use Rattle.compact.specs.declared.ArenaMeta.{ArenaMeta}
use Rattle.compact.specs.declared.TagPart.{TagPart}
use Rattle.compact.specs.Tags.{TagTurn, turn_by, tag_turn}
use Rattle.compact.specs.declared.TagPlace.{TagPlace}
use Rattle.compact.proofs.Tags.{tag_left}
use Rattle.listing_page.specs.Listing.{meta_fields}
use Rattle.print.specs.Print.{tabs}
use Rattle.print.specs.Printer.{Prints}
use Rattle.print.specs.declared.Printer.{Printer}
use Rattle.print.proofs.Prints.{tabs_append}
use Rattle.print.proofs.Pieces.{then_printed}
use Rattle.listing_fields.specs.Fields.{held_text, text_held, each_from, held_member, tag_fields_from, body_fields_at, tag_fields_at, record_fields_at}

-- ---- a text

-- the span of a held handle lies within the bytes
pub held_within : (spans : List ℕ) (bytes : Bytes) (strings h : ℕ) (s : Span) → Some s ≡ span_of spans bytes strings h → s.start + s.len ≤ length bytes
unfolding span_of
held_within spans bytes strings h s e =
    by_bool (ltb h strings)
    (λ t. within_bytes spans bytes h s.start s.len (lies spans bytes h s (e ∙ rw t)))
    (λ t. no (cc))

-- of a store
pub text_within : (s : Store) (h : ℕ) (p : Span) → Some p ≡ span_held s h → p.start + p.len ≤ length (used_of s)
text_within s h p e = held_within s.spans (used_of s) s.strings h p e

-- its text
pub text_found : (s : Store) (h : ℕ) (p : Span) → Some p ≡ span_held s h → take p.len (drop p.start (used_of s)) ≡ text_held s h
unfolding held_text
text_found s h p e = rw (← e)

pub text_missing : (s : Store) (h : ℕ) → None ≡ span_held s h → [] ≡ text_held s h
unfolding held_text
text_missing s h e = rw (← e)

-- a part as it is cut, from its start on and then to its end
pub cut_part : (s : Bytes) (start len : ℕ) → take len (take (length s - start) (drop start s)) ≡ take len (drop start s)
cut_part s start len = ap (take len) (take_all (length s - start) (drop start s) (omega (arith, length-drop start s)))

pub cut_length : (s : Bytes) (start len : ℕ) → start + len ≤ length s → len ≡ length (take len (take (length s - start) (drop start s)))
cut_length s start len h = rw (cut_part s start len) (omega (arith, length-take len (drop start s), length-drop start s))

-- ---- element by element

module _ (g : ℕ → List Bytes) (n : ℕ) where
  -- what is still to print, from the i-th element on
  pub each_next : (i : ℕ) → i < n → tabs (each_from g i (n - i)) ≡ tabs (g i) ++ tabs (each_from g (i + 1) (n - (i + 1)))
  unfolding each_from
  each_next i h =
      let d : n - i ≡ suc (n - (i + 1)) = omega arith in
      let s : suc i ≡ i + 1 = omega arith in
      rw (d, s, tabs_append (g i) (each_from g (i + 1) (n - (i + 1))))

  pub each_ends : (i : ℕ) → n ≤ i → tabs (each_from g i (n - i)) ≡ []
  unfolding each_from tabs
  each_ends i h = let d : n - i ≡ 0 = omega arith in rw d

-- the fields of the i-th member
abbrev pub fields_of : Store → Bytes → ℕ → List Bytes
fields_of s view i = held_member (text_held s) (member_at view i)

-- ---- tag by tag

-- what a turn of the walk yields is a step's answer, and it goes on behind the tag that it yields
turn_step : (y : TagStep) (p : TagPlace) → (turn_by y p).step ≡ y
unfolding turn_by
turn_step (Ok None) p = refl
turn_step (Ok (Some t)) p = refl
turn_step (Err r) p = refl

turn_place : (y : TagStep) (p : TagPlace) (t : TagPart) → y ≡ Ok (Some t) → (turn_by y p).place ≡ record { offset = t.start + t.len; remaining = p.remaining - 1 }
unfolding turn_by
turn_place y p t e = rw e

module _ (s : Bytes) (p q : TagPlace) (x : TagStep) (turn : record { step = x; place = q } ≡ tag_turn s p) where
  pub turn_answers : x ≡ tag_step s p.offset p.remaining
  unfolding tag_turn
  turn_answers = ap (λ (t : TagTurn). t.step) turn ∙ turn_step (tag_step s p.offset p.remaining) p

  module _ (t : TagPart) (e : x ≡ Ok (Some t)) where
    pub tag_there : tag_step s p.offset p.remaining ≡ Ok (Some t)
    tag_there = sym turn_answers ∙ e

    pub tag_fits : t.start + t.len ≤ length s
    tag_fits = (tag_left s p.offset p.remaining t tag_there).fits

    pub tag_more : 0 < p.remaining
    tag_more = omega (arith, (tag_left s p.offset p.remaining t tag_there).more)

    pub turn_on : q ≡ record { offset = t.start + t.len; remaining = p.remaining - 1 }
    unfolding tag_turn
    turn_on = ap (λ (t : TagTurn). t.place) turn ∙ turn_place (tag_step s p.offset p.remaining) p t tag_there

module _ (f : ℕ → Bytes) (s : Bytes) where
  pub tags_next : (at n : ℕ) (t : TagPart) → 0 < n → tag_step s at n ≡ Ok (Some t)
      → tabs (tag_fields_from f s at n) ≡ tabs (escape (f t.key) ∷ escape (take t.len (drop t.start s)) ∷ []) ++ tabs (tag_fields_from f s (t.start + t.len) (n - 1))
  unfolding tag_fields_from tabs
  tags_next at zero t h w = absurd (omega arith)
  tags_next at (suc n) t h w = let d : suc n - 1 ≡ n = omega arith in rw (d, w)

  pub tags_done : (at n : ℕ) → Ok None ≡ tag_step s at n → tabs (tag_fields_from f s at n) ≡ []
  unfolding tag_fields_from tabs
  tags_done at zero e = refl
  tags_done at (suc n) e = rw (← e)

  pub tags_stop : (r : Refusal) (at n : ℕ) → Err r ≡ tag_step s at n → tabs (tag_fields_from f s at n) ≡ []
  unfolding tag_fields_from tabs
  tags_stop r at zero e = refl
  tags_stop r at (suc n) e = rw (← e)

-- ---- a record: metadata, then place or refs or members, then tags

module _ (f : ℕ → Bytes) (k : Kind) (s : Bytes) where
  pub fields_printed : {p q r t : Printer} (m : ArenaMeta) (bs ts : List Bytes) → m ≡ meta_at s (head_len k) → bs ≡ body_fields_at f k (head_at k s) s → ts ≡ tag_fields_at f k (head_at k s) s
      → Prints (tabs (meta_fields (swap_meta f (meta_of m)))) p q → Prints (tabs bs) q r → Prints (tabs ts) r t → Prints (tabs (record_fields_at f k s)) p t
  unfolding record_fields_at
  fields_printed m bs ts em eb et e1 e2 e3 =
      rw (← em, ← eb, ← et, tabs_append (meta_fields (swap_meta f (meta_of m)) ++ bs) ts, tabs_append (meta_fields (swap_meta f (meta_of m))) bs)
      (then_printed (then_printed e1 e2) e3)
