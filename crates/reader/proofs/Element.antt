-- An element that is staged: its head counts a record's parts, its bytes are theirs; and with one part more it is staged for the record with that part.
use Rattle.std.specs.Prelude.{None, Option, Some}
use Prim.Native.Nat.{ℕ, ◌+◌, ◌*◌, ◌≤◌}
use mathlib.Core.Path.{◌≡◌, refl, sym, ◌∙◌, ap}
use mathlib.Core.Bool.{true}
use mathlib.Core.List.{List, [], ◌∷◌, ◌++◌, append-nil}
use native.Mathlib.Omega.{arith}
use lib.Dec.{leb}
use lib.IntN.{ℤ}
use lib.ListN.{length, take, length-append}
use lib.Seq.{length-take-le}
use mir.Syntax.{Width, w64}
use mir.Val.{SFits, to_z, of_z}
use borrow.Author.Tests.{lt-ltb}
use Rattle.base.specs.Bytes.{Bytes, both, all}
use Rattle.base.proofs.Split.{both_left, both_right, both_of, no, both_true}
use Rattle.base.proofs.Lists.{all_append, all_cons, all_nil}
use Rattle.little.specs.Little.{is_byte}
use Rattle.kind.specs.declared.Kind.{Kind}
use Rattle.kind.specs.declared.Kind.TheVariants.{Node, Way, Relation}
use Rattle.model.specs.Record.{Meta, Member, Tag, Body, place, refs, members, Record, kind_of}
use Rattle.compact.specs.Layout.{i64, member_bytes, Head, head_of, body_bytes, parts_bytes}
use Rattle.compact.specs.Cut.{Cut, cut_body, cut_parts, used_up, whole, pushed_record}
use Rattle.compact.specs.Fits.{fits_number, fits_signed, fits_member, fits_tag, fits_body}
use Rattle.compact.specs.Held.{meta_of, node_head, counts_head, head_in}
use Rattle.compact.specs.Legal.{value_bytes, limits, body_within, within_limits}
use Rattle.compact.specs.declared.ArenaMeta.{ArenaMeta}
use Rattle.compact.specs.declared.PushHead.{PushHead}
use Rattle.compact.proofs.Format.{first, begin, of_cut, i64_format, counted_is, list}
use Rattle.compact.proofs.Cuts.{member_format, tag_format, pushed, pushed_back, head_tags as head_of_tags}
use Rattle.compact.proofs.Lengths.{length_i64, length_member, length_tag, length_joined}
use Rattle.reader_stage.specs.Stage.{staged, ref_part, member_part, tag_part}
use Rattle.reader_stage.proofs.Parts.{in_bits, member_part_lem, tag_part_lem, with_ref, with_member, with_tag, length_parts, staged_ref, ref_fits, staged_member, member_fits, staged_tag, tag_fits}
use Rattle.reader.specs.State.{middle, values_in, more_tags, more_parts}

-- ---- the head

-- a head counts what is cut off by it
module _ (h : PushHead) where
  abbrev Counted : Kind → Body ℕ → ℕ → Type 0
  Counted k b tags = head_of (to_z w64 h.id) b tags ≡ head_in k h

  body_head : (k : Kind) (s : Bytes) (c : Cut (Body ℕ)) → all is_byte s ≡ true → cut_body k (head_in k h) s ≡ Some c
      → Counted k c.item h.tags × (all is_byte c.rest ≡ true)
  unfolding cut_body head_of head_in node_head counts_head
  body_head Node s c b e = of_cut (λ x r. Counted Node x h.tags × (all is_byte r ≡ true)) e (refl, b)
  body_head Way s c b e =
      begin (list i64_format h.count) b e (λ o. let n = counted_is (fits_signed w64) h.count o.item o.fit in
      of_cut (λ x r. Counted Way x h.tags × (all is_byte r ≡ true)) o.then (rw n.0, o.small))
  body_head Relation s c b e =
      begin (list member_format h.count) b e (λ o. let n = counted_is fits_member h.count o.item o.fit in
      of_cut (λ x r. Counted Relation x h.tags × (all is_byte r ≡ true)) o.then (rw n.0, o.small))

  head_tags : (k : Kind) → (head_in k h).tags ≡ h.tags
  unfolding head_in node_head counts_head
  head_tags Node = refl
  head_tags Way = refl
  head_tags Relation = refl

  parts_head : (k : Kind) (m : Meta ℕ) (s : Bytes) (c : Cut (Record ℕ)) → all is_byte s ≡ true → cut_parts k (head_in k h) m s ≡ Some c
      → Counted k c.item.body (length c.item.tags)
  unfolding cut_parts
  parts_head k m s c b e =
      first (λ x r. Counted k x h.tags × (all is_byte r ≡ true)) (λ x q. body_head k s x b q) e
      (λ a r w t. begin (list tag_format (head_in k h).tags) w.1 t (λ o.
      let n = counted_is fits_tag (head_in k h).tags o.item o.fit in
      of_cut (λ (x : Record ℕ) r. Counted k x.body (length x.tags)) o.then (rw (n.0 ∙ head_tags k) w.0)))

-- what stages in storage for a record
pub record Stages (k : Kind) (h : PushHead) (m : ArenaMeta) (x : Bytes) (r : Record ℕ) : Type 0 where
  pub kind : kind_of r.body ≡ k
  pub head : head_of (to_z w64 h.id) r.body (length r.tags) ≡ head_in k h
  pub meta : r.meta ≡ meta_of m
  pub fit : both (fits_body r.body) (all fits_tag r.tags) ≡ true
  pub bytes : x ≡ parts_bytes r

pub stages_of : (k : Kind) (h : PushHead) (m : ArenaMeta) (x : Bytes) (r : Record ℕ) → all is_byte x ≡ true → pushed_record k (head_in k h) (meta_of m) x ≡ Some r
    → Stages k h m x r
unfolding pushed_record
stages_of k h m x r b e = go (cut_parts k (head_in k h) (meta_of m) x) refl e
  where
    used_up_lem : (y : Record ℕ) (q : Bytes) → used_up y q ≡ Some r → cut_parts k (head_in k h) (meta_of m) x ≡ Some (record { item = y; rest = q }) → head_of (to_z w64 h.id) r.body (length r.tags) ≡ head_in k h
    used_up_lem y [] e w = let z : y ≡ r = cc in rw (← z) (parts_head h k (meta_of m) x _ b w)
    used_up_lem y (d ∷ q) e w = no cc

    go : (o : Option (Cut (Record ℕ))) → cut_parts k (head_in k h) (meta_of m) x ≡ o → whole o ≡ Some r → Stages k h m x r
    go None t e = no cc
    go (Some c) t f =
        let p = pushed k (head_in k h) (meta_of m) x r b e in
        record { kind = p.kind; head = used_up_lem c.item c.rest f t; meta = p.meta; fit = p.fit; bytes = rw append-nil at p.here.is }

pub stages_back : (k : Kind) (h : PushHead) (m : ArenaMeta) (x : Bytes) (r : Record ℕ) → Stages k h m x r → pushed_record k (head_in k h) (meta_of m) x ≡ Some r
stages_back k h m x r w = rw (← w.head, ← w.meta, w.bytes, ← w.kind) (pushed_back (to_z w64 h.id) r w.fit)

-- ---- what the counts say of the record

abbrev tags_more : Head → Head
tags_more h = record { id = h.id; lat = h.lat; lon = h.lon; count = h.count; tags = h.tags + 1 }

abbrev count_more : Head → Head
count_more h = record { id = h.id; lat = h.lat; lon = h.lon; count = h.count + 1; tags = h.tags }

tags_more_lem : (id : ℤ) (b : Body ℕ) (n : ℕ) → head_of id b (n + 1) ≡ tags_more (head_of id b n)
unfolding head_of
tags_more_lem id (place lat lon) n = refl
tags_more_lem id (refs rs) n = refl
tags_more_lem id (members ms) n = refl

in_tags_more : (k : Kind) (h : PushHead) → head_in k (more_tags h) ≡ tags_more (head_in k h)
unfolding head_in node_head counts_head
in_tags_more Node h = refl
in_tags_more Way h = refl
in_tags_more Relation h = refl

in_count_more : (k : Kind) (h : PushHead) → (k ≡ Node → ⊥) → head_in k (more_parts h) ≡ count_more (head_in k h)
unfolding head_in node_head counts_head
in_count_more Node h n = absurd (n refl)
in_count_more Way h n = refl
in_count_more Relation h n = refl

refs_more : (id : ℤ) (rs : List ℤ) (z : ℤ) (n : ℕ) → head_of id (refs (rs ++ (z ∷ []))) n ≡ count_more (head_of id (refs rs) n)
unfolding head_of
refs_more id rs z n = rw length-append

members_more : (id : ℤ) (ms : List (Member ℕ)) (x : Member ℕ) (n : ℕ) → head_of id (members (ms ++ (x ∷ []))) n ≡ count_more (head_of id (members ms) n)
unfolding head_of
members_more id ms x n = rw length-append

-- a way has refs, a relation members
pub way_body : (b : Body ℕ) → kind_of b ≡ Way → (rs : List ℤ) × (b ≡ refs rs)
way_body (place lat lon) e = no (cc)
way_body (refs rs) e = (rs, refl)
way_body (members ms) e = no (cc)

pub relation_body : (b : Body ℕ) → kind_of b ≡ Relation → (ms : List (Member ℕ)) × (b ≡ members ms)
relation_body (place lat lon) e = no (cc)
relation_body (refs rs) e = no (cc)
relation_body (members ms) e = (ms, refl)

middle_is : (h : PushHead) (id : ℤ) (b : Body ℕ) (n : ℕ) → head_of id b n ≡ head_in (kind_of b) h → length (body_bytes b) ≡ middle (kind_of b) h.count
unfolding head_of head_in counts_head body_bytes
middle_is h id (place lat lon) n e = refl
middle_is h id (refs rs) n e = length_joined i64 8 length_i64 rs ∙ ap (λ (x : Head). 8 * x.count) e
middle_is h id (members ms) n e = length_joined member_bytes 13 length_member ms ∙ ap (λ (x : Head). 13 * x.count) e

module _ (k : Kind) (h : PushHead) (m : ArenaMeta) (x : Bytes) (r : Record ℕ) (w : Stages k h m x r) where
  pub tags_counted : length r.tags ≡ h.tags
  tags_counted = sym (head_of_tags (to_z w64 h.id) r.body (length r.tags)) ∙ ap (λ (z : Head). z.tags) w.head ∙ head_tags h k

  pub body_counted : length (body_bytes r.body) ≡ middle k h.count
  body_counted = middle_is h (to_z w64 h.id) r.body (length r.tags) (rw w.kind w.head) ∙ ap (λ (j : Kind). middle j h.count) w.kind

  pub refs_counted : (rs : List ℤ) → k ≡ Way → r.body ≡ refs rs → length rs ≡ h.count
  unfolding head_of head_in counts_head
  refs_counted rs e f = let q : head_of (to_z w64 h.id) (refs rs) (length r.tags) ≡ head_in Way h = rw (f, e) at w.head in ap (λ (z : Head). z.count) q

  pub members_counted : (ms : List (Member ℕ)) → k ≡ Relation → r.body ≡ members ms → length ms ≡ h.count
  unfolding head_of head_in counts_head
  members_counted ms e f = let q : head_of (to_z w64 h.id) (members ms) (length r.tags) ≡ head_in Relation h = rw (f, e) at w.head in ap (λ (z : Head). z.count) q

  -- the bytes of tag values
  pub values_counted : values_in k h (length x) ≡ value_bytes r.tags
  values_counted = let l = ap length w.bytes in omega (arith, length_parts r, tags_counted, body_counted)

-- ---- one part more

-- with a part x put in at a place, the element stages for the next record, which is within the limits
pub record PartStaged (k : Kind) (h : PushHead) (m : ArenaMeta) (parts : Bytes) (used at : ℕ) (x : Bytes) (next : Record ℕ) : Type 0 where
  pub stages : Stages k h m (take (used + length x) (staged parts used at x)) next
  pub room : used + length x ≤ length parts

pub fits_signed_lem : (w : Width) (z : ℤ) → SFits w z → fits_signed w z ≡ true
unfolding fits_signed
fits_signed_lem w z f = lt-ltb _ _ f.sfits

values_last : (ts : List (Tag ℕ)) (t : Tag ℕ) → value_bytes (ts ++ (t ∷ [])) ≡ value_bytes ts + length t.value
unfolding value_bytes
values_last [] t = omega arith
values_last (y ∷ ts) t = omega (arith, values_last ts t)

module _ (k : Kind) (h : PushHead) (m : ArenaMeta) (parts : Bytes) (used : ℕ) (r : Record ℕ) (w : Stages k h m (take used parts) r) (u : used ≤ length parts)
    (f : within_limits limits r ≡ true) where
  few : (leb (length r.tags) limits.tags ≡ true) × ((body_within limits r.body ≡ true) × (leb (value_bytes r.tags) limits.value_bytes ≡ true))
  unfolding within_limits
  few = (both_left _ _ f, (both_left _ _ (both_right _ _ f), both_right _ _ (both_right _ _ f)))

  -- ---- 16: a child is within the limits exactly where the record with it is

  pub tag_limit : (t : Tag ℕ) → both (leb (h.tags + 1) limits.tags) (leb (values_in k h used + length t.value) limits.value_bytes) ≡ within_limits limits (with_tag r t)
  unfolding within_limits both
  tag_limit t =
      let c : length (r.tags ++ (t ∷ [])) ≡ h.tags + 1 = rw length-append (ap (λ (i : ℕ). i + 1) (tags_counted k h m (take used parts) r w)) in
      let v : values_in k h used ≡ value_bytes r.tags = rw (length-take-le used parts u) at (values_counted k h m (take used parts) r w) in
      rw (c, few.1.0, values_last r.tags t, v)

  pub ref_limit : (rs : List ℤ) (z : ℤ) → k ≡ Way → r.body ≡ refs rs → leb (h.count + 1) limits.refs ≡ within_limits limits (with_ref r rs z)
  unfolding within_limits both
  ref_limit rs z e b =
      let c : length (rs ++ (z ∷ [])) ≡ h.count + 1 = rw length-append (ap (λ (i : ℕ). i + 1) (refs_counted k h m (take used parts) r w rs e b)) in
      rw (c, few.0, few.1.1) (sym (both_true (leb (h.count + 1) 2000)))

  pub member_limit : (ms : List (Member ℕ)) (x : Member ℕ) → k ≡ Relation → r.body ≡ members ms → leb (h.count + 1) limits.members ≡ within_limits limits (with_member r ms x)
  unfolding within_limits both
  member_limit ms x e b =
      let c : length (ms ++ (x ∷ [])) ≡ h.count + 1 = rw length-append (ap (λ (i : ℕ). i + 1) (members_counted k h m (take used parts) r w ms e b)) in
      rw (c, few.0, few.1.1) (sym (both_true (leb (h.count + 1) 2000)))

  -- ---- and then the element is staged for that record

  module _ (n : length parts ≡ 44432) where
    abbrev id : ℤ
    id = to_z w64 h.id

    grows : (j : PushHead) (at size : ℕ) (x : Bytes) (next : Record ℕ) → kind_of next.body ≡ k → head_of (to_z w64 j.id) next.body (length next.tags) ≡ head_in k j
        → next.meta ≡ meta_of m → both (fits_body next.body) (all fits_tag next.tags) ≡ true → length x ≡ size → used + size ≤ 44432
        → (used + size ≤ length parts → take (used + size) (staged parts used at x) ≡ parts_bytes next) → PartStaged k j m parts used at x next
    grows j at size x next kind head meta fit long room bytes =
        record { stages = record { kind = kind; head = head; meta = meta; fit = fit; bytes = rw long (bytes (omega arith)) }; room = omega arith }

    pub tag_grows : (t : Tag ℕ) → fits_number 4 t.key ≡ true → within_limits limits (with_tag r t) ≡ true → PartStaged k (more_tags h) m parts used used (tag_part t.key t.value) (with_tag r t)
    unfolding fits_tag fits_number
    tag_grows t a g =
        let q = tag_fits parts used r w.bytes t u g in
        grows (more_tags h) used (8 + length t.value) (tag_part t.key t.value) (with_tag r t) w.kind
        (rw length-append (tags_more_lem id r.body (length r.tags)) ∙ ap tags_more w.head ∙ sym (in_tags_more k h)) w.meta
        (both_of (both_left _ _ w.fit) (all_append fits_tag r.tags (t ∷ []) (both_right _ _ w.fit) (all_cons fits_tag t [] (both_of a (lt-ltb (length t.value) 4294967296 (omega arith))) (all_nil fits_tag))))
        (ap length (tag_part_lem t) ∙ length_tag t) q (staged_tag parts used r w.bytes t)

    pub ref_grows : (rs : List ℤ) (z : ℤ) → k ≡ Way → r.body ≡ refs rs → SFits w64 z → within_limits limits (with_ref r rs z) ≡ true
        → PartStaged k (more_parts h) m parts used (middle k h.count) (ref_part (of_z w64 z)) (with_ref r rs z)
    unfolding fits_body
    ref_grows rs z e b s g =
        let o : middle k h.count ≡ 8 * length rs = rw e (ap (λ (y : ℕ). 8 * y) (sym (refs_counted k h m (take used parts) r w rs e b))) in
        let i : head_of id (refs rs) (length r.tags) ≡ head_in k h = rw b at w.head in
        let j : fits_body (refs rs) ≡ true = rw b at (both_left _ _ w.fit) in
        grows (more_parts h) (middle k h.count) 8 (ref_part (of_z w64 z)) (with_ref r rs z) (sym e)
        (refs_more id rs z (length r.tags) ∙ ap count_more i ∙ sym (in_count_more k h (λ y. no (cc)))) w.meta
        (both_of (all_append (fits_signed w64) rs (z ∷ []) j (all_cons (fits_signed w64) z [] (fits_signed_lem w64 z s) (all_nil (fits_signed w64)))) (both_right _ _ w.fit))
        (length_i64 z) (ref_fits parts used r w.bytes rs z b u g) (rw o (staged_ref parts used r w.bytes rs z b))

    pub member_grows : (ms : List (Member ℕ)) (x : Member ℕ) → k ≡ Relation → r.body ≡ members ms → SFits w64 x.ref → fits_number 4 x.role ≡ true
        → within_limits limits (with_member r ms x) ≡ true → PartStaged k (more_parts h) m parts used (middle k h.count) (member_part (in_bits x)) (with_member r ms x)
    unfolding fits_body fits_member
    member_grows ms x e b s t g =
        let o : middle k h.count ≡ 13 * length ms = rw e (ap (λ (y : ℕ). 13 * y) (sym (members_counted k h m (take used parts) r w ms e b))) in
        let i : head_of id (members ms) (length r.tags) ≡ head_in k h = rw b at w.head in
        let j : fits_body (members ms) ≡ true = rw b at (both_left _ _ w.fit) in
        grows (more_parts h) (middle k h.count) 13 (member_part (in_bits x)) (with_member r ms x) (sym e)
        (members_more id ms x (length r.tags) ∙ ap count_more i ∙ sym (in_count_more k h (λ y. no (cc)))) w.meta
        (both_of (all_append fits_member ms (x ∷ []) j (all_cons fits_member x [] (both_of (fits_signed_lem w64 x.ref s) t) (all_nil fits_member))) (both_right _ _ w.fit))
        (ap length (member_part_lem x) ∙ length_member x) (member_fits parts used r w.bytes ms x b u g) (rw o (staged_member parts used r w.bytes ms x b))
