-- Each part of a record, and the record: what is written is cut off again, and what is cut off was written.
use Rattle.std.specs.Prelude.{None, Option, Some}
use Prim.Native.Nat.{ℕ, zero, suc}
use mathlib.Core.Path.{◌≡◌, refl, ◌∙◌, ap}
use mathlib.Core.Bool.{true}
use mathlib.Core.List.{[], ◌∷◌, ◌++◌, append_assoc, append-nil}
use lib.IntN.{ℤ}
use lib.ListN.{length}
use mir.Syntax.{w64}
use Rattle.base.specs.Bytes.{Bytes, both, all}
use Rattle.base.proofs.Split.{both_left, both_right, both_of, no}
use Rattle.little.specs.Little.{is_byte, le}
use Rattle.kind.specs.Kind.{kind_number, of_number}
use Rattle.kind.proofs.Numbers.{number_back as kind_back, same_refl, same_yes}
use Rattle.kind.specs.declared.Kind.{Kind}
use Rattle.kind.specs.declared.Kind.TheVariants.{Node, Way, Relation}
use Rattle.model.specs.Record.{Meta, Member, Tag, Body, place, refs, members, Record, kind_of}
use Rattle.compact.specs.Layout.{u32, i64, meta_bytes, member_bytes, tag_bytes, joined_bytes, Head, head_bytes, head_of, body_bytes, parts_bytes, record_bytes}
use Rattle.compact.specs.Cut.{Cut, then_cut, found, cut_meta, member_as, cut_member, cut_tag, cut_body, cut_parts, used_up, whole, pushed_record, cut_counts, cut_head, KeptRecord, cut_record}
use Rattle.compact.specs.Fits.{fits_number, fits_signed, fits_meta, fits_member, fits_tag, fits_head, fits_body, fitting, fits_kept}
use Rattle.compact.proofs.Format.{Format, Starts, small_rest, first, begin, glue, of_cut, ends, bytes_back, bytes_forth, number, i32_format, i64_format, counted_of, counted_is, list}

pub type_fits : (k : Kind) → fits_number 1 (kind_number k) ≡ true
unfolding fits_number
type_fits Node = refl
type_fits Way = refl
type_fits Relation = refl

-- ---- metadata

meta_back : (m : Meta ℕ) (r : Bytes) → fits_meta m ≡ true → cut_meta (meta_bytes m ++ r) ≡ found m r
unfolding cut_meta meta_bytes fits_meta then_cut
meta_back m r h1 =
    let h2 = both_right _ _ h1 in let h3 = both_right _ _ h2 in let h4 = both_right _ _ h3 in let h5 = both_right _ _ h4 in
    simp append_assoc
    (rw (
      (number 1).back m.flags _ (both_left _ _ h1),
      i32_format.back m.version _ (both_left _ _ h2),
      i64_format.back m.timestamp _ (both_left _ _ h3),
      i64_format.back m.changeset _ (both_left _ _ h4),
      i32_format.back m.uid _ (both_left _ _ h5),
      (number 4).back m.user _ (both_right _ _ h5),
    ))

meta_forth : (s : Bytes) (c : Cut (Meta ℕ)) → all is_byte s ≡ true → cut_meta s ≡ Some c → (s ≡ meta_bytes c.item ++ c.rest) × (fits_meta c.item ≡ true)
unfolding cut_meta meta_bytes fits_meta
meta_forth s c b h =
    begin (number 1) b h (λ o1. begin i32_format o1.small o1.then (λ o2. begin i64_format o2.small o2.then (λ o3.
    begin i64_format o3.small o3.then (λ o4. begin i32_format o4.small o4.then (λ o5. begin (number 4) o5.small o5.then (λ o6.
    ends fits_meta meta_bytes o6.then
    (glue (glue (glue (glue (glue o1.here o2.here) o3.here) o4.here) o5.here) o6.here)
    (both_of o1.fit (both_of o2.fit (both_of o3.fit (both_of o4.fit (both_of o5.fit o6.fit)))))))))))

pub meta_format : Format fits_meta meta_bytes cut_meta
meta_format = record { back = meta_back; forth = meta_forth }

-- ---- members

member_back : (m : Member ℕ) (r : Bytes) → fits_member m ≡ true → cut_member (member_bytes m ++ r) ≡ found m r
unfolding cut_member member_bytes fits_member then_cut
member_back m r h =
    simp append_assoc
    (rw (i64_format.back m.ref _ (both_left _ _ h), (number 1).back (kind_number m.type) _ (type_fits m.type), (number 4).back m.role _ (both_right _ _ h), kind_back m.type))

-- a type byte that names a kind is the kind's
member_ends : (ref : ℤ) (n role : ℕ) {s r : Bytes} {c : Cut (Member ℕ)} → member_as ref (of_number n) role r ≡ Some c → Starts s (i64 ref ++ le 1 n ++ u32 role) r
    → both (fits_signed w64 ref) (fits_number 4 role) ≡ true → (s ≡ member_bytes c.item ++ c.rest) × (fits_member c.item ≡ true)
unfolding of_number member_bytes fits_member
member_ends ref zero role h p q = ends fits_member member_bytes h p q
member_ends ref (suc zero) role h p q = ends fits_member member_bytes h p q
member_ends ref (suc (suc zero)) role h p q = ends fits_member member_bytes h p q
member_ends ref (suc (suc (suc n))) role h p q = no cc

member_forth : (s : Bytes) (c : Cut (Member ℕ)) → all is_byte s ≡ true → cut_member s ≡ Some c → (s ≡ member_bytes c.item ++ c.rest) × (fits_member c.item ≡ true)
unfolding cut_member
member_forth s c b h =
    begin i64_format b h (λ o1. begin (number 1) o1.small o1.then (λ o2. begin (number 4) o2.small o2.then (λ o3.
    member_ends o1.item o2.item o3.item o3.then (glue (glue o1.here o2.here) o3.here) (both_of o1.fit o3.fit))))

pub member_format : Format fits_member member_bytes cut_member
member_format = record { back = member_back; forth = member_forth }

-- ---- tags

tag_back : (t : Tag ℕ) (r : Bytes) → fits_tag t ≡ true → cut_tag (tag_bytes t ++ r) ≡ found t r
unfolding cut_tag tag_bytes fits_tag then_cut
tag_back t r h =
    simp append_assoc
    (rw ((number 4).back t.key _ (both_left _ _ h), (number 4).back (length t.value) _ (both_right _ _ h), bytes_back (length t.value) t.value r refl))

tag_forth : (s : Bytes) (c : Cut (Tag ℕ)) → all is_byte s ≡ true → cut_tag s ≡ Some c → (s ≡ tag_bytes c.item ++ c.rest) × (fits_tag c.item ≡ true)
unfolding cut_tag tag_bytes fits_tag
tag_forth s c b h =
    begin (number 4) b h (λ o1. begin (number 4) o1.small o1.then (λ o2.
    first (λ t r. (o2.rest ≡ t ++ r) × (length t ≡ o2.item)) (bytes_forth o2.item o2.rest) o2.then (λ t r x e.
    ends fits_tag tag_bytes e (glue (glue o1.here (record { is = rw x.1 o2.here.is })) (record { is = x.0 })) (both_of o1.fit (rw x.1 o2.fit)))))

pub tag_format : Format fits_tag tag_bytes cut_tag
tag_format = record { back = tag_back; forth = tag_forth }

-- ---- heads

module _ (id : ℤ) (tags : ℕ) (r : Bytes) where
  pub head_back : (b : Body ℕ) → fits_head (kind_of b) (head_of id b tags) ≡ true → cut_head (kind_of b) (head_bytes (kind_of b) (head_of id b tags) ++ r) ≡ found (head_of id b tags) r
  unfolding cut_head cut_counts head_bytes head_of fits_head then_cut
  head_back (place lat lon) h1 =
      let h2 = both_right _ _ h1 in let h3 = both_right _ _ h2 in
      simp append_assoc
      (rw (i64_format.back id _ (both_left _ _ h1), i32_format.back lat _ (both_left _ _ h2), i32_format.back lon _ (both_left _ _ h3), (number 4).back tags _ (both_right _ _ h3)))
  head_back (refs rs) h1 =
      let h2 = both_right _ _ h1 in
      simp append_assoc
      (rw (i64_format.back id _ (both_left _ _ h1), (number 4).back (length rs) _ (both_left _ _ h2), (number 4).back tags _ (both_right _ _ h2)))
  head_back (members ms) h1 =
      let h2 = both_right _ _ h1 in
      simp append_assoc
      (rw (i64_format.back id _ (both_left _ _ h1), (number 4).back (length ms) _ (both_left _ _ h2), (number 4).back tags _ (both_right _ _ h2)))

counts_forth : (k : Kind) → ((h : Head) → head_bytes k h ≡ i64 h.id ++ u32 h.count ++ u32 h.tags)
    → ((h : Head) → fits_head k h ≡ both (fits_signed w64 h.id) (both (fits_number 4 h.count) (fits_number 4 h.tags)))
    → (s : Bytes) (c : Cut Head) → all is_byte s ≡ true → cut_counts s ≡ Some c → (s ≡ head_bytes k c.item ++ c.rest) × (fits_head k c.item ≡ true)
unfolding cut_counts
counts_forth k e f s c b h =
    begin i64_format b h (λ o1. begin (number 4) o1.small o1.then (λ o2. begin (number 4) o2.small o2.then (λ o3.
    ends (fits_head k) (head_bytes k) o3.then (rw (e _) (glue (glue o1.here o2.here) o3.here)) (rw (f _) (both_of o1.fit (both_of o2.fit o3.fit))))))

pub head_forth : (k : Kind) (s : Bytes) (c : Cut Head) → all is_byte s ≡ true → cut_head k s ≡ Some c → (s ≡ head_bytes k c.item ++ c.rest) × (fits_head k c.item ≡ true)
unfolding cut_head head_bytes fits_head
head_forth Node s c b h =
    begin i64_format b h (λ o1. begin i32_format o1.small o1.then (λ o2. begin i32_format o2.small o2.then (λ o3. begin (number 4) o3.small o3.then (λ o4.
    ends (fits_head Node) (head_bytes Node) o4.then (glue (glue (glue o1.here o2.here) o3.here) o4.here)
    (both_of o1.fit (both_of o2.fit (both_of o3.fit o4.fit)))))))
head_forth Way s c b h = counts_forth Way (λ h. refl) (λ h. refl) s c b h
head_forth Relation s c b h = counts_forth Relation (λ h. refl) (λ h. refl) s c b h

-- ---- refs or members, and tags

body_back : (id : ℤ) (b : Body ℕ) (tags : ℕ) (r : Bytes) → fits_body b ≡ true → cut_body (kind_of b) (head_of id b tags) (body_bytes b ++ r) ≡ found b r
unfolding cut_body head_of body_bytes fits_body then_cut
body_back id (place lat lon) tags r h = refl
body_back id (refs rs) tags r h = rw ((list i64_format (length rs)).back rs r (counted_of (fits_signed w64) rs h))
body_back id (members ms) tags r h = rw ((list member_format (length ms)).back ms r (counted_of fits_member ms h))

-- a body b that was cut off by the head h: s begins with it, and h is its head
pub record Cuts (k : Kind) (h : Head) (s : Bytes) (b : Body ℕ) (r : Bytes) : Type 0 where
  pub here : Starts s (body_bytes b) r
  pub fit : fits_body b ≡ true
  pub kind : kind_of b ≡ k
  pub head : head_bytes (kind_of b) (head_of h.id b h.tags) ≡ head_bytes k h
  pub head_fits : fits_head (kind_of b) (head_of h.id b h.tags) ≡ fits_head k h

body_forth : (k : Kind) (h : Head) (s : Bytes) (c : Cut (Body ℕ)) → all is_byte s ≡ true → cut_body k h s ≡ Some c → Cuts k h s c.item c.rest
unfolding cut_body body_bytes fits_body head_of head_bytes fits_head
body_forth Node h s c b e = of_cut (Cuts Node h s) e (record { here = record { is = refl }; fit = refl; kind = refl; head = refl; head_fits = refl })
body_forth Way h s c b e =
    begin (list i64_format h.count) b e (λ o. let n = counted_is (fits_signed w64) h.count o.item o.fit in
    of_cut (Cuts Way h s) o.then (record { here = o.here; fit = n.1; kind = refl; head = rw n.0; head_fits = rw n.0 }))
body_forth Relation h s c b e =
    begin (list member_format h.count) b e (λ o. let n = counted_is fits_member h.count o.item o.fit in
    of_cut (Cuts Relation h s) o.then (record { here = o.here; fit = n.1; kind = refl; head = rw n.0; head_fits = rw n.0 }))

pub head_id : (id : ℤ) (b : Body ℕ) (n : ℕ) → (head_of id b n).id ≡ id
unfolding head_of
head_id id (place lat lon) n = refl
head_id id (refs rs) n = refl
head_id id (members ms) n = refl

pub head_tags : (id : ℤ) (b : Body ℕ) (n : ℕ) → (head_of id b n).tags ≡ n
unfolding head_of
head_tags id (place lat lon) n = refl
head_tags id (refs rs) n = refl
head_tags id (members ms) n = refl

parts_back : (id : ℤ) (r : Record ℕ) (q : Bytes) → both (fits_body r.body) (all fits_tag r.tags) ≡ true
    → cut_parts (kind_of r.body) (head_of id r.body (length r.tags)) r.meta (parts_bytes r ++ q) ≡ found r q
unfolding cut_parts parts_bytes then_cut
parts_back id r q h =
    rw (
      append_assoc,
      body_back id r.body (length r.tags) (joined_bytes tag_bytes r.tags ++ q) (both_left _ _ h),
      head_tags id r.body (length r.tags),
      (list tag_format (length r.tags)).back r.tags q (counted_of fits_tag r.tags (both_right _ _ h)),
    )

-- the parts of a record r that were cut off by the head h: s begins with them, and h is the record's head
pub record Parts (k : Kind) (h : Head) (m : Meta ℕ) (s : Bytes) (r : Record ℕ) (q : Bytes) : Type 0 where
  pub here : Starts s (parts_bytes r) q
  pub fit : both (fits_body r.body) (all fits_tag r.tags) ≡ true
  pub kind : kind_of r.body ≡ k
  pub head : head_bytes (kind_of r.body) (head_of h.id r.body (length r.tags)) ≡ head_bytes k h
  pub head_fits : fits_head (kind_of r.body) (head_of h.id r.body (length r.tags)) ≡ fits_head k h
  pub meta : r.meta ≡ m

pub parts_forth : (k : Kind) (h : Head) (m : Meta ℕ) (s : Bytes) (c : Cut (Record ℕ)) → all is_byte s ≡ true → cut_parts k h m s ≡ Some c → Parts k h m s c.item c.rest
unfolding cut_parts parts_bytes
parts_forth k h m s c b e =
    first (Cuts k h s) (λ x. body_forth k h s x b) e (λ a r w t. begin (list tag_format h.tags) (small_rest w.here b) t (λ o.
    let n = counted_is fits_tag h.tags o.item o.fit in
    of_cut (Parts k h m s) o.then (record {
      here = glue w.here o.here;
      fit = both_of w.fit n.1;
      kind = w.kind;
      head = rw n.0 w.head;
      head_fits = rw n.0 w.head_fits;
      meta = refl;
    })))

-- ---- records

pub record_back : (id : ℤ) (r : Record ℕ) (q : Bytes) → fitting id r ≡ true → cut_record (kind_of r.body) (record_bytes id r ++ q) ≡ found (record { id = id; held = r }) q
unfolding cut_record record_bytes fitting then_cut
record_back id r q h =
    let n = length r.tags in
    let h2 = both_right _ _ h in
    let a : head_bytes (kind_of r.body) (head_of id r.body n) ++ meta_bytes r.meta ++ parts_bytes r ++ q
    ≡ head_bytes (kind_of r.body) (head_of id r.body n) ++ (meta_bytes r.meta ++ (parts_bytes r ++ q)) = simp append_assoc in
    rw (
      a,
      head_back id n (meta_bytes r.meta ++ (parts_bytes r ++ q)) r.body (both_left _ _ h),
      meta_format.back r.meta (parts_bytes r ++ q) (both_left _ _ h2),
      parts_back id r q (both_right _ _ h2),
      head_id id r.body n,
    )

-- a head, metadata and parts that go together are a record's bytes
pub together : {k : Kind} {h : Head} {m : Meta ℕ} {s : Bytes} {r : Record ℕ} {q : Bytes} → Parts k h m s r q → fits_head k h ≡ true → fits_meta m ≡ true
    → (head_bytes k h ++ meta_bytes m ++ parts_bytes r ≡ record_bytes h.id r) × (fitting h.id r ≡ true)
unfolding record_bytes fitting
together w f g = (rw (w.head, w.meta), both_of (w.head_fits ∙ f) (both_of (rw w.meta g) w.fit))

record_forth : (k : Kind) (s : Bytes) (c : Cut KeptRecord) → all is_byte s ≡ true → cut_record k s ≡ Some c → (s ≡ record_bytes c.item.id c.item.held ++ c.rest) × (fits_kept k c.item ≡ true)
unfolding cut_record fits_kept
record_forth k s c b e =
    first (λ h r. (s ≡ head_bytes k h ++ r) × (fits_head k h ≡ true)) (λ x. head_forth k s x b) e (λ h r x t.
    let p : Starts s (head_bytes k h) r = record { is = x.0 } in
    begin meta_format (small_rest p b) t (λ o. first (Parts k h o.item o.rest) (λ y. parts_forth k h o.item o.rest y o.small) o.then (λ d q w u.
    let v = together w x.1 o.fit in
    ends (fits_kept k) (λ x. record_bytes x.id x.held) u (record { is = rw (← v.0) (glue (glue p o.here) w.here).is })
    (both_of (rw w.kind (same_refl k)) v.1))))

kept_back : (k : Kind) (x : KeptRecord) (q : Bytes) → fits_kept k x ≡ true → cut_record k (record_bytes x.id x.held ++ q) ≡ found x q
unfolding fits_kept
kept_back k x q h = rw (← same_yes (kind_of x.held.body) k (both_left _ _ h)) (record_back x.id x.held q (both_right _ _ h))

pub record_format : (k : Kind) → Format (fits_kept k) (λ x. record_bytes x.id x.held) (cut_record k)
record_format k = record { back = kept_back k; forth = record_forth k }

-- ---- a direct push

pub pushed_back : (id : ℤ) (r : Record ℕ) → both (fits_body r.body) (all fits_tag r.tags) ≡ true
    → pushed_record (kind_of r.body) (head_of id r.body (length r.tags)) r.meta (parts_bytes r) ≡ Some r
unfolding pushed_record
pushed_back id r h = let e = parts_back id r [] h in rw append-nil at (ap whole e)

-- what is pushed is a record's parts up to the last byte
pub pushed : (k : Kind) (h : Head) (m : Meta ℕ) (parts : Bytes) (r : Record ℕ) → all is_byte parts ≡ true → pushed_record k h m parts ≡ Some r → Parts k h m parts r []
unfolding pushed_record
pushed k h m parts r b e = go (cut_parts k h m parts) refl e
  where
    used_up_lem : (x : Record ℕ) (q : Bytes) → used_up x q ≡ Some r → Parts k h m parts x q → Parts k h m parts r []
    used_up_lem x [] e w = let z : x ≡ r = cc in rw (← z) w
    used_up_lem x (b ∷ q) e w = no cc

    go : (o : Option (Cut (Record ℕ))) → cut_parts k h m parts ≡ o → whole o ≡ Some r → Parts k h m parts r []
    go None t e = no cc
    go (Some c) t e = used_up_lem c.item c.rest e (parts_forth k h m parts c b t)

-- the bytes that a direct push appends are its record's
pub pushed_bytes : (k : Kind) (h : Head) (m : Meta ℕ) (parts : Bytes) (r : Record ℕ) → all is_byte parts ≡ true → fits_head k h ≡ true → fits_meta m ≡ true
    → pushed_record k h m parts ≡ Some r → (head_bytes k h ++ meta_bytes m ++ parts ≡ record_bytes h.id r) × (fitting h.id r ≡ true)
pushed_bytes k h m parts r b f g e =
    let w = pushed k h m parts r b e in
    let p : parts ≡ parts_bytes r = rw append-nil at w.here.is in
    rw p (together w f g)
