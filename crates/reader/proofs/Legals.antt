-- What a decision holds, in bits: an element that begins and its metadata are legal, and a legal record stays legal with one part more within the limits.
use Prim.Native.Nat.{ℕ, ◌+◌, ◌<◌, ◌≤◌}
use mathlib.Core.Path.{◌≡◌, refl, ◌∙◌}
use mathlib.Core.Bool.{Bool, true, false}
use mathlib.Core.List.{List, [], ◌∷◌}
use native.Mathlib.Omega.{arith}
use lib.Dec.{leb}
use lib.IntN.{ℤ, pos}
use lib.ListN.{length, take}
use mir.Syntax.{w32, w64}
use mir.Val.{SFits, to_z, of_z}
use mir.Facts.{to_z-of_z, Fits-of_z}
use borrow.Author.Tests.{le-leb, lt-ltb, eq-eqb}
use Rattle.base.specs.Bytes.{Bytes, both, either, all}
use Rattle.base.proofs.Split.{by_bool, both_left, both_right, both_of, either_left, either_right}
use Rattle.base.proofs.Lists.{all_append, all_cons, all_nil}
use Rattle.little.specs.Little.{is_byte, le}
use Rattle.little.proofs.Littles.{bytes_take, bytes_drop, bytes_le}
use Rattle.osm_id.proofs.Orders.{same_is}
use Rattle.text.specs.Check.{is_text}
use Rattle.kind.specs.declared.Kind.{Kind}
use Rattle.kind.specs.declared.Kind.TheVariants as K
use Rattle.model.specs.Record.{Meta, Member, Tag, Body, place, refs, members, Record, kind_of, flagged, claim_of}
use Rattle.model.specs.Swap.{swap_meta, swap_body}
use Rattle.compact.specs.Held.{meta_of, head_in, node_head, counts_head}
use Rattle.compact.specs.Layout.{head_of, body_bytes, joined_bytes}
use Rattle.compact.specs.Fits.{fits_body, fits_signed, fits_member}
use Rattle.compact.specs.Legal.{limits, handle, legal_meta, body_handles, legal_handles, legal_texts, in_range, within_limits, legal}
use Rattle.compact.specs.declared.CompactMember.{CompactMember}
use Rattle.compact.specs.declared.PushHead.{PushHead}
use Rattle.reader_stage.specs.Stage.{inserted_at, staged, ref_part, member_part, tag_part}
use Rattle.reader_stage.proofs.Parts.{with_ref, with_member, with_tag}
use Rattle.overlay.specs.Given.{head_fits, meta_fits}
use Rattle.overlay.proofs.Bounds.{over_small}
use Rattle.event_fields.specs.Field.{no_meta}
use Rattle.event_fields.proofs.Metadata.{Legal, no_legal}
use Rattle.event_decision.proofs.Lawful.{First}
use Rattle.interner.specs.Texts.{text_of}
use Rattle.acts.specs.Turn.{no_body, no_element, first}
use Rattle.reader.specs.declared.Pending.{Pending}
use Rattle.reader.specs.State.{no_pending, more_tags, more_parts}
use Rattle.reader.specs.Means.{staged_of}
use Rattle.reader.specs.Step.{bits_with_user, head_for}
use Rattle.reader.proofs.Small.{text_small}
use Rattle.reader.proofs.Held.{Partless, Held, held_means, element_as, bare_record, bare_held}

-- ---- metadata

unless : (b c : Bool) → (b ≡ false → c ≡ true) → either b c ≡ true
unless b c f = by_bool b (λ e. either_left b c e) (λ e. either_right b (f e))

module _ (m : Meta Bytes) (w : Legal m) (u : ℕ) where
  pub legal_meta_lem : (n : ℕ) → u < n → (flagged 4 m.flags ≡ false → u ≡ 0) → legal_meta n (meta_of (bits_with_user m u)) ≡ true
  unfolding legal_meta meta_of
  legal_meta_lem n h z =
      rw (to_z-of_z w.version_fits, to_z-of_z w.timestamp_fits, to_z-of_z w.changeset_fits, to_z-of_z w.uid_fits)
      (both_of (both_of (le-leb m.flags 15 w.small) (unless _ _ (λ e. eq-eqb m.flags 0 (w.flags e))))
      (both_of (unless _ _ (λ e. (same_is m.version (pos 0)).1 (w.version e)))
      (both_of (unless _ _ (λ e. both_of ((same_is m.timestamp (pos 0)).1 (w.timestamp e)) (both_of ((same_is m.changeset (pos 0)).1 (w.changeset e)) ((same_is m.uid (pos 0)).1 (w.uid e)))))
      (both_of (unless _ _ (λ e. eq-eqb u 0 (z e))) (lt-ltb u n h)))))

  pub meta_fits_lem : u ≤ 4096 → meta_fits (bits_with_user m u) ≡ true
  unfolding meta_fits
  meta_fits_lem l =
      both_of (lt-ltb m.flags 256 (omega (arith, w.small)))
      (both_of (lt-ltb (of_z w32 m.version) 4294967296 (Fits-of_z w.version_fits).fits)
      (both_of (lt-ltb (of_z w64 m.timestamp) 18446744073709551616 (Fits-of_z w.timestamp_fits).fits)
      (both_of (lt-ltb (of_z w64 m.changeset) 18446744073709551616 (Fits-of_z w.changeset_fits).fits)
      (both_of (lt-ltb (of_z w32 m.uid) 4294967296 (Fits-of_z w.uid_fits).fits) (lt-ltb u 4294967296 (omega arith))))))

  -- it claims the version that the event gives
  pub claim_same : claim_of (meta_of (bits_with_user m u)) ≡ claim_of m
  unfolding claim_of meta_of
  claim_same = rw (to_z-of_z w.version_fits)

  -- and comes back from its bits, with its user's text
  pub meta_comes : (f : ℕ → Bytes) → f u ≡ m.user → swap_meta f (meta_of (bits_with_user m u)) ≡ m
  unfolding meta_of
  meta_comes f e =
      rw (to_z-of_z w.version_fits, to_z-of_z w.timestamp_fits, to_z-of_z w.changeset_fits, to_z-of_z w.uid_fits)
      (λ i. record { flags = m.flags; version = m.version; timestamp = m.timestamp; changeset = m.changeset; uid = m.uid; user = e i })

-- ---- an element that begins

abbrev pub body_in : Body Bytes → Body ℕ
body_in (place lat lon) = place lat lon
body_in (refs rs) = refs []
body_in (members ms) = members []

pub body_comes : (f : ℕ → Bytes) (b : Body Bytes) → First b → swap_body f (body_in b) ≡ b
body_comes f (place lat lon) w = refl
body_comes f (refs rs) w = rw w
body_comes f (members ms) w = rw w

pub begun : (id : ℤ) (b : Body Bytes) → First b → Partless (kind_of b) (head_for id b) (body_in b)
unfolding head_of head_in node_head counts_head fits_body body_bytes body_handles in_range joined_bytes
begun id (place lat lon) w =
    record {
      kind = refl;
      head = rw (to_z-of_z w.0.1, to_z-of_z w.1.1);
      fit = refl;
      parts = refl;
      handles = λ n. refl;
      inside = both_of (le-leb _ _ w.0.0) (le-leb _ _ w.1.0);
      few = refl;
    }
begun id (refs rs) w = record { kind = refl; head = refl; fit = all_nil (fits_signed w64); parts = refl; handles = λ n. refl; inside = refl; few = refl }
begun id (members ms) w =
    record { kind = refl; head = refl; fit = all_nil fits_member; parts = refl; handles = λ n. all_nil (λ (m : Member ℕ). handle n m.role); inside = refl; few = refl }

bits_fit : (id lat lon : ℕ) → id < 18446744073709551616 → lat < 4294967296 → lon < 4294967296 → head_fits (record { id = id; lat = lat; lon = lon; count = 0; tags = 0 }) ≡ true
unfolding head_fits
bits_fit id lat lon a b c = both_of (lt-ltb id 18446744073709551616 a) (both_of (lt-ltb lat 4294967296 b) (both_of (lt-ltb lon 4294967296 c) (both_of refl refl)))

pub head_fits_lem : (id : ℤ) (b : Body Bytes) → SFits w64 id → First b → head_fits (head_for id b) ≡ true
head_fits_lem id (place lat lon) f w = bits_fit (of_z w64 id) (of_z w32 lat) (of_z w32 lon) (Fits-of_z f).fits (Fits-of_z w.0.1).fits (Fits-of_z w.1.1).fits
head_fits_lem id (refs rs) f w = bits_fit (of_z w64 id) 0 0 (Fits-of_z f).fits (omega arith) (omega arith)
head_fits_lem id (members ms) f w = bits_fit (of_z w64 id) 0 0 (Fits-of_z f).fits (omega arith) (omega arith)

-- the id comes back from its bits
pub bits_id : (id : ℤ) (b : Body Bytes) → SFits w64 id → to_z w64 (head_for id b).id ≡ id
bits_id id (place lat lon) f = to_z-of_z f
bits_id id (refs rs) f = to_z-of_z f
bits_id id (members ms) f = to_z-of_z f

-- so it is staged as a legal element, and stands for what the turn begins
module _ (id : ℤ) (m : Meta Bytes) (b : Body Bytes) (fits : SFits w64 id) (w : Legal m) (f : First b) (n u : ℕ) (held : u < n) (small : u ≤ 4096)
    (none_named : flagged 4 m.flags ≡ false → u ≡ 0) where
  abbrev pub begun_as : Pending
  begun_as = record { head = head_for id b; meta = bits_with_user m u; used = 0 }

  abbrev pub begun_held : (parts : Bytes) → Held n (kind_of b) parts begun_as
  begun_held parts = bare_held (begun id b f) n (bits_with_user m u) parts (legal_meta_lem m w u n held none_named) (head_fits_lem id b fits f) (meta_fits_lem m w u small)

  pub begun_means : (texts : List Bytes) → text_of texts u ≡ m.user → element_as texts (head_for id b) (bare_record (bits_with_user m u) (body_in b)) ≡ record { id = id; held = first m b }
  begun_means texts e =
      let x = bits_id id b fits in
      let y = meta_comes m w u (text_of texts) e in
      let v = body_comes (text_of texts) b f in
      λ i. record { id = x i; held = record { meta = y i; body = v i; tags = [] } }

-- between elements stands one that began with id 0, no metadata and nothing in it
first_nothing : (k : Kind) → First (no_body k)
first_nothing K.Node = ((omega arith, no_legal.version_fits), (omega arith, no_legal.version_fits))
first_nothing K.Way = refl
first_nothing K.Relation = refl

module _ (n : ℕ) (parts : Bytes) (held : 0 < n) where
  abbrev begun_nothing : (k : Kind) → Held n (kind_of (no_body k)) parts (begun_as (pos 0) no_meta (no_body k) no_legal.timestamp_fits no_legal (first_nothing k) n 0 held (omega arith) (λ z. refl))
  begun_nothing k = begun_held (pos 0) no_meta (no_body k) no_legal.timestamp_fits no_legal (first_nothing k) n 0 held (omega arith) (λ z. refl) parts

  pub nothing_held : (k : Kind) → Held n k parts no_pending
  nothing_held K.Node = begun_nothing K.Node
  nothing_held K.Way = begun_nothing K.Way
  nothing_held K.Relation = begun_nothing K.Relation

  -- nothing is made of it
  pub nothing_means : (k : Kind) (texts : List Bytes) → text_of texts 0 ≡ [] → staged_of texts k parts no_pending ≡ no_element k
  nothing_means K.Node texts e = held_means n K.Node parts no_pending (begun_nothing K.Node) texts ∙ begun_means (pos 0) no_meta (no_body K.Node) no_legal.timestamp_fits no_legal (first_nothing K.Node) n 0 held (omega arith) (λ z. refl) texts e
  nothing_means K.Way texts e = held_means n K.Way parts no_pending (begun_nothing K.Way) texts ∙ begun_means (pos 0) no_meta (no_body K.Way) no_legal.timestamp_fits no_legal (first_nothing K.Way) n 0 held (omega arith) (λ z. refl) texts e
  nothing_means K.Relation texts e =
      held_means n K.Relation parts no_pending (begun_nothing K.Relation) texts ∙ begun_means (pos 0) no_meta (no_body K.Relation) no_legal.timestamp_fits no_legal (first_nothing K.Relation) n 0 held (omega arith) (λ z. refl) texts e

-- ---- one part more

module _ (n : ℕ) (r : Record ℕ) (l : legal n r ≡ true) where
  handles_of : legal_handles n r ≡ true
  unfolding legal
  handles_of = both_left _ _ l

  texts_of : legal_texts r ≡ true
  unfolding legal
  texts_of = both_left _ _ (both_right _ _ l)

  range_of : in_range r.body ≡ true
  unfolding legal
  range_of = both_left _ _ (both_right _ _ (both_right _ _ l))

  meta_of_lem : legal_meta n r.meta ≡ true
  unfolding legal_handles
  meta_of_lem = both_left _ _ handles_of

  body_of : body_handles n r.body ≡ true
  unfolding legal_handles
  body_of = both_left _ _ (both_right _ _ handles_of)

  keys_of : all (λ (x : Tag ℕ). handle n x.key) r.tags ≡ true
  unfolding legal_handles
  keys_of = both_right _ _ (both_right _ _ handles_of)

  pub legal_tag : (t : Tag ℕ) → t.key < n → is_text t.value ≡ true → within_limits limits (with_tag r t) ≡ true → legal n (with_tag r t) ≡ true
  unfolding legal legal_handles legal_texts
  legal_tag t h v f =
      let p : Tag ℕ → Bool = λ x. handle n x.key in
      let q : Tag ℕ → Bool = λ x. is_text x.value in
      both_of (both_of meta_of_lem (both_of body_of (all_append p r.tags (t ∷ []) keys_of (all_cons p t [] (lt-ltb t.key n h) (all_nil p)))))
      (both_of (all_append q r.tags (t ∷ []) texts_of (all_cons q t [] v (all_nil q))) (both_of range_of f))

  pub legal_ref : (rs : List ℤ) (z : ℤ) → within_limits limits (with_ref r rs z) ≡ true → legal n (with_ref r rs z) ≡ true
  unfolding legal legal_handles legal_texts body_handles in_range
  legal_ref rs z f = both_of (both_of meta_of_lem (both_of refl keys_of)) (both_of texts_of (both_of refl f))

  pub legal_member : (ms : List (Member ℕ)) (x : Member ℕ) → r.body ≡ members ms → x.role < n → within_limits limits (with_member r ms x) ≡ true → legal n (with_member r ms x) ≡ true
  unfolding legal legal_handles legal_texts body_handles in_range
  legal_member ms x b h f =
      let p : Member ℕ → Bool = λ y. handle n y.role in
      let g : body_handles n (members ms) ≡ true = rw b at body_of in
      both_of (both_of meta_of_lem (both_of (all_append p ms (x ∷ []) g (all_cons p x [] (lt-ltb x.role n h) (all_nil p))) keys_of)) (both_of texts_of (both_of refl f))

-- its bytes are bytes, and its counts fit

pub staged_small : (parts : Bytes) (used at : ℕ) (x : Bytes) → all is_byte parts ≡ true → all is_byte x ≡ true → all is_byte (staged parts used at x) ≡ true
unfolding staged
staged_small parts used at x p q =
    let u = bytes_take used parts p in
    let i : all is_byte (inserted_at at x (take used parts)) ≡ true =
    all_append is_byte (take at (take used parts)) _ (bytes_take at _ u) (all_append is_byte x _ q (bytes_drop at _ u)) in
    by_bool (both (leb at used) (leb (used + length x) (length parts))) (λ t. rw t (over_small parts 0 _ p i)) (λ t. rw t p)

pub tag_small : (key : ℕ) (value : Bytes) → is_text value ≡ true → all is_byte (tag_part key value) ≡ true
tag_small key value l = all_append is_byte (le 4 key) _ (bytes_le 4 key) (all_append is_byte (le 4 (length value)) value (bytes_le 4 _) (text_small value l))

pub ref_small : (v : ℕ) → all is_byte (ref_part v) ≡ true
ref_small v = bytes_le 8 v

pub member_small : (m : CompactMember) → all is_byte (member_part m) ≡ true
member_small m = all_append is_byte (le 8 m.reference) _ (bytes_le 8 _) (all_append is_byte (le 1 m.kind) (le 4 m.role) (bytes_le 1 _) (bytes_le 4 _))

module _ (h : PushHead) (f : head_fits h ≡ true) where
  pub tags_fit : h.tags + 1 ≤ 256 → head_fits (more_tags h) ≡ true
  unfolding head_fits
  tags_fit l =
      let f2 = both_right _ _ f in
      let f3 = both_right _ _ f2 in
      let f4 = both_right _ _ f3 in
      both_of (both_left _ _ f) (both_of (both_left _ _ f2) (both_of (both_left _ _ f3) (both_of (both_left _ _ f4) (lt-ltb (h.tags + 1) 4294967296 (omega arith)))))

  pub count_fits : h.count + 1 ≤ 2000 → head_fits (more_parts h) ≡ true
  unfolding head_fits
  count_fits l =
      let f2 = both_right _ _ f in
      let f3 = both_right _ _ f2 in
      let f4 = both_right _ _ f3 in
      both_of (both_left _ _ f) (both_of (both_left _ _ f2) (both_of (both_left _ _ f3) (both_of (lt-ltb (h.count + 1) 4294967296 (omega arith)) (both_right _ _ f4))))
