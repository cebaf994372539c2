-- What the bounds of a caller's numbers give: a head and metadata that fit their fields, an id of 64 bits, and bytes.
use Prim.Native.Nat.{ℕ, ◌+◌, ◌-◌, ◌<◌}
use mathlib.Core.Path.{◌≡◌, refl}
use mathlib.Core.Bool.{true}
use mathlib.Core.List.{List, ◌++◌}
use lib.ListN.{length, take, drop}
use mir.Syntax.{w64}
use mir.Val.{SFits, to_z}
use mir.Facts.{Fits-of_lt, sfits_to_z}
use borrow.Author.Tests.{ltb-true}
use Rattle.base.specs.Bytes.{Bytes, all}
use Rattle.base.proofs.Split.{both_left, both_right}
use Rattle.base.proofs.Lists.{all_append}
use Rattle.little.specs.Little.{is_byte, over}
use Rattle.little.proofs.Littles.{bytes_take, bytes_drop, bytes_le}
use Rattle.kind.specs.declared.Kind.{Kind}
use Rattle.kind.specs.declared.Kind.TheVariants.{Node, Way, Relation}
use Rattle.model.specs.Record.{Meta}
use Rattle.compact.specs.Layout.{Head, head_bytes, meta_bytes}
use Rattle.compact.specs.Held.{meta_of, node_head, counts_head, head_in}
use Rattle.compact.specs.Fits.{fits_head, fits_meta}
use Rattle.compact.specs.declared.ArenaMeta.{ArenaMeta}
use Rattle.compact.specs.declared.PushHead.{PushHead}
use Rattle.compact.proofs.Holds.{MetaHeld, meta_fits_lem, node_fits, counts_fits, relation_fits}
use Rattle.overlay_blocks.specs.declared.KindPart.{KindPart}
use Rattle.overlay_blocks.specs.Blocks.{sizes_in, part_in, text_part_in}
use Rattle.overlay.specs.Overlay.{kind_store_of}
use Rattle.overlay.specs.Lent.{overlay_in}
use Rattle.overlay.proofs.Puts.{kind_store_for}
use Rattle.overlay.specs.Given.{head_fits, meta_fits, InBytes}

-- ---- metadata

meta_held : (m : ArenaMeta) → meta_fits m ≡ true → MetaHeld m
unfolding meta_fits
meta_held m e =
    let e2 = both_right _ _ e in
    let e3 = both_right _ _ e2 in
    let e4 = both_right _ _ e3 in
    let e5 = both_right _ _ e4 in
    record {
      flags = ltb-true _ _ (both_left _ _ e);
      version = ltb-true _ _ (both_left _ _ e2);
      timestamp = ltb-true _ _ (both_left _ _ e3);
      changeset = ltb-true _ _ (both_left _ _ e4);
      uid = ltb-true _ _ (both_left _ _ e5);
      user = ltb-true _ _ (both_right _ _ e5);
    }

pub meta_given : (m : ArenaMeta) → meta_fits m ≡ true → fits_meta (meta_of m) ≡ true
meta_given m e = meta_fits_lem m (meta_held m e)

-- ---- heads

module _ (h : PushHead) where
  record Held : Type 0 where
    id : h.id < 18446744073709551616
    lat : h.lat < 4294967296
    lon : h.lon < 4294967296
    count : h.count < 4294967296
    tags : h.tags < 4294967296

  held : head_fits h ≡ true → Held
  unfolding head_fits
  held e =
      let e2 = both_right _ _ e in
      let e3 = both_right _ _ e2 in
      let e4 = both_right _ _ e3 in
      record {
        id = ltb-true _ _ (both_left _ _ e);
        lat = ltb-true _ _ (both_left _ _ e2);
        lon = ltb-true _ _ (both_left _ _ e3);
        count = ltb-true _ _ (both_left _ _ e4);
        tags = ltb-true _ _ (both_right _ _ e4);
      }

  pub head_given : (k : Kind) → head_fits h ≡ true → fits_head k (head_in k h) ≡ true
  unfolding head_in
  head_given Node e = let f = held e in node_fits _ (record { id = f.id; lat = f.lat; lon = f.lon; tags = f.tags })
  head_given Way e = let f = held e in counts_fits h.id h.count h.tags f.id f.count f.tags
  head_given Relation e =
      let f = held e in rw relation_fits (counts_fits h.id h.count h.tags f.id f.count f.tags)

  -- the id that is given
  pub head_id : (k : Kind) → (head_in k h).id ≡ to_z w64 h.id
  unfolding head_in node_head counts_head
  head_id Node = refl
  head_id Way = refl
  head_id Relation = refl

  pub id_given : head_fits h ≡ true → SFits w64 (to_z w64 h.id)
  id_given e = sfits_to_z {w = w64} (Fits-of_lt (held e).id)

-- ---- bytes

pub over_small : (s : Bytes) (at : ℕ) (t : Bytes) → all is_byte s ≡ true → all is_byte t ≡ true → all is_byte (over s at t) ≡ true
unfolding over
over_small s at t a b =
    bytes_take (length s) (take at s ++ t ++ drop (at + length t) s)
    (all_append is_byte (take at s ++ t) _ (all_append is_byte (take at s) t (bytes_take at s a) b) (bytes_drop (at + length t) s a))

meta_small : (m : Meta ℕ) → all is_byte (meta_bytes m) ≡ true
unfolding meta_bytes
meta_small m =
    all_append is_byte _ _ (all_append is_byte _ _ (all_append is_byte _ _ (all_append is_byte _ _ (all_append is_byte _ _ (bytes_le 1 _) (bytes_le 4 _))
    (bytes_le 8 _)) (bytes_le 8 _)) (bytes_le 4 _)) (bytes_le 4 _)

head_small : (k : Kind) (h : Head) → all is_byte (head_bytes k h) ≡ true
unfolding head_bytes
head_small Node h = all_append is_byte _ _ (all_append is_byte _ _ (all_append is_byte _ _ (bytes_le 8 _) (bytes_le 4 _)) (bytes_le 4 _)) (bytes_le 4 _)
head_small Way h = all_append is_byte _ _ (all_append is_byte _ _ (bytes_le 8 _) (bytes_le 4 _)) (bytes_le 4 _)
head_small Relation h = all_append is_byte _ _ (all_append is_byte _ _ (bytes_le 8 _) (bytes_le 4 _)) (bytes_le 4 _)

-- the bytes of a push
pub written_small : (k : Kind) (h : Head) (m : Meta ℕ) (parts : Bytes) → all is_byte parts ≡ true → all is_byte (head_bytes k h ++ meta_bytes m ++ parts) ≡ true
written_small k h m parts b = all_append is_byte _ parts (all_append is_byte (head_bytes k h) (meta_bytes m) (head_small k h) (meta_small m)) b

-- ---- the bytes of lent slices are bytes

pub lent_in_bytes : (words bytes counters : List ℕ) → all is_byte bytes ≡ true → InBytes (overlay_in words bytes counters)
lent_in_bytes words bytes counters b = record { arenas = arenas; texts = bytes_drop (text_part_in (sizes_in counters) (length words) (length bytes)).bytes bytes b }
  where
    part : Kind → KindPart
    part k = part_in k (sizes_in counters) (length words) (length bytes)

    arenas : (k : Kind) → all is_byte (kind_store_of k (overlay_in words bytes counters)).arena ≡ true
    arenas k = rw (kind_store_for k (sizes_in counters) words bytes counters) (bytes_take ((part k).end - (part k).first) (drop (part k).first bytes) (bytes_drop (part k).first bytes b))
