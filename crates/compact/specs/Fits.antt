-- Which records can be written: each number fits its field, and each count a u32.
use Rattle.std.specs.Prelude.{ℕ, ◌^◌, Bool, true, ltb, ℤ, length}
use Rattle.std.specs.Int.Signed.{mag}
use Rattle.std.specs.Int.{Width, w32, w64}
use mir.Val.{hbits}
use Rattle.base.specs.Bytes.{both, all}
use Rattle.kind.specs.Kind.{same_kind}
use Rattle.kind.specs.declared.Kind.{Kind}
use Rattle.kind.specs.declared.Kind.TheVariants.{Node, Way, Relation}
use Rattle.model.specs.Record.{Meta, Member, Tag, Body, place, refs, members, Record, kind_of}
use Rattle.compact.specs.Layout.{Head, head_of}
use Rattle.compact.specs.Cut.{KeptRecord}

-- a number of n bytes
unfoldable pub fits_number : ℕ → ℕ → Bool
fits_number n v = ltb v (256 ^ n)

-- a signed number of a width: from -2^31 to 2^31 - 1 at 32 bits
unfoldable pub fits_signed : Width → ℤ → Bool
fits_signed w z = ltb (mag z) (2 ^ hbits w)

unfoldable pub fits_meta : Meta ℕ → Bool
fits_meta m =
    both (fits_number 1 m.flags) (both (fits_signed w32 m.version) (both (fits_signed w64 m.timestamp)
    (both (fits_signed w64 m.changeset) (both (fits_signed w32 m.uid) (fits_number 4 m.user)))))

unfoldable pub fits_member : Member ℕ → Bool
fits_member m = both (fits_signed w64 m.ref) (fits_number 4 m.role)

unfoldable pub fits_tag : Tag ℕ → Bool
fits_tag t = both (fits_number 4 t.key) (fits_number 4 (length t.value))

unfoldable pub fits_head : Kind → Head → Bool
fits_head Node h = both (fits_signed w64 h.id) (both (fits_signed w32 h.lat) (both (fits_signed w32 h.lon) (fits_number 4 h.tags)))
fits_head Way h = both (fits_signed w64 h.id) (both (fits_number 4 h.count) (fits_number 4 h.tags))
fits_head Relation h = both (fits_signed w64 h.id) (both (fits_number 4 h.count) (fits_number 4 h.tags))

unfoldable pub fits_body : Body ℕ → Bool
fits_body (place lat lon) = true
fits_body (refs rs) = all (fits_signed w64) rs
fits_body (members ms) = all fits_member ms

-- a record under an id
unfoldable pub fitting : ℤ → Record ℕ → Bool
fitting id r =
    both (fits_head (kind_of r.body) (head_of id r.body (length r.tags)))
    (both (fits_meta r.meta) (both (fits_body r.body) (all fits_tag r.tags)))

-- a record of a kind, with its id
unfoldable pub fits_kept : Kind → KeptRecord → Bool
fits_kept k x = both (same_kind (kind_of x.held.body) k) (fitting x.id x.held)
