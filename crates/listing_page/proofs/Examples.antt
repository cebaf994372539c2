-- Examples, by computation: output A of document 01, ids in OSM order, a version that an unversioned push keeps.
use Rattle.std.specs.Prelude.{Some}
use mathlib.Core.Path.{◌≡◌, refl}
use mathlib.Core.List.{List, [], ◌∷◌, map}
use lib.IntN.{ℤ, pos, negsuc}
use Rattle.base.specs.Bytes.{Bytes, both}
use Rattle.kind.specs.Kind.{same_kind}
use Rattle.kind.specs.declared.Kind.TheVariants.{Way}
use Rattle.version_floor.specs.Version.{higher}
use Rattle.osm_id.specs.Order.{before, same_id}
use Rattle.text.specs.Escape.{escaped, escape}
use Rattle.line.specs.Line.{tabbed, line}
use Rattle.line.specs.Decimal.{digits_before, number_text, integer_text}
use Rattle.model.specs.Record.{Body, place, refs, Record, flagged, claim_of}
use Rattle.model.specs.Act.{Act, push, delete, live, same_key, key_before}
use Rattle.listing_page.specs.Summary.{find_key, put_row, summary_from, summary}
use Rattle.listing_page.specs.Listing.{kind_field, version_field, each, counted, body_fields, record_fields, row_fields, listing}

-- a record without metadata or tags
abbrev bare : Body Bytes → Record Bytes
bare b = record {
  meta = record { flags = 0; version = pos 0; timestamp = pos 0; changeset = pos 0; uid = pos 0; user = [] };
  body = b;
  tags = [];
}

-- ids pushed in another order come out as 0, -1, -2, 1
abbrev pushed : ℤ → Act Bytes
pushed id = push id (bare (place (pos 0) (pos 0)))

pub osm_order : map (λ r. r.key.id) (summary (pushed (pos 1) ∷ pushed (negsuc 1) ∷ pushed (pos 0) ∷ pushed (negsuc 0) ∷ [])) ≡ pos 0 ∷ negsuc 0 ∷ negsuc 1 ∷ pos 1 ∷ []
unfolding summary summary_from find_key put_row same_key key_before same_kind both before same_id
osm_order = refl

-- after a delete of way -4 at version 2, a push without a version: the way is live, and version 2 is still known
pub version_kept : summary (delete Way (negsuc 3) (Some (pos 2)) ∷ push (negsuc 3) (bare (refs [])) ∷ [])
    ≡ record { key = record { kind = Way; id = negsuc 3 }; high = Some (pos 2); last = live (bare (refs [])) } ∷ []
unfolding summary summary_from find_key put_row same_key key_before same_kind both before same_id higher claim_of flagged
version_kept = refl

-- the acts of input A, and output A
abbrev input_a : List (Act Bytes)
input_a =
    push (pos 7) (record {
      meta = record { flags = 9; version = pos 3; timestamp = pos 0; changeset = pos 0; uid = pos 0; user = [] };
      body = place (pos 10) (negsuc 19);
      tags = record { key = 110 ∷ 97 ∷ 109 ∷ 101 ∷ []; value = 65 ∷ [] } ∷ [];
    })
    ∷ delete Way (negsuc 3) (Some (pos 2))
    ∷ []

abbrev output_a : Bytes
output_a =
    110 ∷ 9 ∷ 55 ∷ 9 ∷ 43 ∷ 9 ∷ 51 ∷ 9 ∷ 57 ∷ 9 ∷ 51 ∷ 9 ∷ 48 ∷ 9 ∷ 48 ∷ 9 ∷ 48 ∷ 9 ∷ 9 ∷ 49 ∷ 48 ∷ 9 ∷ 45 ∷ 50 ∷ 48 ∷ 9 ∷ 49 ∷ 9 ∷ 110 ∷ 97 ∷ 109 ∷ 101 ∷ 9 ∷ 65 ∷ 10 ∷
    119 ∷ 9 ∷ 45 ∷ 52 ∷ 9 ∷ 45 ∷ 9 ∷ 50 ∷ 10 ∷ []

pub output_a_lem : listing (summary input_a) ≡ output_a
unfolding summary summary_from find_key put_row same_key key_before same_kind both before same_id higher claim_of flagged listing row_fields kind_field version_field record_fields body_fields counted each line tabbed escape escaped integer_text number_text digits_before
output_a_lem = refl
