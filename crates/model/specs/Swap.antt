-- Another text for each text: bytes for handles, or handles for bytes; and the texts that are in a record, in the order of its fields.
use Rattle.std.specs.Prelude.{List, [], ◌∷◌, ◌++◌, map}
use Rattle.model.specs.Record.{Meta, Member, Tag, Body, place, refs, members, Record}
use Rattle.model.specs.Act.{Act, push, delete}

module _ {S U : Type 0} (f : S → U) where
  abbrev pub swap_meta : Meta S → Meta U
  swap_meta m = record { flags = m.flags; version = m.version; timestamp = m.timestamp; changeset = m.changeset; uid = m.uid; user = f m.user }

  abbrev pub swap_member : Member S → Member U
  swap_member m = record { ref = m.ref; type = m.type; role = f m.role }

  abbrev pub swap_tag : Tag S → Tag U
  swap_tag t = record { key = f t.key; value = t.value }

  abbrev pub swap_body : Body S → Body U
  swap_body (place lat lon) = place lat lon
  swap_body (refs rs) = refs rs
  swap_body (members ms) = members (map swap_member ms)

  abbrev pub swap_record : Record S → Record U
  swap_record r = record { meta = swap_meta r.meta; body = swap_body r.body; tags = map swap_tag r.tags }

  abbrev pub swap_act : Act S → Act U
  swap_act (push id r) = push id (swap_record r)
  swap_act (delete k id claim) = delete k id claim

module _ {S : Type 0} where
  abbrev pub roles_of : List (Member S) → List S
  roles_of [] = []
  roles_of (m ∷ ms) = m.role ∷ roles_of ms

  abbrev pub keys_of : List (Tag S) → List S
  keys_of [] = []
  keys_of (t ∷ ts) = t.key ∷ keys_of ts

  abbrev pub body_texts : Body S → List S
  body_texts (place lat lon) = []
  body_texts (refs rs) = []
  body_texts (members ms) = roles_of ms

  abbrev pub record_texts : Record S → List S
  record_texts r = r.meta.user ∷ (body_texts r.body ++ keys_of r.tags)
