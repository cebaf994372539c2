-- Document 01, "Trial rows († proved)", and its Input A with Output A: one table, from the definitions.
use Rattle.reader.specs.declared.RefusedAt.{RefusedAt}
use Rattle.refusal.specs.declared.Refusal.{Refusal}
use Rattle.std.specs.Prelude.{ℕ, Bool, true, false, List, [], ◌∷◌, ◌++◌, map, eqb, ℤ, pos, negsuc, length, take, replicate, Err, Ok, Result}
use Rattle.std.specs.Int.{Width, w32, w64}
use Rattle.std.proofs.Common.{to_z}
use Rattle.base.specs.Ascii.{ascii}
use Rattle.base.specs.Bytes.{Bytes, both, same}
use Rattle.kind.specs.declared.Kind.TheVariants.{Node, Way}
use Rattle.osm_id.specs.Order.{same_id, osm_key_of}
use Rattle.model.specs.Record.{Meta, Record, place, refs, members}
use Rattle.refusal.specs.Refusal.{number_of, held_of}
use Rattle.compact.specs.Layout.{record_bytes}
use Rattle.compact.specs.Held.{meta_of}
use Rattle.compact.specs.declared.ArenaMeta.{ArenaMeta}
use Rattle.overlay_blocks.specs.declared.KindSize.{KindSize}
use Rattle.overlay_blocks.specs.declared.Sizes.{Sizes}
use Rattle.overlay.specs.Overlay.{with_sizes}
use Rattle.overlay.specs.Lent.{overlay_for}
use Rattle.overlay.specs.Calls.{allow_on}
use Rattle.overlay_direct.specs.Calls.{push_on, delete_on, intern_on}
use Rattle.reader.specs.Event.{event_on, end_on}
use Rattle.event.specs.Event.{Attr}
use Rattle.event_fields.specs.Field as Field
use Rattle.event_fields.specs.Field.{Field, got, bad, and_then, integer_field}
use Rattle.listing.specs.Call.{Output, listing_on}
use Rattle.calls.specs.Ask.{Ask, Storage, started, state_of, leaves, after}

-- a call, and what document 01 says of it: taken, or refused with a number and the version that is held
pub data Separates : Type 0 where
  accepts : Ask → Separates
  refuses : Ask → ℕ → ℤ → Separates

-- what document 01 says of an attribute's value: a number, or the number of its refusal
pub data Said : Type 0 where
  is : ℤ → Said
  refused : ℕ → Said

-- a row: what is asked, and what document 01 says of it
pub data TrialRow : Type 0 where
  key_of : ℤ → ℕ → ℕ → TrialRow
  stamp_is : Bytes → Said → TrialRow
  integer_is : Width → Bytes → Said → TrialRow
  takes : ℤ → Record ℕ → ℕ → TrialRow
  -- calls, one after the other, on an overlay that starts empty and refuses regression, and the listing after them
  prints : List Separates → Bytes → TrialRow

-- a field is what is said
abbrev pub says : Field ℤ → Said → Bool
says (got a) (is b) = same_id a b
says (got a) (refused n) = false
says (bad r) (is b) = false
says (bad r) (refused n) = eqb (number_of r) n

-- one attribute
abbrev pub attribute : Bytes → Bytes → List Attr
attribute n v = record { name = n; value = v } ∷ []

abbrev pub ask_of : Separates → Ask
ask_of (accepts c) = c
ask_of (refuses c n v) = c

-- the answer is what is said
abbrev pub agrees : Separates → Result Unit Refusal → Bool
agrees (accepts c) (Ok tt) = true
agrees (accepts c) (Err r) = false
agrees (refuses c n v) (Ok tt) = false
agrees (refuses c n v) (Err r) = both (eqb (number_of r) n) (same_id (held_of r) v)

-- a text that has its handle is taken
abbrev pub kept_in : Result ℕ Refusal → Result Unit Refusal
kept_in (Ok h) = Ok tt
kept_in (Err r) = Err r

abbrev pub kept_at : Result Unit RefusedAt → Result Unit Refusal
kept_at (Ok tt) = Ok tt
kept_at (Err a) = Err a.refusal

-- what a call answers
abbrev pub answer_to : Ask → Storage → Result Unit Refusal
answer_to (Ask.interns t) l = kept_in (intern_on t l.overlay).answer
answer_to (Ask.pushes k h m parts) l = (push_on k h m parts l.overlay).answer
answer_to (Ask.deletes k id m) l = (delete_on k (to_z w64 id) (meta_of m) l.overlay).answer
answer_to (Ask.reads n line) l = kept_at (event_on line (state_of n l)).answer
answer_to (Ask.ends n) l = kept_at (end_on (state_of n l)).answer
answer_to (Ask.allows setting) l = (allow_on setting l.overlay).answer

-- "Each call gets the overlay .. as last left"
unfoldable pub all_agree : Storage → List Separates → Bool
all_agree l [] = true
all_agree l (t ∷ ts) = both (agrees t (answer_to (ask_of t) l)) (all_agree (leaves (ask_of t) l) ts)

abbrev pub zeros : ℕ → Bytes
zeros n = replicate n 0

-- the listing call's answer is the page's length, and its output begins with the page
abbrev pub is_page : Bytes → Bytes → Result ℕ Refusal → Bool
is_page page out (Ok n) = same (take n out) page
is_page page out (Err r) = false

abbrev pub lists : Bytes → Output → Bool
lists page x = is_page page x.out x.answer

-- four ids and 256 arena bytes a kind, two strings, 8 string bytes
abbrev pub small_kind : KindSize
small_kind = record { ids = 4; bytes = 256 }

abbrev pub small_sizes : Sizes
small_sizes = record { nodes = small_kind; ways = small_kind; relations = small_kind; strings = 2; string_bytes = 8 }

-- an empty overlay of these sizes that refuses regression, in 40 words, 776 bytes and seventeen counters; fresh readers
abbrev pub small : Storage
small = started 0 (with_sizes small_sizes (overlay_for small_sizes (zeros 40) (zeros 776) (zeros 17))) (λ n. zeros 44432)

unfoldable pub right : TrialRow → Bool
right (key_of id class magnitude) = both (eqb (osm_key_of id).class class) (eqb (osm_key_of id).magnitude magnitude)
right (stamp_is s x) = says (and_then (Field.metadata_of (attribute (ascii "timestamp") s)) (λ m. got m.timestamp)) x
right (integer_is w s x) = says (integer_field w (ascii "lat7") (attribute (ascii "lat7") s)) x
right (takes id r n) = eqb (length (record_bytes id r)) n
right (prints ts page) = both (all_agree small ts) (lists page (listing_on (zeros 256) (after small (map ask_of ts)).overlay))

-- ---- Input A and Output A

abbrev pub input_a : List Bytes
input_a =
    ascii "open\tosmChange\n"
    ∷ ascii "open\tmodify\n"
    ∷ ascii "open\tnode\tid=7\tversion=3\tlat7=10\tlon7=-20\n"
    ∷ ascii "empty\ttag\tk=name\tv=A\n"
    ∷ ascii "close\n"
    ∷ ascii "close\n"
    ∷ ascii "open\tdelete\n"
    ∷ ascii "empty\tway\tid=-4\tversion=2\n"
    ∷ ascii "close\n"
    ∷ ascii "close\n"
    ∷ []

-- lines as events of reader 0, and its end, all accepted
abbrev pub events_of : List Bytes → List Separates
events_of lines = map (λ line. accepts (Ask.reads 0 line)) lines ++ (accepts (Ask.ends 0) ∷ [])

abbrev pub output_a : Bytes
output_a = ascii "n\t7\t+\t3\t9\t3\t0\t0\t0\t\t10\t-20\t1\tname\tA\nw\t-4\t-\t2\n"

-- ---- records

abbrev pub bare_meta : Meta ℕ
bare_meta = record { flags = 0; version = pos 0; timestamp = pos 0; changeset = pos 0; uid = pos 0; user = 0 }

abbrev pub tagged_node : Record ℕ
tagged_node = record { meta = bare_meta; body = place (pos 0) (pos 0); tags = record { key = 1; value = ascii "yes" } ∷ [] }

abbrev pub way_of_two : Record ℕ
way_of_two = record { meta = bare_meta; body = refs (pos 1 ∷ pos 2 ∷ []); tags = [] }

abbrev pub relation_of_one : Record ℕ
relation_of_one = record { meta = bare_meta; body = members (record { ref = pos 1; type = Node; role = 0 } ∷ []); tags = [] }

-- ---- calls

-- metadata with a version, and without
abbrev pub at_version : ℕ → ArenaMeta
at_version v = record { flags = 9; version = v; timestamp = 0; changeset = 0; uid = 0; user = 0 }

abbrev pub unversioned : ArenaMeta
unversioned = record { flags = 0; version = 0; timestamp = 0; changeset = 0; uid = 0; user = 0 }

-- on way 5, which has no refs and no tags
abbrev pub pushing : ArenaMeta → Ask
pushing m = Ask.pushes Way (record { id = 5; lat = 0; lon = 0; count = 0; tags = 0 }) m []

abbrev pub deleting : ArenaMeta → Ask
deleting m = Ask.deletes Way 5 m

-- a node at 0, 0 with no metadata and no tags
abbrev pub pushing_node : ℕ → Ask
pushing_node id = Ask.pushes Node (record { id = id; lat = 0; lon = 0; count = 0; tags = 0 }) unversioned []

-- ---- the table

abbrev pub rows : List TrialRow
rows =
    -- key of 0 is (0, 0), of -1 (1, 1), of 1 (2, 1)
    key_of (pos 0) 0 0
    ∷ key_of (negsuc 0) 1 1
    ∷ key_of (pos 1) 2 1
    ∷ stamp_is (ascii "1970-01-01T00:00:00Z") (is (pos 0))
    ∷ stamp_is (ascii "2000-02-29T00:00:00Z") (is (pos 951782400))
    ∷ stamp_is (ascii "1900-02-29T00:00:00Z") (refused 9)
    ∷ integer_is w32 (ascii "2147483647") (is (pos 2147483647))
    ∷ integer_is w32 (ascii "2147483648") (refused 8)
    -- way 5 at version 4, then delete at 3: refused 12, held 4; delete at 4 taken; then an unversioned push taken; then version 3 refused 12, held 4
    ∷ prints
    (accepts (pushing (at_version 4))
    ∷ refuses (deleting (at_version 3)) 12 (pos 4)
    ∷ accepts (deleting (at_version 4))
    ∷ accepts (pushing unversioned)
    ∷ refuses (pushing (at_version 3)) 12 (pos 4)
    ∷ [])
    (ascii "w\t5\t+\t4\t0\t0\t0\t0\t0\t\t0\t0\n")
    -- a node with one tag value `yes`, a way with two refs, a relation with one member
    ∷ takes (pos 1) tagged_node 60
    ∷ takes (pos 1) way_of_two 61
    ∷ takes (pos 1) relation_of_one 58
    -- Input A gives Output A
    ∷ prints (events_of input_a) output_a
    -- no header; an empty overlay lists as no bytes
    ∷ prints [] []
    -- ids in OSM order
    ∷ prints
    (accepts (pushing_node 1) ∷ accepts (pushing_node 18446744073709551614) ∷ accepts (pushing_node 18446744073709551615) ∷ accepts (pushing_node 0) ∷ [])
    (ascii "n\t0\t+\t?\t0\t0\t0\t0\t0\t\t0\t0\t0\nn\t-1\t+\t?\t0\t0\t0\t0\t0\t\t0\t0\t0\nn\t-2\t+\t?\t0\t0\t0\t0\t0\t\t0\t0\t0\nn\t1\t+\t?\t0\t0\t0\t0\t0\t\t0\t0\t0\n")
    ∷ []
