-- A reader as C holds it, in 19 words: 0 level, 1 section, 2 kind; 3 to 7 the head id, lat, lon, count, tags; 8 to 13 the metadata flags, version, timestamp, changeset,
-- uid, user; 14 the staged bytes; 15 the lines; 16 to 18 the stop mark: its number, 0 while the reader goes on, its line, and HELD. Signed numbers stand in their bits.
-- So 19 zeros are a fresh reader.
use Rattle.reader.specs.State.{refusal_at, stops_by}
use Rattle.reader.specs.declared.RefusedAt.{RefusedAt}
use Rattle.std.specs.Prelude.{ℕ, Bool, cond, List, [], ◌∷◌, leb, ltb, eqb, get_or, None, Option, Some}
use Rattle.std.specs.Int.{w32}
use Rattle.std.proofs.Common.{to_z, of_z}
use Rattle.base.specs.Bytes.{both, either}
use Rattle.refusal.specs.Refusal.{number_of, held_of}
use Rattle.refusal.specs.declared.Refusal.{Refusal}
use Rattle.refusal.specs.declared.Refusal.TheVariants as R
use Rattle.kind.specs.Kind.{kind_number as kind_word}
use Rattle.kind.specs.declared.Kind.{Kind}
use Rattle.kind.specs.declared.Kind.TheVariants.{Node, Way, Relation}
use Rattle.nesting.specs.declared.Action.{Action}
use Rattle.nesting.specs.declared.Action.TheVariants.{Create, Modify, Delete}
use Rattle.nesting.specs.declared.Level.{Level}
use Rattle.nesting.specs.declared.Level.TheVariants.{Doc, Root, Section, Element, Leaf, Other, Done}
use Rattle.nesting.specs.declared.Place.{Place}
use Rattle.compact.specs.declared.ArenaMeta.{ArenaMeta}
use Rattle.compact.specs.declared.PushHead.{PushHead}
use Rattle.reader.specs.declared.EventReader.{EventReader}

-- ---- a reader in words

abbrev pub level_word : Level → ℕ
level_word Doc = 0
level_word Root = 1
level_word Section = 2
level_word Element = 3
level_word Leaf = 4
level_word Other = 5
level_word Done = 6

abbrev pub section_word : Action → ℕ
section_word Create = 0
section_word Modify = 1
section_word Delete = 2

abbrev pub mark_number : Option RefusedAt → ℕ
mark_number None = 0
mark_number (Some a) = number_of a.refusal

abbrev pub mark_line : Option RefusedAt → ℕ
mark_line None = 0
mark_line (Some a) = a.line

abbrev pub mark_held : Option RefusedAt → ℕ
mark_held None = 0
mark_held (Some a) = of_z w32 (held_of a.refusal)

unfoldable pub words_of_reader : EventReader → List ℕ
words_of_reader r =
    level_word r.place.level ∷ section_word r.place.section ∷ kind_word r.place.kind
    ∷ r.pending.head.id ∷ r.pending.head.lat ∷ r.pending.head.lon ∷ r.pending.head.count ∷ r.pending.head.tags
    ∷ r.pending.meta.flags ∷ r.pending.meta.version ∷ r.pending.meta.timestamp ∷ r.pending.meta.changeset ∷ r.pending.meta.uid ∷ r.pending.meta.user
    ∷ r.pending.used ∷ r.lines ∷ mark_number r.stop ∷ mark_line r.stop ∷ mark_held r.stop ∷ []

-- ---- words read back

-- what words stand for, where they are codes
abbrev pub if_coded : {A : Type 0} → Bool → A → Option A
if_coded t x = cond t (Some x) None

abbrev pub word_at : List ℕ → ℕ → ℕ
word_at w i = get_or w i 0

abbrev pub level_codes : List Level
level_codes = Doc ∷ Root ∷ Section ∷ Element ∷ Leaf ∷ Other ∷ []

abbrev pub level_in : ℕ → Level
level_in n = get_or level_codes n Done

abbrev pub section_codes : List Action
section_codes = Create ∷ Modify ∷ []

abbrev pub section_in : ℕ → Action
section_in n = get_or section_codes n Delete

abbrev pub kind_codes : List Kind
kind_codes = Node ∷ Way ∷ []

abbrev pub kind_in : ℕ → Kind
kind_in n = get_or kind_codes n Relation

abbrev pub place_words : List ℕ → Place
place_words w = record { level = level_in (word_at w 0); section = section_in (word_at w 1); kind = kind_in (word_at w 2) }

abbrev pub head_words : List ℕ → PushHead
head_words w = record { id = word_at w 3; lat = word_at w 4; lon = word_at w 5; count = word_at w 6; tags = word_at w 7 }

abbrev pub meta_words : List ℕ → ArenaMeta
meta_words w =
    record { flags = word_at w 8; version = word_at w 9; timestamp = word_at w 10; changeset = word_at w 11; uid = word_at w 12; user = word_at w 13 }

-- the refusals in the order of their numbers, from 1; before them stands one that no number names
abbrev pub refusal_codes : ℕ → List Refusal
refusal_codes held =
    R.Unsound ∷ R.Size ∷ R.LongLine ∷ R.NotText ∷ R.NotEventLine ∷ R.Misplaced ∷ R.OutsideSection ∷ R.Missing ∷ R.NotInteger
    ∷ R.NotTimestamp ∷ R.CoordinateRange ∷ R.MemberType ∷ R.Regression (to_z w32 held) ∷ R.StringsFull ∷ R.IdsFull ∷ R.ArenaFull ∷ R.TooManyParts
    ∷ R.BadRecord ∷ R.Unfinished ∷ R.ShortOutput ∷ R.NotInOrder ∷ R.NoSuchNumber ∷ R.Unsound ∷ R.NotDegrees ∷ R.BothForms ∷ R.NotMarkup ∷ R.UnmatchedEndTag ∷ []

-- the refusal of a number, with the bits of HELD
unfoldable pub refusal_numbered : ℕ → ℕ → Refusal
refusal_numbered n held = get_or (refusal_codes held) n R.Unsound

unfoldable pub stop_in : ℕ → ℕ → ℕ → Option RefusedAt
stop_in number line held = cond (eqb number 0) None (Some (refusal_at (refusal_numbered number held) line))

abbrev pub reader_in : List ℕ → EventReader
reader_in w =
    record {
      place = place_words w;
      pending = record { head = head_words w; meta = meta_words w; used = word_at w 14 };
      lines = word_at w 15;
      stop = stop_in (word_at w 16) (word_at w 17) (word_at w 18);
    }

-- each code is one
unfoldable pub place_coded : List ℕ → Bool
place_coded w = both (leb (word_at w 0) 6) (both (leb (word_at w 1) 2) (leb (word_at w 2) 2))

-- numbers of 32 bits and of 8 are within them
unfoldable pub head_coded : List ℕ → Bool
head_coded w =
    both (ltb (word_at w 4) 4294967296) (both (ltb (word_at w 5) 4294967296) (both (ltb (word_at w 6) 4294967296) (ltb (word_at w 7) 4294967296)))

unfoldable pub meta_coded : List ℕ → Bool
meta_coded w =
    both (ltb (word_at w 8) 256) (both (ltb (word_at w 9) 4294967296) (both (ltb (word_at w 12) 4294967296) (ltb (word_at w 13) 4294967296)))

-- a mark is a refusal that stops a reader, with HELD for 12 alone; while the reader goes on it has no line
unfoldable pub stop_coded : ℕ → ℕ → ℕ → Bool
stop_coded number line held =
    both (either (eqb number 0) (stops_by (refusal_numbered number held)))
    (both (either (ltb 0 number) (eqb line 0)) (both (ltb held 4294967296) (either (eqb number 12) (eqb held 0))))

unfoldable pub is_reader : List ℕ → Bool
is_reader w = both (place_coded w) (both (head_coded w) (both (meta_coded w) (stop_coded (word_at w 16) (word_at w 17) (word_at w 18))))

-- words that are no reader's stand for none
unfoldable pub reader_of_words : List ℕ → Option EventReader
reader_of_words w = cond (is_reader w) (Some (reader_in w)) None
