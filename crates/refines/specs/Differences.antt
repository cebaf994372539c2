-- docs/DIFFERENCES.md, D1: "The Rust keeps a refused event's user name exactly where its id and all its metadata were good", told of the Rust alone.
use Rattle.std.specs.Prelude.{ℤ, None, Option, Some, Result, Ok, Err}
use Rattle.base.specs.Ascii.{ascii}
use Rattle.base.specs.Bytes.{Bytes}
use Rattle.published.specs.Std.{ElementKind, from_name}
use Rattle.published.specs.XmlParse.{Error, BytesStart, Event, Start, Empty, End, Level, Doc, Root, Section, Element, Leaf, Done, DriveState, MetaSoFar, default, NotPublished, parse_i64_attr, scan_meta_attrs}

-- the user's name, where the id was read and the metadata was read
abbrev pub user_read : Result ℤ Error → Result MetaSoFar Error → Option Bytes
user_read (Ok id) (Ok m) = m.user
user_read (Ok id) (Err e) = None
user_read (Err e) m = None

module _ (np : NotPublished) where
  -- of an element that begins: a node, a way or a relation in a section
  abbrev pub user_begun : Level → Option ElementKind → BytesStart → Option Bytes
  user_begun Section (Some kind) e = user_read (parse_i64_attr e (ascii "id")) (scan_meta_attrs np default e.attributes)
  user_begun Section None e = None
  user_begun Doc k e = None
  user_begun Root k e = None
  user_begun Level.Other k e = None
  user_begun Element k e = None
  user_begun Leaf k e = None
  user_begun Done k e = None

  -- the text that an event takes in before it is refused
  abbrev pub kept_text : Event → DriveState → Option Bytes
  kept_text (Start e) d = user_begun d.level (from_name e.name) e
  kept_text (Empty e) d = user_begun d.level (from_name e.name) e
  kept_text End d = None
  kept_text Event.Other d = None
