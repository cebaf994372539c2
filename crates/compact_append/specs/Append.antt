-- Document 01: "An append joins the record to the arena's used bytes and touches no byte before them or past it"; "15 record longer than the arena's unused bytes".
use Rattle.std.specs.Prelude.{ℕ, ◌+◌, cond, ◌++◌, leb, length, None, Option, Some}
use Rattle.base.specs.Bytes.{Bytes}
use Rattle.little.specs.Little.{over}
use Rattle.kind.specs.declared.Kind.{Kind}
use Rattle.model.specs.Record.{Meta}
use Rattle.compact.specs.Layout.{Head, head_bytes, meta_bytes}

-- what is written of a record: its head, its metadata and its parts, which are given as bytes
abbrev pub record_written : Kind → Head → Meta ℕ → Bytes → Bytes
record_written k h m parts = head_bytes k h ++ meta_bytes m ++ parts

-- what an append leaves: the arena, and where its used bytes end
pub record ArenaAfter : Type 0 where
  pub arena : Bytes
  pub answer : Option ℕ

unfoldable pub append : Bytes → ℕ → Bytes → ArenaAfter
append s used t =
    cond (leb (used + length t) (length s))
    (record { arena = over s used t; answer = Some (used + length t) })
    (record { arena = s; answer = None })
