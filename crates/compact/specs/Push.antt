-- What a direct push gives, as its struct holds it: the head, the record, and the bytes that an append writes of it.
use Rattle.std.specs.Prelude.{ℕ, ◌++◌, Option}
use Rattle.base.specs.Bytes.{Bytes}
use Rattle.model.specs.Record.{Record}
use Rattle.compact.specs.declared.PushRecord.{PushRecord}
use Rattle.compact.specs.Layout.{Head, head_bytes, meta_bytes}
use Rattle.compact.specs.Held.{meta_of, head_in}
use Rattle.compact.specs.Cut.{pushed_record}

abbrev pub head_given : PushRecord → Head
head_given p = head_in p.kind p.head

abbrev pub record_given : PushRecord → Option (Record ℕ)
record_given p = pushed_record p.kind (head_given p) (meta_of p.meta) p.parts.now

abbrev pub bytes_given : PushRecord → Bytes
bytes_given p = head_bytes p.kind (head_given p) ++ meta_bytes (meta_of p.meta) ++ p.parts.now
