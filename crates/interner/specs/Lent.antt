-- What is lent for strings, read as a store.
use Rattle.std.specs.Prelude.{ℕ, ◌≡◌, Option}
use Rattle.base.specs.Bytes.{Bytes}
use Rattle.little.specs.declared.Span.{Span}
use Rattle.interner.specs.declared.Strings.{Strings}
use Rattle.interner.specs.declared.StringsMut.{StringsMut}
use Rattle.interner.specs.Strings.{Store, store_with, used_of, span_of, find_in}

abbrev pub store_seen : Strings → Store
store_seen s = store_with s.spans.now s.bytes.now s.count s.used

abbrev pub store_held : StringsMut → Store
store_held s = store_with s.spans.now s.bytes.now s.count s.used

-- the same lent parts, whatever is written into them
pub record IsSameStrings (a b : StringsMut) : Type 0 where
  pub spans : a.spans.ghost_name ≡ b.spans.ghost_name
  pub bytes : a.bytes.ghost_name ≡ b.bytes.ghost_name

-- where the text of a held handle lies
abbrev pub span_held : Store → ℕ → Option Span
span_held s handle = span_of s.spans (used_of s) s.strings handle

-- the handle of a held text
abbrev pub find_held : Store → Bytes → Option ℕ
find_held s t = find_in s.spans (used_of s) s.strings t
