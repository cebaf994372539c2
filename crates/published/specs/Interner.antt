-- interner.rs. The refusals past 2^32 are left out: no call of the domain comes near. `strings` and `into_strings` are the field of that name.
use Rattle.std.specs.Prelude.{ℕ, cond, List, [], ◌∷◌, ◌++◌, length, None, Option, Some, slice_get}
use Rattle.base.specs.Bytes.{Bytes, same}
use Rattle.published.specs.Std.{slice}

-- (u32, u32)
pub record Span : Type 0 where
  pub offset : ℕ
  pub len : ℕ

-- struct StringTable: `bytes` is its String `data`
pub record StringTable : Type 0 where
  pub bytes : Bytes
  pub table : List Span

-- an entry of FxHashMap<String, u32>
pub record TextEntry : Type 0 where
  pub text : Bytes
  pub id : ℕ

-- struct StringInterner
pub record StringInterner : Type 0 where
  pub strings : StringTable
  pub lookup : List TextEntry

-- self.lookup.get(s)
unfoldable pub get_text : List TextEntry → Bytes → Option ℕ
get_text [] s = None
get_text (e ∷ m) s = cond (same e.text s) (Some e.id) (get_text m s)

-- StringInterner::new(): "Reserve intern_id 0 for the empty string."
abbrev pub new : StringInterner
new = record { strings = record { bytes = []; table = record { offset = 0; len = 0 } ∷ [] }; lookup = record { text = []; id = 0 } ∷ [] }

pub record Interned : Type 0 where
  pub interner : StringInterner
  pub id : ℕ

-- strings.data.push_str(s); strings.table.push((offset, len));
abbrev pub pushed : StringTable → Bytes → StringTable
pushed t s = record { bytes = t.bytes ++ s; table = t.table ++ (record { offset = length t.bytes; len = length s } ∷ []) }

abbrev pub intern_as : StringInterner → Bytes → Option ℕ → Interned
intern_as i s (Some id) = record { interner = i; id = id }
intern_as i s None =
    record {
      interner = record { strings = pushed i.strings s; lookup = record { text = s; id = length i.strings.table } ∷ i.lookup };
      id = length i.strings.table;
    }

-- fn intern(&mut self, s: &str) -> ParseResult<u32>
unfoldable pub intern : StringInterner → Bytes → Interned
intern i s = intern_as i s (get_text i.lookup s)

-- self.data.get(start..start + len), of the span of an id; none where `resolve` panics. That a span begins and ends between characters is left out: each is a whole text.
abbrev pub resolve_in : Bytes → Option Span → Option Bytes
resolve_in bytes None = None
resolve_in bytes (Some p) = slice bytes p.offset p.len

-- fn resolve(&self, id: u32) -> &str; none where it panics
unfoldable pub resolve : StringTable → ℕ → Option Bytes
resolve t id = resolve_in t.bytes (slice_get t.table id)
