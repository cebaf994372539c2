-- Document 01, "Sound", of the strings: "counts within lent sizes; string spans within the used bytes, legal text, no two texts equal,
-- handle 0 empty".
use Rattle.std.specs.Prelude.{ℕ, zero, suc, ◌*◌, Bool, false, List, [], ◌∷◌, map, leb, length}
use Rattle.base.specs.Bytes.{Bytes, both, all, same}
use Rattle.text.specs.Check.{is_text}
use Rattle.little.specs.Little.{over}
use Rattle.distinct.specs.Distinct.{distinct}
use Rattle.interner.specs.Strings.{spanned, bytes_at, Store, store_with, used_of}

-- n handles from h on
unfoldable pub handles : ℕ → ℕ → List ℕ
handles zero h = []
handles (suc n) h = h ∷ handles n (suc h)

-- the strings of the first n handles
unfoldable pub texts_in : List ℕ → Bytes → ℕ → List Bytes
texts_in spans bytes n = map (bytes_at spans bytes) (handles n 0)

-- the held texts, by handle
abbrev pub texts_of : Store → List Bytes
texts_of s = texts_in s.spans (used_of s) s.strings

-- "counts within lent sizes"
unfoldable pub counts_within : Store → Bool
counts_within s = both (leb (2 * s.strings) (length s.spans)) (leb s.used (length s.bytes))

-- "string spans within the used bytes"
unfoldable pub span_within : List ℕ → Bytes → ℕ → Bool
span_within spans bytes n = all (spanned spans bytes) (handles n 0)

-- "string spans within the used bytes, legal text, no two texts equal", of the first n handles
unfoldable pub sound_up_to : List ℕ → Bytes → ℕ → Bool
sound_up_to spans bytes n =
    both (span_within spans bytes n) (both (all is_text (texts_in spans bytes n)) (distinct (texts_in spans bytes n)))

-- "handle 0 empty"
unfoldable pub first_empty : List Bytes → Bool
first_empty [] = false
first_empty (t ∷ ts) = same t []

unfoldable pub sound_strings : Store → Bool
sound_strings s = both (counts_within s) (both (sound_up_to s.spans (used_of s) s.strings) (first_empty (texts_of s)))

-- the strings of an empty overlay: handle 0 alone
abbrev pub fresh_spans : List ℕ → List ℕ
fresh_spans spans = over spans 0 (0 ∷ 0 ∷ [])

abbrev pub fresh_store : List ℕ → Bytes → Store
fresh_store spans bytes = store_with (fresh_spans spans) bytes 1 0
