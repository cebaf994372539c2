-- How texts are stored: two words a string, where it starts among the string bytes and how long it is.
use Rattle.std.specs.Prelude.{ℕ, zero, suc, ◌+◌, ◌*◌, Bool, cond, List, [], ◌∷◌, ltb, leb, length, get_or, take, drop, None, Option, Some}
use Rattle.base.specs.Bytes.{Bytes, both, same}
use Rattle.little.specs.Little.{over}
use Rattle.little.specs.declared.Span.{Span}
use Rattle.interner.specs.Texts.{intern_accepted}
use Rattle.interner.specs.Interned.{Interned, Held, New, Full}

abbrev pub start_of : List ℕ → ℕ → ℕ
start_of spans h = get_or spans (2 * h) 0

abbrev pub length_of : List ℕ → ℕ → ℕ
length_of spans h = get_or spans (2 * h + 1) 0

-- the span of a handle lies within the bytes
unfoldable pub spanned : List ℕ → Bytes → ℕ → Bool
spanned spans bytes h = both (leb (2 * h + 2) (length spans)) (leb (start_of spans h + length_of spans h) (length bytes))

-- the bytes of a span
abbrev pub bytes_at : List ℕ → Bytes → ℕ → Bytes
bytes_at spans bytes h = take (length_of spans h) (drop (start_of spans h) bytes)

-- where the string of a handle lies
unfoldable pub span_at : List ℕ → Bytes → ℕ → Option Span
span_at spans bytes h = cond (spanned spans bytes h) (Some (record { start = start_of spans h; len = length_of spans h })) None

-- the string of a handle, where it lies within the bytes
unfoldable pub string_at : List ℕ → Bytes → ℕ → Option Bytes
string_at spans bytes h = cond (spanned spans bytes h) (Some (bytes_at spans bytes h)) None

-- where the string of a held handle lies
unfoldable pub span_of : List ℕ → Bytes → ℕ → ℕ → Option Span
span_of spans bytes count h = cond (ltb h count) (span_at spans bytes h) None

-- the string of a handle is the text
unfoldable pub is_at : List ℕ → Bytes → Bytes → ℕ → Bool
is_at spans bytes t h = both (spanned spans bytes h) (same t (bytes_at spans bytes h))

-- the first of the n handles from h on whose string is the text
unfoldable pub find_from : List ℕ → Bytes → Bytes → ℕ → ℕ → Option ℕ
find_from spans bytes t zero h = None
find_from spans bytes t (suc n) h = cond (is_at spans bytes t h) (Some h) (find_from spans bytes t n (suc h))

unfoldable pub find_in : List ℕ → Bytes → ℕ → Bytes → Option ℕ
find_in spans bytes count t = find_from spans bytes t count 0

-- ---- taking a text in

-- what is lent for strings, with the used counts
pub record Store : Type 0 where
  pub spans : List ℕ
  pub bytes : Bytes
  pub strings : ℕ
  pub used : ℕ

abbrev pub store_with : List ℕ → Bytes → ℕ → ℕ → Store
store_with spans bytes strings used = record { spans = spans; bytes = bytes; strings = strings; used = used }

-- the bytes in use
abbrev pub used_of : Store → Bytes
used_of s = take s.used s.bytes

pub record StoreAfter : Type 0 where
  pub store : Store
  pub answer : Interned

-- "13 strings or string bytes full"
unfoldable pub text_room : Store → Bytes → Bool
text_room s t = both (leb (2 * s.strings + 2) (length s.spans)) (leb (s.used + length t) (length s.bytes))

-- the text behind the used bytes, its span behind those of the held strings
unfoldable pub added : Store → Bytes → Store
added s t =
    store_with (over s.spans (2 * s.strings) (s.used ∷ length t ∷ [])) (over s.bytes s.used t) (s.strings + 1) (s.used + length t)

abbrev pub text_taken : Store → Bytes → StoreAfter
text_taken s t = record { store = added s t; answer = New s.strings }

unfoldable pub taken_as : Store → Bytes → Option ℕ → StoreAfter
taken_as s t (Some h) = record { store = s; answer = Held h }
taken_as s t None = cond (text_room s t) (text_taken s t) (record { store = s; answer = Full })

-- the store and the answer after `intern`
unfoldable pub intern : Store → Bytes → StoreAfter
intern s t = taken_as s t (find_in s.spans (used_of s) s.strings t)

-- the store after a list of texts, and those of them that were accepted
unfoldable pub intern_all : Store → List Bytes → Store
intern_all s [] = s
intern_all s (t ∷ ts) = intern_all (intern s t).store ts

unfoldable pub accepted_of : Store → List Bytes → List Bytes
accepted_of s [] = []
accepted_of s (t ∷ ts) = cond (intern_accepted (intern s t).answer) (t ∷ accepted_of (intern s t).store ts) (accepted_of (intern s t).store ts)
