-- Event lines: the fields from a place on, and what attributes and lone words are. What a line is, is crate event's `event_of`.
use Rattle.std.specs.Prelude.{ℕ, suc, Bool, false, cond, List, [], ◌∷◌, leb, eqb, length, drop, None, Option, Some}
use Rattle.base.specs.Ascii.{ascii}
use Rattle.base.specs.Bytes.{Bytes, same}
use Rattle.refusal.specs.declared.Refusal.TheVariants.{NotEventLine}
use Rattle.line.specs.Line.{fields}
use Rattle.event.specs.Event.{Attr, closes, others, Reading, reads, refused, none_twice}

-- the fields from a place on; none past the end
unfoldable pub fields_at : Bytes → ℕ → List Bytes
fields_at t at = cond (leb at (length t)) (fields (drop at t)) []

-- how many bytes come before the first c, or before the end
unfoldable pub UpTo : ℕ → Bytes → ℕ
UpTo c [] = 0
UpTo c (b ∷ bs) = cond (eqb b c) 0 (suc (UpTo c bs))

-- whether fields are attributes, and no name is there twice
unfoldable pub stand : Option (List Attr) → Bool
stand None = false
stand (Some attrs) = none_twice attrs

-- a line of one word, which starts no element
unfoldable pub lone : Bytes → Reading
lone w = cond (same w (ascii "close")) (reads closes) (cond (same w (ascii "other")) (reads others) (refused NotEventLine))
