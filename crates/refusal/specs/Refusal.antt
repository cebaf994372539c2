-- Document 01, "What is returned, by place of the check", and document 02, 23 to 26: each refusal's number, and the version that a regression returns with it.
use Rattle.std.specs.Prelude.{ℕ, ℤ, pos}
use Rattle.refusal.specs.declared.Reply.{Reply}
use Rattle.refusal.specs.declared.Refusal.{Refusal}
use Rattle.refusal.specs.declared.Refusal.TheVariants.{Size, LongLine, NotText, NotEventLine, Misplaced, OutsideSection, Missing, NotInteger, NotTimestamp, CoordinateRange, MemberType, Regression, StringsFull, IdsFull, ArenaFull, TooManyParts, BadRecord, Unfinished, ShortOutput, NotInOrder, NoSuchNumber, Unsound, NotDegrees, BothForms, NotMarkup, UnmatchedEndTag}

-- "1 lent size outside", "2 over 16,384 bytes without its line feed", and so on down the table
abbrev pub number_of : Refusal → ℕ
number_of Size = 1
number_of LongLine = 2
number_of NotText = 3
number_of NotEventLine = 4
number_of Misplaced = 5
number_of OutsideSection = 6
number_of Missing = 7
number_of NotInteger = 8
number_of NotTimestamp = 9
number_of CoordinateRange = 10
number_of MemberType = 11
number_of (Regression v) = 12
number_of StringsFull = 13
number_of IdsFull = 14
number_of ArenaFull = 15
number_of TooManyParts = 16
number_of BadRecord = 17
number_of Unfinished = 18
number_of ShortOutput = 19
number_of NotInOrder = 20
number_of NoSuchNumber = 21
number_of Unsound = 22
number_of NotDegrees = 23
number_of BothForms = 24
number_of NotMarkup = 25
number_of UnmatchedEndTag = 26

-- "the known version for 12 (0 otherwise)"
abbrev pub held_of : Refusal → ℤ
held_of Size = pos 0
held_of LongLine = pos 0
held_of NotText = pos 0
held_of NotEventLine = pos 0
held_of Misplaced = pos 0
held_of OutsideSection = pos 0
held_of Missing = pos 0
held_of NotInteger = pos 0
held_of NotTimestamp = pos 0
held_of CoordinateRange = pos 0
held_of MemberType = pos 0
held_of (Regression v) = v
held_of StringsFull = pos 0
held_of IdsFull = pos 0
held_of ArenaFull = pos 0
held_of TooManyParts = pos 0
held_of BadRecord = pos 0
held_of Unfinished = pos 0
held_of ShortOutput = pos 0
held_of NotInOrder = pos 0
held_of NoSuchNumber = pos 0
held_of Unsound = pos 0
held_of NotDegrees = pos 0
held_of BothForms = pos 0
held_of NotMarkup = pos 0
held_of UnmatchedEndTag = pos 0

-- a refusal without a version
abbrev pub plain_reply : ℕ → Reply
plain_reply n = record { number = n; held = pos 0 }

-- "A refusal returns its number, with the known version for 12 (0 otherwise)."
unfoldable pub reply_of : Refusal → Reply
reply_of r = record { number = number_of r; held = held_of r }
