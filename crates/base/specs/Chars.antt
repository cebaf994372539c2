-- The characters that document 01 names, as bytes.
use Rattle.std.specs.Prelude.{ℕ}

abbrev pub horizontal_tab : ℕ
horizontal_tab = 9

abbrev pub line_feed : ℕ
line_feed = 10

abbrev pub carriage_return : ℕ
carriage_return = 13

abbrev pub plus_sign : ℕ
plus_sign = 43

abbrev pub minus_sign : ℕ
minus_sign = 45

abbrev pub zero_digit : ℕ
zero_digit = 48

abbrev pub colon : ℕ
colon = 58

abbrev pub equals_sign : ℕ
equals_sign = 61

abbrev pub letter_t : ℕ
letter_t = 84

abbrev pub letter_z : ℕ
letter_z = 90

abbrev pub backslash : ℕ
backslash = 92

-- the letters of the escapes
abbrev pub letter_small_n : ℕ
letter_small_n = 110

abbrev pub letter_small_r : ℕ
letter_small_r = 114

abbrev pub letter_small_t : ℕ
letter_small_t = 116
