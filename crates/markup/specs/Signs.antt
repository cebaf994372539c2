-- The characters that markup is made of.
use Rattle.std.specs.Prelude.{ℕ}

abbrev pub exclamation_mark : ℕ
exclamation_mark = 33

abbrev pub double_quote : ℕ
double_quote = 34

abbrev pub number_sign : ℕ
number_sign = 35

abbrev pub ampersand_sign : ℕ
ampersand_sign = 38

abbrev pub single_quote : ℕ
single_quote = 39

abbrev pub hyphen_sign : ℕ
hyphen_sign = 45

abbrev pub slash_sign : ℕ
slash_sign = 47

abbrev pub semicolon : ℕ
semicolon = 59

abbrev pub less_than_sign : ℕ
less_than_sign = 60

abbrev pub greater_than_sign : ℕ
greater_than_sign = 62

abbrev pub question_mark : ℕ
question_mark = 63

abbrev pub letter_small_e : ℕ
letter_small_e = 101

abbrev pub letter_small_s : ℕ
letter_small_s = 115

abbrev pub letter_small_v : ℕ
letter_small_v = 118

abbrev pub letter_small_x : ℕ
letter_small_x = 120
