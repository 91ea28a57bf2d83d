-- The signs that this crate reads for, as octets of ASCII.
use Rattle.std.specs.Prelude.{ℕ}

abbrev pub line_feed : ℕ
line_feed = 10

abbrev pub number_sign : ℕ
number_sign = 35

abbrev pub full_stop : ℕ
full_stop = 46

abbrev pub slash : ℕ
slash = 47

abbrev pub colon : ℕ
colon = 58

abbrev pub semicolon : ℕ
semicolon = 59

abbrev pub equals_sign : ℕ
equals_sign = 61

abbrev pub at_sign : ℕ
at_sign = 64

abbrev pub left_bracket : ℕ
left_bracket = 91

abbrev pub right_bracket : ℕ
right_bracket = 93

abbrev pub left_brace : ℕ
left_brace = 123

abbrev pub bar : ℕ
bar = 124

abbrev pub right_brace : ℕ
right_brace = 125
