-- The content of one line of a krb5.conf by itself, after the section "Structure" of MIT's documentation of krb5.conf. The line's
-- white space at both ends is cut off.
use Rattle.std.specs.Prelude.{ℕ, ◌-◌, Bool, ◌&&◌, ◌||◌, ◌==◌, List, length, take, drop, slice_index, Option, Some, None, if◌then◌else◌}
use Rattle.std.specs.List.{list_any, before_first, after_first}
use Rattle.std.specs.Str.{trim}
use Rattle.krb_conf.specs.Ascii.{number_sign, semicolon, equals_sign, left_bracket, right_bracket}

-- the line begins, or ends, with this sign, or has it anywhere
abbrev pub begins_with : ℕ → List ℕ → Bool
begins_with sign line = slice_index line 0 == sign

abbrev pub ends_with : ℕ → List ℕ → Bool
ends_with sign line = slice_index line (length line - 1) == sign

abbrev pub has : ℕ → List ℕ → Bool
has sign line = list_any (λ octet. octet == sign) line

-- the line is empty or a comment
abbrev pub is_skipped : List ℕ → Bool
is_skipped line = length line == 0 || (begins_with number_sign line || begins_with semicolon line)

-- the section that the line names: the text between `[` at its beginning and `]` at its end
abbrev pub section_name : List ℕ → Option (List ℕ)
section_name line =
    if begins_with left_bracket line && ends_with right_bracket line then Some (drop 1 (take (length line - 1) line))
    else None

-- the name and the value that the line relates: the texts before and after its first `=`, with no white space at their ends
abbrev pub relation : List ℕ → Option (List ℕ × List ℕ)
relation line =
    if has equals_sign line
    then Some (trim (before_first (λ octet. octet == equals_sign) line), trim (after_first (λ octet. octet == equals_sign) line))
    else None
