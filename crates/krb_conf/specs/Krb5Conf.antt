-- The values of a krb5.conf, as a fold over its lines.
use Rattle.std.specs.Prelude.{ℕ, ◌+◌, ◌-◌, Bool, ◌&&◌, ◌==◌, nat_lt, List, [], ◌∷◌, ◌++◌, map, length, fold, Option, Some, None, if◌then◌else◌, option_map}
use Rattle.std.specs.List.{slice_split, join_with_byte, filter_map, find}
use Rattle.std.specs.Option.{option_map_or, option_to_list}
use Rattle.std.specs.Str.{trim}
use Rattle.krb_conf.specs.Ascii.{line_feed, left_bracket, left_brace, right_brace, bar}
use Rattle.krb_conf.specs.Key.{is_at, under}
use Rattle.krb_conf.specs.Line.{begins_with, ends_with, has, is_skipped, section_name, relation}

-- the place of a line: outside every section, or in one, in the group that was opened last if no brace was closed since, and the
-- number of open braces
pub data Place : Type 0 where
  Outside : Place
  Within : (section : List ℕ) (group : Option (List ℕ)) (depth : ℕ) → Place

-- the effect of a line: nothing, or it leads to another place, or it adds a value under a key
pub data Effect : Type 0 where
  Nothing : Effect
  LeadsTo : Place → Effect
  Adds : (key value : List ℕ) → Effect

-- a key: a section, a group if there is one, and a name, joined by `|`
abbrev pub key : List ℕ → Option (List ℕ) → List ℕ → List ℕ
key section group name = join_with_byte bar (section ∷ option_to_list group ++ name ∷ [])

-- the effect of a line that is neither a comment nor empty
abbrev pub effect : Place → List ℕ → Effect
-- 1. Outside, the line of a section leads into it, and other lines do nothing.
effect Outside line = option_map_or (λ name. LeadsTo (Within name None 0)) (section_name line) Nothing
effect (Within section group depth) line =
    -- 2. At depth 0 a line that begins with `[` leads into the section that it names, and outside where it names none.
    if depth == 0 && begins_with left_bracket line
    then LeadsTo (option_map_or (λ name. Within name None 0) (section_name line) Outside)
    -- 3. Above depth 0 a line that ends with `}` closes one brace, and no group is left.
    else (if nat_lt 0 depth && ends_with right_brace line
    then LeadsTo (Within section None (depth - 1))
    -- 4. Otherwise a line with `{` opens the group that it names before its first `=`, and does nothing without `=`.
    else (if has left_brace line
    then option_map_or (λ related. LeadsTo (Within section (Some related.0) (depth + 1))) (relation line) Nothing
    -- 5. Otherwise the line of a section names the section, at the same depth, and no group is left.
    -- 6. Otherwise a line with `=` adds the value after it under the name before it.
    -- 7. Other lines do nothing.
    else option_map_or (λ name. LeadsTo (Within name None depth)) (section_name line)
    (option_map_or (λ related. Adds (key section group related.0) related.1) (relation line) Nothing)))

-- what was read: the place that it leads to, and the values with their keys, in their order
pub record Reading : Type 0 where
  pub place : Place
  pub values : List (List ℕ × List ℕ)

-- the reading after such an effect
abbrev pub after : Reading → Effect → Reading
after reading Nothing = reading
after reading (LeadsTo place) = record reading { place = place }
after reading (Adds key value) = record reading { values = reading.values ++ (key, value) ∷ [] }

-- the reading after one more line
abbrev pub read_line : Reading → List ℕ → Reading
read_line reading line =
    let trimmed = trim line in
    if is_skipped trimmed then reading else after reading (effect reading.place trimmed)

-- a reading begins outside, with no value
abbrev pub nothing_read : Reading
nothing_read = record { place = Outside; values = [] }

-- the values of a text, line by line
abbrev pub values_of : List ℕ → List (List ℕ × List ℕ)
values_of text = (fold read_line nothing_read (slice_split (λ octet. octet == line_feed) text)).values

-- the first value at a path
abbrev pub value_at : List (List ℕ) → List (List ℕ × List ℕ) → Option (List ℕ)
value_at path values = option_map (λ entry. entry.1) (find (λ entry. is_at path entry.0) values)

-- the values below a path, in their order, each with the rest of its key
abbrev pub values_under : List (List ℕ) → List (List ℕ × List ℕ) → List (List ℕ × List ℕ)
values_under path values = filter_map (λ entry. option_map (λ rest. (rest, entry.1)) (under path entry.0)) values

-- the same, if there are any
abbrev pub section_at : List (List ℕ) → List (List ℕ × List ℕ) → Option (List (List ℕ × List ℕ))
section_at path values = if length (values_under path values) == 0 then None else Some (values_under path values)
