-- The fields of each line of the table, and the first that is wrong.
use Rattle.std.specs.Prelude.{ℕ, ◌+◌, ◌==◌, ◌||◌, not, min, max, if◌then◌else◌, List, [], ◌∷◌, ◌++◌, length, replicate, codes, Option, Some, None, is_some, unwrap_or}
use Rattle.std.specs.List.{list_any}
use Rattle.std.specs.Str.{bytes_eq}
use Rattle.krb_text.specs.Lines as lines
use Rattle.krb_script.specs.Fields.{is_name}
use Rattle.krb_script.specs.Items.{item_of}
use Rattle.krb_reasons.specs.Wanted.{fits}
use Rattle.krb_reasons.specs.declared.wanted.Wanted.{Wanted}
use Rattle.krb_reasons.specs.declared.wanted.Wanted.TheVariants as fields
use Rattle.krb_reasons.specs.declared.reason.Reason.{Reason}
use Rattle.krb_reasons.specs.declared.reason.Reason.TheVariants.{Gap, Octet, Field, Missing, Surplus, Buffers}

-- the fields after the word of a line other than an event's
abbrev pub declaration_shape : List ℕ → List Wanted
declaration_shape word =
    if bytes_eq word (codes "skew") then fields.Seconds ∷ []
    else if bytes_eq word (codes "acceptor") then fields.Id ∷ fields.Number ∷ fields.Host ∷ fields.Service ∷ []
    else if bytes_eq word (codes "initiator") then fields.Id ∷ fields.Number ∷ fields.Host ∷ fields.Target ∷ []
    else if bytes_eq word (codes "key") then fields.Id ∷ fields.Service ∷ fields.Hex ∷ []
    else if bytes_eq word (codes "password") then fields.Id ∷ fields.User ∷ fields.Domain ∷ fields.Utf8 ∷ []
    else if bytes_eq word (codes "keytab") then fields.Id ∷ fields.Principal ∷ fields.KeyType ∷ fields.Hex ∷ []
    else if bytes_eq word (codes "kdc") then fields.Id ∷ fields.Url ∷ []
    else if bytes_eq word (codes "env") then fields.Variable ∷ fields.Utf8 ∷ []
    else if bytes_eq word (codes "file") then fields.Path ∷ fields.Utf8 ∷ []
    else []

-- as many buffers as there are fields, from one to 16
abbrev pub buffers_shape : ℕ → List Wanted
buffers_shape count = replicate (min (max count 1) 16) fields.Buffer

-- the fields after the word of an input that has `count` fields
abbrev pub input_shape : List ℕ → ℕ → List Wanted
input_shape word count =
    if bytes_eq word (codes "token") || bytes_eq word (codes "reply") || bytes_eq word (codes "mic") then fields.HexOrNone ∷ []
    else if bytes_eq word (codes "verify") then fields.HexOrNone ∷ fields.HexOrNone ∷ []
    else if bytes_eq word (codes "fault") then fields.Number ∷ []
    else if bytes_eq word (codes "wrap") || bytes_eq word (codes "unwrap") then buffers_shape count
    else []

-- the fields after the word of an event, up to the word of its input
abbrev pub event_head : List Wanted
event_head = fields.Id ∷ fields.Moment ∷ fields.Random ∷ fields.Flags ∷ fields.Input ∷ []

-- the fields after the word of an event with these texts
abbrev pub event_shape : List (List ℕ) → List Wanted
event_shape (id ∷ moment ∷ random ∷ flags ∷ word ∷ texts) = event_head ++ input_shape word (length texts)
event_shape _ = event_head

-- the fields after the word of a line with these texts
abbrev pub rest_shape : List ℕ → List (List ℕ) → List Wanted
rest_shape word rest = if bytes_eq word (codes "event") then event_shape rest else declaration_shape word

-- the fields of a line with these texts
abbrev pub shape_of : List (List ℕ) → List Wanted
shape_of [] = []
shape_of (word ∷ rest) = fields.Word ∷ rest_shape word rest

-- an octet that is not allowed in a field: a tab or a carriage return if there is one, and 0 for any other
abbrev pub odd_octet : List ℕ → ℕ
odd_octet text = if list_any (λ octet. octet == 9) text then 9 else if list_any (λ octet. octet == 13) text then 13 else 0

-- the reason why one field is wrong
abbrev pub wrong_in : ℕ → Wanted → List ℕ → Option Reason
wrong_in place wanted text =
    if length text == 0 then Some (Gap place)
    else if not (is_name text) then Some (Octet place (odd_octet text))
    else if fits wanted text then None
    else Some (Field place wanted)

-- one reason, or the next if there is none
abbrev pub or_next : Option Reason → Option Reason → Option Reason
or_next (Some reason) next = Some reason
or_next None next = next

-- the reason for the first field that is not the expected one, that is missing, or that is one too many
abbrev pub first_wrong : ℕ → List Wanted → List (List ℕ) → Option Reason
first_wrong place [] [] = None
first_wrong place [] (text ∷ texts) = Some (Surplus place)
first_wrong place (wanted ∷ more) [] = Some (Missing place wanted)
first_wrong place (wanted ∷ more) (text ∷ texts) = or_next (wrong_in place wanted text) (first_wrong (place + 1) more texts)

abbrev pub wrong_in_fields : List (List ℕ) → Option Reason
wrong_in_fields texts = first_wrong 1 (shape_of texts) texts

-- the reason why a line is not in the table, if it is not
unfoldable pub reason_of : List ℕ → Option Reason
reason_of line =
    if is_some (item_of line) then None
    else Some (unwrap_or (wrong_in_fields (lines.fields line)) Buffers)
