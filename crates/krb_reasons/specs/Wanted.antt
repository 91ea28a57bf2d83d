-- The kinds of fields of a line, and their requirements: in words, and as a test.
use Rattle.std.specs.Prelude.{ℕ, ◌-◌, ◌^◌, Bool, true, ◌||◌, List, codes, is_some}
use Rattle.std.specs.Str.{bytes_eq}
use Rattle.krb_text.specs.Decimals.{decimal_up_to, u32_of}
use Rattle.krb_script.specs.Fields.{octets_of, octets_or_none_of, text_of, random_of, flags_of}
use Rattle.krb_script.specs.Declarations.{username_of, url_of}
use Rattle.krb_script.specs.Buffers.{buffer_of}
use Rattle.krb_reasons.specs.declared.wanted.Wanted.{Wanted}
use Rattle.krb_reasons.specs.declared.wanted.Wanted.TheVariants as fields

-- the name of a field in the table of lines
abbrev pub field_name : Wanted → List ℕ
field_name fields.Word = codes "the word"
field_name fields.Input = codes "<input>"
field_name fields.Seconds = codes "<seconds>"
field_name fields.Id = codes "<id>"
field_name fields.Number = codes "<number>"
field_name fields.Moment = codes "<moment>"
field_name fields.Random = codes "<random>"
field_name fields.Flags = codes "<flags>"
field_name fields.Host = codes "<host>"
field_name fields.Service = codes "<service>"
field_name fields.Target = codes "<target>"
field_name fields.User = codes "<user>"
field_name fields.Domain = codes "<domain>"
field_name fields.Variable = codes "<name>"
field_name fields.Path = codes "<path>"
field_name fields.Principal = codes "<principal>"
field_name fields.KeyType = codes "<type>"
field_name fields.Url = codes "<url>"
field_name fields.Hex = codes "<hex>"
field_name fields.HexOrNone = codes "<hex>"
field_name fields.Utf8 = codes "<hex>"
field_name fields.Buffer = codes "<buffers>"

-- the requirement of a field, in words
abbrev pub wish : Wanted → List ℕ
wish fields.Word = codes "skew, acceptor, initiator, key, password, keytab, kdc, env, file or event"
wish fields.Input = codes "token, start, reply, fault, wrap, unwrap, mic or verify"
wish fields.Seconds = codes "a decimal number up to 86400, without sign and leading zero"
wish fields.Id = codes "a decimal number of at most 32 bits, without sign and leading zero"
wish fields.Number = codes "a decimal number of at most 32 bits, without sign and leading zero"
wish fields.Moment = codes "a decimal number of at most 64 bits, without sign and leading zero"
wish fields.Random = codes "128 hex digits"
wish fields.Flags = codes "letters of DMRSCKEIN, each once, or -"
wish fields.Host = codes "octets from 21 to 7E"
wish fields.Service = codes "octets from 21 to 7E"
wish fields.Target = codes "octets from 21 to 7E, or -"
wish fields.User = codes "octets from 21 to 7E"
wish fields.Domain = codes "octets from 21 to 7E, or -"
wish fields.Variable = codes "octets from 21 to 7E"
wish fields.Path = codes "octets from 21 to 7E"
wish fields.Principal = codes "a name with at most one \\, and with none if it has an @"
wish fields.KeyType = codes "17 or 18"
wish fields.Url = codes "a URL, or an address that is a URL after tcp://"
wish fields.Hex = codes "an even number of hex digits, at least two"
wish fields.HexOrNone = codes "an even number of hex digits, at least two, or -"
wish fields.Utf8 = codes "the hex digits of a text in UTF-8, at least two, or -"
wish fields.Buffer = codes "T, D, R or S, its octets in hex, and a limit from their number to 1048576, with a colon between each two"

-- the words of lines
abbrev pub is_word : List ℕ → Bool
is_word text =
    bytes_eq text (codes "skew") || bytes_eq text (codes "acceptor") || bytes_eq text (codes "initiator") || bytes_eq text (codes "key")
    || bytes_eq text (codes "password") || bytes_eq text (codes "keytab") || bytes_eq text (codes "kdc") || bytes_eq text (codes "env")
    || bytes_eq text (codes "file") || bytes_eq text (codes "event")

-- the words of inputs
abbrev pub is_input : List ℕ → Bool
is_input text =
    bytes_eq text (codes "token") || bytes_eq text (codes "start") || bytes_eq text (codes "reply") || bytes_eq text (codes "fault")
    || bytes_eq text (codes "wrap") || bytes_eq text (codes "unwrap") || bytes_eq text (codes "mic") || bytes_eq text (codes "verify")

-- the letter of a buffer: the token, data, data that are not encrypted, the stream
abbrev pub is_letter : List ℕ → Bool
is_letter text = bytes_eq text (codes "T") || bytes_eq text (codes "D") || bytes_eq text (codes "R") || bytes_eq text (codes "S")

-- a name meets the requirement of the field
abbrev pub fits : Wanted → List ℕ → Bool
fits fields.Word text = is_word text
fits fields.Input text = is_input text
fits fields.Seconds text = is_some (decimal_up_to 86400 text)
fits fields.Id text = is_some (u32_of text)
fits fields.Number text = is_some (u32_of text)
fits fields.Moment text = is_some (decimal_up_to (2 ^ 64 - 1) text)
fits fields.Random text = is_some (random_of text)
fits fields.Flags text = is_some (flags_of text)
fits fields.Host text = true
fits fields.Service text = true
fits fields.Target text = true
fits fields.User text = true
fits fields.Domain text = true
fits fields.Variable text = true
fits fields.Path text = true
fits fields.Principal text = is_some (username_of text)
fits fields.KeyType text = bytes_eq text (codes "17") || bytes_eq text (codes "18")
fits fields.Url text = is_some (url_of text)
fits fields.Hex text = is_some (octets_of text)
fits fields.HexOrNone text = is_some (octets_or_none_of text)
fits fields.Utf8 text = is_some (text_of text)
fits fields.Buffer text = is_some (buffer_of text)
