-- The input that an event brings to its connection.
use Rattle.std.specs.Prelude.{ℕ, ◌-◌, ◌^◌, if◌then◌else◌, List, [], ◌∷◌, codes, Option, Some, None}
use Rattle.std.specs.Str.{bytes_eq}
use Rattle.krb_der.specs.Reading.{◌>>=◌}
use Rattle.krb_text.specs.Decimals.{u32_of}
use Rattle.krb_script.specs.Fields.{octets_or_none_of}
use Rattle.krb_script.specs.Buffers.{message_of}
use Rattle.krb_script.specs.declared.input.Input.{Input}
use Rattle.krb_script.specs.declared.input.Input.TheVariants.{Token, Start, KdcReply, KdcFault, Wrap, Unwrap, MakeMic, VerifyMic}

-- token <hex?>
abbrev pub token_of : List (List ℕ) → Option Input
token_of (text ∷ []) = do
  octets ← octets_or_none_of text
  Some (Token octets)
token_of _ = None

-- start
abbrev pub start_of : List (List ℕ) → Option Input
start_of [] = Some Start
start_of _ = None

-- reply <hex?>
abbrev pub reply_of : List (List ℕ) → Option Input
reply_of (text ∷ []) = do
  octets ← octets_or_none_of text
  Some (KdcReply octets)
reply_of _ = None

-- fault <u32>
abbrev pub fault_of : List (List ℕ) → Option Input
fault_of (text ∷ []) = do
  code ← u32_of text
  Some (KdcFault code)
fault_of _ = None

-- wrap <buffers>
abbrev pub wrap_of : List (List ℕ) → Option Input
wrap_of texts = do
  message ← message_of texts
  Some (Wrap message)

-- unwrap <buffers>
abbrev pub unwrap_of : List (List ℕ) → Option Input
unwrap_of texts = do
  message ← message_of texts
  Some (Unwrap message)

-- mic <hex?>
abbrev pub mic_of : List (List ℕ) → Option Input
mic_of (text ∷ []) = do
  octets ← octets_or_none_of text
  Some (MakeMic octets)
mic_of _ = None

-- verify <hex?> <hex?>
abbrev pub verify_of : List (List ℕ) → Option Input
verify_of (token_text ∷ payload_text ∷ []) = do
  token ← octets_or_none_of token_text
  payload ← octets_or_none_of payload_text
  Some (VerifyMic token payload)
verify_of _ = None

-- the input of an event, by its word
unfoldable pub input_of : List (List ℕ) → Option Input
input_of [] = None
input_of (word ∷ rest) =
    if bytes_eq word (codes "token") then token_of rest
    else if bytes_eq word (codes "start") then start_of rest
    else if bytes_eq word (codes "reply") then reply_of rest
    else if bytes_eq word (codes "fault") then fault_of rest
    else if bytes_eq word (codes "wrap") then wrap_of rest
    else if bytes_eq word (codes "unwrap") then unwrap_of rest
    else if bytes_eq word (codes "mic") then mic_of rest
    else if bytes_eq word (codes "verify") then verify_of rest
    else None
