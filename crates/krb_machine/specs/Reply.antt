-- The text of a reply.
use Rattle.std.specs.Prelude.{ℕ, Bool, true, false, List, [], ◌∷◌, ◌++◌, codes}
use Rattle.std.specs.Fmt.{decimal}
use Rattle.std.specs.List.{flat_map, count_by}
use Rattle.hex.specs.Hex.{encode_lower}
use Rattle.sspi_core.specs.Buffer.{Buffer, has_checksum_flag}
use Rattle.sspi_core.specs.Printed.{error_text}
use Rattle.sspi_core.specs.Protocol.{scheme_of}
use Rattle.sspi_generator.specs.declared.network.NetworkRequest.{NetworkRequest}
use Rattle.url.specs.Parts.{serialize}
use Rattle.sspi_core.specs.declared.buffer.BufferType.{BufferType}
use Rattle.sspi_core.specs.declared.buffer.BufferType.TheVariants as types
use Rattle.sspi_core.specs.declared.results.SecurityStatus.{SecurityStatus}
use Rattle.sspi_core.specs.declared.results.SecurityStatus.TheVariants.{Ok, ContinueNeeded}
use Rattle.krb_machine.specs.declared.reply.Reply.{Reply}
use Rattle.krb_machine.specs.declared.reply.Reply.TheVariants.{Done, Ask, Buffers, Mic, Verified, Refused}

-- octets in lower-case hex; `-` means no octets
abbrev pub hex_or_dash : List ℕ → List ℕ
hex_or_dash [] = codes "-"
hex_or_dash (b ∷ bs) = encode_lower (b ∷ bs)

-- ok <hex?> or continue <hex?>
abbrev pub done_line : SecurityStatus → List ℕ → List ℕ
done_line Ok token = codes "ok " ++ hex_or_dash token ++ codes "\n"
done_line ContinueNeeded token = codes "continue " ++ hex_or_dash token ++ codes "\n"

-- the letter of a buffer: T the token, D the data to encrypt, R data that the checksum covers, S the stream
abbrev pub letter_of : BufferType → Bool → List ℕ
letter_of types.Token covered = codes "T"
letter_of types.Stream covered = codes "S"
letter_of types.Data true = codes "R"
letter_of types.Data false = codes "D"

-- <letter>:<hex>:<limit>, after a space
abbrev pub buffer_text : Buffer → List ℕ
buffer_text buffer =
    codes " " ++ (letter_of buffer.kind (has_checksum_flag buffer.flags) ++ (codes ":" ++ (encode_lower buffer.octets ++ (codes ":" ++ decimal buffer.limit))))

-- ask <protocol> <url> <hex?>
abbrev pub ask_line : NetworkRequest → List ℕ
ask_line request =
    codes "ask " ++ (scheme_of request.protocol ++ (codes " " ++ (serialize request.url ++ (codes " " ++ (hex_or_dash request.payload ++ codes "\n")))))

-- the line of a reply
abbrev pub reply_line : Reply → List ℕ
reply_line (Done status token admits) = done_line status token
reply_line (Ask request) = ask_line request
reply_line (Buffers message) = codes "buffers" ++ flat_map buffer_text message ++ codes "\n"
reply_line (Mic token) = codes "mic " ++ encode_lower token ++ codes "\n"
reply_line Verified = codes "verified\n"
reply_line (Refused error) = codes "refused " ++ error_text error ++ codes "\n"

-- the lines of replies, one after another
abbrev pub replies_text : List Reply → List ℕ
replies_text replies = flat_map reply_line replies

-- a reply admits the peer
abbrev pub admits_peer : Reply → Bool
admits_peer (Done status token admits) = admits
admits_peer (Ask request) = false
admits_peer (Buffers message) = false
admits_peer (Mic token) = false
admits_peer Verified = false
admits_peer (Refused error) = false

-- how many replies admit their peer
abbrev pub admissions : List Reply → ℕ
admissions replies = count_by admits_peer replies
