-- The input of the demonstration: n acceptors of one service, and an event at each.
use Rattle.std.specs.Prelude.{ℕ, ◌+◌, ◌-◌, ◌*◌, ◌%◌, ◌==◌, if◌then◌else◌, List, ◌++◌, codes, replicate, pos}
use Rattle.std.specs.Fmt.{decimal}
use Rattle.std.specs.List.{flat_map, range_with_len}
use Rattle.std.specs.Int.{w32, w64, to_be_bytes}
use Rattle.hex.specs.Hex.{encode_lower}
use Rattle.krb_demo.specs.Client.{start, service_key, token}

-- an acceptor, and its key
abbrev pub acceptor_line : ℕ → List ℕ
acceptor_line k = codes "acceptor " ++ decimal k ++ codes " 0 demo host/server.example.com\n"

abbrev pub key_line : ℕ → List ℕ
key_line k = codes "key " ++ decimal k ++ codes " host/server.example.com " ++ encode_lower service_key ++ codes "\n"

abbrev pub acceptor_lines : ℕ → List ℕ
acceptor_lines k = acceptor_line k ++ key_line k

-- the token of j seconds and j microseconds after the start, whose confounder is j in 16 octets
abbrev pub token_at : ℕ → List ℕ
token_at j = token (pos (start + j)) (to_be_bytes w32 j) (replicate 8 0 ++ to_be_bytes w64 j)

-- whose token an event carries: each tenth one repeats the token before it
abbrev pub sender : ℕ → ℕ
sender k = if k % 10 == 0 then k - 1 else k

-- 64 octets of zero in hex: 128 digits 0
unfoldable pub zeros : List ℕ
zeros = replicate 128 48

-- a token at the k-th acceptor, k seconds after the start, with random octets that are all zero
abbrev pub event_line : ℕ → List ℕ
event_line k =
    codes "event " ++ decimal k ++ codes " " ++ decimal ((start + k) * 1_000_000) ++ codes " " ++ zeros
    ++ codes " - token " ++ encode_lower (token_at (sender k)) ++ codes "\n"

unfoldable pub demonstration : ℕ → List ℕ
demonstration n =
    codes "skew 300\n" ++ flat_map acceptor_lines (range_with_len 1 n) ++ flat_map event_line (range_with_len 1 n)
