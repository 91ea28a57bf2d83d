-- The bits of the flags of requests and of buffers, and whether a set has a flag.
use Rattle.std.specs.Prelude.{ℕ, Bool, ◌==◌, bit_and}

abbrev pub has_flag : ℕ → ℕ → Bool
has_flag flags flag = bit_and flags flag == flag

-- flags of a request: delegation, mutual authentication, replay detection, sequence detection, confidentiality,
-- a session key (user-to-user), bare tokens (DCE style), integrity, no integrity
abbrev pub delegate : ℕ
delegate = 0x1

abbrev pub mutual_auth : ℕ
mutual_auth = 0x2

abbrev pub replay_detect : ℕ
replay_detect = 0x4

abbrev pub sequence_detect : ℕ
sequence_detect = 0x8

abbrev pub confidentiality : ℕ
confidentiality = 0x10

abbrev pub use_session_key : ℕ
use_session_key = 0x20

abbrev pub use_dce_style : ℕ
use_dce_style = 0x200

abbrev pub integrity : ℕ
integrity = 0x10000

abbrev pub no_integrity : ℕ
no_integrity = 0x800000

-- of a buffer: covered by the checksum and not sealed, neither covered nor sealed
abbrev pub readonly_with_checksum : ℕ
readonly_with_checksum = 0x10000000

abbrev pub readonly : ℕ
readonly = 0x80000000
