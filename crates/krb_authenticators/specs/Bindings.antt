-- The hash of channel bindings (RFC 4121, section 4.1.1.2).
use Rattle.std.specs.Prelude.{ℕ, List, ◌++◌, length, ◌≤◌, ◌^◌}
use Rattle.std.specs.Int.{w32, to_le_bytes}
use Rattle.md5.specs.Md5.{md5}
use Rattle.sspi_core.specs.declared.bindings.ChannelBindings.{ChannelBindings}

-- a number in four octets, the lowest first
abbrev pub four : ℕ → List ℕ
four number = to_le_bytes w32 number

-- octets after their length
abbrev pub counted : List ℕ → List ℕ
counted octets = four (length octets) ++ octets

-- the octets that are hashed
abbrev pub bindings_octets : ChannelBindings → List ℕ
bindings_octets bindings =
    four bindings.initiator_addr_type ++ (counted bindings.initiator
    ++ (four bindings.acceptor_addr_type ++ (counted bindings.acceptor ++ counted bindings.application_data)))

unfoldable pub bindings_hash : ChannelBindings → List ℕ
bindings_hash bindings = md5 (bindings_octets bindings)

-- bindings whose parts are no longer than any argument is
pub record AreShortBindings (bindings : ChannelBindings) : Type 0 where
  pub initiator : length bindings.initiator ≤ 2 ^ 24
  pub acceptor : length bindings.acceptor ≤ 2 ^ 24
  pub application_data : length bindings.application_data ≤ 2 ^ 24
