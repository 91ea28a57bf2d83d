-- Channel bindings, as a caller passes them: eight numbers of four octets, the lowest octet first, and then octets.
use Rattle.std.specs.Prelude.{ℕ, List, length, Bool, ◌&&◌, nat_le}
use Rattle.sspi_core.specs.declared.bindings.ChannelBindings.{ChannelBindings}
use Rattle.sspi_core.specs.BindingParts.{word, is_inside, part}

-- whether the numbers are there, and each part lies inside
abbrev pub is_bindings : List ℕ → Bool
is_bindings octets =
    nat_le 32 (length octets) && is_inside octets (word octets 8) (word octets 4) && is_inside octets (word octets 20) (word octets 16)
    && is_inside octets (word octets 28) (word octets 24)

-- type, length and place of the initiator's address, the same of the acceptor's, length and place of the application's data
abbrev pub bindings : List ℕ → ChannelBindings
bindings octets = record {
  initiator_addr_type = word octets 0;
  initiator = part octets (word octets 8) (word octets 4);
  acceptor_addr_type = word octets 12;
  acceptor = part octets (word octets 20) (word octets 16);
  application_data = part octets (word octets 28) (word octets 24);
}
