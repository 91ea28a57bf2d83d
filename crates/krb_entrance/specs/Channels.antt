-- The bindings of a channel.
use Rattle.std.specs.Prelude.{ℕ, nat_le, Bool, List, length, ◌&&◌}
use Rattle.sspi_core.specs.declared.bindings.ChannelBindings.{ChannelBindings}

-- a part of bindings that is hashed has at most 2^24 octets
abbrev pub is_short : List ℕ → Bool
is_short part = nat_le (length part) 16777216

abbrev pub are_short : ChannelBindings → Bool
are_short bindings = (is_short bindings.initiator && is_short bindings.acceptor) && is_short bindings.application_data
