-- The buffers of a message that is one token, and of a text that becomes one.
use Rattle.std.specs.Prelude.{ℕ, ◌+◌, List, [], ◌∷◌, length}
use Rattle.sspi_core.specs.declared.buffer.BufferType.TheVariants.{Token, Data, Stream}
use Rattle.sspi_core.specs.Buffer.{Buffer, no_flags}

-- an empty buffer for a text
abbrev pub no_data : Buffer
no_data = record { kind = Data; flags = no_flags; octets = []; limit = 0 }

-- a message that came whole, and an empty buffer for its text
abbrev pub whole_message : List ℕ → List Buffer
whole_message sealed = record { kind = Stream; flags = no_flags; octets = sealed; limit = length sealed } ∷ no_data ∷ []

-- a buffer for a token, with room for all that is encrypted besides the text, and the text
abbrev pub text_message : ℕ → List ℕ → List Buffer
text_message filler text =
    record { kind = Token; flags = no_flags; octets = []; limit = 60 + filler } ∷
    record { kind = Data; flags = no_flags; octets = text; limit = length text } ∷ []
