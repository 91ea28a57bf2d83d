-- The buffers of a message, wherever its octets are.
use Rattle.std.specs.Prelude.{List}
use Rattle.sspi_core.specs.Buffer.{Buffer}
use Rattle.krb_context.specs.declared.buffers.Source.{Source}
use Rattle.krb_context.specs.declared.buffers.Source.TheVariants.{Message, Token}
use Rattle.krb_context.specs.Whole.{whole_message}

abbrev pub buffers_of : Source → List Buffer
buffers_of (Message message) = message.now
buffers_of (Token whole) = whole_message whole.token.now
