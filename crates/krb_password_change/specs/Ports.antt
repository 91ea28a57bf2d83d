-- The service that changes passwords, and its URL (RFC 3244, section 2).
use Rattle.std.specs.Prelude.{Option, Some, None, option_map, if◌then◌else◌}
use Rattle.url.specs.Parts.{Parts, cannot_have_credentials_or_port}
use Rattle.sspi_core.specs.declared.protocol.NetworkProtocol.{NetworkProtocol}
use Rattle.sspi_core.specs.declared.protocol.NetworkProtocol.TheVariants.{Tcp, Udp, Http, Https}
use Rattle.krb_as.specs.declared.kdc.Kdc.{Kdc}

-- the same URL with port 464, unless it takes none
abbrev pub at_port : Parts → Option Parts
at_port url = if cannot_have_credentials_or_port url then None else Some (record url { port = Some 464 })

-- the machine of the KDC; a proxy stays
abbrev pub password_url : NetworkProtocol → Parts → Option Parts
password_url Tcp url = at_port url
password_url Udp url = at_port url
password_url Http url = Some url
password_url Https url = Some url

abbrev pub password_kdc : Kdc → Option Kdc
password_kdc kdc = option_map (λ (url : Parts). record kdc { url = url }) (password_url kdc.protocol kdc.url)
