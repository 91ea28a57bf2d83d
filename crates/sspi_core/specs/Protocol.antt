-- The protocols of KDC addresses.
use Rattle.std.specs.Prelude.{ℕ, List, codes}
use Rattle.sspi_core.specs.declared.protocol.NetworkProtocol.{NetworkProtocol}
use Rattle.sspi_core.specs.declared.protocol.NetworkProtocol.TheVariants.{Tcp, Udp, Http, Https}

-- the scheme of a protocol's URLs
abbrev pub scheme_of : NetworkProtocol → List ℕ
scheme_of Tcp = codes "tcp"
scheme_of Udp = codes "udp"
scheme_of Http = codes "http"
scheme_of Https = codes "https"
