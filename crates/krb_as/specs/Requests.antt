-- The octets that are sent to a KDC (RFC 4120 7.2.1 and 7.2.2; MS-KKDCP 2.2.2).
use Rattle.std.specs.Prelude.{ℕ, List, Some, None}
use Rattle.krb_der.specs.Layout.{spelling}
use Rattle.krb_messages.specs.Frame.{with_length}
use Rattle.krb_exchange.specs.declared.kdc_proxy.KdcProxyMessage.{KdcProxyMessage}
use Rattle.krb_exchange.specs.Layouts.{kdc_proxy_message_layout}
use Rattle.sspi_core.specs.declared.protocol.NetworkProtocol.{NetworkProtocol}
use Rattle.sspi_core.specs.declared.protocol.NetworkProtocol.TheVariants.{Tcp, Udp, Http, Https}
use Rattle.sspi_generator.specs.declared.network.NetworkRequest.{NetworkRequest}
use Rattle.krb_as.specs.declared.kdc.Kdc.{Kdc}

-- a message for a proxy: the message after its length, and the realm whose KDC is to have it
abbrev pub proxied : List ℕ → List ℕ → KdcProxyMessage
proxied realm message = record { kerb_message = with_length message; target_domain = Some realm; dclocator_hint = None }

-- a message as the protocol carries it
abbrev pub carried : NetworkProtocol → List ℕ → List ℕ → List ℕ
carried Tcp realm message = with_length message
carried Udp realm message = message
carried Http realm message = spelling kdc_proxy_message_layout (proxied realm message)
carried Https realm message = spelling kdc_proxy_message_layout (proxied realm message)

-- a message to a KDC
abbrev pub request_to : Kdc → List ℕ → NetworkRequest
request_to kdc message = record { protocol = kdc.protocol; url = kdc.url; payload = carried kdc.protocol kdc.realm message }
