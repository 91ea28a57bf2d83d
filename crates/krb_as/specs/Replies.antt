-- The content of a KDC's reply (RFC 4120 7.2; MS-KKDCP 2.2.2), check by check.
use Rattle.std.specs.Prelude.{◌≡◌, ℕ, nat_le, Bool, List, length, drop, Result, Ok, Err}
use Rattle.krb_der.specs.Schema.{Spells}
use Rattle.krb_der.specs.Layout.{Layout}
use Rattle.krb_exchange.specs.declared.kdc_proxy.KdcProxyMessage.{KdcProxyMessage}
use Rattle.krb_exchange.specs.declared.result.KrbResult.{KrbResult}
use Rattle.krb_exchange.specs.Layouts.{kdc_proxy_message_layout}
use Rattle.krb_exchange.specs.Results.{IsResult}
use Rattle.sspi_core.specs.declared.protocol.NetworkProtocol.{NetworkProtocol}
use Rattle.sspi_core.specs.declared.protocol.NetworkProtocol.TheVariants.{Tcp, Udp, Http, Https}
use Rattle.sspi_core.specs.declared.cause.Cause.{Cause}
use Rattle.sspi_core.specs.declared.cause.Cause.TheVariants.{Memory, Network, ReplyShort, Shape}
use Rattle.sspi_core.specs.Checks.{Finds, Holds, Gives, ◌>>=◌, ◌>>◌}
use Rattle.sspi_generator.specs.declared.network.NetFault.{NetFault}
use Rattle.sspi_generator.specs.declared.network.NetFault.TheVariants.{Failed, OutOfMemory}

-- what the network brought
abbrev pub brought : Result (List ℕ) NetFault → Result (List ℕ) Cause
brought (Ok octets) = Ok octets
brought (Err (Failed code)) = Err (Network code)
brought (Err OutOfMemory) = Err Memory

pub record Brings (reply : Result (List ℕ) NetFault) (answer : Result (List ℕ) Cause) : Type 0 where
  pub is : answer ≡ brought reply

-- a reply has at most 2^24 octets
abbrev pub is_short : List ℕ → Bool
is_short octets = nat_le (length octets) 16_777_216

-- the octets spell this KDC-PROXY-MESSAGE
abbrev pub IsProxied : List ℕ → KdcProxyMessage → Type 0
IsProxied octets message = Spells kdc_proxy_message_layout.kind (kdc_proxy_message_layout.view message) octets

-- the message in a KDC-PROXY-MESSAGE
unfoldable pub Unproxies : List ℕ → Result (List ℕ) Cause → Type 0
Unproxies octets = do
  Holds Shape (is_short octets)
  message ← Finds Shape (IsProxied octets)
  Gives message.kerb_message

-- what the octets of the protocol carry
abbrev pub Strips : NetworkProtocol → List ℕ → Result (List ℕ) Cause → Type 0
Strips Tcp octets answer = Gives octets answer
Strips Udp octets answer = Gives octets answer
Strips Http octets answer = Unproxies octets answer
Strips Https octets answer = Unproxies octets answer

-- the octets after the first four, and those four are not looked at
unfoldable pub Skips : List ℕ → Result (List ℕ) Cause → Type 0
Skips octets = do
  Holds ReplyShort (nat_le 4 (length octets))
  Holds Shape (is_short octets)
  Gives (drop 4 octets)

-- the message in the octets of a reply
unfoldable pub Unpacks : NetworkProtocol → List ℕ → Result (List ℕ) Cause → Type 0
Unpacks protocol octets = do
  carried ← Strips protocol octets
  Skips carried

-- the message that a reply brings
unfoldable pub Unwraps : NetworkProtocol → Result (List ℕ) NetFault → Result (List ℕ) Cause → Type 0
Unwraps protocol reply = do
  octets ← Brings reply
  Unpacks protocol octets

-- a reply of a KDC: the one that was asked for, or a KRB-ERROR
unfoldable pub Replies : {A : Type 0} → NetworkProtocol → Layout A → Result (List ℕ) NetFault → Result (KrbResult A) Cause → Type 0
Replies protocol layout reply = do
  message ← Unwraps protocol reply
  Finds Shape (IsResult layout message)
