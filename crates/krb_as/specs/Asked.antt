-- The two requests of an AS exchange (RFC 4120, sections 3.1.1 and 5.4.1).
use Rattle.std.specs.Prelude.{ℕ, List, take}
use Rattle.krb_der.specs.Layout.{spelling}
use Rattle.krb_crypto.specs.declared.suite.CipherSuite.{CipherSuite}
use Rattle.krb_exchange.specs.declared.kdc_req.AsReq.{AsReq}
use Rattle.krb_exchange.specs.declared.kdc_req.KdcReqBody.{KdcReqBody}
use Rattle.krb_exchange.specs.Layouts.{as_req_layout}
use Rattle.sspi_core.specs.declared.draw.Draw.{Draw}
use Rattle.sspi_generator.specs.declared.network.NetworkRequest.{NetworkRequest}
use Rattle.krb_as.specs.declared.kdc.Kdc.{Kdc}
use Rattle.krb_as.specs.Requests.{request_to}
use Rattle.krb_requests.specs.PaDatas.{plain_pa_datas, timed_pa_datas}
use Rattle.krb_requests.specs.Bodies.{as_req_with}

-- an AS-REQ to a KDC
abbrev pub asks : Kdc → AsReq → NetworkRequest
asks kdc request = request_to kdc (spelling as_req_layout request)

-- the first request, without pre-authentication, and the second one, with the time sealed under the client's key
unfoldable pub first_request : Kdc → KdcReqBody → NetworkRequest
first_request kdc body = asks kdc (as_req_with plain_pa_datas body)

unfoldable pub second_request : CipherSuite → List ℕ → Draw → Kdc → KdcReqBody → NetworkRequest
second_request suite key draw kdc body = asks kdc (as_req_with (timed_pa_datas suite key draw.moment (take 16 draw.random)) body)
