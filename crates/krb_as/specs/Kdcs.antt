-- The KDC that the requests for a realm go to (RFC 4120 7.2.3; MS-KKDCP 2.1).
use Rattle.std.specs.Prelude.{◌≡◌, ℕ, List, Option, Result, option_and_then}
use Rattle.std.specs.Option.{option_or}
use Rattle.url.specs.Parts.{Parts}
use Rattle.krb_conf.specs.Kdc.{kdc_host, url_of}
use Rattle.krb_conf.specs.declared.env.Env.{Env}
use Rattle.sspi_core.specs.Protocol.{scheme_of}
use Rattle.sspi_core.specs.declared.cause.Cause.{Cause}
use Rattle.sspi_core.specs.declared.cause.Cause.TheVariants.{NoKdc, Scheme}
use Rattle.sspi_core.specs.Checks.{Finds, Takes, Gives, ◌>>=◌}
use Rattle.krb_as.specs.declared.kdc.Kdc.{Kdc}

-- the URL of a realm's KDC: the one that is known, otherwise the one that variables and files name
abbrev pub kdc_url : Option Parts → Env → List ℕ → Option Parts
kdc_url own env realm = option_or own (option_and_then url_of (kdc_host env.vars env.files realm))

-- the KDC of a realm, and the protocol that its URL's scheme names
unfoldable pub FindsKdc : Option Parts → Env → List ℕ → Result Kdc Cause → Type 0
FindsKdc own env realm = do
  url ← Takes NoKdc (kdc_url own env realm)
  protocol ← Finds Scheme (λ protocol. url.scheme ≡ scheme_of protocol)
  Gives (record { protocol = protocol; url = url; realm = realm })
