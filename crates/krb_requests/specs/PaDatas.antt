-- Pre-authentication (RFC 4120, section 5.2.7; MS-KILE, section 2.2.3).
use Rattle.std.specs.Prelude.{ℕ, ◌/◌, ◌%◌, ◌==◌, not, ◌||◌, Bool, pos, true, List, [], ◌∷◌, length, Some, Result, if◌then◌else◌}
use Rattle.std.specs.Int.{w32, to_be_bytes}
use Rattle.krb_der.specs.Layout.{spelling}
use Rattle.krb_crypto.specs.Suite.{key_size}
use Rattle.krb_crypto.specs.declared.suite.CipherSuite.{CipherSuite}
use Rattle.krb_messages.specs.Layouts.{encrypted_data_layout}
use Rattle.krb_exchange.specs.declared.pa_data.PaData.{PaData}
use Rattle.krb_exchange.specs.declared.pa_data.PaEncTsEnc.{PaEncTsEnc}
use Rattle.krb_exchange.specs.Layouts.{pa_enc_ts_enc_layout, kerb_pa_pac_request_layout}
use Rattle.sspi_core.specs.declared.cause.Cause.{Cause}
use Rattle.sspi_core.specs.declared.cause.Cause.TheVariants.{KeyLength}
use Rattle.sspi_core.specs.Checks.{Holds, Gives, ◌>>◌}
use Rattle.krb_requests.specs.Pieces.{sealed_under}

-- the request for a PAC: type 128
unfoldable pub pac_request : PaData
pac_request = record { padata_type = 0x00 ∷ 0x80 ∷ []; padata_value = spelling kerb_pa_pac_request_layout (record { include_pac = true }) }

-- the whole second of a moment, and its microseconds in four octets
abbrev pub timestamp : ℕ → PaEncTsEnc
timestamp moment = record { patimestamp = pos (moment / 1000000); pausec = Some (to_be_bytes w32 (moment % 1000000)) }

-- the time, sealed under the client's key: type 2, usage 1 (RFC 4120, sections 5.2.7.2 and 7.5.1)
unfoldable pub enc_timestamp : CipherSuite → List ℕ → ℕ → List ℕ → PaData
enc_timestamp suite key moment confounder = record {
  padata_type = 0x02 ∷ [];
  padata_value = spelling encrypted_data_layout (sealed_under suite key 1 confounder (spelling pa_enc_ts_enc_layout (timestamp moment)));
}

-- the PA-DATA of an AS-REQ without pre-authentication, and with it
abbrev pub plain_pa_datas : List PaData
plain_pa_datas = pac_request ∷ []

abbrev pub timed_pa_datas : CipherSuite → List ℕ → ℕ → List ℕ → List PaData
timed_pa_datas suite key moment confounder = enc_timestamp suite key moment confounder ∷ pac_request ∷ []

abbrev pub pa_datas : Bool → CipherSuite → List ℕ → ℕ → List ℕ → List PaData
pa_datas with_pre_auth suite key moment confounder = if with_pre_auth then timed_pa_datas suite key moment confounder else plain_pa_datas

-- the PA-DATA under any key: a key that encrypts the time is as long as the keys of its suite
unfoldable pub MakesPaDatas : Bool → CipherSuite → List ℕ → ℕ → List ℕ → Result (List PaData) Cause → Type 0
MakesPaDatas with_pre_auth suite key moment confounder = do
  Holds KeyLength (not with_pre_auth || length key == key_size suite)
  Gives (pa_datas with_pre_auth suite key moment confounder)
