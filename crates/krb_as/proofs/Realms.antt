-- The realm of a KDC that is found is the one that was asked for, and can be sent.
use Rattle.std.proofs.Common.{◌≡◌, ℕ, ◌≤◌, ◌^◌, List, Option, Result, Ok, Err, sym, ap, subst}
use Rattle.std.specs.Prelude.{length}
use Rattle.url.specs.Parts.{Parts}
use Rattle.krb_conf.specs.declared.env.Env.{Env}
use Rattle.sspi_core.specs.declared.protocol.NetworkProtocol.{NetworkProtocol}
use Rattle.sspi_core.specs.Protocol.{scheme_of}
use Rattle.sspi_core.specs.declared.cause.Cause.{Cause}
use Rattle.sspi_core.specs.declared.cause.Cause.TheVariants.{Scheme}
use Rattle.sspi_core.specs.Checks.{Answers, Finds, Gives, Goes, Then}
use Rattle.krb_as.specs.declared.kdc.Kdc.{Kdc}
use Rattle.krb_as.specs.Kdcs.{FindsKdc}
use Rattle.krb_as.specs.declared.asker.Asker.{Asker}
use Rattle.krb_as.specs.declared.as_phase.AsPhase.{AsPhase}
use Rattle.krb_as.specs.declared.as_phase.AsPhase.TheVariants.{AwaitsError, AwaitsAsRep}
use Rattle.krb_as.specs.AsPhases.{IsAwaiting, kdc_of}

same_ok : {A : Type 0} (x y : A) → ◌≡◌ {A = Result A Cause} (Ok x) (Ok y) → x ≡ y
same_ok x y e = cc

-- after a refusal no KDC is found
behind_protocol : (url : Parts) (realm : List ℕ) (m : Result NetworkProtocol Cause) (kdc : Kdc)
    → Goes (λ protocol. Gives (record { protocol = protocol; url = url; realm = realm })) m (Ok kdc) → kdc.realm ≡ realm
behind_protocol url realm (Ok protocol) kdc h = ap (λ (k : Kdc). k.realm) (same_ok kdc _ h.is)
behind_protocol url realm (Err e) kdc h = absurd cc

behind_url : (realm : List ℕ) (m : Result Parts Cause) (kdc : Kdc)
    → Goes (λ (url : Parts) (answer : Result Kdc Cause). Then (λ (r : Result NetworkProtocol Cause). Finds Scheme (λ (protocol : NetworkProtocol). url.scheme ≡ scheme_of protocol) r) (λ (protocol : NetworkProtocol). Gives (record { protocol = protocol; url = url; realm = realm })) answer) m (Ok kdc)
    → kdc.realm ≡ realm
behind_url realm (Ok url) kdc h = behind_protocol url realm h.middle kdc h.rest
behind_url realm (Err e) kdc h = absurd cc

module _ (own : Option Parts) (env : Env) (realm : List ℕ) where
  pub found_realm : (kdc : Kdc) → FindsKdc own env realm (Ok kdc) → kdc.realm ≡ realm
  unfolding FindsKdc
  found_realm kdc h = behind_url realm h.middle kdc h.rest

  pub short_realm : (kdc : Kdc) → Answers (FindsKdc own env realm) (Ok kdc) → length realm ≤ 2 ^ 24 → length kdc.realm ≤ 2 ^ 24
  short_realm kdc h short = subst (λ (r : List ℕ). length r ≤ 2 ^ 24) (sym (found_realm kdc (h.so (λ z. absurd cc)))) short

-- so is that of a phase that waits
pub short_kdc : (asker : Asker) (phase : AsPhase) → IsAwaiting asker phase → length (kdc_of phase).realm ≤ 2 ^ 24
short_kdc asker (AwaitsError kdc body) waits = waits.1
short_kdc asker (AwaitsAsRep sealed) waits = waits.realm
