use Rattle.krb_crypto.specs.Sealed.{sealed}
use Rattle.krb_crypto.proofs.SealedLemmas.{is_sealed, sealed_once}
use Rattle.krb_crypto.proofs.laws.what_was_sealed_is_opened.Goals as goal

pub returns : goal.returns
returns c = λ suite key usage confounder plain size octets. (
  is_sealed suite key usage confounder plain size octets,
  λ other h. sealed_once suite key usage (sealed suite key usage confounder plain) other plain h (is_sealed suite key usage confounder plain size octets),
)
