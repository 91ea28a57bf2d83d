use Rattle.std.proofs.Common.{refl}
use Rattle.krb_sasl.specs.Clients.{Wishes}
use Rattle.krb_sasl.proofs.Chain.{stops}
use Rattle.krb_sasl.proofs.client.SaslClient.new.Goals as goal

pub returns-in-Err : goal.returns-in-Err
unfolding Wishes
returns-in-Err c = stops _ _ _ _ c.in-Err.ensures refl
