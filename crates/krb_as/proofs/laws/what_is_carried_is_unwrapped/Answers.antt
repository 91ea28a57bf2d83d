use Rattle.krb_as.proofs.Carrying.{unwrapped, unwrapped_udp}
use Rattle.krb_as.proofs.laws.what_is_carried_is_unwrapped.Goals as goal

pub returns : goal.returns
returns c = record { message = unwrapped; udp = unwrapped_udp }
