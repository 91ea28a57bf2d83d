use Rattle.std.proofs.Common.{ap}
use Rattle.krb_context.specs.ServiceKeys.{service_key}
use Rattle.krb_context.proofs.laws.service_keys_go_by_components.Goals as goal

pub returns : goal.returns
returns c = λ server one other same. ap (service_key server) same
